use Rattle.std.proofs.lemmas.List.Elements.{recursion_from_All}
use Rattle.std.proofs.lemmas.Result.{on_ok_weaker}
use Rattle.cell_addr.specs.Place.{IsInside}
use Rattle.grid_store.specs.Grid.{items_of}
use Rattle.grid_store.proofs.Drafts.{draft_kept}
use Rattle.grid_store.proofs.draft.Draft.exchange.Goals as goal

pub replace-requires : goal.replace-requires
replace-requires _ c = recursion_from_All (λ e. IsInside e.0) (items_of c.args.placed) c.requires

pub returns-clause-of : goal.returns-clause-of
returns-clause-of _ c = on_ok_weaker c.replace.result (λ made g of. draft_kept g c.args.self.now c.replace.new.self c.replace.ensures.base of) c.replace.ensures.ok
