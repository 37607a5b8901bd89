use Rattle.std.proofs.Common.{◌∙◌, filter_map}
use Rattle.std.specs.FinMap as map
use Rattle.std.proofs.lemmas.List.Elements.{recursion_from_All}
use Rattle.std.proofs.lemmas.Result.{on_ok_weaker}
use Rattle.cell_addr.specs.Place.{IsInside}
use Rattle.shift_core.specs.Maps.{entry_before}
use Rattle.grid_store.specs.Draft.{drafted}
use Rattle.grid_store.specs.Grid.{items_of}
use Rattle.grid_store.proofs.Fills.{with_from}
use Rattle.grid_store.proofs.draft.Draft.put_back.Goals as goal

pub carry-requires-clause-inside : goal.carry-requires-clause-inside
carry-requires-clause-inside _ c = recursion_from_All (λ e. IsInside e.0) (items_of c.args.removed) c.requires.inside

pub returns-clause-restored : goal.returns-clause-restored
returns-clause-restored _ c =
    let m = drafted c.args.grid.now c.args.self.now in
    on_ok_weaker c.carry.result (λ h. h ∙ with_from (items_of c.args.removed) (filter_map (entry_before c.args.s.now) (map.entries m))) c.carry.ensures.carried
