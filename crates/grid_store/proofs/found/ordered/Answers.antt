use Rattle.std.proofs.Common.{◌∙◌, sym, ap, refl, None}
use Rattle.grid_store.specs.internal.Listing.{rises}
use Rattle.grid_store.proofs.FoundCells.{risen}
use Rattle.grid_store.proofs.found.ordered.Goals as goal

pub returns-then-rises : goal.returns-then-rises
returns-then-rises _ c = (λ q. refl, risen None c.args.found.items (ap (rises None) (sym c.deref.ensures.value) ∙ sym c.rises.ensures ∙ c.if-rises.true))
