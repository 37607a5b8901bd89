use Rattle.std.proofs.Common.{◌≡◌, None, drop}
use Rattle.grid_store.specs.internal.Listing.{rises}
use Rattle.grid_store.proofs.found.rises.Given as goal

-- whether all rise is whether those do that are left
abbrev pub invariant-loop-at : goal.invariant-loop-at
invariant-loop-at _ l = rises l.last (drop l.at-index l.cells) ≡ rises None l.cells
