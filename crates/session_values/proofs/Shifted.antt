-- What is kept of values follows over a structural operation. Serves what takes it along.
use Rattle.std.proofs.Common.{refl, false, List, Some}
use Rattle.shift_core.specs.declared.shift.Shift.{Shift}
use Rattle.dep_graph.specs.declared.node.Node.{Node}
use Rattle.kept_values.specs.Shifted.{FollowsOver}
use Rattle.kept_values.specs.declared.values.Values.{Values}
use Rattle.kept_values.proofs.Shifted.{numbered_after}
use Rattle.session_values.specs.Shifting.{FollowsShift}
use Rattle.session_values.proofs.Followed.{cells_follow}
use Rattle.session_values.proofs.MarkedCells.{untouched}

pub follows_shift : (s : Shift) (touched : List Node) (v w : Values) → FollowsOver s touched v w → FollowsShift s touched (Some v) (Some w)
follows_shift s touched v w over b c words more customs today inside after numbered now keeps has_touched known follows =
    cells_follow c c words more customs today (λ q. false) (Some w) (Some w) (numbered_after s b c words after numbered) now keeps (untouched (λ q. false) (Some w)) refl (λ q out. refl)
    (over b c words customs today inside after numbered has_touched known follows)
