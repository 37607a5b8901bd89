use Rattle.std.proofs.Common.{ℕ, ◌+◌, ◌*◌, ◌≤◌, drop, take}
use Rattle.formula_tree.specs.Reference.{base_of, corner_at}
use Rattle.formula_tree.specs.Relative.{relative, relative_list}
use Rattle.formula_tree.specs.Term.{depth_of, depth_of_all, each_corner_all}
use Rattle.run_walk.specs.internal.Freed.{AllFit, NoneLosesOfAll}
use Rattle.run_walk.proofs.Arguments.{all_at}
use Rattle.run_walk.proofs.free.+free.Given as goal

abbrev pub decreases-free_of : goal.decreases-free_of
decreases-free_of g l = 2 * depth_of (relative l.tree.now)

abbrev pub decreases-free_of_all : goal.decreases-free_of_all
decreases-free_of_all g l = 2 * depth_of_all (relative_list l.list.now) + 1

-- of no more operations than are left nothing is lost of any argument where nothing is lost of those to come, which fit too
abbrev pub invariant-free_of_all-arguments : goal.invariant-free_of_all-arguments
invariant-free_of_all-arguments g l = record {
  within : l.free ≤ l.count;
  fits : AllFit (all_at l.home (drop l.argument-index l.argument-items));
  free : (n : ℕ) → n ≤ l.free → NoneLosesOfAll (take n (g.W.Way.shifts l.way)) (all_at l.home (drop l.argument-index l.argument-items)) → NoneLosesOfAll (take n (g.W.Way.shifts l.way)) (each_corner_all (corner_at (base_of l.home)) (relative_list l.list));
}
