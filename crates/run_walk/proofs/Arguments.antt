-- The arguments of a call, looked at one after the other. Serves the look ahead over a run.
use Rattle.std.proofs.Common.{◌≡◌, sym, subst, arith, ℕ, ◌+◌, ◌<◌, ◌≤◌, List, length, get_or, take, drop, Global}
use Rattle.std.specs.declared.rc.Rc.{Rc}
use Rattle.formula_tree.proofs.Once.{drop-item}
use Rattle.formula_tree.specs.Reference.{base_of, corner_at}
use Rattle.formula_tree.specs.StandsFor.{at_home}
use Rattle.formula_tree.specs.Term.{Terms, each_corner_all}
use Rattle.formula_tree.specs.declared.node.Node.{Node}
use Rattle.formula_tree.specs.declared.reference.Corner.{Corner}
use Rattle.formula_tree.specs.declared.reference.Home.{Home}
use Rattle.shift_core.specs.declared.shift.Shift.{Shift}
use Rattle.tree_rewrite.specs.References.{FitsSheets}
use Rattle.tree_rewrite.specs.internal.Walk.{term_of, terms_in}
use Rattle.run_walk.specs.Run.{NoneLoses}
use Rattle.run_walk.specs.internal.Freed.{AllFit, NoneLosesOfAll}
use Rattle.run_walk.proofs.Freeing.{free-fewer, free-term}

-- shared trees as the arguments of a call in a formula at the home
abbrev pub all_at : Home → List (Rc Node Global) → Terms Corner
all_at home items = each_corner_all (corner_at (base_of home)) (terms_in items)

module _ (home : Home) (items : List (Rc Node Global)) (i : ℕ) (item : Rc Node Global) (there : i < length items) (is : item ≡ get_or items i item) where
  -- those from one on are it and those behind it
  pub fits-next : AllFit (all_at home (drop i items)) → FitsSheets (at_home home (term_of item)) × AllFit (all_at home (drop (i + 1) items))
  fits-next fit = let both = subst (λ xs. AllFit (all_at home xs)) (drop-item items i item there is) fit in (both.0, both.1)

  -- nothing is lost of those from it on where nothing is lost of it and of those behind it
  pub free-next : (run : List Shift) (whole : Terms Corner) (m n k : ℕ) → m ≤ n → k ≤ m → ((j : ℕ) → j ≤ n → NoneLosesOfAll (take j run) (all_at home (drop i items)) → NoneLosesOfAll (take j run) whole)
      → NoneLoses (take m run) (at_home home (term_of item)) → NoneLosesOfAll (take k run) (all_at home (drop (i + 1) items)) → NoneLosesOfAll (take k run) whole
  free-next run whole m n k le fewer before one rest =
      before k (omega (arith, le, fewer))
      (subst (λ xs. NoneLosesOfAll (take k run) (all_at home xs)) (sym (drop-item items i item there is))
      (free-term (take k run) (at_home home (term_of item)) (all_at home (drop (i + 1) items)) (free-fewer k m run (at_home home (term_of item)) fewer one) rest))
