-- Shared trees by their kinds of nodes, in a formula at a home. Serves the look ahead over a run.
use Rattle.std.proofs.Common.{◌≡◌, ◌≢◌, ◌∙◌, sym, ap, subst, ℕ, ℤ, Bool, ◌⊎◌, inl, inr, List, Global, None}
use Rattle.cell_addr.specs.declared.axis.Axis.TheVariants.{Rows, Cols}
use Rattle.cell_value.specs.declared.fault.FaultKind.{FaultKind}
use Rattle.std.specs.declared.rc.Rc.{Rc}
use Rattle.formula_tree.proofs.RelativeNodes.{relative-Binary, relative-Call, relative-Paren}
use Rattle.formula_tree.specs.Reference.{base_of, corner_at}
use Rattle.formula_tree.specs.Relative.{relative, relative_list}
use Rattle.formula_tree.specs.StandsFor.{at_home}
use Rattle.formula_tree.specs.Term.{Term, area, whole, each_corner_all}
use Rattle.formula_tree.specs.Whole.{first_ref, last_ref}
use Rattle.formula_tree.specs.declared.node.Node.{Node}
use Rattle.formula_tree.specs.declared.node.Node.TheVariants as nodes
use Rattle.formula_tree.specs.declared.node.TreeList.{TreeList}
use Rattle.formula_tree.specs.declared.reference.Home.{Home}
use Rattle.formula_tree.specs.declared.reference.Part.{Part}
use Rattle.formula_tree.specs.declared.reference.Ref.{Ref}
use Rattle.formula_tree.specs.declared.reference.SheetPart.{SheetPart}
use Rattle.shift_core.specs.declared.shift.Shift.{Shift}
use Rattle.tree_rewrite.proofs.Walking as walking
use Rattle.tree_rewrite.specs.References.{FitsSheets}
use Rattle.run_walk.specs.Run.{AreSound, NoneLoses, place_over}
use Rattle.run_walk.specs.internal.Freed.{NoneLosesOfAll}
use Rattle.run_walk.proofs.Freeing as freeing

module _ (run : List Shift) (home : Home) (node : Node) where
  -- a node that is one of a kind, by its term
  of_kind : (m : Node) (t : Term Ref) → node ≡ m → relative m ≡ t → NoneLoses run (at_home home t) → NoneLoses run (at_home home (relative node))
  of_kind m t is seen free = subst (λ u. NoneLoses run (at_home home u)) (sym (ap relative is ∙ seen)) free

  pub node-number : (m : _) → node ≡ nodes.Number m → NoneLoses run (at_home home (relative node))
  node-number m is = of_kind (nodes.Number m) _ is (walking.relative-Number m) (freeing.free-number run m)

  pub node-text : (w : _) → node ≡ nodes.Text w → NoneLoses run (at_home home (relative node))
  node-text w is = of_kind (nodes.Text w) _ is (walking.relative-Text w) (freeing.free-text run w)

  pub node-truth : (b : _) → node ≡ nodes.Truth b → NoneLoses run (at_home home (relative node))
  node-truth b is = of_kind (nodes.Truth b) _ is (walking.relative-Truth b) (freeing.free-truth run b)

  pub node-fault : (f : _) → node ≡ nodes.Fault f → NoneLoses run (at_home home (relative node))
  node-fault f is = of_kind (nodes.Fault f) _ is (walking.relative-Fault f) (freeing.free-fault run f)

  pub node-name : (w : _) → node ≡ nodes.Name w → NoneLoses run (at_home home (relative node))
  node-name w is = of_kind (nodes.Name w) _ is (walking.relative-Name w) (freeing.free-name run w)

  pub node-leaf : ((m : ℤ) × (node ≡ nodes.Number m)) ⊎ (((w : List ℕ) × (node ≡ nodes.Text w)) ⊎ (((b : Bool) × (node ≡ nodes.Truth b)) ⊎ (((f : FaultKind) × (node ≡ nodes.Fault f)) ⊎ ((w : List ℕ) × (node ≡ nodes.Name w)))))
      → NoneLoses run (at_home home (relative node))
  node-leaf (inl it) = node-number it.0 it.1
  node-leaf (inr (inl it)) = node-text it.0 it.1
  node-leaf (inr (inr (inl it))) = node-truth it.0 it.1
  node-leaf (inr (inr (inr (inl it)))) = node-fault it.0 it.1
  node-leaf (inr (inr (inr (inr it)))) = node-name it.0 it.1

  pub node-cell : (r : Ref) → node ≡ nodes.Cell r → AreSound run → FitsSheets (at_home home (relative node)) → place_over run (corner_at (base_of home) r).at ≢ None → NoneLoses run (at_home home (relative node))
  node-cell r is sound fits some =
      let seen = ap relative is ∙ walking.relative-Cell r in
      of_kind (nodes.Cell r) _ is (walking.relative-Cell r) (freeing.free-cell run (corner_at (base_of home) r) sound (subst (λ u. FitsSheets (at_home home u)) seen fits) some)

  pub node-area : (r q : Ref) → node ≡ nodes.Area r q → NoneLoses run (area (corner_at (base_of home) r) (corner_at (base_of home) q)) → NoneLoses run (at_home home (relative node))
  node-area r q is free = of_kind (nodes.Area r q) _ is (walking.relative-Area r q) free

  pub node-rows : (sheet : SheetPart) (first last : Part) → node ≡ nodes.WholeRows sheet first last → NoneLoses run (whole Rows (corner_at (base_of home) (first_ref Rows sheet first)) (corner_at (base_of home) (last_ref Rows sheet last)))
      → NoneLoses run (at_home home (relative node))
  node-rows sheet first last is free = of_kind (nodes.WholeRows sheet first last) _ is (walking.relative-WholeRows sheet first last) free

  pub node-cols : (sheet : SheetPart) (first last : Part) → node ≡ nodes.WholeCols sheet first last → NoneLoses run (whole Cols (corner_at (base_of home) (first_ref Cols sheet first)) (corner_at (base_of home) (last_ref Cols sheet last)))
      → NoneLoses run (at_home home (relative node))
  node-cols sheet first last is free = of_kind (nodes.WholeCols sheet first last) _ is (walking.relative-WholeCols sheet first last) free

  pub node-prefix : (o : _) (part : Rc Node Global) → node ≡ nodes.Prefix o part → NoneLoses run (at_home home (relative part.value)) → NoneLoses run (at_home home (relative node))
  node-prefix o part is free = of_kind (nodes.Prefix o part) _ is (walking.relative-Prefix o part) (freeing.free-prefix run o (at_home home (relative part.value)) free)

  pub node-percent : (part : Rc Node Global) → node ≡ nodes.Percent part → NoneLoses run (at_home home (relative part.value)) → NoneLoses run (at_home home (relative node))
  node-percent part is free = of_kind (nodes.Percent part) _ is (walking.relative-Percent part) (freeing.free-percent run (at_home home (relative part.value)) free)

  pub node-paren : (part : Rc Node Global) → node ≡ nodes.Paren part → NoneLoses run (at_home home (relative part.value)) → NoneLoses run (at_home home (relative node))
  node-paren part is free = of_kind (nodes.Paren part) _ is (relative-Paren part) (freeing.free-paren run (at_home home (relative part.value)) free)

  pub node-binary : (o : _) (left right : Rc Node Global) → node ≡ nodes.Binary o left right → NoneLoses run (at_home home (relative left.value)) → NoneLoses run (at_home home (relative right.value))
      → NoneLoses run (at_home home (relative node))
  node-binary o left right is l r =
      of_kind (nodes.Binary o left right) _ is (relative-Binary o left right) (freeing.free-binary run o (at_home home (relative left.value)) (at_home home (relative right.value)) l r)

  pub node-call : (w : _) (list : TreeList) → node ≡ nodes.Call w list → NoneLosesOfAll run (each_corner_all (corner_at (base_of home)) (relative_list list)) → NoneLoses run (at_home home (relative node))
  node-call w list is free = of_kind (nodes.Call w list) _ is (relative-Call w list) (freeing.free-call run w (each_corner_all (corner_at (base_of home)) (relative_list list)) free)
