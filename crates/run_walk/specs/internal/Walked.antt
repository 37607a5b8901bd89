-- References, blocks and whole ranges of a formula over a run of operations, in either direction, as they are seen from the
-- homes at its ends.
use Rattle.std.specs.Prelude.{ℕ, ◌≤◌, List, length, Option}
use Rattle.cell_addr.specs.declared.axis.Axis.{Axis}
use Rattle.cell_addr.specs.declared.place.Block.{Block}
use Rattle.cell_addr.specs.declared.place.Place.{Place}
use Rattle.formula_tree.specs.Reference.{IsHomeInside, base_of, block_of, corner_at}
use Rattle.formula_tree.specs.StandsFor.{from_home}
use Rattle.formula_tree.specs.Term.{Term}
use Rattle.formula_tree.specs.declared.reference.Corner.{Corner}
use Rattle.formula_tree.specs.declared.reference.Home.{Home}
use Rattle.formula_tree.specs.declared.reference.Ref.{Ref}
use Rattle.shift_core.specs.declared.shift.Shift.{Shift}
use Rattle.run_walk.specs.Run.{AreSound, area_back, area_over, home_back, home_over, place_back, place_over, tree_back, tree_over}
use Rattle.tree_rewrite.specs.declared.direction.Direction.{Direction}
use Rattle.tree_rewrite.specs.declared.direction.Direction.TheVariants.{Forward, Backward}
use Rattle.tree_rewrite.specs.References.{IsAreaInside, IsReferenceInside}
use Rattle.tree_rewrite.specs.Rewritten.{area_at, cell_at}

-- where the operations take a place, a block or a whole range as its block, a home and a tree, in a direction
abbrev pub place_along : Direction → List Shift → Place → Option Place
place_along Forward = place_over
place_along Backward = place_back

abbrev pub area_along : Direction → List Shift → Option Axis → Block → Option Block
area_along Forward = area_over
area_along Backward = area_back

abbrev pub home_along : Direction → List Shift → Home → Option Home
home_along Forward = home_over
home_along Backward = home_back

abbrev pub tree_along : Direction → List Shift → Term Corner → Term Corner
tree_along Forward = tree_over
tree_along Backward = tree_back

-- the operations are sound, so many are walked over, and the home behind those and the reference, block or whole range in
-- front of them lie within the limits of a sheet
abbrev pub TakesCell : List Shift → ℕ → Home → Home → Ref → Type 0
TakesCell run count from to r = AreSound run × (count ≤ length run) × IsHomeInside to × IsReferenceInside (corner_at (base_of from) r)

abbrev pub TakesArea : List Shift → ℕ → Home → Home → Option Axis → Ref → Ref → Type 0
TakesArea run count from to lines r q = AreSound run × (count ≤ length run) × IsHomeInside to × IsAreaInside lines (corner_at (base_of from) r) (corner_at (base_of from) q)

-- what a reference becomes, and a block or a whole range
abbrev pub cell_walked : Direction → List Shift → Home → Home → Ref → Term Ref
cell_walked d run from to r = let c = corner_at (base_of from) r in from_home to (cell_at c (place_along d run c.at))

abbrev pub area_walked : Direction → List Shift → Home → Home → Option Axis → Ref → Ref → Term Ref
area_walked d run from to lines r q =
    let c = corner_at (base_of from) r in let e = corner_at (base_of from) q in from_home to (area_at lines c e (area_along d run lines (block_of c e)))
