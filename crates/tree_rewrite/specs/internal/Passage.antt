-- A formula's passage over a structural operation, in either direction.
use Rattle.std.specs.Prelude.{◌≡◌, Option, Some, None}
use Rattle.std.specs.declared.alloc.Global.{Global}
use Rattle.std.specs.declared.rc.Rc.{Rc}
use Rattle.cell_addr.specs.declared.axis.Axis.{Axis}
use Rattle.cell_addr.specs.declared.place.Place.{Place}
use Rattle.cell_addr.specs.declared.place.Block.{Block}
use Rattle.cell_addr.specs.Whole.{whole_block, whole_of}
use Rattle.formula_tree.specs.Reference.{IsHomeInside, block_of}
use Rattle.formula_tree.specs.Relative.{relative}
use Rattle.formula_tree.specs.StandsFor.{at_home, from_home}
use Rattle.formula_tree.specs.Term.{Term, Terms, cell, mapped_all, shaped}
use Rattle.formula_tree.specs.declared.node.Node.{Node}
use Rattle.formula_tree.specs.declared.reference.Corner.{Corner}
use Rattle.formula_tree.specs.declared.reference.Home.{Home}
use Rattle.formula_tree.specs.declared.reference.Ref.{Ref}
use Rattle.shift_core.specs.Sound.{IsSound}
use Rattle.shift_core.specs.Tables.{place_after, place_before}
use Rattle.shift_core.specs.declared.shift.Shift.{Shift}
use Rattle.tree_rewrite.specs.References.{FitsSheets}
use Rattle.tree_rewrite.specs.Rewritten.{cell_at, area_at, area_after, area_before, placed_by, home_by}
use Rattle.tree_rewrite.specs.declared.direction.Direction.{Direction}
use Rattle.tree_rewrite.specs.declared.direction.Direction.TheVariants.{Forward, Backward}
use Rattle.tree_rewrite.specs.declared.passage.Passage.{Passage}

-- the arguments of a call, where rules for places, blocks and whole ranges put their references
abbrev pub all_placed_by : (Place → Option Place) → (Option Axis → Block → Option Block) → Terms Corner → Terms Corner
all_placed_by place area = mapped_all (λ c. cell_at c (place c.at)) (λ lines c d. area_at lines c d (area lines (block_of c d)))

-- the block of a whole range reaches from one end of the sheet to the other
abbrev pub IsFull : Option Axis → Block → Type 0
IsFull None b = Unit {0}
IsFull (Some axis) b = whole_block (whole_of axis b) ≡ b

-- where the operation takes a place, and a block or a whole range as its block, in a direction
abbrev pub place_in : Direction → Shift → Place → Option Place
place_in Forward s = place_after s
place_in Backward s = place_before s

abbrev pub area_in : Direction → Shift → Option Axis → Block → Option Block
area_in Forward s = area_after s
area_in Backward s = area_before s

-- where it takes a tree, the arguments of a call, and a home
abbrev pub tree_in : Direction → Shift → Term Corner → Term Corner
tree_in d s = placed_by (place_in d s) (area_in d s)

abbrev pub all_in : Direction → Shift → Terms Corner → Terms Corner
all_in d s = all_placed_by (place_in d s) (area_in d s)

abbrev pub home_in : Direction → Shift → Home → Option Home
home_in d s = home_by (place_in d s)

-- what a tree as seen from its home becomes over the passage to another home
unfoldable pub passed : Passage → Term Ref → Term Ref
passed p t = from_home p.to (tree_in p.direction p.shift (at_home p.from t))

-- the references, blocks and whole ranges of a tree in a formula at the home lie within the limits of a sheet
unfoldable pub Fits : Home → Term Ref → Type 0
Fits home t = FitsSheets (at_home home t)

-- the passage is over a sound operation to a home within the limits of a sheet, and so lies the reference, block or
-- whole range
abbrev pub IsTaken : Passage → Term Ref → Type 0
IsTaken p t = IsSound p.shift × IsHomeInside p.to × Fits p.from t

abbrev pub TakesCell : Passage → Ref → Type 0
TakesCell p r = IsTaken p (cell r)

abbrev pub TakesArea : Passage → Option Axis → Ref → Ref → Type 0
TakesArea p lines r q = IsTaken p (shaped lines r q)

-- what a reference becomes, and a block or a whole range
abbrev pub cell_passed : Passage → Ref → Term Ref
cell_passed p r = passed p (cell r)

abbrev pub area_passed : Passage → Option Axis → Ref → Ref → Term Ref
area_passed p lines r q = passed p (shaped lines r q)

-- what a shared tree becomes
abbrev pub tree_passed : Passage → Rc Node Global → Term Ref
tree_passed p tree = passed p (relative tree.value)

-- the arguments of a call come back from the operation
abbrev pub AllComeBack : Shift → Terms Corner → Type 0
AllComeBack s ts = all_placed_by (place_before s) (area_before s) (all_placed_by (place_after s) (area_after s) ts) ≡ ts
