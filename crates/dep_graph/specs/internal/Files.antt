-- Filings of ranges, and what cells find by them.
use Rattle.std.specs.Prelude.{◌≡◌, ◌↔◌, ◌<◌, ◌≤◌, ◌==◌, ◌⊎◌, ◌&&◌, ◌||◌, ◌+◌, ◌-◌, ◌++◌, ℕ, Bool, true, List, Option, Some, None, length, map, nat_lt, if◌then◌else◌, IsTrue}
use Rattle.std.specs.List.{filter_map, list_any}
use Rattle.std.specs.declared.ops.Range.{Range}
use Rattle.block_slots.specs.Slots.{in_block}
use Rattle.cell_addr.specs.Place.{covers}
use Rattle.cell_addr.specs.declared.axis.Axis.{Axis}
use Rattle.cell_addr.specs.declared.axis.Axis.TheVariants.{Cols, Rows}
use Rattle.cell_addr.specs.declared.place.Block.{Block}
use Rattle.cell_addr.specs.declared.place.Place.{Place}
use Rattle.needs_order.specs.Needs.{has}
use Rattle.block_index.specs.Index.{filed_in, finds, slot_count, slots_of}
use Rattle.place_lines.specs.Moved.{is_known}
use Rattle.place_lines.specs.Spots.{spot_of}
use Rattle.place_lines.specs.declared.lines.PlaceLines.{PlaceLines}
use Rattle.place_lines.specs.declared.spot.LineSpot.{LineSpot}
use Rattle.dep_graph.specs.declared.files.Files.{Files}
use Rattle.dep_graph.specs.declared.node.Node.{Node}
use Rattle.dep_graph.specs.declared.node.Node.TheVariants as node
use Rattle.dep_graph.specs.declared.serving.Serving.{Serving}
use Rattle.dep_graph.specs.internal.Filings.{filing_of, is_since, owner_at, serves_at}
use Rattle.dep_graph.specs.internal.Wholes.{HoldsWhole, IsOnLines, finds_along, slots_along}

-- the number of a node, where the filing serves it at present
abbrev pub if_present : Files → ℕ → Option ℕ → Option ℕ
if_present files f (Some n) = if serves_at files.serves f && is_since f (filing_of files.current n) then Some n else None
if_present files f None = None

-- the node that the filing serves at present
abbrev pub owner_of : Files → ℕ → Option ℕ
owner_of files f = if_present files f (owner_at files.owners f)

-- the cell at a spot finds the filing, by its own slots or by those of its lines
abbrev pub finds_filing : Files → LineSpot → ℕ → Bool
finds_filing files spot f = finds files.index spot.sheet spot.row spot.col f || (finds_along Rows files.wholes spot f || finds_along Cols files.wholes spot f)

-- how many slots there are: those of whole ranges are numbered behind the others
abbrev pub slot_total : Files → ℕ
slot_total files = slot_count files.index + slot_count files.wholes

-- the slots of whole ranges along an axis that hold a spot, as they are numbered
abbrev pub slots_on : Files → Axis → LineSpot → List ℕ
slots_on files axis spot = map (λ s. slot_count files.index + s) (slots_along axis files.wholes spot)

-- the slots that hold a spot
abbrev pub slots_over : Files → LineSpot → List ℕ
slots_over files spot = (slots_of files.index spot.sheet spot.row spot.col ++ slots_on files Rows spot) ++ slots_on files Cols spot

-- the filings under a slot
abbrev pub filed_at : Files → ℕ → List ℕ
filed_at files s = if nat_lt s (slot_count files.index) then filed_in files.index s else filed_in files.wholes (s - slot_count files.index)

-- the cell at a spot finds the node: a filing under one of the cell's slots serves it at present
abbrev pub FindsNode : Files → ℕ → LineSpot → Type 0
FindsNode files n spot = IsTrue (list_any (λ s. has n (filter_map (owner_of files) (filed_at files s))) (slots_over files spot))

-- the filing is one of these of the node
abbrev pub IsServing : Files → ℕ → Serving → ℕ → Type 0
IsServing files n all f = (owner_at files.owners f ≡ Some n) × (all.first ≤ f) × ((f ≡ all.last) ⊎ (serves_at files.serves f ≡ true))

-- so are the first and the last of them
abbrev pub AreServing : Files → ℕ → Serving → Type 0
AreServing files n all = IsServing files n all all.first × IsServing files n all all.last

-- the cell at a spot finds the node by one of them
abbrev pub FindsBy : Files → ℕ → Serving → LineSpot → Type 0
FindsBy files n all spot = (f : ℕ) × IsServing files n all f × (finds_filing files spot f ≡ true)

-- the spot is that of a place of the block
abbrev pub HasSpot : PlaceLines → Block → LineSpot → Type 0
HasSpot lines b spot = (p : Place) × (covers b p ≡ true) × (spot_of lines p ≡ spot)

-- the spot is that of a place of the range, or on the lines of the whole range; what is no range has none
abbrev pub IsSpotOf : PlaceLines → Node → LineSpot → Type 0
IsSpotOf lines (node.Cell p) spot = ⊥
IsSpotOf lines (node.Name scope word) spot = ⊥
IsSpotOf lines (node.Range b) spot = HasSpot lines b spot
IsSpotOf lines (node.Whole w) spot = IsOnLines lines w spot

-- the spot is in a run of rows and a run of columns of a sheet, in a run of rows and one of the runs of columns, or in one
-- of the runs of rows and one of the runs of columns
abbrev pub in_run : ℕ → Range ℕ → Range ℕ → LineSpot → Bool
in_run sheet rows cols spot = spot.sheet == sheet && in_block rows cols spot.row spot.col

abbrev pub in_row : ℕ → Range ℕ → List (Range ℕ) → LineSpot → Bool
in_row sheet rows cols spot = list_any (λ run. in_run sheet rows run spot) cols

abbrev pub in_area : ℕ → List (Range ℕ) → List (Range ℕ) → LineSpot → Bool
in_area sheet rows cols spot = list_any (λ run. in_row sheet run cols spot) rows

-- what was found is found still, and besides only this filing, only at spots that pass the test
pub record FilesSpots (test : LineSpot → Type 0) (filing : ℕ) (old new : Files) : Type 0 where
  pub grows : (spot : LineSpot) (f : ℕ) → finds_filing old spot f ≡ true → finds_filing new spot f ≡ true
  pub only : (spot : LineSpot) (f : ℕ) → finds_filing new spot f ≡ true → (finds_filing old spot f ≡ true) ⊎ (test spot × (f ≡ filing))

-- the same by a test that can be computed
pub record FilesCells (test : LineSpot → Bool) (filing : ℕ) (old new : Files) : Type 0 where
  pub grows : (spot : LineSpot) (f : ℕ) → finds_filing old spot f ≡ true → finds_filing new spot f ≡ true
  pub only : (spot : LineSpot) (f : ℕ) → finds_filing new spot f ≡ true → (finds_filing old spot f ≡ true) ⊎ ((test spot ≡ true) × (f ≡ filing))

-- filings were added that serve no node, and those that there were are as they were
pub record FilesOn (old new : Files) : Type 0 where
  pub current : new.current ≡ old.current
  pub owners : (f : ℕ) → f < length old.owners.items → owner_at new.owners f ≡ owner_at old.owners f
  pub serves : (f : ℕ) → serves_at new.serves f ≡ serves_at old.serves f
  pub count : length old.owners.items ≤ length new.owners.items
  pub finds : (f : ℕ) → f < length old.owners.items → (spot : LineSpot) → finds_filing new spot f ≡ finds_filing old spot f

-- just the cells of the block pass the test; and what passes it is known to the lines, so that no line that comes in
-- later does
abbrev pub HoldsBlock : PlaceLines → (LineSpot → Type 0) → Block → Type 0
HoldsBlock lines test b = record {
  exact : (p : Place) → test (spot_of lines p) ↔ IsTrue (covers b p);
  known : (spot : LineSpot) → test spot → is_known lines spot ≡ true;
}

-- the same of a range and of a whole range; what is no range is held by no test
abbrev pub HoldsNode : PlaceLines → (LineSpot → Type 0) → Node → Type 0
HoldsNode lines test (node.Cell p) = ⊥
HoldsNode lines test (node.Name scope word) = ⊥
HoldsNode lines test (node.Range b) = HoldsBlock lines test b
HoldsNode lines test (node.Whole w) = HoldsWhole lines test w
