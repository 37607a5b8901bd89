-- What one operation changed: the part of a step by which it is taken back and done again.
-- Source: this project's own.
use Rattle.std.specs.Prelude.{◌≡◌, ⊤, ℕ, ◌+◌, ◌<◌, ◌≤◌, nat_lt, if◌then◌else◌, Bool, true, not, List, [], ◌∷◌, length, insert, map, Option, Some, None}
use Rattle.std.specs.FinMap as fin
use Rattle.cell_addr.specs.declared.place.Place.{Place}
use Rattle.formula_tree.specs.Links.{same_scope}
use Rattle.grid_store.specs.Grid.{with_entries, without_places}
use Rattle.grid_store.specs.declared.cell.Cell.{Cell}
use Rattle.name_table.specs.Scopes as table
use Rattle.name_table.specs.SheetLists.{CanJoin, left_in}
use Rattle.name_table.specs.declared.key.NameKey.{NameKey}
use Rattle.shift_core.specs.Form.{form_of}
use Rattle.shift_core.specs.Maps.{PlaceMap, moved_map, restored_map}
use Rattle.shift_core.specs.declared.form.Form.{Form}
use Rattle.shift_core.specs.declared.form.Form.TheVariants as form
use Rattle.shift_core.specs.declared.shift.Shift.{Shift}
use Rattle.book_model.specs.Changes.{sheets_left}
use Rattle.kept_book.specs.Frame.{Frame, Line, Words}

-- a sheet's place in the list and its name; none where it isn't listed
abbrev pub SheetSlot : Type 0
SheetSlot = Option (ℕ × List ℕ)

-- the positions before and after; the cells that were replaced or removed, as of the first, and those that were
-- written, as of the second; names with their ids before and after, and sheets with their places and names
pub record Change : Type 0 where
  pub from : ℕ
  pub to : ℕ
  pub replaced : List (Place × Cell)
  pub written : List (Place × Cell)
  pub names : List (NameKey × (Option ℕ × Option ℕ))
  pub sheets : List (ℕ × (SheetSlot × SheetSlot))

-- the operation of a change that has one
abbrev pub shift_of : Line → Change → Option Shift
shift_of line c = if nat_lt c.from c.to then line c.from else None

abbrev pub places_of : List (Place × Cell) → List Place
places_of cells = map (λ e. e.0) cells

-- the cells before a change, and after it: with an operation they move, and without one they are replaced
abbrev pub cells_before : Option Shift → Change → PlaceMap Cell → PlaceMap Cell
cells_before None c m = with_entries c.replaced (without_places (places_of c.written) m)
cells_before (Some s) c m = restored_map s c.replaced m

abbrev pub cells_after : Option Shift → Change → PlaceMap Cell → PlaceMap Cell
cells_after None c m = with_entries c.written (without_places (places_of c.replaced) m)
cells_after (Some s) c m = moved_map s m

-- the names where this one has this id, or there is none
abbrev pub with_id : NameKey → Option ℕ → table.NameMap → table.NameMap
with_id = table.with_holder

-- the names with what one side of the changes says, before or after
abbrev pub names_with : (Option ℕ × Option ℕ → Option ℕ) → List (NameKey × (Option ℕ × Option ℕ)) → table.NameMap → table.NameMap
names_with side [] names = names
names_with side (c ∷ cs) names = with_id c.0 (side c.1) (names_with side cs names)

-- the list where the sheet stands at this place with this name, or isn't listed
abbrev pub with_slot : ℕ → SheetSlot → List (ℕ × List ℕ) → List (ℕ × List ℕ)
with_slot id None sheets = left_in id sheets
with_slot id (Some (index, name)) sheets = insert (left_in id sheets) index (id, name)

-- the sheets with what one side of the changes says
abbrev pub sheets_with : (SheetSlot × SheetSlot → SheetSlot) → List (ℕ × (SheetSlot × SheetSlot)) → List (ℕ × List ℕ) → List (ℕ × List ℕ)
sheets_with side [] sheets = sheets
sheets_with side (c ∷ cs) sheets = with_slot c.0 (side c.1) (sheets_with side cs sheets)

-- the frame before a change, from the one after it
abbrev pub back : Line → Change → Frame → Frame
back line c f = record { position = c.from; cells = cells_before (shift_of line c) c f.cells; sheets = sheets_with (λ x. x.0) c.sheets f.sheets; names = names_with (λ x. x.0) c.names f.names }

-- the frame after a change, from the one before it
abbrev pub forth : Line → Change → Frame → Frame
forth line c f = record { position = c.to; cells = cells_after (shift_of line c) c f.cells; sheets = sheets_with (λ x. x.1) c.sheets f.sheets; names = names_with (λ x. x.1) c.names f.names }

-- a sheet can come to this place with this name: no other has its number or, folded, the name
abbrev pub HasSlot : ℕ → SheetSlot → List (ℕ × List ℕ) → Type 0
HasSlot id None sheets = ⊤
HasSlot id (Some (index, name)) sheets = CanJoin id name (left_in id sheets) × (index ≤ length (left_in id sheets))

-- so can each sheet of the changes, on one side of them
abbrev pub HaveSlots : (SheetSlot × SheetSlot → SheetSlot) → List (ℕ × (SheetSlot × SheetSlot)) → List (ℕ × List ℕ) → Type 0
HaveSlots side [] sheets = ⊤
HaveSlots side (c ∷ cs) sheets = HasSlot c.0 (side c.1) (sheets_with side cs sheets) × HaveSlots side cs sheets

-- the words of the names are known
abbrev pub AreKnown : Words → List (NameKey × (Option ℕ × Option ℕ)) → Type 0
AreKnown words [] = ⊤
AreKnown words (c ∷ cs) = (c.0.word < length words) × AreKnown words cs

-- a name stays over an operation unless its sheet is dropped
abbrev pub id_stays : Form → NameKey → Bool
id_stays (form.Sheet dropped) key = not (same_scope key.scope (Some dropped))
id_stays _ key = true

-- an operation leads from a frame to one at the next position, with the sheets and the names that it leaves
pub record LeadsBy (s : Shift) (f g : Frame) : Type 0 where
  pub position : g.position ≡ f.position + 1
  pub sheets : g.sheets ≡ sheets_left (form_of s) f.sheets
  pub names : (key : NameKey) → fin.get g.names key ≡ (if id_stays (form_of s) key then fin.get f.names key else None)

-- a change joins two frames: each is what it makes of the other. What it lists can be put back and done again. Where it has an
-- operation, it is that operation and nothing else
pub record Joins (line : Line) (words : Words) (c : Change) (f g : Frame) : Type 0 where
  pub before : back line c g ≡ f
  pub after : forth line c f ≡ g
  pub order : c.from ≤ c.to
  pub operation : (s : Shift) → shift_of line c ≡ Some s → LeadsBy s f g
  pub returns : HaveSlots (λ x. x.0) c.sheets g.sheets
  pub repeats : HaveSlots (λ x. x.1) c.sheets f.sheets
  pub known : AreKnown words c.names
