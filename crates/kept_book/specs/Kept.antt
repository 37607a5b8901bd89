-- A workbook as it is kept: one store of formulas along a line, the cells, the sheets and the names. What its changes
-- make of it, and what they leave. Source: this project's own.
use Rattle.std.specs.Prelude.{◌≡◌, ◌≢◌, ℕ, ◌<◌, ◌≤◌, List, map, Option, None, Some, option_and_then, slice_get}
use Rattle.std.specs.FinMap as fin
use Rattle.cell_addr.specs.declared.place.Place.{Place}
use Rattle.formula_tree.specs.Term.{Term}
use Rattle.formula_tree.specs.declared.reference.Home.{Home}
use Rattle.formula_tree.specs.declared.reference.Ref.{Ref}
use Rattle.grid_store.specs.Grid.{cells_of, items_of}
use Rattle.grid_store.specs.declared.cell.Cell.{Cell}
use Rattle.grid_store.specs.declared.cell.Cell.TheVariants as cell
use Rattle.lazy_store.specs.Standing.{Standing}
use Rattle.lazy_store.specs.Store.{at_in, kept_in, stored_in}
use Rattle.name_table.specs.Listed.{listed}
use Rattle.name_table.specs.Named.{names_of, words_of}
use Rattle.name_table.specs.Scopes.{key_of}
use Rattle.name_table.specs.declared.key.NameKey.{NameKey}
use Rattle.shift_line.specs.Track.{shift_at, with_spare}
use Rattle.book_model.specs.Workbook.{Workbook}
use Rattle.kept_book.specs.Change.{Change, Joins, SheetSlot}
use Rattle.kept_book.specs.Frame.{At, Frame, Line, Stands, Words, stored_at}
use Rattle.kept_book.specs.Stored.{Stored, book_of}
use Rattle.kept_book.specs.declared.book.Book.{Book}
use Rattle.kept_book.specs.declared.part.NameChange.{NameChange}
use Rattle.kept_book.specs.declared.part.Part.{Part}
use Rattle.kept_book.specs.declared.part.SheetChange.{SheetChange}

abbrev pub frame_of : Book → Frame
frame_of b = record { position = b.lazy.line.cursor; cells = cells_of b.grid; sheets = listed b.names; names = names_of b.names }

abbrev pub line_of : Book → Line
line_of b = shift_at b.lazy.line

abbrev pub at_of : Book → At
at_of b = at_in b.lazy

-- as it is kept at the cursor, and the workbook that it shows
abbrev pub stored : Book → Stored
stored b = stored_at (at_of b) (words_of b.names) (frame_of b)

abbrev pub workbook : Book → Workbook
workbook b = book_of (stored b)

-- its formulas stand at their cells and names
abbrev pub IsStanding : Book → Type 0
IsStanding b = Stands (at_of b) (words_of b.names) (frame_of b)

-- what a part of a step says
abbrev pub name_change : NameChange → NameKey × (Option ℕ × Option ℕ)
name_change c = (key_of c.scope c.word, (c.before, c.after))

abbrev pub sheet_change : SheetChange → ℕ × (SheetSlot × SheetSlot)
sheet_change c = (c.id, (c.before, c.after))

abbrev pub change_of : Part → Change
change_of p = record {
  from = p.from;
  to = p.to;
  replaced = items_of p.replaced;
  written = items_of p.written;
  names = map name_change p.names.items;
  sheets = map sheet_change p.sheets.items;
}

abbrev pub changes_of : List Part → List Change
changes_of parts = map change_of parts

-- each of the words keeps its number
abbrev pub IsMore : Words → Words → Type 0
IsMore words more = (i : ℕ) (w : List ℕ) → slice_get words i ≡ Some w → slice_get more i ≡ Some w

-- the line below a position stays, each standing up to it, and each word
pub record KeepsUpTo (k : ℕ) (line two : Line) (old new : At) (words more : Words) : Type 0 where
  pub below : (j : ℕ) → j < k → two j ≡ line j
  pub stays : (id j : ℕ) (x : Standing) → j ≤ k → old id j ≡ Some x → new id j ≡ Some x
  pub known : IsMore words more

-- a change is made: it joins the frames, what was known up to the cursor stays, and the formulas stand
pub record Makes (old new : Book) (c : Change) : Type 0 where
  pub joins : Joins (line_of new) (words_of new.names) c (frame_of old) (frame_of new)
  pub keeps : KeepsUpTo old.lazy.line.cursor (line_of old) (line_of new) (at_of old) (at_of new) (words_of old.names) (words_of new.names)
  pub stand : IsStanding new

-- the workbook is as it was, at every position of the line; there may be more words
pub record SameBook (old new : Book) : Type 0 where
  pub frame : frame_of new ≡ frame_of old
  pub line : new.lazy.line ≡ with_spare new.lazy.line.spare old.lazy.line
  pub standings : (id k : ℕ) → at_of new id k ≡ at_of old id k
  pub known : IsMore (words_of old.names) (words_of new.names)

-- the id of a cell's formula
abbrev pub id_of : Option Cell → Option ℕ
id_of (Some (cell.Formula n)) = Some n
id_of _ = None

-- the formula of a cell as it is kept: as of which position, with home and tree as of that
abbrev pub stored_at_place : Book → Place → Option (ℕ × (Home × Term Ref))
stored_at_place b p = option_and_then (stored_in b.lazy) (id_of (fin.get (cells_of b.grid) p))

-- each formula but that of a cell is kept as it was
abbrev pub KeepsElsewhere : Place → Book → Book → Type 0
KeepsElsewhere p old new = (id : ℕ) → id_of (fin.get (cells_of old.grid) p) ≢ Some id → kept_in new.lazy id ≡ kept_in old.lazy id

-- and each but that of a name
abbrev pub KeepsOtherNames : NameKey → Book → Book → Type 0
KeepsOtherNames key old new = (id : ℕ) → fin.get (names_of old.names) key ≢ Some id → kept_in new.lazy id ≡ kept_in old.lazy id
