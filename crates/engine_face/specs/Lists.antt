-- Lists of rows that have texts: the cells of an area, and names. Source: this project's own.
use Rattle.std.specs.Prelude.{◌≡◌, ℕ, ◌+◌, ◌++◌, List, [], ◌∷◌, length, Option, None, Some, unwrap_or, Result, Ok, Err}
use Rattle.cell_addr.specs.declared.place.Block.{Block}
use Rattle.cell_addr.specs.declared.place.Place.{Place}
use Rattle.cell_addr.specs.declared.place.TheConstants.{NO_SHEET}
use Rattle.cell_value.specs.declared.scalar.Scalar.{Scalar}
use Rattle.cell_value.specs.declared.scalar.Scalar.TheVariants.{Text}
use Rattle.book_values.specs.Names.{key_of}
use Rattle.book_model.specs.Workbook.{State}
use Rattle.book_engine.specs.Areas.{entries_of, name_text_of}
use Rattle.book_engine.specs.Formulas.{names_used_of, normal_text_of}
use Rattle.book_engine.specs.NameEntry.{NameEntry}
use Rattle.book_engine.specs.Stop.{Stop}
use Rattle.book_engine.specs.Stop.TheVariants.{NoMemory}
use Rattle.area_reads.specs.Reads.{contents_in, values_in}
use Rattle.engine_face.specs.Links.{ListFits}
use Rattle.engine_face.specs.Shown.{shown_value, text_or_none, value_text}
use Rattle.engine_face.specs.Status.{status_of_stop}
use Rattle.engine_face.specs.declared.cells.CellList.{CellList}
use Rattle.engine_face.specs.declared.cells.CellRow.{CellRow}
use Rattle.engine_face.specs.declared.naming.NameList.{NameList}
use Rattle.engine_face.specs.declared.naming.NameRow.{NameRow}
use Rattle.engine_face.specs.declared.room.ListSizes.{ListSizes}
use Rattle.engine_face.specs.declared.status.Status.{Status}

-- a cell with a value as a row, whose text begins there among the texts
abbrev pub cell_row : ℕ → Place × Scalar → CellRow
cell_row start cell = record { row = cell.0.row; col = cell.0.col; shown = shown_value cell.1; text_start = start }

abbrev pub cell_rows : ℕ → List (Place × Scalar) → List CellRow
cell_rows start [] = []
cell_rows start (cell ∷ cells) = cell_row start cell ∷ cell_rows (start + length (value_text cell.1)) cells

-- the texts of cells, one after the other
abbrev pub cell_texts : List (Place × Scalar) → List ℕ
cell_texts [] = []
cell_texts (cell ∷ cells) = value_text cell.1 ++ cell_texts cells

-- a cell's content is told as a text
abbrev pub as_texts : List (Place × List ℕ) → List (Place × Scalar)
as_texts [] = []
as_texts (cell ∷ cells) = (cell.0, Text cell.1) ∷ as_texts cells

-- what the filled cells of a block show
abbrev pub value_rows : Block → State → List CellRow
value_rows area d = cell_rows 0 (values_in area d)

abbrev pub value_texts : Block → State → List ℕ
value_texts area d = cell_texts (values_in area d)

-- and the texts that give them their contents
abbrev pub content_rows : Block → State → List CellRow
content_rows area d = cell_rows 0 (as_texts (contents_in area d))

abbrev pub content_texts : Block → State → List ℕ
content_texts area d = cell_texts (as_texts (contents_in area d))

-- a name as a row, whose word begins there among the words
abbrev pub name_row : ℕ → NameEntry → NameRow
name_row start entry = record { scope = unwrap_or entry.scope NO_SHEET; word_start = start; word_length = length entry.name }

abbrev pub name_rows : ℕ → List NameEntry → List NameRow
name_rows start [] = []
name_rows start (entry ∷ entries) = name_row start entry ∷ name_rows (start + length entry.name) entries

-- the words of names, one after the other
abbrev pub name_words : List NameEntry → List ℕ
name_words [] = []
name_words (entry ∷ entries) = entry.name ++ name_words entries

-- words that no scope is told of
abbrev pub as_names : List (List ℕ) → List NameEntry
as_names [] = []
as_names (word ∷ words) = record { scope = None; name = word } ∷ as_names words

-- all names
abbrev pub all_rows : State → List NameRow
all_rows d = name_rows 0 (entries_of d.book)

abbrev pub all_words : State → List ℕ
all_words d = name_words (entries_of d.book)

-- the words that the formula of a text uses as names; none, where it isn't read
abbrev pub words_or_none : Option (List (List ℕ)) → List (List ℕ)
words_or_none None = []
words_or_none (Some words) = words

abbrev pub used_rows : ℕ → List ℕ → State → List NameRow
used_rows sheet text d = name_rows 0 (as_names (words_or_none (names_used_of d.book sheet text)))

abbrev pub used_words : ℕ → List ℕ → State → List ℕ
used_words sheet text d = name_words (as_names (words_or_none (names_used_of d.book sheet text)))

-- the text of a scope's own name, and the canonical text of a formula; no bytes where there is none
abbrev pub text_of_name : Option ℕ → List ℕ → State → List ℕ
text_of_name scope word d = text_or_none (name_text_of d.book (key_of scope word))

abbrev pub text_of_formula : ℕ → List ℕ → State → List ℕ
text_of_formula sheet text d = text_or_none (normal_text_of d.book sheet text)

-- how much room a list needs
abbrev pub list_sizes : {X : Type 0} → List X → List ℕ → ListSizes
list_sizes rows bytes = record { rows = length rows; bytes = length bytes }

-- what is written of cells, and of names
abbrev pub AreCells : List (Place × Scalar) → CellList → Type 0
AreCells cells list = (list.rows.items ≡ cell_rows 0 cells) × (list.texts.items ≡ cell_texts cells)

abbrev pub AreNames : List NameEntry → NameList → Type 0
AreNames entries list = (list.rows.items ≡ name_rows 0 entries) × (list.words.items ≡ name_words entries)

-- what is made of what the engine answered: where it stopped it is said why, and there may be no memory for it
abbrev pub Made : {X Y : Type 0} → (X → Y → Type 0) → Result X Stop → Result Y Stop → Type 0
Made Is (Ok x) (Ok y) = Is x y
Made Is (Ok x) (Err stop) = stop ≡ NoMemory
Made Is (Err stop) made = made ≡ Err stop

-- rows and bytes of the list that was made stand at the heads of the two rooms, or one of these has no place and both are as they
-- were; where there is no list it is said why, and they are so too
abbrev pub EndList : {X Y : Type 0} → (X → List Y) → (X → List ℕ) → Result X Stop → List Y → List Y → List ℕ → List ℕ → Status → Type 0
EndList rows bytes (Ok x) room room_new texts texts_new status = ListFits (rows x) (bytes x) room room_new texts texts_new status
EndList rows bytes (Err stop) room room_new texts texts_new status = (status ≡ status_of_stop stop) × (room_new ≡ room) × (texts_new ≡ texts)
