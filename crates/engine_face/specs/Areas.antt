-- What is asked of cells, areas and texts, as numbers and rows. Source: this project's own.
use Rattle.std.specs.Prelude.{◌≡◌, ℕ, List, map, Option, None, Some}
use Rattle.std.specs.FinMap as fin
use Rattle.cell_addr.specs.declared.place.Block.{Block}
use Rattle.cell_addr.specs.declared.place.Place.{Place}
use Rattle.formula_parse.specs.declared.wrong.TextSpan.{TextSpan}
use Rattle.book_model.specs.Workbook.{State, Workbook}
use Rattle.book_engine.specs.Areas.{IsUsedArea, cyclic_on_sheet, filled_in_block, filled_on_sheet, kind_of}
use Rattle.book_engine.specs.Formulas.{TellsWrong}
use Rattle.book_engine.specs.Kind.{Kind}
use Rattle.book_engine.specs.Kind.TheVariants as kind
use Rattle.engine_face.specs.declared.areas.PlaceRow.{PlaceRow}
use Rattle.engine_face.specs.declared.areas.UsedArea.{UsedArea}
use Rattle.engine_face.specs.declared.wrong.WrongPart.{WrongPart}

-- the number of a kind of content: that of the kind of value, where it is one
abbrev pub kind_number : Kind → ℕ
kind_number kind.Empty = 0
kind_number kind.Number = 1
kind_number kind.Text = 2
kind_number kind.Truth = 3
kind_number kind.Formula = 5
kind_number kind.Unreadable = 6

-- that of a cell's content
abbrev pub kind_at : Place → State → ℕ
kind_at at d = kind_number (kind_of (fin.get d.book.cells at))

-- places of one sheet as rows
abbrev pub place_row : Place → PlaceRow
place_row p = record { row = p.row; col = p.col }

abbrev pub place_rows : List Place → List PlaceRow
place_rows places = map place_row places

-- the filled places of a block, and those of a sheet
abbrev pub rows_in_block : Block → State → List PlaceRow
rows_in_block area d = place_rows (filled_in_block area d.book)

abbrev pub rows_on_sheet : ℕ → State → List PlaceRow
rows_on_sheet sheet d = place_rows (filled_on_sheet sheet d.book)

-- and those of a sheet that are on a cycle
abbrev pub rows_on_cycle : ℕ → State → List PlaceRow
rows_on_cycle sheet d = place_rows (cyclic_on_sheet sheet d)

-- a used area as numbers
abbrev pub used_row : Option Block → UsedArea
used_row None = record { is_used = 0; top = 0; left = 0; bottom = 0; right = 0 }
used_row (Some area) = record { is_used = 1; top = area.top; left = area.left; bottom = area.bottom; right = area.right }

-- these numbers say how far a sheet is used
abbrev pub SaysUsed : ℕ → Workbook → UsedArea → Type 0
SaysUsed sheet b used = (area : Option Block) × IsUsedArea sheet b area × (used ≡ used_row area)

-- a part of a text as numbers, or that there is none
abbrev pub wrong_row : Option TextSpan → WrongPart
wrong_row None = record { is_wrong = 0; start = 0; length = 0 }
wrong_row (Some span) = record { is_wrong = 1; start = span.at; length = span.length }

-- these numbers say where a text goes wrong
abbrev pub SaysWrong : List ℕ → WrongPart → Type 0
SaysWrong text told = (found : Option TextSpan) × TellsWrong text found × (told ≡ wrong_row found)
