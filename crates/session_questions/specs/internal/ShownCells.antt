-- What listed cells hold and show in a workbook that has values.
use Rattle.std.specs.Prelude.{◌≡◌, ℕ, ℤ, List, map, Some}
use Rattle.std.specs.Borrow.{Bor}
use Rattle.std.specs.FinMap as fin
use Rattle.std.specs.List.{All}
use Rattle.cell_addr.specs.declared.place.Block.{Block}
use Rattle.cell_addr.specs.declared.place.Place.{Place}
use Rattle.cell_value.specs.declared.scalar.Scalar.{Scalar}
use Rattle.custom_fn.specs.declared.rule.Rule.{Rule}
use Rattle.grid_store.specs.declared.cell.Cell.{Cell}
use Rattle.book_values.specs.Values.{value_of}
use Rattle.book_values.specs.Workbook.{Workbook, place}
use Rattle.kept_book.specs.Numbered.{Numbered}
use Rattle.kept_book.specs.Stored.{content_of}
use Rattle.kept_steps.specs.Session.{state_of}
use Rattle.kept_steps.specs.declared.session.Session.{Session}
use Rattle.session_operations.specs.Following.{book_of}
use Rattle.session_questions.specs.Areas.{filled_in_block}

-- the workbook holds at the place what the kept cell holds
abbrev pub Holds : Numbered → Workbook → Place → Cell → Type 0
Holds stands b p cell = fin.get b.cells p ≡ Some (content_of stands cell)

-- and so at the place of each cell of a list
abbrev pub AreHeld : Numbered → Workbook → List (Place × Bor Cell) → Type 0
AreHeld stands b cells = All (λ e. Holds stands b e.0 e.1.now) cells

-- a listed cell's place with what it shows
abbrev pub shown_at : Workbook → List (List ℕ × Rule) → ℤ → Place × Bor Cell → Place × Scalar
shown_at b customs today e = (e.0, value_of b customs today (place e.0))

-- the filled places of a block with what they show in a session, with these custom functions, on this day
abbrev pub shown_within : Block → Session → List (List ℕ × Rule) → ℤ → List (Place × Scalar)
shown_within area s customs today = map (λ p. (p, value_of (book_of s) customs today (place p))) (filled_in_block area (state_of s).book)

-- listed cells' places with what they show
abbrev pub shown_each : Workbook → List (List ℕ × Rule) → ℤ → List (Place × Bor Cell) → List (Place × Scalar)
shown_each b customs today cells = map (shown_at b customs today) cells
