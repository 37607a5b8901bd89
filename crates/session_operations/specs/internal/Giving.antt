-- Contents that are given to cells as they are, and how many cells are filled once texts are given to many.
use Rattle.std.specs.Prelude.{◌≡◌, ◌≢◌, ◌&&◌, ◌==◌, ◌+◌, ◌-◌, ℕ, Bool, true, false, not, nat_le, nat_lt, List, [], ◌∷◌, length, is_none, is_some}
use Rattle.std.specs.FinMap as map
use Rattle.cell_addr.specs.declared.place.Place.{Place}
use Rattle.book_values.specs.Book.{Book as Contents}
use Rattle.book_model.specs.Content.{content_of}
use Rattle.book_model.specs.Refusals.{Cause, is_outside}
use Rattle.book_model.specs.Workbook.{State, has_sheet}
use Rattle.book_model.specs.declared.content.ContentText.{ContentText}
use Rattle.book_model.specs.declared.content.ContentText.TheVariants as said
use Rattle.book_model.specs.declared.limits.TheConstants.{MAX_CELLS, MAX_TEXT}
use Rattle.book_model.specs.declared.refusal.Refusal.TheVariants.{NoSheet, Outside, CellLimit, TextLimit}

-- the text says this content, which isn't empty, and is too long to be given to a cell or isn't
pub record Says (given : ContentText) (long : Bool) (text : List ℕ) : Type 0 where
  pub content : content_of text ≡ given
  pub filled : given ≢ said.Clear
  pub size : nat_lt MAX_TEXT (length text) ≡ long

-- where a cell is given such a content
abbrev pub of_given : State → Place → Bool → List Cause
of_given d at long =
    (not (has_sheet d.book at.sheet), NoSheet)
    ∷ (is_outside at, Outside)
    ∷ (long, TextLimit)
    ∷ (is_none (map.get d.book.cells at) && nat_le MAX_CELLS (map.len d.book.cells), CellLimit)
    ∷ []

-- how many cells are filled after one, which was filled before or wasn't, was emptied or filled
abbrev pub counted : Bool → Bool → ℕ → ℕ
counted true true n = n - 1
counted true false n = n
counted false true n = n
counted false false n = n + 1

-- and after all of these, each of which another cell is given
abbrev pub counted_all : Contents → List (Place × List ℕ) → ℕ → ℕ
counted_all m [] n = n
counted_all m (e ∷ es) n = counted_all m es (counted (is_some (map.get m e.0)) (length e.1 == 0) n)
