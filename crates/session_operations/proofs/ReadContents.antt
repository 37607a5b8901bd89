-- What a cell holds by the tree of its formula, and without one. Serves the reads of formulas, contents and links.
use Rattle.std.proofs.Common.{◌≡◌, ◌∙◌, sym, ap, refl, false, Option, Some, None, option_map, List, ℕ}
use Rattle.std.proofs.lemmas.Option.{none-some, same_Some}
use Rattle.std.specs.FinMap as fin
use Rattle.cell_addr.specs.declared.place.Place.{Place}
use Rattle.formula_tree.specs.Proper.{IsProper}
use Rattle.formula_tree.specs.Term.{Term}
use Rattle.formula_tree.specs.declared.reference.Corner.{Corner}
use Rattle.grid_store.specs.declared.cell.Cell.{Cell}
use Rattle.grid_store.specs.declared.cell.Cell.TheVariants as cell
use Rattle.shift_core.specs.Maps.{PlaceMap}
use Rattle.book_values.specs.Book.{Content, number, truth, text, formula, unreadable}
use Rattle.book_values.specs.Workbook.{content_tree}
use Rattle.book_model.specs.Content.{content_shown, formula_shown, tree_shown}
use Rattle.book_model.specs.Sound.{IsSound}
use Rattle.book_model.specs.Workbook.{State}
use Rattle.kept_book.proofs.Contents.{get-contents}
use Rattle.kept_book.specs.Numbered.{Numbered}
use Rattle.kept_book.specs.Stored.{content_of, contents_of, tree_of}
use Rattle.session_operations.specs.internal.Contents.{holds_formula}

-- a content that has a tree is the formula of it
pub is-formula : (o : Option Content) (t : Term Corner) → Some t ≡ content_tree o → o ≡ Some (formula t)
is-formula None t e = absurd (none-some t (sym e))
is-formula (Some (number m)) t e = absurd (none-some t (sym e))
is-formula (Some (truth b)) t e = absurd (none-some t (sym e))
is-formula (Some (text w)) t e = absurd (none-some t (sym e))
is-formula (Some (formula u)) t e = ap (λ x. Some (formula x)) (sym (same_Some t u e))
is-formula (Some (unreadable w)) t e = absurd (none-some t (sym e))

-- so its texts are those of the tree
pub read-text : (sheets : List (ℕ × List ℕ)) (sheet : ℕ) (o : Option Content) (t : Term Corner) → Some t ≡ content_tree o → Some (tree_shown sheets sheet t) ≡ formula_shown sheets sheet o
read-text sheets sheet o t e = ap (formula_shown sheets sheet) (sym (is-formula o t e))

pub read-content : (sheets : List (ℕ × List ℕ)) (sheet : ℕ) (o : Option Content) (t : Term Corner) → Some t ≡ content_tree o → tree_shown sheets sheet t ≡ content_shown sheets sheet o
read-content sheets sheet o t e = ap (content_shown sheets sheet) (sym (is-formula o t e))

-- and the tree is proper in a sound session
pub read-proper : (d : State) (at : Place) (t : Term Corner) → IsSound d → Some t ≡ content_tree (fin.get d.book.cells at) → IsProper t
read-proper d at t sound e = (sound.book.cells at (formula t) (is-formula (fin.get d.book.cells at) t e)).2.0

-- where a content has no tree the cell holds no formula
pub no-formula : (stands : Numbered) (cells : PlaceMap Cell) (at : Place) → content_tree (fin.get (contents_of stands cells) at) ≡ None → holds_formula (fin.get cells at) ≡ false
no-formula stands cells at none = by (fin.get cells at) (sym (ap content_tree (get-contents stands cells at)) ∙ none)
  where
    by : (r : Option Cell) → content_tree (option_map (content_of stands) r) ≡ None → holds_formula r ≡ false
    by None e = refl
    by (Some (cell.Number m)) e = refl
    by (Some (cell.Truth b)) e = refl
    by (Some (cell.Text w)) e = refl
    by (Some (cell.Formula n)) e = absurd (none-some (tree_of (stands n)) (sym e))
    by (Some (cell.Broken w)) e = refl
