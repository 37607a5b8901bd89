-- A workbook that stays as it was, though formulas of it were taken to the cursor. Serves the copy of cells.
use Rattle.std.proofs.Common.{◌≡◌, ◌∙◌, sym, ap, subst, refl, Option, Some, None}
use Rattle.std.proofs.lemmas.Option.{none-some, same_Some}
use Rattle.std.specs.FinMap as fin
use Rattle.cell_addr.specs.declared.place.Place.{Place}
use Rattle.book_values.specs.Book.{Content, formula, number, text, truth, unreadable}
use Rattle.book_values.specs.Workbook.{content_tree}
use Rattle.formula_tree.specs.Term.{Term}
use Rattle.formula_tree.specs.declared.reference.Corner.{Corner}
use Rattle.grid_store.specs.declared.cell.Cell.{Cell}
use Rattle.grid_store.specs.declared.cell.Cell.TheVariants as cell
use Rattle.name_table.specs.Named.{words_of}
use Rattle.shift_line.specs.Track.{with_spare}
use Rattle.kept_book.specs.Copied.{IsHeld, IsPlain}
use Rattle.kept_book.specs.Frame.{Stands, book_at}
use Rattle.kept_book.specs.Kept.{IsStanding, SameBook, at_of, frame_of, workbook}
use Rattle.kept_book.specs.Numbered.{Numbered}
use Rattle.kept_book.specs.Stored.{content_of}
use Rattle.kept_book.specs.declared.book.Book.{Book}
use Rattle.kept_book.proofs.Staying.{stays-book, stays-stand}

module _ (old new : Book) (same : SameBook old new) (stand : IsStanding old) where
  -- it shows what it showed
  pub same-workbook : workbook new ≡ workbook old
  same-workbook =
      ap (book_at (at_of new) (words_of new.names)) same.frame
      ∙ stays-book (frame_of old) (at_of old) (at_of new) (words_of old.names) (words_of new.names) old.names.words.proper new.names.words.proper same.known (λ id x is. same.standings id old.lazy.line.cursor ∙ is) stand

  pub same-standing : IsStanding new
  same-standing = subst (Stands (at_of new) (words_of new.names)) (sym same.frame)
      (stays-stand (frame_of old) (at_of old) (at_of new) (words_of old.names) (words_of new.names) old.names.words.proper new.names.words.proper same.known (λ id x is. same.standings id old.lazy.line.cursor ∙ is) stand)

  pub same-held : ((p : Place) (x : Content) → fin.get (workbook old).cells p ≡ Some x → IsHeld p x) → (p : Place) (x : Content) → fin.get (workbook new).cells p ≡ Some x → IsHeld p x
  same-held held p x is = held p x (sym (ap (λ b. fin.get b.cells p) same-workbook) ∙ is)

pub same-then : (a b c : Book) → SameBook a b → SameBook b c → SameBook a c
same-then a b c h g = record {
  frame = g.frame ∙ h.frame;
  line = g.line ∙ ap (with_spare c.lazy.line.spare) h.line;
  standings = λ id k. g.standings id k ∙ h.standings id k;
  known = λ i w is. g.known i w (h.known i w is);
}

-- a cell that has a tree holds its formula
pub tree-held : (r : Option Content) (t : Term Corner) → Some t ≡ content_tree r → r ≡ Some (formula t)
tree-held None t e = absurd (none-some t (sym e))
tree-held (Some (number m)) t e = absurd (none-some t (sym e))
tree-held (Some (truth b)) t e = absurd (none-some t (sym e))
tree-held (Some (text w)) t e = absurd (none-some t (sym e))
tree-held (Some (formula s)) t e = ap (λ u. Some (formula u)) (sym (same_Some t s e))
tree-held (Some (unreadable w)) t e = absurd (none-some t (sym e))

-- a cell without one holds no formula
pub plain-cell : (stands : Numbered) (c : Cell) → None ≡ content_tree (Some (content_of stands c)) → IsPlain c
plain-cell stands (cell.Number m) e = λ n same. cc
plain-cell stands (cell.Truth b) e = λ n same. cc
plain-cell stands (cell.Text w) e = λ n same. cc
plain-cell stands (cell.Formula k) e = cc
plain-cell stands (cell.Broken w) e = λ n same. cc

-- and its content is that of any numbering
pub plain-content : (one two : Numbered) (c : Cell) → IsPlain c → content_of one c ≡ content_of two c
plain-content one two (cell.Number m) h = refl
plain-content one two (cell.Truth b) h = refl
plain-content one two (cell.Text w) h = refl
plain-content one two (cell.Formula k) h = absurd (h k refl)
plain-content one two (cell.Broken w) h = refl
