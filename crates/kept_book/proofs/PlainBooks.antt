-- The kept workbook after one cell was given something that is no formula. Serves the calls that set a cell.
use Rattle.std.proofs.Common.{◌≡◌, ◌∙◌, ap, refl, arith, ℕ, List, [], ◌∷◌, Some, None}
use Rattle.std.proofs.lemmas.List.Elements.{All-cons}
use Rattle.std.specs.FinMap as fin
use Rattle.std.specs.List.{All}
use Rattle.cell_addr.specs.Place.{IsInside}
use Rattle.cell_addr.specs.declared.place.Place.{Place}
use Rattle.clip_board.specs.declared.clip.CopyItem.{CopyItem}
use Rattle.clip_board.specs.declared.clip.CopyItem.TheVariants as item
use Rattle.grid_store.specs.Grid.{cells_of, with_entries, without_places}
use Rattle.grid_store.specs.declared.cell.Cell.{Cell}
use Rattle.grid_store.specs.declared.grid.Grid.{Grid}
use Rattle.lazy_store.specs.Store.{at_in, kept_in}
use Rattle.lazy_store.specs.declared.lazy.Lazy.{Lazy}
use Rattle.name_table.specs.Named.{words_of}
use Rattle.name_table.specs.declared.names.Names.{Names}
use Rattle.shift_line.specs.Track.{shift_at}
use Rattle.kept_book.specs.Change.{Change, Joins, places_of}
use Rattle.kept_book.specs.Copied.{IsCopied, IsPlain}
use Rattle.kept_book.specs.Frame.{Stands, book_at, numbered_at}
use Rattle.kept_book.specs.Ids.{AreBelow}
use Rattle.kept_book.specs.Kept.{KeepsUpTo}
use Rattle.kept_book.specs.Stored.{content_of}
use Rattle.kept_book.specs.internal.Cells.{listed_at, with_cells, with_content_at}
use Rattle.kept_book.specs.internal.Writing.{Inserts}
use Rattle.kept_book.proofs.Inserted.{none-is}
use Rattle.kept_book.proofs.SetCells.{given-placed, one-replaced, placed-over}
use Rattle.kept_book.proofs.ShiftedBooks.{frame_with}
use Rattle.kept_book.proofs.WrittenBooks.{written-book, written-joins, written-keeps, written-stands}

module _ (lazy : Lazy) (grid grid2 : Grid Cell) (names : Names) (n : ℕ) (at : Place) (c : Cell) (inside : IsInside at) (plain : IsPlain c)
    (stand : Stands (at_in lazy) (words_of names) (frame_with lazy grid names)) (below : AreBelow n lazy) (cells : cells_of grid2 ≡ fin.insert (cells_of grid) at c) where
  abbrev items : List (Place × CopyItem)
  items = (at, item.Kept c) ∷ []

  abbrev replaced : List (Place × Cell)
  replaced = listed_at at (fin.get (cells_of grid) at)

  all : All IsCopied items
  all = All-cons IsCopied (at, item.Kept c) [] (inside, plain) (λ k d l. absurd (omega arith))

  there : All (λ e. e.0 ≡ at) items
  there = All-cons (λ e. e.0 ≡ at) (at, item.Kept c) [] refl (λ k d l. absurd (omega arith))

  comes : Inserts n [] lazy lazy
  comes = record { line = refl; below = λ id l. refl; from = λ id l. none-is (kept_in lazy id) (below id l) }

  exchanged : cells_of grid2 ≡ with_entries ((at, c) ∷ []) (without_places (places_of replaced) (cells_of grid))
  exchanged = cells ∙ placed-over (cells_of grid) at c

  -- it shows what was given
  pub plain-book : book_at (at_in lazy) (words_of names) (frame_with lazy grid2 names)
      ≡ with_content_at at (Some (content_of (λ k. None) c)) (book_at (at_in lazy) (words_of names) (frame_with lazy grid names))
  plain-book =
      let b = book_at (at_in lazy) (words_of names) (frame_with lazy grid names) in
      written-book lazy lazy lazy grid grid2 names n items replaced all stand below refl (λ id j. refl) comes exchanged
      ∙ ap (λ m. with_cells m b) (given-placed (numbered_at (at_in lazy) lazy.line.cursor) (cells_of grid) at (Some (content_of (λ k. None) c)))

  pub plain-stands : Stands (at_in lazy) (words_of names) (frame_with lazy grid2 names)
  plain-stands = written-stands lazy lazy lazy grid grid2 names n items replaced all stand below refl (λ id j. refl) comes exchanged

  pub plain-keeps : KeepsUpTo lazy.line.cursor (shift_at lazy.line) (shift_at lazy.line) (at_in lazy) (at_in lazy) (words_of names) (words_of names)
  plain-keeps = written-keeps lazy lazy lazy grid grid2 names n items replaced all stand below refl (λ id j. refl) comes exchanged refl refl

  pub plain-joined : (x : Change) → x.from ≡ lazy.line.cursor → x.to ≡ x.from → x.replaced ≡ replaced → x.written ≡ (at, c) ∷ [] → x.names ≡ [] → x.sheets ≡ []
      → Joins (shift_at lazy.line) (words_of names) x (frame_with lazy grid names) (frame_with lazy grid2 names)
  plain-joined x start end was now no_names no_sheets =
      written-joins lazy lazy lazy grid grid2 names n items replaced all stand below refl (λ id j. refl) comes exchanged x start end was now no_names no_sheets
      (one-replaced (cells_of grid) at items there)
