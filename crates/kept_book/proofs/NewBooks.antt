-- A workbook that holds nothing. Serves the making of a workbook.
use Rattle.std.proofs.Common.{◌≡◌, ◌∙◌, sym, ap, refl, ℕ, [], Option, Some, None, option_map}
use Rattle.std.proofs.lemmas.Option.{none-some}
use Rattle.std.specs.FinMap as fin
use Rattle.std.specs.FinMap.{get-empty}
use Rattle.std.specs.Prelude.{option_and_then}
use Rattle.grid_store.specs.Grid.{cells_of}
use Rattle.grid_store.specs.declared.cell.Cell.{Cell}
use Rattle.grid_store.specs.declared.grid.Grid.{Grid}
use Rattle.lazy_store.specs.Store.{at_in}
use Rattle.lazy_store.specs.declared.lazy.Lazy.{Lazy}
use Rattle.name_table.specs.Listed.{listed}
use Rattle.name_table.specs.Named.{names_of, words_of}
use Rattle.name_table.specs.Scopes.{key_cmp, key_of}
use Rattle.name_table.specs.declared.names.Names.{Names}
use Rattle.book_values.specs.Names.{Key}
use Rattle.book_model.specs.Names as names_order
use Rattle.book_model.specs.Workbook.{Workbook}
use Rattle.kept_book.specs.Frame.{Stands, book_at, named_at, names_seen, numbered_at}
use Rattle.kept_book.proofs.Contents.{contents_none, stands_nothing}
use Rattle.kept_book.proofs.NamesSeen.{get-seen, number_of, same_names}
use Rattle.kept_book.proofs.ShiftedBooks.{frame_with}

abbrev nothing : Workbook
nothing = record { sheets = []; cells = fin.empty; names = fin.empty }

module _ (lazy : Lazy) (grid : Grid Cell) (names : Names) (cells : cells_of grid ≡ fin.empty) (ids : names_of names ≡ fin.empty) where
  none-seen : names_seen (words_of names) (named_at (at_in lazy) lazy.line.cursor) (names_of names) ≡ fin.empty
  none-seen = same_names _ _ (λ q.
      get-seen (words_of names) names.words.proper (named_at (at_in lazy) lazy.line.cursor) (names_of names) q ∙ go q (number_of (words_of names) q.word) ∙ sym (get-empty names_order.key_cmp q))
    where
      go : (q : Key) (r : Option ℕ) → option_map (named_at (at_in lazy) lazy.line.cursor) (option_and_then (λ n. fin.get (names_of names) (key_of q.scope n)) r) ≡ None
      go q None = refl
      go q (Some n) = ap (option_map (named_at (at_in lazy) lazy.line.cursor)) (ap (λ m. fin.get m (key_of q.scope n)) ids ∙ get-empty key_cmp (key_of q.scope n))

  pub new-book : listed names ≡ [] → book_at (at_in lazy) (words_of names) (frame_with lazy grid names) ≡ nothing
  new-book sheets =
      let contents = contents_none (numbered_at (at_in lazy) lazy.line.cursor) (cells_of grid) cells in
      let seen = none-seen in
      λ i. record { sheets = sheets i; cells = contents i; names = seen i }

  pub new-stands : Stands (at_in lazy) (words_of names) (frame_with lazy grid names)
  new-stands = record {
    cells = stands_nothing (numbered_at (at_in lazy) lazy.line.cursor) (cells_of grid) cells;
    names = λ key id is. absurd (none-some id (sym (ap (λ m. fin.get m key) ids ∙ get-empty key_cmp key) ∙ is));
  }
