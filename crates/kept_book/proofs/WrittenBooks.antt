-- The kept workbook after cells were emptied and given something else. Serves the calls that set, clear and paste cells.
use Rattle.std.proofs.Common.{◌≡◌, ◌∙◌, sym, ap, subst, ℕ, ◌≤◌, List, [], map, Some, option_map}
use Rattle.std.specs.FinMap as fin
use Rattle.std.specs.List.{All}
use Rattle.cell_addr.specs.declared.place.Place.{Place}
use Rattle.clip_board.specs.declared.clip.CopyItem.{CopyItem}
use Rattle.grid_store.specs.Grid.{cells_of, with_entries, without_places}
use Rattle.grid_store.specs.declared.cell.Cell.{Cell}
use Rattle.grid_store.specs.declared.cell.Cell.TheVariants as cell
use Rattle.grid_store.specs.declared.grid.Grid.{Grid}
use Rattle.lazy_store.specs.Standing.{Standing}
use Rattle.lazy_store.specs.Store.{at_in}
use Rattle.lazy_store.specs.declared.lazy.Lazy.{Lazy}
use Rattle.name_table.specs.Listed.{listed}
use Rattle.name_table.specs.Named.{names_of, words_of}
use Rattle.name_table.specs.declared.names.Names.{Names}
use Rattle.shift_line.specs.Track.{shift_at}
use Rattle.kept_book.specs.Change.{AreKnown, Change, HaveSlots, Joins, names_with, places_of, sheets_with}
use Rattle.kept_book.specs.Copied.{IsCopied, entry_copied}
use Rattle.kept_book.specs.Frame.{Frame, Stands, book_at, named_at, names_seen, numbered_at, tree_named}
use Rattle.kept_book.specs.Ids.{AreBelow}
use Rattle.kept_book.specs.Kept.{KeepsUpTo}
use Rattle.kept_book.specs.internal.Cells.{cells_given, trees_given, with_cells, with_given}
use Rattle.kept_book.specs.internal.Writing.{AreReplaced, Inserts, under_id}
use Rattle.kept_book.proofs.Inserted.{inserted-numbered, inserted-stays}
use Rattle.kept_book.proofs.Joining.{plain-joins}
use Rattle.kept_book.proofs.ShiftedBooks.{frame_with}
use Rattle.kept_book.proofs.Staying.{names-stay, same-number, same-there, stays-stand}
use Rattle.kept_book.proofs.Written.{replaced-given, stood_given, written-contents, written-stand}

module _ (lazy mid lazy2 : Lazy) (grid grid2 : Grid Cell) (names : Names) (n : ℕ) (items : List (Place × CopyItem)) (replaced : List (Place × Cell)) (all : All IsCopied items)
    (stand : Stands (at_in lazy) (words_of names) (frame_with lazy grid names)) (below : AreBelow n mid) (cursors : mid.line.cursor ≡ lazy.line.cursor) (same : (id j : ℕ) → at_in mid id j ≡ at_in lazy id j)
    (comes : Inserts n (trees_given items) mid lazy2) (cells : cells_of grid2 ≡ with_entries (cells_given n items) (without_places (places_of replaced) (cells_of grid))) where
  stays : (id j : ℕ) (x : Standing) → at_in lazy id j ≡ Some x → at_in lazy2 id j ≡ Some x
  stays id j x is = inserted-stays n (trees_given items) mid lazy2 comes below id j x (same id j ∙ is)

  abbrev written : Frame
  written = record {
    position = lazy.line.cursor;
    cells = with_entries (cells_given n items) (without_places (places_of replaced) (cells_of grid));
    sheets = listed names;
    names = names_of names;
  }

  position : lazy2.line.cursor ≡ lazy.line.cursor
  position = ap (λ t. t.cursor) comes.line ∙ cursors

  is-written : written ≡ frame_with lazy2 grid2 names
  is-written i = record { position = sym position i; cells = sym cells i; sheets = listed names; names = names_of names }

  from : (id : ℕ) → n ≤ id → numbered_at (at_in lazy2) lazy.line.cursor id ≡ option_map stood_given (under_id n (trees_given items) id)
  from id l = ap (λ k. numbered_at (at_in lazy2) k id) (sym cursors) ∙ inserted-numbered n (trees_given items) mid lazy2 comes below id l

  old-number : (q : Place) (id : ℕ) → fin.get (cells_of grid) q ≡ Some (cell.Formula id) → numbered_at (at_in lazy2) lazy.line.cursor id ≡ numbered_at (at_in lazy) lazy.line.cursor id
  old-number = same-number (frame_with lazy grid names) (at_in lazy) (at_in lazy2) (words_of names) (words_of names) names.words.proper names.words.proper (λ i w is. is) (λ id x is. stays id lazy.line.cursor x is) stand

  old-names : names_seen (words_of names) (named_at (at_in lazy2) lazy.line.cursor) (names_of names) ≡ names_seen (words_of names) (named_at (at_in lazy) lazy.line.cursor) (names_of names)
  old-names = names-stay (words_of names) (words_of names) names.words.proper names.words.proper (λ i w is. is) (names_of names) (named_at (at_in lazy) lazy.line.cursor) (named_at (at_in lazy2) lazy.line.cursor)
      (λ key id is. (
        ap tree_named (same-there (frame_with lazy grid names) (at_in lazy) (at_in lazy2) (words_of names) (words_of names) names.words.proper names.words.proper (λ i w h. h) (λ j x h. stays j lazy.line.cursor x h) stand key id is),
        (stand.names key id is).known,
      ))

  -- it shows what was given, in place of what was replaced
  pub written-book : book_at (at_in lazy2) (words_of names) (frame_with lazy2 grid2 names)
      ≡ with_cells (with_given (map entry_copied items) (without_places (places_of replaced) (book_at (at_in lazy) (words_of names) (frame_with lazy grid names)).cells)) (book_at (at_in lazy) (words_of names) (frame_with lazy grid names))
  written-book =
      let contents = written-contents (numbered_at (at_in lazy) lazy.line.cursor) (numbered_at (at_in lazy2) lazy.line.cursor) items n (places_of replaced) (cells_of grid) all from stand.cells old-number in
      ap (book_at (at_in lazy2) (words_of names)) (sym is-written) ∙ (λ i. record { sheets = listed names; cells = contents i; names = old-names i })

  pub written-stands : Stands (at_in lazy2) (words_of names) (frame_with lazy2 grid2 names)
  written-stands =
      let others = stays-stand (frame_with lazy grid names) (at_in lazy) (at_in lazy2) (words_of names) (words_of names) names.words.proper names.words.proper (λ i w is. is) (λ id x is. stays id lazy.line.cursor x is) stand in
      subst (Stands (at_in lazy2) (words_of names)) is-written (record {
        cells = written-stand (numbered_at (at_in lazy) lazy.line.cursor) (numbered_at (at_in lazy2) lazy.line.cursor) items n (places_of replaced) (cells_of grid) all from stand.cells old-number;
        names = others.names;
      })

  pub written-keeps : (line : lazy2.line.shifts ≡ lazy.line.shifts) → (first : lazy2.line.first ≡ lazy.line.first)
      → KeepsUpTo lazy.line.cursor (shift_at lazy.line) (shift_at lazy2.line) (at_in lazy) (at_in lazy2) (words_of names) (words_of names)
  written-keeps line first = record {
    below = λ j l i. shift_at (record { shifts = line i; first = first i; cursor = lazy.line.cursor; spare = lazy.line.spare }) j;
    stays = λ id j x l is. stays id j x is;
    known = λ i w is. is;
  }

  pub written-joins : (c : Change) → c.from ≡ lazy.line.cursor → c.to ≡ c.from → c.replaced ≡ replaced → c.written ≡ cells_given n items → c.names ≡ [] → c.sheets ≡ []
      → AreReplaced (cells_of grid) replaced (map (λ e. e.0) items) → Joins (shift_at lazy2.line) (words_of names) c (frame_with lazy grid names) (frame_with lazy2 grid2 names)
  written-joins c start end was now no_names no_sheets fair =
      plain-joins (shift_at lazy2.line) (words_of names) c (frame_with lazy grid names) (frame_with lazy2 grid2 names) start end position
      (subst (λ l. AreReplaced (cells_of grid) l (places_of c.written)) (sym was) (replaced-given (cells_of grid) n replaced items c.written now fair))
      (cells ∙ (λ i. with_entries (sym now i) (without_places (places_of (sym was i)) (cells_of grid))))
      (sym (ap (λ l. sheets_with (λ x. x.1) l (listed names)) no_sheets)) (ap (λ l. sheets_with (λ x. x.0) l (listed names)) no_sheets)
      (sym (ap (λ l. names_with (λ x. x.1) l (names_of names)) no_names)) (ap (λ l. names_with (λ x. x.0) l (names_of names)) no_names)
      (subst (λ l. HaveSlots (λ x. x.0) l (listed names)) (sym no_sheets) tt) (subst (λ l. HaveSlots (λ x. x.1) l (listed names)) (sym no_sheets) tt)
      (subst (AreKnown (words_of names)) (sym no_names) tt)
