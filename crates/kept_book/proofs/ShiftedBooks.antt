-- The kept workbook after a structural operation. Serves structural operations.
use Rattle.std.proofs.Common.{◌≡◌, ◌∙◌, sym, ap, subst, ◌+◌, ◌≤◌, cond, None}
use Rattle.std.specs.FinMap as fin
use Rattle.std.specs.Prelude.{slice_get}
use Rattle.grid_store.specs.Grid.{cells_of}
use Rattle.grid_store.specs.declared.cell.Cell.{Cell}
use Rattle.grid_store.specs.declared.grid.Grid.{Grid}
use Rattle.lazy_store.proofs.Lines.{IsPushed, is-pushed}
use Rattle.lazy_store.specs.Store.{at_in}
use Rattle.lazy_store.specs.declared.lazy.Lazy.{Lazy}
use Rattle.name_table.specs.Listed.{listed}
use Rattle.name_table.specs.Named.{names_of, words_of}
use Rattle.name_table.specs.declared.key.NameKey.{NameKey}
use Rattle.name_table.specs.declared.names.Names.{Names}
use Rattle.shift_core.specs.Form.{form_of}
use Rattle.shift_core.specs.Maps.{AreInside, lost_entries, moved_map}
use Rattle.shift_core.specs.Sound.{IsSound}
use Rattle.shift_core.specs.declared.shift.Shift.{Shift}
use Rattle.shift_line.specs.Track.{last, pushed, shift_at, with_spare}
use Rattle.book_model.specs.Changes.{sheets_left, shifted}
use Rattle.kept_book.specs.Change.{AreKnown, Change, HaveSlots, Joins, id_stays, names_with, sheets_with}
use Rattle.kept_book.specs.Frame.{Frame, Stands, book_at, numbered_at}
use Rattle.kept_book.specs.Kept.{KeepsUpTo}
use Rattle.kept_book.specs.internal.Dropped.{PushesOn, ids_left}
use Rattle.kept_book.proofs.Joining.{shift-joins}
use Rattle.kept_book.proofs.Moving.{moved-book, moved-stands}
use Rattle.kept_book.proofs.NamesLeft.{get-left, left-back, left-known}
use Rattle.kept_book.proofs.ShiftedContents.{cells_inside}

abbrev pub frame_with : Lazy → Grid Cell → Names → Frame
frame_with lazy grid names = record { position = lazy.line.cursor; cells = cells_of grid; sheets = listed names; names = names_of names }

module _ (s : Shift) (lazy lazy2 : Lazy) (grid grid2 : Grid Cell) (names names2 : Names) (sound : IsSound s) (from : lazy.line.first ≤ lazy.line.cursor) (within : lazy.line.cursor ≤ last lazy.line)
    (inside : AreInside (book_at (at_in lazy) (words_of names) (frame_with lazy grid names)).cells) (stand : Stands (at_in lazy) (words_of names) (frame_with lazy grid names))
    (line : lazy2.line ≡ with_spare lazy2.line.spare (pushed s lazy.line)) (pushes : PushesOn s lazy.line.cursor lazy lazy2) (cells : cells_of grid2 ≡ moved_map s (cells_of grid))
    (sheets : listed names2 ≡ sheets_left (form_of s) (listed names)) (left : names_of names2 ≡ names_with (λ x. x.1) (ids_left (form_of s) (names_of names)) (names_of names)) (words : words_of names2 ≡ words_of names) where
  is-on : IsPushed s lazy.line lazy2.line
  is-on = subst (IsPushed s lazy.line) (sym line) (is-pushed lazy2.line.spare s lazy.line from within)

  next-position : lazy2.line.cursor ≡ lazy.line.cursor + 1
  next-position = ap (λ t. t.cursor) line

  gone : (key : NameKey) → fin.get (names_of names2) key ≡ cond (id_stays (form_of s) key) (fin.get (names_of names) key) None
  gone key = ap (λ m. fin.get m key) left ∙ get-left (form_of s) (names_of names) key

  -- it shows the workbook after the operation
  pub shifted-book : book_at (at_in lazy2) (words_of names2) (frame_with lazy2 grid2 names2) ≡ shifted s (book_at (at_in lazy) (words_of names) (frame_with lazy grid names))
  shifted-book =
      ap (λ w. book_at (at_in lazy2) w (frame_with lazy2 grid2 names2)) words
      ∙ moved-book s (frame_with lazy grid names) (frame_with lazy2 grid2 names2) (at_in lazy) (at_in lazy2) (words_of names) names.words.proper pushes.next sound inside stand next-position cells sheets gone

  pub shifted-stands : Stands (at_in lazy2) (words_of names2) (frame_with lazy2 grid2 names2)
  shifted-stands = subst (λ w. Stands (at_in lazy2) w (frame_with lazy2 grid2 names2)) (sym words)
      (moved-stands s (frame_with lazy grid names) (frame_with lazy2 grid2 names2) (at_in lazy) (at_in lazy2) (words_of names) names.words.proper pushes.next sound inside stand next-position cells sheets gone)

  pub shifted-keeps : KeepsUpTo lazy.line.cursor (shift_at lazy.line) (shift_at lazy2.line) (at_in lazy) (at_in lazy2) (words_of names) (words_of names2)
  shifted-keeps = record {
    below = is-on.before;
    stays = λ id j x upto is. pushes.before id j upto ∙ is;
    known = λ i w is. ap (λ ws. slice_get ws i) words ∙ is;
  }

  module _ (c : Change) (start : c.from ≡ lazy.line.cursor) (end : c.to ≡ c.from + 1) (replaced : c.replaced ≡ lost_entries s (cells_of grid)) (ids : c.names ≡ ids_left (form_of s) (names_of names))
      (sheets_forth : sheets_with (λ x. x.1) c.sheets (listed names) ≡ listed names2) (sheets_back : sheets_with (λ x. x.0) c.sheets (listed names2) ≡ listed names)
      (returns : HaveSlots (λ x. x.0) c.sheets (listed names2)) (repeats : HaveSlots (λ x. x.1) c.sheets (listed names)) where
    names_forth : names_with (λ x. x.1) c.names (names_of names) ≡ names_of names2
    names_forth = ap (λ l. names_with (λ x. x.1) l (names_of names)) ids ∙ sym left

    names_back : names_with (λ x. x.0) c.names (names_of names2) ≡ names_of names
    names_back =
        ap (λ l. names_with (λ x. x.0) l (names_of names2)) ids ∙ ap (names_with (λ x. x.0) (ids_left (form_of s) (names_of names))) left ∙ left-back (form_of s) (names_of names)

    known : AreKnown (words_of names2) c.names
    known = subst (λ w. AreKnown w c.names) (sym words) (subst (AreKnown (words_of names)) (sym ids) (left-known (words_of names) (form_of s) (names_of names) (λ key id is. (stand.names key id is).known)))

    pub shifted-joins : Joins (shift_at lazy2.line) (words_of names2) c (frame_with lazy grid names) (frame_with lazy2 grid2 names2)
    shifted-joins = shift-joins (shift_at lazy2.line) (words_of names2) s c (frame_with lazy grid names) (frame_with lazy2 grid2 names2) start end next-position is-on.here sound
        (cells_inside (numbered_at (at_in lazy) lazy.line.cursor) (cells_of grid) inside) replaced cells sheets_forth sheets_back names_forth names_back returns repeats known
        (record { position = next-position; sheets = sheets; names = gone })
