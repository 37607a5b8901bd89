use Rattle.std.proofs.Common.{◌≡◌, ◌∙◌, ◌+◌, ◌≤◌, sym, ap, subst, refl, arith, ℕ, map, is_some}
use Rattle.std.specs.List.{All}
use Rattle.std.specs.Prelude.{option_and_then}
use Rattle.cell_addr.specs.Place.{IsInside}
use Rattle.grid_store.specs.Grid.{cells_of}
use Rattle.lazy_store.specs.Standing.{after}
use Rattle.lazy_store.specs.Store.{at_in, kept_in}
use Rattle.name_table.specs.Listed.{listed}
use Rattle.name_table.specs.Named.{names_of, words_of}
use Rattle.shift_core.specs.Form.{form_of}
use Rattle.shift_line.specs.Track.{last, pushed, with_spare}
use Rattle.book_model.specs.Changes.{sheets_left}
use Rattle.kept_book.specs.Change.{HaveSlots, names_with, sheets_with}
use Rattle.kept_book.specs.Frame.{numbered_at}
use Rattle.kept_book.specs.Kept.{name_change, sheet_change}
use Rattle.kept_book.specs.internal.Dropped.{AreGone, PushesOn, ids_left}
use Rattle.kept_book.proofs.Emptying.{lost_inside}
use Rattle.kept_book.proofs.Inserted.{none-live}
use Rattle.kept_book.proofs.NamesLeft.{left-gone}
use Rattle.kept_book.proofs.ShiftedBooks.{shifted-book, shifted-joins, shifted-keeps, shifted-stands}
use Rattle.kept_book.proofs.ShiftedContents.{cells_inside}
use Rattle.kept_book.proofs.book.Book.shift.Goals as goal

pub leave_names-requires : goal.leave_names-requires
leave_names-requires c =
    subst AreGone (sym (ap (map name_change) c.deref.ensures.value ∙ c.in_ok-names.ensures)) (left-gone (form_of c.args.s.now) (names_of c.args.self.now.names))

pub invariant_of-self-2 : goal.invariant_of-self-2
invariant_of-self-2 c = record {
  fresh = λ id from.
      ap is_some
      (c.push.ensures.fewer id
      (c.reserve.ensures.kept id
      ∙ none-live (kept_in c.return_born.new.self id) (kept_in c.args.self.now.lazy id) (c.return_born.ensures.standings.live id) (c.args.self.now.fresh id from)));
  live = c.push.ensures.live (λ id e. c.args.self.now.live id (sym (c.reserve.ensures.standings.live id ∙ c.return_born.ensures.standings.live id) ∙ e));
}

pub invariant_of-result : goal.invariant_of-result
invariant_of-result c =
    let cells = cells_of c.args.self.now.grid in
    let inside = cells_inside (numbered_at (at_in c.args.self.now.lazy) c.args.self.now.lazy.line.cursor) cells c.requires.inside in
    record {
      replaced_inside = subst (All (λ e. IsInside e.0)) (sym c.in_ok-replaced.ensures.removed) (lost_inside c.args.s.now cells inside);
      written_inside = subst (All (λ e. IsInside e.0)) (sym c.in_ok-written.ensures) (λ k d l. absurd (omega arith));
    }

-- what is known once the sheet is out
module _ (c : goal.After-result-1) where
  cursors : c.reserve.new.self.line.cursor ≡ c.args.self.now.lazy.line.cursor
  cursors = ap (λ t. t.cursor) c.reserve.ensures.line ∙ ap (λ t. t.cursor) c.return_born.ensures.line

  standings : (id j : ℕ) → at_in c.reserve.new.self id j ≡ at_in c.args.self.now.lazy id j
  standings id j = c.reserve.ensures.standings.at id j ∙ c.return_born.ensures.standings.at id j

  from : c.args.self.now.lazy.line.first ≤ c.args.self.now.lazy.line.cursor
  from = subst (λ t. t.first ≤ t.cursor) c.line.ensures (subst (λ n. c.line.result.now.first ≤ n) c.cursor-from.ensures.result c.cursor-from.ensures.first)

  within : c.args.self.now.lazy.line.cursor ≤ last c.args.self.now.lazy.line
  within = subst (λ t. t.cursor ≤ last t) c.line.ensures (subst (λ n. n ≤ last c.line.result.now) c.cursor-from.ensures.result c.cursor-from.ensures.last)

  line : c.push.new.lazy.line ≡ with_spare c.push.new.lazy.line.spare (pushed c.args.s.now c.args.self.now.lazy.line)
  line =
      c.push.ensures.line ∙ ap (λ t. with_spare c.push.new.lazy.line.spare (pushed c.args.s.now t)) c.reserve.ensures.line
      ∙ ap (λ t. with_spare c.push.new.lazy.line.spare (pushed c.args.s.now t)) c.return_born.ensures.line

  pushes : PushesOn c.args.s.now c.args.self.now.lazy.line.cursor c.args.self.now.lazy c.push.new.lazy
  pushes = record {
    before = λ id j l. c.push.ensures.standings.before id j (subst (λ n. j ≤ n) (sym cursors) l) ∙ standings id j;
    next = λ id.
        ap (λ n. at_in c.push.new.lazy id (n + 1)) (sym cursors) ∙ c.push.ensures.standings.next id
        ∙ ap (option_and_then (after c.args.s.now)) (standings id c.reserve.new.self.line.cursor) ∙ ap (λ n. option_and_then (after c.args.s.now) (at_in c.args.self.now.lazy id n)) cursors;
  }

  sheets : listed c.leave_sheet-sheets.new.names ≡ sheets_left (form_of c.args.s.now) (listed c.args.self.now.names)
  sheets = c.leave_sheet-sheets.ensures.sheets ∙ ap (sheets_left (form_of c.args.s.now)) c.leave_names.ensures.sheets

  left : names_of c.leave_sheet-sheets.new.names ≡ names_with (λ x. x.1) (ids_left (form_of c.args.s.now) (names_of c.args.self.now.names)) (names_of c.args.self.now.names)
  left =
      c.leave_sheet-sheets.ensures.names.1 ∙ c.leave_names.ensures.names
      ∙ ap (λ l. names_with (λ x. x.1) l (names_of c.args.self.now.names)) (ap (map name_change) c.deref.ensures.value ∙ c.in_ok-names.ensures)

  words : words_of c.leave_sheet-sheets.new.names ≡ words_of c.args.self.now.names
  words = c.leave_sheet-sheets.ensures.names.0 ∙ c.leave_names.ensures.words

pub returns-clause-ok : goal.returns-clause-ok
returns-clause-ok c =
    shifted-book c.args.s.now c.args.self.now.lazy c.push.new.lazy c.args.self.now.grid c.apply.new.self c.args.self.now.names c.leave_sheet-sheets.new.names c.requires.sound (from c) (within c)
    c.requires.inside c.requires.stand (line c) (pushes c) c.in_ok-replaced.ensures.moved (sheets c) (left c) (words c)

pub returns-clause-makes : goal.returns-clause-makes
returns-clause-makes c =
    let s = c.args.s.now in
    let lazy = c.args.self.now.lazy in
    let grid = c.args.self.now.grid in
    let names = c.args.self.now.names in
    let names2 = c.leave_sheet-sheets.new.names in
    let cs = map sheet_change c.leave_sheet-sheets.result.items in
    let forth = subst (λ l. sheets_with (λ x. x.1) cs l ≡ listed names2) c.leave_names.ensures.sheets c.leave_sheet-sheets.ensures.forth in
    let back = c.leave_sheet-sheets.ensures.back ∙ c.leave_names.ensures.sheets in
    let repeats = subst (HaveSlots (λ x. x.1) cs) c.leave_names.ensures.sheets c.leave_sheet-sheets.ensures.repeats in
    record {
      joins = shifted-joins s lazy c.push.new.lazy grid c.apply.new.self names names2 c.requires.sound (from c) (within c) c.requires.inside c.requires.stand (line c) (pushes c)
          c.in_ok-replaced.ensures.moved (sheets c) (left c) (words c) _ (c.cursor-from.ensures.result ∙ ap (λ t. t.cursor) c.line.ensures) refl c.in_ok-replaced.ensures.removed c.in_ok-names.ensures
          forth back c.leave_sheet-sheets.ensures.returns repeats;
      keeps = shifted-keeps s lazy c.push.new.lazy grid c.apply.new.self names names2 c.requires.sound (from c) (within c) c.requires.inside c.requires.stand (line c) (pushes c)
          c.in_ok-replaced.ensures.moved (sheets c) (left c) (words c);
      stand = shifted-stands s lazy c.push.new.lazy grid c.apply.new.self names names2 c.requires.sound (from c) (within c) c.requires.inside c.requires.stand (line c) (pushes c)
          c.in_ok-replaced.ensures.moved (sheets c) (left c) (words c);
    }

pub returns-clause-kept : goal.returns-clause-kept
returns-clause-kept c = λ id h is upto.
    c.push.ensures.kept id h (c.reserve.ensures.kept id ∙ c.return_born.ensures.kept id h is upto)
    (subst (λ n. h.position ≤ n) (sym (ap (λ t. t.cursor) c.reserve.ensures.line ∙ ap (λ t. t.cursor) c.return_born.ensures.line)) upto)
