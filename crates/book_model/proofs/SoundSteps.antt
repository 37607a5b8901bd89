-- Operations lead from one sound session to another. Serves the laws of sessions.
use Rattle.std.proofs.Common.{◌≡◌, sym, ap, subst, refl, arith, ℕ, ◌+◌, ◌≤◌, ◌<◌, ◌==◌, nat_lt, Bool, true, false, not, if◌then◌else◌, length, List, [], ◌∷◌, Option, Some, None, is_some}
use Rattle.std.specs.Prelude.{nat_le}
use Rattle.std.proofs.lemmas.Bool.Decides.{nat_tests}
use Rattle.std.specs.List.{All}
use Rattle.std.proofs.lemmas.Option.{same_Some}
use Rattle.std.proofs.lemmas.List.{length-take}
use Rattle.std.proofs.lemmas.List.Elements.{All-cons, All-head, All-tail, All-take, All-weaker}
use Rattle.std.specs.FinMap as map
use Rattle.cell_addr.specs.declared.place.Block.{Block}
use Rattle.cell_addr.specs.declared.place.Place.{Place}
use Rattle.cell_addr.proofs.Places.{place_cmp-IsTotalOrder, place_cmp-IsAntisymmetric}
use Rattle.cell_addr.specs.Place.{IsBlockInside, IsInside, covers}
use Rattle.cell_addr.specs.Sheets.{AreSheets}
use Rattle.book_values.specs.Book.{Book as Contents, Content}
use Rattle.book_values.specs.Book as contents
use Rattle.formula_tree.specs.Term.{Term}
use Rattle.formula_tree.specs.declared.reference.Corner.{Corner}
use Rattle.book_values.specs.Names.{Key, key_of}
use Rattle.book_model.specs.Clipboard.{Clipboard, nothing, copied, moving, copy_of, without_cut}
use Rattle.book_model.specs.Names.{are_absolute}
use Rattle.book_model.specs.Workbook.{Workbook, Batch, State, has_scope, has_sheet}
use Rattle.book_model.specs.Operation.{Operation, set, clear, structural, add_sheet, rename_sheet, clear_sheet, add_name, change_name, remove_name, begin, commit, suspend, resume, undo, redo, copy, cut, paste, value, formula, content, precedents, dependents, name_value, try_formula, write_all}
use Rattle.book_model.specs.Refusals.{at_cells, at_place, causes, cause, first_cause, is_relative, of_clip, of_texts}
use Rattle.book_model.specs.Content.{content_given, content_of}
use Rattle.book_model.specs.Changes.{all_placed, placed, with_content, with_contents, emptied, shifted, with_sheet, renamed, named, unnamed, name_tree, with_clip, with_copy, with_name}
use Rattle.book_model.specs.Session.{changed, changed_in, closed, done, kept, next, opened, redone, undone, unless_refused}
use Rattle.book_model.specs.Sound.{ClearedBy, IsSound, IsSoundBatch, IsSoundBook, IsSoundClip, IsContentOf, IsCellOf, IsNameOf}
use Rattle.book_model.specs.declared.refusal.Refusal.{Refusal}
use Rattle.book_model.proofs.GivenSheets.{none_kept}
use Rattle.book_model.proofs.Counts.{len-retain_keys}
use Rattle.book_model.proofs.SheetLists.{sheets-with, numbers-with, has-append, sheets-renamed, numbers-renamed, has-renamed}
use Rattle.shift_core.specs.Carried.{destination}
use Rattle.shift_core.specs.Form.{form_of}
use Rattle.shift_core.specs.declared.shift.Shift.{Shift}
use Rattle.shift_core.specs.declared.shift.Shift.TheVariants.{MoveBlock}
use Rattle.book_model.proofs.Accepted.{none_hold, none_in, is_known, is_inside, is_block_inside, sound_form}
use Rattle.book_model.proofs.ShiftedBooks.{shifted_book}
use Rattle.book_model.proofs.Contents.{given_is, named_is, placed_cells, emptied_cells}
use Rattle.book_model.proofs.PastedCells.{content-proper, copied-from, pasted-cells}
use Rattle.book_model.proofs.NameMaps.{changed_names}

at_most : (n m : ℕ) → nat_lt n m ≡ false → m ≤ n
at_most n m e = grind (arith, nat_tests)

is_below : (n m : ℕ) → nat_le n m ≡ false → m < n
is_below n m e = grind (arith, nat_tests)

-- a workbook with other contents, each of them a cell of the book and not too many
with_cells : (n : ℕ) (b : Workbook) (cells : Contents) → IsSoundBook n b → ((p : Place) (c : Content) → map.get cells p ≡ Some c → IsCellOf b p c) → map.len cells ≤ 1000000 → IsSoundBook n (record b { cells = cells })
with_cells n b cells s each few = record { sheets = s.sheets; numbers = s.numbers; cells = each; count = few; names = s.names }

-- a workbook of a session is one when more sheet numbers were given out
more_numbers : (n : ℕ) (b : Workbook) → IsSoundBook n b → IsSoundBook (n + 1) b
more_numbers n b s = record { sheets = s.sheets; numbers = λ k d l. let low = s.numbers k d l in omega (arith, low); cells = s.cells; count = s.count; names = s.names }

-- a text that is given to a cell
set_sound : (d : State) (at : Place) (text : List ℕ) → IsSound d → cause (set at text) d ≡ None → IsSoundBook d.next_sheet (with_content at text d.book)
set_sound d at text s e =
    let h = none_hold (causes (set at text) d) e in
    let here = is_known (has_sheet d.book at.sheet) h.0 in
    with_cells d.next_sheet d.book (with_content at text d.book).cells s.book
    (placed_cells (IsCellOf d.book) at (content_given d.book.sheets at.sheet (content_of text)) d.book.cells
    (λ x given. (is_inside at h.1.0, here, given_is d.book at.sheet (content_of text) x s.book.sheets here given)) s.book.cells)
    (at_most 1000000 (map.len (with_content at text d.book).cells) h.1.1.1.0)

-- texts that are given to cells: these are inside, and on sheets of the book
pub cells_known : (d : State) (cells : List (Place × List ℕ)) → first_cause (at_cells d.book cells) ≡ None → All (λ e. IsInside e.0 × (has_sheet d.book e.0.sheet ≡ true)) cells
cells_known d [] e = λ k x l. absurd (omega arith)
cells_known d (c ∷ cs) e =
    let both = none_in (at_place d c.0) (at_cells d.book cs) e in
    let h = none_hold (at_place d c.0) both.0 in
    All-cons (λ x. IsInside x.0 × (has_sheet d.book x.0.sheet ≡ true)) c cs (is_inside c.0 h.1.0, is_known (has_sheet d.book c.0.sheet) h.0) (cells_known d cs both.1)

-- what they give are cells of the book
placed_sound : (b : Workbook) (given : List (Place × List ℕ)) (cells : Contents) → AreSheets b.sheets → All (λ e. IsInside e.0 × (has_sheet b e.0.sheet ≡ true)) given
    → ((p : Place) (c : Content) → map.get cells p ≡ Some c → IsCellOf b p c) → (p : Place) (c : Content) → map.get (all_placed b.sheets given cells) p ≡ Some c → IsCellOf b p c
placed_sound b [] cells are known old = old
placed_sound b (e ∷ es) cells are known old =
    let here = All-head (λ x. IsInside x.0 × (has_sheet b x.0.sheet ≡ true)) e es known in
    let gives = content_given b.sheets e.0.sheet (content_of e.1) in
    placed_sound b es (placed e.0 gives cells) are (All-tail (λ x. IsInside x.0 × (has_sheet b x.0.sheet ≡ true)) e es known)
    (placed_cells (IsCellOf b) e.0 gives cells (λ x given. (here.0, here.1, given_is b e.0.sheet (content_of e.1) x are here.1 given)) old)

write_sound : (d : State) (cells : List (Place × List ℕ)) → IsSound d → cause (write_all cells) d ≡ None → IsSoundBook d.next_sheet (with_contents cells d.book)
write_sound d cells s e =
    let both = none_in (at_cells d.book cells) (of_texts d cells) e in
    let h = none_hold (of_texts d cells) both.1 in
    with_cells d.next_sheet d.book (with_contents cells d.book).cells s.book (placed_sound d.book cells d.book.cells s.book.sheets (cells_known d cells both.0) s.book.cells)
    (at_most 1000000 (map.len (with_contents cells d.book).cells) h.1.0)

-- emptied cells
emptied_sound : (d : State) (test : Place → Bool) → IsSound d → IsSoundBook d.next_sheet (emptied test d.book)
emptied_sound d test s =
    let fewer = len-retain_keys place_cmp-IsTotalOrder place_cmp-IsAntisymmetric d.book.cells (λ p. not (test p)) in
    let few = s.book.count in
    with_cells d.next_sheet d.book (emptied test d.book).cells s.book (emptied_cells (IsCellOf d.book) test d.book.cells s.book.cells) (omega (arith, fewer, few))

-- contents of a book are those of a book with at least its sheets
same_sheets : (b c : Workbook) → ((sheet : ℕ) → has_sheet b sheet ≡ true → has_sheet c sheet ≡ true) → (x : Content) → IsContentOf b x → IsContentOf c x
same_sheets b c h (contents.number m) i = tt
same_sheets b c h (contents.truth q) i = tt
same_sheets b c h (contents.text w) i = tt
same_sheets b c h (contents.formula t) i = (i.0, λ sheet is. h sheet (i.1 sheet is))
same_sheets b c h (contents.unreadable w) i = tt

same_cell : (b c : Workbook) → ((sheet : ℕ) → has_sheet b sheet ≡ true → has_sheet c sheet ≡ true) → (p : Place) (x : Content) → IsCellOf b p x → IsCellOf c p x
same_cell b c h p x i = (i.0, h p.sheet i.1, same_sheets b c h x i.2)

-- so is a name
same_named : (b c : Workbook) → ((sheet : ℕ) → has_sheet b sheet ≡ true → has_sheet c sheet ≡ true) → (key : Key) (t : Term Corner) → IsNameOf b key t → IsNameOf c key t
same_named b c h key t i = (scoped key.scope i.0, same_sheets b c h (contents.formula t) i.1)
  where
    scoped : (scope : Option ℕ) → has_scope b scope ≡ true → has_scope c scope ≡ true
    scoped None e = refl
    scoped (Some sheet) e = h sheet e

add_sound : (d : State) (name : List ℕ) → IsSound d → cause (add_sheet name) d ≡ None → IsSoundBook (d.next_sheet + 1) (with_sheet d.next_sheet name d.book)
add_sound d name s e =
    let h = none_hold (causes (add_sheet name) d) e in
    let below = is_below 1024 d.next_sheet h.1.1.0 in
    record {
      sheets = sheets-with d.book.sheets d.next_sheet name s.book.sheets s.book.numbers (omega (arith, below)) h.1.0;
      numbers = numbers-with d.book.sheets d.next_sheet name s.book.numbers;
      cells = λ p c is. same_cell d.book (with_sheet d.next_sheet name d.book) (λ k h. has-append k d.book.sheets ((d.next_sheet, name) ∷ []) h) p c (s.book.cells p c is);
      count = s.book.count;
      names = λ key t is. same_named d.book (with_sheet d.next_sheet name d.book) (λ k h. has-append k d.book.sheets ((d.next_sheet, name) ∷ []) h) key t (s.book.names key t is);
    }

rename_sound : (d : State) (sheet : ℕ) (name : List ℕ) → IsSound d → cause (rename_sheet sheet name) d ≡ None → IsSoundBook d.next_sheet (renamed sheet name d.book)
rename_sound d sheet name s e =
    let h = none_hold (causes (rename_sheet sheet name) d) e in
    record {
      sheets = sheets-renamed d.book.sheets sheet name s.book.sheets h.1.1.0;
      numbers = numbers-renamed d.book.sheets sheet d.next_sheet name s.book.numbers;
      cells = λ p c is. same_cell d.book (renamed sheet name d.book) (λ k h. has-renamed sheet k name d.book.sheets h) p c (s.book.cells p c is);
      count = s.book.count;
      names = λ key t is. same_named d.book (renamed sheet name d.book) (λ k h. has-renamed sheet k name d.book.sheets h) key t (s.book.names key t is);
    }

shifted_sound : (d : State) (change : Shift) → IsSound d → cause (structural change) d ≡ None → IsSoundBook d.next_sheet (shifted change d.book)
shifted_sound d change s e = let f = sound_form d (form_of change) e in shifted_book d.next_sheet d.book change s.book f.0 f.1

-- what waits is pasted
pasted_sound : (d : State) (clip : Clipboard) (at : Place) → IsSound d → IsSoundClip clip → first_cause (of_clip d clip at) ≡ None → IsSoundBook d.next_sheet (with_clip clip at d.book)
pasted_sound d nothing at s i e = cc
pasted_sound d (copied area cells) at s i e =
    let h = none_hold (of_clip d (copied area cells) at) e in
    with_cells d.next_sheet d.book (with_copy area cells at d.book).cells s.book
    (pasted-cells d.book area cells at i.0 (is_block_inside (destination area at) h.1.0) (is_known (has_sheet d.book at.sheet) h.0) i.1 s.book.cells)
    (at_most 1000000 (map.len (with_copy area cells at d.book).cells) h.1.1.0)
pasted_sound d (moving area) at s i e =
    let f = sound_form d (form_of (MoveBlock area at)) e in shifted_book d.next_sheet d.book (MoveBlock area at) s.book f.0 f.1

copied_sound : (d : State) (area : Block) → IsSound d → IsBlockInside area → IsSoundClip (copy_of area d.book.cells)
copied_sound d area s i = (i, λ p c e. content-proper d.book c (s.book.cells p c (copied-from area d.book.cells p c e)).2)

fixed_of : (tree : Option (Term Corner)) (t : Term Corner) → is_relative tree ≡ false → tree ≡ Some t → are_absolute t ≡ true
fixed_of None t h e = cc
fixed_of (Some u) t h e = let same : u ≡ t = same_Some u t e in subst (λ x. are_absolute x ≡ true) same (is_known (are_absolute u) h)

-- a workbook with another tree of one name, which is one of the book, or none
renamed_sound : (n : ℕ) (b : Workbook) (key : Key) (tree : Option (Term Corner)) → IsSoundBook n b → ((t : Term Corner) → tree ≡ Some t → IsNameOf b key t) → IsSoundBook n (with_name key tree b)
renamed_sound n b key tree s new = record { sheets = s.sheets; numbers = s.numbers; cells = s.cells; count = s.count; names = changed_names (IsNameOf b) key tree b.names new s.names }

-- a text that is given to a name
named_sound : (d : State) (name : List ℕ) (scope : Option ℕ) (text : List ℕ) → IsSound d → not (has_scope d.book scope) ≡ false → is_relative (name_tree scope text d.book) ≡ false → IsSoundBook d.next_sheet (named name scope text d.book)
named_sound d name scope text s here fixed =
    let known = is_known (has_scope d.book scope) here in
    renamed_sound d.next_sheet d.book (key_of scope name) (name_tree scope text d.book) s.book
    (λ t is. (known, named_is d.book scope text t s.book.sheets known is (fixed_of (name_tree scope text d.book) t fixed is)))

unnamed_sound : (d : State) (name : List ℕ) (scope : Option ℕ) → IsSound d → IsSoundBook d.next_sheet (unnamed name scope d.book)
unnamed_sound d name scope s = renamed_sound d.next_sheet d.book (key_of scope name) None s.book (λ t is. cc)

-- the kept workbooks, after one joined them
kept_sound : (d : State) (b : Workbook) (n : ℕ) → All (IsSoundBook n) d.undo → IsSoundBook n b → All (IsSoundBook n) (kept d b)
kept_sound d b n all s = All-take (IsSoundBook n) d.limit (b ∷ d.undo) (All-cons (IsSoundBook n) b d.undo s all)

kept_few : (d : State) (b : Workbook) → length (kept d b) ≤ d.limit
kept_few d b = let t = length-take d.limit (b ∷ d.undo) in omega (arith, t)

-- what waits to be pasted stays sound where a pending cut ends
clip_sound : (clip : Clipboard) → IsSoundClip clip → IsSoundClip (without_cut clip)
clip_sound nothing s = tt
clip_sound (copied area cells) s = s
clip_sound (moving area) s = tt

-- a change to a sound workbook, in an batch batch or outside of one
changed_sound : (d : State) (book : Workbook) (batch : Option Batch) → d.batch ≡ batch → IsSound d → IsSoundBook d.next_sheet book → IsSound (changed_in batch book d)
changed_sound d book None e s h = record {
  book = h;
  undo = kept_sound d d.book d.next_sheet s.undo s.book;
  redo = none_kept d.next_sheet;
  batch = s.batch;
  clip = clip_sound d.clip s.clip;
  few = s.few;
  cleared = subst (λ o. ClearedBy o []) (sym e) tt;
  steps = let k = kept_few d d.book in omega (arith, k);
  limit = s.limit;
}
changed_sound d book (Some batch) e s h = record {
  book = h;
  undo = s.undo;
  redo = none_kept d.next_sheet;
  batch = subst (IsSoundBatch d.next_sheet) e s.batch;
  clip = clip_sound d.clip s.clip;
  few = s.few;
  cleared = λ c. refl;
  steps = let k = s.steps in omega (arith, k);
  limit = s.limit;
}

-- a change for which no sheet is added
change_sound : (d : State) (book : Workbook) → IsSound d → IsSoundBook d.next_sheet book → IsSound (changed book d)
change_sound d book s h = changed_sound d book d.batch refl s h

-- where a sheet number was given out, the kept workbooks stay sound
more_batch : (n : ℕ) (batch : Option Batch) → IsSoundBatch n batch → IsSoundBatch (n + 1) batch
more_batch n None s = tt
more_batch n (Some batch) s = more_numbers n batch.start s

added_sound : (d : State) (book : Workbook) (batch : Option Batch) → d.batch ≡ batch → IsSound d → d.next_sheet + 1 ≤ 1024 → IsSoundBook (d.next_sheet + 1) book → IsSound (record (changed_in batch book d) { next_sheet = d.next_sheet + 1 })
added_sound d book None e s few h = record {
  book = h;
  undo = kept_sound d d.book (d.next_sheet + 1) (All-weaker (IsSoundBook d.next_sheet) (IsSoundBook (d.next_sheet + 1)) (more_numbers d.next_sheet) d.undo s.undo) (more_numbers d.next_sheet d.book s.book);
  redo = none_kept (d.next_sheet + 1);
  batch = more_batch d.next_sheet d.batch s.batch;
  clip = clip_sound d.clip s.clip;
  few = few;
  cleared = subst (λ o. ClearedBy o []) (sym e) tt;
  steps = let k = kept_few d d.book in omega (arith, k);
  limit = s.limit;
}
added_sound d book (Some batch) e s few h = record {
  book = h;
  undo = All-weaker (IsSoundBook d.next_sheet) (IsSoundBook (d.next_sheet + 1)) (more_numbers d.next_sheet) d.undo s.undo;
  redo = none_kept (d.next_sheet + 1);
  batch = more_batch d.next_sheet (Some batch) (subst (IsSoundBatch d.next_sheet) e s.batch);
  clip = clip_sound d.clip s.clip;
  few = few;
  cleared = λ c. refl;
  steps = let k = s.steps in omega (arith, k);
  limit = s.limit;
}

opened_sound : (d : State) → IsSound d → IsSound (opened d)
opened_sound d s = record { book = s.book; undo = s.undo; redo = s.redo; batch = s.book; clip = s.clip; few = s.few; cleared = λ c. cc; steps = s.steps; limit = s.limit }

-- a batch is closed, in which a change came or none
closed_kept : (d : State) (batch : Batch) (b : Bool) → IsSound d → IsSoundBook d.next_sheet batch.start → All (IsSoundBook d.next_sheet) (if b then kept d batch.start else d.undo)
closed_kept d batch true s start = kept_sound d batch.start d.next_sheet s.undo start
closed_kept d batch false s start = s.undo

closed_steps : (d : State) (batch : Batch) (b : Bool) → batch.changed ≡ b → IsSound d → ClearedBy (Some batch) d.redo → length (if b then kept d batch.start else d.undo) + length d.redo ≤ d.limit
closed_steps d batch true e s cleared =
    let none = cleared e in
    let k = kept_few d batch.start in
    omega (arith, none, k)
closed_steps d batch false e s cleared = s.steps

closed_sound : (d : State) (batch : Option Batch) → d.batch ≡ batch → IsSound d → IsSound (closed batch d)
closed_sound d None e s = s
closed_sound d (Some batch) e s = record {
  book = s.book;
  undo = closed_kept d batch batch.changed s (subst (IsSoundBatch d.next_sheet) e s.batch);
  redo = s.redo;
  batch = tt;
  clip = s.clip;
  few = s.few;
  cleared = tt;
  steps = closed_steps d batch batch.changed refl s (subst (λ o. ClearedBy o d.redo) e s.cleared);
  limit = s.limit;
}

flagged_sound : (d : State) (flag : Bool) → IsSound d → IsSound (record d { suspended = flag })
flagged_sound d flag s = record { book = s.book; undo = s.undo; redo = s.redo; batch = s.batch; clip = s.clip; few = s.few; cleared = s.cleared; steps = s.steps; limit = s.limit }

-- what waits to be pasted is another one
clipped_sound : (d : State) (clip : Clipboard) → IsSoundClip clip → IsSound d → IsSound (record d { clip = clip })
clipped_sound d clip i s = record { book = s.book; undo = s.undo; redo = s.redo; batch = s.batch; clip = i; few = s.few; cleared = s.cleared; steps = s.steps; limit = s.limit }

-- no batch is batch where steps are undone and redone
none_open : (batch : Option Batch) (books : List Workbook) → is_some batch ≡ false → ClearedBy batch books
none_open None books e = tt
none_open (Some batch) books e = cc

undone_sound : (d : State) (books : List Workbook) → d.undo ≡ books → is_some d.batch ≡ false → IsSound d → IsSound (undone books d)
undone_sound d [] e none s = s
undone_sound d (b ∷ bs) e none s =
    let all = subst (All (IsSoundBook d.next_sheet)) e s.undo in
    let long = ap length e in
    let steps = s.steps in
    record {
      book = All-head (IsSoundBook d.next_sheet) b bs all;
      undo = All-tail (IsSoundBook d.next_sheet) b bs all;
      redo = All-cons (IsSoundBook d.next_sheet) d.book d.redo s.book s.redo;
      batch = s.batch;
      clip = clip_sound d.clip s.clip;
      few = s.few;
      cleared = none_open d.batch (d.book ∷ d.redo) none;
      steps = omega (arith, long, steps);
      limit = s.limit;
    }

redone_sound : (d : State) (books : List Workbook) → d.redo ≡ books → is_some d.batch ≡ false → IsSound d → IsSound (redone books d)
redone_sound d [] e none s = s
redone_sound d (b ∷ bs) e none s =
    let all = subst (All (IsSoundBook d.next_sheet)) e s.redo in
    let long = ap length e in
    let steps = s.steps in
    record {
      book = All-head (IsSoundBook d.next_sheet) b bs all;
      undo = All-cons (IsSoundBook d.next_sheet) d.book d.undo s.book s.undo;
      redo = All-tail (IsSoundBook d.next_sheet) b bs all;
      batch = s.batch;
      clip = clip_sound d.clip s.clip;
      few = s.few;
      cleared = none_open d.batch bs none;
      steps = omega (arith, long, steps);
      limit = s.limit;
    }

unless_sound : (r : Option Refusal) (after before : State) → (r ≡ None → IsSound after) → IsSound before → IsSound (unless_refused r after before)
unless_sound None after before h s = h refl
unless_sound (Some r) after before h s = s

-- what is done where no cause holds
done_sound : (op : Operation) (d : State) → IsSound d → cause op d ≡ None → IsSound (done op d)
done_sound (set at text) d s e = change_sound d (with_content at text d.book) s (set_sound d at text s e)
done_sound (clear area) d s e = change_sound d (emptied (covers area) d.book) s (emptied_sound d (covers area) s)
done_sound (structural change) d s e = change_sound d (shifted change d.book) s (shifted_sound d change s e)
done_sound (add_sheet name) d s e =
    let h = none_hold (causes (add_sheet name) d) e in
    let below = is_below 1024 d.next_sheet h.1.1.0 in
    added_sound d (with_sheet d.next_sheet name d.book) d.batch refl s (omega (arith, below)) (add_sound d name s e)
done_sound (rename_sheet sheet name) d s e = change_sound d (renamed sheet name d.book) s (rename_sound d sheet name s e)
done_sound (clear_sheet sheet) d s e = change_sound d (emptied (λ p. p.sheet == sheet) d.book) s (emptied_sound d (λ p. p.sheet == sheet) s)
done_sound (add_name name scope text) d s e =
    let h = none_hold (causes (add_name name scope text) d) e in
    change_sound d (named name scope text d.book) s (named_sound d name scope text s h.0 h.1.1.1.1.1.0)
done_sound (change_name name scope text) d s e =
    let h = none_hold (causes (change_name name scope text) d) e in
    change_sound d (named name scope text d.book) s (named_sound d name scope text s h.0 h.1.1.1.1.0)
done_sound (remove_name name scope) d s e = change_sound d (unnamed name scope d.book) s (unnamed_sound d name scope s)
done_sound (copy area) d s e = let h = none_hold (causes (copy area) d) e in clipped_sound d (copy_of area d.book.cells) (copied_sound d area s (is_block_inside area h.1.0)) s
done_sound (cut area) d s e = clipped_sound d (moving area) tt s
done_sound (paste at) d s e = change_sound d (with_clip d.clip at d.book) s (pasted_sound d d.clip at s s.clip e)
done_sound begin d s e = opened_sound d s
done_sound commit d s e = closed_sound d d.batch refl s
done_sound suspend d s e = flagged_sound d true s
done_sound resume d s e = flagged_sound d false s
done_sound undo d s e = undone_sound d d.undo refl (none_hold (causes undo d) e).0 s
done_sound redo d s e = redone_sound d d.redo refl (none_hold (causes redo d) e).0 s
done_sound (value at) d s e = s
done_sound (formula at) d s e = s
done_sound (content at) d s e = s
done_sound (precedents at) d s e = s
done_sound (dependents at) d s e = s
done_sound (name_value name sheet) d s e = s
done_sound (try_formula sheet text) d s e = s
done_sound (write_all cells) d s e = change_sound d (with_contents cells d.book) s (write_sound d cells s e)

-- an operation leads from a sound session to a sound one
pub next_sound : (op : Operation) (d : State) → IsSound d → IsSound (next op d)
next_sound op d s = unless_sound (cause op d) (done op d) d (done_sound op d s) s

unless_same : (r : Option Refusal) (q : Refusal) (after before : State) → r ≡ Some q → unless_refused r after before ≡ before
unless_same None q after before e = cc
unless_same (Some r) q after before e = refl

-- a refused operation leaves the session
pub refused_same : (op : Operation) (d : State) (r : Refusal) → cause op d ≡ Some r → next op d ≡ d
refused_same op d r e = unless_same (cause op d) r (done op d) d e
