-- A step back or forth over a change of one name. Serves undo and redo.
use Rattle.std.proofs.Common.{◌≡◌, ◌≢◌, ◌∙◌, sym, ap, subst, refl, arith, ℕ, zero, suc, ◌<◌, ◌≤◌, nat_lt, ◌||◌, ◌&&◌, not, Bool, true, false, cond, List, [], ◌∷◌, length, Option, Some, None, is_some, option_map}
use Rattle.std.proofs.lemmas.Bool.{and_parts, false≢true}
use Rattle.std.proofs.lemmas.Bool.Decides.{nat_tests}
use Rattle.std.proofs.lemmas.Option.{none-some, same_Some}
use Rattle.std.specs.FinMap as fin
use Rattle.std.specs.Ordering.{eq_by_cmp}
use Rattle.std.specs.Prelude.{slice_get}
use Rattle.cell_addr.specs.declared.place.TheConstants.{NO_SHEET}
use Rattle.formula_tree.specs.Term.{Term}
use Rattle.formula_tree.specs.declared.reference.Corner.{Corner}
use Rattle.name_table.specs.Named.{words_of}
use Rattle.name_table.specs.Scopes as table
use Rattle.name_table.specs.Words.{AreWords}
use Rattle.name_table.specs.declared.key.NameKey.{NameKey}
use Rattle.undo_book.specs.History.{History}
use Rattle.book_model.proofs.NameMaps.{get-with}
use Rattle.book_model.specs.Changes.{with_name}
use Rattle.book_model.specs.Names.{key_cmp}
use Rattle.book_model.specs.Workbook.{Workbook, has_name}
use Rattle.kept_book.proofs.Joining.{no-shift}
use Rattle.name_table.proofs.DraftedNames.{get-with_holder}
use Rattle.kept_book.proofs.NamesPut.{names-put}
use Rattle.kept_book.proofs.NamesSeen.{same_id_key, same_key}
use Rattle.kept_book.specs.Change.{AreKnown, Change, Joins, cells_after, cells_before, names_with, sheets_with, shift_of, with_id}
use Rattle.kept_book.specs.Frame.{Frame, Line, Words, named_at, names_seen}
use Rattle.kept_book.specs.Kept.{at_of, frame_of, line_of}
use Rattle.kept_book.specs.Walk.{back_all, forth_all}
use Rattle.kept_book.specs.declared.book.Book.{Book}
use Rattle.kept_steps.proofs.CellsTurned.{first-lead, first-led}
use Rattle.kept_steps.proofs.OperationsTurned.{first-stand, reached}
use Rattle.kept_steps.proofs.Walks.{after_whole, leads_here, leads_on}
use Rattle.kept_steps.specs.Fits.{Fits, start_of, steps_of}
use Rattle.kept_steps.specs.Steps.{AllLeadOn, AllLedHere, AreAhead, ArePast}
use Rattle.kept_steps.specs.Timeline.{StandIn, Timeline, book_in, timeline_of}
use Rattle.kept_steps.specs.Turned.{IsRenamed, RenamesBack, RenamesForth, first_step, is_empty, key_spelt, lists_names_alone, name_alone, name_of, only}
use Rattle.kept_steps.specs.declared.entry.Entry.{Entry}

-- ---- a change of one name alone

empty : {X : Type 0} (xs : List X) → is_empty xs ≡ true → xs ≡ []
empty [] h = refl
empty (x ∷ xs) h = absurd (false≢true h)

one : {X : Type 0} (xs : List X) (x : X) → only xs ≡ Some x → xs ≡ x ∷ []
one [] x h = absurd (none-some x h)
one (y ∷ []) x h = ap (λ z. z ∷ []) (same_Some y x h)
one (y ∷ z ∷ xs) x h = absurd (none-some x h)

pub record IsOfName (c : Change) (key : NameKey) (before after : Option ℕ) : Type 0 where
  pub stays : nat_lt c.from c.to ≡ false
  pub replaced : c.replaced ≡ []
  pub written : c.written ≡ []
  pub sheets : c.sheets ≡ []
  pub names : c.names ≡ (key, (before, after)) ∷ []

pub of-name : (c : Change) (key : NameKey) (before after : Option ℕ) → name_alone c ≡ Some (key, (before, after)) → IsOfName c key before after
of-name c key before after = by (nat_lt c.from c.to) (lists_names_alone c) refl refl
  where
    by : (lt lists : Bool) → nat_lt c.from c.to ≡ lt → lists_names_alone c ≡ lists → cond (lt || not lists) None (only c.names) ≡ Some (key, (before, after)) → IsOfName c key before after
    by true lists e l h = absurd (none-some (key, (before, after)) h)
    by false false e l h = absurd (none-some (key, (before, after)) h)
    by false true e l h =
        let (replaced, more) = and_parts (is_empty c.replaced) (is_empty c.written && is_empty c.sheets) l in
        let (written, sheets) = and_parts (is_empty c.written) (is_empty c.sheets) more in
        record { stays = e; replaced = empty c.replaced replaced; written = empty c.written written; sheets = empty c.sheets sheets; names = one c.names (key, (before, after)) h }

same-position : (c : Change) → nat_lt c.from c.to ≡ false → c.from ≤ c.to → c.to ≡ c.from
same-position c stays order = let isnt : c.to ≤ c.from = grind (arith, nat_tests) in omega arith

known-word : (words : Words) (n : ℕ) → n < length words → (w : List ℕ) × (slice_get words n ≡ Some w)
known-word [] n low = absurd (omega (arith, low))
known-word (w ∷ words) zero low = (w, refl)
known-word (w ∷ words) (suc n) low = known-word words n (omega (arith, low))

some-mapped : {X Y : Type 0} (f : X → Y) (o : Option X) → is_some (option_map f o) ≡ is_some o
some-mapped f None = refl
some-mapped f (Some x) = refl

-- ---- the workbooks of two frames that differ in a name

module _ (t : Timeline) (h : AreWords t.words) (f g : Frame) (key : NameKey) (had has : Option ℕ) (w : List ℕ) (spelt : slice_get t.words key.word ≡ Some w)
    (position : g.position ≡ f.position) (cells : g.cells ≡ f.cells) (sheets : g.sheets ≡ f.sheets) (before : f.names ≡ with_id key had g.names) (after : g.names ≡ with_id key has f.names)
    (stand_f : StandIn t f) (stand_g : StandIn t g) where
  own : (names : table.NameMap) (id : Option ℕ) → fin.get (with_id key id names) key ≡ id
  own names id = get-with_holder key id names key ∙ ap (λ b. cond b id (fin.get names key)) (same_id_key key key refl)

  scope-of : (o : Option ℕ) (x : Frame) → StandIn t x → fin.get x.names key ≡ o → is_some o ≡ true → key.scope ≢ Some NO_SHEET
  scope-of None x stand is some = absurd (false≢true some)
  scope-of (Some id) x stand is some = (stand.names key id is).scoped

  scoped : (is_some had || is_some has) ≡ true → key.scope ≢ Some NO_SHEET
  scoped = by (is_some had) refl
    where
      by : (b : Bool) → is_some had ≡ b → (b || is_some has) ≡ true → key.scope ≢ Some NO_SHEET
      by true e some = scope-of had f stand_f (ap (λ n. fin.get n key) before ∙ own g.names had) e
      by false e some = scope-of has g stand_g (ap (λ n. fin.get n key) after ∙ own f.names has) some

  abbrev trees : ℕ → Term Corner
  trees = named_at t.at f.position

  pub turned : book_in t g ≡ with_name (key_spelt key w) (option_map trees has) (book_in t f)
  turned =
      (λ i. book_in t (record { position = position i; cells = cells i; sheets = sheets i; names = after i }))
      ∙ (λ i. record (book_in t f) { names = names-put t.words h trees f.names key w spelt has i })

  was : has_name (book_in t f) (key_spelt key w) ≡ is_some had
  was =
      ap (λ names. is_some (fin.get (names_seen t.words trees names) (key_spelt key w))) before
      ∙ ap (λ names. is_some (fin.get names (key_spelt key w))) (names-put t.words h trees g.names key w spelt had)
      ∙ ap is_some (get-with (key_spelt key w) (option_map trees had) (names_seen t.words trees g.names) (key_spelt key w)
      ∙ ap (λ b. cond b (option_map trees had) (fin.get (names_seen t.words trees g.names) (key_spelt key w))) (same_key (key_spelt key w) (key_spelt key w) refl))
      ∙ some-mapped trees had

  pub renamed : IsRenamed t.words key (is_some had) (is_some has) (book_in t f) (book_in t g)
  renamed = record { word = w; spelt = spelt; scoped = scoped; tree = option_map trees has; some = some-mapped trees has; was = was; turned = turned }

-- ---- a change joins such frames

module _ (t : Timeline) (h : AreWords t.words) (c : Change) (f g : Frame) (joins : Joins t.line t.words c f g) (stand_f : StandIn t f) (stand_g : StandIn t g) (key : NameKey) (before after : Option ℕ)
    (alone : IsOfName c key before after) where
  same : c.to ≡ c.from
  same = same-position c alone.stays joins.order

  position : g.position ≡ f.position
  position = sym (ap (λ x. x.position) joins.after) ∙ same ∙ ap (λ x. x.position) joins.before

  cells : g.cells ≡ f.cells
  cells =
      sym (ap (λ x. x.cells) joins.after)
      ∙ ap (λ o. cells_after o c f.cells) (no-shift t.line c same)
      ∙ (λ i. cells_after None (record { from = c.from; to = c.to; replaced = alone.replaced i; written = alone.written i; names = c.names; sheets = c.sheets }) f.cells)

  sheets : g.sheets ≡ f.sheets
  sheets = sym (ap (λ x. x.sheets) joins.after) ∙ ap (λ l. sheets_with (λ x. x.1) l f.sheets) alone.sheets

  names_before : f.names ≡ with_id key before g.names
  names_before = sym (ap (λ x. x.names) joins.before) ∙ ap (λ l. names_with (λ x. x.0) l g.names) alone.names

  names_after : g.names ≡ with_id key after f.names
  names_after = sym (ap (λ x. x.names) joins.after) ∙ ap (λ l. names_with (λ x. x.1) l f.names) alone.names

  word : (w : List ℕ) × (slice_get t.words key.word ≡ Some w)
  word = known-word t.words key.word (subst (AreKnown t.words) alone.names joins.known).0

  pub renamed-forth : IsRenamed t.words key (is_some before) (is_some after) (book_in t f) (book_in t g)
  renamed-forth = renamed t h f g key before after word.0 word.1 position cells sheets names_before names_after stand_f stand_g

  pub renamed-back : IsRenamed t.words key (is_some after) (is_some before) (book_in t g) (book_in t f)
  renamed-back = renamed t h g f key after before word.0 word.1 (sym position) (sym cells) (sym sheets) names_after names_before stand_g stand_f

-- ---- the newest step, and the next one

module _ (t : Timeline) (h : AreWords t.words) (key : NameKey) (before after : Option ℕ) where
  step-back : (cs : List Change) (f : Frame) → AllLedHere t cs f → StandIn t f → StandIn t (back_all t.line cs f) → name_of cs ≡ Some (key, (before, after))
      → IsRenamed t.words key (is_some after) (is_some before) (book_in t f) (book_in t (back_all t.line cs f))
  step-back [] f led stand back_stand is = absurd (none-some (key, (before, after)) is)
  step-back (c ∷ []) f led stand back_stand is =
      let (x, joins, same) = leads_here t (c ∷ []) f led in
      renamed-back t h c (back_all t.line (c ∷ []) f) f (subst (λ y. Joins t.line t.words c (back_all t.line (c ∷ []) f) y) same joins) back_stand stand key before after (of-name c key before after is)
  step-back (c ∷ d ∷ cs) f led stand back_stand is = absurd (none-some (key, (before, after)) is)

  step-forth : (cs : List Change) (f : Frame) → AllLeadOn t cs f → StandIn t f → StandIn t (forth_all t.line cs f) → name_of cs ≡ Some (key, (before, after))
      → IsRenamed t.words key (is_some before) (is_some after) (book_in t f) (book_in t (forth_all t.line cs f))
  step-forth [] f lead stand forth_stand is = absurd (none-some (key, (before, after)) is)
  step-forth (c ∷ []) f lead stand forth_stand is =
      let (x, joins, same) = leads_on t (c ∷ []) f lead in
      renamed-forth t h c f (forth_all t.line (c ∷ []) f) (subst (λ y. Joins t.line t.words c f y) same joins) stand forth_stand key before after (of-name c key before after is)
  step-forth (c ∷ d ∷ cs) f lead stand forth_stand is = absurd (none-some (key, (before, after)) is)

-- formulas stand in the frame after the next step
next-stand : (t : Timeline) (f : Frame) (es : List (List Change)) → StandIn t f → AreAhead t f es → StandIn t (forth_all t.line (first_step es) f)
next-stand t f [] stand ahead = stand
next-stand t f (e ∷ es) stand ahead = (after_whole t e f ahead.1).stand

module _ (old new : Book) (h : History Entry) (b : Option Entry) (fits : Fits old h b) (standings : (id k : ℕ) → at_of new id k ≡ at_of old id k) (words : words_of new.names ≡ words_of old.names) where
  -- after a step back
  pub renames-back : b ≡ None → frame_of new ≡ back_all (line_of old) (first_step (steps_of h.done)) (frame_of old)
      → RenamesBack (words_of old.names) (first_step (steps_of h.done)) (book_in (timeline_of old) (frame_of old)) (book_in (timeline_of new) (frame_of new))
  renames-back none is key before after named =
      let t = timeline_of old in
      let cs = first_step (steps_of h.done) in
      let past = subst (λ o. ArePast t (start_of t o (frame_of old)) (steps_of h.done)) none fits.past in
      subst (IsRenamed t.words key (is_some after) (is_some before) (book_in t (frame_of old))) (sym (reached old new h b fits standings words (back_all t.line cs (frame_of old)) is))
      (step-back t old.names.words.proper key before after cs (frame_of old) (first-led t (frame_of old) (steps_of h.done) past) fits.stand (first-stand t (frame_of old) (steps_of h.done) fits.stand past) named)

  -- and after one forth
  pub renames-forth : frame_of new ≡ forth_all (line_of old) (first_step (steps_of h.undone)) (frame_of old)
      → RenamesForth (words_of old.names) (first_step (steps_of h.undone)) (book_in (timeline_of old) (frame_of old)) (book_in (timeline_of new) (frame_of new))
  renames-forth is key before after named =
      let t = timeline_of old in
      let cs = first_step (steps_of h.undone) in
      subst (IsRenamed t.words key (is_some before) (is_some after) (book_in t (frame_of old))) (sym (reached old new h b fits standings words (forth_all t.line cs (frame_of old)) is))
      (step-forth t old.names.words.proper key before after cs (frame_of old) (first-lead t (frame_of old) (steps_of h.undone) fits.ahead) fits.stand (next-stand t (frame_of old) (steps_of h.undone) fits.stand fits.ahead) named)
