-- What is kept of values follows over the changes of a step. Serves steps of several parts.
use Rattle.std.proofs.Common.{◌≡◌, ◌∙◌, sym, ap, refl, subst, ℕ, ℤ, nat_lt, ◌==◌, eqb-true, eq-eqb, lt-ltb, ltb-true, ◌||◌, ⊎_elim, Bool, true, false, cond, List, [], ◌∷◌, ◌++◌, get_or, length, map, Option, Some, None, is_some, Result, Ok, Err}
use Rattle.std.specs.Prelude.{IsTrue, OnOk, slice_get}
use Rattle.std.specs.FinMap as fin
use Rattle.std.proofs.lemmas.Bool.{and_from, and_parts, false≢true, false_from_ne_true, or_cases, or_left, or_right}
use Rattle.std.proofs.lemmas.Option.{none-some, same_Some, slice_get-get_or, slice_get_within}
use Rattle.cell_addr.specs.declared.axis.Axis.{Axis}
use Rattle.cell_addr.specs.Place.{IsBlockInside}
use Rattle.cell_addr.specs.declared.place.Block.{Block}
use Rattle.cell_addr.specs.declared.place.Place.{Place}
use Rattle.cell_addr.specs.declared.place.TheConstants.{NO_SHEET}
use Rattle.custom_fn.specs.declared.rule.Rule.{Rule}
use Rattle.name_table.specs.declared.key.NameKey.{NameKey}
use Rattle.shift_core.specs.Form.{form_of}
use Rattle.shift_core.specs.Opposite.{opposite_of}
use Rattle.shift_core.specs.Sound.{IsSound}
use Rattle.shift_core.specs.declared.edit.Edit.{Edit}
use Rattle.shift_core.specs.declared.form.Form.{Form}
use Rattle.shift_core.specs.declared.form.Form.TheVariants.{Cells, Lines, Sheet}
use Rattle.shift_core.specs.Tables.{place_after}
use Rattle.shift_core.specs.declared.shift.Shift.{Shift}
use Rattle.shift_core.specs.declared.shift.Shift.TheVariants.{InsertRows, DeleteRows, InsertCols, DeleteCols, MoveRows, MoveCols, MoveBlock, DropSheet}
use Rattle.book_values.specs.Names.{Key, tree_in}
use Rattle.book_values.specs.Workbook as book
use Rattle.book_values.specs.Workbook.{scope_sheet}
use Rattle.book_model.specs.Answers.{valued}
use Rattle.book_model.specs.Workbook.{Workbook}
use Rattle.dep_graph.specs.Nodes.{has}
use Rattle.dep_graph.specs.declared.node.Node.{Node}
use Rattle.dep_graph.specs.declared.node.Node.TheVariants.{Cell, Name, Range, Whole}
use Rattle.recalc_core.specs.Edits.{DifferInName}
use Rattle.recalc_core.specs.Laws.{AreKnown}
use Rattle.recalc_core.specs.Nodes.{AreNumbered, name_at, node_at, scope_at}
use Rattle.recalc_core.specs.Shifted.{drops_scope}
use Rattle.marked_values.proofs.Alone.{place_node}
use Rattle.marked_values.proofs.GoingBack.{keeps}
use Rattle.marked_values.specs.Marks.{IsBookInside}
use Rattle.marked_values.specs.Shifts.{IsBookAfter, is_moved_in}
use Rattle.marked_books.proofs.Naming.{named_differ, named_now, stood}
use Rattle.marked_books.proofs.Shifting.{book_after}
use Rattle.restored_values.specs.Suspects.{AreRemoved}
use Rattle.kept_book.specs.Change.{Change, shift_of}
use Rattle.kept_book.specs.Frame.{Line, Words}
use Rattle.kept_steps.specs.Parts.{CanBeFollowed, PartTurns, Turns}
use Rattle.kept_steps.specs.Turned.{IsRenamed, is_listed, key_spelt, name_alone}
use Rattle.kept_values.specs.Shifted.{HasOfSheet, HasTouched}
use Rattle.kept_values.specs.declared.values.Values.{Values}
use Rattle.session_values.specs.Following.{FollowsIn}
use Rattle.session_values.specs.Naming.{turn_of}
use Rattle.session_values.specs.Parts.{FollowsPartBack, FollowsPartForth, FollowsPartsBack, FollowsPartsForth, FollowsTurnIn, IsOnLines}
use Rattle.session_values.specs.Shifting.{FollowsSheetBack, FollowsShift, FollowsShiftBack}
use Rattle.session_values.specs.Touched.{AreTouchedAtMost, IsMarkedIn, IsStepMarked}
use Rattle.session_values.specs.internal.Listed.{AreAdded, cell_node, is_moved_node, is_name_below}
use Rattle.session_values.specs.internal.Way.{IsBackTo, IsForthTo}
use Rattle.session_values.proofs.Followed.{cells_follow}
use Rattle.session_values.proofs.Listed.{cells_known, replaced_listed}
use Rattle.session_values.proofs.MovedNodes.{known, touched, touched_back}
use Rattle.session_values.proofs.NamedBetween.{turn_had, turn_has}

-- ---- operations on lines

no_cell : (f : Form) (p : Place) → IsOnLines f → is_moved_in f p ≡ true → ⊥
no_cell (Lines sheet axis edit) p lines moved = false≢true moved
no_cell (Cells source to) p lines moved = absurd lines
no_cell (Sheet sheet) p lines moved = absurd lines

no_scope : (f : Form) (scope : ℕ) → IsOnLines f → drops_scope f scope ≡ false
no_scope (Lines sheet axis edit) scope lines = refl
no_scope (Cells source to) scope lines = absurd lines
no_scope (Sheet sheet) scope lines = absurd lines

-- they touch nothing beside what links tell
nothing_touched : (s : Shift) (b : book.Workbook) (words : List (List ℕ)) → IsOnLines (form_of s) → HasTouched s b words []
nothing_touched s b words lines = record {
  filled = λ p moved some. absurd (no_cell (form_of s) p lines moved);
  names = λ a key at drops some. absurd (false≢true (sym (no_scope (form_of s) (book.scope_sheet key.scope) lines) ∙ drops));
}

nothing_known : (words : List (List ℕ)) → AreKnown words []
nothing_known words a h = absurd (false≢true h)

inside : (words : Words) (b : Workbook) → CanBeFollowed words b → IsBookInside (valued b)
inside words b can = record { cells = λ p c is. can.cells p (ap is_some is); trees = can.trees }

module _ (line : Line) (words : Words) (c : Change) (s : Shift) (old new : Option Values) (sound : IsSound s) (is : shift_of line c ≡ Some s) where
  after : (b d : Workbook) → PartTurns line words c b d → drops_scope (form_of s) NO_SHEET ≡ false → IsBookAfter s (valued b) (valued d)
  after b d turns global = subst (λ (x : Workbook). IsBookAfter s (valued b) (valued x)) (sym (turns.operation s is).1) (book_after s b sound turns.before.cells global)

  removed_are : (b d : Workbook) → PartTurns line words c b d → AreRemoved s (valued b) (map cell_node c.replaced)
  removed_are b d turns p gone here = replaced_listed (c ∷ []) c.replaced p refl (turns.lost s p is gone here)

  pub lines_back : (back : Shift) (removed : List Node) → opposite_of s ≡ Some back → IsOnLines (form_of back) → removed ≡ map cell_node c.replaced → FollowsShiftBack s back [] removed old new → FollowsPartBack line words c old new
  lines_back back removed opposite lines same over b d customs today turns follows =
      over (valued b) (valued d) words customs today (inside words b turns.before) (after b d turns (keeps s back sound opposite NO_SHEET).0) turns.after.numbered (nothing_touched back (valued d) words lines) (nothing_known words)
      (subst (λ (ns : List Node). AreRemoved s (valued b) ns) (sym same) (removed_are b d turns)) (subst (λ (ns : List Node). AreKnown words ns) (sym same) (cells_known words c.replaced)) follows

  pub lines_forth : (sheet : ℕ) (axis : Axis) (edit : Edit) → form_of s ≡ Lines sheet axis edit → FollowsShift s [] old new → FollowsPartForth line words c old new
  lines_forth sheet axis edit form over b d customs today turns follows =
      over (valued b) (valued d) words words customs today (inside words b turns.before) (after b d turns (ap (λ f. drops_scope f NO_SHEET) form)) turns.before.numbered turns.after.numbered (λ i w e. e)
      (nothing_touched s (valued b) words (subst IsOnLines (sym form) tt)) (nothing_known words) follows

  pub block_back : (back : Shift) (source : Block) (to : Place) (moved removed : List Node) → form_of s ≡ Cells source to → opposite_of s ≡ Some back → IsBlockInside source → AreAdded (is_moved_node source to) [] moved → removed ≡ map cell_node c.replaced
      → FollowsShiftBack s back moved removed old new → FollowsPartBack line words c old new
  block_back back source to moved removed form opposite within are same over b d customs today turns follows =
      over (valued b) (valued d) words customs today (inside words b turns.before) (after b d turns (keeps s back sound opposite NO_SHEET).0) turns.after.numbered
      (touched_back source to moved are s back form opposite within (valued d) words) (known source to moved are words)
      (subst (λ (ns : List Node). AreRemoved s (valued b) ns) (sym same) (removed_are b d turns)) (subst (λ (ns : List Node). AreKnown words ns) (sym same) (cells_known words c.replaced)) follows

  pub block_forth : (source : Block) (to : Place) (moved : List Node) → form_of s ≡ Cells source to → AreAdded (is_moved_node source to) [] moved → FollowsShift s moved old new → FollowsPartForth line words c old new
  block_forth source to moved form are over b d customs today turns follows =
      over (valued b) (valued d) words words customs today (inside words b turns.before) (after b d turns (ap (λ f. drops_scope f NO_SHEET) form)) turns.before.numbered turns.after.numbered (λ i w e. e)
      (touched source to moved are s form (valued b) words) (known source to moved are words) follows

-- ---- dropped sheets

-- a name of the sheet is one of a word with a number
names_below : (words : List (List ℕ)) (sheet : ℕ) (a : Node) (key : Key) → node_at words a ≡ Some (book.name key) → (scope_sheet key.scope == sheet) ≡ true → is_name_below sheet (length words) a ≡ true
names_below words sheet (Cell p) key at on = absurd (cc)
names_below words sheet (Name scope number) key at on = by (slice_get words number) refl
  where
    back : (t : Bool) → (scope == NO_SHEET) ≡ t → scope_sheet (cond t None (Some scope)) ≡ scope
    back true e = sym (eqb-true scope NO_SHEET e)
    back false e = refl

    by : (o : Option (List ℕ)) → slice_get words number ≡ o → is_name_below sheet (length words) (Name scope number) ≡ true
    by None e = absurd (none-some (book.name key) (sym (ap (name_at scope) e) ∙ at))
    by (Some word) e =
        let same : book.name (record { scope = scope_at scope; word = word }) ≡ book.name key = same_Some (book.name (record { scope = scope_at scope; word = word })) (book.name key) (sym (ap (name_at scope) e) ∙ at) in
        let of_key : scope_at scope ≡ key.scope = cc in
        and_from (scope == sheet) (nat_lt number (length words))
        (ap (λ n. n == sheet) (sym (back (scope == NO_SHEET) refl) ∙ ap scope_sheet of_key) ∙ on)
        (lt-ltb number (length words) (slice_get_within words number word e))
names_below words sheet (Range block) key at on = absurd (none-some (book.name key) at)
names_below words sheet (Whole w) key at on = absurd (none-some (book.name key) at)

-- and such names are known
below_known : (words : List (List ℕ)) (sheet : ℕ) (a : Node) → is_name_below sheet (length words) a ≡ true → (x : book.Node) × (node_at words a ≡ Some x)
below_known words sheet (Cell p) h = absurd (false≢true h)
below_known words sheet (Name scope number) h = (
  book.name (record { scope = scope_at scope; word = get_or words number [] }),
  ap (name_at scope) (slice_get-get_or words number [] (ltb-true number (length words) (and_parts (scope == sheet) (nat_lt number (length words)) h).1)),
)
below_known words sheet (Range block) h = absurd (false≢true h)
below_known words sheet (Whole w) h = absurd (false≢true h)

module _ (words : List (List ℕ)) (sheet : ℕ) (names : List Node) (all : (a : Node) → has a names ≡ is_name_below sheet (length words) a) where
  -- they are what a dropped sheet touches beside what links tell
  names_touched : (s : Shift) (b : book.Workbook) → form_of s ≡ Sheet sheet → HasTouched s b words names
  names_touched s b form = record {
    filled = λ p moved some. absurd (false≢true (ap (λ f. is_moved_in f p) (sym form) ∙ moved));
    names = λ a key at drops some. all a ∙ names_below words sheet a key at (ap (λ f. drops_scope f (scope_sheet key.scope)) (sym form) ∙ drops);
  }

  names_known : AreKnown words names
  names_known a h = below_known words sheet a (sym (all a) ∙ h)

module _ (line : Line) (words : Words) (c : Change) (s : Shift) (old new : Option Values) (sound : IsSound s) (is : shift_of line c ≡ Some s) (sheet : ℕ) (form : form_of s ≡ Sheet sheet) (apart : ¬ (sheet ≡ NO_SHEET)) where
  global : drops_scope (form_of s) NO_SHEET ≡ false
  global = ap (λ f. drops_scope f NO_SHEET) form ∙ false_from_ne_true (NO_SHEET == sheet) (λ same. apart (sym (eqb-true NO_SHEET sheet same)))

  pub sheet_forth : (names : List Node) → ((a : Node) → has a names ≡ is_name_below sheet (length words) a) → FollowsShift s names old new → FollowsPartForth line words c old new
  sheet_forth names all over b d customs today turns follows =
      over (valued b) (valued d) words words customs today (inside words b turns.before) (after line words c s old new sound is b d turns global) turns.before.numbered turns.after.numbered (λ i w e. e)
      (names_touched words sheet names all s (valued b) form) (names_known words sheet names all) follows

-- only that operation has the form
pub is_drop : (s : Shift) (sheet : ℕ) → form_of s ≡ Sheet sheet → s ≡ DropSheet sheet
is_drop (InsertRows on start count) sheet e = absurd (cc)
is_drop (DeleteRows on start count) sheet e = absurd (cc)
is_drop (InsertCols on start count) sheet e = absurd (cc)
is_drop (DeleteCols on start count) sheet e = absurd (cc)
is_drop (MoveRows on start count before) sheet e = absurd (cc)
is_drop (MoveCols on start count before) sheet e = absurd (cc)
is_drop (MoveBlock source to) sheet e = absurd (cc)
is_drop (DropSheet on) sheet e = cc

module _ (line : Line) (words : Words) (c : Change) (s : Shift) (old new : Option Values) (sound : IsSound s) (is : shift_of line c ≡ Some s) (sheet : ℕ) (form : form_of s ≡ Sheet sheet) (apart : ¬ (sheet ≡ NO_SHEET))
    (nodes : List Node) (all : (a : Node) → has a nodes ≡ (is_name_below sheet (length words) a || has a (map cell_node c.replaced))) where
  same : s ≡ DropSheet sheet
  same = is_drop s sheet form

  back_known : AreKnown words nodes
  back_known a h = ⊎_elim
      (λ (name : is_name_below sheet (length words) a ≡ true). below_known words sheet a name)
      (λ (cell : has a (map cell_node c.replaced) ≡ true). cells_known words c.replaced a cell)
      (or_cases (is_name_below sheet (length words) a) (has a (map cell_node c.replaced)) (sym (all a) ∙ h))

  -- what of the sheet comes back is listed
  of_sheet : (b d : Workbook) → PartTurns line words c b d → HasOfSheet sheet (valued b) words nodes
  of_sheet b d turns a (book.place p) at on here =
      let gone : place_after s p ≡ None = ap (λ x. place_after x p) same ∙ ap (λ t. cond t None (Some p)) (eq-eqb p.sheet sheet on) in
      subst (λ n. IsTrue (has n nodes)) (sym (place_node words a p at))
      (all (Cell p) ∙ or_right (is_name_below sheet (length words) (Cell p)) (has (Cell p) (map cell_node c.replaced)) (replaced_listed (c ∷ []) c.replaced p refl (turns.lost s p is gone here)))
  of_sheet b d turns a (book.name key) at on here =
      all a ∙ or_left (is_name_below sheet (length words) a) (has a (map cell_node c.replaced)) (names_below words sheet a key at (eq-eqb (scope_sheet key.scope) sheet on))

  pub sheet_back : FollowsSheetBack sheet nodes old new → FollowsPartBack line words c old new
  sheet_back over b d customs today turns follows =
      over (valued b) (valued d) words customs today (inside words b turns.before)
      (subst (λ (x : Shift). IsBookAfter x (valued b) (valued d)) same (after line words c s old new sound is b d turns (global line words c s old new sound is sheet form apart))) turns.before.numbered (of_sheet b d turns) back_known follows

-- ---- changes of cells

isnt : (b : Bool) → (b ≡ true → ⊥) → b ≡ false
isnt true h = absurd (h refl)
isnt false h = refl

module _ (line : Line) (words : Words) (c : Change) (old new : Option Values) (touched : AreTouchedAtMost (is_listed (c ∷ [])) old new) (marked : IsStepMarked (c ∷ []) new) where
  pub cells_forth : FollowsPartForth line words c old new
  cells_forth b d customs today turns follows = by new refl
    where
      by : (o : Option Values) → new ≡ o → FollowsIn (valued d) words customs today new
      by None e = subst (FollowsIn (valued d) words customs today) (sym e) tt
      by (Some v) e =
          let (cells, listed) = subst (IsStepMarked (c ∷ [])) e marked in
          let differ = turns.cells cells.0 in
          cells_follow (valued b) (valued d) words words customs today (is_listed (c ∷ [])) old new turns.before.numbered turns.after.numbered (λ i w h. h) touched (ap (λ ns. fin.entries ns) (sym differ.names))
          (λ q out. sym (differ.cells q (isnt (is_listed (c ∷ []) q) (λ has_it. out (subst (λ (o : Option Values). IsMarkedIn o q) (sym e) (listed q has_it)))))) follows

  pub cells_back : FollowsPartBack line words c old new
  cells_back b d customs today turns follows = by new refl
    where
      by : (o : Option Values) → new ≡ o → FollowsIn (valued b) words customs today new
      by None e = subst (FollowsIn (valued b) words customs today) (sym e) tt
      by (Some v) e =
          let (cells, listed) = subst (IsStepMarked (c ∷ [])) e marked in
          let differ = turns.cells cells.0 in
          cells_follow (valued d) (valued b) words words customs today (is_listed (c ∷ [])) old new turns.after.numbered turns.before.numbered (λ i w h. h) touched (ap (λ ns. fin.entries ns) differ.names)
          (λ q out. differ.cells q (isnt (is_listed (c ∷ []) q) (λ has_it. out (subst (λ (o : Option Values). IsMarkedIn o q) (sym e) (listed q has_it))))) follows

-- ---- changes of a name

module _ (words : Words) (key : NameKey) (had has_it : Bool) (b d : Workbook) (renamed : IsRenamed words key had has_it b d) (numbered : AreNumbered words (valued b).names) (now : AreNumbered words (valued d).names) where
  renamed_in : (old new : Option Values) (customs : List (List ℕ × Rule)) (today : ℤ) → FollowsTurnIn key (turn_of had has_it) words old new → FollowsIn (valued b) words customs today old → FollowsIn (valued d) words customs today new
  renamed_in old new customs today over follows =
      let k = key_spelt key renamed.word in
      over renamed.word renamed.spelt (valued b) (valued d) customs today numbered now
      (subst (λ (x : Workbook). DifferInName (valued b) (valued x) k) (sym renamed.turned) (named_differ k renamed.tree b))
      (stood k b had renamed.was ∙ sym (turn_had had has_it))
      (ap (λ (x : Workbook). is_some (tree_in (valued x).names k)) renamed.turned ∙ ap is_some (named_now k renamed.tree b) ∙ renamed.some ∙ sym (turn_has had has_it)) follows

module _ (line : Line) (words : Words) (c : Change) (key : NameKey) (before after : Option ℕ) (named : name_alone c ≡ Some (key, (before, after))) (old new : Option Values) where
  pub name_back : FollowsTurnIn key (turn_of (is_some after) (is_some before)) words old new → FollowsPartBack line words c old new
  name_back over b d customs today turns follows =
      renamed_in words key (is_some after) (is_some before) d b (turns.back key before after named) turns.after.numbered turns.before.numbered old new customs today over follows

  pub name_forth : FollowsTurnIn key (turn_of (is_some before) (is_some after)) words old new → FollowsPartForth line words c old new
  name_forth over b d customs today turns follows =
      renamed_in words key (is_some before) (is_some after) b d (turns.forth key before after named) turns.before.numbered turns.after.numbered old new customs today over follows

-- ---- where nothing is kept any more

pub nothing_back : (line : Line) (words : Words) (c : Change) (old new : Option Values) → new ≡ None → FollowsPartBack line words c old new
nothing_back line words c old new none b d customs today turns follows = subst (FollowsIn (valued b) words customs today) (sym none) tt

pub nothing_forth : (line : Line) (words : Words) (c : Change) (old new : Option Values) → new ≡ None → FollowsPartForth line words c old new
nothing_forth line words c old new none b d customs today turns follows = subst (FollowsIn (valued d) words customs today) (sym none) tt

-- ---- one part after the other

module _ (line : Line) (words : Words) where
  split : (cs : List Change) (c : Change) (b d : Workbook) → Turns line words (cs ++ c ∷ []) b d → (e : Workbook) × Turns line words cs b e × PartTurns line words c e d
  split [] c b d turns = (b, refl, subst (λ (x : Workbook). PartTurns line words c b x) turns.2 turns.1)
  split (a ∷ cs) c b d turns = let rest = split cs c turns.0 d turns.2 in (rest.0, (turns.0, turns.1, rest.1), rest.2)

  pub back_more : (cs more rest : List Change) (c : Change) (old now new : Option Values) → more ≡ rest ++ c ∷ [] → IsBackTo line words cs more old now → FollowsPartBack line words c now new → IsBackTo line words cs rest old new
  back_more cs more rest c old now new ends before part b d customs today turns follows =
      let (e, along, there) = before b d customs today turns follows in
      let parted = split rest c b e (subst (λ l. Turns line words l b e) ends along) in
      (parted.0, parted.1, part parted.0 e customs today parted.2 there)

  pub back_done : (cs left : List Change) (old new : Option Values) → left ≡ [] → IsBackTo line words cs left old new → FollowsPartsBack line words cs old new
  back_done cs left old new none all b d customs today turns follows =
      let (e, along, there) = all b d customs today turns follows in
      let same : b ≡ e = subst (λ l. Turns line words l b e) none along in
      subst (λ (x : Workbook). FollowsIn (valued x) words customs today new) (sym same) there

  pub back_first : (cs left : List Change) (old : Option Values) → left ≡ cs → IsBackTo line words cs left old old
  back_first cs left old all b d customs today turns follows = (d, subst (λ l. Turns line words l b d) (sym all) turns, follows)

  pub forth_more : (cs more rest : List Change) (c : Change) (old now new : Option Values) → more ≡ c ∷ rest → IsForthTo line words cs more old now → FollowsPartForth line words c now new → IsForthTo line words cs rest old new
  forth_more cs more rest c old now new begins before part b d customs today turns follows =
      let (e, along, there) = before b d customs today turns follows in
      let parted = subst (λ l. Turns line words l e d) begins along in
      (parted.0, parted.2, part e parted.0 customs today parted.1 there)

  pub forth_done : (cs left : List Change) (old new : Option Values) → left ≡ [] → IsForthTo line words cs left old new → FollowsPartsForth line words cs old new
  forth_done cs left old new none all b d customs today turns follows =
      let (e, along, there) = all b d customs today turns follows in
      let same : e ≡ d = subst (λ l. Turns line words l e d) none along in
      subst (λ (x : Workbook). FollowsIn (valued x) words customs today new) same there

  pub forth_first : (cs : List Change) (old : Option Values) → IsForthTo line words cs cs old old
  forth_first cs old b d customs today turns follows = (b, turns, follows)

-- so it is where a part of cells alone was marked, if there was memory for it
pub cells_back_ok : {X E : Type 0} (r : Result X E) (line : Line) (words : Words) (c : Change) (old new : Option Values) → AreTouchedAtMost (is_listed (c ∷ [])) old new → OnOk r (IsStepMarked (c ∷ []) new) → OnOk r (FollowsPartBack line words c old new)
cells_back_ok (Ok x) line words c old new touched marked = cells_back line words c old new touched marked
cells_back_ok (Err e) line words c old new touched marked = tt

pub cells_forth_ok : {X E : Type 0} (r : Result X E) (line : Line) (words : Words) (c : Change) (old new : Option Values) → AreTouchedAtMost (is_listed (c ∷ [])) old new → OnOk r (IsStepMarked (c ∷ []) new) → OnOk r (FollowsPartForth line words c old new)
cells_forth_ok (Ok x) line words c old new touched marked = cells_forth line words c old new touched marked
cells_forth_ok (Err e) line words c old new touched marked = tt
