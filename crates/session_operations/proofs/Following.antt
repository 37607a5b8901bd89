-- What is kept of values follows a session still. Serves the calls of the engine.
use Rattle.std.proofs.Common.{◌≡◌, ◌∙◌, sym, ap, subst, refl, Bool, true, false, ℕ, List, Option, Some, None, is_some, Result, Ok, Err, ⊎_elim}
use Rattle.std.specs.FinMap as fin
use Rattle.std.specs.Prelude.{OnErr, OnOk, slice_get}
use Rattle.cell_addr.specs.Place.{IsBlockInside, covers}
use Rattle.cell_addr.specs.declared.place.Block.{Block}
use Rattle.cell_addr.specs.declared.place.Place.{Place}
use Rattle.clip_board.specs.declared.clip.CopyItem.{CopyItem}
use Rattle.shift_core.specs.Carried.{destination}
use Rattle.formula_tree.specs.Term.{Term}
use Rattle.formula_tree.specs.declared.reference.Corner.{Corner}
use Rattle.shift_core.specs.declared.shift.Shift.{Shift}
use Rattle.name_table.specs.Named.{names_of, words_of}
use Rattle.name_table.specs.declared.key.NameKey.{NameKey}
use Rattle.book_values.specs.Names.{Key, tree_in}
use Rattle.book_values.specs.Workbook as values
use Rattle.book_model.specs.Answers.{valued}
use Rattle.book_model.specs.Changes.{shifted, with_copy, with_name}
use Rattle.book_model.specs.Operation.{structural}
use Rattle.book_model.specs.Refusals.{cause}
use Rattle.book_model.specs.Session.{changed, changed_in}
use Rattle.book_model.specs.Sound.{IsSound}
use Rattle.book_model.specs.Workbook.{Batch, State, Workbook, has_name}
use Rattle.dep_graph.specs.declared.node.Node.{Node}
use Rattle.recalc_core.specs.Edits.{DifferInName}
use Rattle.recalc_core.specs.Laws.{AreKnown}
use Rattle.recalc_core.specs.Nodes.{AreNumbered}
use Rattle.session_values.specs.Shifts.{IsBookAfter}
use Rattle.session_values.proofs.Contents.{unpasted}
use Rattle.session_values.proofs.Naming.{named_differ, named_now, stood}
use Rattle.session_values.proofs.Shifting.{accepted_shifts_lead_on, sessions_are_inside}
use Rattle.session_values.specs.Shifted.{HasTouched}
use Rattle.session_values.specs.KeptValues.{Values}
use Rattle.kept_book.specs.Change.{Change}
use Rattle.kept_book.specs.Copied.{contents_copied}
use Rattle.kept_book.specs.Kept.{IsMore, at_of, frame_of}
use Rattle.kept_book.specs.declared.book.Book.{Book}
use Rattle.kept_steps.proofs.GivenNodes.{numbered}
use Rattle.kept_steps.specs.Reads.{Reads}
use Rattle.kept_steps.specs.Timeline.{book_in, timeline_of}
use Rattle.kept_steps.specs.Turned.{AreOfCells, DifferAmong, IsRenamed, is_listed, key_spelt}
use Rattle.kept_steps.specs.declared.session.Session.{Session}
use Rattle.session_values.specs.Following.{FollowsIn, book_of, words_in}
use Rattle.session_values.specs.Naming.{FollowsName, FollowsTurn, has_formula, turn_of}
use Rattle.session_values.specs.Shifting.{FollowsShift}
use Rattle.session_values.specs.Touched.{AreTouched, AreTouchedAtMost, IsMarkedIn, IsStepMarked}
use Rattle.session_values.proofs.Followed.{cells_follow}
use Rattle.session_values.proofs.NamedBetween.{turn_had, turn_has}
use Rattle.session_values.proofs.MarkedCells.{at_most, at_most_on, marked_on, untouched}
use Rattle.session_operations.specs.Seen.{ValuesFollowStill, state_of}
use Rattle.session_operations.specs.internal.Touched.{AreFilledMarked}
use Rattle.session_operations.specs.declared.parts.Parts.{Parts}

-- each name of a session is a node
pub numbered_in : (s : Session) → AreNumbered (words_in s) (book_of s).names
numbered_in s =
    let b = s.book in
    numbered (at_of b) b.lazy.line.cursor (words_of b.names) b.names.words.proper (names_of b.names) s.fits.stand.names (book_of s) refl

pub more_as : {words more : List (List ℕ)} → more ≡ words → IsMore words more
more_as same i w h = subst (λ (ws : List (List ℕ)). slice_get ws i ≡ Some w) (sym same) h

-- where nothing is kept
pub follow_none : (old new : Parts) → new.values.values ≡ None → ValuesFollowStill old new
follow_none old new none customs today follows = subst (FollowsIn (book_of new.session) (words_in new.session) customs today) (sym none) tt

-- over a change of cells that leaves the names
follow_cells : (places : Place → Bool) (old new : Parts) → IsMore (words_in old.session) (words_in new.session) → AreTouchedAtMost places old.values.values new.values.values → (book_of old.session).names ≡ (book_of new.session).names
    → ((q : Place) → (IsMarkedIn new.values.values q → ⊥) → fin.get (book_of old.session).cells q ≡ fin.get (book_of new.session).cells q) → ValuesFollowStill old new
follow_cells places old new more touched names cells customs today follows =
    cells_follow (book_of old.session) (book_of new.session) (words_in old.session) (words_in new.session) customs today places old.values.values new.values.values (numbered_in old.session) (numbered_in new.session) more touched names cells follows

-- where the workbook stays, though cells were touched
follow_book : (places : Place → Bool) (old new : Parts) → IsMore (words_in old.session) (words_in new.session) → AreTouchedAtMost places old.values.values new.values.values → book_of new.session ≡ book_of old.session → ValuesFollowStill old new
follow_book places old new more touched same =
    follow_cells places old new more touched (ap (λ (b : values.Workbook). b.names) (sym same)) (λ q out. ap (λ (b : values.Workbook). fin.get b.cells q) (sym same))

pub follow_touched : (places : Place → Bool) (old new : Parts) → IsMore (words_in old.session) (words_in new.session) → AreTouchedAtMost places old.values.values new.values.values → state_of new ≡ state_of old → ValuesFollowStill old new
follow_touched places old new more touched same = follow_book places old new more touched (ap (λ (d : State). valued d.book) same)

-- where what has values stays
pub follow_values : (old new : Parts) → IsMore (words_in old.session) (words_in new.session) → new.values.values ≡ old.values.values → book_of new.session ≡ book_of old.session → ValuesFollowStill old new
follow_values old new more kept same =
    follow_book (λ q. true) old new more (subst (AreTouchedAtMost (λ q. true) old.values.values) (sym kept) (at_most (λ q. true) old.values.values old.values.values (untouched (λ q. true) old.values.values))) same

-- where the session stays, though words came
pub follow_state : (old new : Parts) → IsMore (words_in old.session) (words_in new.session) → new.values.values ≡ old.values.values → state_of new ≡ state_of old → ValuesFollowStill old new
follow_state old new more kept same = follow_values old new more kept (ap (λ (d : State). valued d.book) same)

-- where the kept workbook stays
pub follow_same : (old new : Parts) → new.session.book ≡ old.session.book → new.values.values ≡ old.values.values → ValuesFollowStill old new
follow_same old new same kept =
    follow_values old new (more_as (ap (λ (b : Book). words_of b.names) same)) kept (ap (λ (b : Book). valued (book_in (timeline_of b) (frame_of b))) same)

-- over reads
pub follow_reads : (old new : Parts) → Reads old.session new.session → new.values.values ≡ old.values.values → ValuesFollowStill old new
follow_reads old new reads kept = follow_state old new (more_as (ap words_of reads.names)) kept reads.state

-- the workbook after a change
pub changed_book : (b : Workbook) (d : State) → (changed b d).book ≡ b
changed_book b d = by d.batch
  where
    by : (o : Option Batch) → (changed_in o b d).book ≡ b
    by None = refl
    by (Some x) = refl

-- over a change that is a step
pub follow_changed : (places : Place → Bool) (old new : Parts) (b : Workbook) → IsMore (words_in old.session) (words_in new.session) → AreTouchedAtMost places old.values.values new.values.values
    → state_of new ≡ changed b (state_of old) → (state_of old).book.names ≡ b.names
    → ((q : Place) → (IsMarkedIn new.values.values q → ⊥) → fin.get (state_of old).book.cells q ≡ fin.get b.cells q) → ValuesFollowStill old new
follow_changed places old new b more touched is names cells =
    let same : (state_of new).book ≡ b = ap (λ (d : State). d.book) is ∙ changed_book b (state_of old) in
    follow_cells places old new more touched (ap (λ ns. fin.entries ns) (names ∙ ap (λ (c : Workbook). c.names) (sym same))) (λ q out. cells q out ∙ ap (λ (c : Workbook). fin.get c.cells q) (sym same))

-- over a structural operation that no cause refuses
pub follow_shift : (s : Shift) (old new : Parts) (touched : List Node) → IsSound (state_of old) → cause (structural s) (state_of old) ≡ None → state_of new ≡ changed (shifted s (state_of old).book) (state_of old)
    → IsMore (words_in old.session) (words_in new.session) → HasTouched s (book_of old.session) (words_in old.session) touched → AreKnown (words_in old.session) touched
    → FollowsShift s touched old.values.values new.values.values → ValuesFollowStill old new
follow_shift s old new touched sound accepted is more has known over customs today follows =
    let same : (state_of new).book ≡ shifted s (state_of old).book = ap (λ (d : State). d.book) is ∙ changed_book (shifted s (state_of old).book) (state_of old) in
    over (book_of old.session) (book_of new.session) (words_in old.session) (words_in new.session) customs today (sessions_are_inside (state_of old) sound)
    (subst (λ (b : Workbook). IsBookAfter s (book_of old.session) (valued b)) (sym same) (accepted_shifts_lead_on s (state_of old) sound accepted).1) (numbered_in old.session) (numbered_in new.session) more has known follows

-- over a step that is taken back or done again
pub follow_turned : (changes : List Change) (old new : Parts) → IsMore (words_in old.session) (words_in new.session) → AreTouchedAtMost (is_listed changes) old.values.values new.values.values → IsStepMarked changes new.values.values
    → (AreOfCells changes → DifferAmong (is_listed changes) (state_of old).book (state_of new).book) → ValuesFollowStill old new
follow_turned changes old new more touched marked others = by new.values.values refl
  where
    isnt : (b : Bool) → (b ≡ true → ⊥) → b ≡ false
    isnt true h = absurd (h refl)
    isnt false h = refl

    by : (o : Option Values) → new.values.values ≡ o → ValuesFollowStill old new
    by None e = follow_none old new e
    by (Some v) e =
        let (cells, listed) = subst (IsStepMarked changes) e marked in
        let differ = others cells in
        follow_cells (is_listed changes) old new more touched (ap (λ ns. fin.entries ns) (sym differ.names))
        (λ q out. sym (differ.cells q (isnt (is_listed changes q) (λ is. out (subst (λ (o : Option Values). IsMarkedIn o q) (sym e) (listed q is))))))

-- over a paste of copied cells of a block, where the filled cells of the block there were marked before it and after it
pub follow_pasted : (area : Block) (items : List (Place × CopyItem)) (at : Place) → IsBlockInside area → (old new : Parts) (between : Option Values) → IsMore (words_in old.session) (words_in new.session)
    → state_of new ≡ changed (with_copy area (contents_copied items) at (state_of old).book) (state_of old)
    → AreTouched (covers (destination area at)) old.values.values between → AreTouchedAtMost (covers (destination area at)) between new.values.values
    → AreFilledMarked (destination area at) old.session between → AreFilledMarked (destination area at) new.session new.values.values → ValuesFollowStill old new
follow_pasted area items at inside old new between more is first next before after =
    let there = covers (destination area at) in
    let b = (state_of old).book in
    let c = with_copy area (contents_copied items) at b in
    let same : (state_of new).book ≡ c = ap (λ (d : State). d.book) is ∙ changed_book c (state_of old) in
    follow_changed there old new c more (at_most_on there old.values.values between new.values.values (at_most there old.values.values between first) next) is refl
    (λ q out. unpasted area (contents_copied items) at b q inside (λ covered filled. ⊎_elim
    (λ (was : is_some (fin.get b.cells q) ≡ true). out (marked_on there between new.values.values q next (before q covered was)))
    (λ (comes : is_some (fin.get c.cells q) ≡ true). out (after q covered (ap (λ (x : Workbook). is_some (fin.get x.cells q)) same ∙ comes)))
    filled))

-- and where that may want memory
pub follow_step : {X E : Type 0} (r : Result X E) (changes : List Change) (old new : Parts) → IsMore (words_in old.session) (words_in new.session) → AreTouchedAtMost (is_listed changes) old.values.values new.values.values → IsStepMarked changes new.values.values
    → OnOk r (AreOfCells changes → DifferAmong (is_listed changes) (state_of old).book (state_of new).book) → OnErr r (state_of new ≡ state_of old) → ValuesFollowStill old new
follow_step (Ok x) changes old new more touched marked others same = follow_turned changes old new more touched marked others
follow_step (Err e) changes old new more touched marked others same = follow_touched (is_listed changes) old new more touched same

-- over a change of a name: it is added, has another formula, or is gone
pub follow_name : (key : Key) (had : Bool) (o : Option (Term Corner)) (old new : Parts) → IsMore (words_in old.session) (words_in new.session) → (state_of new).book ≡ with_name key o (state_of old).book
    → has_name (state_of old).book key ≡ had → FollowsName key new.session had (is_some o) old.values.values new.values.values → ValuesFollowStill old new
follow_name key had o old new more same was over customs today follows =
    let b = (state_of old).book in
    over (book_of old.session) (words_in old.session) customs today (numbered_in old.session) (numbered_in new.session) more
    (subst (λ (x : Workbook). DifferInName (valued b) (valued x) key) (sym same) (named_differ key o b)) (stood key b had was)
    (ap (λ (x : Workbook). is_some (tree_in (valued x).names key)) same ∙ ap is_some (named_now key o b)) follows

pub follow_named : (key : Key) (had : Bool) (o : Option (Term Corner)) (old new : Parts) → IsMore (words_in old.session) (words_in new.session) → state_of new ≡ changed (with_name key o (state_of old).book) (state_of old)
    → has_name (state_of old).book key ≡ had → FollowsName key new.session had (is_some o) old.values.values new.values.values → ValuesFollowStill old new
follow_named key had o old new more is was over =
    follow_name key had o old new more (ap (λ (d : State). d.book) is ∙ changed_book (with_name key o (state_of old).book) (state_of old)) was over

-- and so over a step back or forth that is such a change
pub follow_renamed : (key : NameKey) (had has : Bool) (old new : Parts) → words_in new.session ≡ words_in old.session → IsRenamed (words_in old.session) key had has (state_of old).book (state_of new).book
    → FollowsTurn key (turn_of had has) new.session old.values.values new.values.values → ValuesFollowStill old new
follow_renamed key had has old new words renamed over =
    follow_name (key_spelt key renamed.word) had renamed.tree old new (more_as words) renamed.turned renamed.was
    (subst (λ (t : Bool). FollowsName (key_spelt key renamed.word) new.session had t old.values.values new.values.values) (turn_has had has ∙ sym renamed.some)
    (subst (λ (t : Bool). FollowsName (key_spelt key renamed.word) new.session t (has_formula (turn_of had has)) old.values.values new.values.values) (turn_had had has)
    (over renamed.word (ap (λ (ws : List (List ℕ)). slice_get ws key.word) words ∙ renamed.spelt))))
