-- What is kept of values follows over a step that is one structural operation. Serves steps back and forth.
use Rattle.std.proofs.Common.{◌≡◌, sym, subst, refl, ℕ, nat_lt, cond, Bool, true, false, List, [], ◌∷◌, Option, Some, None, IsSome}
use Rattle.std.specs.Prelude.{IfSome, IsTrue}
use Rattle.std.proofs.lemmas.Option.{none-some}
use Rattle.cell_addr.specs.declared.place.Place.{Place}
use Rattle.cell_addr.specs.declared.place.TheConstants.{NO_SHEET}
use Rattle.shift_core.specs.Form.{form_of}
use Rattle.shift_core.specs.Opposite.{opposite_of}
use Rattle.shift_core.specs.Sound.{IsSound as CanBeDone}
use Rattle.shift_core.specs.declared.shift.Shift.{Shift}
use Rattle.book_model.specs.Answers.{valued}
use Rattle.book_model.specs.Changes.{shifted}
use Rattle.book_model.specs.Sound.{IsSound}
use Rattle.book_model.specs.Workbook.{State, Workbook}
use Rattle.dep_graph.specs.Nodes.{has}
use Rattle.dep_graph.specs.declared.node.Node.{Node}
use Rattle.dep_graph.specs.declared.node.Node.TheVariants.{Cell}
use Rattle.recalc_core.specs.Laws.{AreKnown}
use Rattle.recalc_core.specs.Shifted.{drops_scope}
use Rattle.session_values.specs.Shifts.{IsBookAfter}
use Rattle.session_values.proofs.GoingBack.{keeps}
use Rattle.session_values.proofs.Shifting.{all_inside, book_after, sessions_are_inside}
use Rattle.session_values.specs.Suspects.{AreRemoved}
use Rattle.kept_book.specs.Change.{Change}
use Rattle.kept_book.specs.Kept.{IsMore, line_of}
use Rattle.kept_steps.specs.Turned.{ListsLost, Operates, is_replaced, operation_of, replaced_of, to_redo, to_undo}
use Rattle.kept_steps.specs.declared.session.Session.{Session}
use Rattle.session_values.specs.Shifted.{HasTouched}
use Rattle.session_values.specs.Following.{FollowsIn, book_of, words_in}
use Rattle.session_values.specs.Shifting.{FollowsShift, FollowsShiftBack}
use Rattle.session_operations.specs.Seen.{ValuesFollowStill, state_of}
use Rattle.session_operations.specs.declared.parts.Parts.{Parts}
use Rattle.session_operations.proofs.Following.{numbered_in}

-- the operation of a step can be done
pub operation_sound : (x : Session) (changes : List Change) (s : Shift) → operation_of (line_of x.book) changes ≡ Some s → CanBeDone s
operation_sound x [] s is = absurd (none-some s is)
operation_sound x (c ∷ []) s is = by (nat_lt c.from c.to) is
  where
    by : (t : Bool) → cond t (line_of x.book c.from) None ≡ Some s → CanBeDone s
    by true h = x.book.lazy.sound c.from s h
    by false h = absurd (none-some s h)
operation_sound x (c ∷ d ∷ cs) s is = absurd (none-some s is)

pub sound_if_some : (x : Session) (changes : List Change) (o : Option Shift) → o ≡ operation_of (line_of x.book) changes → IfSome o CanBeDone
sound_if_some x changes None is = tt
sound_if_some x changes (Some s) is = operation_sound x changes s (sym is)

-- the step that is one is one change
one_change : (x : Session) (changes : List Change) (s : Shift) → operation_of (line_of x.book) changes ≡ Some s → IsSome (replaced_of changes)
one_change x [] s is = absurd (none-some s is)
one_change x (c ∷ []) s is = refl
one_change x (c ∷ d ∷ cs) s is = absurd (none-some s is)

-- the workbook after an operation that leaves the names of the whole workbook
operated : (s : Shift) (d e : State) → IsSound d → CanBeDone s → drops_scope (form_of s) NO_SHEET ≡ false → e.book ≡ shifted s d.book → IsBookAfter s (valued d.book) (valued e.book)
operated s d e sound can global same = subst (λ (b : Workbook). IsBookAfter s (valued d.book) (valued b)) (sym same) (book_after s d.book can (all_inside d.next_sheet d.book sound.book) global)

-- what the step lists is what the operation had removed
pub are_removed : (x : Session) (d : State) (s : Shift) (restored : List Node) → operation_of (line_of x.book) (to_undo x) ≡ Some s → ListsLost (line_of x.book) (to_undo x) d.book
    → ((p : Place) → IsSome (replaced_of (to_undo x)) → is_replaced (to_undo x) p ≡ true → IsTrue (has (Cell p) restored)) → AreRemoved s (valued d.book) restored
are_removed x d s restored is lost listed p gone here = listed p (one_change x (to_undo x) s is) (lost s p is gone here)

-- over an operation that is taken back
pub follow_back : (s back : Shift) (old new : Parts) (touched restored : List Node) → IsSound (state_of new) → operation_of (line_of old.session.book) (to_undo old.session) ≡ Some s → opposite_of s ≡ Some back
    → Operates (line_of old.session.book) (to_undo old.session) (state_of new).book (state_of old).book → words_in new.session ≡ words_in old.session
    → HasTouched back (book_of old.session) (words_in old.session) touched → AreKnown (words_in old.session) touched → AreRemoved s (book_of new.session) restored → AreKnown (words_in old.session) restored
    → FollowsShiftBack s back touched restored old.values.values new.values.values → ValuesFollowStill old new
follow_back s back old new touched restored sound is opposite operates words has_touched known removed removed_known over customs today follows =
    let can = operation_sound old.session (to_undo old.session) s is in
    subst (λ (ws : List (List ℕ)). FollowsIn (book_of new.session) ws customs today new.values.values) (sym words)
    (over (book_of new.session) (book_of old.session) (words_in old.session) customs today (sessions_are_inside (state_of new) sound)
    (operated s (state_of new) (state_of old) sound can (keeps s back can opposite NO_SHEET).0 (operates s is).1) (numbered_in old.session) has_touched known removed removed_known follows)

-- and over one that is done again
pub follow_forth : (s : Shift) (old new : Parts) (touched : List Node) → IsSound (state_of old) → operation_of (line_of old.session.book) (to_redo old.session) ≡ Some s → drops_scope (form_of s) NO_SHEET ≡ false
    → Operates (line_of old.session.book) (to_redo old.session) (state_of old).book (state_of new).book → IsMore (words_in old.session) (words_in new.session)
    → HasTouched s (book_of old.session) (words_in old.session) touched → AreKnown (words_in old.session) touched → FollowsShift s touched old.values.values new.values.values → ValuesFollowStill old new
follow_forth s old new touched sound is global operates more has_touched known over customs today follows =
    over (book_of old.session) (book_of new.session) (words_in old.session) (words_in new.session) customs today (sessions_are_inside (state_of old) sound)
    (operated s (state_of old) (state_of new) sound (operation_sound old.session (to_redo old.session) s is) global (operates s is).1) (numbered_in old.session) (numbered_in new.session) more has_touched known follows
