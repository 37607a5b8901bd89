-- A call leads from one sound session to another. Serves the calls of the engine.
use Rattle.std.proofs.Common.{◌≡◌, ◌∙◌, sym, ap, subst, refl, arith, ℕ, ◌==◌, Bool, true, false, cond, not, [], Option, Some, None, is_some, IsSome, Result, Ok, Err}
use Rattle.std.proofs.lemmas.Bool.{false≢true}
use Rattle.std.proofs.lemmas.Bool.Decides.{nat_tests}
use Rattle.std.proofs.lemmas.List.Elements.{All-nil}
use Rattle.std.specs.FinMap.{get-retain_keys, same_map}
use Rattle.cell_addr.proofs.Places.{place_cmp-IsTotalOrder, place_cmp-IsAntisymmetric}
use Rattle.std.specs.FinMap as fin
use Rattle.cell_addr.specs.Place.{IsInside, covers}
use Rattle.cell_addr.specs.declared.place.Place.{Place}
use Rattle.book_values.specs.Book.{Book as Contents, Content}
use Rattle.shift_core.specs.Maps.{AreInside}
use Rattle.book_model.specs.Operation.{Operation}
use Rattle.book_model.specs.Refusals.{cause}
use Rattle.book_model.specs.Session.{done, next, unless_refused}
use Rattle.book_model.specs.Sound.{ClearedBy, IsSound, IsSoundBook}
use Rattle.book_model.specs.Workbook.{Batch, State}
use Rattle.book_model.specs.declared.refusal.Refusal.{Refusal}
use Rattle.book_model.proofs.SoundSteps.{next_sound, refused_same}
use Rattle.session_operations.specs.declared.stop.Stop.{Stop}
use Rattle.session_operations.specs.declared.stop.Stop.TheVariants.{Refused, NoMemory}
use Rattle.session_operations.specs.Kept.{whole_sheet}
use Rattle.session_operations.specs.Turns.{Turns}

-- the session after a call is sound
pub turned_sound : {X : Type 0} (op : Operation) (Answers : State → X → Type 0) (old new : State) (r : Result X Stop) → Turns op Answers old new r → IsSound old → IsSound new
turned_sound op Answers old new (Ok x) t s = subst IsSound (sym t.2) (next_sound op old s)
turned_sound op Answers old new (Err (Refused r)) t s = subst IsSound (sym t.1) (next_sound op old s)
turned_sound op Answers old new (Err NoMemory) t s = subst IsSound (sym t) s

-- an operation for which no cause holds is done
pub next_done : (op : Operation) (d : State) → cause op d ≡ None → next op d ≡ done op d
next_done op d e = ap (λ r. unless_refused r (done op d) d) e

-- a refused one leaves the session
pub next_refused : (op : Operation) (d : State) (r : Refusal) → cause op d ≡ Some r → d ≡ next op d
next_refused op d r e = sym (refused_same op d r e)

-- the session after an operation that is done is sound
pub done_sound : (op : Operation) (d e : State) → cause op d ≡ None → e ≡ done op d → IsSound d → IsSound e
done_sound op d e none same s = subst IsSound (sym (same ∙ sym (next_done op d none))) (next_sound op d s)

-- the cells of a sound session are inside
pub sound_inside : (d : State) → IsSound d → AreInside d.book.cells
sound_inside d s p some = go (fin.get d.book.cells p) refl some
  where
    go : (r : Option Content) → fin.get d.book.cells p ≡ r → IsSome r → IsInside p
    go None e some = cc
    go (Some x) e some = (s.book.cells p x e).0

-- a filled cell of a sound session is inside
pub filled_inside : (d : State) → IsSound d → (p : Place) → is_some (fin.get d.book.cells p) ≡ true → IsInside p
filled_inside d s p some = sound_inside d s p (is_there (fin.get d.book.cells p) some)
  where
    is_there : (o : Option Content) → is_some o ≡ true → IsSome o
    is_there None h = absurd (false≢true h)
    is_there (Some x) h = h

-- the places of a sheet are in it
pub covers_same : (sheet : ℕ) (p : Place) → IsInside p → covers (whole_sheet sheet) p ≡ (p.sheet == sheet)
covers_same sheet p i = grind (arith, nat_tests)

-- to empty a whole sheet is to empty its cells
pub emptied_sheet : (m : Contents) (sheet : ℕ) → AreInside m → fin.retain_keys m (λ p. not (covers (whole_sheet sheet) p)) ≡ fin.retain_keys m (λ p. not (p.sheet == sheet))
emptied_sheet m sheet inside = same_map place_cmp-IsTotalOrder place_cmp-IsAntisymmetric _ _ (λ q.
    get-retain_keys m (λ p. not (covers (whole_sheet sheet) p)) q (λ x t. ap (λ r. not (covers (whole_sheet sheet) r)) (sym (place_cmp-IsAntisymmetric q x t)))
    ∙ go q (fin.get m q) refl
    ∙ sym (get-retain_keys m (λ p. not (p.sheet == sheet)) q (λ x t. ap (λ r. not (r.sheet == sheet)) (sym (place_cmp-IsAntisymmetric q x t)))))
  where
    none : (b c : Bool) → cond {A = Option Content} b None None ≡ cond c None None
    none true true = refl
    none true false = refl
    none false true = refl
    none false false = refl

    go : (q : Place) (r : Option Content) → fin.get m q ≡ r → cond (not (covers (whole_sheet sheet) q)) r None ≡ cond (not (q.sheet == sheet)) r None
    go q None e = none (not (covers (whole_sheet sheet) q)) (not (q.sheet == sheet))
    go q (Some x) e = ap (λ b. cond (not b) (Some x) None) (covers_same sheet q (inside q (ap is_some e)))

-- a session is sound without its steps
pub forgotten_sound : (d : State) → IsSound d → IsSound (record d { undo = []; redo = [] })
forgotten_sound d s = record {
  book = s.book;
  undo = All-nil (IsSoundBook d.next_sheet);
  redo = All-nil (IsSoundBook d.next_sheet);
  batch = s.batch;
  clip = s.clip;
  few = s.few;
  cleared = none_left d.batch;
  steps = omega arith;
  limit = s.limit;
}
  where
    none_left : (batch : Option Batch) → ClearedBy batch []
    none_left None = tt
    none_left (Some batch) = λ changed. refl
