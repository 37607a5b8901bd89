-- Steps of a list, as one is added, taken back or done again. Serves the sessions after calls.
use Rattle.std.proofs.Common.{◌≡◌, ◌∙◌, sym, ap, refl, arith, inl, inr, ℕ, zero, suc, ◌<◌, ◌≤◌, ◌-◌, List, [], ◌∷◌, ◌++◌, length, map, reverse, take, drop}
use Rattle.std.proofs.Math.Seq.{take-append_seam}
use Rattle.std.proofs.lemmas.Bool.{cases_lt}
use Rattle.std.proofs.lemmas.List.{length-drop, length-reverse, reverse-append, take-append-drop, take_all}
use Rattle.undo_book.specs.History.{last_of}
use Rattle.kept_book.specs.Change.{Change}
use Rattle.kept_book.specs.Frame.{Frame}
use Rattle.kept_book.specs.Walk.{back_all}
use Rattle.kept_steps.specs.Fits.{changes_in, steps_of}
use Rattle.kept_steps.specs.Steps.{ArePast, books_past, oldest}
use Rattle.kept_steps.specs.Timeline.{Timeline, book_in}
use Rattle.kept_steps.specs.declared.entry.Entry.{Entry}
use Rattle.kept_steps.proofs.Agreeing.{oldest_first}

last_reversed : {X : Type 0} (n : ℕ) (ys : List X) → reverse (last_of n ys) ≡ take n (reverse ys)
last_reversed n ys = elim (cases_lt n (length ys)) [ inl l ↦ some l | inr l ↦ all l ]
  where
    all : length ys ≤ n → reverse (last_of n ys) ≡ take n (reverse ys)
    all l =
        let none : length ys - n ≡ 0 = omega (arith, l) in
        let long : length (reverse ys) ≤ n = let e = length-reverse ys in omega (arith, l, e) in
        ap (λ a. reverse (drop a ys)) none ∙ sym (take_all n (reverse ys) long)

    some : n < length ys → reverse (last_of n ys) ≡ take n (reverse ys)
    some l =
        let a = length ys - n in
        let split : reverse ys ≡ reverse (drop a ys) ++ reverse (take a ys) = ap reverse (sym (take-append-drop a ys)) ∙ reverse-append (take a ys) (drop a ys) in
        let long : n ≡ length (reverse (drop a ys)) = let e = length-reverse (drop a ys) in let d = length-drop a ys in omega (arith, l, e, d) in
        sym (ap (take n) split ∙ ap (λ m. take m (reverse (drop a ys) ++ reverse (take a ys))) long ∙ take-append_seam (reverse (drop a ys)) (reverse (take a ys)))

map-taken : {X Y : Type 0} (f : X → Y) (n : ℕ) (xs : List X) → map f (take n xs) ≡ take n (map f xs)
map-taken f zero xs = refl
map-taken f (suc n) [] = refl
map-taken f (suc n) (x ∷ xs) = ap (λ l. f x ∷ l) (map-taken f n xs)

-- of the steps with one more as many of the newest as the limit allows
pub steps_pushed : (n : ℕ) (es : List Entry) (e : Entry) → steps_of (last_of n (es ++ e ∷ [])) ≡ take n (changes_in e ∷ steps_of es)
steps_pushed n es e =
    ap (map changes_in) (last_reversed n (es ++ e ∷ []) ∙ ap (take n) (reverse-append es (e ∷ [])))
    ∙ map-taken changes_in n (e ∷ reverse es)

pub steps_end : (es : List Entry) (e : Entry) → steps_of (es ++ e ∷ []) ≡ changes_in e ∷ steps_of es
steps_end es e = ap (map changes_in) (reverse-append es (e ∷ []))

pub books_taken : (t : Timeline) (n : ℕ) (f : Frame) (es : List (List Change)) → books_past t f (take n es) ≡ take n (books_past t f es)
books_taken t zero f es = refl
books_taken t (suc n) f [] = refl
books_taken t (suc n) f (e ∷ es) = ap (λ l. book_in t (back_all t.line e f) ∷ l) (books_taken t n (back_all t.line e f) es)

pub past_taken : (t : Timeline) (n : ℕ) (f : Frame) (es : List (List Change)) → ArePast t f es → ArePast t f (take n es)
past_taken t zero f es past = tt
past_taken t (suc n) f [] past = tt
past_taken t (suc n) f (e ∷ es) past = (past.0, past.1, past_taken t n (back_all t.line e f) es past.2)

pub oldest_taken : (t : Timeline) (n : ℕ) (f : Frame) (es : List (List Change)) → ArePast t f es → (oldest t f es).position ≤ (oldest t f (take n es)).position
oldest_taken t zero f es past = oldest_first t f es past
oldest_taken t (suc n) f [] past = let e : f.position ≤ f.position = omega arith in e
oldest_taken t (suc n) f (e ∷ es) past = oldest_taken t n (back_all t.line e f) es past.2
