-- Runs of operations, taken apart at one of them. Serves the loops over runs.
use Rattle.std.proofs.Common.{◌≡◌, ◌≢◌, ◌∙◌, sym, ap, refl, subst, arith, ℕ, zero, suc, ◌+◌, ◌-◌, ◌<◌, ◌≤◌, ◌==◌, false, true, List, [], ◌∷◌, ◌++◌, length, get_or, take, drop, Option, Some, None, option_map, option_and_then}
use Rattle.std.proofs.lemmas.List.{take_more}
use Rattle.std.proofs.lemmas.Option.{none-some, same_Some}
use Rattle.std.proofs.Math.Seq.{drop-cons}
use Rattle.cell_addr.specs.declared.place.Place.{Place}
use Rattle.formula_tree.specs.Reference.{IsHomeInside}
use Rattle.formula_tree.specs.declared.reference.Home.{Home}
use Rattle.formula_tree.specs.declared.reference.Home.TheVariants as homes
use Rattle.shift_core.specs.Sound.{IsSound}
use Rattle.shift_core.specs.declared.shift.Shift.{Shift}
use Rattle.shift_core.specs.Tables.{place_after, place_before}
use Rattle.tree_rewrite.specs.Rewritten.{home_after, home_before}
use Rattle.tree_rewrite.proofs.CallerLemmas.{homes-follow}
use Rattle.run_walk.specs.Run.{AreSound, back_all, home_back, home_over, over_all, place_back, place_over}

-- ---- sound runs

pub sound-at : (run : List Shift) (i : ℕ) (d : Shift) → AreSound run → i < length run → IsSound (get_or run i d)
sound-at [] i d sound within = absurd (omega arith)
sound-at (s ∷ run) zero d sound within = sound.0
sound-at (s ∷ run) (suc i) d sound within = sound-at run i d sound.1 (omega arith)

pub sound-take : (n : ℕ) (run : List Shift) → AreSound run → AreSound (take n run)
sound-take zero run sound = tt
sound-take (suc n) [] sound = tt
sound-take (suc n) (s ∷ run) sound = (sound.0, sound-take n run sound.1)

pub not-empty : (run : List Shift) → false ≡ (length run == 0) → run ≢ []
not-empty run is none = let no : false ≡ true = is ∙ ap (λ r. length r == 0) none in cc

-- all of them
pub take-whole : (run : List Shift) → take (length run) run ≡ run
take-whole [] = refl
take-whole (s ∷ run) = ap (λ r. s ∷ r) (take-whole run)

-- some of the operations are some
pub some-taken : (n : ℕ) (run : List Shift) → n ≤ length run → 0 < n → take n run ≢ []
some-taken zero run within some none = absurd (omega (arith, some))
some-taken (suc n) [] within some none = absurd (omega (arith, within))
some-taken (suc n) (s ∷ run) within some none = let e : 0 ≡ suc (length (take n run)) = sym (ap length none) in absurd (omega (arith, e))

-- ---- one operation more

pub option-all : {X : Type 0} (o : Option X) → option_and_then (λ x. Some x) o ≡ o
option-all None = refl
option-all (Some x) = refl

option-turn : {A B C : Type 0} (f : A → Option B) (g : B → Option C) (o : Option A) → option_and_then g (option_and_then f o) ≡ option_and_then (λ x. option_and_then g (f x)) o
option-turn f g None = refl
option-turn f g (Some x) = refl

module _ {X : Type 0} (step : Shift → X → Option X) where
  -- from the front: what is left begins with the operation
  pub over-next : (run : List Shift) (i : ℕ) (d s : Shift) (x : X) → i < length run → s ≡ get_or run i d → over_all step (drop i run) x ≡ option_and_then (over_all step (drop (i + 1) run)) (step s x)
  over-next run i d s x within is =
      let split : drop i run ≡ get_or run i d ∷ drop (i + 1) run = (let one : i + 1 ≡ suc i = omega arith in rw one (drop-cons run i d within)) in
      ap (λ r. over_all step r x) (split ∙ ap (λ z. z ∷ drop (i + 1) run) (sym is))

  each-append : (xs ys : List Shift) → ((y : X) → over_all step (xs ++ ys) y ≡ option_and_then (over_all step ys) (over_all step xs y)) → (o : Option X)
      → option_and_then (over_all step (xs ++ ys)) o ≡ option_and_then (over_all step ys) (option_and_then (over_all step xs) o)
  each-append xs ys each None = refl
  each-append xs ys each (Some y) = each y

  pub over-append : (xs ys : List Shift) (x : X) → over_all step (xs ++ ys) x ≡ option_and_then (over_all step ys) (over_all step xs x)
  over-append [] ys x = refl
  over-append (s ∷ xs) ys x = each-append xs ys (over-append xs ys) (step s x)

  -- at the end: what was passed ends with it
  pub over-more : (run : List Shift) (i : ℕ) (d s : Shift) (x y z : X) → i < length run → s ≡ get_or run i d → over_all step (take i run) x ≡ Some y → step s y ≡ Some z → over_all step (take (i + 1) run) x ≡ Some z
  over-more run i d s x y z within is here goes =
      ap (λ r. over_all step r x) (take_more run i d within)
      ∙ over-append (take i run) (get_or run i d ∷ []) x
      ∙ ap (option_and_then (over_all step (get_or run i d ∷ []))) here
      ∙ ap (λ t. option_and_then (λ w. Some w) (step t y)) (sym is)
      ∙ ap (option_and_then (λ w. Some w)) goes

  -- back: over the end first, and then over what was passed before it
  pub back-append : (xs ys : List Shift) (x : X) → back_all step (xs ++ ys) x ≡ option_and_then (back_all step xs) (back_all step ys x)
  back-append [] ys x = sym (option-all (back_all step ys x))
  back-append (s ∷ xs) ys x = ap (option_and_then (step s)) (back-append xs ys x) ∙ option-turn (back_all step xs) (step s) (back_all step ys x)

  -- from the end: what is left ends with the operation
  pub back-next : (run : List Shift) (i : ℕ) (d s : Shift) (x : X) → i < length run → s ≡ get_or run i d → back_all step (take (i + 1) run) x ≡ option_and_then (back_all step (take i run)) (step s x)
  back-next run i d s x within is =
      ap (λ r. back_all step r x) (take_more run i d within)
      ∙ back-append (take i run) (get_or run i d ∷ []) x
      ∙ ap (λ z. option_and_then (back_all step (take i run)) (step z x)) (sym is)

  module _ (run : List Shift) (n : ℕ) (d : Shift) (x : X) (all : Option X) (some : 0 < n) (within : n ≤ length run) (here : back_all step (take n run) x ≡ all) where
    back-parts : all ≡ option_and_then (back_all step (take (n - 1) run)) (step (get_or run (n - 1) d) x)
    back-parts =
        let e : n ≡ n - 1 + 1 = omega (arith, some) in
        sym here ∙ ap (λ m. back_all step (take m run) x) e ∙ back-next run (n - 1) d (get_or run (n - 1) d) x (omega (arith, some, within)) refl

    -- one operation fewer is left where that leads back, and else nothing leads back
    pub back-fewer : (y : X) → step (get_or run (n - 1) d) x ≡ Some y → back_all step (take (n - 1) run) y ≡ all
    back-fewer y goes = sym (back-parts ∙ ap (option_and_then (back_all step (take (n - 1) run))) goes)

    pub back-ends : step (get_or run (n - 1) d) x ≡ None → all ≡ None
    back-ends lost = back-parts ∙ ap (option_and_then (back_all step (take (n - 1) run))) lost

-- ---- homes

each-cell : (run : List Shift) → ((q : Place) → home_over run (homes.Cell q) ≡ option_map (λ z. homes.Cell z) (place_over run q)) → (o : Option Place)
    → option_and_then (home_over run) (option_map (λ z. homes.Cell z) o) ≡ option_map (λ z. homes.Cell z) (option_and_then (place_over run) o)
each-cell run each None = refl
each-cell run each (Some q) = each q

pub home-cell : (run : List Shift) (p : Place) → home_over run (homes.Cell p) ≡ option_map (λ q. homes.Cell q) (place_over run p)
home-cell [] p = refl
home-cell (s ∷ run) p = each-cell run (home-cell run) (place_after s p)

pub home-name : (run : List Shift) (sheet : ℕ) → home_over run (homes.Name sheet) ≡ Some (homes.Name sheet)
home-name [] sheet = refl
home-name (s ∷ run) sheet = home-name run sheet

-- a home within the limits of a sheet stays so
each-inside : (s : Shift) (run : List Shift) (home to : Home) → IsSound s → IsHomeInside home → ((next : Home) → IsHomeInside next → home_over run next ≡ Some to → IsHomeInside to)
    → (o : Option Home) → home_after s home ≡ o → option_and_then (home_over run) o ≡ Some to → IsHomeInside to
each-inside s run home to sound inside each None goes e = absurd (none-some to e)
each-inside s run home to sound inside each (Some next) goes e = each next (homes-follow.inside_after s home next sound inside goes) e

pub home_over-inside : (run : List Shift) (home to : Home) → AreSound run → IsHomeInside home → home_over run home ≡ Some to → IsHomeInside to
home_over-inside [] home to sound inside is = subst IsHomeInside (same_Some home to is) inside
home_over-inside (s ∷ run) home to sound inside is =
    each-inside s run home to sound.0 inside (λ next i e. home_over-inside run next to sound.1 i e) (home_after s home) refl is

-- ---- homes on the way back

back-cell : (s : Shift) (o : Option Place) → option_and_then (home_before s) (option_map (λ z. homes.Cell z) o) ≡ option_map (λ z. homes.Cell z) (option_and_then (place_before s) o)
back-cell s None = refl
back-cell s (Some q) = refl

pub home_back-cell : (run : List Shift) (p : Place) → home_back run (homes.Cell p) ≡ option_map (λ q. homes.Cell q) (place_back run p)
home_back-cell [] p = refl
home_back-cell (s ∷ run) p = ap (option_and_then (home_before s)) (home_back-cell run p) ∙ back-cell s (place_back run p)

pub home_back-name : (run : List Shift) (sheet : ℕ) → home_back run (homes.Name sheet) ≡ Some (homes.Name sheet)
home_back-name [] sheet = refl
home_back-name (s ∷ run) sheet = ap (option_and_then (home_before s)) (home_back-name run sheet)

-- a home within the limits of a sheet was so
last-inside : (s : Shift) (to : Home) (o : Option Home) → IsSound s → ((next : Home) → o ≡ Some next → IsHomeInside next) → option_and_then (home_before s) o ≡ Some to → IsHomeInside to
last-inside s to None sound each e = absurd (none-some to e)
last-inside s to (Some next) sound each e = homes-follow.inside_before s next to sound (each next refl) e

pub home_back-inside : (run : List Shift) (home to : Home) → AreSound run → IsHomeInside home → home_back run home ≡ Some to → IsHomeInside to
home_back-inside [] home to sound inside is = subst IsHomeInside (same_Some home to is) inside
home_back-inside (s ∷ run) home to sound inside is = last-inside s to (home_back run home) sound.0 (λ next was. home_back-inside run home next sound.1 inside was) is
