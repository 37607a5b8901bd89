-- Items once each, list after list. Serves the names and the links of trees, and the law on them.
use Rattle.std.proofs.Common.{◌≡◌, ◌∙◌, sym, ap, refl, ℕ, suc, ◌+◌, ◌<◌, Bool, true, false, ◌||◌, if◌then◌else◌, List, [], ◌∷◌, ◌++◌, length, drop, get_or, add-one, drop-cons}
use Rattle.std.specs.List.{list_any}
use Rattle.std.specs.Cmp.{IsEquivalence}
use Rattle.std.proofs.Math.Bool.{or_assoc}
use Rattle.std.proofs.lemmas.Map.Steps.{list_any_congr}
use Rattle.formula_tree.specs.Laws.{ListsOnce}
use Rattle.formula_tree.specs.Links.{once_after, once, AreApart}

pub once_after-append : {X : Type 0} (same : X → X → Bool) (done xs ys : List X) → once_after same done (xs ++ ys) ≡ once_after same (once_after same done xs) ys
once_after-append same done [] ys = refl
once_after-append same done (x ∷ xs) ys = once_after-append same (if list_any (same x) done then done else done ++ x ∷ []) xs ys

-- one list more, of which a longer one is made
pub once_after-step : {X : Type 0} (same : X → X → Bool) (done new all xs ys zs : List X) → new ≡ once_after same done xs → zs ≡ xs ++ ys
    → once_after same done zs ≡ all → once_after same new ys ≡ all
once_after-step same done new all xs ys zs n z a =
    ap (λ d. once_after same d ys) n ∙ sym (once_after-append same done xs ys) ∙ ap (once_after same done) (sym z) ∙ a

-- two lists, of which one is made
pub once_after-two : {X : Type 0} (same : X → X → Bool) (old mid new xs ys zs : List X) → mid ≡ once_after same old xs → new ≡ once_after same mid ys
    → zs ≡ xs ++ ys → new ≡ once_after same old zs
once_after-two same old mid new xs ys zs m n z =
    n ∙ ap (λ d. once_after same d ys) m ∙ sym (once_after-append same old xs ys) ∙ ap (once_after same old) (sym z)

-- the item at an index, and those after it
pub drop-item : {X : Type 0} (items : List X) (i : ℕ) (item : X) → i < length items → item ≡ get_or items i item → drop i items ≡ item ∷ drop (i + 1) items
drop-item items i item h is = rw add-one (drop-cons items i item h ∙ ap (λ x. x ∷ drop (suc i) items) (sym is))

or-neither : (b c : Bool) → (b || c) ≡ false → (b ≡ false) × (c ≡ false)
or-neither true c h = absurd (cc)
or-neither false c h = (refl, h)

or-none : (b c : Bool) → b ≡ false → c ≡ false → (b || c) ≡ false
or-none b c e h = rw (e, h) refl

or-false : (b : Bool) → (b || false) ≡ b
or-false true = refl
or-false false = refl

list_any-push : {X : Type 0} (p : X → Bool) (xs : List X) (x : X) → list_any p (xs ++ x ∷ []) ≡ (list_any p xs || p x)
list_any-push p [] x = or-false (p x)
list_any-push p (y ∷ ys) x = ap (λ b. p y || b) (list_any-push p ys x) ∙ sym (or_assoc (p y) (list_any p ys) (p x))

module _ {X : Type 0} (same : X → X → Bool) (laws : IsEquivalence same) where
  -- an item is the same as one of those done, or as one of the others
  known : (q x : X) (done : List X) (c : Bool) → list_any (same x) done ≡ true → same q x ≡ c → list_any (same q) done ≡ (list_any (same q) done || c)
  known q x done true e h = let f : list_any (same q) done ≡ true = list_any_congr laws q x done h ∙ e in rw f refl
  known q x done false e h = sym (or-false (list_any (same q) done))

  members-step : (q x : X) (done : List X) (b : Bool) → list_any (same x) done ≡ b → list_any (same q) (if b then done else done ++ x ∷ []) ≡ (list_any (same q) done || same q x)
  members-step q x done true e = known q x done (same q x) e refl
  members-step q x done false e = list_any-push (same q) done x

  once_after-members : (q : X) (done xs : List X) → list_any (same q) (once_after same done xs) ≡ (list_any (same q) done || list_any (same q) xs)
  once_after-members q done [] = sym (or-false (list_any (same q) done))
  once_after-members q done (x ∷ xs) =
      once_after-members q (if list_any (same x) done then done else done ++ x ∷ []) xs
      ∙ ap (λ b. b || list_any (same q) xs) (members-step q x done (list_any (same x) done) refl)
      ∙ or_assoc (list_any (same q) done) (same q x) (list_any (same q) xs)

  apart-push : (x : X) (done : List X) → list_any (same x) done ≡ false → AreApart same done → AreApart same (done ++ x ∷ [])
  apart-push x [] h a = (refl, tt)
  apart-push x (d ∷ ds) h a =
      let (here, rest) = or-neither (same x d) (list_any (same x) ds) h in
      (list_any-push (λ y. same y d) ds x ∙ or-none (list_any (λ y. same y d) ds) (same x d) a.0 here, apart-push x ds rest a.1)

  apart-step : (x : X) (done : List X) (b : Bool) → list_any (same x) done ≡ b → AreApart same done → AreApart same (if b then done else done ++ x ∷ [])
  apart-step x done true h a = a
  apart-step x done false h a = apart-push x done h a

  once_after-apart : (done xs : List X) → AreApart same done → AreApart same (once_after same done xs)
  once_after-apart done [] a = a
  once_after-apart done (x ∷ xs) a = once_after-apart (if list_any (same x) done then done else done ++ x ∷ []) xs (apart-step x done (list_any (same x) done) refl a)

  pub lists_once : ListsOnce same
  lists_once = record {
    none = refl;
    more = λ xs x. once_after-append same [] xs (x ∷ []) ∙ ap (λ b. if b then once same xs else once same xs ++ x ∷ []) (once_after-members x [] xs);
    members = λ xs x. once_after-members x [] xs;
    apart = λ xs. once_after-apart [] xs tt;
  }
