-- One set of several changed. Serves the users of nodes.
use Rattle.std.proofs.Common.{◌≡◌, ◌∙◌, sym, ap, refl, subst, arith, ℕ, zero, suc, ◌+◌, ◌<◌, ◌≤◌, inl, inr, ⊎_elim, Bool, true, false, cond, not, ◌&&◌, ◌||◌, List, [], ◌∷◌, ◌++◌, length, get_or, set, take, drop, eqb, Result, Ok, Err, OnOk, OnErr}
use Rattle.std.proofs.lemmas.Bool.{and_parts, cond-true, cond-false, eq-eqb, eqb-true, ne_eqb, or_cases, or_left}
use Rattle.std.proofs.lemmas.Bool.Decides.{nat_tests}
use Rattle.std.proofs.lemmas.List.{take-append-drop, take_all}
use Rattle.std.proofs.lemmas.List.Folds.{list_any-append, list_any_more}
use Rattle.needs_order.specs.Needs.{has}
use Rattle.node_links.specs.declared.node_set.NodeSet.{NodeSet}
use Rattle.node_links.specs.internal.Sets.{is_in, nodes_in, IsPartlyPut}

pub next_same : (i p : ℕ) → eqb (suc i) (suc p) ≡ eqb i p
next_same i p = grind (arith, nat_tests)

-- a set is put at a place
is_in-set : (sets : List NodeSet) (place : ℕ) (s : NodeSet) (i x : ℕ) → place < length sets → is_in (set sets place s) i x ≡ cond (eqb i place) (has x (nodes_in s)) (is_in sets i x)
is_in-set [] place s i x inside = absurd (omega (arith, inside))
is_in-set (t ∷ sets) zero s zero x inside = sym (cond-true (eqb zero zero) (has x (nodes_in s)) (has x (nodes_in t)) (eq-eqb zero zero refl))
is_in-set (t ∷ sets) zero s (suc i) x inside = sym (cond-false (eqb (suc i) zero) (has x (nodes_in s)) (is_in sets i x) (ne_eqb (suc i) zero (λ same. omega (arith, same))))
is_in-set (t ∷ sets) (suc place) s zero x inside = sym (cond-false (eqb zero (suc place)) (has x (nodes_in s)) (has x (nodes_in t)) (ne_eqb zero (suc place) (λ same. omega (arith, same))))
is_in-set (t ∷ sets) (suc place) s (suc i) x inside =
    is_in-set sets place s i x (omega (arith, inside)) ∙ ap (λ b. cond b (has x (nodes_in s)) (is_in sets i x)) (sym (next_same i place))

-- what is in the set at a place
pub is_in_at : (sets : List NodeSet) (place : ℕ) (d : NodeSet) (x : ℕ) → place < length sets → is_in sets place x ≡ has x (nodes_in (get_or sets place d))
is_in_at [] place d x inside = absurd (omega (arith, inside))
is_in_at (t ∷ sets) zero d x inside = refl
is_in_at (t ∷ sets) (suc place) d x inside = is_in_at sets place d x (omega (arith, inside))

-- a set of nothing is put behind the last
pub is_in-more : (sets : List NodeSet) (s : NodeSet) (i x : ℕ) → nodes_in s ≡ [] → is_in (sets ++ s ∷ []) i x ≡ is_in sets i x
is_in-more [] s zero x none = ap (has x) none
is_in-more [] s (suc i) x none = refl
is_in-more (t ∷ sets) s zero x none = refl
is_in-more (t ∷ sets) s (suc i) x none = is_in-more sets s i x none

pub or_false : (b : Bool) → (b || false) ≡ b
or_false true = refl
or_false false = refl

pub and_true : (b : Bool) → (b && true) ≡ b
and_true true = refl
and_true false = refl

module _ (sets : List NodeSet) (place : ℕ) (old new : NodeSet) (item : ℕ) (inside : place < length sets) (was : old ≡ get_or sets place old) where
  here : (i x : ℕ) → eqb i place ≡ true → is_in sets i x ≡ has x (nodes_in old)
  here i x e = ap (λ p. is_in sets p x) (eqb-true i place e) ∙ (is_in_at sets place old x inside ∙ ap (λ s. has x (nodes_in s)) (sym was))

  -- the item is put at the place
  pub put_in : ((x : ℕ) → has x (nodes_in new) ≡ (has x (nodes_in old) || eqb x item)) → (i x : ℕ) → is_in (set sets place new) i x ≡ (is_in sets i x || (eqb i place && eqb x item))
  put_in put i x = is_in-set sets place new i x inside ∙ by (eqb i place) refl
    where
      by : (t : Bool) → eqb i place ≡ t → cond t (has x (nodes_in new)) (is_in sets i x) ≡ (is_in sets i x || (t && eqb x item))
      by true e = put x ∙ ap (λ b. b || eqb x item) (sym (here i x e))
      by false e = sym (or_false (is_in sets i x))

  -- the item is taken from the place
  pub drop_in : ((x : ℕ) → has x (nodes_in new) ≡ (has x (nodes_in old) && not (eqb x item))) → (i x : ℕ) → is_in (set sets place new) i x ≡ (is_in sets i x && not (eqb i place && eqb x item))
  drop_in dropped i x = is_in-set sets place new i x inside ∙ by (eqb i place) refl
    where
      by : (t : Bool) → eqb i place ≡ t → cond t (has x (nodes_in new)) (is_in sets i x) ≡ (is_in sets i x && not (t && eqb x item))
      by true e = dropped x ∙ ap (λ b. b && not (eqb x item)) (sym (here i x e))
      by false e = sym (and_true (is_in sets i x))

-- two numbers are compared either way
flipped : (a b : ℕ) → eqb a b ≡ eqb b a
flipped a b = grind (arith, nat_tests)

-- a list has one item more
pub has_more : (items : List ℕ) (i x : ℕ) → i < length items → has x (take (i + 1) items) ≡ (has x (take i items) || eqb x (get_or items i 0))
has_more items i x inside = list_any_more (λ k. eqb k x) items i 0 inside ∙ ap (λ b. has x (take i items) || b) (flipped (get_or items i 0) x)

-- an item of the first ones is one of all
pub has_front : (items : List ℕ) (i x : ℕ) → has x (take i items) ≡ true → has x items ≡ true
has_front items i x h = subst (λ l. has x l ≡ true) (take-append-drop i items) (list_any-append (λ k. eqb k x) (take i items) (drop i items) ∙ or_left (has x (take i items)) (has x (drop i items)) h)

-- the set of no items, and with one more
pub start_set : (items : List ℕ) (x : ℕ) → has x [] ≡ has x (take 0 items)
start_set [] x = refl
start_set (item ∷ items) x = refl

pub more_set : (old new : NodeSet) (items : List ℕ) (i item : ℕ) → ((x : ℕ) → has x (nodes_in old) ≡ has x (take i items)) → i < length items → get_or items i 0 ≡ item → ((x : ℕ) → has x (nodes_in new) ≡ (has x (nodes_in old) || eqb x item))
    → (x : ℕ) → has x (nodes_in new) ≡ has x (take (i + 1) items)
more_set old new items i item before inside is put x =
    put x ∙ (ap (λ b. b || eqb x item) (before x) ∙ (ap (λ k. has x (take i items) || eqb x k) (sym is) ∙ sym (has_more items i x inside)))

pub whole_set : (s : NodeSet) (items : List ℕ) (i : ℕ) → ((x : ℕ) → has x (nodes_in s) ≡ has x (take i items)) → length items ≤ i → (x : ℕ) → has x (nodes_in s) ≡ has x items
whole_set s items i before past x = before x ∙ ap (λ l. has x l) (take_all i items past)

-- the item is put at one place more
spread : (b h e t : Bool) → ((b || (h && t)) || (e && t)) ≡ (b || ((h || e) && t))
spread true h e t = refl
spread false true e true = refl
spread false true true false = refl
spread false true false false = refl
spread false false e t = refl

pub more_put : (old mid new : List NodeSet) (places : List ℕ) (k place item : ℕ)
    → ((i x : ℕ) → is_in mid i x ≡ (is_in old i x || (has i (take k places) && eqb x item))) → k < length places → get_or places k 0 ≡ place
    → ((i x : ℕ) → is_in new i x ≡ (is_in mid i x || (eqb i place && eqb x item)))
    → (i x : ℕ) → is_in new i x ≡ (is_in old i x || (has i (take (k + 1) places) && eqb x item))
more_put old mid new places k place item before inside is put i x =
    put i x ∙ (ap (λ b. b || (eqb i place && eqb x item)) (before i x) ∙ (spread (is_in old i x) (has i (take k places)) (eqb i place) (eqb x item)
    ∙ (ap (λ p. is_in old i x || ((has i (take k places) || eqb i p) && eqb x item)) (sym is) ∙ ap (λ h. is_in old i x || (h && eqb x item)) (sym (has_more places k i inside)))))

-- the item was put at some of the places
pub partly_put : (old mid new : List NodeSet) (places : List ℕ) (k item : ℕ)
    → ((i x : ℕ) → is_in mid i x ≡ (is_in old i x || (has i (take k places) && eqb x item))) → ((i x : ℕ) → is_in new i x ≡ is_in mid i x) → IsPartlyPut old places item new
partly_put old mid new places k item before same = record {
  kept = λ i x h. same i x ∙ (before i x ∙ or_left (is_in old i x) (has i (take k places) && eqb x item) h);
  only = λ i x h. ⊎_elim
      (λ (was : is_in old i x ≡ true). inl was)
      (λ (put : (has i (take k places) && eqb x item) ≡ true). let both = and_parts (has i (take k places)) (eqb x item) put in inr (has_front places k i both.0, eqb-true x item both.1))
      (or_cases (is_in old i x) (has i (take k places) && eqb x item) (sym (before i x) ∙ (sym (same i x) ∙ h)));
}

-- the item is taken from one place more, unless that is kept
taken : (b h e k j t : Bool) → (e ≡ true → k ≡ j) → ((b && not ((h && not k) && t)) && not ((e && not j) && t)) ≡ (b && not (((h || e) && not k) && t))
taken b h false k j t same = and_true (b && not ((h && not k) && t)) ∙ ap (λ w. b && not ((w && not k) && t)) (sym (or_false h))
taken b h true k j t same = ap (λ w. (b && not ((h && not k) && t)) && not ((true && not w) && t)) (sym (same refl)) ∙ joined b h k t
  where
    joined : (b h k t : Bool) → ((b && not ((h && not k) && t)) && not ((true && not k) && t)) ≡ (b && not (((h || true) && not k) && t))
    joined false h k t = refl
    joined true true true t = refl
    joined true true false true = refl
    joined true true false false = refl
    joined true false true t = refl
    joined true false false true = refl
    joined true false false false = refl

pub more_taken : (old mid new : List NodeSet) (places : List ℕ) (k place item : ℕ) (kept : NodeSet)
    → ((i x : ℕ) → is_in mid i x ≡ (is_in old i x && not ((has i (take k places) && not (has i (nodes_in kept))) && eqb x item))) → k < length places → get_or places k 0 ≡ place
    → ((i x : ℕ) → is_in new i x ≡ (is_in mid i x && not ((eqb i place && not (has place (nodes_in kept))) && eqb x item)))
    → (i x : ℕ) → is_in new i x ≡ (is_in old i x && not ((has i (take (k + 1) places) && not (has i (nodes_in kept))) && eqb x item))
more_taken old mid new places k place item kept before inside is drop i x =
    drop i x ∙ (ap (λ b. b && not ((eqb i place && not (has place (nodes_in kept))) && eqb x item)) (before i x)
    ∙ (taken (is_in old i x) (has i (take k places)) (eqb i place) (has i (nodes_in kept)) (has place (nodes_in kept)) (eqb x item) (λ same. ap (λ j. has j (nodes_in kept)) (eqb-true i place same))
    ∙ (ap (λ p. is_in old i x && not (((has i (take k places) || eqb i p) && not (has i (nodes_in kept))) && eqb x item)) (sym is)
    ∙ ap (λ h. is_in old i x && not ((h && not (has i (nodes_in kept))) && eqb x item)) (sym (has_more places k i inside)))))

-- the item is taken from a place that isn't kept, and stays at one that is
pub taken_from : (o e k t : Bool) → k ≡ false → (o && not (e && t)) ≡ (o && not ((e && not k) && t))
taken_from o e k t out = ap (λ w. o && not (w && t)) (sym (and_true e)) ∙ ap (λ w. o && not ((e && not w) && t)) (sym out)

pub taken_not : (o e k t : Bool) → k ≡ true → o ≡ (o && not ((e && not k) && t))
taken_not o e k t kept = sym (and_true o) ∙ (ap (λ w. o && not (w && t)) (sym (and_false e)) ∙ ap (λ w. o && not ((e && not w) && t)) (sym kept))
  where
    and_false : (e : Bool) → (e && false) ≡ false
    and_false true = refl
    and_false false = refl

-- before the first place nothing is changed
pub start_put : (sets : List NodeSet) (places : List ℕ) (item i x : ℕ) → is_in sets i x ≡ (is_in sets i x || (has i (take 0 places) && eqb x item))
start_put sets [] item i x = sym (or_false (is_in sets i x))
start_put sets (p ∷ places) item i x = sym (or_false (is_in sets i x))

pub start_taken : (sets : List NodeSet) (places : List ℕ) (item : ℕ) (kept : NodeSet) (i x : ℕ) → is_in sets i x ≡ (is_in sets i x && not ((has i (take 0 places) && not (has i (nodes_in kept))) && eqb x item))
start_taken sets [] item kept i x = sym (and_true (is_in sets i x))
start_taken sets (p ∷ places) item kept i x = sym (and_true (is_in sets i x))

-- past the last place all are changed
pub whole_put : (old new : List NodeSet) (places : List ℕ) (k item : ℕ) → ((i x : ℕ) → is_in new i x ≡ (is_in old i x || (has i (take k places) && eqb x item))) → length places ≤ k
    → (i x : ℕ) → is_in new i x ≡ (is_in old i x || (has i places && eqb x item))
whole_put old new places k item before past i x = before i x ∙ ap (λ l. is_in old i x || (has i l && eqb x item)) (take_all k places past)

pub whole_taken : (old new : List NodeSet) (places : List ℕ) (k item : ℕ) (kept : NodeSet) → ((i x : ℕ) → is_in new i x ≡ (is_in old i x && not ((has i (take k places) && not (has i (nodes_in kept))) && eqb x item))) → length places ≤ k
    → (i x : ℕ) → is_in new i x ≡ (is_in old i x && not ((has i places && not (has i (nodes_in kept))) && eqb x item))
whole_taken old new places k item kept before past i x = before i x ∙ ap (λ l. is_in old i x && not ((has i l && not (has i (nodes_in kept))) && eqb x item)) (take_all k places past)

-- a set that was read and stays as it was
pub read_same : (sets : List NodeSet) (place : ℕ) (old new : NodeSet) → place < length sets → old ≡ get_or sets place old → ((x : ℕ) → has x (nodes_in new) ≡ has x (nodes_in old)) → (i x : ℕ) → is_in (set sets place new) i x ≡ is_in sets i x
read_same sets place old new inside was same i x = is_in-set sets place new i x inside ∙ by (eqb i place) refl
  where
    by : (t : Bool) → eqb i place ≡ t → cond t (has x (nodes_in new)) (is_in sets i x) ≡ is_in sets i x
    by true e =
        same x
        ∙ (ap (λ s. has x (nodes_in s)) was ∙ (sym (is_in_at sets place old x inside) ∙ ap (λ p. is_in sets p x) (sym (eqb-true i place e))))
    by false e = refl

-- what follows from what a result says
pub on_ok : {A B : Type 0} (r : Result A B) (P Q : Type 0) → OnOk r P → (P → Q) → OnOk r Q
on_ok (Ok _) P Q p follows = follows p
on_ok (Err _) P Q p follows = tt

pub on_fault : {A B : Type 0} (r : Result A B) (P Q : Type 0) → OnErr r P → (P → Q) → OnErr r Q
on_fault (Ok _) P Q p follows = tt
on_fault (Err _) P Q p follows = follows p

-- what holds anyway holds on an error
pub on_err : {A B : Type 0} (r : Result A B) (P : Type 0) → P → OnErr r P
on_err (Ok _) P p = tt
on_err (Err _) P p = p

-- where nothing is put, all sets stay
pub nothing_put : (sets : List NodeSet) (after : List ℕ) (node : ℕ) → after ≡ [] → (i x : ℕ) → is_in sets i x ≡ (is_in sets i x || (has i after && eqb x node))
nothing_put sets after node none i x = sym (or_false (is_in sets i x)) ∙ ap (λ l. is_in sets i x || (has i l && eqb x node)) (sym none)
