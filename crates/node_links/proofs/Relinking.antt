-- Lists of needs, one of them replaced, and the users beside them. Serves linking and unlinking.
use Rattle.std.proofs.Common.{◌≡◌, ◌∙◌, sym, ap, refl, subst, arith, ℕ, zero, suc, ◌<◌, ⊎_elim, Bool, true, false, cond, not, ◌&&◌, ◌||◌, List, [], ◌∷◌, ◌++◌, length, get_or, set, eqb}
use Rattle.std.specs.List.{All}
use Rattle.smallvec.specs.SmallVec.{SmallVec}
use Rattle.std.proofs.lemmas.Bool.{eq-eqb, eqb-true, ne_eqb, true≢false}
use Rattle.std.proofs.lemmas.List.{get_or_default}
use Rattle.needs_order.specs.Needs.{has}
use Rattle.needs_order.proofs.Lists.{at_has, has_at}
use Rattle.node_links.specs.Links.{needs_at}
use Rattle.node_links.specs.declared.node_set.NodeSet.{NodeSet}
use Rattle.node_links.specs.internal.Sets.{is_in, nodes_in, IsPartlyPut}
use Rattle.node_links.proofs.Sets.{next_same}

-- what holds of each number that a list has holds at each of its places
pub all_of : (n : ℕ) (l : List ℕ) → ((b : ℕ) → has b l ≡ true → b < n) → All (λ b. b < n) l
all_of n l each k d inside = subst (λ b. b < n) (get_or_default l k 0 d inside) (each (get_or l k 0) (has_at l k inside))

pub of_all : (n : ℕ) (l : List ℕ) → All (λ b. b < n) l → (b : ℕ) → has b l ≡ true → b < n
of_all n l all b h = let (k, inside, is) = at_has b l h in subst (λ x. x < n) is (all k 0 inside)

-- the list that was read at a place
pub needs_read : (lists : List (SmallVec ℕ)) (node : ℕ) (v : SmallVec ℕ) → node < length lists → v ≡ get_or lists node v → v.items ≡ needs_at lists node
needs_read [] node v inside is = absurd (omega (arith, inside))
needs_read (w ∷ lists) zero v inside is = ap (λ x. x.items) is
needs_read (w ∷ lists) (suc node) v inside is = needs_read lists node v (omega (arith, inside)) is

-- one list is replaced
pub needs-set : (lists : List (SmallVec ℕ)) (node : ℕ) (v : SmallVec ℕ) (a : ℕ) → node < length lists → needs_at (set lists node v) a ≡ cond (eqb a node) v.items (needs_at lists a)
needs-set [] node v a inside = absurd (omega (arith, inside))
needs-set (w ∷ lists) zero v zero inside = sym (ap (λ t. cond t v.items w.items) (eq-eqb zero zero refl))
needs-set (w ∷ lists) zero v (suc a) inside = sym (ap (λ t. cond t v.items (needs_at lists a)) (ne_eqb (suc a) zero (λ same. omega (arith, same))))
needs-set (w ∷ lists) (suc node) v zero inside = sym (ap (λ t. cond t v.items w.items) (ne_eqb zero (suc node) (λ same. omega (arith, same))))
needs-set (w ∷ lists) (suc node) v (suc a) inside = needs-set lists node v a (omega (arith, inside)) ∙ ap (λ t. cond t v.items (needs_at lists a)) (sym (next_same a node))

-- a list more is put behind the last
pub needs-more : (lists : List (SmallVec ℕ)) (v : SmallVec ℕ) (a : ℕ) → v.items ≡ [] → needs_at (lists ++ v ∷ []) a ≡ needs_at lists a
needs-more [] v zero none = none
needs-more [] v (suc a) none = refl
needs-more (w ∷ lists) v zero none = refl
needs-more (w ∷ lists) v (suc a) none = needs-more lists v a none

-- the users after a node's needs were replaced
here : (h w : Bool) → ((h || (w && true)) && not ((h && not w) && true)) ≡ w
here true true = refl
here true false = refl
here false true = refl
here false false = refl

there : (o w h k : Bool) → ((o || (w && false)) && not ((h && not k) && false)) ≡ o
there true true true true = refl
there true true true false = refl
there true true false true = refl
there true true false false = refl
there true false true true = refl
there true false true false = refl
there true false false true = refl
there true false false false = refl
there false true true true = refl
there false true true false = refl
there false true false true = refl
there false true false false = refl
there false false true true = refl
there false false true false = refl
there false false false true = refl
there false false false false = refl

pub relinked : (old mid new : List NodeSet) (lists : List (SmallVec ℕ)) (node : ℕ) (before after : List ℕ) (kept : NodeSet)
    → ((a b : ℕ) → is_in old b a ≡ has b (needs_at lists a)) → before ≡ needs_at lists node → ((i : ℕ) → has i (nodes_in kept) ≡ has i after)
    → ((i x : ℕ) → is_in mid i x ≡ (is_in old i x || (has i after && eqb x node)))
    → ((i x : ℕ) → is_in new i x ≡ (is_in mid i x && not ((has i before && not (has i (nodes_in kept))) && eqb x node)))
    → (a b : ℕ) → is_in new b a ≡ has b (cond (eqb a node) after (needs_at lists a))
relinked old mid new lists node before after kept exact was stays put taken a b =
    taken b a ∙ (ap (λ t. t && not ((has b before && not (has b (nodes_in kept))) && eqb a node)) (put b a) ∙ by (eqb a node) refl)
  where
    by : (t : Bool) → eqb a node ≡ t → ((is_in old b a || (has b after && t)) && not ((has b before && not (has b (nodes_in kept))) && t)) ≡ has b (cond t after (needs_at lists a))
    by true e =
        let same : is_in old b a ≡ has b before = exact a b ∙ (ap (λ x. has b (needs_at lists x)) (eqb-true a node e) ∙ ap (has b) (sym was)) in
        ap (λ t. (t || (has b after && true)) && not ((has b before && not (has b (nodes_in kept))) && true)) same
        ∙ (ap (λ t. (has b before || (has b after && true)) && not ((has b before && not t) && true)) (stays b) ∙ here (has b before) (has b after))
    by false e = there (is_in old b a) (has b after) (has b before) (has b (nodes_in kept)) ∙ exact a b

-- all needs are nodes after a node's needs were replaced
pub known-set : (lists : List (SmallVec ℕ)) (node : ℕ) (after : List ℕ) (n : ℕ) → ((a b : ℕ) → has b (needs_at lists a) ≡ true → b < n) → ((b : ℕ) → has b after ≡ true → b < n)
    → (a b : ℕ) → has b (cond (eqb a node) after (needs_at lists a)) ≡ true → b < n
known-set lists node after n old new a b = by (eqb a node)
  where
    by : (t : Bool) → has b (cond t after (needs_at lists a)) ≡ true → b < n
    by true h = new b h
    by false h = old a b h

stays : (h : Bool) → not ((h && not true) && true) ≡ true
stays true = refl
stays false = refl

ends : (h k : Bool) → not ((h && not k) && false) ≡ true
ends true true = refl
ends true false = refl
ends false true = refl
ends false false = refl

-- what was put at some places is taken back
pub put_back : (old mid new : List NodeSet) (needs : List ℕ) (node : ℕ) (was : NodeSet)
    → ((i : ℕ) → has i (nodes_in was) ≡ is_in old i node) → IsPartlyPut old needs node mid
    → ((i x : ℕ) → is_in new i x ≡ (is_in mid i x && not ((has i needs && not (has i (nodes_in was))) && eqb x node)))
    → (i x : ℕ) → is_in new i x ≡ is_in old i x
put_back old mid new needs node was same partly taken i x = taken i x ∙ by (is_in old i x) (is_in mid i x) (eqb x node) (has i needs) (has i (nodes_in was)) refl refl refl refl refl
  where
    by : (o m t h k : Bool) → is_in old i x ≡ o → is_in mid i x ≡ m → eqb x node ≡ t → has i needs ≡ h → has i (nodes_in was) ≡ k → (m && not ((h && not k) && t)) ≡ o
    by true false t h k eo em et eh ek = absurd (true≢false (sym (partly.kept i x eo) ∙ em))
    by true true true h k eo em et eh ek =
        let kept : k ≡ true = sym ek ∙ (same i ∙ (ap (is_in old i) (sym (eqb-true x node et)) ∙ eo)) in
        ap (λ j. not ((h && not j) && true)) kept ∙ stays h
    by true true false h k eo em et eh ek = ends h k
    by false false t h k eo em et eh ek = refl
    by false true t h k eo em et eh ek = ⊎_elim
        (λ (was_in : is_in old i x ≡ true). absurd (true≢false (sym was_in ∙ eo)))
        (λ (put : (has i needs ≡ true) × (x ≡ node)).
        let t_is : t ≡ true = sym et ∙ eq-eqb x node put.1 in
        let h_is : h ≡ true = sym eh ∙ put.0 in
        let k_is : k ≡ false = sym ek ∙ (same i ∙ (ap (is_in old i) (sym put.1) ∙ eo)) in
        ap (λ j. not ((j && not k) && t)) h_is ∙ (ap (λ j. not ((true && not j) && t)) k_is ∙ ap (λ j. not ((true && true) && j)) t_is))
        (partly.only i x em)
