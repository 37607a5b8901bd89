-- Nodes put into a list, each once, and their places there. Serves the exploration.
use Rattle.std.proofs.Common.{◌≡◌, ◌≢◌, ◌∙◌, sym, ap, refl, subst, arith, ℕ, ◌+◌, ◌<◌, ◌≤◌, inl, inr, ⊎_elim, Bool, true, false, cond, List, [], ◌∷◌, ◌++◌, length, get_or, take, nat_eq, Some, append_assoc, length-append}
use Rattle.std.specs.List.{list_any, slice_get, AllPairs, IsDistinct}
use Rattle.std.proofs.lemmas.Bool.{cases_lt, false≢true}
use Rattle.std.proofs.lemmas.Bool.Decides.{Decides-eqb}
use Rattle.std.proofs.lemmas.List.{append-nil, get_or_append_left, get_or_push, length_push, take_all, take_more}
use Rattle.std.proofs.lemmas.Option.{get_or_from_slice_get}
use Rattle.std.proofs.lemmas.Map.Made.{AllPairs-from_IsDistinct}
use Rattle.indexmap.specs.IndexSet.{insert_key}
use Rattle.needs_order.specs.Needs.{has}
use Rattle.needs_order.proofs.Lists.{nat_eq_equal, has-append_left, has-append_right, has-append_cases, has_first, has_cases, has_at, at_has}
use Rattle.node_reach.specs.internal.Explored.{IsPut, ArePut, AreAt}

-- a list that grew has at its old places what it had
pub grown_at : (old more new : List ℕ) (i : ℕ) → new ≡ old ++ more → i < length old → get_or new i 0 ≡ get_or old i 0
grown_at old more new i is inside = ap (λ l. get_or l i 0) is ∙ get_or_append_left old more 0 i inside

pub grown_has : (old more new : List ℕ) (a : ℕ) → new ≡ old ++ more → has a old ≡ true → has a new ≡ true
grown_has old more new a is h = subst (λ l. has a l ≡ true) (sym is) (has-append_left a old more h)

pub grown_length : (old more new : List ℕ) → new ≡ old ++ more → length old ≤ length new
grown_length old more new is = let count = length-append old more in let same : length new ≡ length (old ++ more) = ap length is in omega (arith, count, same)

-- a list of one node has no other
only_one : (a node : ℕ) → has a (node ∷ []) ≡ true → a ≡ node
only_one a node h = ⊎_elim (λ (same : node ≡ a). sym same) (λ (later : has a [] ≡ true). absurd (false≢true later)) (has_cases a node [] h)

-- what an insertion into a set does to its list
pub put_is : (old new : List ℕ) (node place : ℕ) → new ≡ insert_key nat_eq old node → place < length new → (k : ℕ) × (slice_get new place ≡ Some k) × (nat_eq node k ≡ true) → IsPut old node new place
put_is old new node place is inside at = by (list_any (nat_eq node) old) refl
  where
    stands : get_or new place 0 ≡ node
    stands = get_or_from_slice_get new place at.0 0 at.1 ∙ sym (nat_eq_equal node at.0 at.2)

    by : (b : Bool) → list_any (nat_eq node) old ≡ b → IsPut old node new place
    by true e =
        let same : new ≡ old = is ∙ ap (λ b. cond b old (old ++ node ∷ [])) e in
        record { grown = ([], same ∙ sym (append-nil old)); only = λ a h. inl (subst (λ l. has a l ≡ true) same h); inside = inside; stands = stands }
    by false e =
        let more : new ≡ old ++ node ∷ [] = is ∙ ap (λ b. cond b old (old ++ node ∷ [])) e in
        record {
          grown = (node ∷ [], more);
          only = λ a h. ⊎_elim (λ first. inl first) (λ last. inr (only_one a node last)) (has-append_cases a old (node ∷ []) (subst (λ l. has a l ≡ true) more h));
          inside = inside;
          stands = stands;
        }

-- the keys of a set stand in it once
pub once_from_distinct : (keys : List ℕ) → IsDistinct nat_eq keys → AllPairs (λ a b. a ≢ b) keys
once_from_distinct keys distinct = AllPairs-from_IsDistinct Decides-eqb keys distinct

-- no nodes are put
pub none_put : (old : List ℕ) → ArePut old [] old
none_put old = record { grown = ([], sym (append-nil old)); only = λ a h. inl h }

none_at : (list : List ℕ) → AreAt list [] []
none_at list = record { count = refl; inside = λ i h. absurd (omega arith); stand = λ i h. absurd (omega arith) }

-- one node more is put
more_put : (old front mid : List ℕ) (node : ℕ) (new : List ℕ) (place : ℕ) → ArePut old front mid → IsPut mid node new place → ArePut old (front ++ node ∷ []) new
more_put old front mid node new place before put =
    let (first, is) = before.grown in
    let (next, then) = put.grown in
    record {
      grown = (first ++ next, then ∙ ap (λ l. l ++ next) is ∙ append_assoc old first next);
      only = λ a h. ⊎_elim
          (λ (there : has a mid ≡ true). ⊎_elim (λ was. inl was) (λ among. inr (has-append_left a front (node ∷ []) among)) (before.only a there))
          (λ (same : a ≡ node). inr (has-append_right a front (node ∷ []) (subst (λ k. has a (k ∷ []) ≡ true) same (has_first a []))))
          (put.only a h);
    }

-- nodes keep their places in a list that grows
pub still_at : (list more new nodes places : List ℕ) → new ≡ list ++ more → AreAt list nodes places → AreAt new nodes places
still_at list more new nodes places is at = record {
  count = at.count;
  inside = λ i h. let low = at.inside i h in let longer = grown_length list more new is in omega (arith, low, longer);
  stand = λ i h. grown_at list more new (get_or places i 0) is (at.inside i h) ∙ at.stand i h;
}

more_at : (mid front places : List ℕ) (node : ℕ) (new : List ℕ) (place : ℕ) → AreAt mid front places → IsPut mid node new place → AreAt new (front ++ node ∷ []) (places ++ place ∷ [])
more_at mid front places node new place before put =
    let (more, is) = put.grown in
    let now = still_at mid more new front places is before in
    let count : length (places ++ place ∷ []) ≡ length places + 1 = length_push places place in
    record {
      count = count ∙ ap (λ n. n + 1) before.count ∙ sym (length_push front node);
      inside = λ i h. ⊎_elim
          (λ (left : i < length places). subst (λ p. p < length new) (sym (get_or_append_left places (place ∷ []) 0 i left)) (now.inside i left))
          (λ (last : length places ≤ i). subst (λ p. p < length new) (sym (get_or_push places place 0 i (omega (arith, count, last, h)))) put.inside)
          (cases_lt i (length places));
      stand = λ i h. ⊎_elim
          (λ (left : i < length places).
          ap (λ p. get_or new p 0) (get_or_append_left places (place ∷ []) 0 i left) ∙ now.stand i left
          ∙ sym (get_or_append_left front (node ∷ []) 0 i (omega (arith, left, before.count))))
          (λ (last : length places ≤ i).
          ap (λ p. get_or new p 0) (get_or_push places place 0 i (omega (arith, count, last, h))) ∙ put.stands
          ∙ sym (get_or_push front node 0 i (omega (arith, count, last, h, before.count))))
          (cases_lt i (length places));
    }

-- the list has all nodes that stand in it
pub has_all_at : (list nodes places : List ℕ) (a : ℕ) → AreAt list nodes places → has a nodes ≡ true → (i : ℕ) × (i < length places) × (get_or list (get_or places i 0) 0 ≡ a) × (has a list ≡ true)
has_all_at list nodes places a at h =
    let (i, inside, is) = at_has a nodes h in
    let there : i < length places = omega (arith, inside, at.count) in
    let stands : get_or list (get_or places i 0) 0 ≡ a = at.stand i there ∙ is in
    (i, there, stands, subst (λ k. has k list ≡ true) stands (has_at list (get_or places i 0) (at.inside i there)))

-- the places of no nodes
pub start_at : (list nodes places : List ℕ) → places ≡ [] → AreAt list (take 0 nodes) places
start_at list [] places none = subst (λ l. AreAt list [] l) (sym none) (none_at list)
start_at list (node ∷ nodes) places none = subst (λ l. AreAt list [] l) (sym none) (none_at list)

-- the next node is put, and its place kept
pub more_placed : (old nodes mid places : List ℕ) (i node : ℕ) (new : List ℕ) (place : ℕ) (more : List ℕ)
    → ArePut old (take i nodes) mid → AreAt mid (take i nodes) places → i < length nodes → get_or nodes i 0 ≡ node → IsPut mid node new place → more ≡ places ++ place ∷ []
    → ArePut old (take (i + 1) nodes) new × AreAt new (take (i + 1) nodes) more
more_placed old nodes mid places i node new place more before at inside is put grown =
    let next : take (i + 1) nodes ≡ take i nodes ++ node ∷ [] = take_more nodes i 0 inside ∙ ap (λ k. take i nodes ++ k ∷ []) is in (
      subst (λ l. ArePut old l new) (sym next) (more_put old (take i nodes) mid node new place before put),
      subst (λ l. AreAt new (take (i + 1) nodes) l) (sym grown) (subst (λ l. AreAt new l (places ++ place ∷ [])) (sym next) (more_at mid (take i nodes) places node new place at put)),
    )

-- past the last node all are put
pub all_put : (old nodes new : List ℕ) (i : ℕ) → ArePut old (take i nodes) new → length nodes ≤ i → ArePut old nodes new
all_put old nodes new i put past = subst (λ l. ArePut old l new) (take_all i nodes past) put

pub all_at : (list nodes places : List ℕ) (i : ℕ) → AreAt list (take i nodes) places → length nodes ≤ i → AreAt list nodes places
all_at list nodes places i at past = subst (λ l. AreAt list l places) (take_all i nodes past) at
