-- One step of following arrows, and when all is found. Serves the exploration.
use Rattle.std.proofs.Common.{◌≡◌, ◌≢◌, ◌∙◌, sym, ap, subst, arith, ℕ, ◌+◌, ◌-◌, ◌<◌, ◌≤◌, inl, inr, ⊎_elim, true, List, [], ◌∷◌, ◌++◌, length, get_or, nat_eq, ◌||◌, refl}
use Rattle.std.specs.List.{All, AllPairs, list_any}
use Rattle.std.proofs.lemmas.Bool.{cases_lt, false≢true, ne_eqb}
use Rattle.std.proofs.lemmas.Bool.Decides.{nat_tests}
use Rattle.std.specs.declared.alloc.Global.{Global}
use Rattle.std.specs.declared.vec.Vec.{Vec}
use Rattle.std.proofs.lemmas.List.{get_or_append_left, get_or_push, length_push, map-append}
use Rattle.std.proofs.lemmas.Map.Keys.{IsDistinct-from_apart}
use Rattle.std.proofs.lemmas.Map.Steps.{length-le_from_distinct_below}
use Rattle.needs_order.specs.Needs.{has, lists_of}
use Rattle.needs_order.proofs.Lists.{has_at, at_has}
use Rattle.node_reach.specs.Arrows.{IsReached, LeadsTo}
use Rattle.node_reach.specs.Arrows.LeadsTo.{at_once, after}
use Rattle.node_reach.specs.internal.Explored.{AreAt, ArePut, IsUnderWay, IsExplored}
use Rattle.node_reach.proofs.Putting.{grown_at, grown_has, grown_length, still_at, has_all_at}

-- one arrow more leads further
onward : (targets : ℕ → List ℕ) {a b c : ℕ} → LeadsTo targets a b → has c (targets b) ≡ true → LeadsTo targets a c
onward targets (at_once first) next = after first (at_once next)
onward targets (after first rest) next = after first (onward targets rest next)

-- a target of a reached node is reached
pub reached_next : (targets : ℕ → List ℕ) (starts : List ℕ) (b c : ℕ) → IsReached targets starts b → has c (targets b) ≡ true → IsReached targets starts c
reached_next targets starts b c reached next = ⊎_elim
    (λ (first : has b starts ≡ true). inr (b, first, at_once next))
    (λ (led : (a : ℕ) × (has a starts ≡ true) × LeadsTo targets a b). inr (led.0, led.1, onward targets led.2 next))
    reached

-- a node of a list whose nodes are all below a count
below_count : (count : ℕ) (nodes : List ℕ) (a : ℕ) → All (λ b. b < count) nodes → has a nodes ≡ true → a < count
below_count count nodes a all h = let (i, inside, is) = at_has a nodes h in subst (λ b. b < count) is (all i 0 inside)

-- the starts are found
starts_found : (count : ℕ) (targets : ℕ → List ℕ) (old starts found places : List ℕ) → length old ≡ 0 → All (λ a. a < count) starts → ArePut old starts found → AreAt found starts places → IsUnderWay count targets starts found []
starts_found count targets (x ∷ old) starts found places none below put at = absurd (omega (arith, none))
starts_found count targets [] starts found places none below put at =
    let among : (a : ℕ) → has a found ≡ true → has a starts ≡ true = λ a h. ⊎_elim (λ (was : has a [] ≡ true). absurd (false≢true was)) (λ (is : has a starts ≡ true). is) (put.only a h) in
    record {
      starts_in = λ a h. (has_all_at found starts places a at h).3;
      only = λ a h. inl (among a h);
      nodes = λ a h. below_count count starts a below (among a h);
      within = omega arith;
      lists_at = λ i h. absurd (omega (arith, h));
    }

-- the targets of one node more are found
more_found : (count : ℕ) (targets : ℕ → List ℕ) (starts found : List ℕ) (lists : List (List ℕ)) (node : ℕ) (new places : List ℕ)
    → IsUnderWay count targets starts found lists → length lists < length found → get_or found (length lists) 0 ≡ node
    → All (λ b. b < count) (targets node) → ArePut found (targets node) new → AreAt new (targets node) places
    → IsUnderWay count targets starts new (lists ++ places ∷ [])
more_found count targets starts found lists node new places way inside is below put at =
    let (more, grown) = put.grown in
    let longer = grown_length found more new grown in
    let counted : length (lists ++ places ∷ []) ≡ length lists + 1 = length_push lists places in
    let node_in : has node found ≡ true = subst (λ k. has k found ≡ true) is (has_at found (length lists) inside) in
    record {
      starts_in = λ a h. grown_has found more new a grown (way.starts_in a h);
      only = λ a h. ⊎_elim (λ (was : has a found ≡ true). way.only a was) (λ (target : has a (targets node) ≡ true). reached_next targets starts node a (way.only node node_in) target) (put.only a h);
      nodes = λ a h. ⊎_elim (λ (was : has a found ≡ true). way.nodes a was) (λ (target : has a (targets node) ≡ true). below_count count (targets node) a below target) (put.only a h);
      within = omega (arith, counted, longer, inside);
      lists_at = λ i h. ⊎_elim
          (λ (left : i < length lists).
          let was = still_at found more new (targets (get_or found i 0)) (get_or lists i []) grown (way.lists_at i left) in
          let same : get_or new i 0 ≡ get_or found i 0 = grown_at found more new i grown (omega (arith, left, way.within)) in
          let list : get_or (lists ++ places ∷ []) i [] ≡ get_or lists i [] = get_or_append_left lists (places ∷ []) [] i left in
          subst (λ l. AreAt new (targets (get_or new i 0)) l) (sym list) (subst (λ k. AreAt new (targets k) (get_or lists i [])) (sym same) was))
          (λ (last : length lists ≤ i).
          let at_end : i ≡ length lists = omega (arith, last, h, counted) in
          let same : get_or new i 0 ≡ node = ap (λ k. get_or new k 0) at_end ∙ grown_at found more new (length lists) grown inside ∙ is in
          let list : get_or (lists ++ places ∷ []) i [] ≡ places = get_or_push lists places [] i (sym at_end) in
          subst (λ l. AreAt new (targets (get_or new i 0)) l) (sym list) (subst (λ k. AreAt new (targets k) places) (sym same) at))
          (cases_lt i (length lists));
    }

-- there are no more found nodes than nodes
flipped : (q x : ℕ) → nat_eq q x ≡ nat_eq x q
flipped q x = grind (arith, nat_tests)

any_has : (q : ℕ) (xs : List ℕ) → list_any (nat_eq q) xs ≡ has q xs
any_has q [] = refl
any_has q (x ∷ xs) = ap (λ b. b || list_any (nat_eq q) xs) (flipped q x) ∙ ap (λ b. nat_eq x q || b) (any_has q xs)

few_found : (count : ℕ) (targets : ℕ → List ℕ) (starts found : List ℕ) (lists : List (List ℕ)) → IsUnderWay count targets starts found lists → AllPairs (λ a b. a ≢ b) found → length found ≤ count
few_found count targets starts found lists way once =
    length-le_from_distinct_below found count
    (IsDistinct-from_apart nat_eq found (λ i j d before inside. ne_eqb (get_or found i d) (get_or found j d) (once i j d before inside)))
    (λ q h. way.nodes q (sym (any_has q found) ∙ h))

-- a found node is a node
pub found_below : (count : ℕ) (targets : ℕ → List ℕ) (starts found : List ℕ) (lists : List (List ℕ)) (place node : ℕ) → IsUnderWay count targets starts found lists → place < length found → get_or found place 0 ≡ node → node < count
found_below count targets starts found lists place node way inside is = way.nodes node (subst (λ k. has k found ≡ true) is (has_at found place inside))

-- where no node is left, all is found
pub all_found : (count : ℕ) (targets : ℕ → List ℕ) (starts found : List ℕ) (lists : List (List ℕ)) → IsUnderWay count targets starts found lists → length found ≤ length lists → AllPairs (λ a b. a ≢ b) found → IsExplored count targets starts found lists
all_found count targets starts found lists way past once = record { under_way = way; all = omega (arith, past, way.within); once = once }

-- the same of the lists as they are kept
pub starts_kept : (count : ℕ) (targets : ℕ → List ℕ) (old starts found places : List ℕ) (kept : List (Vec ℕ Global)) → length old ≡ 0 → kept ≡ [] → All (λ a. a < count) starts → ArePut old starts found → AreAt found starts places
    → IsUnderWay count targets starts found (lists_of kept)
starts_kept count targets old starts found places kept none no_lists below put at = subst (λ l. IsUnderWay count targets starts found (lists_of l)) (sym no_lists) (starts_found count targets old starts found places none below put at)

pub more_kept : (count : ℕ) (targets : ℕ → List ℕ) (starts found : List ℕ) (kept : List (Vec ℕ Global)) (node : ℕ) (arrows lent new : List ℕ) (places : Vec ℕ Global) (more : List (Vec ℕ Global))
    → IsUnderWay count targets starts found (lists_of kept) → length (lists_of kept) < length found → get_or found (length (lists_of kept)) 0 ≡ node
    → arrows ≡ targets node → lent ≡ arrows → All (λ b. b < count) arrows → ArePut found lent new → AreAt new lent places.items → more ≡ kept ++ places ∷ []
    → IsUnderWay count targets starts new (lists_of more)
more_kept count targets starts found kept node arrows lent new places more way inside is told lending below put at grown =
    let led : lent ≡ targets node = lending ∙ told in
    let lists : lists_of more ≡ lists_of kept ++ places.items ∷ [] = ap lists_of grown ∙ map-append (λ list. list.items) kept (places ∷ []) in
    subst (λ l. IsUnderWay count targets starts new l) (sym lists)
    (more_found count targets starts found (lists_of kept) node new places.items way inside is
    (subst (λ l. All (λ b. b < count) l) told below) (subst (λ l. ArePut found l new) led put) (subst (λ l. AreAt new l places.items) led at))

-- fewer nodes are left
pub fewer_left : (count : ℕ) (targets : ℕ → List ℕ) (starts found : List ℕ) (kept : List (Vec ℕ Global)) (places : Vec ℕ Global) (more : List (Vec ℕ Global))
    → IsUnderWay count targets starts found (lists_of kept) → AllPairs (λ a b. a ≢ b) found → length (lists_of kept) < length found → more ≡ kept ++ places ∷ []
    → count - length (lists_of more) < count - length (lists_of kept)
fewer_left count targets starts found kept places more way once inside grown =
    let few = few_found count targets starts found (lists_of kept) way once in
    let lists : lists_of more ≡ lists_of kept ++ places.items ∷ [] = ap lists_of grown ∙ map-append (λ list. list.items) kept (places ∷ []) in
    let counted : length (lists_of more) ≡ length (lists_of kept) + 1 = ap length lists ∙ length_push (lists_of kept) places.items in
    omega (arith, few, inside, counted)
