-- Tests over a list by its elements: serves each proof on chains, and callers that build a network from a list.
use Rattle.std.proofs.Common.{◌≡◌, ◌&&◌, ◌||◌, Bool, true, false, cond, List, [], ◌∷◌, filter, Contains, sym, refl, ap, ◌∙◌, subst}
use Rattle.std.specs.List.{list_any}
use Rattle.std.proofs.lemmas.Bool.{and_parts, and_from, false_from_ne_true, false≢true}
use Rattle.std.proofs.lemmas.List.Folds.{Any-from_list_any, list_any_at}
use Rattle.value_network.specs.Network.{Network, IsNetwork, has}

-- two tests that imply each other are equal
pub equal_from_both : (one other : Bool) → (one ≡ true → other ≡ true) → (other ≡ true → one ≡ true) → one ≡ other
equal_from_both true other there back = sym (there refl)
equal_from_both false true there back = back refl
equal_from_both false false there back = refl

module _ {K : Type 0} where
  -- an element passes where the test over the list does
  pub any_gives : (test : K → Bool) (xs : List K) → list_any test xs ≡ true → (x : K) × Contains xs x × (test x ≡ true)
  any_gives test xs h =
      let (k, x, inside, is, passes) = Any-from_list_any test xs h in
      (x, (k, inside, is), passes)

  -- the test over the list passes where an element does
  pub any_from : (test : K → Bool) (xs : List K) (x : K) → Contains xs x → test x ≡ true → list_any test xs ≡ true
  any_from test xs x (k, inside, is) passes = list_any_at test xs k x inside (ap test is ∙ passes)

  -- the test over the list fails where each element does
  pub any_none : (test : K → Bool) (xs : List K) → ((x : K) → Contains xs x → test x ≡ false) → list_any test xs ≡ false
  any_none test xs none = false_from_ne_true (list_any test xs) λ h.
      let (x, inside, passes) = any_gives test xs h in
      false≢true (sym (none x inside) ∙ passes)

  -- a test over a list passes where a narrower one does
  pub any_wider : (narrow wide : K → Bool) (xs : List K) → ((x : K) → Contains xs x → narrow x ≡ true → wide x ≡ true) → list_any narrow xs ≡ true → list_any wide xs ≡ true
  any_wider narrow wide xs wider h =
      let (x, inside, passes) = any_gives narrow xs h in
      any_from wide xs x inside (wider x inside passes)

  -- two tests that agree at each element agree over the list
  pub any_agree : (one other : K → Bool) (xs : List K) → ((x : K) → Contains xs x → one x ≡ other x) → list_any one xs ≡ list_any other xs
  any_agree one other xs agree = equal_from_both (list_any one xs) (list_any other xs)
      (any_wider one other xs (λ x inside p. sym (agree x inside) ∙ p))
      (any_wider other one xs (λ x inside p. agree x inside ∙ p))

  -- a test over what a filter keeps passes exactly where one element passes both tests
  pub any-filter : (keep test : K → Bool) (xs : List K) → list_any test (filter keep xs) ≡ list_any (λ x. keep x && test x) xs
  any-filter keep test [] = refl
  any-filter keep test (x ∷ xs) = go (keep x) (any-filter keep test xs)
    where
      go : (b : Bool) → list_any test (filter keep xs) ≡ list_any (λ y. keep y && test y) xs → list_any test (cond b (x ∷ filter keep xs) (filter keep xs)) ≡ ((b && test x) || list_any (λ y. keep y && test y) xs)
      go true rest = ap (λ t. test x || t) rest
      go false rest = rest

module _ {K V : Type 0} (net : Network K V) (sound : IsNetwork net) where
  -- the network's test of a list says what the list contains
  pub Contains-from_has : (xs : List K) (x : K) → has net x xs ≡ true → Contains xs x
  Contains-from_has xs x h =
      let (y, inside, same) = any_gives (net.same x) xs h in
      subst (λ z. Contains xs z) (sym (sound.same_equal x y same)) inside

  -- and the other way round
  pub has-from_Contains : (xs : List K) (x : K) → Contains xs x → has net x xs ≡ true
  has-from_Contains xs x inside = any_from (net.same x) xs x inside (sound.same_self x)

  -- a node that a filter keeps stands in the list and passes
  pub has-filter_gives : (keep : K → Bool) (xs : List K) (x : K) → has net x (filter keep xs) ≡ true → (has net x xs ≡ true) × (keep x ≡ true)
  has-filter_gives keep xs x h =
      let (y, inside, both) = any_gives (λ z. keep z && net.same x z) xs (sym (any-filter keep (net.same x) xs) ∙ h) in
      let (kept, same) = and_parts (keep y) (net.same x y) both in
      (any_from (net.same x) xs y inside same, ap keep (sound.same_equal x y same) ∙ kept)

  -- a node of the list that passes is kept
  pub has-filter : (keep : K → Bool) (xs : List K) (x : K) → has net x xs ≡ true → keep x ≡ true → has net x (filter keep xs) ≡ true
  has-filter keep xs x h kept =
      any-filter keep (net.same x) xs ∙ any_from (λ z. keep z && net.same x z) xs x (Contains-from_has xs x h) (and_from (keep x) (net.same x x) kept (sound.same_self x))
