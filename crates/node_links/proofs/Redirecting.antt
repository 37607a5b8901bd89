-- The targets of some nodes, one after another. Serves the redirection of links.
use Rattle.std.proofs.Common.{◌≡◌, ◌∙◌, sym, ap, refl, subst, arith, ℕ, zero, suc, ◌+◌, ◌<◌, ⊎_elim, true, List, [], ◌∷◌, ◌++◌, length, append_assoc, take, get_or, Option, Some, None, IsTrue}
use Rattle.std.specs.List.{cons_option, filter_map}
use Rattle.std.specs.Option.{option_to_list}
use Rattle.smallvec.specs.SmallVec.{SmallVec}
use Rattle.std.proofs.lemmas.Bool.{false≢true}
use Rattle.std.proofs.lemmas.List.{take_more}
use Rattle.std.proofs.lemmas.List.Elements.{filter_map-append}
use Rattle.needs_order.specs.Needs.{has}
use Rattle.needs_order.proofs.Lists.{has-append_right, has_cases, has_first}
use Rattle.node_links.specs.Links.{needs_at}

-- ---- the targets of some nodes

module _ (f : ℕ → Option ℕ) where
  pub came_from : (ns : List ℕ) (u : ℕ) → has u (filter_map f ns) ≡ true → (m : ℕ) × IsTrue (has m ns) × (f m ≡ Some u)
  came_from [] u h = absurd (false≢true h)
  came_from (n ∷ ns) u h = by (f n) refl (λ later. came_from ns u later) h
    where
      by : (o : Option ℕ) → f n ≡ o → (has u (filter_map f ns) ≡ true → (m : ℕ) × IsTrue (has m ns) × (f m ≡ Some u)) → has u (cons_option o (filter_map f ns)) ≡ true
          → (m : ℕ) × IsTrue (has m (n ∷ ns)) × (f m ≡ Some u)
      by None e rest there = let (m, listed, is) = rest there in (m, has-append_right m (n ∷ []) ns listed, is)
      by (Some x) e rest there = ⊎_elim
          (λ (same : x ≡ u). (n, has_first n ns, e ∙ ap Some same))
          (λ (later : has u (filter_map f ns) ≡ true). let (m, listed, is) = rest later in (m, has-append_right m (n ∷ []) ns listed, is))
          (has_cases u x (filter_map f ns) there)

  pub goes_to : (ns : List ℕ) (m u : ℕ) → has m ns ≡ true → f m ≡ Some u → has u (filter_map f ns) ≡ true
  goes_to [] m u h is = absurd (false≢true h)
  goes_to (n ∷ ns) m u h is = ⊎_elim
      (λ (same : n ≡ m). subst (λ o. has u (cons_option o (filter_map f ns)) ≡ true) (sym (ap f same ∙ is)) (has_first u (filter_map f ns)))
      (λ (later : has m ns ≡ true). behind (f n) (goes_to ns m u later is))
      (has_cases m n ns h)
    where
      behind : (o : Option ℕ) → has u (filter_map f ns) ≡ true → has u (cons_option o (filter_map f ns)) ≡ true
      behind None there = there
      behind (Some x) there = has-append_right u (x ∷ []) (filter_map f ns) there

  -- the target of one node more
  pub targets_next : (ns : List ℕ) (i : ℕ) (before old new : List ℕ) (o : Option ℕ) → i < length ns → old ≡ before ++ filter_map f (take i ns) → o ≡ f (get_or ns i 0) → new ≡ old ++ option_to_list o → new ≡ before ++ filter_map f (take (i + 1) ns)
  targets_next ns i before old new o inside was is added =
      let one_more : filter_map f (take (i + 1) ns) ≡ filter_map f (take i ns) ++ option_to_list (f (get_or ns i 0)) = ap (filter_map f) (take_more ns i 0 inside) ∙ (filter_map-append f (take i ns) (get_or ns i 0 ∷ []) ∙ ap (λ l. filter_map f (take i ns) ++ l) (single (f (get_or ns i 0)))) in
      added ∙ (ap (λ l. l ++ option_to_list o) was
      ∙ (append_assoc before (filter_map f (take i ns)) (option_to_list o)
      ∙ ap (λ l. before ++ l) (ap (λ y. filter_map f (take i ns) ++ option_to_list y) is ∙ sym one_more)))
    where
      single : (o : Option ℕ) → cons_option o [] ≡ option_to_list o
      single None = refl
      single (Some x) = refl

-- a number with needs is that of a node
pub needing_inside : (lists : List (SmallVec ℕ)) (a m : ℕ) → has m (needs_at lists a) ≡ true → a < length lists
needing_inside [] a m h = absurd (false≢true h)
needing_inside (w ∷ lists) zero m h = omega arith
needing_inside (w ∷ lists) (suc a) m h = omega (arith, needing_inside lists a m h)
