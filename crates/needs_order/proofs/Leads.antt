-- Where needs lead. Serves the search.
use Rattle.std.proofs.Common.{◌≡◌, ℕ, ◌<◌, ⊎_elim, true, List, [], length, subst}
use Rattle.std.proofs.lemmas.Bool.{cases_lt, false≢true}
use Rattle.std.proofs.lemmas.List.{get_or_past}
use Rattle.needs_order.specs.Needs.{has, AreNodes, Needs, LeadsTo}
use Rattle.needs_order.specs.Needs.LeadsTo.{at_once, after}
use Rattle.needs_order.specs.internal.Search.{needs_of}
use Rattle.needs_order.proofs.Lists.{at_has}

module _ (lists : List (List ℕ)) where
  pub leads_on : {a b c : ℕ} → LeadsTo lists a b → LeadsTo lists b c → LeadsTo lists a c
  leads_on (at_once need) further = after need further
  leads_on (after need more) further = after need (leads_on more further)

  -- nodes that have with each all that it needs have all that it leads to
  pub closed_leads : (xs : List ℕ) → ((a b : ℕ) → has a xs ≡ true → Needs lists a b → has b xs ≡ true) → {a b : ℕ} → LeadsTo lists a b → has a xs ≡ true → has b xs ≡ true
  closed_leads xs closed (at_once need) h = closed _ _ h need
  closed_leads xs closed (after need more) h = closed_leads xs closed more (closed _ _ h need)

  -- what leads anywhere has a list
  pub needs_inside : (a b : ℕ) → Needs lists a b → a < length lists
  needs_inside a b need = ⊎_elim
      (λ inside. inside)
      (λ past. absurd (false≢true (subst (λ xs. has b xs ≡ true) (get_or_past lists a [] past) need)))
      (cases_lt a (length lists))

  pub leads_inside : {a b : ℕ} → LeadsTo lists a b → a < length lists
  leads_inside (at_once need) = needs_inside _ _ need
  leads_inside (after need more) = needs_inside _ _ need

  -- what is needed is a node
  pub need_is_node : AreNodes lists → (a b : ℕ) → Needs lists a b → b < length lists
  need_is_node nodes a b need =
      let (m, inside, is) = at_has b (needs_of lists a) need in
      subst (λ k. k < length lists) is (nodes a [] (needs_inside a b need) m 0 inside)
