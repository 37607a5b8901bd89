-- What a search has found once all nodes are closed. Serves `order`.
use Rattle.std.proofs.Common.{◌≡◌, ◌∙◌, sym, arith, ℕ, ◌+◌, ◌<◌, ◌≤◌, ⊎_elim, true, false, List, length, get_or, nat_eq, subst}
use Rattle.std.proofs.lemmas.Bool.{cases_lt, false≢true}
use Rattle.std.proofs.lemmas.List.Folds.{list_any_at}
use Rattle.needs_order.specs.declared.search.Mark.TheVariants.{Unseen, Closed}
use Rattle.needs_order.specs.declared.search.Search.{Search}
use Rattle.needs_order.specs.Needs.{has, CyclesAre, IsEachOnce}
use Rattle.needs_order.specs.internal.Search.{mark_at, IsIdle, KeepsMet}
use Rattle.needs_order.proofs.Lists.{has_or_not, nat_eq_self}
use Rattle.needs_order.proofs.Leads.{leads_inside}
use Rattle.needs_order.proofs.Marks.{met_inside}
use Rattle.needs_order.proofs.Steps.{met_is_closed}

module _ (lists : List (List ℕ)) where
  -- one node more is closed, and those before it stay so
  pub closed_more : (s t : Search) (node : ℕ) → ((a : ℕ) → a < node → mark_at s.marks.items a ≡ Closed) → IsIdle lists t → KeepsMet s t → mark_at t.marks.items node ≡ Closed → (a : ℕ) → a < node + 1 → mark_at t.marks.items a ≡ Closed
  closed_more s t node before idle keeps here a below = ⊎_elim
      (λ (earlier : a < node). met_is_closed lists t a idle (λ new. let e : Closed ≡ Unseen = sym (before a earlier) ∙ keeps a new in cc))
      (λ (last : node ≤ a). let same : node ≡ a = omega (arith, below, last) in subst (λ k. mark_at t.marks.items k ≡ Closed) same here)
      (cases_lt a node)

  module _ (s : Search) (idle : IsIdle lists s) (all : (a : ℕ) → a < length lists → mark_at s.marks.items a ≡ Closed) where
    only_nodes : (a : ℕ) → has a s.order.items ≡ true → a < length lists
    only_nodes a h =
        let count = idle.0.marks.count in
        let met = met_inside s.marks.items a (λ new. let e : Closed ≡ Unseen = sym (idle.0.marks.placed a h) ∙ new in cc) in
        omega (arith, count, met)

    pub found_each_once : IsEachOnce (length lists) s.order.items
    found_each_once = (
      λ a inside. idle.0.marks.closed a (all a inside),
      λ k d below. only_nodes (get_or s.order.items k d) (list_any_at (λ x. nat_eq x (get_or s.order.items k d)) s.order.items k d below (nat_eq_self (get_or s.order.items k d))),
      idle.0.closed.once,
    )

    pub found_cycles : CyclesAre lists s.on_cycle.items
    found_cycles a = ⊎_elim
        (λ placed. idle.0.closed.cycles a placed)
        (λ (out : has a s.order.items ≡ false). (
          λ flag. absurd (false≢true (sym (idle.0.closed.others a out) ∙ flag)),
          λ leads_back. absurd (false≢true (sym out ∙ idle.0.marks.closed a (all a (leads_inside lists leads_back)))),
        ))
        (has_or_not a s.order.items)
