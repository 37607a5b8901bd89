-- What a recalculation from marks comes to, of what the graph reaches and orders. Serves recalculation.
use Rattle.std.proofs.Common.{◌≡◌, ◌∙◌, sym, ap, refl, arith, ℕ, ℤ, ◌+◌, ◌<◌, ◌≤◌, Bool, true, false, List, [], ◌∷◌, ◌++◌, length, take, drop, get_or, ◌⊎◌, inl, inr, Option, Some, None, Result, Ok, Err, OnErr}
use Rattle.std.specs.List.{sum_by}
use Rattle.std.proofs.lemmas.Bool.{false≢true}
use Rattle.std.proofs.lemmas.List.{drop_more, take-append-drop}
use Rattle.custom_fn.specs.declared.rule.Rule.{Rule}
use Rattle.value_network.specs.Network.{LeadsTo, cyclic}
use Rattle.book_values.specs.Values.{network}
use Rattle.book_values.specs.Workbook as book
use Rattle.book_values.specs.Workbook.{Workbook}
use Rattle.dep_graph.specs.Needs.{Links, OnCycle, Reaches}
use Rattle.dep_graph.specs.Nodes.{has}
use Rattle.dep_graph.specs.Walks.{AreReached, IsOrdered}
use Rattle.dep_graph.specs.declared.node.Node.{Node}
use Rattle.recalc_core.specs.Kept.{IsFit, IsRight, Kept, expected_at}
use Rattle.recalc_core.specs.Links.{AreLinksOf}
use Rattle.recalc_core.specs.Nodes.{node_at}
use Rattle.recalc_core.specs.Steps.{TakesSteps, node_cost}
use Rattle.recalc_core.specs.internal.UnderWay.{AreCycles, DifferWithin, IsPlan, IsUnderWay}
use Rattle.recalc_core.proofs.Bridge.{chains_agree, cycles_are_same, unlinked}
use Rattle.recalc_core.proofs.UnderWay.{in_order}
use Rattle.recalc_core.proofs.Worked.{cycle_expected}

-- a list around one of its items
split_at : (nodes : List Node) (i : ℕ) (a : Node) → i < length nodes → a ≡ get_or nodes i a → nodes ≡ take i nodes ++ a ∷ drop (i + 1) nodes
split_at nodes i a low is = sym (take-append-drop i nodes) ∙ ap (λ rest. take i nodes ++ rest) (drop_more nodes i a low ∙ ap (λ n. n ∷ drop (i + 1) nodes) (sym is))

module _ (b : Workbook) (words : List (List ℕ)) (customs : List (List ℕ × Rule)) (today : ℤ) (links : Links) (good : AreLinksOf b words links) (marks affected order : List Node)
    (reached : AreReached links marks affected) (ordered : IsOrdered links affected order) where
  off_cycle : (a : Node) (x : book.Node) → node_at words a ≡ Some x → ¬ OnCycle links a → cyclic (network b customs today) x ≡ false
  off_cycle a x at apart = by (cyclic (network b customs today) x) refl
    where
      by : (t : Bool) → cyclic (network b customs today) x ≡ t → cyclic (network b customs today) x ≡ false
      by true e = absurd (apart ((cycles_are_same b words links customs today a x good at).1 e))
      by false e = e

  -- the graph's order is a plan
  pub is_plan : IsPlan b words customs today order
  is_plan i a x low is at = (off_cycle a x at ((ordered.which a).0 (in_order b words customs today order i a low is)).1, sorted)
    where
      sorted : (z : book.Node) (c : Node) → LeadsTo (network b customs today) x z → node_at words c ≡ Some z → (has c order ≡ false) ⊎ (has c (take i order) ≡ true)
      sorted z c leads to = by (has c order) refl
        where
          by : (t : Bool) → has c order ≡ t → (has c order ≡ false) ⊎ (has c (take i order) ≡ true)
          by true e = inr (ordered.in_order (take i order) (drop (i + 1) order) a c (split_at order i a low is) e ((chains_agree b words links customs today a c x z good at to).1 leads))
          by false e = inl e

  unreached : (a : Node) → ¬ Reaches links marks a → has a affected ≡ false
  unreached a apart = by (has a affected) refl
    where
      by : (t : Bool) → has a affected ≡ t → has a affected ≡ false
      by true e = absurd (apart ((reached.0 a).0 e))
      by false e = e

  unordered : (a : Node) → has a affected ≡ false → has a order ≡ false
  unordered a out = by (has a order) refl
    where
      by : (t : Bool) → has a order ≡ t → has a order ≡ false
      by true e = absurd (false≢true (sym out ∙ ((ordered.which a).0 e).0))
      by false e = e

  -- what changes among the affected nodes alone
  pub others_stay : (old new : Kept) → DifferWithin affected old new → (a : Node) → ¬ Reaches links marks a → new a ≡ old a
  others_stay old new within a apart = within a (unreached a apart)

  pub within_both : (old mid new : Kept) → DifferWithin affected old mid → DifferWithin order mid new → DifferWithin affected old new
  within_both old mid new first second a out = second a (unordered a out) ∙ first a out

  pub still_fit : (old new : Kept) → IsFit b words customs today links marks old → DifferWithin affected old new → IsFit b words customs today links marks new
  still_fit old new fit within a apart plain = others_stay old new within a apart ∙ fit a apart plain

  -- once those on a cycle are settled, what isn't in the order is right
  pub way_begins : (old new : Kept) → IsFit b words customs today links marks old → AreCycles affected order new → DifferWithin affected old new → IsUnderWay b words customs today order 0 new
  way_begins old new fit cycles within = record { done = λ a h. absurd (false≢true h); others = others }
    where
      others : (a : Node) → has a order ≡ false → IsRight b words customs today new a
      others a out plain = by (has a affected) refl
        where
          on_cycle : (x : book.Node) → node_at words a ≡ Some x → (t : Bool) → cyclic (network b customs today) x ≡ t → has a affected ≡ true → cyclic (network b customs today) x ≡ true
          on_cycle x at true e h = e
          on_cycle x at false e h = absurd (false≢true (sym out ∙ (ordered.which a).1 (h, λ chain. false≢true (sym e ∙ (cycles_are_same b words links customs today a x good at).0 chain))))

          shows : (o : Option book.Node) → node_at words a ≡ o → has a affected ≡ true → new a ≡ expected_at b customs today o
          shows (Some x) at e = cycles a e out plain ∙ sym (cycle_expected b customs today x (on_cycle x at (cyclic (network b customs today) x) refl e))
          shows None at e = absurd (false≢true (sym out ∙ (ordered.which a).1 (e, unlinked b words links good a plain at)))

          by : (t : Bool) → has a affected ≡ t → new a ≡ expected_at b customs today (node_at words a)
          by true e = shows (node_at words a) refl e
          by false e = within a e ∙ fit a (λ reach. false≢true (sym e ∙ (reached.0 a).1 reach)) plain

  pub steps_taken : (old new : ℕ) → new ≤ old + sum_by (node_cost b words customs today) order → TakesSteps b words customs today links marks old new
  steps_taken old new most = (order, ordered.once, λ a h. (reached.0 a).0 ((ordered.which a).0 h).0, most)

-- none were taken
pub no_steps : (b : Workbook) (words : List (List ℕ)) (customs : List (List ℕ × Rule)) (today : ℤ) (links : Links) (marks : List Node) (old : ℕ) → TakesSteps b words customs today links marks old old
no_steps b words customs today links marks old = ([], λ i j d less low. omega (arith, low), λ a h. absurd (false≢true h), omega arith)

pub on_err : {X E : Type 0} (r : Result X E) (P : Type 0) → P → OnErr r P
on_err (Ok x) P p = tt
on_err (Err e) P p = p
