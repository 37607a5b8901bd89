-- Which cells are on a cycle, by an order of those that aren't. Serves the cells on a cycle.
use Rattle.std.proofs.Common.{◌≡◌, ◌∙◌, sym, ap, refl, Bool, true, false, not, cond, List, [], ◌∷◌, filter, map}
use Rattle.std.proofs.lemmas.Bool.{false≢true}
use Rattle.cell_addr.specs.declared.place.Place.{Place}
use Rattle.dep_graph.specs.Needs.{Links}
use Rattle.dep_graph.specs.Nodes.{has}
use Rattle.dep_graph.specs.Walks.{IsOrdered}
use Rattle.dep_graph.specs.declared.node.Node.{Node}
use Rattle.dep_graph.specs.declared.node.Node.TheVariants.{Cell}
use Rattle.dep_graph.proofs.Places.{has_first, has_later}
use Rattle.kept_values.specs.Cycles.{TellsCycles}

module _ (links : Links) (places : List Place) (order : List Node) (ordered : IsOrdered links (map Cell places) order) (test : Place → Bool) (tells : TellsCycles links test) where
  -- a cell of the list is left out of the order exactly where it is on a cycle
  is_left : (p : Place) → has (Cell p) (map Cell places) ≡ true → not (has (Cell p) order) ≡ test p
  is_left p listed = by (test p) refl (has (Cell p) order) refl
    where
      by : (b : Bool) → test p ≡ b → (h : Bool) → has (Cell p) order ≡ h → not (has (Cell p) order) ≡ test p
      by true is true in_order = absurd (((ordered.which (Cell p)).0 in_order).1 ((tells p).0 is))
      by true is false in_order = ap not in_order ∙ sym is
      by false is true in_order = ap not in_order ∙ sym is
      by false is false in_order = absurd (false≢true (sym in_order ∙ (ordered.which (Cell p)).1 (listed, λ cyclic. false≢true (sym is ∙ (tells p).1 cyclic))))

  left_among : (ps : List Place) → ((p : Place) → has (Cell p) (map Cell ps) ≡ true → has (Cell p) (map Cell places) ≡ true) → filter (λ p. not (has (Cell p) order)) ps ≡ filter test ps
  left_among [] among = refl
  left_among (p ∷ ps) among =
      let here = is_left p (among p (has_first (Cell p) (map Cell ps))) in
      let rest = left_among ps (λ q h. among q (has_later (Cell q) (Cell p) (map Cell ps) h)) in
      (λ i. cond (here i) (p ∷ rest i) (rest i))

  pub left_cyclic : filter (λ p. not (has (Cell p) order)) places ≡ filter test places
  left_cyclic = left_among places (λ p h. h)

-- tests that are the same everywhere pass the same
pub filtered_same : (p q : Place → Bool) → ((x : Place) → p x ≡ q x) → (xs : List Place) → filter p xs ≡ filter q xs
filtered_same p q same [] = refl
filtered_same p q same (x ∷ xs) = (λ i. cond (same x i) (x ∷ filtered_same p q same xs i) (filtered_same p q same xs i))
