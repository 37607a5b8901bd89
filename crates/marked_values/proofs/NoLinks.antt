-- Nodes that come from nowhere over an operation are linked to nothing. Serves the laws on operations.
use Rattle.std.proofs.Common.{◌≡◌, ◌∙◌, sym, ap, refl, subst, ℕ, Bool, true, false, Some, None}
use Rattle.std.specs.Prelude.{IsTrue}
use Rattle.std.proofs.lemmas.Option.{same_Some}
use Rattle.cell_addr.specs.declared.place.Place.{Place}
use Rattle.shift_core.specs.Form.{form_of}
use Rattle.shift_core.specs.Sound.{IsSound}
use Rattle.shift_core.specs.Tables.{place_after}
use Rattle.shift_core.specs.declared.shift.Shift.{Shift}
use Rattle.dep_graph.specs.Laws.{AreLinksInside, IsNoRange, IsNodeInside}
use Rattle.dep_graph.specs.Needs.{Links}
use Rattle.dep_graph.specs.Nodes.{has}
use Rattle.dep_graph.specs.Shifted.{AreShifted, node_after}
use Rattle.dep_graph.specs.declared.node.Node.{Node}
use Rattle.dep_graph.specs.declared.node.Node.TheVariants.{Cell, Name, Range, Whole}
use Rattle.dep_graph.proofs.UnbentNodes.{mapped}
use Rattle.recalc_core.specs.Shifted.{drops_scope, from_over}
use Rattle.recalc_core.proofs.Bridge.{none_some}
use Rattle.marked_values.proofs.Origins.{from_cell, from_name}

module _ (s : Shift) (old new : Links) (sound : IsSound s) (inside : AreLinksInside old) (shifted : AreShifted s old new)
    (no_ranges : (r y : Node) → ¬ IsNoRange r → ¬ IsTrue (has y (old r))) where
  dropped : (scope word : ℕ) → from_over s (Name scope word) ≡ None → drops_scope (form_of s) scope ≡ true
  dropped scope word none = by (drops_scope (form_of s) scope) refl
    where
      by : (t : Bool) → drops_scope (form_of s) scope ≡ t → drops_scope (form_of s) scope ≡ true
      by true e = e
      by false e = absurd (none_some (Name scope word) (sym none ∙ from_name s sound scope word e))

  one_cell : (r q : Place) → Cell r ≡ Cell q → r ≡ q
  one_cell r q e = cc

  -- a name of a dropped sheet isn't linked to anything either
  abbrev pub NoName : Node → Type 0
  NoName a = (scope word : ℕ) (y : Node) → a ≡ Name scope word → drops_scope (form_of s) scope ≡ true → ¬ IsTrue (has y (old (Name scope word)))

  nothing_came : (a x y : Node) → NoName a → from_over s a ≡ None → IsTrue (has y (old x)) → node_after s x ≡ Some a → IsNodeInside x → ⊥
  nothing_came a (Range block) y no_name none link to in_limits = no_ranges (Range block) y (λ plain. plain) link
  nothing_came a (Whole w) y no_name none link to in_limits = no_ranges (Whole w) y (λ plain. plain) link
  nothing_came (Cell q) (Cell p) y no_name none link to in_limits =
      let (r, goes, same) = mapped Cell (place_after s p) (Cell q) to in
      none_some (Cell p) (sym none ∙ from_cell s sound p q in_limits (goes ∙ ap Some (one_cell r q same)))
  nothing_came (Cell q) (Name scope word) y no_name none link to in_limits = absurd (cc)
  nothing_came (Name scope word) (Cell p) y no_name none link to in_limits = let (r, goes, same) = mapped Cell (place_after s p) (Name scope word) to in absurd (cc)
  nothing_came (Name scope word) (Name other last) y no_name none link to in_limits =
      let same : Name other last ≡ Name scope word = same_Some (Name other last) (Name scope word) to in
      no_name scope word y refl (dropped scope word none) (subst (λ n. IsTrue (has y (old n))) same link)
  nothing_came (Range block) (Cell p) y no_name none link to in_limits = let (r, goes, same) = mapped Cell (place_after s p) (Range block) to in absurd (cc)
  nothing_came (Range block) (Name scope word) y no_name none link to in_limits = absurd (cc)
  nothing_came (Whole w) (Cell p) y no_name none link to in_limits = let (r, goes, same) = mapped Cell (place_after s p) (Whole w) to in absurd (cc)
  nothing_came (Whole w) (Name scope word) y no_name none link to in_limits = absurd (cc)

  pub no_link : (a d : Node) → NoName a → from_over s a ≡ None → ¬ IsTrue (has d (new a))
  no_link a d no_name none h =
      let (x, y, link, x_to, y_to) = (shifted a d).0 h in
      nothing_came a x y no_name none link x_to ((inside x y link).0)
