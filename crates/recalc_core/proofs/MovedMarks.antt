-- What nodes become over a structural operation, marks that go along, and what values that do so show. Serves the shift of
-- kept values.
use Rattle.std.proofs.Common.{◌≡◌, ◌∙◌, sym, ap, refl, subst, Bool, true, false, cond, ◌||◌, List, [], ◌∷◌, ◌++◌, Option, Some, None, option_map, option_and_then, ◌⊎◌, inl, inr, ◌↔◌, ⊎_elim}
use Rattle.std.specs.Prelude.{unwrap_or}
use Rattle.std.proofs.lemmas.Bool.{false≢true, or_cases, or_left, or_right}
use Rattle.std.proofs.lemmas.List.Folds.{list_any-append}
use Rattle.cell_addr.specs.Place.{IsInside}
use Rattle.cell_addr.specs.declared.place.Place.{Place}
use Rattle.cell_value.specs.declared.scalar.Scalar.TheVariants.{Empty}
use Rattle.shift_core.proofs.PlaceLaws.{place_moved_inside, place_moved_returns, place_returned_goes, place_returned_inside}
use Rattle.shift_core.specs.Form.{form_of}
use Rattle.shift_core.specs.Sound.{IsSound}
use Rattle.shift_core.specs.Tables.{place_after, place_before}
use Rattle.shift_core.specs.declared.shift.Shift.{Shift}
use Rattle.range_table.specs.Shifted.{TakesValues}
use Rattle.dep_graph.specs.Laws.{IsNoRange}
use Rattle.dep_graph.specs.Nodes.{has, same_node}
use Rattle.dep_graph.specs.declared.node.Node.{Node}
use Rattle.dep_graph.specs.declared.node.Node.TheVariants.{Cell, Name, Range, Whole}
use Rattle.dep_graph.specs.internal.Hashed.{own_node, same_nodes}
use Rattle.recalc_core.specs.Kept.{Kept}
use Rattle.recalc_core.specs.Moves.{carried_kept}
use Rattle.recalc_core.specs.Recalc.{with_mark}
use Rattle.recalc_core.specs.Shifted.{drops_scope, from_over, is_inside}
use Rattle.recalc_core.specs.internal.Gone.{AreGone, gone_over, with_gone}
use Rattle.recalc_core.specs.internal.Seen.{shown_at}
use Rattle.recalc_core.proofs.Bridge.{none_some, same_some}
use Rattle.recalc_core.proofs.Held.{inside_is, inside_of}

or_none : (t : Bool) → (t || false) ≡ t
or_none true = refl
or_none false = refl

-- a list with one node more
has_last : (a b : Node) (xs : List Node) → has b (xs ++ a ∷ []) ≡ (has b xs || same_node b a)
has_last a b xs = list_any-append (same_node b) xs (a ∷ []) ∙ ap (λ t. has b xs || t) (or_none (same_node b a))

-- ---- what a node becomes is what comes from it

module _ (s : Shift) (sound : IsSound s) where
  -- a place that comes to another within the limits
  pub place_gone : (p q : Place) → IsInside p → place_after s p ≡ Some q → gone_over s (Cell p) ≡ Some (Cell q)
  place_gone p q inside at = ap (λ t. cond t (option_map Cell (place_after s p)) None) (inside_is p inside) ∙ ap (option_map Cell) at

  place_comes : (p q : Place) → IsInside q → place_before s q ≡ Some p → from_over s (Cell q) ≡ Some (Cell p)
  place_comes p q inside at = ap (λ t. cond t (option_map Cell (place_before s q)) None) (inside_is q inside) ∙ ap (option_map Cell) at

  pub goes : (a b : Node) → gone_over s b ≡ Some a → from_over s a ≡ Some b
  goes a (Cell p) e = by (is_inside p) (place_after s p) refl refl e
    where
      by : (t : Bool) (o : Option Place) → is_inside p ≡ t → place_after s p ≡ o → cond t (option_map Cell o) None ≡ Some a → from_over s a ≡ Some (Cell p)
      by true None i o h = absurd (none_some a h)
      by true (Some q) i o h =
          subst (λ n. from_over s n ≡ Some (Cell p)) (same_some (Cell q) a h)
          (place_comes p q (place_moved_inside (form_of s) p q sound (inside_of p i) o) (place_moved_returns (form_of s) p q sound (inside_of p i) o))
      by false o i was h = absurd (none_some a h)
  goes a (Name scope word) e = by (drops_scope (form_of s) scope) refl e
    where
      by : (t : Bool) → drops_scope (form_of s) scope ≡ t → cond t None (Some (Name scope word)) ≡ Some a → from_over s a ≡ Some (Name scope word)
      by true d h = absurd (none_some a h)
      by false d h = subst (λ n. from_over s n ≡ Some (Name scope word)) (same_some (Name scope word) a h) (ap (λ t. cond t None (Some (Name scope word))) d)
  goes a (Range b) e = absurd (none_some a e)
  goes a (Whole w) e = absurd (none_some a e)

  pub comes : (a b : Node) → from_over s a ≡ Some b → gone_over s b ≡ Some a
  comes (Cell q) b e = by (is_inside q) (place_before s q) refl refl e
    where
      by : (t : Bool) (o : Option Place) → is_inside q ≡ t → place_before s q ≡ o → cond t (option_map Cell o) None ≡ Some b → gone_over s b ≡ Some (Cell q)
      by true None i o h = absurd (none_some b h)
      by true (Some p) i o h =
          subst (λ n. gone_over s n ≡ Some (Cell q)) (same_some (Cell p) b h)
          (place_gone p q (place_returned_inside (form_of s) p q sound (inside_of q i) o) (place_returned_goes (form_of s) p q sound (inside_of q i) o))
      by false o i was h = absurd (none_some b h)
  comes (Name scope word) b e = by (drops_scope (form_of s) scope) refl e
    where
      by : (t : Bool) → drops_scope (form_of s) scope ≡ t → cond t None (Some (Name scope word)) ≡ Some b → gone_over s b ≡ Some (Name scope word)
      by true d h = absurd (none_some b h)
      by false d h = subst (λ n. gone_over s n ≡ Some (Name scope word)) (same_some (Name scope word) b h) (ap (λ t. cond t None (Some (Name scope word))) d)
  comes (Range c) b e = absurd (none_some b e)
  comes (Whole w) b e = absurd (none_some b e)

  -- ---- marks that go along

  pub none_gone : AreGone s [] []
  none_gone a = ((λ h. absurd (false≢true h)), (λ w. absurd (false≢true w.1)))

  has_marked : (a m : Node) (marks : List Node) → has a (with_mark m marks) ≡ (has a marks || same_node a m)
  has_marked a m marks = by (has m marks) refl
    where
      already : (t : Bool) → same_node a m ≡ t → has m marks ≡ true → has a marks ≡ (has a marks || same_node a m)
      already true e h = let here : has a marks ≡ true = ap (λ n. has n marks) (same_nodes a m e) ∙ h in here ∙ sym (or_left (has a marks) (same_node a m) here)
      already false e h = sym (ap (λ t. has a marks || t) e ∙ or_none (has a marks))

      by : (t : Bool) → has m marks ≡ t → has a (with_mark m marks) ≡ (has a marks || same_node a m)
      by true e = ap (λ t. has a (cond t marks (marks ++ m ∷ []))) e ∙ already (same_node a m) refl e
      by false e = ap (λ t. has a (cond t marks (marks ++ m ∷ []))) e ∙ has_last m a marks

  in_front : (b x : Node) (old : List Node) → has b old ≡ true → has b (old ++ x ∷ []) ≡ true
  in_front b x old h = has_last x b old ∙ or_left (has b old) (same_node b x) h

  at_end : (x : Node) (old : List Node) → has x (old ++ x ∷ []) ≡ true
  at_end x old = has_last x x old ∙ or_right (has x old) (same_node x x) (own_node x)

  -- one node more that was marked
  pub gone_on : (old new : List Node) (x : Node) → AreGone s old new → AreGone s (old ++ x ∷ []) (with_gone (gone_over s x) new)
  gone_on old new x gone a = by (gone_over s x) refl
    where
      behind : (b : Node) → has b (old ++ x ∷ []) ≡ true → from_over s a ≡ Some b → (has a new ≡ true) ⊎ (gone_over s x ≡ Some a)
      behind b h from = ⊎_elim
          (λ (front : has b old ≡ true). inl ((gone a).1 (b, front, from)))
          (λ (last : same_node b x ≡ true). inr (ap (gone_over s) (sym (same_nodes b x last)) ∙ comes a b from))
          (or_cases (has b old) (same_node b x) (sym (has_last x b old) ∙ h))

      before : has a new ≡ true → (b : Node) × (has b (old ++ x ∷ []) ≡ true) × (from_over s a ≡ Some b)
      before h = let (b, front, from) = (gone a).0 h in (b, in_front b x old front, from)

      by : (o : Option Node) → gone_over s x ≡ o → (has a (with_gone o new) ≡ true) ↔ ((b : Node) × (has b (old ++ x ∷ []) ≡ true) × (from_over s a ≡ Some b))
      by None e = (before, λ w. ⊎_elim (λ (there : has a new ≡ true). there) (λ (is : gone_over s x ≡ Some a). absurd (none_some a (sym e ∙ is))) (behind w.0 w.1 w.2))
      by (Some y) e = (
        λ h. ⊎_elim before
            (λ (last : same_node a y ≡ true). (x, at_end x old, goes a x (e ∙ ap (λ n. Some n) (sym (same_nodes a y last)))))
            (or_cases (has a new) (same_node a y) (sym (has_marked a y new) ∙ h)),
        λ w. has_marked a y new ∙ ⊎_elim
            (λ (there : has a new ≡ true). or_left (has a new) (same_node a y) there)
            (λ (is : gone_over s x ≡ Some a). or_right (has a new) (same_node a y) (ap (same_node a) (same_some y a (sym e ∙ is)) ∙ own_node a))
            (behind w.0 w.1 w.2),
      )

  -- ---- what is shown goes along

  pub takes_values : (before after : Kept) → ((a : Node) → IsNoRange a → after a ≡ carried_kept (from_over s) before a) → TakesValues s (shown_at before) (shown_at after)
  takes_values before after moved p q inside at =
      ap (λ o. unwrap_or o Empty) (moved (Cell q) tt ∙ ap (option_and_then before) (goes (Cell q) (Cell p) (place_gone p q inside at)))
