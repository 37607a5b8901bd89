-- Where nodes come from over an operation, in the graph and in the workbook. Serves the laws on operations.
use Rattle.std.proofs.Common.{◌≡◌, ◌∙◌, sym, ap, refl, subst, ℕ, Bool, true, false, cond, List, Option, Some, None, is_some, option_and_then, option_map, ◌⊎◌, inl, inr, arith}
use Rattle.std.specs.FinMap as map
use Rattle.std.proofs.lemmas.Bool.{false≢true}
use Rattle.std.proofs.lemmas.Bool.Decides.{nat_tests}
use Rattle.std.proofs.lemmas.Option.{none-some, same_Some}
use Rattle.cell_addr.specs.Place.{IsInside}
use Rattle.cell_addr.specs.declared.place.Place.{Place}
use Rattle.shift_core.specs.Form.{form_of}
use Rattle.shift_core.specs.Sound.{IsSound}
use Rattle.shift_core.specs.Tables.{place_after, place_before}
use Rattle.shift_core.specs.declared.shift.Shift.{Shift}
use Rattle.shift_core.proofs.PlaceLaws.{place_moved_inside, place_moved_returns, place_returned_goes, place_returned_inside}
use Rattle.book_values.specs.Book.{Content}
use Rattle.book_values.specs.Names.{Key}
use Rattle.book_values.specs.Workbook as book
use Rattle.book_values.specs.Workbook.{Workbook}
use Rattle.dep_graph.specs.Laws.{IsNoRange, IsNodeInside}
use Rattle.dep_graph.specs.Shifted.{node_after}
use Rattle.dep_graph.specs.declared.node.Node.{Node}
use Rattle.dep_graph.specs.declared.node.Node.TheVariants.{Cell, Name, Range, Whole}
use Rattle.recalc_core.specs.Kept.{stands}
use Rattle.recalc_core.specs.Nodes.{node_at}
use Rattle.recalc_core.specs.Shifted.{back_over, drops_scope, from_over, is_inside}
use Rattle.recalc_core.proofs.Shifted.{shifts_go_back}
use Rattle.marked_values.specs.Shifts.{IsBookAfter}
use Rattle.marked_values.proofs.Pairs.{Pair}

pub inside_test : (p : Place) → IsInside p → is_inside p ≡ true
inside_test p inside = grind (arith, nat_tests)

pub inside_of : (p : Place) → is_inside p ≡ true → IsInside p
inside_of p h = grind (arith, nat_tests)

module _ (s : Shift) (sound : IsSound s) where
  -- ---- nodes of the graph

  pub from_cell : (p q : Place) → IsInside p → place_after s p ≡ Some q → from_over s (Cell q) ≡ Some (Cell p)
  from_cell p q inside goes =
      ap (λ t. cond t (option_map Cell (place_before s q)) None) (inside_test q (place_moved_inside (form_of s) p q sound inside goes))
      ∙ ap (option_map Cell) (place_moved_returns (form_of s) p q sound inside goes)

  pub from_name : (scope word : ℕ) → drops_scope (form_of s) scope ≡ false → from_over s (Name scope word) ≡ Some (Name scope word)
  from_name scope word stays = ap (λ t. cond t None (Some (Name scope word))) stays

  -- a node goes from where it was to where it is
  abbrev pub WasAt : Node → Node → Type 0
  WasAt a was = (node_after s was ≡ Some a) × IsNoRange was × IsNodeInside was

  pub was_at : (a was : Node) → from_over s a ≡ Some was → WasAt a was
  was_at (Cell q) was from = by (is_inside q) (place_before s q) refl refl from
    where
      by : (t : Bool) (o : Option Place) → is_inside q ≡ t → place_before s q ≡ o → cond t (option_map Cell o) None ≡ Some was → WasAt (Cell q) was
      by true None i o e = absurd (none-some was e)
      by true (Some p) i o e =
          subst (WasAt (Cell q)) (same_Some (Cell p) was e)
          (ap (option_map Cell) (place_returned_goes (form_of s) p q sound (inside_of q i) o), tt, place_returned_inside (form_of s) p q sound (inside_of q i) o)
      by false o i was_there e = absurd (none-some was e)
  was_at (Name scope word) was from = by (drops_scope (form_of s) scope) from
    where
      by : (t : Bool) → cond t None (Some (Name scope word)) ≡ Some was → WasAt (Name scope word) was
      by true e = absurd (none-some was e)
      by false e = subst (WasAt (Name scope word)) (same_Some (Name scope word) was e) (refl, tt, tt)
  was_at (Range block) was from = absurd (none-some was from)
  was_at (Whole w) was from = absurd (none-some was from)

  -- ---- places and names

  pub back_pair : (x z : book.Node) → back_over s z ≡ Some x → Pair s x z
  back_pair x (book.place q) back = by (is_inside q) (place_before s q) refl refl back
    where
      by : (t : Bool) (o : Option Place) → is_inside q ≡ t → place_before s q ≡ o → cond t (option_map book.place o) None ≡ Some x → Pair s x (book.place q)
      by true None i o e = absurd (none-some x e)
      by true (Some p) i o e =
          subst (λ y. Pair s y (book.place q)) (same_Some (book.place p) x e)
          (place_returned_inside (form_of s) p q sound (inside_of q i) o, place_returned_goes (form_of s) p q sound (inside_of q i) o)
      by false o i was e = absurd (none-some x e)
  back_pair x (book.name key) back = by (drops_scope (form_of s) (book.scope_sheet key.scope)) refl back
    where
      by : (t : Bool) → drops_scope (form_of s) (book.scope_sheet key.scope) ≡ t → cond t None (Some (book.name key)) ≡ Some x → Pair s x (book.name key)
      by true d e = absurd (none-some x e)
      by false d e = subst (λ y. Pair s y (book.name key)) (same_Some (book.name key) x e) (d, refl)

  pub pair_over : (x z : book.Node) → Pair s x z → back_over s z ≡ Some x
  pair_over (book.place p) (book.place q) (inside, goes) =
      ap (λ t. cond t (option_map book.place (place_before s q)) None) (inside_test q (place_moved_inside (form_of s) p q sound inside goes))
      ∙ ap (option_map book.place) (place_moved_returns (form_of s) p q sound inside goes)
  pair_over (book.name key) (book.name other) (stays, same) =
      ap (λ t. cond t None (Some (book.name other))) (ap (λ (k : Key). drops_scope (form_of s) (book.scope_sheet k.scope)) same ∙ stays) ∙ ap (λ k. Some (book.name k)) same
  pair_over (book.place p) (book.name other) pair = absurd pair
  pair_over (book.name key) (book.place q) pair = absurd pair

  -- ---- one by the other

  -- the node of a place or a name comes from the node of where this was
  pub node_from : (words : List (List ℕ)) (a : Node) (x z : book.Node) → IsNoRange a → node_at words a ≡ Some z → Pair s x z → (was : Node) × (from_over s a ≡ Some was) × (node_at words was ≡ Some x)
  node_from words a x z plain at pair = by (from_over s a) refl
    where
      there : option_and_then (node_at words) (from_over s a) ≡ Some x
      there = (shifts_go_back s words sound).same a plain ∙ ap (option_and_then (back_over s)) at ∙ pair_over x z pair

      by : (o : Option Node) → from_over s a ≡ o → (was : Node) × (from_over s a ≡ Some was) × (node_at words was ≡ Some x)
      by None e = absurd (none-some x (sym (ap (option_and_then (node_at words)) e) ∙ there))
      by (Some was) e = (was, e, sym (ap (option_and_then (node_at words)) e) ∙ there)

  -- and where it comes from was the node of what this was
  pub node_was : (words : List (List ℕ)) (a was : Node) (x : book.Node) → IsNoRange a → from_over s a ≡ Some was → node_at words was ≡ Some x → (z : book.Node) × (node_at words a ≡ Some z) × Pair s x z
  node_was words a was x plain from at = by (node_at words a) refl
    where
      there : option_and_then (back_over s) (node_at words a) ≡ Some x
      there = sym ((shifts_go_back s words sound).same a plain) ∙ ap (option_and_then (node_at words)) from ∙ at

      by : (o : Option book.Node) → node_at words a ≡ o → (z : book.Node) × (node_at words a ≡ Some z) × Pair s x z
      by None e = absurd (none-some x (sym (ap (option_and_then (back_over s)) e) ∙ there))
      by (Some z) e = (z, e, back_pair x z (sym (ap (option_and_then (back_over s)) e) ∙ there))

  -- what came from nowhere the workbook hasn't got
  abbrev pub Comes : Workbook → book.Node → Type 0
  Comes c z = ((x : book.Node) × Pair s x z) ⊎ ((back_over s z ≡ None) × (stands c z ≡ false))

  pub comes : (b c : Workbook) → IsBookAfter s b c → (z : book.Node) → Comes c z
  comes b c over (book.place q) = by (is_inside q) (place_before s q) refl refl
    where
      filled : (o : Option Content) → map.get c.cells q ≡ o → (IsInside q → ⊥) → is_some (map.get c.cells q) ≡ false
      filled None e out = ap is_some e
      filled (Some content) e out = absurd (out (over.inside q content e))

      by : (t : Bool) (o : Option Place) → is_inside q ≡ t → place_before s q ≡ o → Comes c (book.place q)
      by true (Some p) i o = inl (book.place p, (place_returned_inside (form_of s) p q sound (inside_of q i) o, place_returned_goes (form_of s) p q sound (inside_of q i) o))
      by true None i o = inr (
        ap (λ t. cond t (option_map book.place (place_before s q)) None) i ∙ ap (option_map book.place) o,
        ap is_some (over.fresh q (inside_of q i) o),
      )
      by false o i was = inr (
        ap (λ t. cond t (option_map book.place (place_before s q)) None) i,
        filled (map.get c.cells q) refl (λ inside. false≢true (sym i ∙ inside_test q inside)),
      )
  comes b c over (book.name key) = by (drops_scope (form_of s) (book.scope_sheet key.scope)) refl
    where
      by : (t : Bool) → drops_scope (form_of s) (book.scope_sheet key.scope) ≡ t → Comes c (book.name key)
      by true d = inr (ap (λ t. cond t None (Some (book.name key))) d, ap is_some (over.dropped key d))
      by false d = inl (book.name key, (d, refl))
