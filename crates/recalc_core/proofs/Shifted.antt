-- Nodes come from where places and names do over a structural operation. Serves the law.
use Rattle.std.proofs.Common.{◌≡◌, ◌∙◌, sym, ap, refl, subst, ℕ, Bool, true, false, cond, ◌==◌, List, Option, Some, None, option_map, option_and_then, eqb-true}
use Rattle.std.specs.Prelude.{slice_get}
use Rattle.cell_addr.specs.declared.place.Place.{Place}
use Rattle.cell_addr.specs.declared.place.TheConstants.{NO_SHEET}
use Rattle.shift_core.specs.Form.{form_of}
use Rattle.shift_core.specs.Sound.{IsSound}
use Rattle.shift_core.specs.Tables.{place_after, place_before}
use Rattle.shift_core.specs.declared.shift.Shift.{Shift}
use Rattle.shift_core.proofs.PlaceLaws.{place_returned_goes}
use Rattle.book_values.specs.Names.{Key}
use Rattle.book_values.specs.Workbook as book
use Rattle.dep_graph.specs.Laws.{IsNoRange}
use Rattle.dep_graph.specs.declared.node.Node.{Node}
use Rattle.dep_graph.specs.declared.node.Node.TheVariants.{Cell, Name, Range, Whole}
use Rattle.recalc_core.specs.Nodes.{name_at, node_at, scope_at}
use Rattle.recalc_core.specs.Shifted.{ShiftsGoBack, back_over, drops_scope, from_over, is_inside}
use Rattle.recalc_core.proofs.Bridge.{none_some, same_some}
use Rattle.recalc_core.proofs.Held.{inside_of}

-- the sheet of the scope of a number is that number
sheet_again : (scope : ℕ) → book.scope_sheet (scope_at scope) ≡ scope
sheet_again scope = by (scope == NO_SHEET) refl
  where
    by : (t : Bool) → (scope == NO_SHEET) ≡ t → book.scope_sheet (cond (scope == NO_SHEET) None (Some scope)) ≡ scope
    by true e = ap (λ t. book.scope_sheet (cond t None (Some scope))) e ∙ sym (eqb-true scope NO_SHEET e)
    by false e = ap (λ t. book.scope_sheet (cond t None (Some scope))) e

module _ (s : Shift) (words : List (List ℕ)) (sound : IsSound s) where
  cell_same : (t : Bool) (o : Option Place) → option_and_then (node_at words) (cond t (option_map Cell o) None) ≡ cond t (option_map book.place o) None
  cell_same true None = refl
  cell_same true (Some p) = refl
  cell_same false o = refl

  name_same : (scope word : ℕ) (o : Option (List ℕ)) → slice_get words word ≡ o → (t : Bool) → drops_scope (form_of s) scope ≡ t
      → option_and_then (node_at words) (cond (drops_scope (form_of s) scope) None (Some (Name scope word))) ≡ option_and_then (back_over s) (name_at scope o)
  name_same scope word None at true e = ap (λ t. option_and_then (node_at words) (cond t None (Some (Name scope word)))) e
  name_same scope word None at false e = ap (λ t. option_and_then (node_at words) (cond t None (Some (Name scope word)))) e ∙ ap (name_at scope) at
  name_same scope word (Some w) at true e =
      ap (λ t. option_and_then (node_at words) (cond t None (Some (Name scope word)))) e
      ∙ sym (ap (λ t. cond t None (Some (book.name (record { scope = scope_at scope; word = w })))) (ap (drops_scope (form_of s)) (sheet_again scope) ∙ e))
  name_same scope word (Some w) at false e =
      ap (λ t. option_and_then (node_at words) (cond t None (Some (Name scope word)))) e ∙ ap (name_at scope) at
      ∙ sym (ap (λ t. cond t None (Some (book.name (record { scope = scope_at scope; word = w })))) (ap (drops_scope (form_of s)) (sheet_again scope) ∙ e))

  same : (a : Node) → IsNoRange a → option_and_then (node_at words) (from_over s a) ≡ option_and_then (back_over s) (node_at words a)
  same (Cell p) plain = cell_same (is_inside p) (place_before s p)
  same (Name scope word) plain = name_same scope word (slice_get words word) refl (drops_scope (form_of s) scope) refl
  same (Range b) plain = absurd plain
  same (Whole w) plain = absurd plain

  cell_plain : (t : Bool) (o : Option Place) (before : Node) → cond t (option_map Cell o) None ≡ Some before → IsNoRange before
  cell_plain true None before e = absurd (none_some before e)
  cell_plain true (Some p) before e = subst IsNoRange (same_some (Cell p) before e) tt
  cell_plain false o before e = absurd (none_some before e)

  name_plain : (t : Bool) (scope word : ℕ) (before : Node) → cond t None (Some (Name scope word)) ≡ Some before → IsNoRange before
  name_plain true scope word before e = absurd (none_some before e)
  name_plain false scope word before e = subst IsNoRange (same_some (Name scope word) before e) tt

  plain : (a before : Node) → IsNoRange a → from_over s a ≡ Some before → IsNoRange before
  plain (Cell p) before no_block e = cell_plain (is_inside p) (place_before s p) before e
  plain (Name scope word) before no_block e = name_plain (drops_scope (form_of s) scope) scope word before e
  plain (Range b) before no_block e = absurd no_block
  plain (Whole w) before no_block e = absurd no_block

  -- where a place came from
  came : (p : Place) (y : book.Node) → back_over s (book.place p) ≡ Some y → (q : Place) × (y ≡ book.place q) × (place_after s q ≡ Some p)
  came p y e = by (is_inside p) (place_before s p) refl refl e
    where
      by : (t : Bool) (o : Option Place) → is_inside p ≡ t → place_before s p ≡ o → cond t (option_map book.place o) None ≡ Some y → (q : Place) × (y ≡ book.place q) × (place_after s q ≡ Some p)
      by true None i o h = absurd (none_some y h)
      by true (Some q) i o h = (q, sym (same_some (book.place q) y h), place_returned_goes (form_of s) q p sound (inside_of p i) o)
      by false o i was h = absurd (none_some y h)

  name_came : (key : Key) (y : book.Node) → back_over s (book.name key) ≡ Some y → y ≡ book.name key
  name_came key y e = by (drops_scope (form_of s) (book.scope_sheet key.scope)) e
    where
      by : (t : Bool) → cond t None (Some (book.name key)) ≡ Some y → y ≡ book.name key
      by true h = absurd (none_some y h)
      by false h = sym (same_some (book.name key) y h)

  one_place : (p q : Place) → book.place p ≡ book.place q → p ≡ q
  one_place p q e = cc

  no_place : (p : Place) (key : Key) → book.place p ≡ book.name key → ⊥
  no_place p key e = cc

  once : (x z y : book.Node) → back_over s x ≡ Some y → back_over s z ≡ Some y → x ≡ z
  once (book.place p) (book.place r) y e f =
      let (q, is, to) = came p y e in
      let (u, same_there, onto) = came r y f in
      let one : q ≡ u = one_place q u (sym is ∙ same_there) in
      ap book.place (same_some p r (sym to ∙ ap (place_after s) one ∙ onto))
  once (book.place p) (book.name key) y e f = let (q, is, to) = came p y e in absurd (no_place q key (sym is ∙ name_came key y f))
  once (book.name key) (book.place r) y e f = let (u, is, onto) = came r y f in absurd (no_place u key (sym is ∙ name_came key y e))
  once (book.name key) (book.name other) y e f = sym (name_came key y e) ∙ name_came other y f

pub shifts_go_back : ShiftsGoBack
shifts_go_back s words sound = record { same = same s words sound; plain = plain s words sound; once = once s words sound }
