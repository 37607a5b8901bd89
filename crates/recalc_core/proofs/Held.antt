-- What is kept of nodes by three tables, as one of them changes, and over a structural operation. Serves kept values.
use Rattle.std.proofs.Common.{◌≡◌, ◌∙◌, sym, ap, refl, ℕ, ◌<◌, Bool, true, false, cond, Option, Some, None, option_map, option_and_then, arith}
use Rattle.std.specs.FinMap as map
use Rattle.std.specs.FinMap.{get-insert, get-remove}
use Rattle.std.specs.Ordering.{eq_by_cmp}
use Rattle.std.specs.Prelude.{nat_lt}
use Rattle.std.proofs.lemmas.Bool.{and_from, and_parts, false≢true, ltb-true}
use Rattle.std.proofs.lemmas.Bool.Decides.{nat_tests}
use Rattle.cell_addr.proofs.Places.{place_cmp-IsAntisymmetric, place_cmp-IsTotalOrder}
use Rattle.cell_addr.proofs.SamePlaces.{same_place-decides, same_place-equal}
use Rattle.cell_addr.specs.Order.{place_cmp}
use Rattle.cell_addr.specs.Place.{IsInside, same_place}
use Rattle.cell_addr.specs.declared.place.Place.{Place}
use Rattle.cell_addr.specs.declared.place.TheConstants.{COLS, ROWS}
use Rattle.cell_value.specs.declared.scalar.Scalar.{Scalar}
use Rattle.shift_core.proofs.CarriedEntries.{eq_by_cmp-decides, same_test}
use Rattle.shift_core.proofs.MovedMaps.{get-moved}
use Rattle.shift_core.proofs.PlaceLaws.{place_returned_inside}
use Rattle.shift_core.specs.Form.{form_of}
use Rattle.shift_core.specs.Maps.{AreInside, PlaceMap, moved_map}
use Rattle.shift_core.specs.Sound.{IsSound}
use Rattle.shift_core.specs.Tables.{place_before}
use Rattle.shift_core.specs.declared.shift.Shift.{Shift}
use Rattle.dep_graph.specs.Laws.{IsNoRange}
use Rattle.dep_graph.specs.declared.node.Node.{Node}
use Rattle.dep_graph.specs.declared.node.Node.TheVariants.{Cell, Name, Range, Whole}
use Rattle.recalc_core.specs.Kept.{Kept}
use Rattle.recalc_core.specs.Moves.{carried_kept}
use Rattle.recalc_core.specs.Shifted.{drops_scope, from_over, is_inside}
use Rattle.recalc_core.specs.internal.KeptTables.{AreSame, IsPut, held}

-- ---- places within the limits of a sheet

lt_test : (a b : ℕ) → a < b → nat_lt a b ≡ true
lt_test a b h = grind (arith, nat_tests)

pub inside_of : (p : Place) → is_inside p ≡ true → IsInside p
inside_of p h = let (row, col) = and_parts (nat_lt p.row ROWS) (nat_lt p.col COLS) h in (ltb-true p.row ROWS row, ltb-true p.col COLS col)

pub inside_is : (p : Place) → IsInside p → is_inside p ≡ true
inside_is p (row, col) = and_from (nat_lt p.row ROWS) (nat_lt p.col COLS) (lt_test p.row ROWS row) (lt_test p.col COLS col)

key_test : (p q : Place) → eq_by_cmp place_cmp q p ≡ same_place p q
key_test p q = same_test (eq_by_cmp place_cmp q p) (same_place p q) (eq_by_cmp-decides place_cmp-IsTotalOrder place_cmp-IsAntisymmetric q p) (same_place-decides p q) ((λ e. sym e), (λ e. sym e))

-- ---- one of the tables changes

through : {X : Type 0} (inside same : Bool) (v old other : X) → (same ≡ true → inside ≡ true) → cond inside (cond same v old) other ≡ cond same v (cond inside old other)
through true same v old other h = refl
through false true v old other h = absurd (false≢true (h refl))
through false false v old other h = refl

-- the table of places within the limits of a sheet
put_inside : (cells new : PlaceMap Scalar) (beyond others : Kept) (p : Place) (v : Option Scalar) → is_inside p ≡ true → ((q : Place) → map.get new q ≡ cond (eq_by_cmp place_cmp q p) v (map.get cells q))
    → IsPut (Cell p) v (held cells beyond others) (held new beyond others)
put_inside cells new beyond others p v inside put (Cell q) =
    ap (λ x. cond (is_inside q) x (beyond (Cell q))) (put q ∙ ap (λ t. cond t v (map.get cells q)) (key_test p q))
    ∙ through (is_inside q) (same_place p q) v (map.get cells q) (beyond (Cell q)) (λ e. ap is_inside (sym (same_place-equal p q e)) ∙ inside)
put_inside cells new beyond others p v inside put (Name scope word) = refl
put_inside cells new beyond others p v inside put (Range b) = refl
put_inside cells new beyond others p v inside put (Whole w) = refl

pub cell_put : (cells new : PlaceMap Scalar) (beyond others : Kept) (p : Place) (v : Scalar) → is_inside p ≡ true → new ≡ map.insert cells p v → IsPut (Cell p) (Some v) (held cells beyond others) (held new beyond others)
cell_put cells new beyond others p v inside is =
    put_inside cells new beyond others p (Some v) inside (λ q. ap (λ m. map.get m q) is ∙ get-insert place_cmp-IsTotalOrder cells p v q)

pub cell_removed : (cells new : PlaceMap Scalar) (beyond others : Kept) (p : Place) → is_inside p ≡ true → new ≡ map.remove cells p → IsPut (Cell p) None (held cells beyond others) (held new beyond others)
cell_removed cells new beyond others p inside is = put_inside cells new beyond others p None inside (λ q. ap (λ m. map.get m q) is ∙ get-remove place_cmp-IsTotalOrder cells p q)

-- ---- all of them

pub held_same : (cells new : PlaceMap Scalar) (beyond more others names : Kept) → new ≡ cells → AreSame beyond more → AreSame others names → AreSame (held cells beyond others) (held new more names)
held_same cells new beyond more others names is same_beyond same_others (Cell q) =
    ap (λ m. cond (is_inside q) (map.get m q) (more (Cell q))) is ∙ ap (λ x. cond (is_inside q) (map.get cells q) x) (same_beyond (Cell q))
held_same cells new beyond more others names is same_beyond same_others (Name scope word) = same_others (Name scope word)
held_same cells new beyond more others names is same_beyond same_others (Range b) = same_others (Range b)
held_same cells new beyond more others names is same_beyond same_others (Whole w) = same_others (Whole w)

pub held_nothing : (cells : PlaceMap Scalar) (beyond others : Kept) → cells ≡ map.empty → ((a : Node) → beyond a ≡ None) → ((a : Node) → others a ≡ None) → (a : Node) → held cells beyond others a ≡ None
held_nothing cells beyond others is no_beyond no_others (Cell q) = by (is_inside q)
  where
    by : (t : Bool) → cond t (map.get cells q) (beyond (Cell q)) ≡ None
    by true = ap (λ m. map.get m q) is ∙ map.get-empty place_cmp q
    by false = no_beyond (Cell q)
held_nothing cells beyond others is no_beyond no_others (Name scope word) = no_others (Name scope word)
held_nothing cells beyond others is no_beyond no_others (Range b) = no_others (Range b)
held_nothing cells beyond others is no_beyond no_others (Whole w) = no_others (Whole w)

-- over a structural operation each node keeps what the one had that it was
pub held_moved : (s : Shift) (cells new : PlaceMap Scalar) (beyond nothing others names : Kept) → IsSound s → AreInside cells → new ≡ moved_map s cells → ((a : Node) → nothing a ≡ None)
    → ((scope word : ℕ) → names (Name scope word) ≡ cond (drops_scope (form_of s) scope) None (others (Name scope word)))
    → (a : Node) → IsNoRange a → held new nothing names a ≡ carried_kept (from_over s) (held cells beyond others) a
held_moved s cells new beyond nothing others names sound all is none left (Cell q) plain = by (is_inside q) refl
  where
    came : (o : Option Place) → place_before s q ≡ o → is_inside q ≡ true → option_and_then (map.get cells) o ≡ option_and_then (held cells beyond others) (option_map Cell o)
    came None at inside = refl
    came (Some p) at inside =
        sym (ap (λ t. cond t (map.get cells p) (beyond (Cell p))) (inside_is p (place_returned_inside (form_of s) p q sound (inside_of q inside) at)))

    by : (t : Bool) → is_inside q ≡ t → held new nothing names (Cell q) ≡ carried_kept (from_over s) (held cells beyond others) (Cell q)
    by true e =
        ap (λ t. cond t (map.get new q) (nothing (Cell q))) e ∙ ap (λ m. map.get m q) is ∙ get-moved s cells sound all q (inside_of q e) ∙ came (place_before s q) refl e
        ∙ sym (ap (λ t. option_and_then (held cells beyond others) (cond t (option_map Cell (place_before s q)) None)) e)
    by false e =
        ap (λ t. cond t (map.get new q) (nothing (Cell q))) e ∙ none (Cell q)
        ∙ sym (ap (λ t. option_and_then (held cells beyond others) (cond t (option_map Cell (place_before s q)) None)) e)
held_moved s cells new beyond nothing others names sound all is none left (Name scope word) plain = left scope word ∙ by (drops_scope (form_of s) scope)
  where
    by : (t : Bool) → cond t None (others (Name scope word)) ≡ option_and_then (held cells beyond others) (cond t None (Some (Name scope word)))
    by true = refl
    by false = refl
held_moved s cells new beyond nothing others names sound all is none left (Range b) plain = absurd plain
held_moved s cells new beyond nothing others names sound all is none left (Whole w) plain = absurd plain
