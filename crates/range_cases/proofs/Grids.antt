-- Values that move with their cells. Serves the grid, and the summaries beside it.
use Rattle.std.proofs.Common.{◌≡◌, ◌∙◌, sym, ap, refl, subst, arith, ◌&&◌, Bool, true, false, cond, List, [], ◌∷◌, map, Option, Some, None}
use Rattle.std.specs.Option.{option_map_or}
use Rattle.std.specs.Prelude.{nat_lt, option_and_then}
use Rattle.std.proofs.lemmas.Bool.Decides.{nat_tests}
use Rattle.std.proofs.lemmas.Option.{same_Some}
use Rattle.cell_addr.specs.Place.{IsInside, same_place}
use Rattle.cell_addr.specs.declared.place.Place.{Place}
use Rattle.cell_addr.specs.declared.place.TheConstants.{COLS, ROWS}
use Rattle.cell_value.specs.declared.scalar.Scalar.{Scalar}
use Rattle.cell_value.specs.declared.summary.Summary.{Summary}
use Rattle.shift_core.specs.Form.{form_of}
use Rattle.shift_core.specs.Sound.{IsSound}
use Rattle.shift_core.specs.Tables.{place_after}
use Rattle.shift_core.specs.declared.shift.Shift.{Shift}
use Rattle.shift_core.proofs.CarriedEntries.{same_test}
use Rattle.shift_core.proofs.PlaceLaws.{place_moved_apart}
use Rattle.cell_addr.proofs.SamePlaces.{same_place-decides}
use Rattle.range_table.specs.Blocks.{BlockMap}
use Rattle.range_table.specs.Shifted.{TakesValues}
use Rattle.range_table.specs.Table.{AreFolds, without_holders}
use Rattle.range_table.proofs.Staying.{touched_stay_right}
use Rattle.range_cases.specs.Grid.{moved_cell, moved_on_sheet, stands_at, value_in}
use Rattle.range_cases.specs.declared.grid.Filled.{Filled}

inside-from : (p : Place) → (nat_lt p.row ROWS && nat_lt p.col COLS) ≡ true → IsInside p
inside-from p h = grind (arith, nat_tests)

pub inside-to : (p : Place) → IsInside p → (nat_lt p.row ROWS && nat_lt p.col COLS) ≡ true
inside-to p i = grind (arith, nat_tests)

pub outside-to : (p : Place) → ¬ IsInside p → (nat_lt p.row ROWS && nat_lt p.col COLS) ≡ false
outside-to p out = outside-by p (nat_lt p.row ROWS && nat_lt p.col COLS) refl out
  where
    outside-by : (p : Place) (t : Bool) → (nat_lt p.row ROWS && nat_lt p.col COLS) ≡ t → ¬ IsInside p → (nat_lt p.row ROWS && nat_lt p.col COLS) ≡ false
    outside-by p true e out = absurd (out (inside-from p e))
    outside-by p false e out = e

module _ (s : Shift) (p q : Place) (sound : IsSound s) (i : IsInside p) (goes : place_after s p ≡ Some q) where
  lands_at : (own : Place) (r : Option Place) → IsInside own → r ≡ place_after s own → option_map_or (λ x. same_place x q) r false ≡ same_place own p
  lands_at own None j e =
      same_test false (same_place own p) ((λ h. cc), (λ h. absurd h)) (same_place-decides own p) ((λ h. absurd h), (λ same. let lost = e ∙ ap (place_after s) same ∙ goes in cc))
  lands_at own (Some there) j e =
      same_test (same_place there q) (same_place own p) (same_place-decides there q) (same_place-decides own p) (
        λ same. place_moved_apart (form_of s) own p q sound j i (sym e ∙ ap (λ x. Some x) same) goes,
        λ same. same_Some there q (e ∙ ap (place_after s) same ∙ goes),
      )

  stands-on : (own : Place) (t : Bool) → (t ≡ true → IsInside own) → (own ≡ p → t ≡ true) → option_map_or (λ x. same_place x q) (cond t (place_after s own) None) false ≡ same_place own p
  stands-on own true inside here = lands_at own (place_after s own) (inside refl) refl
  stands-on own false inside here =
      same_test false (same_place own p) ((λ h. cc), (λ h. absurd h)) (same_place-decides own p) ((λ h. absurd h), (λ same. let bad = here same in cc))

  -- a cell stands where the place goes exactly where it stood at the place
  stands-by : (at : Option Place) → option_map_or (λ x. same_place x q) (option_and_then (moved_on_sheet s) at) false ≡ option_map_or (λ x. same_place x p) at false
  stands-by None = refl
  stands-by (Some own) = stands-on own (nat_lt own.row ROWS && nat_lt own.col COLS) (inside-from own) (λ same. inside-to own (subst IsInside (sym same) i))

  pub value_there : (cells : List Filled) → value_in (map (moved_cell s) cells) q ≡ value_in cells p
  value_there [] = refl
  value_there (cell ∷ rest) =
      ap (λ t. cond t cell.value (value_in (map (moved_cell s) rest) q)) (stands-by cell.at)
      ∙ ap (λ v. cond (stands_at cell p) cell.value v) (value_there rest)

-- moved cells take their values along
pub cells_take : (s : Shift) (cells : List Filled) → IsSound s → TakesValues s (value_in cells) (value_in (map (moved_cell s) cells))
cells_take s cells sound p q i goes = value_there s p q sound i goes cells

other-by : (cell : Filled) (at p : Place) (v w : Scalar) → cell.at ≡ Some at → ¬ (p ≡ at) → cond (stands_at cell p) v w ≡ w
other-by cell at p v w is apart =
    let off : stands_at cell p ≡ false =
    ap (λ x. option_map_or (λ y. same_place y p) x false) is
    ∙ same_test (same_place at p) false (same_place-decides at p) ((λ h. cc), (λ h. absurd h)) ((λ same. apart (sym same)), (λ h. absurd h)) in
    ap (λ t. cond t v w) off

-- summaries stay right where one cell is put and its place is touched
pub put_right : (cells : List Filled) (cell : Filled) (at : Place) (kept : BlockMap Summary) → cell.at ≡ Some at → AreFolds (value_in cells) kept → AreFolds (value_in (cell ∷ cells)) (without_holders at kept)
put_right cells cell at kept is right =
    touched_stay_right (value_in cells) (value_in (cell ∷ cells)) at kept (λ p apart. other-by cell at p cell.value (value_in cells p) is apart) right
