-- The laws on places: they come back, go forth, stay inside, and no two move to one.
use Rattle.std.proofs.Common.{◌≡◌, ℕ, Some, arith, sym, ◌∙◌}
use Rattle.std.proofs.lemmas.Bool.Decides.{nat_tests}
use Rattle.std.proofs.lemmas.Option.{same_Some}
use Rattle.cell_addr.specs.declared.place.Place.{Place}
use Rattle.cell_addr.specs.Axis.{limit_of}
use Rattle.cell_addr.specs.Place.{IsInside}
use Rattle.shift_core.specs.declared.form.Form.{Form}
use Rattle.shift_core.specs.declared.form.Form.TheVariants.{Lines, Cells, Sheet}
use Rattle.shift_core.specs.Lines.{line_after, line_before}
use Rattle.shift_core.specs.Sound.{IsSoundForm}
use Rattle.shift_core.specs.Tables.{place_moved, place_returned}
use Rattle.shift_core.proofs.LinesReturn.{edit_returns, edit_goes, edit_inside, edit_before_inside}
use Rattle.shift_core.proofs.Axes.{line_inside, by_line_returns, by_line_inside}
use Rattle.shift_core.proofs.CellMoves.{move_cells_returns, move_cells_goes, move_cells_inside, unmove_cells_inside}

-- a place that isn't on the dropped sheet stays
kept_on_drop : (sheet : ℕ) (p q : Place) → place_moved (Sheet sheet) p ≡ Some q → place_moved (Sheet sheet) q ≡ Some p
kept_on_drop sheet p q h = grind (arith, nat_tests)

pub stays_on_drop : (sheet : ℕ) (p q : Place) → place_moved (Sheet sheet) p ≡ Some q → p ≡ q
stays_on_drop sheet p q h = grind (arith, nat_tests)

pub place_moved_returns : (f : Form) (p q : Place) → IsSoundForm f → IsInside p → place_moved f p ≡ Some q → place_returned f q ≡ Some p
place_moved_returns (Lines sheet axis edit) p q sound i h =
    by_line_returns sheet axis (line_after (limit_of axis) edit) (line_before (limit_of axis) edit) (λ r t l e. edit_returns (limit_of axis) edit r t sound l e) p q (line_inside axis p i) h
place_moved_returns (Cells source to) p q sound i h = move_cells_returns source to p q h
place_moved_returns (Sheet sheet) p q sound i h = kept_on_drop sheet p q h

pub place_returned_goes : (f : Form) (p q : Place) → IsSoundForm f → IsInside q → place_returned f q ≡ Some p → place_moved f p ≡ Some q
place_returned_goes (Lines sheet axis edit) p q sound i h =
    by_line_returns sheet axis (line_before (limit_of axis) edit) (line_after (limit_of axis) edit) (λ t r l e. edit_goes (limit_of axis) edit t r sound l e) q p (line_inside axis q i) h
place_returned_goes (Cells source to) p q sound i h = move_cells_goes source to p q sound.0 h
place_returned_goes (Sheet sheet) p q sound i h = kept_on_drop sheet q p h

pub place_moved_inside : (f : Form) (p q : Place) → IsSoundForm f → IsInside p → place_moved f p ≡ Some q → IsInside q
place_moved_inside (Lines sheet axis edit) p q sound i h =
    by_line_inside sheet axis (line_after (limit_of axis) edit) (λ r t l e. edit_inside (limit_of axis) edit r t sound l e) p q i h
place_moved_inside (Cells source to) p q sound i h = move_cells_inside source to p q sound.1 i h
place_moved_inside (Sheet sheet) p q sound i h = rw (← stays_on_drop sheet p q h) i

pub place_returned_inside : (f : Form) (p q : Place) → IsSoundForm f → IsInside q → place_returned f q ≡ Some p → IsInside p
place_returned_inside (Lines sheet axis edit) p q sound i h =
    by_line_inside sheet axis (line_before (limit_of axis) edit) (λ t r l e. edit_before_inside (limit_of axis) edit t r sound l e) q p i h
place_returned_inside (Cells source to) p q sound i h = unmove_cells_inside source to p q sound.0 i h
place_returned_inside (Sheet sheet) p q sound i h = rw (← stays_on_drop sheet q p h) i

pub place_moved_apart : (f : Form) (p other q : Place) → IsSoundForm f → IsInside p → IsInside other → place_moved f p ≡ Some q → place_moved f other ≡ Some q → p ≡ other
place_moved_apart f p other q sound i j h k =
    same_Some _ _ (sym (place_moved_returns f p q sound i h) ∙ place_moved_returns f other q sound j k)
