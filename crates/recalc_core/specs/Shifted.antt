-- Where kept values come from over a structural operation. Source: this project's own.
use Rattle.std.specs.Prelude.{ℕ, Bool, false, ◌==◌, ◌&&◌, nat_lt, if◌then◌else◌, List, Some, None}
use Rattle.std.specs.Option.{option_map}
use Rattle.cell_addr.specs.declared.place.Place.{Place}
use Rattle.cell_addr.specs.declared.place.TheConstants.{COLS, ROWS}
use Rattle.shift_core.specs.Form.{form_of}
use Rattle.shift_core.specs.Sound.{IsSound}
use Rattle.shift_core.specs.Tables.{place_before}
use Rattle.shift_core.specs.declared.form.Form.{Form}
use Rattle.shift_core.specs.declared.form.Form.TheVariants.{Sheet}
use Rattle.shift_core.specs.declared.shift.Shift.{Shift}
use Rattle.book_values.specs.Workbook as book
use Rattle.dep_graph.specs.declared.node.Node.TheVariants.{Cell, Name, Range, Whole}
use Rattle.recalc_core.specs.Moves.{Back, From, IsWayBack}

-- tests whether the place is within the limits of a sheet
abbrev pub is_inside : Place → Bool
is_inside p = nat_lt p.row ROWS && nat_lt p.col COLS

-- tests whether names of the scope of this number go, which they do with their sheet
abbrev pub drops_scope : Form → ℕ → Bool
drops_scope (Sheet sheet) scope = scope == sheet
drops_scope _ scope = false

-- where each node of the graph was: nothing is kept of ranges, and of no place beyond the limits of a sheet
abbrev pub from_over : Shift → From
from_over s (Cell p) = if is_inside p then option_map Cell (place_before s p) else None
from_over s (Name scope word) = if drops_scope (form_of s) scope then None else Some (Name scope word)
from_over s (Range b) = None
from_over s (Whole w) = None

-- and each place and each name
abbrev pub back_over : Shift → Back
back_over s (book.place p) = if is_inside p then option_map book.place (place_before s p) else None
back_over s (book.name key) = if drops_scope (form_of s) (book.scope_sheet key.scope) then None else Some (book.name key)

-- these belong together, over every sound operation
abbrev pub ShiftsGoBack : Type 0
ShiftsGoBack = (s : Shift) (words : List (List ℕ)) → IsSound s → IsWayBack words (back_over s) (from_over s)
