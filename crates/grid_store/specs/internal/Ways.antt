-- The two ways of a structural operation: forth as it is done, and back as it is taken back.
use Rattle.std.specs.Prelude.{◌-◌, ℕ, Bool, false, ◌&&◌, nat_le, Option, Some, None, option_map, List, filter, filter_map, is_none}
use Rattle.std.specs.FinMap as map
use Rattle.cell_addr.specs.declared.axis.Span.{Span}
use Rattle.cell_addr.specs.declared.place.Block.{Block}
use Rattle.cell_addr.specs.declared.place.Place.{Place}
use Rattle.cell_addr.specs.declared.place.TheConstants.{ROWS, COLS}
use Rattle.shift_core.specs.Lines.{line_after, line_before}
use Rattle.shift_core.specs.Maps.{PlaceMap}
use Rattle.shift_core.specs.Carried.{destination}
use Rattle.shift_core.specs.Form.{form_of}
use Rattle.shift_core.specs.Tables.{place_moved, place_returned}
use Rattle.shift_core.specs.declared.edit.Edit.{Edit}
use Rattle.shift_core.specs.declared.form.Form.{Form}
use Rattle.shift_core.specs.declared.shift.Shift.{Shift}
use Rattle.grid_store.specs.declared.way.Going.{Going}
use Rattle.grid_store.specs.declared.way.Going.TheVariants.{Forth, Back}

-- the other way
abbrev pub turned : Going → Going
turned Forth = Back
turned Back = Forth

-- where a place goes
abbrev pub form_goes : Going → Form → Place → Option Place
form_goes Forth f p = place_moved f p
form_goes Back f p = place_returned f p

abbrev pub goes : Going → Shift → Place → Option Place
goes w s = form_goes w (form_of s)

-- where a line goes, and which comes here
abbrev pub line_goes : Going → ℕ → Edit → ℕ → Option ℕ
line_goes Forth limit edit line = line_after limit edit line
line_goes Back limit edit line = line_before limit edit line

-- the map with each entry where its place goes, those of lost places gone
abbrev pub carried_map : {X : Type 0} → (Place → Option Place) → PlaceMap X → PlaceMap X
carried_map f m = map.from_entries (filter_map (λ e. option_map (λ q. (q, e.1)) (f e.0)) (map.entries m))

-- the entries whose places are lost
abbrev pub lost_by : {X : Type 0} → (Place → Option Place) → PlaceMap X → List (Place × X)
lost_by f m = filter (λ e. is_none (f e.0)) (map.entries m)

-- the line is one of these, if there are any
abbrev pub span_has : Option Span → ℕ → Bool
span_has None line = false
span_has (Some s) line = nat_le s.first line && nat_le line s.last

-- all places of a sheet
abbrev pub whole : ℕ → Block
whole sheet = record { sheet = sheet; top = 0; left = 0; bottom = ROWS - 1; right = COLS - 1 }

-- the block whose cells a move of cells takes, and the one that they come to
abbrev pub from_block : Going → Block → Place → Block
from_block Forth source to = source
from_block Back source to = destination source to

abbrev pub onto_block : Going → Block → Place → Block
onto_block Forth source to = destination source to
onto_block Back source to = source
