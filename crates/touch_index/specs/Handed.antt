-- What an operation leaves of a block whose corners keep their lines: its lines, but those that are deleted, and those that
-- an insert puts in between. Source: this project's own.
use Rattle.std.specs.Prelude.{◌≡◌, ◌==◌, ◌&&◌, ◌⊎◌, ◌↔◌, ℕ, ◌+◌, ◌-◌, min, nat_le, nat_lt, if◌then◌else◌, Option, Some, None, ⊤}
use Rattle.std.specs.Option.{option_map}
use Rattle.cell_addr.specs.Axis.{span_of, with_span}
use Rattle.cell_addr.specs.Place.{Covers, IsBlockInside}
use Rattle.cell_addr.specs.declared.axis.Axis.{Axis}
use Rattle.cell_addr.specs.declared.axis.Span.{Span}
use Rattle.cell_addr.specs.declared.place.Block.{Block}
use Rattle.cell_addr.specs.declared.place.Place.{Place}
use Rattle.place_lines.specs.Moved.{AreMoved}
use Rattle.place_lines.specs.Spots.{area_of, spot_of}
use Rattle.place_lines.specs.declared.lines.PlaceLines.{PlaceLines}
use Rattle.shift_core.specs.Sound.{IsSoundForm}
use Rattle.shift_core.specs.declared.edit.Edit.{Edit}
use Rattle.shift_core.specs.declared.edit.Edit.TheVariants.{Insert, Move}
use Rattle.shift_core.specs.declared.form.Form.{Form}
use Rattle.shift_core.specs.declared.form.Form.TheVariants.{Lines}

-- the lines that an insert puts between others, of those that a block has then
abbrev pub fresh_lines : Edit → Span → Option Span
fresh_lines (Insert start count) s =
    if nat_lt s.first start && nat_le start s.last then Some (record { first = start; last = min (start + (count - 1)) s.last }) else None
fresh_lines _ s = None

-- the part of a block that is on these lines
abbrev pub fresh_part : Form → Block → Option Block
fresh_part (Lines sheet axis edit) b = if b.sheet == sheet then option_map (λ span. with_span axis span b) (fresh_lines edit (span_of axis b)) else None
fresh_part _ b = None

-- the place is in the part, where there is one
abbrev pub IsIn : Option Block → Place → Type 0
IsIn part q = (b : Block) × (part ≡ Some b) × Covers b q

-- after a move of lines there are as many as before
abbrev pub AreAsMany : Edit → Span → Span → Type 0
AreAsMany (Move start count before) s t = t.last - t.first ≡ s.last - s.first
AreAsMany _ s t = ⊤

abbrev pub HasAsManyLines : Form → Block → Block → Type 0
HasAsManyLines (Lines sheet axis edit) b after = AreAsMany edit (span_of axis b) (span_of axis after)
HasAsManyLines _ b after = ⊤

-- the operation leaves the lines of the block's corners to the second block; both are within the sheet, and a move of lines
-- leaves their number
pub record IsHandedOn (f : Form) (old new : PlaceLines) (b after : Block) : Type 0 where
  pub sound : IsSoundForm f
  pub moved : AreMoved f old new
  pub here : IsBlockInside b
  pub there : IsBlockInside after
  pub area : area_of old b ≡ area_of new after
  pub count : HasAsManyLines f b after

-- then the second block covers just the places with the spots that the first one covered, and those that were put in
abbrev pub BlocksAreHandedOn : Type 0
BlocksAreHandedOn =
    (f : Form) (old new : PlaceLines) (b after : Block) (q : Place) → IsHandedOn f old new b after →
    Covers after q ↔ (((p : Place) × Covers b p × (spot_of old p ≡ spot_of new q)) ⊎ IsIn (fresh_part f after) q)
