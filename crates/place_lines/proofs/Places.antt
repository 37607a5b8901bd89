-- Places by their spots and blocks by their areas: no two have the same, and each is found again.
use Rattle.std.proofs.Common.{◌≡◌, ◌∙◌, sym, ap, refl, ℕ, Option, Some, None}
use Rattle.std.proofs.lemmas.Option.{same_Some}
use Rattle.cell_addr.specs.declared.axis.Axis.{Axis}
use Rattle.cell_addr.specs.declared.axis.Axis.TheVariants.{Rows, Cols}
use Rattle.cell_addr.specs.declared.place.Place.{Place}
use Rattle.cell_addr.specs.declared.place.Block.{Block}
use Rattle.cell_addr.specs.Axis.{limit_of, line_of}
use Rattle.shift_core.specs.Carried.{first_place, last_place}
use Rattle.shift_core.specs.Form.{across}
use Rattle.shift_core.proofs.CellMoves.{same_place}
use Rattle.stable_lines.specs.Sheets.{table_of}
use Rattle.place_lines.specs.Laws.{IsNarrow, IsNarrowBlock}
use Rattle.place_lines.specs.Spots.{area_of, block_at, block_of, first_spot, last_spot, number_of, place_at, place_of, position_at, spot_of, table_along}
use Rattle.place_lines.specs.internal.Low.{HasLowLines}
use Rattle.place_lines.specs.declared.area.LineArea.{LineArea}
use Rattle.place_lines.specs.declared.lines.PlaceLines.{PlaceLines}
use Rattle.place_lines.specs.declared.spot.LineSpot.{LineSpot}
use Rattle.place_lines.proofs.LineNumbers.{number_returns, one_position, position_returns}

-- each table has as many positions as its axis has lines, and low numbers
pub limit_along : (axis : Axis) (lines : PlaceLines) (sheet : ℕ) → (table_along axis lines sheet).limit ≡ limit_of axis
limit_along Rows lines sheet = lines.rows.limits sheet ∙ lines.row_limit
limit_along Cols lines sheet = lines.cols.limits sheet ∙ lines.col_limit

pub low_along : (axis : Axis) (lines : PlaceLines) (sheet : ℕ) → HasLowLines (table_along axis lines sheet)
low_along Rows lines sheet = lines.low_rows sheet
low_along Cols lines sheet = lines.low_cols sheet

-- the number of a place's line along an axis
abbrev pub number_along : Axis → PlaceLines → Place → ℕ
number_along axis lines p = number_of (table_along axis lines p.sheet) (line_of axis p)

pub same_spot : (s t : LineSpot) → s.sheet ≡ t.sheet → s.row ≡ t.row → s.col ≡ t.col → s ≡ t
same_spot s t sheets rows cols = λ i. record { sheet = sheets i; row = rows i; col = cols i }

-- the spots are one where the numbers are along both axes
pub one_spot : (axis : Axis) (old new : PlaceLines) (p q : Place) → p.sheet ≡ q.sheet → number_along axis old p ≡ number_along axis new q
    → number_along (across axis) old p ≡ number_along (across axis) new q → spot_of old p ≡ spot_of new q
one_spot Rows old new p q sheets along over = same_spot _ _ sheets along over
one_spot Cols old new p q sheets along over = same_spot _ _ sheets over along

number_there : (axis : Axis) (lines : PlaceLines) (sheet other line : ℕ) → sheet ≡ other → number_of (table_along axis lines other) line ≡ number_of (table_along axis lines sheet) line
number_there axis lines sheet other line e = ap (λ s. number_of (table_along axis lines s) line) (sym e)

-- no two places have one spot
pub one_place : (lines : PlaceLines) (p q : Place) → spot_of lines p ≡ spot_of lines q → p ≡ q
one_place lines p q e =
    let sheets = ap (λ s. s.sheet) e in
    same_place p q sheets
    (one_position (table_of lines.rows p.sheet) p.row q.row (low_along Rows lines p.sheet) (ap (λ s. s.row) e ∙ number_there Rows lines p.sheet q.sheet q.row sheets))
    (one_position (table_of lines.cols p.sheet) p.col q.col (low_along Cols lines p.sheet) (ap (λ s. s.col) e ∙ number_there Cols lines p.sheet q.sheet q.col sheets))

-- a place is found under its spot
pub place_returns : (lines : PlaceLines) (p : Place) → IsNarrow p → place_at lines (spot_of lines p) ≡ Some p
place_returns lines p narrow =
    rw (
      position_returns (table_of lines.rows p.sheet) p.row (low_along Rows lines p.sheet) narrow.0,
      position_returns (table_of lines.cols p.sheet) p.col (low_along Cols lines p.sheet) narrow.1,
    ) refl

place_parts : (sheet : ℕ) (row col : Option ℕ) (p : Place) → place_of sheet row col ≡ Some p → (sheet ≡ p.sheet) × (row ≡ Some p.row) × (col ≡ Some p.col)
place_parts sheet (Some row) (Some col) p h =
    let e = same_Some _ p h in (ap (λ x. x.sheet) e, ap (λ x. Some x.row) e, ap (λ x. Some x.col) e)
place_parts sheet (Some row) None p h = cc
place_parts sheet None col p h = cc

position_there : (axis : Axis) (lines : PlaceLines) (sheet other n x : ℕ) → sheet ≡ other → position_at (table_along axis lines sheet) n ≡ Some x → position_at (table_along axis lines other) n ≡ Some x
position_there axis lines sheet other n x e h = ap (λ s. position_at (table_along axis lines s) n) (sym e) ∙ h

-- and nothing else is found where it stands
pub spot_returns : (lines : PlaceLines) (spot : LineSpot) (p : Place) → place_at lines spot ≡ Some p → spot_of lines p ≡ spot
spot_returns lines spot p h =
    let w = place_parts spot.sheet (position_at (table_of lines.rows spot.sheet) spot.row) (position_at (table_of lines.cols spot.sheet) spot.col) p h in
    same_spot _ spot (sym w.0)
    (number_returns (table_of lines.rows p.sheet) spot.row p.row (position_there Rows lines spot.sheet p.sheet spot.row p.row w.0 w.1))
    (number_returns (table_of lines.cols p.sheet) spot.col p.col (position_there Cols lines spot.sheet p.sheet spot.col p.col w.0 w.2))

same_block : (b c : Block) → first_place b ≡ first_place c → last_place b ≡ last_place c → b ≡ c
same_block b c first last =
    λ i. record { sheet = (first i).sheet; top = (first i).row; left = (first i).col; bottom = (last i).row; right = (last i).col }

pub same_area : (a b : LineArea) → first_spot a ≡ first_spot b → last_spot a ≡ last_spot b → a ≡ b
same_area a b first last =
    λ i. record { sheet = (first i).sheet; top = (first i).row; left = (first i).col; bottom = (last i).row; right = (last i).col }

-- no two blocks have one area
pub one_block : (lines : PlaceLines) (b c : Block) → area_of lines b ≡ area_of lines c → b ≡ c
one_block lines b c e =
    same_block b c (one_place lines (first_place b) (first_place c) (ap first_spot e)) (one_place lines (last_place b) (last_place c) (ap last_spot e))

-- a block is found under its area
pub block_returns : (lines : PlaceLines) (b : Block) → IsNarrowBlock b → block_at lines (area_of lines b) ≡ Some b
block_returns lines b narrow =
    ap (λ first. block_of first (place_at lines (last_spot (area_of lines b)))) (place_returns lines (first_place b) narrow.0)
    ∙ ap (block_of (Some (first_place b))) (place_returns lines (last_place b) narrow.1)

block_parts : (first last : Option Place) (b : Block) → block_of first last ≡ Some b
    → (p : Place) × (q : Place) × (first ≡ Some p) × (last ≡ Some q) × (b ≡ record { sheet = p.sheet; top = p.row; left = p.col; bottom = q.row; right = q.col })
block_parts (Some p) (Some q) b h = (p, q, refl, refl, sym (same_Some _ b h))
block_parts (Some p) None b h = cc
block_parts None last b h = cc

-- and nothing else is found where it stands
pub area_returns : (lines : PlaceLines) (area : LineArea) (b : Block) → block_at lines area ≡ Some b → area_of lines b ≡ area
area_returns lines area b h =
    let w = block_parts (place_at lines (first_spot area)) (place_at lines (last_spot area)) b h in
    let first = spot_returns lines (first_spot area) w.0 w.2 in
    let last = spot_returns lines (last_spot area) w.1 w.3 in
    let sheets : w.0.sheet ≡ w.1.sheet = ap (λ s. s.sheet) first ∙ sym (ap (λ s. s.sheet) last) in
    let ends : last_place b ≡ w.1 = ap last_place w.4 ∙ (λ i. record { sheet = sheets i; row = w.1.row; col = w.1.col }) in
    same_area _ area (ap (spot_of lines) (ap first_place w.4) ∙ first) (ap (spot_of lines) ends ∙ last)
