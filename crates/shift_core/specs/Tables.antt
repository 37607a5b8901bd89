-- Where a structural operation moves places and blocks, and which it moved there. Source: this project's own.
use Rattle.std.specs.Prelude.{ℕ, ◌==◌, if◌then◌else◌, Option, Some, None, option_map}
use Rattle.cell_addr.specs.declared.axis.Axis.{Axis}
use Rattle.cell_addr.specs.declared.axis.Span.{Span}
use Rattle.cell_addr.specs.declared.place.Place.{Place}
use Rattle.cell_addr.specs.declared.place.Block.{Block}
use Rattle.cell_addr.specs.Axis.{limit_of, line_of, with_line, span_of, with_span}
use Rattle.cell_addr.specs.Place.{covers}
use Rattle.shift_core.specs.declared.form.Form.{Form}
use Rattle.shift_core.specs.declared.form.Form.TheVariants.{Lines, Cells, Sheet}
use Rattle.shift_core.specs.declared.shift.Shift.{Shift}
use Rattle.shift_core.specs.Carried.{contains, first_place, carried_place, carried_block, destination}
use Rattle.shift_core.specs.Form.{form_of}
use Rattle.shift_core.specs.Lines.{line_after, line_before}
use Rattle.shift_core.specs.Spans.{span_after, span_before}

-- what a rule for lines makes of a place; what isn't on the sheet stays
abbrev pub by_line : ℕ → Axis → (ℕ → Option ℕ) → Place → Option Place
by_line sheet axis rule p =
    if p.sheet == sheet then option_map (λ line. with_line axis line p) (rule (line_of axis p)) else Some p

-- what a rule for the first and the last line makes of a block; what isn't on the sheet stays
abbrev pub by_span : ℕ → Axis → (Span → Option Span) → Block → Option Block
by_span sheet axis rule b =
    if b.sheet == sheet then option_map (λ span. with_span axis span b) (rule (span_of axis b)) else Some b

-- where an operation moves a place; a lost place has none
abbrev pub place_moved : Form → Place → Option Place
place_moved (Lines sheet axis edit) p = by_line sheet axis (line_after (limit_of axis) edit) p
place_moved (Cells source to) p =
    if covers source p then Some (carried_place source to p)
    else (if covers (destination source to) p then None else Some p)
place_moved (Sheet sheet) p = if p.sheet == sheet then None else Some p

-- where an operation moves a block; a lost block has none
abbrev pub block_moved : Form → Block → Option Block
block_moved (Lines sheet axis edit) b = by_span sheet axis (span_after (limit_of axis) edit) b
block_moved (Cells source to) b =
    if contains source b then Some (carried_block source to b)
    else (if contains (destination source to) b then None else Some b)
block_moved (Sheet sheet) b = if b.sheet == sheet then None else Some b

-- which place an operation moved here; none where there was none
abbrev pub place_returned : Form → Place → Option Place
place_returned (Lines sheet axis edit) p = by_line sheet axis (line_before (limit_of axis) edit) p
place_returned (Cells source to) p =
    if covers (destination source to) p then Some (carried_place (destination source to) (first_place source) p)
    else (if covers source p then None else Some p)
place_returned (Sheet sheet) p = if p.sheet == sheet then None else Some p

-- which block the ends stood for before the operation; none where an end was nowhere
abbrev pub block_returned : Form → Block → Option Block
block_returned (Lines sheet axis edit) b = by_span sheet axis (span_before (limit_of axis) edit) b
block_returned (Cells source to) b =
    if contains (destination source to) b then Some (carried_block (destination source to) (first_place source) b)
    else Some b
block_returned (Sheet sheet) b = if b.sheet == sheet then None else Some b

-- the same of an operation, by its form
abbrev pub place_after : Shift → Place → Option Place
place_after s p = place_moved (form_of s) p

abbrev pub block_after : Shift → Block → Option Block
block_after s b = block_moved (form_of s) b

abbrev pub place_before : Shift → Place → Option Place
place_before s p = place_returned (form_of s) p

abbrev pub block_before : Shift → Block → Option Block
block_before s b = block_returned (form_of s) b
