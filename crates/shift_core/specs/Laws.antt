-- What the tables of moved places, blocks and whole ranges have in common, in words of the places alone.
use Rattle.std.specs.Prelude.{◌≡◌, ◌↔◌, ℕ, ◌+◌, ◌-◌, ◌<◌, ◌≤◌, ◌⊎◌, ⊤, ◌&&◌, if◌then◌else◌, Some, None, option_map}
use Rattle.cell_addr.specs.declared.axis.Axis.{Axis}
use Rattle.cell_addr.specs.declared.axis.Span.{Span}
use Rattle.cell_addr.specs.declared.place.Place.{Place}
use Rattle.cell_addr.specs.declared.place.Block.{Block}
use Rattle.cell_addr.specs.declared.whole.Whole.{Whole}
use Rattle.cell_addr.specs.Axis.{limit_of, line_of, span_of}
use Rattle.cell_addr.specs.Place.{IsInside, IsBlockInside, Covers}
use Rattle.cell_addr.specs.Whole.{IsWholeInside, whole_block}
use Rattle.shift_core.specs.declared.edit.Edit.{Edit}
use Rattle.shift_core.specs.declared.edit.Edit.TheVariants.{Insert, Move}
use Rattle.shift_core.specs.declared.form.Form.{Form}
use Rattle.shift_core.specs.declared.form.Form.TheVariants.{Lines, Cells}
use Rattle.shift_core.specs.declared.shift.Shift.{Shift}
use Rattle.shift_core.specs.Bent.{IsBent, IsCut}
use Rattle.shift_core.specs.Carried.{carried_place, first_place}
use Rattle.shift_core.specs.Form.{form_of, opposite, across, IsWithin}
use Rattle.shift_core.specs.Lines.{IsSoundEdit, is_among, line_after_move}
use Rattle.shift_core.specs.Opposite.{opposite_of}
use Rattle.shift_core.specs.Sound.{IsSound}
use Rattle.shift_core.specs.Tables.{place_after, block_after, place_before, block_before, place_moved, place_returned, by_span}
use Rattle.shift_core.specs.Wholes.{whole_after, whole_before, IsAcross, IsWholeBent}

-- a place that isn't lost comes back to where it was
abbrev pub PlacesComeBack : Type 0
PlacesComeBack =
    (s : Shift) (p q : Place) → IsSound s → IsInside p → place_after s p ≡ Some q → place_before s q ≡ Some p

-- what a place of the sheet came from goes there
abbrev pub PlacesGoForth : Type 0
PlacesGoForth =
    (s : Shift) (p q : Place) → IsSound s → IsInside q → place_before s q ≡ Some p → place_after s p ≡ Some q

-- no two places move to one
abbrev pub NoTwoMeet : Type 0
NoTwoMeet =
    (s : Shift) (p other q : Place) → IsSound s → IsInside p → IsInside other → place_after s p ≡ Some q → place_after s other ≡ Some q → p ≡ other

-- places of the sheet move to places of the sheet, and came from places of the sheet
abbrev pub PlacesStayInside : Type 0
PlacesStayInside =
    (s : Shift) (p q : Place) → IsSound s → IsInside p → ((place_after s p ≡ Some q → IsInside q) × (place_before s p ≡ Some q → IsInside q))

-- blocks of the sheet move to blocks of the sheet, and came from blocks of the sheet
abbrev pub BlocksStayInside : Type 0
BlocksStayInside =
    (s : Shift) (b c : Block) → IsSound s → IsBlockInside b → ((block_after s b ≡ Some c → IsBlockInside c) × (block_before s b ≡ Some c → IsBlockInside c))

-- the operation leaves all lines in their order: it inserts or deletes some, or drops a sheet
abbrev pub KeepsLineOrder : Edit → Type 0
KeepsLineOrder (Move start count before) = ⊥
KeepsLineOrder _ = ⊤

abbrev pub OrderIsKept : Form → Type 0
OrderIsKept (Lines sheet axis edit) = KeepsLineOrder edit
OrderIsKept (Cells source to) = ⊥
OrderIsKept _ = ⊤

abbrev pub KeepsOrder : Shift → Type 0
KeepsOrder s = OrderIsKept (form_of s)

-- the operation moves a place of the block here
abbrev pub ComesFrom : Shift → Block → Place → Type 0
ComesFrom s b q = (p : Place) × Covers b p × (place_after s p ≡ Some q)

-- one of the `count` lines that an insert puts between two lines of a block
abbrev pub IsPutBetween : Edit → Span → ℕ → Type 0
IsPutBetween (Insert start count) s line =
    (s.first < start) × (start ≤ s.last) × (start ≤ line) × (line < start + count)
IsPutBetween _ s line = ⊥

-- the place lies on a line that an insert puts between two lines of the block
abbrev pub LiesBetween : Form → Block → Place → Type 0
LiesBetween (Lines sheet axis edit) b q =
    (b.sheet ≡ sheet) × (q.sheet ≡ sheet) × IsPutBetween edit (span_of axis b) (line_of axis q)
    × IsWithin (span_of (across axis) b) (line_of (across axis) q)
LiesBetween _ b q = ⊥

abbrev pub IsPutInside : Shift → Block → Place → Type 0
IsPutInside s b q = LiesBetween (form_of s) b q

-- over an insert, a deletion or a dropped sheet, a block covers the places that its places move to, and what is
-- inserted between them; of the sheet's places no others
abbrev pub BlocksCoverWhatMoves : Type 0
BlocksCoverWhatMoves =
    (s : Shift) (b after : Block) (q : Place) → IsSound s → KeepsOrder s → IsBlockInside b → IsInside q →
    block_after s b ≡ Some after → Covers after q ↔ (ComesFrom s b q ⊎ IsPutInside s b q)

-- over an insert, a deletion or a dropped sheet, a block is lost exactly where each of its places is
abbrev pub BlocksAreLostWithTheirPlaces : Type 0
BlocksAreLostWithTheirPlaces =
    (s : Shift) (b : Block) → IsSound s → KeepsOrder s → IsBlockInside b →
    (block_after s b ≡ None) ↔ ((p : Place) → Covers b p → place_after s p ≡ None)

-- the first line of a block that isn't among the moved ones, where the block ends after them
abbrev pub first_unmoved : ℕ → ℕ → ℕ → ℕ
first_unmoved start count first = if is_among start count first then start + count else first

-- the last line of a block that isn't among the moved ones, where the block begins before them
abbrev pub last_unmoved : ℕ → ℕ → ℕ → ℕ
last_unmoved start count last = if is_among start count last then start - 1 else last

-- the outermost lines of a block, of those that a move doesn't take where there are any, after the move
abbrev pub span_of_lines : ℕ → ℕ → ℕ → Span → Span
span_of_lines start count before s =
    if is_among start count s.first && is_among start count s.last
    then record { first = line_after_move start count before s.first; last = line_after_move start count before s.last }
    else record {
      first = line_after_move start count before (first_unmoved start count s.first);
      last = line_after_move start count before (last_unmoved start count s.last);
    }

-- a move of rows or columns loses no block: each ends where its outermost lines stand then
abbrev pub MovedBlocksEndAtTheirLines : Type 0
MovedBlocksEndAtTheirLines =
    (s : Shift) (sheet : ℕ) (axis : Axis) (start count before : ℕ) (b : Block) → IsSound s → IsBlockInside b →
    form_of s ≡ Lines sheet axis (Move start count before) →
    block_after s b ≡ by_span sheet axis (λ span. Some (span_of_lines start count before span)) b

-- the block of one place
abbrev pub one_cell : Place → Block
one_cell p = record { sheet = p.sheet; top = p.row; left = p.col; bottom = p.row; right = p.col }

-- a place and the block of that place move alike
abbrev pub OneCellsMoveAlike : Type 0
OneCellsMoveAlike =
    (s : Shift) (p : Place) → IsSound s → IsInside p → block_after s (one_cell p) ≡ option_map one_cell (place_after s p)

-- the operation isn't the move of a block of cells
abbrev pub NoCellsMove : Form → Type 0
NoCellsMove (Cells source to) = ⊥
NoCellsMove _ = ⊤

abbrev pub MovesNoBlock : Shift → Type 0
MovesNoBlock s = NoCellsMove (form_of s)

-- unless the operation is a move of cells, the places of a block that is neither bent nor cut keep their offsets in it
abbrev pub UnbentBlocksKeepOffsets : Type 0
UnbentBlocksKeepOffsets =
    (s : Shift) (b after : Block) (p : Place) → IsSound s → MovesNoBlock s → IsBlockInside b → ¬ IsBent s b → ¬ IsCut s b →
    block_after s b ≡ Some after → Covers b p → place_after s p ≡ Some (carried_place b (first_place after) p)

-- a block that is neither bent nor cut comes back to where it was
abbrev pub UnbentBlocksComeBack : Type 0
UnbentBlocksComeBack =
    (s : Shift) (b after : Block) → IsSound s → IsBlockInside b → ¬ IsBent s b → ¬ IsCut s b →
    block_after s b ≡ Some after → block_before s after ≡ Some b

-- over an edit of lines, places go back by the opposite edit; and that of a sound edit has it as its own opposite
abbrev pub OppositesGoBack : Type 0
OppositesGoBack =
    (sheet : ℕ) (axis : Axis) (edit : Edit) (p : Place) → IsSoundEdit (limit_of axis) edit →
    (place_returned (Lines sheet axis edit) p ≡ place_moved (Lines sheet axis (opposite edit)) p) × (opposite (opposite edit) ≡ edit)

-- the operation that takes a sound one back is sound
abbrev pub OppositesAreSound : Type 0
OppositesAreSound = (s back : Shift) → IsSound s → opposite_of s ≡ Some back → IsSound back

-- by it places of the sheet go as they go back
abbrev pub PlacesGoByOpposites : Type 0
PlacesGoByOpposites =
    (s back : Shift) (p : Place) → IsSound s → opposite_of s ≡ Some back → IsInside p → place_after back p ≡ place_before s p

-- by it a block that was neither bent nor cut goes to where it was, and is neither bent nor cut
abbrev pub UnbentBlocksGoByOpposites : Type 0
UnbentBlocksGoByOpposites =
    (s back : Shift) (b after : Block) → IsSound s → opposite_of s ≡ Some back → IsBlockInside b → ¬ IsBent s b → ¬ IsCut s b →
    block_after s b ≡ Some after → (block_after back after ≡ Some b) × (¬ IsBent back after) × (¬ IsCut back after)

-- whole ranges of the sheet move to whole ranges of the sheet, and came from whole ranges of the sheet
abbrev pub WholesStayInside : Type 0
WholesStayInside =
    (s : Shift) (w v : Whole) → IsSound s → IsWholeInside w → ((whole_after s w ≡ Some v → IsWholeInside v) × (whole_before s w ≡ Some v → IsWholeInside v))

-- unless lines across it are edited on its sheet, a whole range goes, and came from, where its block does
abbrev pub WholesMoveAsBlocks : Type 0
WholesMoveAsBlocks =
    (s : Shift) (w : Whole) → IsSound s → ¬ IsAcross s w →
    (block_after s (whole_block w) ≡ option_map whole_block (whole_after s w)) × (block_before s (whole_block w) ≡ option_map whole_block (whole_before s w))

-- a lost whole range is bent
abbrev pub LostWholesAreBent : Type 0
LostWholesAreBent = (s : Shift) (w : Whole) → whole_after s w ≡ None → IsWholeBent s w

-- unless the operation is a move of cells, the places of a whole range that isn't bent keep their offsets in it
abbrev pub UnbentWholesKeepOffsets : Type 0
UnbentWholesKeepOffsets =
    (s : Shift) (w after : Whole) (p : Place) → IsSound s → MovesNoBlock s → IsWholeInside w → ¬ IsWholeBent s w →
    whole_after s w ≡ Some after → Covers (whole_block w) p → place_after s p ≡ Some (carried_place (whole_block w) (first_place (whole_block after)) p)

-- a whole range that isn't bent comes back to where it was
abbrev pub UnbentWholesComeBack : Type 0
UnbentWholesComeBack =
    (s : Shift) (w after : Whole) → IsSound s → IsWholeInside w → ¬ IsWholeBent s w → whole_after s w ≡ Some after → whole_before s after ≡ Some w

-- by the opposite operation it goes to where it was, and isn't bent
abbrev pub UnbentWholesGoByOpposites : Type 0
UnbentWholesGoByOpposites =
    (s back : Shift) (w after : Whole) → IsSound s → opposite_of s ≡ Some back → IsWholeInside w → ¬ IsWholeBent s w →
    whole_after s w ≡ Some after → (whole_after back after ≡ Some w) × (¬ IsWholeBent back after)
