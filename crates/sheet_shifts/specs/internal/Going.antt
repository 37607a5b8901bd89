-- How a place, a block or a whole range goes over the operations of a run, one step after the other.
use Rattle.std.specs.Prelude.{◌≡◌, ℕ, ◌-◌, ◌<◌, ◌≤◌, ◌⊎◌, Bool, true, false, None, List, [], ◌∷◌, take, drop, Option, Some, MatchOption}
use Rattle.cell_addr.specs.Axis.{across, same_axis}
use Rattle.cell_addr.specs.declared.axis.Axis.{Axis}
use Rattle.cell_addr.specs.declared.axis.Span.{Span}
use Rattle.cell_addr.specs.declared.place.Block.{Block}
use Rattle.cell_addr.specs.declared.place.Place.{Place}
use Rattle.shift_core.specs.Lines.{IsSoundEdit, is_among, line_after}
use Rattle.shift_core.specs.Spans.{span_after, span_before}
use Rattle.shift_core.specs.Tables.{place_after}
use Rattle.shift_core.specs.declared.edit.Edit.{Edit}
use Rattle.shift_core.specs.declared.edit.Edit.TheVariants.{Move}
use Rattle.shift_core.specs.declared.shift.Shift.{Shift}
use Rattle.tree_rewrite.specs.Rewritten.{area_after, area_before}
use Rattle.sheet_shifts.specs.declared.entry.Entry.{Entry}

-- ---- over a run

-- the operations from one index up to another one
abbrev pub part : ℕ → ℕ → List Shift → List Shift
part from to run = take (to - from) (drop from run)

-- each operation takes a step, from x to y
abbrev pub GoesBy : {X : Type 0} → (Shift → X → X → Type 0) → List Shift → X → X → Type 0
GoesBy Step [] x y = x ≡ y
GoesBy {X} Step (s ∷ run) x y = (z : X) × (Step s x z × GoesBy Step run z y)

-- the operation takes the place from here to there
abbrev pub TakesPlace : Shift → Place → Place → Type 0
TakesPlace s p q = place_after s p ≡ Some q

-- the operation takes the block, or the whole range as its block, from here to there, and gives it back
abbrev pub CarriesArea : Option Axis → Shift → Block → Block → Type 0
CarriesArea lines s b c = (area_after s lines b ≡ Some c) × (area_before s lines c ≡ Some b)

-- what is picked from the operation takes the step; where nothing is, all stays
abbrev pub ByPicked : {X Y : Type 0} → (Shift → Option Y) → (Y → X → X → Type 0) → Shift → X → X → Type 0
ByPicked pick Step s x y = MatchOption (pick s) (x ≡ y) (λ what. Step what x y)

-- ---- over a list

-- the list's first operation has this index or a later one
abbrev pub IsPast : {Y : Type 0} → ℕ → List (Entry Y) → Type 0
IsPast to [] = Unit {0}
IsPast to (e ∷ es) = to ≤ e.index

-- each entry in front of the index takes a step, from x to y, and the rest is left
abbrev pub Walks : {X Y : Type 0} → (Y → X → X → Type 0) → ℕ → List (Entry Y) → X → X → List (Entry Y) → Type 0
Walks Step to [] x y rest = (x ≡ y) × (rest ≡ [])
Walks {X} Step to (e ∷ es) x y rest =
    ((to ≤ e.index) × (x ≡ y) × (rest ≡ e ∷ es)) ⊎ ((e.index < to) × ((z : X) × (Step e.what x z × Walks Step to es z y rest)))

-- the edit takes the line from here to there
abbrev pub TakesLine : ℕ → Edit → ℕ → ℕ → Type 0
TakesLine limit edit l m = line_after limit edit l ≡ Some m

-- the edit takes the ends of a block from here to there, and gives them back
abbrev pub CarriesSpan : ℕ → Edit → Span → Span → Type 0
CarriesSpan limit edit s t = (span_after limit edit s ≡ Some t) × (span_before limit edit t ≡ Some s)

-- the edits along an axis leave a whole range along the other one
abbrev pub is_left : Option Axis → Axis → Bool
is_left None axis = false
is_left (Some along) axis = same_axis along (across axis)

-- an edit carries the ends, unless such edits leave them
abbrev pub CarriesEnds : Bool → ℕ → Edit → Span → Span → Type 0
CarriesEnds true limit = λ edit s t. s ≡ t
CarriesEnds false limit = CarriesSpan limit

-- a move takes both ends of the block, or neither
abbrev pub TakesWhole : Edit → Span → Type 0
TakesWhole (Move start count before) s = is_among start count s.first ≡ is_among start count s.last
TakesWhole _ s = Unit {0}

-- no operation at all
abbrev pub Never : {X Y : Type 0} → Y → X → X → Type 0
Never what x y = ⊥

-- the edits of the list are sound
abbrev pub AreSoundEdits : ℕ → List (Entry Edit) → Type 0
AreSoundEdits limit [] = Unit {0}
AreSoundEdits limit (e ∷ es) = IsSoundEdit limit e.what × AreSoundEdits limit es
