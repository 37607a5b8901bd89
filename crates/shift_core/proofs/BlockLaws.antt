-- The laws on blocks: they stay inside, cover what moves, are lost with their places, and a block of one place moves
-- like that place.
use Rattle.std.proofs.Common.{◌≡◌, ◌≢◌, ℕ, ◌⊎◌, ◌↔◌, inl, inr, ◌&&◌, Bool, true, false, cond, Some, None, option_map, arith, refl, sym, ◌∙◌, ap, subst}
use Rattle.std.proofs.lemmas.Bool.{and_parts}
use Rattle.std.proofs.lemmas.Bool.Decides.{nat_tests}
use Rattle.cell_addr.specs.declared.place.Place.{Place}
use Rattle.cell_addr.specs.declared.place.Block.{Block}
use Rattle.cell_addr.specs.Axis.{limit_of, line_of, span_of}
use Rattle.cell_addr.specs.Place.{IsInside, IsBlockInside, Covers, covers}
use Rattle.shift_core.specs.declared.form.Form.{Form}
use Rattle.shift_core.specs.declared.form.Form.TheVariants.{Lines, Cells, Sheet}
use Rattle.shift_core.specs.Carried.{contains, carried_place, carried_block, destination, first_place, last_place}
use Rattle.shift_core.specs.Laws.{OrderIsKept, LiesBetween, IsPutBetween, MovedBlocksEndAtTheirLines, span_of_lines, one_cell}
use Rattle.shift_core.specs.Lines.{line_after}
use Rattle.shift_core.specs.Spans.{span_after, span_before, span_after_move}
use Rattle.shift_core.specs.Sound.{IsSoundForm}
use Rattle.shift_core.specs.Tables.{place_moved, block_moved, block_returned}
use Rattle.shift_core.proofs.Axes.{line_inside, ends_inside, by_span_inside, by_span_covers, by_span_loses, by_span_one_cell, by_span_same}
use Rattle.shift_core.proofs.CellMoves.{cases_chosen, Covers-from_covers}
use Rattle.shift_core.proofs.PlaceLaws.{stays_on_drop}
use Rattle.shift_core.proofs.SpanLaws.{edit_span_inside, edit_before_span_inside, edit_covers, edit_loses, edit_lost, move_ends, one_line_moves}

-- an operation of the form moves a place of the block here
abbrev pub ComesFromForm : Form → Block → Place → Type 0
ComesFromForm f b q = (p : Place) × Covers b p × (place_moved f p ≡ Some q)

-- a block carried from one block into another of its size stays inside that
carried_block_inside : (source : Block) (to : Place) (b : Block) → IsBlockInside (destination source to) → IsBlockInside b → contains source b ≡ true → IsBlockInside (carried_block source to b)
carried_block_inside source to b d i h =
    let w = and_parts (covers source (first_place b)) (covers source (last_place b)) h in
    let first = Covers-from_covers source (first_place b) w.0 in
    let last = Covers-from_covers source (last_place b) w.1 in
    (omega arith, omega arith, omega arith, omega arith)

move_block_ends_inside : (source : Block) (to : Place) (b after : Block) → IsBlockInside (destination source to) → IsBlockInside b → block_moved (Cells source to) b ≡ Some after → IsBlockInside after
move_block_ends_inside source to b after d i h =
    elim (cases_chosen (contains source b) (contains (destination source to) b) (carried_block source to b) b after h) [
      | inl w ↦ rw w.1 (carried_block_inside source to b d i w.0)
      | inr w ↦ rw w.2 i
    ]

drop_ends_inside : (sheet : ℕ) (b after : Block) → IsBlockInside b → block_moved (Sheet sheet) b ≡ Some after → IsBlockInside after
drop_ends_inside sheet b after i h = let e : b ≡ after = grind (arith, nat_tests) in rw (← e) i

returned_block_inside : (source : Block) (to : Place) (b : Block) → IsBlockInside source → IsBlockInside b → contains (destination source to) b ≡ true → IsBlockInside (carried_block (destination source to) (first_place source) b)
returned_block_inside source to b d i h =
    let w = and_parts (covers (destination source to) (first_place b)) (covers (destination source to) (last_place b)) h in
    let first = Covers-from_covers (destination source to) (first_place b) w.0 in
    let last = Covers-from_covers (destination source to) (last_place b) w.1 in
    (omega arith, omega arith, omega arith, omega arith)

-- the first where `a`, else the second
pub cases_else : (a : Bool) (x b after : Block) → cond a (Some x) (Some b) ≡ Some after → ((a ≡ true) × (after ≡ x)) ⊎ ((a ≡ false) × (after ≡ b))
cases_else true x b after h = inl (refl, cc)
cases_else false x b after h = inr (refl, cc)

pub kept_block : (sheet : ℕ) (b after : Block) → block_moved (Sheet sheet) b ≡ Some after → (b.sheet ≢ sheet) × (after ≡ b)
kept_block sheet b after h = grind (arith, nat_tests)

kept_place : (sheet : ℕ) (p : Place) → p.sheet ≢ sheet → place_moved (Sheet sheet) p ≡ Some p
kept_place sheet p h = grind (arith, nat_tests)

lost_block : (sheet : ℕ) (b : Block) → block_moved (Sheet sheet) b ≡ None → b.sheet ≡ sheet
lost_block sheet b h = grind (arith, nat_tests)

lost_place : (sheet : ℕ) (p : Place) → p.sheet ≡ sheet → place_moved (Sheet sheet) p ≡ None
lost_place sheet p h = grind (arith, nat_tests)

dropped_block : (sheet : ℕ) (b : Block) → place_moved (Sheet sheet) (first_place b) ≡ None → block_moved (Sheet sheet) b ≡ None
dropped_block sheet b h = grind (arith, nat_tests)

drop_loses : (sheet : ℕ) (b : Block) → IsBlockInside b → (block_moved (Sheet sheet) b ≡ None) ↔ ((p : Place) → Covers b p → place_moved (Sheet sheet) p ≡ None)
drop_loses sheet b i = (
  λ h p c. lost_place sheet p (sym c.0 ∙ lost_block sheet b h),
  λ all. dropped_block sheet b (all (first_place b) (refl, omega arith, omega arith, omega arith, omega arith)),
)

one_cell_dropped : (sheet : ℕ) (p : Place) → block_moved (Sheet sheet) (one_cell p) ≡ option_map one_cell (place_moved (Sheet sheet) p)
one_cell_dropped sheet p = grind (arith, nat_tests)

-- a test of both corners of one place tests that place
and_same : (a b : Bool) (x y : Block) (p q : Place) → one_cell p ≡ x → one_cell q ≡ y → cond (a && a) (Some x) (cond (b && b) None (Some y)) ≡ option_map one_cell (cond a (Some p) (cond b None (Some q)))
and_same true b x y p q e f = ap (λ z. Some z) (sym e)
and_same false true x y p q e f = refl
and_same false false x y p q e f = ap (λ z. Some z) (sym f)

one_cell_carried : (source : Block) (to p : Place) → block_moved (Cells source to) (one_cell p) ≡ option_map one_cell (place_moved (Cells source to) p)
one_cell_carried source to p = and_same (covers source p) (covers (destination source to) p) _ (one_cell p) (carried_place source to p) p refl refl

back_block_inside : (source : Block) (to : Place) (b after : Block) → IsBlockInside source → IsBlockInside b → block_returned (Cells source to) b ≡ Some after → IsBlockInside after
back_block_inside source to b after d i h =
    elim (cases_else (contains (destination source to) b) (carried_block (destination source to) (first_place source) b) b after h) [
      | inl w ↦ rw w.1 (returned_block_inside source to b d i w.0)
      | inr w ↦ rw w.1 i
    ]

drop_covers : (sheet : ℕ) (b after : Block) (q : Place) → block_moved (Sheet sheet) b ≡ Some after → Covers after q ↔ (ComesFromForm (Sheet sheet) b q ⊎ ⊥)
drop_covers sheet b after q h =
    let kept = kept_block sheet b after h in (
      λ c. inl (q, rw kept.1 at c, kept_place sheet q (λ e. kept.0 (ap (λ x. x.sheet) (sym kept.1) ∙ c.0 ∙ e))),
      λ e. elim e [
        | inl (p, c, m) ↦ let same : p ≡ q = stays_on_drop sheet p q m in rw (kept.1, ← same) c
        | inr never ↦ absurd never
      ],
    )

pub block_moved_inside : (f : Form) (b after : Block) → IsSoundForm f → IsBlockInside b → block_moved f b ≡ Some after → IsBlockInside after
block_moved_inside (Lines sheet axis edit) b after sound i h =
    by_span_inside sheet axis (span_after (limit_of axis) edit) (λ s t o l e. edit_span_inside (limit_of axis) edit s t sound o l e) b after i h
block_moved_inside (Cells source to) b after sound i h = move_block_ends_inside source to b after sound.1 i h
block_moved_inside (Sheet sheet) b after sound i h = drop_ends_inside sheet b after i h

pub block_returned_inside : (f : Form) (b after : Block) → IsSoundForm f → IsBlockInside b → block_returned f b ≡ Some after → IsBlockInside after
block_returned_inside (Lines sheet axis edit) b after sound i h =
    by_span_inside sheet axis (span_before (limit_of axis) edit) (λ s t o l e. edit_before_span_inside (limit_of axis) edit s t sound o l e) b after i h
block_returned_inside (Cells source to) b after sound i h = back_block_inside source to b after sound.0 i h
block_returned_inside (Sheet sheet) b after sound i h = drop_ends_inside sheet b after i h

pub block_moved_covers : (f : Form) (b after : Block) (q : Place) → OrderIsKept f → IsBlockInside b → IsInside q → block_moved f b ≡ Some after
    → Covers after q ↔ (ComesFromForm f b q ⊎ LiesBetween f b q)
block_moved_covers (Lines sheet axis edit) b after q keeps i j h =
    by_span_covers sheet axis (line_after (limit_of axis) edit) (span_after (limit_of axis) edit) (IsPutBetween edit) (λ s t r o l k e. edit_covers (limit_of axis) edit s t r keeps o l k e) b after q i j h
block_moved_covers (Cells source to) b after q keeps i j h = absurd keeps
block_moved_covers (Sheet sheet) b after q keeps i j h = drop_covers sheet b after q h

pub block_moved_lost : (f : Form) (b : Block) → OrderIsKept f → IsBlockInside b → (block_moved f b ≡ None) ↔ ((p : Place) → Covers b p → place_moved f p ≡ None)
block_moved_lost (Lines sheet axis edit) b keeps i =
    by_span_loses sheet axis (line_after (limit_of axis) edit) (span_after (limit_of axis) edit)
    (λ s r o l w e. edit_loses (limit_of axis) edit s r keeps o l w e) (λ s o l first last. edit_lost (limit_of axis) edit s keeps o l first last) b i
block_moved_lost (Cells source to) b keeps i = absurd keeps
block_moved_lost (Sheet sheet) b keeps i = drop_loses sheet b i

pub move_lines_ends : MovedBlocksEndAtTheirLines
move_lines_ends s sheet axis start count before b sound i e =
    let sound_move = subst IsSoundForm e sound in
    ap (λ f. block_moved f b) e
    ∙ by_span_same sheet axis (span_after_move start count before) (λ span. Some (span_of_lines start count before span)) b (move_ends (limit_of axis) start count before (span_of axis b) sound_move (ends_inside axis b i).0)

pub one_cell_moves : (f : Form) (p : Place) → IsSoundForm f → IsInside p → block_moved f (one_cell p) ≡ option_map one_cell (place_moved f p)
one_cell_moves (Lines sheet axis edit) p sound i =
    by_span_one_cell sheet axis (line_after (limit_of axis) edit) (span_after (limit_of axis) edit) p (one_line_moves (limit_of axis) edit (line_of axis p) sound (line_inside axis p i))
one_cell_moves (Cells source to) p sound i = one_cell_carried source to p
one_cell_moves (Sheet sheet) p sound i = one_cell_dropped sheet p
