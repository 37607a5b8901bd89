-- A block that an operation neither bends nor cuts keeps the offsets of its places, and comes back. Serves these laws.
use Rattle.std.proofs.Common.{◌≡◌, ◌∙◌, ap, refl, sym, subst, ◌⊎◌, inl, inr, ℕ, ◌&&◌, Bool, true, false, cond, Option, Some, MatchOption, arith}
use Rattle.std.specs.Bool.{⊤}
use Rattle.std.proofs.lemmas.Bool.{and_parts}
use Rattle.std.proofs.lemmas.Bool.Decides.{nat_tests}
use Rattle.cell_addr.specs.declared.axis.Axis.{Axis}
use Rattle.cell_addr.specs.declared.place.Place.{Place}
use Rattle.cell_addr.specs.declared.place.Block.{Block}
use Rattle.cell_addr.specs.Axis.{limit_of, line_of, span_of}
use Rattle.cell_addr.specs.Place.{IsBlockInside, Covers, covers}
use Rattle.shift_core.specs.declared.edit.Edit.{Edit}
use Rattle.shift_core.specs.declared.form.Form.{Form}
use Rattle.shift_core.specs.declared.form.Form.TheVariants.{Lines, Cells, Sheet}
use Rattle.shift_core.specs.Bent.{BendsBlock, CutsBlock, HaveOtherSizes, MeetsDisplaced}
use Rattle.shift_core.specs.Carried.{contains, carried_place, carried_block, destination, first_place, last_place}
use Rattle.shift_core.specs.Laws.{NoCellsMove}
use Rattle.shift_core.specs.Lines.{line_after}
use Rattle.shift_core.specs.Spans.{span_after, span_before}
use Rattle.shift_core.specs.Sound.{IsSoundForm}
use Rattle.shift_core.specs.Tables.{place_moved, block_moved, block_returned}
use Rattle.shift_core.proofs.Axes.{covers_along, ends_inside, size_along, by_span_carries, by_span_returns}
use Rattle.shift_core.proofs.CellMoves.{cases_chosen, Covers-from_covers, covers-from_Covers, carried_covered}
use Rattle.shift_core.proofs.SpanLaws.{IsCarried, edit_carries, edit_comes_back}

-- what an operation that doesn't bend a block leaves of it has the same size, and no line in it is displaced
pub straight : (f : Form) (b after : Block) → ¬ BendsBlock f b → block_moved f b ≡ Some after → ¬ (HaveOtherSizes b after ⊎ MeetsDisplaced f b)
straight f b after still h bent =
    let P : Option Block → Type 0 = λ o. MatchOption o ⊤ (λ x. HaveOtherSizes b x ⊎ MeetsDisplaced f b) in still (subst P (sym h) bent)

-- so an edit carries its lines along
pub carried_along : (sheet : ℕ) (axis : Axis) (edit : Edit) (b after : Block) → IsBlockInside b → ¬ BendsBlock (Lines sheet axis edit) b → ¬ CutsBlock (Lines sheet axis edit) b
    → block_moved (Lines sheet axis edit) b ≡ Some after → b.sheet ≡ sheet → span_after (limit_of axis) edit (span_of axis b) ≡ Some (span_of axis after)
    → IsCarried (limit_of axis) edit (span_of axis b) (span_of axis after)
carried_along sheet axis edit b after i still whole h on e =
    let ends = ends_inside axis b i in
    let same = straight (Lines sheet axis edit) b after still h in
    record {
      moves = e;
      ordered = ends.0;
      inside = ends.1;
      size = size_along axis b after (λ other. same (inl other));
      still = λ displaced. same (inr (on, displaced));
      whole = λ cut. whole (on, cut);
    }

dropped_offset : (sheet : ℕ) (b after : Block) (p : Place) → block_moved (Sheet sheet) b ≡ Some after → Covers b p → place_moved (Sheet sheet) p ≡ Some (carried_place b (first_place after) p)
dropped_offset sheet b after p h c = grind (arith, nat_tests)

pub unbent_keeps : (f : Form) (b after : Block) (p : Place) → IsSoundForm f → NoCellsMove f → IsBlockInside b → ¬ BendsBlock f b → ¬ CutsBlock f b → block_moved f b ≡ Some after → Covers b p
    → place_moved f p ≡ Some (carried_place b (first_place after) p)
unbent_keeps (Lines sheet axis edit) b after p sound none i still whole h c =
    by_span_carries sheet axis (line_after (limit_of axis) edit) (span_after (limit_of axis) edit) b after p
    (λ on e. edit_carries (limit_of axis) edit (span_of axis b) (span_of axis after) (line_of axis p) sound (carried_along sheet axis edit b after i still whole h on e) (covers_along axis b p c).1) h c
unbent_keeps (Cells source to) b after p sound none i still whole h c = absurd none
unbent_keeps (Sheet sheet) b after p sound none i still whole h c = dropped_offset sheet b after p h c

-- a block that a move of cells carries along is carried back, and another stays
pub same_block : (b c : Block) → b.sheet ≡ c.sheet → b.top ≡ c.top → b.left ≡ c.left → b.bottom ≡ c.bottom → b.right ≡ c.right → b ≡ c
same_block b c sheets tops lefts bottoms rights = λ i. record { sheet = sheets i; top = tops i; left = lefts i; bottom = bottoms i; right = rights i }

both : (a b : Bool) → a ≡ true → b ≡ true → (a && b) ≡ true
both true true h k = refl
both true false h k = k
both false b h k = h

pub carried_contained : (source : Block) (to : Place) (b : Block) → contains source b ≡ true → contains (destination source to) (carried_block source to b) ≡ true
carried_contained source to b h =
    let w = and_parts (covers source (first_place b)) (covers source (last_place b)) h in
    both (covers (destination source to) (carried_place source to (first_place b))) (covers (destination source to) (carried_place source to (last_place b)))
    (covers-from_Covers (destination source to) (carried_place source to (first_place b)) (carried_covered source to (first_place b) (Covers-from_covers source (first_place b) w.0)))
    (covers-from_Covers (destination source to) (carried_place source to (last_place b)) (carried_covered source to (last_place b) (Covers-from_covers source (last_place b) w.1)))

pub carried_back : (source : Block) (to : Place) (b : Block) → contains source b ≡ true → carried_block (destination source to) (first_place source) (carried_block source to b) ≡ b
carried_back source to b h =
    let w = and_parts (covers source (first_place b)) (covers source (last_place b)) h in
    let first = Covers-from_covers source (first_place b) w.0 in
    let last = Covers-from_covers source (last_place b) w.1 in
    same_block _ b first.0 (omega arith) (omega arith) (omega arith) (omega arith)

chosen_first : (a : Bool) (x b : Block) → a ≡ true → cond a (Some x) (Some b) ≡ Some x
chosen_first a x b t = rw t refl

chosen_else : (a : Bool) (x b : Block) → a ≡ false → cond a (Some x) (Some b) ≡ Some b
chosen_else a x b f = rw f refl

pub cells_come_back : (source : Block) (to : Place) (b after : Block) → block_moved (Cells source to) b ≡ Some after → block_returned (Cells source to) after ≡ Some b
cells_come_back source to b after h =
    elim (cases_chosen (contains source b) (contains (destination source to) b) (carried_block source to b) b after h) [
      | inl w ↦
          ap (block_returned (Cells source to)) w.1
          ∙ chosen_first (contains (destination source to) (carried_block source to b)) _ _ (carried_contained source to b w.0)
          ∙ ap (λ x. Some x) (carried_back source to b w.0)
      | inr w ↦ ap (block_returned (Cells source to)) w.2 ∙ chosen_else (contains (destination source to) b) _ b w.1
    ]

sheets_come_back : (sheet : ℕ) (b after : Block) → block_moved (Sheet sheet) b ≡ Some after → block_returned (Sheet sheet) after ≡ Some b
sheets_come_back sheet b after h = grind (arith, nat_tests)

pub unbent_returns : (f : Form) (b after : Block) → IsSoundForm f → IsBlockInside b → ¬ BendsBlock f b → ¬ CutsBlock f b → block_moved f b ≡ Some after → block_returned f after ≡ Some b
unbent_returns (Lines sheet axis edit) b after sound i still whole h =
    by_span_returns sheet axis (span_after (limit_of axis) edit) (span_before (limit_of axis) edit) b after
    (λ on e. edit_comes_back (limit_of axis) edit (span_of axis b) (span_of axis after) sound (carried_along sheet axis edit b after i still whole h on e)) h
unbent_returns (Cells source to) b after sound i still whole h = cells_come_back source to b after h
unbent_returns (Sheet sheet) b after sound i still whole h = sheets_come_back sheet b after h
