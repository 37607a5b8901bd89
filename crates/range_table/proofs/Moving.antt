-- Kept summaries taken along with structural operations. Serves `shift` and its law.
use Rattle.std.proofs.Common.{◌≡◌, ◌∙◌, sym, ap, refl, subst, arith, ℕ, ◌+◌, ◌-◌, ◌<◌, ◌⊎◌, inl, inr, Bool, true, false, ◌&&◌, Option, Some, None, MatchOption, IsSome, is_some}
use Rattle.std.specs.Bool.{⊤}
use Rattle.std.specs.FinMap.{empty, get, get-empty}
use Rattle.std.specs.Option.{IfSome}
use Rattle.std.proofs.lemmas.Bool.{and_parts, cases_eq}
use Rattle.std.proofs.lemmas.Option.{same_Some}
use Rattle.cell_addr.specs.Place.{CoverOne, Covers, CoversAllOf, IsBlockInside, covers, height, width}
use Rattle.cell_addr.specs.declared.place.Block.{Block}
use Rattle.cell_addr.specs.declared.place.Place.{Place}
use Rattle.cell_value.specs.declared.scalar.Scalar.{Scalar}
use Rattle.cell_value.specs.declared.summary.Summary.{Summary}
use Rattle.shift_core.specs.Bent.{BendsBlock, CutsBlock, HaveOtherSizes, MeetsDisplaced}
use Rattle.shift_core.specs.Carried.{carried_block, carried_place, contains, destination, first_place, last_place}
use Rattle.shift_core.specs.Form.{form_of}
use Rattle.shift_core.specs.Sound.{IsSound, IsSoundForm}
use Rattle.shift_core.specs.Tables.{block_after, block_moved, place_moved}
use Rattle.shift_core.specs.declared.form.Form.{Form}
use Rattle.shift_core.specs.declared.form.Form.TheVariants.{Cells, Lines, Sheet}
use Rattle.shift_core.specs.declared.shift.Shift.{Shift}
use Rattle.shift_core.proofs.BlockLaws.{block_moved_inside}
use Rattle.shift_core.proofs.CellMoves.{Covers-from_covers, Covers_inside, cases_chosen, chosen_first, chosen_second, covers-from_Covers, same_place}
use Rattle.shift_core.proofs.UnbentBlocks.{unbent_keeps, unbent_returns}
use Rattle.range_table.specs.Blocks.{BlockMap, block_cmp}
use Rattle.range_table.specs.Cells.{fold}
use Rattle.range_table.specs.Laws.{KeptBlocksTakeTheirCells}
use Rattle.range_table.specs.Shifted.{AreMoved, KeepsBlock, TakesValues, TearsBlock}
use Rattle.range_table.specs.Table.{AreFolds}
use Rattle.range_table.proofs.Staying.{folds_apart}

-- ---- a block that keeps its summary takes its cells along

pub covered_in : (source b : Block) (p : Place) → contains source b ≡ true → Covers b p → Covers source p
covered_in source b p h c =
    let w = and_parts (covers source (first_place b)) (covers source (last_place b)) h in
    let first = Covers-from_covers source (first_place b) w.0 in
    let last = Covers-from_covers source (last_place b) w.1 in
    (first.0 ∙ c.0, omega arith, omega arith, omega arith, omega arith)

both : (s t : Bool) → s ≡ true → t ≡ true → (s && t) ≡ true
both true t h k = k
both false t h k = h

pub contains-all : (source b : Block) → IsBlockInside b → CoversAllOf source b → contains source b ≡ true
contains-all source b i all =
    both (covers source (first_place b)) (covers source (last_place b))
    (covers-from_Covers source (first_place b) (all (first_place b) (refl, omega arith, omega arith, omega arith, omega arith)))
    (covers-from_Covers source (last_place b) (all (last_place b) (refl, omega arith, omega arith, omega arith, omega arith)))

uncovered-by : (t : Bool) (b : Block) (p : Place) → covers b p ≡ t → ¬ Covers b p → covers b p ≡ false
uncovered-by true b p e apart = absurd (apart (Covers-from_covers b p e))
uncovered-by false b p e apart = e

uncovered : (b : Block) (p : Place) → ¬ Covers b p → covers b p ≡ false
uncovered b p apart = uncovered-by (covers b p) b p refl apart

-- a block that isn't torn and isn't in the source meets neither the source nor the destination
apart_from : (source : Block) (to : Place) (b : Block) → IsBlockInside b → ¬ TearsBlock (Cells source to) b → contains source b ≡ false → ¬ (CoverOne b source ⊎ CoverOne b (destination source to))
apart_from source to b i whole out meets = whole ((λ all. let in_it = contains-all source b i all in cc), meets)

carried_offset : (source : Block) (to : Place) (b : Block) (p : Place) → Covers source (first_place b) → Covers b p → carried_place source to p ≡ carried_place b (first_place (carried_block source to b)) p
carried_offset source to b p first c = same_place _ _ refl (omega arith) (omega arith)

own_offset : (b : Block) (p : Place) → Covers b p → p ≡ carried_place b (first_place b) p
own_offset b p c = same_place _ _ (sym c.0) (omega arith) (omega arith)

cells_take : (source : Block) (to : Place) (b after : Block) (p : Place) → IsBlockInside b → ¬ TearsBlock (Cells source to) b → block_moved (Cells source to) b ≡ Some after → Covers b p
    → place_moved (Cells source to) p ≡ Some (carried_place b (first_place after) p)
cells_take source to b after p i whole h c =
    elim (cases_chosen (contains source b) (contains (destination source to) b) (carried_block source to b) b after h) [
      | inl w ↦
          chosen_first (covers source p) (covers (destination source to) p) (carried_place source to p) p (covers-from_Covers source p (covered_in source b p w.0 c))
          ∙ ap (λ x. Some x) (carried_offset source to b p (Covers-from_covers source (first_place b) (and_parts (covers source (first_place b)) (covers source (last_place b)) w.0).0) c)
          ∙ ap (λ x. Some (carried_place b (first_place x) p)) (sym w.1)
      | inr w ↦
          let apart = apart_from source to b i whole w.0 in
          chosen_second (covers source p) (covers (destination source to) p) (carried_place source to p) p
          (uncovered source p (λ x. apart (inl (p, (c, x)))))
          (uncovered (destination source to) p (λ x. apart (inr (p, (c, x)))))
          ∙ ap (λ x. Some x) (own_offset b p c)
          ∙ ap (λ x. Some (carried_place b (first_place x) p)) (sym w.2)
    ]

takes-by : (f : Form) (b after : Block) (p : Place) → IsSoundForm f → IsBlockInside b → ¬ BendsBlock f b → ¬ CutsBlock f b → ¬ TearsBlock f b → block_moved f b ≡ Some after → Covers b p
    → place_moved f p ≡ Some (carried_place b (first_place after) p)
takes-by (Lines sheet axis edit) b after p sound i still whole one h c = unbent_keeps (Lines sheet axis edit) b after p sound tt i still whole h c
takes-by (Cells source to) b after p sound i still whole one h c = cells_take source to b after p i one h c
takes-by (Sheet sheet) b after p sound i still whole one h c = unbent_keeps (Sheet sheet) b after p sound tt i still whole h c

pub takes_cells : KeptBlocksTakeTheirCells
takes_cells s b after p sound i (kept, h) c =
    takes-by (form_of s) b after p sound i (λ bent. kept (inl bent)) (λ cut. kept (inr (inl cut))) (λ torn. kept (inr (inr torn))) h c

-- a block of the sheet that isn't lost is on the sheet after the operation
inside-by : (s : Shift) (b : Block) (r : Option Block) → block_after s b ≡ r → IsSound s → IsBlockInside b → IfSome r IsBlockInside
inside-by s b None e sound i = tt
inside-by s b (Some after) e sound i = block_moved_inside (form_of s) b after sound i e

pub inside_after : (s : Shift) (b : Block) (r : Option Block) → r ≡ block_after s b → IsSound s → IsBlockInside b → IfSome r IsBlockInside
inside_after s b r e sound i = inside-by s b r (sym e) sound i

-- ---- the summary of a block that keeps it is right after the operation

unbent_sizes : (f : Form) (b after : Block) → ¬ BendsBlock f b → block_moved f b ≡ Some after → ¬ HaveOtherSizes b after
unbent_sizes f b after still h other =
    let P : Option Block → Type 0 = λ o. MatchOption o ⊤ (λ x. HaveOtherSizes b x ⊎ MeetsDisplaced f b) in still (subst P (sym h) (inl other))

same_heights : (b after : Block) → IsBlockInside b → IsBlockInside after → ¬ HaveOtherSizes b after → height b ≡ height after
same_heights b after i j same = elim (cases_eq (b.bottom - b.top) (after.bottom - after.top)) [ inl e ↦ omega arith | inr n ↦ absurd (same (inl n)) ]

same_widths : (b after : Block) → IsBlockInside b → IsBlockInside after → ¬ HaveOtherSizes b after → width b ≡ width after
same_widths b after i j same = elim (cases_eq (b.right - b.left) (after.right - after.left)) [ inl e ↦ omega arith | inr n ↦ absurd (same (inr n)) ]

-- the values of a block's cells are those that the cells of the block after it have
value_along : (s : Shift) (before now : Place → Scalar) (b after : Block) (i j : ℕ) → IsSound s → IsBlockInside b → KeepsBlock s b after → TakesValues s before now → i < height b → j < width b
    → before (record { sheet = b.sheet; row = b.top + i; col = b.left + j }) ≡ now (record { sheet = after.sheet; row = after.top + i; col = after.left + j })
value_along s before now b after i j sound inside keeps takes low wide =
    let p : Place = record { sheet = b.sheet; row = b.top + i; col = b.left + j } in
    let q : Place = record { sheet = after.sheet; row = after.top + i; col = after.left + j } in
    let c : Covers b p = (refl, omega arith, omega arith, omega arith, omega arith) in
    let here : q ≡ carried_place b (first_place after) p = same_place _ _ refl (omega arith) (omega arith) in
    sym (ap now here ∙ takes p (carried_place b (first_place after) p) (Covers_inside b p inside c) (takes_cells s b after p sound inside keeps c))

fold_along : (s : Shift) (before now : Place → Scalar) (b after : Block) → IsSound s → IsBlockInside b → KeepsBlock s b after → TakesValues s before now → fold before b ≡ fold now after
fold_along s before now b after sound inside keeps takes =
    let moves = keeps.1 in
    let there = block_moved_inside (form_of s) b after sound inside moves in
    let same = unbent_sizes (form_of s) b after (λ bent. keeps.0 (inl bent)) moves in
    folds_apart before now b after (same_heights b after inside there same) (same_widths b after inside there same)
    (λ i j low wide. value_along s before now b after i j sound inside keeps takes low wide)

-- summaries that are right stay so over an operation that takes each value along
pub shifted_right : (s : Shift) (before now : Place → Scalar) (old new : BlockMap Summary) → IsSound s → ((b : Block) → IsSome (get old b) → IsBlockInside b) → AreMoved s old new → TakesValues s before now
    → AreFolds before old → AreFolds now new
shifted_right s before now old new sound inside moved takes right after x is =
    let (b, (keeps, had)) = (moved after x).0 is in
    right b x had ∙ fold_along s before now b after sound (inside b (ap is_some had)) keeps takes

-- no two blocks that keep their summaries move to one
pub one_origin : (s : Shift) (b other after : Block) → IsSound s → IsBlockInside b → IsBlockInside other → KeepsBlock s b after → KeepsBlock s other after → b ≡ other
one_origin s b other after sound i j (kept, h) (kept_too, k) =
    same_Some b other
    (sym (unbent_returns (form_of s) b after sound i (λ bent. kept (inl bent)) (λ cut. kept (inr (inl cut))) h)
    ∙ unbent_returns (form_of s) other after sound j (λ bent. kept_too (inl bent)) (λ cut. kept_too (inr (inl cut))) k)

-- where nothing is kept, nothing is taken along
pub nothing_moved : (s : Shift) → AreMoved s empty empty
nothing_moved s after x = (
  λ is. let gone = sym (get-empty block_cmp after) ∙ is in absurd (cc),
  λ (b, (keeps, had)). let gone = sym (get-empty block_cmp b) ∙ had in absurd (cc),
)
