-- Blocks that operations find, and cells that find blocks. Serves the files.
use Rattle.std.proofs.Common.{◌≡◌, ◌∙◌, sym, ap, refl, subst, ℕ, ◌⊎◌, inl, inr, ⊎_elim, Bool, true, false, cond, ◌-◌, arith, List, ◌++◌, Some, None, MatchOption, Result, Ok, Err}
use Rattle.std.specs.Prelude.{IfOk, OnErr}
use Rattle.std.specs.Bool.{⊤}
use Rattle.std.specs.declared.ops.Range.{Range}
use Rattle.cell_addr.specs.Axis.{span_of}
use Rattle.cell_addr.specs.Place.{CoverOne, Covers, IsBlockInside}
use Rattle.cell_addr.specs.declared.axis.Axis.TheVariants.{Cols, Rows}
use Rattle.cell_addr.specs.declared.place.Block.{Block}
use Rattle.cell_addr.specs.declared.place.Place.{Place}
use Rattle.block_index.specs.Index.{finds}
use Rattle.block_index.specs.declared.index.BlockIndex.{BlockIndex}
use Rattle.needs_order.specs.Needs.{has}
use Rattle.needs_order.proofs.Lists.{has-append_left, has-append_right}
use Rattle.place_lines.specs.Spots.{AreNumbersOf, in_runs, number_of, table_along}
use Rattle.place_lines.specs.declared.lines.PlaceLines.{PlaceLines}
use Rattle.shift_core.specs.Bent.{BendsBlock, HaveOtherSizes, MeetsDisplaced}
use Rattle.shift_core.specs.Carried.{carried_block, contains, destination, first_place}
use Rattle.shift_core.specs.Form.{form_of}
use Rattle.shift_core.specs.declared.form.Form.{Form}
use Rattle.shift_core.specs.declared.form.Form.TheVariants.{Cells, Lines, Sheet}
use Rattle.shift_core.specs.declared.shift.Shift.{Shift}
use Rattle.shift_core.proofs.CellMoves.{Covers-from_covers}
use Rattle.touch_index.specs.Kept.{FindsBlocks, FindsMeeting}
use Rattle.touch_index.specs.Touched.{TouchesBlock}
use Rattle.range_table.specs.Shifted.{TearsBlock}
use Rattle.range_table.specs.declared.files.Files.{Files}
use Rattle.range_table.specs.internal.Filed.{FindsCells}
use Rattle.range_table.specs.internal.Files.{FindsBoth, FindsGivenUp}
use Rattle.range_table.proofs.Moving.{covered_in}

pub finds_both : (files : Files) (lines : PlaceLines) (first second : Block) (xs ys all : List ℕ) → FindsMeeting files.touches lines first xs → FindsMeeting files.touches lines second ys → all ≡ xs ++ ys
    → FindsBoth files lines first second all
finds_both files lines first second xs ys all f g is b n inside kept meets = ap (has n) is ∙ ⊎_elim
    (λ (one : CoverOne b first). has-append_left n xs ys (f b n inside kept one))
    (λ (two : CoverOne b second). has-append_right n xs ys (g b n inside kept two))
    meets

-- a block that moved cells bend, tear or take along has a cell in common with them or with where they go
corner : (b : Block) → IsBlockInside b → Covers b (first_place b)
corner b (rows, bottom, cols, right) = (refl, omega arith, rows, omega arith, cols)

inside_meets : (source b : Block) → IsBlockInside b → contains source b ≡ true → CoverOne b source
inside_meets source b inside h = let c = corner b inside in (first_place b, (c, covered_in source b (first_place b) h c))

bends-by : (source : Block) (to : Place) (b : Block) → IsBlockInside b → (s d : Bool) → contains source b ≡ s → contains (destination source to) b ≡ d
    → MatchOption (cond s (Some (carried_block source to b)) (cond d None (Some b))) ⊤ (λ after. HaveOtherSizes b after ⊎ MeetsDisplaced (Cells source to) b) → CoverOne b source ⊎ CoverOne b (destination source to)
bends-by source to b inside true d e f bent = inl (inside_meets source b inside e)
bends-by source to b inside false true e f bent = inr (inside_meets (destination source to) b inside f)
bends-by source to b inside false false e f bent = ⊎_elim
    (λ (other : HaveOtherSizes b b). ⊎_elim (λ (rows : ¬ (b.bottom - b.top ≡ b.bottom - b.top)). absurd (rows refl)) (λ (cols : ¬ (b.right - b.left ≡ b.right - b.left)). absurd (cols refl)) other)
    (λ (displaced : MeetsDisplaced (Cells source to) b). absurd displaced)
    bent

touched_meets : (source : Block) (to : Place) (b : Block) → IsBlockInside b → TouchesBlock (Cells source to) b ⊎ TearsBlock (Cells source to) b → CoverOne b source ⊎ CoverOne b (destination source to)
touched_meets source to b inside h = ⊎_elim
    (λ (touched : TouchesBlock (Cells source to) b). ⊎_elim
    (λ (bent : BendsBlock (Cells source to) b). bends-by source to b inside (contains source b) (contains (destination source to) b) refl refl bent)
    (λ rest. ⊎_elim (λ (cut : ⊥). absurd cut) (λ (taken : contains source b ≡ true). inl (inside_meets source b inside taken)) rest)
    touched)
    (λ (torn : TearsBlock (Cells source to) b). torn.1)
    h

pub finds_cells : (s : Shift) (lines : PlaceLines) (files : Files) (source : Block) (to : Place) (numbers : List ℕ) → form_of s ≡ Cells source to → FindsBoth files lines source (destination source to) numbers → FindsGivenUp s lines files numbers
finds_cells s lines files source to numbers form f b n inside kept touched =
    f b n inside kept (touched_meets source to b inside (subst (λ (g : Form). TouchesBlock g b ⊎ TearsBlock g b) form touched))

pub finds_lines : (s : Shift) (lines : PlaceLines) (files : Files) (numbers : List ℕ) → ((source : Block) (to : Place) → form_of s ≡ Cells source to → ⊥) → FindsBlocks files.touches lines (form_of s) numbers → FindsGivenUp s lines files numbers
finds_lines s lines files numbers other f b n inside kept touched = by (form_of s) refl touched
  where
    by : (g : Form) → form_of s ≡ g → TouchesBlock g b ⊎ TearsBlock g b → has n numbers ≡ true
    by (Lines sheet axis edit) e h = ⊎_elim (λ (t : TouchesBlock (Lines sheet axis edit) b). f b n inside kept (subst (λ (g : Form). TouchesBlock g b) (sym e) t)) (λ (torn : ⊥). absurd torn) h
    by (Cells source to) e h = absurd (other source to e)
    by (Sheet sheet) e h = ⊎_elim (λ (t : TouchesBlock (Sheet sheet) b). f b n inside kept (subst (λ (g : Form). TouchesBlock g b) (sym e) t)) (λ (torn : ⊥). absurd torn) h

-- a block whose rows by columns find a number
pub finds_its_cells : (lines : PlaceLines) (b : Block) (x : BlockIndex) (n : ℕ) (rows cols : List (Range ℕ)) → AreNumbersOf (table_along Rows lines b.sheet) (span_of Rows b) rows → AreNumbersOf (table_along Cols lines b.sheet) (span_of Cols b) cols
    → ((row col : ℕ) → in_runs rows row ≡ true → in_runs cols col ≡ true → finds x b.sheet row col n ≡ true) → FindsCells x lines b n
finds_its_cells lines b x n rows cols are_rows are_cols found p covered =
    let c = Covers-from_covers b p covered in
    subst (λ sheet. finds x sheet (number_of (table_along Rows lines sheet) p.row) (number_of (table_along Cols lines sheet) p.col) n ≡ true) c.0
    (found (number_of (table_along Rows lines b.sheet) p.row) (number_of (table_along Cols lines b.sheet) p.col)
    ((are_rows (number_of (table_along Rows lines b.sheet) p.row)).1 (p.row, c.1, c.2, refl))
    ((are_cols (number_of (table_along Cols lines b.sheet) p.col)).1 (p.col, c.3, c.4, refl)))

pub if_ok : {A B : Type 0} (r : Result A B) (P Q : A → Type 0) → ((x : A) → P x → Q x) → IfOk r P → IfOk r Q
if_ok (Ok x) P Q f h = f x h
if_ok (Err e) P Q f h = tt

pub on_err : {A B : Type 0} (r : Result A B) (P : Type 0) → P → OnErr r P
on_err (Ok x) P p = tt
on_err (Err e) P p = p
