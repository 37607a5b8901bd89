-- Lines go back to where they were, and stay on the sheet. Serves the laws on places.
use Rattle.std.proofs.Common.{◌≡◌, ◌∙◌, sym, ap, refl, ℕ, ◌+◌, ◌-◌, ◌<◌, Bool, true, false, cond, ltb, Some, arith}
use Rattle.std.proofs.lemmas.Bool.Decides.{nat_tests}
use Rattle.std.proofs.lemmas.Option.{same_Some}
use Rattle.shift_core.specs.declared.edit.Edit.{Edit}
use Rattle.shift_core.specs.declared.edit.Edit.TheVariants.{Insert, Delete, Move}
use Rattle.shift_core.specs.Lines.{IsSoundEdit, IsSoundMove, line_after, line_before, line_after_insert, line_after_delete, line_after_move, line_after_move_down, line_after_move_up}

-- backward over a move, by the opposite move
abbrev pub line_before_move : ℕ → ℕ → ℕ → ℕ → ℕ
line_before_move start count before line =
    cond (ltb (start + count) before) (line_after_move (before - count) count start line) (line_after_move before count (start + count) line)

before-by : (down : Bool) (limit start count before line : ℕ)
    → line_after limit (cond down (Move (before - count) count start) (Move before count (start + count))) line
    ≡ Some (cond down (line_after_move (before - count) count start line) (line_after_move before count (start + count) line))
before-by true limit start count before line = refl
before-by false limit start count before line = refl

pub line_before-Move : (limit start count before line : ℕ) → line_before limit (Move start count before) line ≡ Some (line_before_move start count before line)
line_before-Move limit start count before line = before-by (ltb (start + count) before) limit start count before line

pub insert_returns : (limit start count r q : ℕ) → line_after_insert limit start count r ≡ Some q → line_after_delete start count q ≡ Some r
insert_returns limit start count r q h = grind (arith, nat_tests)

pub insert_goes : (limit start count r q : ℕ) → q < limit → line_after_delete start count q ≡ Some r → line_after_insert limit start count r ≡ Some q
insert_goes limit start count r q i h = grind (arith, nat_tests)

pub insert_inside : (limit start count r q : ℕ) → r < limit → line_after_insert limit start count r ≡ Some q → q < limit
insert_inside limit start count r q i h = grind (arith, nat_tests)

pub delete_inside : (limit start count r q : ℕ) → r < limit → line_after_delete start count r ≡ Some q → q < limit
delete_inside limit start count r q i h = grind (arith, nat_tests)

pub delete_returns : (limit start count r q : ℕ) → r < limit → line_after_delete start count r ≡ Some q → line_after_insert limit start count q ≡ Some r
delete_returns limit start count r q i h = grind (arith, nat_tests)

pub delete_goes : (limit start count r q : ℕ) → line_after_insert limit start count q ≡ Some r → line_after_delete start count r ≡ Some q
delete_goes limit start count r q h = grind (arith, nat_tests)

pub move_returns : (limit start count before r : ℕ) → IsSoundMove limit start count before → line_before_move start count before (line_after_move start count before r) ≡ r
move_returns limit start count before r s = grind (arith, nat_tests)

move_down_goes : (start count before q : ℕ) → start + count < before → line_after_move_down start count before (line_after_move_up (before - count) count start q) ≡ q
move_down_goes start count before q d = grind (arith, nat_tests)

move_up_goes : (start count before q : ℕ) → before < start → line_after_move_up start count before (line_after_move_down before count (start + count) q) ≡ q
move_up_goes start count before q u = grind (arith, nat_tests)

pub move_goes : (limit start count before q : ℕ) → IsSoundMove limit start count before → line_after_move start count before (line_before_move start count before q) ≡ q
move_goes limit start count before q s = grind (arith, nat_tests, move_down_goes, move_up_goes)

pub move_inside : (limit start count before r : ℕ) → IsSoundMove limit start count before → r < limit → line_after_move start count before r < limit
move_inside limit start count before r s i = grind (arith, nat_tests)

pub unmove_inside : (limit start count before q : ℕ) → IsSoundMove limit start count before → q < limit → line_before_move start count before q < limit
unmove_inside limit start count before q s i = grind (arith, nat_tests)

-- what a sound edit does to a line that it doesn't lose, its opposite undoes
pub edit_returns : (limit : ℕ) (e : Edit) (r q : ℕ) → IsSoundEdit limit e → r < limit → line_after limit e r ≡ Some q → line_before limit e q ≡ Some r
edit_returns limit (Insert start count) r q sound i h = insert_returns limit start count r q h
edit_returns limit (Delete start count) r q sound i h = delete_returns limit start count r q i h
edit_returns limit (Move start count before) r q sound i h =
    line_before-Move limit start count before q
    ∙ ap (λ x. Some (line_before_move start count before x)) (sym (same_Some _ _ h)) ∙ ap (λ x. Some x) (move_returns limit start count before r sound)

pub edit_goes : (limit : ℕ) (e : Edit) (q r : ℕ) → IsSoundEdit limit e → q < limit → line_before limit e q ≡ Some r → line_after limit e r ≡ Some q
edit_goes limit (Insert start count) q r sound i h = insert_goes limit start count r q i h
edit_goes limit (Delete start count) q r sound i h = delete_goes limit start count r q h
edit_goes limit (Move start count before) q r sound i h =
    let came = same_Some _ _ (sym (line_before-Move limit start count before q) ∙ h) in
    ap (λ x. Some (line_after_move start count before x)) (sym came) ∙ ap (λ x. Some x) (move_goes limit start count before q sound)

below : (limit m n : ℕ) → m ≡ n → m < limit → n < limit
below limit m n e h = omega arith

pub edit_inside : (limit : ℕ) (e : Edit) (r q : ℕ) → IsSoundEdit limit e → r < limit → line_after limit e r ≡ Some q → q < limit
edit_inside limit (Insert start count) r q sound i h = insert_inside limit start count r q i h
edit_inside limit (Delete start count) r q sound i h = delete_inside limit start count r q i h
edit_inside limit (Move start count before) r q sound i h = below limit _ q (same_Some _ _ h) (move_inside limit start count before r sound i)

pub edit_before_inside : (limit : ℕ) (e : Edit) (q r : ℕ) → IsSoundEdit limit e → q < limit → line_before limit e q ≡ Some r → r < limit
edit_before_inside limit (Insert start count) q r sound i h = delete_inside limit start count q r i h
edit_before_inside limit (Delete start count) q r sound i h = insert_inside limit start count q r i h
edit_before_inside limit (Move start count before) q r sound i h =
    below limit _ r (same_Some _ _ (sym (line_before-Move limit start count before q) ∙ h)) (unmove_inside limit start count before q sound i)
