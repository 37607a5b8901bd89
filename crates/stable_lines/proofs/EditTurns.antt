-- The turn of an edit brings each line where the edit does. Serves edits of lines.
use Rattle.std.proofs.Common.{◌≡◌, ◌∙◌, sym, ap, refl, ℕ, ◌+◌, ◌<◌, ◌≤◌, Bool, true, false, cond, ltb, Option, Some, None, is_some, subst, le_refl, arith}
use Rattle.std.proofs.lemmas.Bool.Decides.{nat_tests}
use Rattle.std.proofs.lemmas.Option.{same_Some}
use Rattle.shift_core.specs.Lines.{IsSoundMove, line_after, line_before, line_after_insert, line_after_delete, line_after_move}
use Rattle.shift_core.specs.declared.edit.Edit.{Edit}
use Rattle.shift_core.specs.declared.edit.Edit.TheVariants.{Insert, Delete, Move}
use Rattle.shift_core.proofs.LinesReturn.{line_before_move, line_before-Move, move_inside, unmove_inside}
use Rattle.stable_lines.specs.Lines.{AreRenewed, ComesTo}
use Rattle.stable_lines.specs.Runs.{image}
use Rattle.stable_lines.specs.declared.table.LineTable.{LineTable}
use Rattle.stable_lines.specs.declared.turn.Turn.{Turn}
use Rattle.stable_lines.specs.internal.Turned.{IsTurned}
use Rattle.stable_lines.specs.internal.Turns.{IsTurn, MovesSoundly, swaps, turned_back, turn_of_insert, turn_of_delete, turn_of_move, turn_of_edit, turn_back}
use Rattle.stable_lines.proofs.Inverses.{back_again, back_is_turn}
use Rattle.stable_lines.proofs.Turning.{swaps_some}

-- where the rule says which position's line comes, the turn back leads to it; where it says none, to a fresh line
pub record Agrees (limit : ℕ) (t : Turn) (rule : Option ℕ) (q : ℕ) : Type 0 where
  pub kept : (p : ℕ) → rule ≡ Some p → (image (swaps (turned_back t)) q ≡ Some p) × (p < limit)
  pub fresh : (p : ℕ) → rule ≡ None → image (swaps (turned_back t)) q ≡ Some p → limit ≤ p

insert_kept : (limit at count q p : ℕ) → q < limit → line_after_delete at count q ≡ Some p → image (swaps (turned_back (turn_of_insert limit at count))) q ≡ Some p
insert_kept limit at count q p lt h = grind (arith, nat_tests)

insert_short : (limit at count q p : ℕ) → q < limit → line_after_delete at count q ≡ Some p → p < limit
insert_short limit at count q p lt h = grind (arith, nat_tests)

insert_fresh : (limit at count q p : ℕ) → q < limit → line_after_delete at count q ≡ None → image (swaps (turned_back (turn_of_insert limit at count))) q ≡ Some p → limit ≤ p
insert_fresh limit at count q p lt h k = grind (arith, nat_tests)

delete_kept : (limit at count q p : ℕ) → q < limit → line_after_insert limit at count q ≡ Some p → image (swaps (turned_back (turn_of_delete limit at count))) q ≡ Some p
delete_kept limit at count q p lt h = grind (arith, nat_tests)

delete_short : (limit at count q p : ℕ) → q < limit → line_after_insert limit at count q ≡ Some p → p < limit
delete_short limit at count q p lt h = grind (arith, nat_tests)

delete_fresh : (limit at count q p : ℕ) → q < limit → line_after_insert limit at count q ≡ None → image (swaps (turned_back (turn_of_delete limit at count))) q ≡ Some p → limit ≤ p
delete_fresh limit at count q p lt h k = grind (arith, nat_tests)

move_back : (limit start count before q : ℕ) → IsSoundMove limit start count before → q < limit → image (swaps (turned_back (turn_of_move limit start count before))) q ≡ Some (line_before_move start count before q)
move_back limit start count before q sound lt = grind (arith, nat_tests)

move_forth : (limit start count before q : ℕ) → IsSoundMove limit start count before → q < limit → image (swaps (turn_of_move limit start count before)) q ≡ Some (line_after_move start count before q)
move_forth limit start count before q sound lt = grind (arith, nat_tests)

pub insert_agrees : (limit at count q : ℕ) → q < limit → Agrees limit (turn_of_insert limit at count) (line_after_delete at count q) q
insert_agrees limit at count q lt = record {
  kept = λ p h. (insert_kept limit at count q p lt h, insert_short limit at count q p lt h);
  fresh = λ p h k. insert_fresh limit at count q p lt h k;
}

pub delete_agrees : (limit at count q : ℕ) → q < limit → Agrees limit (turn_of_delete limit at count) (line_after_insert limit at count q) q
delete_agrees limit at count q lt = record {
  kept = λ p h. (delete_kept limit at count q p lt h, delete_short limit at count q p lt h);
  fresh = λ p h k. delete_fresh limit at count q p lt h k;
}

-- a rule that always says which line comes
agrees_always : (limit : ℕ) (t : Turn) (rule : Option ℕ) (q came : ℕ) → rule ≡ Some came → image (swaps (turned_back t)) q ≡ Some came → came < limit → Agrees limit t rule q
agrees_always limit t rule q came e there short = record {
  kept = λ p h. let same : came ≡ p = same_Some came p (sym e ∙ h) in (there ∙ ap (λ x. Some x) same, subst (λ x. x < limit) same short);
  fresh = λ p h k. cc;
}

pub edit_agrees : (limit : ℕ) (edit : Edit) (q : ℕ) → MovesSoundly limit edit → q < limit → Agrees limit (turn_of_edit limit edit) (line_before limit edit q) q
edit_agrees limit (Insert at count) q sound lt = insert_agrees limit at count q lt
edit_agrees limit (Delete at count) q sound lt = delete_agrees limit at count q lt
edit_agrees limit (Move start count before) q sound lt =
    agrees_always limit (turn_of_move limit start count before) (line_before limit (Move start count before) q) q (line_before_move start count before q) (line_before-Move limit start count before q)
    (move_back limit start count before q sound lt) (unmove_inside limit start count before q sound lt)

move_is_turn : (limit start count before : ℕ) → IsSoundMove limit start count before → limit < 4294967296 → IsTurn (turn_of_move limit start count before)
move_is_turn limit start count before sound narrow = grind (arith, nat_tests)

insert_is_turn : (limit at count : ℕ) → limit < 4294967296 → IsTurn (turn_of_insert limit at count)
insert_is_turn limit at count narrow = (omega arith, omega arith, omega arith, omega arith)

delete_is_turn : (limit at count : ℕ) → limit < 4294967296 → IsTurn (turn_of_delete limit at count)
delete_is_turn limit at count narrow = (omega arith, omega arith, omega arith, omega arith)

pub back_agrees : (limit : ℕ) (edit : Edit) (q : ℕ) → MovesSoundly limit edit → limit < 4294967296 → q < limit → Agrees limit (turn_back limit edit) (line_after limit edit q) q
back_agrees limit (Insert at count) q sound narrow lt = delete_agrees limit at count q lt
back_agrees limit (Delete at count) q sound narrow lt = insert_agrees limit at count q lt
back_agrees limit (Move start count before) q sound narrow lt =
    agrees_always limit (turned_back (turn_of_move limit start count before)) (line_after limit (Move start count before) q) q (line_after_move start count before q) refl
    (ap (λ t. image (swaps t) q) (back_again (turn_of_move limit start count before) (move_is_turn limit start count before sound narrow)) ∙ move_forth limit start count before q sound lt)
    (move_inside limit start count before q sound lt)

move_end : (down : Bool) (limit start count before : ℕ)
    → limit ≤ (cond {A = Turn} down (record { first = start; middle = start + count; last = before; end = limit }) (record { first = before; middle = start; last = start + count; end = limit })).end
move_end true limit start count before = le_refl limit
move_end false limit start count before = le_refl limit

pub edit_is_turn : (limit : ℕ) (edit : Edit) → MovesSoundly limit edit → limit < 4294967296 → IsTurn (turn_of_edit limit edit) × (limit ≤ (turn_of_edit limit edit).end)
edit_is_turn limit (Insert at count) sound narrow = (insert_is_turn limit at count narrow, omega arith)
edit_is_turn limit (Delete at count) sound narrow = (delete_is_turn limit at count narrow, omega arith)
edit_is_turn limit (Move start count before) sound narrow = (move_is_turn limit start count before sound narrow, move_end (ltb (start + count) before) limit start count before)

pub back_is_edit_turn : (limit : ℕ) (edit : Edit) → MovesSoundly limit edit → limit < 4294967296 → IsTurn (turn_back limit edit) × (limit ≤ (turn_back limit edit).end)
back_is_edit_turn limit (Insert at count) sound narrow = (delete_is_turn limit at count narrow, omega arith)
back_is_edit_turn limit (Delete at count) sound narrow = (insert_is_turn limit at count narrow, omega arith)
back_is_edit_turn limit (Move start count before) sound narrow =
    (back_is_turn (turn_of_move limit start count before) (move_is_turn limit start count before sound narrow), move_end (ltb (start + count) before) limit start count before)

comes : (old new : LineTable) (t : Turn) (q : ℕ) (rule : Option ℕ) (r : Option ℕ) → IsTurned t old new → q < old.limit → Agrees old.limit t rule q → image (swaps (turned_back t)) q ≡ r → is_some r ≡ true
    → (s : Option ℕ) → rule ≡ s → ComesTo old new q s
comes old new t q rule r turned lt agrees e some (Some p) f = let w = agrees.kept p f in turned.kept q p lt w.0 w.1
comes old new t q rule None turned lt agrees e some None f = cc
comes old new t q rule (Some p) turned lt agrees e some None f = turned.fresh q p lt e (agrees.fresh p f e)

pub renewed : (old new : LineTable) (t : Turn) (rule : ℕ → Option ℕ) → IsTurn t → old.limit ≤ t.end → ((q : ℕ) → q < old.limit → Agrees old.limit t (rule q) q) → IsTurned t old new → AreRenewed rule old new
renewed old new t rule i long agrees turned = (
  turned.limit,
  turned.next,
  λ q lt. comes old new t q (rule q) (image (swaps (turned_back t)) q) turned lt (agrees q lt) refl (swaps_some (turned_back t) q (back_is_turn t i) (omega arith)) (rule q) refl,
)
