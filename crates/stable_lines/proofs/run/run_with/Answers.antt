use Rattle.std.proofs.Common.{◌≡◌, ◌∙◌, sym, ap, subst, ℕ, ◌+◌, ◌-◌, ◌<◌, ◌≤◌, true, List, ◌∷◌, ◌++◌, Some, option_map, arith}
use Rattle.stable_lines.specs.declared.run.Run.{Run}
use Rattle.stable_lines.specs.internal.Tables.{IsFound, is_table, run_with}
use Rattle.stable_lines.proofs.TableLemmas.{image-run_with, run_before, run_there, run_behind, front_table, behind_table, middle_fits, table_later, fits_sums}
use Rattle.stable_lines.proofs.run.run_with.Goals as goal

-- the table that is left, in parts around the run in the middle
module _ (table rest front : List Run) (r : Run) (behind : List Run) (x : ℕ) (same : run_with rest x ≡ run_with table x) (order : is_table 0 rest ≡ true) (parts : rest ≡ front ++ (r ∷ behind)) where
  whole : is_table 0 (front ++ (r ∷ behind)) ≡ true
  whole = subst (λ z. is_table 0 z ≡ true) parts order

  look_before : x < r.from → run_with front x ≡ run_with table x
  look_before lt = sym (ap (λ z. run_with z x) parts ∙ run_before 0 front r behind x whole lt) ∙ same

  look_there : r.from ≤ x → x < r.from + r.count → Some r ≡ run_with table x
  look_there le lt = sym (ap (λ z. run_with z x) parts ∙ run_there 0 front r behind x whole le lt) ∙ same

  look_behind : r.from + r.count ≤ x → run_with behind x ≡ run_with table x
  look_behind le = sym (ap (λ z. run_with z x) parts ∙ run_behind 0 front r behind x whole le) ∙ same

  is_found : r.from ≤ x → x < r.from + r.count → IsFound r x
  is_found le lt = let w = fits_sums r (middle_fits 0 front r behind whole) in (le, lt, w.0, w.1)

  front_order : is_table 0 front ≡ true
  front_order = front_table 0 front (r ∷ behind) whole

  behind_order : is_table 0 behind ≡ true
  behind_order = table_later (r.from + r.count) 0 behind (omega arith) (behind_table 0 front r behind whole)

pub loop-front-preserved-then-number-run : goal.loop-front-preserved-then-number-run
loop-front-preserved-then-number-run c =
    let i = c.loop-front.invariant in record {
      same = look_before c.args.table.now c.loop-front.rest.now c.in-Some.front.now c.in-Some.run' c.in-Some.behind.now c.args.number i.same i.in_order c.in-Some.ensures c.if-number-run.true;
      in_order = front_order c.args.table.now c.loop-front.rest.now c.in-Some.front.now c.in-Some.run' c.in-Some.behind.now c.args.number i.same i.in_order c.in-Some.ensures;
    }

pub returns-then-number-run-2-clause-run : goal.returns-then-number-run-2-clause-run
returns-then-number-run-2-clause-run c =
    let i = c.loop-front.invariant in
    look_there c.args.table.now c.loop-front.rest.now c.in-Some.front.now c.in-Some.run' c.in-Some.behind.now c.args.number i.same i.in_order c.in-Some.ensures c.if-number-run.false (omega arith)

pub returns-then-number-run-2-clause-found : goal.returns-then-number-run-2-clause-found
returns-then-number-run-2-clause-found c =
    let i = c.loop-front.invariant in
    is_found c.args.table.now c.loop-front.rest.now c.in-Some.front.now c.in-Some.run' c.in-Some.behind.now c.args.number i.same i.in_order c.in-Some.ensures c.if-number-run.false (omega arith)

pub returns-then-number-run-2-clause-image : goal.returns-then-number-run-2-clause-image
returns-then-number-run-2-clause-image c =
    let i = c.loop-front.invariant in
    image-run_with c.args.table.now c.args.number
    ∙ ap (option_map (λ r. r.to + (c.args.number - r.from)))
    (sym (look_there c.args.table.now c.loop-front.rest.now c.in-Some.front.now c.in-Some.run' c.in-Some.behind.now c.args.number i.same i.in_order c.in-Some.ensures c.if-number-run.false (omega arith)))

pub loop-front-preserved : goal.loop-front-preserved
loop-front-preserved c =
    let i = c.loop-front.invariant in record {
      same = look_behind c.args.table.now c.loop-front.rest.now c.in-Some.front.now c.in-Some.run' c.in-Some.behind.now c.args.number i.same i.in_order c.in-Some.ensures (omega arith);
      in_order = behind_order c.args.table.now c.loop-front.rest.now c.in-Some.front.now c.in-Some.run' c.in-Some.behind.now c.args.number i.same i.in_order c.in-Some.ensures;
    }

pub returns-clause-image : goal.returns-clause-image
returns-clause-image c =
    image-run_with c.args.table.now c.args.number
    ∙ ap (option_map (λ r. r.to + (c.args.number - r.from)))
    (sym c.loop-front.invariant.same ∙ ap (λ z. run_with z c.args.number) c.in_default.ensures)
