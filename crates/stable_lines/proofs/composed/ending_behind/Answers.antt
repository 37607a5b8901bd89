use Rattle.std.proofs.Common.{◌≡◌, ◌∙◌, ◌++◌, ◌∷◌, ◌+◌, ap, sym, subst, true, arith}
use Rattle.stable_lines.specs.internal.Tables.{after_run, is_table}
use Rattle.stable_lines.proofs.Seeking.{none_before}
use Rattle.stable_lines.proofs.TableLemmas.{behind_table, table_later}
use Rattle.stable_lines.proofs.composed.ending_behind.Goals as goal

pub loop-open-preserved-then-ends_by : goal.loop-open-preserved-then-ends_by
loop-open-preserved-then-ends_by c =
    let i = c.loop-open.invariant in
    let r = c.in-Some.run' in
    let front = c.in-Some.field-0-0.now in
    let behind = c.in-Some.behind.now in
    let whole : is_table 0 (front ++ (r ∷ behind)) ≡ true = subst (λ z. is_table 0 z ≡ true) c.in-Some.ensures.parts i.in_order in
    let ends = c.ends_by.ensures.0 c.if-ends_by.true in
    record {
      within = omega (arith, i.within, c.in-Some.ensures.at);
      in_order = table_later (r.from + r.count) 0 behind (omega arith) (behind_table 0 front r behind whole);
      same = λ run le. none_before 0 run front r behind whole (omega (arith, ends, le)) ∙ ap (after_run run) (sym c.in-Some.ensures.parts) ∙ i.same run le;
    }
