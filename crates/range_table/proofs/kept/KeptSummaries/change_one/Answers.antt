use Rattle.std.proofs.lemmas.Bool.{false≢true}
use Rattle.std.proofs.Common.{sym, ◌∙◌, refl}
use Rattle.range_table.proofs.Taking.{one_untouched}
use Rattle.range_table.proofs.kept.KeptSummaries.change_one.Goals as goal

pub returns-in-None-clause-changed : goal.returns-in-None-clause-changed
returns-in-None-clause-changed c = λ gone are.
    one_untouched c.args.s.now c.args.lines.now c.args.self.now c.args.changes.now c.args.number gone (λ b under found. absurd (false≢true (sym (c.in-None.ensures.none refl) ∙ found))) are
