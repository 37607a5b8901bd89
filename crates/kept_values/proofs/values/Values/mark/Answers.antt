use Rattle.std.proofs.Common.{◌∙◌, ap}
use Rattle.recalc_core.specs.Recalc.{marks_in, with_mark}
use Rattle.kept_values.proofs.FoundNames.{marked_more}
use Rattle.kept_values.proofs.values.Values.mark.Goals as goal

pub returns-clause-ok : goal.returns-clause-ok
returns-clause-ok c = λ a. marked_more c.args.a (marks_in c.args.self.now.recalc) (marks_in c.mark.new.self) c.in_ok-mark.ensures.ok a

pub returns-clause-unlinked : goal.returns-clause-unlinked
returns-clause-unlinked c = λ a. marked_more c.args.a c.args.self.now.unlinked.keys c.insert.new.self.keys (c.in_ok-insert.ensures.keys ∙ ap (with_mark c.args.a) c.reserve.ensures.keys) a
