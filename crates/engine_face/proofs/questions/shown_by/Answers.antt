use Rattle.std.proofs.Common.{refl}
use Rattle.book_model.specs.Operation as op
use Rattle.book_model.specs.Workbook.{State}
use Rattle.book_engine.specs.Engine.{StandsFor}
use Rattle.rule_table.specs.Rules.{rules_of}
use Rattle.engine_face.proofs.Changing.{asked_still}
use Rattle.engine_face.proofs.questions.shown_by.Goals as goal

pub returns : goal.returns
returns g c = λ d stands. let P : State → Type 0 = StandsFor rules_of c.value.new.self in asked_still (op.value c.args.at) d P refl (c.in_ok-value.ensures.does d stands).2
