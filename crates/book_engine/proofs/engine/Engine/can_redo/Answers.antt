use Rattle.std.proofs.Common.{◌∙◌, ap}
use Rattle.std.specs.Prelude.{is_none}
use Rattle.book_model.specs.Operation as op
use Rattle.book_model.specs.Refusals.{cause}
use Rattle.book_model.specs.Workbook.{State}
use Rattle.book_engine.specs.Engine.{StandsFor}
use Rattle.session_questions.proofs.Causes.{accepted_where_ok}
use Rattle.book_engine.proofs.engine.Engine.can_redo.Goals as goal

pub returns : goal.returns
unfolding StandsFor
returns g c = λ d same.
    c.is_ok.ensures.value ∙ accepted_where_ok c.check_redo.result _ c.check_redo.ensures ∙ ap (λ (x : State). is_none (cause op.redo x)) same
