-- An engine can begin with no sheets.
use Rattle.book_engine.proofs.GivenExamples.{no_sheets}
use Rattle.engine_face.proofs.session.with_rules.Goals as goal

pub build-requires-clause-can : goal.build-requires-clause-can
build-requires-clause-can c = no_sheets
