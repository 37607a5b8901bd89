-- An engine can begin with no sheets.
use Rattle.book_engine.proofs.GivenExamples.{no_sheets}
use Rattle.engine_calls.proofs.on_heap.built.Goals as goal

pub begun-requires-clause-can : goal.begun-requires-clause-can
begun-requires-clause-can g c = no_sheets
