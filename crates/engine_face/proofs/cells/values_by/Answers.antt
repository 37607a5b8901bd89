use Rattle.engine_face.proofs.cells.values_by.Goals as goal

pub returns-clause-stays : goal.returns-clause-stays
returns-clause-stays g c = c.values.ensures.read.stays
