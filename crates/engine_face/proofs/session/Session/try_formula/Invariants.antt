-- The session counts its steps on a ledger of its own.
use Rattle.engine_face.proofs.session.Session.try_formula.Given as goal

abbrev pub ghosts-tried_by : goal.ghosts-tried_by
ghosts-tried_by a = record { name = a.blank.name; parts = a.blank.parts }
