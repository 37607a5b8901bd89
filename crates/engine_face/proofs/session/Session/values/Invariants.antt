-- The session counts its steps on a ledger of its own.
use Rattle.engine_face.proofs.session.Session.values.Given as goal

abbrev pub ghosts-values_by : goal.ghosts-values_by
ghosts-values_by a = record { name = a.blank.name; parts = a.blank.parts }
