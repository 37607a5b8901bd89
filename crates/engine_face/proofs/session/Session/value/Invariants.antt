-- The session counts its steps on a ledger of its own.
use Rattle.engine_face.proofs.session.Session.value.Given as goal

abbrev pub ghosts-value_by : goal.ghosts-value_by
ghosts-value_by a = record { name = a.blank.name; parts = a.blank.parts }
