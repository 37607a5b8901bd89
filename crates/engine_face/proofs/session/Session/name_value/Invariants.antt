-- The session counts its steps on a ledger of its own.
use Rattle.engine_face.proofs.session.Session.name_value.Given as goal

abbrev pub ghosts-name_value_by : goal.ghosts-name_value_by
ghosts-name_value_by a = record { name = a.blank.name; parts = a.blank.parts }
