-- The session counts its steps on a ledger of its own.
use Rattle.engine_face.proofs.session.Session.value_text.Given as goal

abbrev pub ghosts-shown_by : goal.ghosts-shown_by
ghosts-shown_by a = record { name = a.blank.name; parts = a.blank.parts }
