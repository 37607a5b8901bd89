-- The calls count their steps on a ledger of their own.
use Rattle.engine_calls.proofs.groups.values_follow_names.Given as goal

abbrev pub ghosts-all_true : goal.ghosts-all_true
ghosts-all_true a = record { name = a.blank.name; parts = a.blank.parts }
