-- The calls count their steps on a ledger of their own.
use Rattle.engine_calls.proofs.counted.formulas_are_worked_out_once.Given as goal

abbrev pub ghosts-counts : goal.ghosts-counts
ghosts-counts a = record { name = a.blank.name; parts = a.blank.parts }
