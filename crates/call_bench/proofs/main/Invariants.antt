-- The program counts its steps on a ledger of its own.
use Rattle.call_bench.proofs.main.Given as goal

abbrev pub ghosts-run : goal.ghosts-run
ghosts-run a = record { name = a.blank.name; parts = a.blank.parts }
