-- The program counts its steps on a ledger of its own.
use Rattle.function_cases.proofs.main.Given as goal

abbrev pub ghosts-run_files : goal.ghosts-run_files
ghosts-run_files a = record { name = a.blank.name; parts = a.blank.parts }
