-- The program counts its steps on a ledger of its own.
use Rattle.sheetrun.proofs.main.Given as goal

abbrev pub ghosts-sheetrun : goal.ghosts-sheetrun
ghosts-sheetrun a = record { name = a.blank.name; parts = a.blank.parts }
