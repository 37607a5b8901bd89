-- The program counts its steps on a ledger of its own.
use Rattle.short_memory.proofs.main.Given as goal

abbrev pub ghosts-answer_input : goal.ghosts-answer_input
ghosts-answer_input a = record { name = a.blank.name; parts = a.blank.parts }
