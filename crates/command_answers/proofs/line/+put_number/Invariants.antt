-- A digit less is left in each call.
use Rattle.command_answers.proofs.line.+put_number.Given as goal

abbrev pub decreases-put_number : goal.decreases-put_number
decreases-put_number l = l.number
