use Rattle.func_text.proofs.Passing.{IsLeft}
use Rattle.func_text.proofs.argument.after_characters.Given as goal

abbrev pub invariant-characters : goal.invariant-characters
invariant-characters l = IsLeft l.text l.rest.rest.now l.counter
