use Rattle.func_text.proofs.Passing.{one_more}
use Rattle.func_text.proofs.argument.after_characters.Goals as goal

pub characters-preserved : goal.characters-preserved
characters-preserved c =
    one_more c.args.text.now c.characters.rest.rest.now c.next.new.self.rest.now c.characters.counter c.in_ok-next.field-0 c.characters.invariant c.in_ok-next.ensures.steps.0
