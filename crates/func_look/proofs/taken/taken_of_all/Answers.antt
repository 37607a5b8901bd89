use Rattle.std.proofs.Common.{◌∙◌, ap, refl}
use Rattle.func_look.specs.Taken.{sought, taken}
use Rattle.func_look.proofs.Line.{all-line}
use Rattle.func_look.proofs.taken.taken_of_all.Goals as goal

pub returns-clause-taken : goal.returns-clause-taken
returns-clause-taken c =
    c.found.ensures.taken ∙ ap (taken c.args.mode (sought c.args.value.now)) (all-line c.args.area.now.values (record { step = 1; count = c.size.result }) refl c.size.ensures.values)
