use Rattle.std.proofs.Common.{◌∙◌}
use Rattle.kept_values.proofs.shifting.take_along.Goals as goal

pub returns-clause-kept : goal.returns-clause-kept
returns-clause-kept c = c.mark_some-2.ensures.kept ∙ c.mark_some.ensures.kept
