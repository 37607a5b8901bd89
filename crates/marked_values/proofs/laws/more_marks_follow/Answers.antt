use Rattle.marked_values.proofs.Fitting.{more_marks}
use Rattle.marked_values.proofs.laws.more_marks_follow.Goals as goal

pub returns : goal.returns
returns c = more_marks
