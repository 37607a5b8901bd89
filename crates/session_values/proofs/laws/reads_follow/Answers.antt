use Rattle.session_values.proofs.Followed.{reads_follow}
use Rattle.session_values.proofs.laws.reads_follow.Goals as goal

pub returns : goal.returns
returns c = reads_follow
