use Rattle.std.proofs.Common.{refl}
use Rattle.session_operations.proofs.Following.{follow_same}
use Rattle.session_operations.proofs.parts.Parts.resume.Goals as goal

pub returns-clause-follow : goal.returns-clause-follow
returns-clause-follow c = follow_same c.args.self.now (record { session = c.resume.new.self; values = c.args.self.now.values }) c.resume.ensures.book refl
