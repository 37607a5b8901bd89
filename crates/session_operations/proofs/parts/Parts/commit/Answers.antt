use Rattle.std.proofs.Common.{refl}
use Rattle.book_model.specs.Operation as op
use Rattle.session_operations.specs.Seen.{state_of}
use Rattle.session_operations.proofs.Turning.{done_sound}
use Rattle.session_operations.proofs.Following.{follow_same}
use Rattle.session_operations.proofs.parts.Parts.commit.Goals as goal

pub returns-clause-fits : goal.returns-clause-fits
returns-clause-fits c = done_sound op.commit (state_of c.args.self.now) _ c.in_ok-check_commit.ensures c.commit.ensures.state c.requires

pub returns-clause-follow : goal.returns-clause-follow
returns-clause-follow c = follow_same c.args.self.now (record { session = c.commit.new.self; values = c.args.self.now.values }) c.commit.ensures.book refl
