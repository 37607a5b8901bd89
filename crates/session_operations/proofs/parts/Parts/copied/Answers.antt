use Rattle.std.proofs.Common.{refl}
use Rattle.session_operations.proofs.Following.{follow_state}
use Rattle.session_operations.proofs.parts.Parts.copied.Goals as goal

pub returns-in_err-cells-clause-follow : goal.returns-in_err-cells-clause-follow
returns-in_err-cells-clause-follow c = follow_state c.args.self.now (record { session = c.copied_cells.new.self; values = c.args.self.now.values }) c.copied_cells.ensures.same.known refl c.copied_cells.ensures.state

pub returns-clause-follow : goal.returns-clause-follow
returns-clause-follow c = follow_state c.args.self.now (record { session = c.copied_cells.new.self; values = c.args.self.now.values }) c.copied_cells.ensures.same.known refl c.copied_cells.ensures.state
