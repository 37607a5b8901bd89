use Rattle.dep_graph.specs.internal.Nets.{links_in}
use Rattle.dep_graph.proofs.Shifting.{shifted_before}
use Rattle.dep_graph.proofs.net.Net.shift_and_renew.Goals as goal

pub returns-then-is_fragmented-clause-ok : goal.returns-then-is_fragmented-clause-ok
returns-then-is_fragmented-clause-ok c =
    shifted_before c.args.s.now (links_in c.args.self.now) (links_in c.shift.new.self) (links_in c.renew.new.self) c.in_ok-shift.ensures.ok c.renew.ensures
