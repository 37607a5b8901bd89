use Rattle.std.proofs.Common.{◌<◌, ◌≤◌, arith}
use Rattle.dep_graph.specs.internal.Nets.{links_in}
use Rattle.dep_graph.specs.internal.Numbers.{count_of}
use Rattle.dep_graph.proofs.Copying.{all_copied, next_copied, none_copied}
use Rattle.dep_graph.proofs.net.Net.copy_all.Goals as goal

pub nodes-init : goal.nodes-init
nodes-init c = none_copied c.args.self.now (links_in c.args.copy.now) c.requires

pub nodes-preserved : goal.nodes-preserved
nodes-preserved c =
    let inside : c.nodes.number < count_of c.args.self.now.nodes = omega (arith, c.nodes-test.true, c.len-number-end.ensures) in
    next_copied c.args.self.now (links_in c.nodes.copy) (links_in c.copy_links.new.copy) c.nodes.number inside c.nodes.invariant c.in_ok-copy_links.ensures

pub returns : goal.returns
returns c =
    let past : count_of c.args.self.now.nodes ≤ c.nodes.number = omega (arith, c.nodes-test.false, c.len-number-end.ensures) in
    all_copied c.args.self.now (links_in c.nodes.copy) c.nodes.number past c.nodes.invariant
