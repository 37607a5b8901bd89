use Rattle.std.proofs.Common.{◌≡◌, ◌++◌}
use Rattle.node_links.proofs.node_set.listed.Given as goal

-- the nodes gone by are listed
abbrev pub invariant-set : goal.invariant-set
invariant-set l = l.nodes.items ++ l.node-iterator ≡ l.fn.set.keys
