use Rattle.std.proofs.Common.{◌≡◌, ◌++◌, take, filter_map}
use Rattle.node_links.specs.Redirect.{few_target}
use Rattle.node_links.proofs.few.push_targets.Given as goal

-- the targets of the nodes gone by are added
abbrev pub invariant-nodes : goal.invariant-nodes
invariant-nodes l = l.list.items ≡ l.initial.list.items ++ filter_map (few_target l.few) (take l.node-index l.nodes)
