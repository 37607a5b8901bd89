use Rattle.dep_graph.specs.internal.Nets.{links_in}
use Rattle.dep_graph.proofs.Copying.{AreCopied}
use Rattle.dep_graph.proofs.net.Net.copy_all.Given as goal

-- the nodes gone by have their links in the copy
abbrev pub invariant-nodes : goal.invariant-nodes
invariant-nodes l = AreCopied l.self l.number (links_in l.copy)
