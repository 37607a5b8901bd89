use Rattle.std.proofs.Common.{◌≡◌}
use Rattle.dep_graph.proofs.net.Net.keep_fresh.Given as goal

-- the numbers gone by are kept, and nothing else changed
abbrev pub invariant-numbers : goal.invariant-numbers
invariant-numbers l = record {
  nodes : l.self.nodes ≡ l.fn.self.nodes;
  links : l.self.links ≡ l.fn.self.links;
  files : l.self.files ≡ l.fn.self.files;
  next : l.self.touches.kept ≡ l.number;
}
