use Rattle.std.proofs.Common.{◌∙◌, ap, subst, ◌<◌}
use Rattle.dep_graph.specs.internal.Numbers.{count_of, found_at}
use Rattle.dep_graph.proofs.Growing.{grows_on}
use Rattle.dep_graph.proofs.Numbers.{found_place}
use Rattle.dep_graph.proofs.net.Net.use_one.Goals as goal

pub file_node-requires : goal.file_node-requires
file_node-requires c = record {
  node = ap (found_at c.know.new.self.nodes) c.in_ok-number.ensures.place
      ∙ found_place c.know.new.self.nodes c.args.a (subst (λ n. n < count_of c.know.new.self.nodes) c.in_ok-number.ensures.place c.in_ok-number.ensures.inside);
}

pub returns-in_err-file_node-clause-grown : goal.returns-in_err-file_node-clause-grown
returns-in_err-file_node-clause-grown c = grows_on c.args.self.now c.know.new.self c.file_node.new.self c.know.ensures.grown c.file_node.ensures.grown

pub returns-clause-grown : goal.returns-clause-grown
returns-clause-grown c = grows_on c.args.self.now c.know.new.self c.file_node.new.self c.know.ensures.grown c.file_node.ensures.grown
