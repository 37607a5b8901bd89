use Rattle.std.proofs.Common.{◌∙◌, subst, sym}
use Rattle.dep_graph.specs.internal.Files.{FindsBy, HoldsNode}
use Rattle.dep_graph.proofs.Refiling.{both_hold, both_serve, present_serves}
use Rattle.dep_graph.proofs.net.Net.file_fresh.Goals as goal

pub returns-in_ok-last-in-Some-clause-serving : goal.returns-in_ok-last-in-Some-clause-serving
returns-in_ok-last-in-Some-clause-serving c =
    both_serve c.args.s.now c.args.lines.now c.args.self.now c.args.number c.args.first c.args.after c.requires.sound c.requires.moved c.requires.handed c.requires.key c.requires.first
    c.file_part.new.self.files c.in_ok-last-in-Some.last c.in-Some.part (sym c.fresh_node.ensures ∙ c.in-Some.is) c.file_part.ensures.files c.in_ok-last-in-Some.ensures.new c.in_ok-last-in-Some.ensures.owner c.in_ok-last-in-Some.ensures.exact

pub returns-in_ok-last-in-Some-clause-holds : goal.returns-in_ok-last-in-Some-clause-holds
returns-in_ok-last-in-Some-clause-holds c =
    both_hold c.args.s.now c.args.lines.now c.args.self.now c.args.number c.args.first c.args.after c.requires.sound c.requires.moved c.requires.handed c.requires.key c.requires.first
    c.file_part.new.self.files c.in_ok-last-in-Some.last c.in-Some.part (sym c.fresh_node.ensures ∙ c.in-Some.is) c.file_part.ensures.files c.in_ok-last-in-Some.ensures.new c.in_ok-last-in-Some.ensures.owner c.in_ok-last-in-Some.ensures.exact

pub returns-in-None-clause-holds : goal.returns-in-None-clause-holds
returns-in-None-clause-holds c =
    subst (λ all. HoldsNode c.args.lines.now (FindsBy c.args.self.now.files c.args.number all) c.args.after) (sym c.since.ensures)
    (present_serves c.args.s.now c.args.lines.now c.args.self.now c.args.number c.args.first c.args.after c.requires.sound c.requires.moved c.requires.handed c.requires.key c.requires.first (sym c.fresh_node.ensures ∙ c.in-None.is))
