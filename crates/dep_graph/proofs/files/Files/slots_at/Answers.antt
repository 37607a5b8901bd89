use Rattle.dep_graph.proofs.FiledSlots.{slots_inside}
use Rattle.dep_graph.proofs.files.Files.slots_at.Goals as goal

pub returns-in_err-slots-clause-inside : goal.returns-in_err-slots-clause-inside
returns-in_err-slots-clause-inside c = slots_inside c.args.self.now c.args.spot

pub returns-in_err-add_along-clause-inside : goal.returns-in_err-add_along-clause-inside
returns-in_err-add_along-clause-inside c = slots_inside c.args.self.now c.args.spot

pub returns-in_err-add_along-2-clause-inside : goal.returns-in_err-add_along-2-clause-inside
returns-in_err-add_along-2-clause-inside c = slots_inside c.args.self.now c.args.spot

pub returns-clause-inside : goal.returns-clause-inside
returns-clause-inside c = slots_inside c.args.self.now c.args.spot
