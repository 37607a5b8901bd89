use Rattle.std.proofs.Common.{◌∙◌}
use Rattle.dep_graph.specs.Graph.{links_of}
use Rattle.recalc_core.specs.Recalc.{kept_in, marks_in}
use Rattle.kept_values.specs.Values.{unlinked_in}
use Rattle.kept_values.proofs.Following.{on_ok}
use Rattle.kept_values.proofs.TakenAlong.{are_carried}
use Rattle.kept_values.proofs.values.Values.carry.Goals as goal

pub returns-clause-carried : goal.returns-clause-carried
returns-clause-carried c =
    let v = c.args.self.now in
    on_ok c.take_all_along.result _ _
    (are_carried c.args.s.now c.requires (links_of v.graph) (marks_in v.recalc) c.deref.result.now (marks_in c.shift-2.new.self) (unlinked_in v) c.as_slice.result.now (kept_in v.recalc) (kept_in c.shift-2.new.self)
    (record { alloc = v.alloc; graph = c.shift.new.self; noted = v.noted; unlinked = c.in_ok-self.field-0; recalc = c.take_all_along.new.recalc })
    (c.deref.ensures.value ∙ c.in_ok-marked.ensures.items ∙ c.items.ensures ∙ c.marks.ensures.list)
    c.in_ok-shift.ensures.ok c.in_ok-shift-2.ensures.kept c.take_all_along.ensures.kept c.in_ok-shift-2.ensures.marks c.as_slice.ensures.keys c.in_ok-self.ensures)
    c.take_all_along.ensures.taken
