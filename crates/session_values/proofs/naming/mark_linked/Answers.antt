use Rattle.std.proofs.Common.{◌∷◌, []}
use Rattle.dep_graph.specs.Nodes.{items_of}
use Rattle.session_values.proofs.Named.{have_linked, have_marked}
use Rattle.session_values.proofs.naming.mark_linked.Goals as goal

pub returns : goal.returns
returns c =
    let shown = c.items.result.now in
    let v = c.args.values.now in
    let u = c.mark_all.new.self in
    let w = c.mark.new.self in
    have_linked c.mark.result c.args.name v u w (items_of c.in_ok-linked.linked) shown c.in_ok-linked.ensures c.items.ensures
    (record { links = c.mark_all.ensures.links; asking = c.mark_all.ensures.asking; losing = c.mark_all.ensures.losing; seeking = c.mark_all.ensures.seeking; kept = c.mark_all.ensures.kept; marks = c.in_ok-mark_all.ensures.ok; unlinked = c.in_ok-mark_all.ensures.unlinked })
    (have_marked c.mark.result u w (c.args.name ∷ []) c.mark.ensures.links c.mark.ensures.asking c.mark.ensures.losing c.mark.ensures.seeking c.mark.ensures.kept c.mark.ensures.ok c.mark.ensures.unlinked)
