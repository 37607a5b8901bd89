use Rattle.std.proofs.Common.{◌∷◌, []}
use Rattle.dep_graph.specs.Nodes.{items_of}
use Rattle.session_values.proofs.Named.{have_marked, have_sought}
use Rattle.session_values.proofs.naming.mark_sought.Goals as goal

pub returns : goal.returns
returns c =
    let v = c.args.values.now in
    let u = c.mark_seeking.new.self in
    let x = c.mark_all.new.self in
    let w = c.mark.new.self in
    have_sought c.mark.result c.args.name c.args.whole c.args.word.now v u x w (items_of c.in_ok-linked.linked) c.items.result.now c.in_ok-linked.ensures c.items.ensures c.in_ok-mark_seeking.ensures.marks c.in_ok-mark_seeking.ensures.unlinked c.in_ok-mark_seeking.ensures.seeking
    c.mark_seeking.ensures.links c.mark_seeking.ensures.asking c.mark_seeking.ensures.losing c.mark_seeking.ensures.kept
    (record { links = c.mark_all.ensures.links; asking = c.mark_all.ensures.asking; losing = c.mark_all.ensures.losing; seeking = c.mark_all.ensures.seeking; kept = c.mark_all.ensures.kept; marks = c.in_ok-mark_all.ensures.ok; unlinked = c.in_ok-mark_all.ensures.unlinked })
    (have_marked c.mark.result x w (c.args.name ∷ []) c.mark.ensures.links c.mark.ensures.asking c.mark.ensures.losing c.mark.ensures.seeking c.mark.ensures.kept c.mark.ensures.ok c.mark.ensures.unlinked)
