use Rattle.std.proofs.Common.{◌<◌, sym, subst, refl, length}
use Rattle.std.specs.Vec.Iter.{into_iter_items}
use Rattle.node_links.specs.Links.{needs_at}
use Rattle.node_links.proofs.Changes.{AreChangedTo, changed_first, changed_next}
use Rattle.node_links.proofs.Relinking.{all_of}
use Rattle.node_links.proofs.change.change_all.Goals as goal

pub loop-change-init : goal.loop-change-init
loop-change-init c = changed_first c.args.needs.now.items c.args.users.now.sets.items c.args.changes.items (into_iter_items c.into_iter-change-iterator.result) c.into_iter-change-iterator.ensures.into_iter_gives.0
    c.requires.ready c.requires.put c.requires.known c.requires.counts

pub change_one-requires-clause-low : goal.change_one-requires-clause-low
change_one-requires-clause-low c =
    all_of (length c.loop-change.users.sets.items) (needs_at c.loop-change.needs.items c.in-Some.change.node)
    (λ b h. subst (λ m. b < m) (sym c.loop-change.invariant.users_count) (c.loop-change.invariant.known c.in-Some.change.node b h))

pub loop-change-preserved : goal.loop-change-preserved
loop-change-preserved c =
    subst (λ ns. AreChangedTo c.args.needs.now.items ns c.change_one.new.users.sets.items c.args.changes.items (into_iter_items c.next.new.self)) (sym c.change_one.ensures.needs)
    (changed_next c.args.needs.now.items c.loop-change.needs.items c.loop-change.users.sets.items c.change_one.new.users.sets.items c.args.changes.items (into_iter_items c.next.new.self) c.in-Some.change
    (needs_at c.loop-change.needs.items c.in-Some.change.node) refl
    (subst (λ r. AreChangedTo c.args.needs.now.items c.loop-change.needs.items c.loop-change.users.sets.items c.args.changes.items r) c.in-Some.ensures.steps.0 c.loop-change.invariant)
    c.change_one.ensures.users c.change_one.ensures.users_count)
