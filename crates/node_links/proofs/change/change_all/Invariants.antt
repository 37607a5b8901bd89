use Rattle.std.specs.Vec.Iter.{into_iter_items}
use Rattle.node_links.proofs.Changes.{AreChangedTo}
use Rattle.node_links.proofs.change.change_all.Given as goal

-- the changes gone by are made
abbrev pub invariant-loop-change : goal.invariant-loop-change
invariant-loop-change l = AreChangedTo l.fn.needs.items l.needs.items l.users.sets.items l.fn.changes.items (into_iter_items l.change-iterator)
