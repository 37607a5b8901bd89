use Rattle.std.proofs.Common.{◌∙◌, refl, sym, length}
use Rattle.node_links.proofs.Changes.{all_dropped, low_at, next_dropped}
use Rattle.node_links.proofs.Sets.{and_true}
use Rattle.node_links.proofs.users.Users.drop_changes.Goals as goal

pub changes-init : goal.changes-init
changes-init c = record { count = refl; rest = λ i x. sym (and_true _) }

pub drop_each-requires : goal.drop_each-requires
drop_each-requires c = low_at (length c.args.self.now.sets.items) (length c.changes.self.sets.items) c.args.changes.now c.changes.change-index c.change-item.result c.as_slice.result.now c.requires c.changes-test.true c.change-item.is c.as_slice.ensures c.changes.invariant.count

pub changes-preserved : goal.changes-preserved
changes-preserved c = record {
  count = c.drop_each.ensures.count ∙ c.changes.invariant.count;
  rest = next_dropped c.args.changes.now c.changes.change-index c.change-item.result c.changes-test.true c.change-item.is c.args.self.now.sets.items c.changes.self.sets.items c.drop_each.new.self.sets.items
      c.as_slice.result.now c.as_slice.ensures c.changes.invariant.rest c.drop_each.ensures.rest;
}

pub returns-clause-rest : goal.returns-clause-rest
returns-clause-rest c = all_dropped c.args.self.now.sets.items c.changes.self.sets.items c.args.changes.now c.changes.change-index c.changes.invariant.rest c.changes-test.false
