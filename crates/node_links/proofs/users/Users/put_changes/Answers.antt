use Rattle.std.proofs.Common.{◌∙◌, refl, sym, length}
use Rattle.node_links.proofs.Changes.{all_put, low_at, next_put, put_in_part}
use Rattle.node_links.proofs.Sets.{on_err, or_false}
use Rattle.node_links.proofs.users.Users.put_changes.Goals as goal

pub changes-init : goal.changes-init
changes-init c = record { count = refl; put = λ i x. sym (or_false _) }

pub put_each-requires : goal.put_each-requires
put_each-requires c = low_at (length c.args.self.now.sets.items) (length c.changes.self.sets.items) c.args.changes.now c.changes.change-index c.change-item.result c.as_slice.result.now c.requires c.changes-test.true c.change-item.is c.as_slice.ensures c.changes.invariant.count

pub changes-preserved : goal.changes-preserved
changes-preserved c = record {
  count = c.put_each.ensures.count ∙ c.changes.invariant.count;
  put = next_put c.args.changes.now c.changes.change-index c.change-item.result c.changes-test.true c.change-item.is c.args.self.now.sets.items c.changes.self.sets.items c.put_each.new.self.sets.items
      c.as_slice.result.now c.as_slice.ensures c.changes.invariant.put c.in_ok-put_each.ensures.ok;
}

pub returns-clause-ok : goal.returns-clause-ok
returns-clause-ok c = all_put c.args.self.now.sets.items c.changes.self.sets.items c.args.changes.now c.changes.change-index c.changes.invariant.put c.changes-test.false

pub returns-in_err-put_each-clause-err : goal.returns-in_err-put_each-clause-err
returns-in_err-put_each-clause-err c = on_err c.from_residual.result _
    (put_in_part c.args.changes.now c.changes.change-index c.change-item.result c.changes-test.true c.change-item.is c.args.self.now.sets.items c.changes.self.sets.items c.put_each.new.self.sets.items
    c.as_slice.result.now c.as_slice.ensures c.changes.invariant.put c.in_err-put_each.ensures.err)
