use Rattle.std.proofs.Common.{◌∙◌, refl}
use Rattle.node_links.proofs.Sets.{more_put, on_err, partly_put, start_put, whole_put}
use Rattle.node_links.proofs.users.Users.put_each.Goals as goal

pub needs-init : goal.needs-init
needs-init c = record { count = refl; put = start_put c.args.self.now.sets.items c.args.needs.now c.args.node }

pub needs-preserved : goal.needs-preserved
needs-preserved c = record {
  count = c.put.ensures.count ∙ c.needs.invariant.count;
  put = more_put c.args.self.now.sets.items c.needs.self.sets.items c.put.new.self.sets.items c.args.needs.now c.needs.need-index _ c.args.node c.needs.invariant.put c.needs-test.true refl c.in_ok-put.ensures.ok;
}

pub returns-clause-ok : goal.returns-clause-ok
returns-clause-ok c = whole_put c.args.self.now.sets.items c.needs.self.sets.items c.args.needs.now c.needs.need-index c.args.node c.needs.invariant.put c.needs-test.false

pub returns-in_err-put-clause-err : goal.returns-in_err-put-clause-err
returns-in_err-put-clause-err c = on_err c.from_residual.result _ (partly_put c.args.self.now.sets.items c.needs.self.sets.items c.put.new.self.sets.items c.args.needs.now c.needs.need-index c.args.node c.needs.invariant.put c.in_err-put.ensures.err)
