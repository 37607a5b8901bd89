use Rattle.std.proofs.Common.{◌∙◌, refl}
use Rattle.node_links.proofs.Sets.{more_taken, start_taken, whole_taken}
use Rattle.node_links.proofs.users.Users.drop_each.Goals as goal

pub needs-init : goal.needs-init
needs-init c = record { count = refl; rest = start_taken c.args.self.now.sets.items c.args.needs.now c.args.node c.args.kept.now }

pub needs-preserved : goal.needs-preserved
needs-preserved c = record {
  count = c.drop_unless.ensures.count ∙ c.needs.invariant.count;
  rest = more_taken c.args.self.now.sets.items c.needs.self.sets.items c.drop_unless.new.self.sets.items c.args.needs.now c.needs.need-index _ c.args.node c.args.kept.now c.needs.invariant.rest c.needs-test.true refl c.drop_unless.ensures.rest;
}

pub returns-clause-rest : goal.returns-clause-rest
returns-clause-rest c = whole_taken c.args.self.now.sets.items c.needs.self.sets.items c.args.needs.now c.needs.need-index c.args.node c.args.kept.now c.needs.invariant.rest c.needs-test.false
