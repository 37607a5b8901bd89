use Rattle.std.proofs.Common.{refl}
use Rattle.node_links.proofs.Sets.{more_set, start_set, whole_set}
use Rattle.node_links.proofs.users.set_of.Goals as goal

pub items-init : goal.items-init
items-init c = start_set c.args.items.now

pub items-preserved : goal.items-preserved
items-preserved c = more_set c.items.set c.insert.new.self c.args.items.now c.items.item-index _ c.items.invariant c.items-test.true refl c.in_ok-insert.ensures.ok

pub returns : goal.returns
returns c = whole_set c.items.set c.args.items.now c.items.item-index c.items.invariant c.items-test.false
