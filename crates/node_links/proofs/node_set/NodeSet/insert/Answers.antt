use Rattle.std.proofs.Common.{◌∙◌, ◌||◌, ap, eqb, sym}
use Rattle.needs_order.specs.Needs.{has}
use Rattle.node_links.specs.internal.Sets.{nodes_in}
use Rattle.node_links.proofs.NodeSets.{put_has}
use Rattle.node_links.proofs.node_set.NodeSet.insert.Goals as goal

pub returns-in_ok-insert-in-More-clause-ok : goal.returns-in_ok-insert-in-More-clause-ok
returns-in_ok-insert-in-More-clause-ok c x =
    put_has c.in-More.set c.insert.new.self c.args.node x c.in_ok-insert-in-More.ensures.updates ∙ ap (λ s. has x (nodes_in s) || eqb x c.args.node) (sym c.in-More.is)
