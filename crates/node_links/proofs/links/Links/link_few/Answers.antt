use Rattle.std.proofs.Common.{sym, subst}
use Rattle.needs_order.specs.Needs.{has}
use Rattle.node_links.specs.Nodes.{needs_of}
use Rattle.node_links.specs.internal.Few.{KnowBefore}
use Rattle.node_links.specs.internal.Sets.{is_in}
use Rattle.node_links.proofs.Changes.{known_as}
use Rattle.node_links.proofs.links.Links.link_few.Goals as goal

pub put_all_changes-requires-clause-before : goal.put_all_changes-requires-clause-before
put_all_changes-requires-clause-before c =
    let self = c.args.self.now in
    known_as (λ b x. has x (needs_of self b)) (λ a x. is_in self.users.sets.items x a) c.deref.result.now (λ a x. sym (self.exact a x))
    (subst (λ cs. KnowBefore (λ b x. has x (needs_of self b)) cs) (sym c.deref.ensures.value) c.in_ok-changes.ensures.2)
