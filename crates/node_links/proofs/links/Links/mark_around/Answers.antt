use Rattle.std.proofs.Common.{◌≡◌, ◌∙◌, sym, subst, true, ⊎_elim, get_or}
use Rattle.std.proofs.lemmas.List.{take_all}
use Rattle.needs_order.specs.Needs.{has}
use Rattle.needs_order.proofs.Lists.{has_at}
use Rattle.node_links.specs.internal.Few.{IsMarked}
use Rattle.node_links.proofs.Around.{has_next, marked_still, still_still}
use Rattle.node_links.proofs.Redirecting.{needing_inside}
use Rattle.node_links.proofs.links.Links.mark_around.Goals as goal

pub mark-requires-in-users-clause-node : goal.mark-requires-in-users-clause-node
mark-requires-in-users-clause-node c =
    let user = get_or c.deref-user-items.result.now c.users.user-index 0 in
    needing_inside c.args.self.now.needs.items user c.args.node
    (sym (c.in_ok-users.ensures.exact user) ∙ subst (λ l. has user l ≡ true) (c.deref-user-items.ensures.value ∙ c.in_ok-users.ensures.list) (has_at c.deref-user-items.result.now c.users.user-index c.users-test.true))

pub users-preserved : goal.users-preserved
users-preserved c = record {
  own = c.in_ok-mark-2.ensures.own;
  rows = c.in_ok-mark-2.ensures.rows;
  still = still_still c.args.lists.now c.users.lists c.mark-in-users.new.lists c.users.invariant.still c.in_ok-mark-2.ensures.still;
  node = marked_still c.args.few.now c.users.lists c.mark-in-users.new.lists c.args.node c.in_ok-mark-2.ensures.still c.users.invariant.node;
  users = λ u h. ⊎_elim
      (λ (before : has u _ ≡ true). marked_still c.args.few.now c.users.lists c.mark-in-users.new.lists u c.in_ok-mark-2.ensures.still (c.users.invariant.users u before))
      (λ (is : get_or c.deref-user-items.result.now c.users.user-index 0 ≡ u). subst (IsMarked c.args.few.now c.mark-in-users.new.lists) is c.in_ok-mark-2.ensures.marked)
      (has_next c.deref-user-items.result.now c.users.user-index u c.users-test.true h);
}

pub returns-clause-around : goal.returns-clause-around
returns-clause-around c = (
  c.users.invariant.node,
  λ u h. c.users.invariant.users u
      (subst (λ l. has u l ≡ true) (sym (take_all c.users.user-index c.deref-user-items.result.now c.users-test.false ∙ (c.deref-user-items.ensures.value ∙ c.in_ok-users.ensures.list))) (c.in_ok-users.ensures.exact u ∙ h)),
)
