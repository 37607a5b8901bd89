use Rattle.std.proofs.Common.{◌≡◌, ◌∙◌, ap, sym, subst, ◌<◌, length, [], true, cond, eqb, set, ℕ}
use Rattle.std.specs.List.{All}
use Rattle.std.proofs.lemmas.Bool.{false≢true}
use Rattle.std.proofs.lemmas.List.{length-set}
use Rattle.needs_order.specs.Needs.{has}
use Rattle.node_links.specs.Links.{needs_at}
use Rattle.node_links.specs.declared.node_set.NodeSet.TheVariants.{Empty}
use Rattle.node_links.proofs.Sets.{nothing_put}
use Rattle.node_links.proofs.Relinking.{all_of, known-set, needs-set, needs_read, relinked}
use Rattle.node_links.proofs.links.Links.unlink.Goals as goal

pub drop_each-requires : goal.drop_each-requires
drop_each-requires c =
    let was : c.replace-before.result.items ≡ needs_at c.args.self.now.needs.items c.args.node = ap (λ v. v.items) c.replace-before.ensures.value ∙ needs_read c.args.self.now.needs.items c.args.node c.index_mut.result.now c.requires c.index_mut.ensures.value in
    subst (λ l. All (λ b. b < length c.args.self.now.users.sets.items) l) (sym (c.as_slice.ensures ∙ was))
    (subst (λ n. All (λ b. b < n) (needs_at c.args.self.now.needs.items c.args.node)) (sym c.args.self.now.counts) (all_of (length c.args.self.now.needs.items) _ (c.args.self.now.known c.args.node)))

pub invariant_of-self : goal.invariant_of-self
invariant_of-self c =
    let was : c.replace-before.result.items ≡ needs_at c.args.self.now.needs.items c.args.node = ap (λ v. v.items) c.replace-before.ensures.value ∙ needs_read c.args.self.now.needs.items c.args.node c.index_mut.result.now c.requires c.index_mut.ensures.value in
    let now : c.replace-before.new.dest.items ≡ [] = ap (λ v. v.items) c.replace-before.ensures.after ∙ c.new.ensures.items in
    let at : (a : ℕ) → needs_at (set c.args.self.now.needs.items c.args.node c.replace-before.new.dest) a ≡ cond (eqb a c.args.node) c.replace-before.new.dest.items (needs_at c.args.self.now.needs.items a)
    = λ a. needs-set c.args.self.now.needs.items c.args.node c.replace-before.new.dest a c.requires in
    record {
      counts = c.drop_each.ensures.count ∙ (c.args.self.now.counts ∙ sym (length-set c.args.self.now.needs.items c.args.node c.replace-before.new.dest));
      exact = λ a b.
          relinked c.args.self.now.users.sets.items c.args.self.now.users.sets.items c.drop_each.new.self.sets.items c.args.self.now.needs.items c.args.node c.as_slice.result.now c.replace-before.new.dest.items Empty
          c.args.self.now.exact (c.as_slice.ensures ∙ was) (λ i. ap (has i) (sym now)) (nothing_put c.args.self.now.users.sets.items c.replace-before.new.dest.items c.args.node now) c.drop_each.ensures.rest a b
          ∙ ap (has b) (sym (at a));
      known = λ a b h. subst (λ n. b < n) (sym (length-set c.args.self.now.needs.items c.args.node c.replace-before.new.dest))
          (known-set c.args.self.now.needs.items c.args.node c.replace-before.new.dest.items (length c.args.self.now.needs.items) c.args.self.now.known (λ x y. absurd (false≢true (sym (ap (has x) now) ∙ y))) a b (subst (λ l. has b l ≡ true) (at a) h));
    }

pub returns-clause-needs : goal.returns-clause-needs
returns-clause-needs c a = needs-set c.args.self.now.needs.items c.args.node c.replace-before.new.dest a c.requires ∙ ap (λ l. cond (eqb a c.args.node) l (needs_at c.args.self.now.needs.items a)) (ap (λ v. v.items) c.replace-before.ensures.after ∙ c.new.ensures.items)
