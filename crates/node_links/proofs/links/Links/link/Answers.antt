use Rattle.std.proofs.Common.{◌≡◌, ◌∙◌, ap, sym, subst, ◌<◌, length, true, cond, eqb, set, ℕ}
use Rattle.std.specs.List.{All}
use Rattle.std.proofs.lemmas.List.{length-set}
use Rattle.needs_order.specs.Needs.{has}
use Rattle.node_links.specs.Links.{needs_at}
use Rattle.node_links.proofs.Relinking.{all_of, known-set, needs-set, needs_read, of_all, relinked}
use Rattle.node_links.proofs.links.Links.link.Goals as goal

pub put_all-requires : goal.put_all-requires
put_all-requires c = record {
  needs = subst (λ n. All (λ b. b < n) c.args.needs.now) (sym c.args.self.now.counts) c.requires.needs;
  was = λ i. c.in_ok-was.ensures i
      ∙ (ap (has i) (c.as_slice.ensures ∙ needs_read c.args.self.now.needs.items c.args.node c.index.result.now c.requires.node c.index.ensures)
      ∙ sym (c.args.self.now.exact c.args.node i));
}

pub drop_each-requires : goal.drop_each-requires
drop_each-requires c =
    let was : c.replace-before.result.items ≡ needs_at c.args.self.now.needs.items c.args.node = ap (λ v. v.items) c.replace-before.ensures.value ∙ needs_read c.args.self.now.needs.items c.args.node c.index_mut.result.now c.requires.node c.index_mut.ensures.value in
    subst (λ l. All (λ b. b < length c.put_all.new.self.sets.items) l) (sym (c.as_slice-2.ensures ∙ was))
    (subst (λ n. All (λ b. b < n) (needs_at c.args.self.now.needs.items c.args.node)) (sym (c.put_all.ensures.count ∙ c.args.self.now.counts)) (all_of (length c.args.self.now.needs.items) _ (c.args.self.now.known c.args.node)))

pub invariant_of-self-2 : goal.invariant_of-self-2
invariant_of-self-2 c =
    let was : c.replace-before.result.items ≡ needs_at c.args.self.now.needs.items c.args.node = ap (λ v. v.items) c.replace-before.ensures.value ∙ needs_read c.args.self.now.needs.items c.args.node c.index_mut.result.now c.requires.node c.index_mut.ensures.value in
    let now : c.replace-before.new.dest.items ≡ c.args.needs.now = ap (λ v. v.items) c.replace-before.ensures.after ∙ c.in_ok-kept.ensures.ok in
    let at : (a : ℕ) → needs_at (set c.args.self.now.needs.items c.args.node c.replace-before.new.dest) a ≡ cond (eqb a c.args.node) c.args.needs.now (needs_at c.args.self.now.needs.items a)
    = λ a. needs-set c.args.self.now.needs.items c.args.node c.replace-before.new.dest a c.requires.node ∙ ap (λ l. cond (eqb a c.args.node) l (needs_at c.args.self.now.needs.items a)) now in
    record {
      counts = c.drop_each.ensures.count ∙ (c.put_all.ensures.count ∙ (c.args.self.now.counts ∙ sym (length-set c.args.self.now.needs.items c.args.node c.replace-before.new.dest)));
      exact = λ a b.
          relinked c.args.self.now.users.sets.items c.put_all.new.self.sets.items c.drop_each.new.self.sets.items c.args.self.now.needs.items c.args.node c.as_slice-2.result.now c.args.needs.now c.in_ok-now.now
          c.args.self.now.exact (c.as_slice-2.ensures ∙ was) c.in_ok-now.ensures c.in_ok-put_all.ensures.ok c.drop_each.ensures.rest a b
          ∙ ap (has b) (sym (at a));
      known = λ a b h. subst (λ n. b < n) (sym (length-set c.args.self.now.needs.items c.args.node c.replace-before.new.dest))
          (known-set c.args.self.now.needs.items c.args.node c.args.needs.now (length c.args.self.now.needs.items) c.args.self.now.known (of_all (length c.args.self.now.needs.items) c.args.needs.now c.requires.needs) a b (subst (λ l. has b l ≡ true) (at a) h));
    }

pub returns-clause-ok : goal.returns-clause-ok
returns-clause-ok c a = needs-set c.args.self.now.needs.items c.args.node c.replace-before.new.dest a c.requires.node ∙ ap (λ l. cond (eqb a c.args.node) l (needs_at c.args.self.now.needs.items a)) (ap (λ v. v.items) c.replace-before.ensures.after ∙ c.in_ok-kept.ensures.ok)
