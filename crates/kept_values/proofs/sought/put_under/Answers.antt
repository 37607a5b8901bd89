use Rattle.std.proofs.Common.{◌≡◌, ◌∙◌, sym, ap, true, Some, inl, inr, ⊎_elim, rules}
use Rattle.dep_graph.specs.Nodes.{has, same_node}
use Rattle.kept_values.specs.Sought.{noted_in}
use Rattle.kept_values.proofs.UnderWords.{all_stay, only_more}
use Rattle.kept_values.proofs.sought.put_under.Goals as goal

pub returns-in-Some-clause-stay : goal.returns-in-Some-clause-stay
returns-in-Some-clause-stay c =
    let after = c.add.new.nodes in
    let wrote = c.get_mut.follows.holds after in
    let updates = wrote.3 (search rules) in
    all_stay c.args.sought.now (c.get_mut.follows.lender after) c.in_ok-copy.field-0 (Some after) updates.0 c.args.a
    (λ b h. c.add.ensures.stay b (ap (λ o. noted_in o b) c.in-Some.ensures.value ∙ h))
    (λ b h. ⊎_elim
    (λ (was : has b c.in-Some.nodes.now.keys ≡ true). inl (sym (ap (λ o. noted_in o b) c.in-Some.ensures.value) ∙ was))
    (λ (one : same_node b c.args.a ≡ true). inr one)
    (c.add.ensures.only b h))

pub returns-in-Some-clause-only : goal.returns-in-Some-clause-only
returns-in-Some-clause-only c =
    let after = c.add.new.nodes in
    let wrote = c.get_mut.follows.holds after in
    let updates = wrote.3 (search rules) in
    only_more c.args.sought.now (c.get_mut.follows.lender after) c.in_ok-copy.field-0 (Some after) updates.0 c.args.a
    (λ b h. c.add.ensures.stay b (ap (λ o. noted_in o b) c.in-Some.ensures.value ∙ h))
    (λ b h. ⊎_elim
    (λ (was : has b c.in-Some.nodes.now.keys ≡ true). inl (sym (ap (λ o. noted_in o b) c.in-Some.ensures.value) ∙ was))
    (λ (one : same_node b c.args.a ≡ true). inr one)
    (c.add.ensures.only b h))
