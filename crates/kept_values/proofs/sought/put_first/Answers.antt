use Rattle.std.proofs.Common.{◌≡◌, ◌∙◌, sym, ap, true, Some, inl, inr, ⊎_elim}
use Rattle.std.proofs.lemmas.Bool.{false≢true}
use Rattle.dep_graph.specs.Nodes.{has, same_node}
use Rattle.folded_key.specs.Key.{text_of}
use Rattle.kept_values.proofs.UnderWords.{all_stay}
use Rattle.kept_values.proofs.sought.put_first.Goals as goal

pub returns-clause-stay : goal.returns-clause-stay
returns-clause-stay c =
    all_stay c.args.sought.now c.insert.new.self (text_of c.args.key) (Some c.add.new.nodes) c.in_ok-insert.ensures.updates.0 c.args.a
    (λ b h. absurd (false≢true (sym (c.requires b) ∙ h)))
    (λ b h. ⊎_elim
    (λ (was : has b c.new-nodes.result.keys ≡ true). absurd (false≢true (sym (ap (has b) c.new-nodes.ensures.empty) ∙ was)))
    (λ (one : same_node b c.args.a ≡ true). inr one)
    (c.add.ensures.only b h))
