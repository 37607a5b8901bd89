use Rattle.std.proofs.Common.{◌≡◌, ◌∙◌, ◌<◌, ap, sym, subst, Some}
use Rattle.dep_graph.specs.internal.Keys.{same_keys}
use Rattle.dep_graph.specs.internal.Numbers.{count_of, key_at}
use Rattle.dep_graph.proofs.Targets.{own_number}
use Rattle.dep_graph.proofs.net.Net.target_of_key.Goals as goal

pub returns-then-eq-clause-place : goal.returns-then-eq-clause-place
returns-then-eq-clause-place c =
    let is : key_at c.args.self.now.nodes c.args.number ≡ c.args.key = sym c.key.ensures ∙ same_keys c.key.result c.args.key (sym c.eq.ensures ∙ c.if-eq.true) in
    ap Some (sym (own_number c.args.self.now.nodes c.args.number c.args.key c.requires.number is))

pub returns-then-eq-clause-inside : goal.returns-then-eq-clause-inside
returns-then-eq-clause-inside c =
    let is : key_at c.args.self.now.nodes c.args.number ≡ c.args.key = sym c.key.ensures ∙ same_keys c.key.result c.args.key (sym c.eq.ensures ∙ c.if-eq.true) in
    subst (λ n. n < count_of c.args.self.now.nodes) (sym (own_number c.args.self.now.nodes c.args.number c.args.key c.requires.number is)) c.requires.number
