use Rattle.std.proofs.Common.{◌∙◌, sym}
use Rattle.std.proofs.lemmas.Bool.{false≢true}
use Rattle.dep_graph.proofs.Adding.{on_ok}
use Rattle.dep_graph.proofs.Bending.{none_added, users_added}
use Rattle.dep_graph.proofs.net.Net.add_bent_users.Goals as goal

pub returns-then-not-bends : goal.returns-then-not-bends
returns-then-not-bends c = none_added c.args.s.now c.args.self.now c.args.number c.args.users.now.keys (λ is. false≢true (sym c.if-not-bends.true ∙ c.bends.ensures.1 is))

pub returns : goal.returns
returns c =
    on_ok c.add_all.result _ _ c.add_all.ensures
    (λ adds. users_added c.args.s.now c.args.self.now c.args.number c.deref.result.now c.args.users.now.keys c.add_all.new.numbers.keys
    (c.bends.ensures.0 c.if-not-bends.false) (c.deref.ensures.value ∙ c.in_ok-users.ensures.list) adds)
