use Rattle.std.proofs.Common.{◌≡◌, ◌∙◌, sym, subst, true, false, ◌∷◌, [], arith}
use Rattle.std.proofs.lemmas.Bool.{false≢true}
use Rattle.dep_graph.specs.Nodes.{has, items_of}
use Rattle.dep_graph.specs.Walks.{IsOnce}
use Rattle.dep_graph.proofs.Places.{has_one}
use Rattle.dep_graph.proofs.Reaching.{once-append, once_more}
use Rattle.recalc_core.proofs.marks.Marks.add.Goals as goal

pub invariant_of-self-in-Ok-clause-once : goal.invariant_of-self-in-Ok-clause-once
invariant_of-self-in-Ok-clause-once c =
    let marks = items_of c.args.self.now.list in
    let a = c.args.a in
    let fresh : has a marks ≡ false = sym c.holds.ensures ∙ c.if-holds.false in
    subst IsOnce (sym c.in-Ok.ensures.ok)
    (once-append marks (a ∷ []) c.args.self.now.once (once_more a [] (λ h. false≢true h) (λ i j d before low. absurd (omega (arith, low))))
    (λ b front last. false≢true (sym fresh ∙ subst (λ n. has n marks ≡ true) (has_one b a last) front)))
