use Rattle.std.proofs.Common.{◌≡◌, ◌∙◌, ap, inl, inr, refl, subst, sym, Some}
use Rattle.std.proofs.lemmas.Option.{same_Some}
use Rattle.shift_core.specs.Form.{form_of}
use Rattle.dep_graph.specs.declared.node.Node.TheVariants.{Range}
use Rattle.dep_graph.specs.internal.Keys.{node_of}
use Rattle.dep_graph.specs.internal.Touches.{IsHandedAt, KeepsNode}
use Rattle.dep_graph.proofs.Adding.{on_ok}
use Rattle.dep_graph.proofs.Untouched.{stays_handed}
use Rattle.dep_graph.proofs.touches.Touches.keep_found.Goals as goal

pub returns-in-Some-handed_on-clause-kept : goal.returns-in-Some-handed_on-clause-kept
returns-in-Some-handed_on-clause-kept c =
    let lines = c.args.lines.now in
    let block = c.in-Some-handed_on.block in
    on_ok c.hand_on.result _ _ c.hand_on.ensures.kept
    (λ keeps a early stands.
    let (is_range, handed) = c.handed_on.ensures block c.in-Some-handed_on.is in
    let here : node_of lines c.key.result ≡ Some c.in-Some.after = sym c.node.ensures ∙ c.in-Some.is in
    let same : Range block ≡ a = sym is_range ∙ same_Some c.in-Some.after a (sym here ∙ (ap (node_of lines) c.key.ensures ∙ stands)) in
    elim (stays_handed c.args.s.now c.requires.sound c.args.nodes.now.lines lines c.requires.moved c.args.nodes.now c.args.self.now c.hand_on.new.self c.args.number c.key.result c.in-Some.after block
    refl c.requires.number c.key.ensures c.requires.indexed early here is_range (subst (λ o. IsHandedAt (form_of c.args.s.now) o block) c.node-in-Some.ensures handed) keeps) [
      | inl odd ↦ inl odd
      | inr kept ↦ inr (subst (KeepsNode c.hand_on.new.self lines c.args.number) same kept)
    ])
