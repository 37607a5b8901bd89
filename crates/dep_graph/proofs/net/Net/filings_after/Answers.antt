use Rattle.std.proofs.Common.{◌≡◌, ◌∙◌, arith, inl, refl, subst, sym, IfOk, Some}
use Rattle.std.specs.Prelude.{slice_get}
use Rattle.shift_core.specs.Form.{form_of}
use Rattle.dep_graph.specs.internal.Files.{AreServing, FindsBy, HoldsNode, IsServing}
use Rattle.dep_graph.specs.internal.Filings.{since}
use Rattle.dep_graph.specs.internal.Keys.{key_of}
use Rattle.dep_graph.specs.internal.Touches.{IsHandedNode}
use Rattle.dep_graph.proofs.Filed.{held}
use Rattle.dep_graph.proofs.net.Net.filings_after.Goals as goal

pub file_fresh-requires-clause-key : goal.file_fresh-requires-clause-key
file_fresh-requires-clause-key c = subst (λ n. slice_get c.args.self.now.nodes.keys.keys n ≡ Some (key_of c.args.lines.now c.args.after)) c.if-target-number.true c.requires.target

pub file_fresh-requires-clause-handed : goal.file_fresh-requires-clause-handed
file_fresh-requires-clause-handed c = subst (λ o. IsHandedNode (form_of c.args.s.now) o c.args.after) c.requires.before (c.is_handed_on.ensures c.if-is_handed_on.true)

pub file_fresh-requires-clause-first : goal.file_fresh-requires-clause-first
file_fresh-requires-clause-first c = sym c.filing.ensures ∙ c.in-Some.is

pub returns-in-Some-clause-serving : goal.returns-in-Some-clause-serving
returns-in-Some-clause-serving c = subst (λ n. IfOk c.file_fresh.result (λ all. AreServing c.file_fresh.new.self.files n all)) (sym c.if-target-number.true) c.file_fresh.ensures.serving

pub returns-in-Some-clause-holds : goal.returns-in-Some-clause-holds
returns-in-Some-clause-holds c =
    subst (λ n. IfOk c.file_fresh.result (λ all. HoldsNode c.args.lines.now (FindsBy c.file_fresh.new.self.files n all) c.args.after)) (sym c.if-target-number.true) c.file_fresh.ensures.holds

pub returns-clause-serving : goal.returns-clause-serving
returns-clause-serving c =
    let own : IsServing c.file_part.new.self.files c.args.target (since c.in_ok-filing.filing) c.in_ok-filing.filing = (c.in_ok-filing.ensures.owner, omega arith, inl refl) in
    subst (AreServing c.file_part.new.self.files c.args.target) (sym c.since.ensures) (own, own)

pub returns-clause-holds : goal.returns-clause-holds
returns-clause-holds c =
    let files = c.file_part.new.self.files in
    subst (λ all. HoldsNode c.args.lines.now (FindsBy files c.args.target all) c.args.after) (sym c.since.ensures)
    (held c.args.lines.now c.args.self.now.files files c.args.target c.in_ok-filing.filing c.args.after c.requires.range c.file_part.ensures.files c.in_ok-filing.ensures.new c.in_ok-filing.ensures.owner c.in_ok-filing.ensures.exact)
