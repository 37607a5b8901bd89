use Rattle.std.proofs.Common.{◌≡◌, ◌∙◌, ap, subst, sym, Some}
use Rattle.std.specs.Prelude.{IsSome}
use Rattle.std.proofs.lemmas.Bool.{false≢true}
use Rattle.std.proofs.lemmas.Option.{same_Some}
use Rattle.node_links.specs.Redirect.{few_target}
use Rattle.dep_graph.specs.internal.Filings.{filing_then}
use Rattle.dep_graph.specs.internal.ShiftedNumbers.{after_at, range_in}
use Rattle.dep_graph.proofs.Adding.{on_ok}
use Rattle.dep_graph.proofs.Refiling.{is_taken, moved_from, no_some, range_is, target_stands, used_is_linked}
use Rattle.dep_graph.proofs.net.Net.refile.Goals as goal

pub returns-then-not-is_used-clause-refiled : goal.returns-then-not-is_used-clause-refiled
returns-then-not-is_used-clause-refiled c = λ t after becomes. absurd (false≢true (sym c.if-not-is_used.true ∙ (c.is_used.ensures ∙ becomes.0)))

pub refile_range-requires-clause-after : goal.refile_range-requires-clause-after
refile_range-requires-clause-after c = (range_is (after_at c.args.s.now c.args.self.now c.args.number) c.in-Some-moved_range.after (sym (moved_from c.args.s.now c.args.self.now c.args.number c.node-before.result c.moved_range.result c.node-before.ensures c.moved_range.ensures) ∙ c.in-Some-moved_range.is)).0

pub refile_range-requires-clause-range : goal.refile_range-requires-clause-range
refile_range-requires-clause-range c = (range_is (after_at c.args.s.now c.args.self.now c.args.number) c.in-Some-moved_range.after (sym (moved_from c.args.s.now c.args.self.now c.args.number c.node-before.result c.moved_range.result c.node-before.ensures c.moved_range.ensures) ∙ c.in-Some-moved_range.is)).1

pub refile_range-requires-clause-target : goal.refile_range-requires-clause-target
refile_range-requires-clause-target c =
    target_stands c.args.s.now c.args.lines.now c.args.self.now (few_target c.args.few.now) c.args.number c.in-Some.target c.in-Some-moved_range.after c.requires.targets
    (used_is_linked c.args.self.now c.args.number (sym c.is_used.ensures ∙ c.if-not-is_used.false))
    (sym c.few_target.ensures ∙ c.in-Some.is)
    (range_is (after_at c.args.s.now c.args.self.now c.args.number) c.in-Some-moved_range.after (sym (moved_from c.args.s.now c.args.self.now c.args.number c.node-before.result c.moved_range.result c.node-before.ensures c.moved_range.ensures) ∙ c.in-Some-moved_range.is)).0

pub refile_range-requires-clause-low : goal.refile_range-requires-clause-low
refile_range-requires-clause-low c = c.requires.targets.inside c.args.number c.in-Some.target c.requires.number (sym c.few_target.ensures ∙ c.in-Some.is)

pub returns-in-Some-moved_range-clause-refiled : goal.returns-in-Some-moved_range-clause-refiled
returns-in-Some-moved_range-clause-refiled c =
    let target : few_target c.args.few.now c.args.number ≡ Some c.in-Some.target = sym c.few_target.ensures ∙ c.in-Some.is in
    on_ok c.refile_range.result _ _ c.refile_range.ensures.filed
    (λ filed t after becomes. subst (λ n. IsSome (filing_then c.refile_range.new.filings c.refile_range.new.self.files.current n)) (same_Some c.in-Some.target t (sym target ∙ becomes.1)) filed)

pub returns-in-None-moved_range-clause-refiled : goal.returns-in-None-moved_range-clause-refiled
returns-in-None-moved_range-clause-refiled c =
    λ t after becomes. absurd (no_some after (sym (sym (moved_from c.args.s.now c.args.self.now c.args.number c.node-before.result c.moved_range.result c.node-before.ensures c.moved_range.ensures) ∙ c.in-None-moved_range.is) ∙ (ap range_in becomes.2 ∙ is_taken after becomes.3)))

pub returns-in-None-clause-refiled : goal.returns-in-None-clause-refiled
returns-in-None-clause-refiled c = λ t after becomes. absurd (no_some t (sym (sym c.few_target.ensures ∙ c.in-None.is) ∙ becomes.1))
