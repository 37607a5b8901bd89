use Rattle.std.proofs.Common.{◌≡◌, ◌∙◌, sym, rules, Some}
use Rattle.shift_core.specs.Lines.{line_after}
use Rattle.sheet_shifts.specs.internal.Going.{TakesWhole}
use Rattle.sheet_shifts.proofs.Ends.{ends-carried}
use Rattle.sheet_shifts.proofs.left.carried_span.Goals as goal

pub returns-clause-carries : goal.returns-clause-carries
returns-clause-carries c =
    let whole : TakesWhole c.args.edit c.args.span = search rules in
    let first : line_after c.args.limit c.args.edit c.args.span.first ≡ Some c.in_ok-first.first = sym c.line_after.ensures ∙ c.in_ok-first.was in
    let last : line_after c.args.limit c.args.edit c.args.span.last ≡ Some c.in_ok-last.last = sym c.line_after-2.ensures ∙ c.in_ok-last.was in
    (ends-carried c.args.limit c.args.edit c.args.span (record { first = c.in_ok-first.first; last = c.in_ok-last.last }) c.requires.sound c.requires.order c.requires.within whole first last).0
