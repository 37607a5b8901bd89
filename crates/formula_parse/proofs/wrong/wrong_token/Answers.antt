use Rattle.std.proofs.Common.{◌≡◌, ◌∙◌, sym, ap, rules, [], Some, None}
use Rattle.formula_parse.specs.internal.Front.{token_of, front_of}
use Rattle.formula_parse.specs.internal.Progress.{frames_of, step}
use Rattle.formula_parse.specs.declared.progress.Stage.TheVariants as stages
use Rattle.formula_parse.specs.Fronts.{all_rest}
use Rattle.formula_parse.proofs.WrongTokens.{ends-whole, ends-early, stray, refused, taken, taken-shorter}
use Rattle.formula_parse.proofs.wrong.wrong_token.Goals as goal

pub tokens-init : goal.tokens-init
tokens-init c = (c.utf8.formula, ([], all_rest, ap (λ frames. Some (stages.Operand, frames)) (sym c.new-frames.ensures)))

pub returns-then-ends-clause-formula : goal.returns-then-ends-clause-formula
returns-then-ends-clause-formula c = λ _.
    let t = c.tokens.invariant.1 in
    ends-whole c.args.formula.now c.tokens.next.now c.after_blanks-rest.result.now t.0 (c.tokens.stage, frames_of c.tokens.frames) t.1 t.2 c.after_blanks-rest.ensures
    (sym c.is_empty.ensures ∙ c.if-is_empty.true) (sym c.ends.ensures ∙ c.if-ends.true)

pub returns-else-ends-clause-wrong : goal.returns-else-ends-clause-wrong
returns-else-ends-clause-wrong c =
    let t = c.tokens.invariant.1 in
    ends-early c.args.formula.now c.tokens.next.now c.after_blanks-rest.result.now t.0 (c.tokens.stage, frames_of c.tokens.frames) t.1 t.2 c.after_blanks-rest.ensures
    (sym c.is_empty.ensures ∙ c.if-is_empty.true) (sym c.ends.ensures ∙ c.if-ends.false)

pub returns-in_default-clause-wrong : goal.returns-in_default-clause-wrong
returns-in_default-clause-wrong c =
    let t = c.tokens.invariant.1 in
    stray c.args.formula.now c.tokens.next.now c.after_blanks-rest.result.now t.0 (c.tokens.stage, frames_of c.tokens.frames) t.1 t.2 c.after_blanks-rest.ensures
    (sym c.is_empty.ensures ∙ c.if-is_empty.false) c.in_default.ensures

pub returns-in_default-advance-clause-wrong : goal.returns-in_default-advance-clause-wrong
returns-in_default-advance-clause-wrong c =
    let t = c.tokens.invariant.1 in
    let front : Some (token_of c.in-Some.token, c.in-Some.behind.now) ≡ front_of c.after_blanks-rest.result.now = search rules in
    let none : None ≡ step (c.tokens.stage, frames_of c.tokens.frames) (token_of c.in-Some.token) = search rules in
    refused c.args.formula.now c.tokens.next.now c.after_blanks-rest.result.now t.0 (c.tokens.stage, frames_of c.tokens.frames) t.1 t.2 c.after_blanks-rest.ensures
    (token_of c.in-Some.token) c.in-Some.behind.now front none

pub tokens-smaller : goal.tokens-smaller
tokens-smaller c =
    let t = c.tokens.invariant.1 in
    let front : Some (token_of c.in-Some.token, c.in-Some.behind.now) ≡ front_of c.after_blanks-rest.result.now = search rules in
    taken-shorter c.args.formula.now c.tokens.next.now c.after_blanks-rest.result.now t.0 (c.tokens.stage, frames_of c.tokens.frames) t.1 t.2 c.after_blanks-rest.ensures
    (token_of c.in-Some.token) c.in-Some.behind.now front

pub tokens-preserved : goal.tokens-preserved
tokens-preserved c =
    let t = c.tokens.invariant.1 in
    let front : Some (token_of c.in-Some.token, c.in-Some.behind.now) ≡ front_of c.after_blanks-rest.result.now = search rules in
    let some : Some (c.in-Some-advance.more, frames_of c.advance.new.self) ≡ step (c.tokens.stage, frames_of c.tokens.frames) (token_of c.in-Some.token) = search rules in (
      search rules,
      taken c.args.formula.now c.tokens.next.now c.after_blanks-rest.result.now t.0 (c.tokens.stage, frames_of c.tokens.frames) t.1 t.2 c.after_blanks-rest.ensures
          (token_of c.in-Some.token) c.in-Some.behind.now (c.in-Some-advance.more, frames_of c.advance.new.self) front some,
    )
