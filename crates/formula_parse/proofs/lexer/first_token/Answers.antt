use Rattle.std.proofs.Common.{◌≡◌, ◌∙◌, sym, ap, rules, [], ◌∷◌, Some, None}
use Rattle.formula_tree.specs.Token as tok
use Rattle.formula_parse.specs.internal.Front.{token_of, front_of}
use Rattle.formula_parse.proofs.Streams.{stream-front, stream-blank, stream-nil, front_of-inside}
use Rattle.formula_parse.proofs.lexer.first_token.Goals as goal

pub returns-then-is_empty-clause-token : goal.returns-then-is_empty-clause-token
returns-then-is_empty-clause-token c = stream-blank c.args.text.now _ c.after_blanks-text.ensures (sym c.is_empty.ensures ∙ c.if-is_empty.true)

pub returns-in-Some-clause-token : goal.returns-in-Some-clause-token
returns-in-Some-clause-token c =
    let front : Some (token_of c.in-Some.token, c.in-Some.rest.now) ≡ front_of c.after_blanks-text.result.now = search rules in
    stream-front c.args.text.now _ _ c.after_blanks-text.ensures (sym c.is_empty.ensures ∙ c.if-is_empty.false) front

pub returns-in-None-clause-token : goal.returns-in-None-clause-token
returns-in-None-clause-token c =
    stream-front c.args.text.now _ None c.after_blanks-text.ensures (sym c.is_empty.ensures ∙ c.if-is_empty.false) c.in-None.ensures
    ∙ ap (λ tokens. tok.Other [] ∷ tokens) (sym stream-nil)

pub returns-in-Some-clause-inside : goal.returns-in-Some-clause-inside
returns-in-Some-clause-inside c =
    let front : Some (token_of c.in-Some.token, c.in-Some.rest.now) ≡ front_of c.after_blanks-text.result.now = search rules in
    front_of-inside c.after_blanks-text.result.now _ _ front
