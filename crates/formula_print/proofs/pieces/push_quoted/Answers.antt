use Rattle.std.proofs.Common.{◌∙◌, sym, ap, arith, rules, ◌++◌, ◌∷◌, string_bytes}
use Rattle.cell_addr.proofs.Splits.{length-split_once}
use Rattle.formula_print.proofs.Doubled.{piece-written, last-written}
use Rattle.formula_print.proofs.pieces.push_quoted.Goals as goal

pub pieces-smaller : goal.pieces-smaller
pieces-smaller c =
    let a = length-split_once c.args.quote c.pieces.rest.now _ (sym c.in-Some.ensures) in
    omega (arith, a)

pub pieces-preserved : goal.pieces-preserved
pieces-preserved c = (
  search rules,
  λ cs. piece-written c.args.quote c.args.content.now c.pieces.rest.now c.in-Some.piece.now c.in-Some.after.now
      (string_bytes c.push.new.self) (string_bytes c.pieces.out) (string_bytes c.push_str.new.self) (string_bytes c.push-in-Some.new.self) (string_bytes c.push-in-Some-2.new.self) cs
      (sym c.in-Some.ensures)
      c.in_ok-push_str.ensures.bytes
      (c.in_ok-push-2.ensures.bytes ∙ ap (λ xs. string_bytes c.push_str.new.self ++ xs) (c.in_ok-push-2.ensures.ascii c.requires))
      (c.in_ok-push-3.ensures.bytes ∙ ap (λ xs. string_bytes c.push-in-Some.new.self ++ xs) (c.in_ok-push-3.ensures.ascii c.requires))
      (c.pieces.invariant.1 cs),
)

pub returns : goal.returns
returns c = λ cs. last-written c.args.quote c.args.content.now c.pieces.rest.now (string_bytes c.args.out.now)
    (string_bytes c.push.new.self) (string_bytes c.pieces.out) (string_bytes c.push_str-2.new.self) (string_bytes c.push-2.new.self) cs
    (sym c.in_default.ensures)
    (c.in_ok-push.ensures.bytes ∙ ap (λ xs. string_bytes c.args.out.now ++ xs) (c.in_ok-push.ensures.ascii c.requires))
    c.in_ok-push_str-2.ensures.bytes
    (c.in_ok-push-4.ensures.bytes ∙ ap (λ xs. string_bytes c.push_str-2.new.self ++ xs) (c.in_ok-push-4.ensures.ascii c.requires))
    (c.pieces.invariant.1 (c.args.quote ∷ cs))
