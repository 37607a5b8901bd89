use Rattle.std.proofs.Common.{◌∙◌, sym, ap, arith, rules, option_map}
use Rattle.cell_addr.proofs.Splits.{length-split_once, length-strip_prefix}
use Rattle.cell_addr.proofs.Quoted.{quoted-unclosed, quoted-closed, quoted_more, rest-with_bytes}
use Rattle.cell_addr.proofs.quote.after_quoted.Goals as goal

pub pieces-smaller : goal.pieces-smaller
pieces-smaller c =
    let a = length-split_once c.args.quote c.pieces.rest.now _ (sym c.in-Some.ensures) in
    let b = length-strip_prefix c.args.quote c.in-Some.after.now c.in-Some-strip_prefix.more.now (sym c.in-Some-strip_prefix.ensures) in
    omega (arith, a, b)

pub pieces-preserved : goal.pieces-preserved
pieces-preserved c =
    let more = quoted_more c.args.quote c.pieces.rest.now _ _ _ c.in-Some.ensures c.in-Some-strip_prefix.ensures in
    (search rules, sym (rest-with_bytes _ _) ∙ ap (λ q. option_map (λ p. p.1) q) (sym more) ∙ c.pieces.invariant.1)

pub returns-in-None : goal.returns-in-None
returns-in-None c =
    ap (λ q. option_map (λ p. p.1) q) (sym (quoted-closed c.args.quote c.pieces.rest.now _ _ c.in-Some.ensures c.in-None.ensures)) ∙ c.pieces.invariant.1

pub returns : goal.returns
returns c =
    ap (λ q. option_map (λ p. p.1) q) (sym (quoted-unclosed c.args.quote c.pieces.rest.now c.in_default.ensures)) ∙ c.pieces.invariant.1
