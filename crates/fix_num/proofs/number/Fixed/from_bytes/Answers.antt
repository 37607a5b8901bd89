use Rattle.std.proofs.Common.{◌∙◌, sym, ap}
use Rattle.fix_num.specs.Number.{within, signed}
use Rattle.fix_num.proofs.Magnitudes.{number_of_parts}
use Rattle.fix_num.proofs.number.Fixed.from_bytes.Goals as goal

pub returns : goal.returns
returns c =
    c.signed.ensures
    ∙ ap (λ n. within (signed c.split_sign-negative.result.0 n)) c.from.ensures
    ∙ number_of_parts c.args.text.now _ _ _ _ _ _ c.split_sign-negative.ensures.negative c.split_sign-negative.ensures.after c.before_byte-whole.ensures c.after_byte-decimals.ensures
    (sym c.are_parts.ensures ∙ c.if-not-are_parts.false) c.value_at_most.ensures c.rounded.ensures.rounded
