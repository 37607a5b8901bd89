-- An amount below all tiers is negative; another has the levy of the tier that it ends in.
use Rattle.std.proofs.Common.{◌≡◌, ◌∙◌, ap, subst, sym, ℤ, pos, ◌-◌, true, false}
use Rattle.std.specs.Prelude.{int_le, unsigned_abs}
use Rattle.std.specs.List.{AllWithin}
use Rattle.std.proofs.lemmas.Int.{to_z-of_z}
use Rattle.custom_fn.specs.Answer.{rounded}
use Rattle.tariffs.specs.declared.tables.TheConstants.{LEVY}
use Rattle.tariffs.specs.internal.Levied.{total_in}
use Rattle.tariffs.proofs.TableCases.{levy-of, no-levy}
use Rattle.tariffs.proofs.answers.levied.Goals as goal

pub returns-then-count-eq0 : goal.returns-then-count-eq0
returns-then-count-eq0 c =
    let same = to_z-of_z _ _ c.ranges.amount in
    let behind = subst (λ (z : ℤ). AllWithin (λ (row : ℤ × ℤ). int_le row.0 z ≡ false) LEVY 0 3) same (rw c.if-count-eq0.true at c.begun-count.ensures.behind) in
    sym (no-levy c.args.amount behind)

pub returns : goal.returns
returns c =
    let count = c.begun-count.result in
    let same = to_z-of_z _ _ c.ranges.amount in
    let before = subst (λ (z : ℤ). AllWithin (λ (row : ℤ × ℤ). int_le row.0 z ≡ true) LEVY 0 count) same c.begun-count.ensures.before in
    let behind = subst (λ (z : ℤ). AllWithin (λ (row : ℤ × ℤ). int_le row.0 z ≡ false) LEVY count 3) same c.begun-count.ensures.behind in
    let size = c.unsigned_abs.ensures.value ∙ ap unsigned_abs same in
    c.rounded.ensures
    ∙ ap (λ t. rounded (pos t)) (c.total.ensures.total ∙ ap (λ a. total_in (count - 1) a) size)
    ∙ levy-of c.args.amount count c.if-count-eq0.false c.begun-count.ensures.bound before behind
