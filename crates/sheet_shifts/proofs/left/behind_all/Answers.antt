use Rattle.std.proofs.Common.{◌≡◌, ◌<◌, ◌∷◌, sym, refl, subst, true, inr, MatchOption}
use Rattle.sheet_shifts.specs.internal.Going.{CarriesEnds, IsPast, Walks}
use Rattle.sheet_shifts.proofs.Going.{walks-end}
use Rattle.sheet_shifts.proofs.left.behind_all.Goals as goal

pub edits-preserved : goal.edits-preserved
edits-preserved c = λ limit span rest on. c.edits.invariant limit span rest (
    subst (λ l. Walks (CarriesEnds true limit) c.args.to l span span rest) (sym c.in-Some.ensures.0) (inr (c.in-Some.ensures.1, (span, (refl, on)))))

pub returns : goal.returns
returns c =
    let left = c.edits.left in
    let past : IsPast c.args.to left.now = subst (λ o. MatchOption o (IsPast c.args.to left.now) (λ r. (left.now ≡ r.0.now ∷ r.1.now) × (r.0.now.index < c.args.to))) c.in_default.is c.first_before.ensures in
    λ limit span. c.edits.invariant limit span left.now (walks-end (CarriesEnds true limit) c.args.to left.now span past)
