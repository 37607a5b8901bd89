use Rattle.std.proofs.Common.{◌≡◌, ◌-◌, ◌∙◌, ap, sym, Some, ℕ, List, chars, length, slice_range, take, arith}
use Rattle.std.proofs.lemmas.List.{length-take}
use Rattle.std.proofs.lemmas.Str.{length-le-encodes}
use Rattle.func_text.proofs.Occurrences.{before_bytes, occurs_first, occurs_nowhere}
use Rattle.func_text.proofs.find.first_place.Goals as goal

front : (xs : List ℕ) (i : ℕ) → slice_range xs 0 i ≡ take i xs
front xs i = let e : i - 0 ≡ i = omega arith in ap (λ n. take n xs) e

pub returns-in_err-at-clause-place : goal.returns-in_err-at-clause-place
returns-in_err-at-clause-place c =
    c.from_residual.ensures ∙ sym (occurs_nowhere c.args.sought.now c.args.within.now c.utf8.sought c.utf8.within c.in_err-at.ensures.cases)

pub returns-clause-place : goal.returns-clause-place
returns-clause-place c =
    let h = c.in_ok-at.ensures.cases in
    ap Some (c.count_characters.ensures ∙ ap (λ xs. length (chars xs)) (c.range.ensures.value ∙ front c.args.within.now c.in_ok-at.at))
    ∙ sym (occurs_first c.args.sought.now c.args.within.now c.utf8.sought c.utf8.within c.in_ok-at.at h.0 h.1 h.3.0)

pub returns-clause-inside : goal.returns-clause-inside
returns-clause-inside c =
    let h = c.in_ok-at.ensures.cases in
    let sought = c.args.sought.now in
    let within = c.args.within.now in
    let at = c.in_ok-at.at in
    let few = length-le-encodes (chars (take at within)) in
    let bytes = ap length (before_bytes sought within c.utf8.sought c.utf8.within at h.0 h.1 h.3.0) in
    let long = length-take at within in
    let count : c.count_characters.result ≡ length (chars (take at within)) = c.count_characters.ensures ∙ ap (λ xs. length (chars xs)) (c.range.ensures.value ∙ front within at) in
    omega (arith, h.3.0)
