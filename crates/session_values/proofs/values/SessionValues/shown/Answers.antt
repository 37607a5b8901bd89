use Rattle.std.proofs.Common.{◌∙◌, sym, ap, subst, Option}
use Rattle.std.specs.Option.{option_copied}
use Rattle.std.specs.Prelude.{unwrap_or}
use Rattle.std.proofs.lemmas.Result.{IfOk-weaker}
use Rattle.cell_value.specs.declared.scalar.Scalar.TheVariants.{Empty}
use Rattle.kept_values.specs.Values.{kept_in}
use Rattle.kept_values.specs.declared.values.Values.{Values}
use Rattle.recalc_core.proofs.Shown.{places_show_kept}
use Rattle.session_values.specs.Following.{ShowsIn, book_of, words_in}
use Rattle.session_values.proofs.values.SessionValues.shown.Goals as goal

pub returns-in-Some-value : goal.returns-in-Some-value
returns-in-Some-value c session customs today shows =
    let b = book_of session in
    let words = words_in session in
    let kept = kept_in c.in-Some.values in
    let right = subst (λ (o : Option Values). ShowsIn b words customs today o) c.in-Some.is shows in
    let here = sym c.value.ensures ∙ ap option_copied c.in-Some-value.is in
    IfOk-weaker c.copy.result _ _ (λ copy is. is ∙ sym (ap (λ o. unwrap_or o Empty) here) ∙ places_show_kept b words customs today kept c.args.at right) c.copy.ensures

pub returns-in-None : goal.returns-in-None
returns-in-None c session customs today shows =
    let b = book_of session in
    let words = words_in session in
    let kept = kept_in c.in-Some.values in
    let right = subst (λ (o : Option Values). ShowsIn b words customs today o) c.in-Some.is shows in
    let here = sym c.value.ensures ∙ ap option_copied c.in-None.is in
    sym (ap (λ o. unwrap_or o Empty) here) ∙ places_show_kept b words customs today kept c.args.at right
