use Rattle.std.proofs.Common.{◌≡◌, sym, subst, w32, ℤ}
use Rattle.std.proofs.lemmas.Int.{to_z-of_z}
use Rattle.book_model.specs.Given.{given_sheets, session_given}
use Rattle.book_engine.specs.Engine.{StandsFor}
use Rattle.session_questions.specs.Seen.{with_rules}
use Rattle.session_questions.specs.Seen.{ValuesFollow, clip_of, state_of, with_clipboard}
use Rattle.book_engine.proofs.engine.Engine.build.Goals as goal

pub invariant_of-result : goal.invariant_of-result
invariant_of-result g c =
    let customs = g.C.Customs.customs c.args.registry in
    record {
      fits = c.in_ok-parts.ensures.fits;
      follow = subst (λ (n : ℤ). ValuesFollow customs n c.in_ok-parts.parts) (sym (to_z-of_z w32 c.args.day c.ranges.day)) (c.in_ok-parts.ensures.follow customs c.args.day);
    }

pub returns : goal.returns
unfolding StandsFor
returns g c =
    let customs = g.C.Customs.customs c.args.registry in
    subst (λ (n : ℤ). with_rules customs n (with_clipboard (clip_of c.nothing.result.clip) (state_of c.in_ok-parts.parts)) ≡ session_given c.args.limit customs c.args.day (given_sheets c.args.books.now)) (sym (to_z-of_z w32 c.args.day c.ranges.day))
    (λ i. with_rules customs c.args.day (with_clipboard (c.nothing.ensures i) (c.in_ok-parts.ensures.state i)))
