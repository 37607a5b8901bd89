use Rattle.std.proofs.Common.{◌≡◌, sym, subst, refl, rules, w32, ℤ}
use mir.Val.{SFits}
use Rattle.std.proofs.lemmas.Int.{to_z-of_z}
use Rattle.name_table.specs.Named.{words_of}
use Rattle.book_model.specs.Answers.{valued}
use Rattle.session_questions.specs.Following.{FollowsIn}
use Rattle.book_engine.specs.Engine.{StandsFor}
use Rattle.session_questions.specs.Seen.{with_rules}
use Rattle.session_questions.specs.Seen.{clip_of, with_clipboard}
use Rattle.book_engine.specs.TakenApart.{steps_among}
use Rattle.book_engine.proofs.TakenApart.{followed}
use Rattle.book_engine.proofs.engine.Engine.joined.Goals as goal

pub invariant_of-book : goal.invariant_of-book
invariant_of-book g c = record { fresh = c.requires.1.fresh; live = c.requires.1.live }

pub invariant_of-session : goal.invariant_of-session
invariant_of-session g c = record { fits = c.requires.1.steps }

pub invariant_of-result : goal.invariant_of-result
invariant_of-result g c = record { pastes = c.requires.1.pastes }

pub invariant_of-result-2 : goal.invariant_of-result-2
invariant_of-result-2 g c =
    let p = c.args.parts in
    let customs = g.C.Customs.customs p.registry in
    let day : SFits w32 p.day = search rules in
    record {
      fits = c.requires.1.sound;
      follow = subst (λ (n : ℤ). FollowsIn (valued (steps_among p).book) (words_of p.names) customs n p.values) (sym (to_z-of_z w32 p.day day)) (followed g.C.Customs.customs p c.requires.0 c.requires.1);
    }

pub returns-clause-parts : goal.returns-clause-parts
returns-clause-parts g c =
    let p = c.args.parts in
    let day : SFits w32 p.day = search rules in
    λ i. record p { day = to_z-of_z w32 p.day day i }

pub returns-clause-stands : goal.returns-clause-stands
unfolding StandsFor
returns-clause-stands g c = λ d fit.
    let p = c.args.parts in
    let customs = g.C.Customs.customs p.registry in
    let day : SFits w32 p.day = search rules in
    subst (λ (n : ℤ). with_rules customs n (with_clipboard (clip_of p.clip) (steps_among p)) ≡ d) (sym (to_z-of_z w32 p.day day)) fit.state

pub returns-clause-stored : goal.returns-clause-stored
returns-clause-stored g c = λ at. refl

pub returns-clause-line : goal.returns-clause-line
returns-clause-line g c = refl

pub returns-clause-entries : goal.returns-clause-entries
returns-clause-entries g c = refl

pub returns-clause-marks : goal.returns-clause-marks
returns-clause-marks g c = refl

pub returns-clause-merged : goal.returns-clause-merged
returns-clause-merged g c = refl
