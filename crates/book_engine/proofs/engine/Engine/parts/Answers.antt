use Rattle.std.proofs.Common.{◌∙◌, ap, refl, rules, subst, sym, w32}
use mir.Val.{SFits}
use Rattle.std.proofs.lemmas.Int.{to_z-of_z}
use Rattle.std.specs.Prelude.{option_map}
use Rattle.session_questions.specs.Values.{marks_in}
use Rattle.book_engine.specs.Engine.{StandsFor}
use Rattle.book_engine.specs.Kept.{merged_in_any}
use Rattle.book_engine.specs.TakenApart.{FitParts, parts_of, state_among, stored_among}
use Rattle.session_questions.specs.Parts.{Parts}
use Rattle.book_engine.proofs.TakenApart.{fitting}
use Rattle.book_engine.proofs.engine.Engine.parts.Goals as goal

pub returns-clause-parts : goal.returns-clause-parts
returns-clause-parts g c =
    let e = c.args.self in
    let p = c.into_fields-parts.ensures in
    let day : SFits w32 c.into_fields-parts.result.3 = search rules in
    λ i. record (parts_of e) {
      alloc = (p.parts i).session.book.alloc;
      pool = (p.parts i).session.pool;
      lazy = (p.parts i).session.book.lazy;
      grid = (p.parts i).session.book.grid;
      names = (p.parts i).session.book.names;
      values = (p.parts i).values.values;
      clip = (p.waiting i).clip;
      undo = (p.parts i).session.steps;
      batch = (p.parts i).session.batch;
      next_id = (p.parts i).session.book.next_id;
      registry = p.customs i;
      day = (to_z-of_z w32 c.into_fields-parts.result.3 day ∙ p.day) i;
      suspended = (p.parts i).session.suspended;
      next_sheet = (p.parts i).session.next_sheet;
      sweep_at = (p.parts i).session.sweep_at;
    }

pub returns-clause-fit : goal.returns-clause-fit
unfolding StandsFor
returns-clause-fit g c = λ d same.
    let e = c.args.self in
    let s = e.parts.session in
    subst (λ q. FitParts g.C.Customs.customs q d) (sym (returns-clause-parts g c))
    (fitting g.C.Customs.customs (parts_of e) d same e.fits s.fits s.book.fresh s.book.live e.waiting.pastes e.follow)

pub returns-clause-some : goal.returns-clause-some
returns-clause-some g c =
    let e = c.args.self in
    let s = e.parts.session in
    let d = state_among g.C.Customs.customs (parts_of e) in (
      d,
      subst (λ q. FitParts g.C.Customs.customs q d) (sym (returns-clause-parts g c))
          (fitting g.C.Customs.customs (parts_of e) d refl e.fits s.fits s.book.fresh s.book.live e.waiting.pastes e.follow),
    )

pub returns-clause-stored : goal.returns-clause-stored
returns-clause-stored g c = λ at. ap (λ q. stored_among q at) (returns-clause-parts g c)

pub returns-clause-line : goal.returns-clause-line
returns-clause-line g c = ap (λ (p : Parts). p.session.book.lazy.line) c.into_fields-parts.ensures.parts

pub returns-clause-entries : goal.returns-clause-entries
returns-clause-entries g c = ap (λ (p : Parts). p.session.steps) c.into_fields-parts.ensures.parts

pub returns-clause-marks : goal.returns-clause-marks
returns-clause-marks g c = ap (λ (p : Parts). option_map marks_in p.values.values) c.into_fields-parts.ensures.parts

pub returns-clause-merged : goal.returns-clause-merged
returns-clause-merged g c = ap (λ (p : Parts). merged_in_any p.values.values) c.into_fields-parts.ensures.parts
