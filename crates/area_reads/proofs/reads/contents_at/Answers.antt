use Rattle.std.proofs.Common.{◌≡◌, ◌∙◌, refl, get_or}
use Rattle.book_model.specs.Answers.{content_text}
use Rattle.book_model.specs.Operation as op
use Rattle.area_reads.proofs.Staying.{quiet_none, quiet_on, read_stays}
use Rattle.area_reads.proofs.Told.{more}
use Rattle.area_reads.proofs.reads.contents_at.Goals as goal

pub returns-in_err-list-clause-quiet : goal.returns-in_err-list-clause-quiet
returns-in_err-list-clause-quiet g c = quiet_none g.C.Customs.customs c.args.engine.now

pub places-init : goal.places-init
places-init g c = record { quiet = quiet_none g.C.Customs.customs c.args.engine.now; list = λ d stands. c.in_ok-list.ensures.items }

pub returns-in_err-text-clause-quiet : goal.returns-in_err-text-clause-quiet
returns-in_err-text-clause-quiet g c =
    let at = get_or c.args.places.now c.places.at-index (record { sheet = 0; row = 0; col = 0 }) in
    quiet_on g.C.Customs.customs c.args.engine.now c.places.engine c.content.new.self c.places.invariant.quiet
    (read_stays g.C.Customs.customs (op.content at) (λ d text. text ≡ content_text d at) (λ d. refl) c.places.engine c.content.new.self c.content.result c.content.ensures.does) c.content.ensures.line c.content.ensures.values

pub returns-in_err-put-clause-quiet : goal.returns-in_err-put-clause-quiet
returns-in_err-put-clause-quiet g c =
    let at = get_or c.args.places.now c.places.at-index (record { sheet = 0; row = 0; col = 0 }) in
    quiet_on g.C.Customs.customs c.args.engine.now c.places.engine c.content.new.self c.places.invariant.quiet
    (read_stays g.C.Customs.customs (op.content at) (λ d text. text ≡ content_text d at) (λ d. refl) c.places.engine c.content.new.self c.content.result c.content.ensures.does) c.content.ensures.line c.content.ensures.values

pub places-preserved : goal.places-preserved
places-preserved g c =
    let at = get_or c.args.places.now c.places.at-index (record { sheet = 0; row = 0; col = 0 }) in record {
      quiet = quiet_on g.C.Customs.customs c.args.engine.now c.places.engine c.content.new.self c.places.invariant.quiet
          (read_stays g.C.Customs.customs (op.content at) (λ d text. text ≡ content_text d at) (λ d. refl) c.places.engine c.content.new.self c.content.result c.content.ensures.does) c.content.ensures.line c.content.ensures.values;
      list = λ d stands.
          c.in_ok-put.ensures
          ∙ more (content_text d) c.args.places.now c.places.at-index (record { sheet = 0; row = 0; col = 0 }) c.places.list.items c.in_ok-text.text c.places-test.true (c.places.invariant.list d stands)
          (c.in_ok-text.ensures.does d (c.places.invariant.quiet.stays d stands)).1;
    }
