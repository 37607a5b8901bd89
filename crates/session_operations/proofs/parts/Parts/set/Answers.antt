use Rattle.std.proofs.Common.{◌∙◌, sym, subst, refl}
use Rattle.book_model.specs.Operation as op
use Rattle.book_model.specs.Sound.{IsSound}
use Rattle.session_operations.specs.Seen.{state_of}
use Rattle.session_operations.proofs.Turning.{done_sound, next_done}
use Rattle.book_model.specs.Changes.{with_content}
use Rattle.book_model.specs.Content.{content_given, content_of}
use Rattle.cell_addr.specs.Place.{same_place}
use Rattle.session_values.proofs.Contents.{other_place}
use Rattle.session_values.proofs.MarkedCells.{at_most}
use Rattle.session_values.specs.Touched.{IsMarkedIn}
use Rattle.session_operations.proofs.Following.{follow_changed, follow_touched}
use Rattle.session_operations.proofs.parts.Parts.set.Goals as goal

pub returns-in_err-fill-clause-fits : goal.returns-in_err-fill-clause-fits
returns-in_err-fill-clause-fits c = subst IsSound (sym c.in_err-fill.ensures.err) c.requires

pub returns-clause-turns : goal.returns-clause-turns
returns-clause-turns c =
    let d = state_of c.args.self.now in
    (c.in_ok-check_set.ensures, tt, c.in_ok-fill.ensures.ok ∙ sym (next_done (op.set c.args.at c.args.text.now) d c.in_ok-check_set.ensures))

pub returns-clause-fits : goal.returns-clause-fits
returns-clause-fits c = done_sound (op.set c.args.at c.args.text.now) (state_of c.args.self.now) _ c.in_ok-check_set.ensures c.in_ok-fill.ensures.ok c.requires

pub returns-in_err-touch-clause-follow : goal.returns-in_err-touch-clause-follow
returns-in_err-touch-clause-follow c = follow_touched (same_place c.args.at) c.args.self.now (record { session = c.args.self.now.session; values = c.touch.new.self }) (λ i w h. h) (at_most (same_place c.args.at) c.args.self.now.values.values c.touch.new.self.values c.touch.ensures.touched) refl

pub returns-in_err-fill-clause-follow : goal.returns-in_err-fill-clause-follow
returns-in_err-fill-clause-follow c = follow_touched (same_place c.args.at) c.args.self.now (record { session = c.fill.new.self; values = c.touch.new.self }) c.fill.ensures.words (at_most (same_place c.args.at) c.args.self.now.values.values c.touch.new.self.values c.touch.ensures.touched) c.in_err-fill.ensures.err

pub returns-clause-follow : goal.returns-clause-follow
returns-clause-follow c =
    let d = state_of c.args.self.now in
    follow_changed (same_place c.args.at) c.args.self.now (record { session = c.fill.new.self; values = c.touch.new.self }) (with_content c.args.at c.args.text.now d.book) c.fill.ensures.words (at_most (same_place c.args.at) c.args.self.now.values.values c.touch.new.self.values c.touch.ensures.touched) c.in_ok-fill.ensures.ok refl
    (λ q out. other_place c.args.at q (content_given d.book.sheets c.args.at.sheet (content_of c.args.text.now)) d.book.cells (λ same. out (subst (IsMarkedIn c.touch.new.self.values) (sym same) c.in_ok-touch.ensures.marked)))
