use Rattle.std.proofs.Common.{◌∙◌, sym, subst, refl}
use Rattle.std.proofs.lemmas.Result.{err_from_is_err_and}
use Rattle.book_model.specs.Changes.{with_given_content}
use Rattle.book_model.specs.Content.{content_given}
use Rattle.book_model.specs.Operation as op
use Rattle.book_model.specs.Sound.{IsSound}
use Rattle.book_model.proofs.Accepted.{is_inside, none_hold}
use Rattle.cell_addr.specs.Place.{same_place}
use Rattle.session_values.proofs.Contents.{other_place}
use Rattle.session_values.proofs.MarkedCells.{at_most}
use Rattle.session_values.specs.Touched.{IsMarkedIn}
use Rattle.session_operations.specs.Seen.{state_of}
use Rattle.session_operations.specs.internal.Giving.{of_given}
use Rattle.session_operations.proofs.Following.{follow_changed, follow_touched}
use Rattle.session_operations.proofs.GivenCells.{given_cause, given_changed, given_next}
use Rattle.session_operations.proofs.Turning.{done_sound, next_refused}
use Rattle.session_operations.proofs.parts.Parts.give.Goals as goal

pub returns-in_err-check_given-clause-turns : goal.returns-in_err-check_given-clause-turns
returns-in_err-check_given-clause-turns c = λ text says.
    (let d = state_of c.args.self.now in
    let some = given_cause d c.args.at c.args.content c.args.long text c.requires.fits says ∙ c.in_err-check_given.ensures in
    let p = err_from_is_err_and c.from_residual.result c.from_residual.ensures.1 in
    rw (p.1, p.2) (some, next_refused (op.set c.args.at text) d _ some))

pub returns-clause-turns : goal.returns-clause-turns
returns-clause-turns c = λ text says.
    (let d = state_of c.args.self.now in
    let none = given_cause d c.args.at c.args.content c.args.long text c.requires.fits says ∙ c.in_ok-check_given.ensures in
    (none, tt, given_next d _ c.args.at c.args.content c.args.long text says none c.in_ok-fill_content.ensures.ok))

pub returns-in_err-fill_content-clause-fits : goal.returns-in_err-fill_content-clause-fits
returns-in_err-fill_content-clause-fits c = subst IsSound (sym c.in_err-fill_content.ensures.err) c.requires.fits

pub returns-clause-fits : goal.returns-clause-fits
returns-clause-fits c =
    let d = state_of c.args.self.now in
    let text = c.requires.says.0 in
    let says = c.requires.says.1 in
    let none = given_cause d c.args.at c.args.content c.args.long text c.requires.fits says ∙ c.in_ok-check_given.ensures in
    done_sound (op.set c.args.at text) d _ none (c.in_ok-fill_content.ensures.ok ∙ given_changed d c.args.at c.args.content c.args.long text says) c.requires.fits

pub returns-in_err-touch-clause-follow : goal.returns-in_err-touch-clause-follow
returns-in_err-touch-clause-follow c = follow_touched (same_place c.args.at) c.args.self.now (record { session = c.args.self.now.session; values = c.touch.new.self }) (λ i w h. h) (at_most (same_place c.args.at) c.args.self.now.values.values c.touch.new.self.values c.touch.ensures.touched) refl

pub returns-in_err-fill_content-clause-follow : goal.returns-in_err-fill_content-clause-follow
returns-in_err-fill_content-clause-follow c = follow_touched (same_place c.args.at) c.args.self.now (record { session = c.fill_content.new.self; values = c.touch.new.self }) c.fill_content.ensures.words (at_most (same_place c.args.at) c.args.self.now.values.values c.touch.new.self.values c.touch.ensures.touched) c.in_err-fill_content.ensures.err

pub returns-clause-follow : goal.returns-clause-follow
returns-clause-follow c =
    let d = state_of c.args.self.now in
    follow_changed (same_place c.args.at) c.args.self.now (record { session = c.fill_content.new.self; values = c.touch.new.self }) (with_given_content c.args.at c.args.content d.book) c.fill_content.ensures.words (at_most (same_place c.args.at) c.args.self.now.values.values c.touch.new.self.values c.touch.ensures.touched) c.in_ok-fill_content.ensures.ok refl
    (λ q out. other_place c.args.at q (content_given d.book.sheets c.args.at.sheet c.args.content) d.book.cells (λ same. out (subst (IsMarkedIn c.touch.new.self.values) (sym same) c.in_ok-touch.ensures.marked)))

pub fill_content-requires : goal.fill_content-requires
fill_content-requires c = record { inside = is_inside c.args.at (none_hold (of_given (state_of c.args.self.now) c.args.at c.args.long) c.in_ok-check_given.ensures).1.0 }
