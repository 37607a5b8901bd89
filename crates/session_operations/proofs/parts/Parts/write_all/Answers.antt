use Rattle.std.proofs.Common.{◌∙◌, sym, subst, refl}
use Rattle.std.proofs.lemmas.Result.{err_from_is_err_and}
use Rattle.book_model.specs.Changes.{with_contents}
use Rattle.book_model.specs.Operation as op
use Rattle.book_model.specs.Refusals.{causes}
use Rattle.book_model.specs.Sound.{IsSound}
use Rattle.session_values.proofs.MarkedCells.{at_most}
use Rattle.session_values.specs.Touched.{is_place_of}
use Rattle.session_operations.specs.Turns.{NoAnswer}
use Rattle.session_operations.specs.Seen.{state_of}
use Rattle.session_operations.proofs.Causes.{reads_turn}
use Rattle.session_operations.proofs.Following.{follow_changed, follow_touched}
use Rattle.session_operations.proofs.Turning.{done_sound, next_done}
use Rattle.session_operations.proofs.WrittenCells.{unmarked_stays, written_inside}
use Rattle.session_operations.proofs.parts.Parts.write_all.Goals as goal

pub fill_all-requires : goal.fill_all-requires
fill_all-requires c = record { inside = written_inside (state_of c.args.self.now) c.args.cells.now c.in_ok-check_write_all.ensures.0; distinct = c.requires.distinct }

pub returns-in_err-check_write_all-clause-turns : goal.returns-in_err-check_write_all-clause-turns
returns-in_err-check_write_all-clause-turns c =
    let d = state_of c.args.self.now in
    let o = op.write_all c.args.cells.now in
    let p = err_from_is_err_and c.from_residual.result c.from_residual.ensures.1 in
    let turned = reads_turn {X = Unit {0}} {Y = Unit {0}} o d (causes o d) (λ x. Unit {0}) NoAnswer _ refl c.in_err-check_write_all.ensures in
    rw (p.1, p.2) turned

pub returns-clause-turns : goal.returns-clause-turns
returns-clause-turns c =
    let d = state_of c.args.self.now in
    (c.in_ok-check_write_all.ensures.0, tt, c.in_ok-fill_all.ensures.ok ∙ sym (next_done (op.write_all c.args.cells.now) d c.in_ok-check_write_all.ensures.0))

pub returns-in_err-fill_all-clause-fits : goal.returns-in_err-fill_all-clause-fits
returns-in_err-fill_all-clause-fits c = subst IsSound (sym c.in_err-fill_all.ensures.err) c.requires.fits

pub returns-clause-fits : goal.returns-clause-fits
returns-clause-fits c = done_sound (op.write_all c.args.cells.now) (state_of c.args.self.now) _ c.in_ok-check_write_all.ensures.0 c.in_ok-fill_all.ensures.ok c.requires.fits

pub returns-in_err-touch_cells-clause-follow : goal.returns-in_err-touch_cells-clause-follow
returns-in_err-touch_cells-clause-follow c =
    let there = is_place_of (λ e. e.0) c.args.cells.now in
    follow_touched there c.args.self.now (record { session = c.args.self.now.session; values = c.touch_cells.new.self }) (λ i w h. h) (at_most there c.args.self.now.values.values c.touch_cells.new.self.values c.touch_cells.ensures.touched) refl

pub returns-in_err-fill_all-clause-follow : goal.returns-in_err-fill_all-clause-follow
returns-in_err-fill_all-clause-follow c =
    let there = is_place_of (λ e. e.0) c.args.cells.now in
    follow_touched there c.args.self.now (record { session = c.fill_all.new.self; values = c.touch_cells.new.self }) c.fill_all.ensures.words (at_most there c.args.self.now.values.values c.touch_cells.new.self.values c.touch_cells.ensures.touched) c.in_err-fill_all.ensures.err

pub returns-clause-follow : goal.returns-clause-follow
returns-clause-follow c =
    let d = state_of c.args.self.now in
    let cells = c.args.cells.now in
    let there = is_place_of (λ e. e.0) cells in
    follow_changed there c.args.self.now (record { session = c.fill_all.new.self; values = c.touch_cells.new.self }) (with_contents cells d.book) c.fill_all.ensures.words (at_most there c.args.self.now.values.values c.touch_cells.new.self.values c.touch_cells.ensures.touched) c.in_ok-fill_all.ensures.ok refl
    (λ q out. unmarked_stays d.book.sheets cells d.book.cells q (λ listed. out (c.in_ok-touch_cells.ensures.marked q listed)))
