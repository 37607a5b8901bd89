use Rattle.std.proofs.Common.{◌≡◌, ◌∙◌, sym, subst, refl, inl, true, List}
use Rattle.std.specs.Prelude.{IsTrue}
use Rattle.std.proofs.lemmas.Result.{err_from_is_err_and}
use Rattle.book_model.specs.Operation as op
use Rattle.session_operations.specs.Seen.{state_of}
use Rattle.session_operations.proofs.Turning.{done_sound, next_done, sound_inside}
use Rattle.shift_core.specs.Form.{form_of}
use Rattle.book_model.proofs.Accepted.{sound_form}
use Rattle.dep_graph.specs.Nodes.{has}
use Rattle.dep_graph.specs.declared.node.Node.{Node}
use Rattle.session_values.specs.Shifted.{HasTouched, may_touch}
use Rattle.recalc_core.specs.Laws.{AreKnown}
use Rattle.session_values.specs.Following.{book_of, words_in}
use Rattle.session_operations.proofs.Following.{follow_none, follow_shift}
use Rattle.session_operations.proofs.parts.Parts.structural.Goals as goal

pub structural-requires-clause-sound : goal.structural-requires-clause-sound
structural-requires-clause-sound c = (sound_form (state_of c.args.self.now) (form_of c.args.s.now) c.in_ok-check_structural.ensures).0

pub structural-requires-clause-inside : goal.structural-requires-clause-inside
structural-requires-clause-inside c = sound_inside (state_of c.args.self.now) c.requires

pub returns-in-Ok-clause-turns : goal.returns-in-Ok-clause-turns
returns-in-Ok-clause-turns c =
    let d = state_of c.args.self.now in
    (c.in_ok-check_structural.ensures, tt, c.in-Ok.ensures.ok ∙ sym (next_done (op.structural c.args.s.now) d c.in_ok-check_structural.ensures))

pub returns-in-Ok-clause-fits : goal.returns-in-Ok-clause-fits
returns-in-Ok-clause-fits c = done_sound (op.structural c.args.s.now) (state_of c.args.self.now) _ c.in_ok-check_structural.ensures c.in-Ok.ensures.ok c.requires

pub returns-in-Ok-clause-follow : goal.returns-in-Ok-clause-follow
returns-in-Ok-clause-follow c =
    follow_shift c.args.s.now c.args.self.now (record { session = c.structural.new.self; values = c.shift.new.self }) c.items.result.now c.requires c.in_ok-check_structural.ensures c.in-Ok.ensures.ok c.structural.ensures.words
    (subst (λ (ns : List Node). HasTouched c.args.s.now (book_of c.args.self.now.session) (words_in c.args.self.now.session) ns) (sym c.items.ensures) c.in_ok-touched.ensures.touched)
    (subst (λ (ns : List Node). AreKnown (words_in c.args.self.now.session) ns) (sym c.items.ensures) c.in_ok-touched.ensures.known) c.in_ok-shift.ensures.follows

pub shift-requires : goal.shift-requires
shift-requires c = (sound_form (state_of c.args.self.now) (form_of c.args.s.now) c.in_ok-check_structural.ensures).0

pub returns-in-Ok-clause-marks : goal.returns-in-Ok-clause-marks
returns-in-Ok-clause-marks c = record {
  touched = c.items.result.now;
  only = subst (λ (ns : List Node). (a : Node) → IsTrue (has a ns) → may_touch c.args.s.now a ≡ true) (sym c.items.ensures) c.in_ok-touched.ensures.only;
  marks = c.in_ok-shift.ensures.marks;
}

pub returns-in_err-check_structural-clause-marks : goal.returns-in_err-check_structural-clause-marks
returns-in_err-check_structural-clause-marks c = rw (err_from_is_err_and c.from_residual.result c.from_residual.ensures.1).1 tt

pub returns-in_err-check_structural-clause-line_err : goal.returns-in_err-check_structural-clause-line_err
returns-in_err-check_structural-clause-line_err c = let p = err_from_is_err_and c.from_residual.result c.from_residual.ensures.1 in rw (p.1, p.2) refl

pub returns-in_err-touched-clause-marks : goal.returns-in_err-touched-clause-marks
returns-in_err-touched-clause-marks c = rw (err_from_is_err_and c.from_residual-in_err-touched.result c.from_residual-in_err-touched.ensures.1).1 tt

pub returns-in_err-touched-clause-line_err : goal.returns-in_err-touched-clause-line_err
returns-in_err-touched-clause-line_err c = let p = err_from_is_err_and c.from_residual-in_err-touched.result c.from_residual-in_err-touched.ensures.1 in rw (p.1, p.2) (inl refl)

pub returns-in_err-shift-clause-follow : goal.returns-in_err-shift-clause-follow
returns-in_err-shift-clause-follow c = follow_none c.args.self.now (record { session = c.args.self.now.session; values = c.shift.new.self }) c.in_err-shift.ensures.err

pub returns-in_err-shift-clause-marks : goal.returns-in_err-shift-clause-marks
returns-in_err-shift-clause-marks c = rw (err_from_is_err_and c.from_residual-in_err-shift.result c.from_residual-in_err-shift.ensures.1).1 tt

pub returns-in_err-shift-clause-line_err : goal.returns-in_err-shift-clause-line_err
returns-in_err-shift-clause-line_err c = let p = err_from_is_err_and c.from_residual-in_err-shift.result c.from_residual-in_err-shift.ensures.1 in rw (p.1, p.2) (inl refl)
