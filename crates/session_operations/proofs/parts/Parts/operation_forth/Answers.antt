use Rattle.std.proofs.Common.{◌≡◌, sym, subst, true, List, refl}
use Rattle.std.specs.Prelude.{IsTrue}
use Rattle.std.proofs.lemmas.Result.{err_from_is_err_and}
use Rattle.dep_graph.specs.Nodes.{has}
use Rattle.dep_graph.specs.declared.node.Node.{Node}
use Rattle.recalc_core.specs.Laws.{AreKnown}
use Rattle.kept_steps.specs.Turned.{to_redo}
use Rattle.session_values.specs.Shifted.{HasTouched, may_touch}
use Rattle.session_values.specs.Following.{book_of, words_in}
use Rattle.session_operations.proofs.Following.{follow_none, more_as}
use Rattle.session_operations.proofs.Stepped.{follow_forth, operation_sound}
use Rattle.session_operations.proofs.parts.Parts.operation_forth.Goals as goal

pub touched_by-requires : goal.touched_by-requires
touched_by-requires c = let x = c.args.self.now.session in operation_sound x (to_redo x) c.args.s.now c.requires.operation

pub shift-requires : goal.shift-requires
shift-requires c = let x = c.args.self.now.session in operation_sound x (to_redo x) c.args.s.now c.requires.operation

pub returns-in-Ok-clause-follow : goal.returns-in-Ok-clause-follow
returns-in-Ok-clause-follow c =
    let old = c.args.self.now in
    let x = old.session in
    let s = c.args.s.now in
    follow_forth s old (record { session = c.redo.new.self; values = c.shift.new.self }) c.items.result.now c.requires.fits c.requires.operation c.requires.names c.in-Ok.ensures.operation (more_as c.redo.ensures.words)
    (subst (λ (ns : List Node). HasTouched s (book_of x) (words_in x) ns) (sym c.items.ensures) c.in_ok-touched.ensures.touched)
    (subst (λ (ns : List Node). AreKnown (words_in x) ns) (sym c.items.ensures) c.in_ok-touched.ensures.known) c.in_ok-shift.ensures.follows

pub returns-in-Ok-clause-marks : goal.returns-in-Ok-clause-marks
returns-in-Ok-clause-marks c = record {
  touched = c.items.result.now;
  only = subst (λ (ns : List Node). (a : Node) → IsTrue (has a ns) → may_touch c.args.s.now a ≡ true) (sym c.items.ensures) c.in_ok-touched.ensures.only;
  marks = c.in_ok-shift.ensures.marks;
}

pub returns-in_err-touched-clause-marks : goal.returns-in_err-touched-clause-marks
returns-in_err-touched-clause-marks c = rw (err_from_is_err_and c.from_residual.result c.from_residual.ensures.1).1 tt

pub returns-in_err-touched-clause-line_err : goal.returns-in_err-touched-clause-line_err
returns-in_err-touched-clause-line_err c = rw (err_from_is_err_and c.from_residual.result c.from_residual.ensures.1).1 refl

pub returns-in_err-shift-clause-follow : goal.returns-in_err-shift-clause-follow
returns-in_err-shift-clause-follow c = follow_none c.args.self.now (record { session = c.args.self.now.session; values = c.shift.new.self }) c.in_err-shift.ensures.err

pub returns-in_err-shift-clause-marks : goal.returns-in_err-shift-clause-marks
returns-in_err-shift-clause-marks c = rw (err_from_is_err_and c.from_residual-in_err-shift.result c.from_residual-in_err-shift.ensures.1).1 tt

pub returns-in_err-shift-clause-line_err : goal.returns-in_err-shift-clause-line_err
returns-in_err-shift-clause-line_err c = rw (err_from_is_err_and c.from_residual-in_err-shift.result c.from_residual-in_err-shift.ensures.1).1 refl
