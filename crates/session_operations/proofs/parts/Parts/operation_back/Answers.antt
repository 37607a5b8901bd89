use Rattle.std.proofs.Common.{◌≡◌, sym, subst, true, List, refl}
use Rattle.std.specs.Prelude.{IsTrue}
use Rattle.std.proofs.lemmas.Result.{err_from_is_err_and}
use Rattle.book_model.specs.Operation as op
use Rattle.dep_graph.specs.Nodes.{has, items_of}
use Rattle.dep_graph.specs.declared.node.Node.{Node}
use Rattle.session_values.proofs.GoingBack.{back_is_sound}
use Rattle.session_values.specs.Suspects.{AreRemoved}
use Rattle.recalc_core.specs.Laws.{AreKnown}
use Rattle.kept_steps.specs.Turned.{to_undo}
use Rattle.session_values.specs.Shifted.{HasTouched, may_touch}
use Rattle.session_values.specs.Following.{book_of, words_in}
use Rattle.session_values.specs.Shifting.{is_replaced_cell}
use Rattle.session_operations.specs.Seen.{state_of}
use Rattle.session_operations.specs.declared.parts.Parts.{Parts}
use Rattle.session_operations.proofs.Following.{follow_none}
use Rattle.session_operations.proofs.Stepped.{are_removed, follow_back, operation_sound}
use Rattle.session_operations.proofs.Turning.{done_sound}
use Rattle.session_operations.proofs.parts.Parts.operation_back.Goals as goal

pub touched_by-requires : goal.touched_by-requires
touched_by-requires c =
    let x = c.args.self.now.session in
    back_is_sound c.args.s.now c.args.back.now (operation_sound x (to_undo x) c.args.s.now c.requires.operation) c.requires.opposite

pub take_back-requires-clause-sound : goal.take_back-requires-clause-sound
take_back-requires-clause-sound c = let x = c.args.self.now.session in operation_sound x (to_undo x) c.args.s.now c.requires.operation

pub returns-in-Ok-clause-follow : goal.returns-in-Ok-clause-follow
returns-in-Ok-clause-follow c =
    let old = c.args.self.now in
    let x = old.session in
    let s = c.args.s.now in
    let back = c.args.back.now in
    let new : Parts = record { session = c.undo.new.self; values = c.take_back.new.self } in
    follow_back s back old new c.items.result.now c.items-2.result.now (done_sound op.undo (state_of old) (state_of new) c.requires.accepted c.in-Ok.ensures.ok c.requires.fits) c.requires.operation c.requires.opposite c.in-Ok.ensures.operation
    c.undo.ensures.words
    (subst (λ (ns : List Node). HasTouched back (book_of x) (words_in x) ns) (sym c.items.ensures) c.in_ok-touched.ensures.touched)
    (subst (λ (ns : List Node). AreKnown (words_in x) ns) (sym c.items.ensures) c.in_ok-touched.ensures.known)
    (subst (λ (ns : List Node). AreRemoved s (book_of c.undo.new.self) ns) (sym c.items-2.ensures) (are_removed x (state_of new) s (items_of c.in_ok-restored.restored) c.requires.operation c.in-Ok.ensures.lost c.in_ok-restored.ensures.listed))
    (subst (λ (ns : List Node). AreKnown (words_in x) ns) (sym c.items-2.ensures) (c.in_ok-restored.ensures.known (words_in x))) c.in_ok-take_back.ensures.follows

pub returns-in-Ok-clause-marks : goal.returns-in-Ok-clause-marks
returns-in-Ok-clause-marks c = record {
  touched = c.items.result.now;
  removed = c.items-2.result.now;
  only = subst (λ (ns : List Node). (a : Node) → IsTrue (has a ns) → may_touch c.args.back.now a ≡ true) (sym c.items.ensures) c.in_ok-touched.ensures.only;
  replaced = subst (λ (ns : List Node). (a : Node) → IsTrue (has a ns) → is_replaced_cell (to_undo c.args.self.now.session) a ≡ true) (sym c.items-2.ensures) c.in_ok-restored.ensures.only;
  marks = c.in_ok-take_back.ensures.marks;
}

pub returns-in_err-touched-clause-marks : goal.returns-in_err-touched-clause-marks
returns-in_err-touched-clause-marks c = rw (err_from_is_err_and c.from_residual.result c.from_residual.ensures.1).1 tt

pub returns-in_err-touched-clause-line_err : goal.returns-in_err-touched-clause-line_err
returns-in_err-touched-clause-line_err c = rw (err_from_is_err_and c.from_residual.result c.from_residual.ensures.1).1 refl

pub returns-in_err-restored-clause-marks : goal.returns-in_err-restored-clause-marks
returns-in_err-restored-clause-marks c = rw (err_from_is_err_and c.from_residual-in_err-restored.result c.from_residual-in_err-restored.ensures.1).1 tt

pub returns-in_err-restored-clause-line_err : goal.returns-in_err-restored-clause-line_err
returns-in_err-restored-clause-line_err c = rw (err_from_is_err_and c.from_residual-in_err-restored.result c.from_residual-in_err-restored.ensures.1).1 refl

pub returns-in_err-take_back-clause-follow : goal.returns-in_err-take_back-clause-follow
returns-in_err-take_back-clause-follow c = follow_none c.args.self.now (record { session = c.args.self.now.session; values = c.take_back.new.self }) c.in_err-take_back.ensures.err

pub returns-in_err-take_back-clause-marks : goal.returns-in_err-take_back-clause-marks
returns-in_err-take_back-clause-marks c = rw (err_from_is_err_and c.from_residual-in_err-take_back.result c.from_residual-in_err-take_back.ensures.1).1 tt

pub returns-in_err-take_back-clause-line_err : goal.returns-in_err-take_back-clause-line_err
returns-in_err-take_back-clause-line_err c = rw (err_from_is_err_and c.from_residual-in_err-take_back.result c.from_residual-in_err-take_back.ensures.1).1 refl
