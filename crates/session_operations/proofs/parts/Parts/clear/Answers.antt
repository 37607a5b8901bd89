use Rattle.std.proofs.Common.{◌∙◌, sym, subst, refl}
use Rattle.book_model.specs.Operation as op
use Rattle.book_model.specs.Sound.{IsSound}
use Rattle.session_operations.specs.Seen.{state_of}
use Rattle.session_operations.proofs.Turning.{done_sound, next_done, sound_inside}
use Rattle.book_model.specs.Changes.{emptied}
use Rattle.cell_addr.specs.Place.{covers}
use Rattle.session_values.proofs.Contents.{unemptied}
use Rattle.session_values.proofs.MarkedCells.{at_most}
use Rattle.session_operations.proofs.Following.{follow_changed, follow_touched}
use Rattle.session_operations.proofs.parts.Parts.clear.Goals as goal

pub clear-requires : goal.clear-requires
clear-requires c = record { inside = sound_inside (state_of c.args.self.now) c.requires }

pub returns-in_err-clear-clause-fits : goal.returns-in_err-clear-clause-fits
returns-in_err-clear-clause-fits c = subst IsSound (sym c.in_err-clear.ensures.err) c.requires

pub returns-clause-turns : goal.returns-clause-turns
returns-clause-turns c =
    let d = state_of c.args.self.now in
    (c.in_ok-check_clear.ensures, tt, c.in_ok-clear.ensures.ok ∙ sym (next_done (op.clear c.args.area) d c.in_ok-check_clear.ensures))

pub returns-clause-fits : goal.returns-clause-fits
returns-clause-fits c = done_sound (op.clear c.args.area) (state_of c.args.self.now) _ c.in_ok-check_clear.ensures c.in_ok-clear.ensures.ok c.requires

pub returns-in_err-touch_filled-clause-follow : goal.returns-in_err-touch_filled-clause-follow
returns-in_err-touch_filled-clause-follow c = follow_touched (covers c.args.area) c.args.self.now (record { session = c.args.self.now.session; values = c.touch_filled.new.values }) (λ i w h. h) (at_most (covers c.args.area) c.args.self.now.values.values c.touch_filled.new.values.values c.touch_filled.ensures.touched) refl

pub returns-in_err-clear-clause-follow : goal.returns-in_err-clear-clause-follow
returns-in_err-clear-clause-follow c = follow_touched (covers c.args.area) c.args.self.now (record { session = c.clear.new.self; values = c.touch_filled.new.values }) c.clear.ensures.words (at_most (covers c.args.area) c.args.self.now.values.values c.touch_filled.new.values.values c.touch_filled.ensures.touched) c.in_err-clear.ensures.err

pub returns-clause-follow : goal.returns-clause-follow
returns-clause-follow c =
    let d = state_of c.args.self.now in
    follow_changed (covers c.args.area) c.args.self.now (record { session = c.clear.new.self; values = c.touch_filled.new.values }) (emptied (covers c.args.area) d.book) c.clear.ensures.words (at_most (covers c.args.area) c.args.self.now.values.values c.touch_filled.new.values.values c.touch_filled.ensures.touched) c.in_ok-clear.ensures.ok refl
    (λ q out. unemptied (covers c.args.area) d.book q (λ covered there. out (c.in_ok-touch_filled.ensures.marked q covered there)))
