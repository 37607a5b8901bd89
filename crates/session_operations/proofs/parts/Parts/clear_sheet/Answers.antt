use Rattle.std.proofs.Common.{◌∙◌, sym, subst, Bool, refl, ◌==◌}
use Rattle.book_model.specs.Operation as op
use Rattle.book_model.specs.Sound.{IsSound}
use Rattle.session_operations.specs.Seen.{state_of}
use Rattle.session_operations.proofs.Turning.{covers_same, done_sound, filled_inside, next_done, sound_inside}
use Rattle.session_operations.specs.Kept.{whole_sheet}
use Rattle.session_operations.specs.internal.Touched.{AreFilledMarked}
use Rattle.book_model.specs.Changes.{emptied}
use Rattle.cell_addr.specs.Place.{covers}
use Rattle.cell_addr.specs.declared.place.Place.{Place}
use Rattle.session_values.proofs.Contents.{unemptied}
use Rattle.session_values.proofs.MarkedCells.{at_most}
use Rattle.session_values.specs.Touched.{AreTouched}
use Rattle.session_operations.proofs.Following.{follow_changed, follow_touched}
use Rattle.session_operations.proofs.parts.Parts.clear_sheet.Goals as goal

pub clear_sheet-requires : goal.clear_sheet-requires
clear_sheet-requires c = record { inside = sound_inside (state_of c.args.self.now) c.requires }

pub returns-in_err-clear_sheet-clause-fits : goal.returns-in_err-clear_sheet-clause-fits
returns-in_err-clear_sheet-clause-fits c = subst IsSound (sym c.in_err-clear_sheet.ensures.err) c.requires

pub returns-clause-turns : goal.returns-clause-turns
returns-clause-turns c =
    let d = state_of c.args.self.now in
    (c.in_ok-check_sheet.ensures, tt, c.in_ok-clear_sheet.ensures.ok ∙ sym (next_done (op.clear_sheet c.args.sheet) d c.in_ok-check_sheet.ensures))

pub returns-clause-fits : goal.returns-clause-fits
returns-clause-fits c = done_sound (op.clear_sheet c.args.sheet) (state_of c.args.self.now) _ c.in_ok-check_sheet.ensures c.in_ok-clear_sheet.ensures.ok c.requires

pub returns-in_err-touch_filled-clause-follow : goal.returns-in_err-touch_filled-clause-follow
returns-in_err-touch_filled-clause-follow c = follow_touched (covers (whole_sheet c.args.sheet)) c.args.self.now (record { session = c.args.self.now.session; values = c.touch_filled.new.values }) (λ i w h. h) (at_most (covers (whole_sheet c.args.sheet)) c.args.self.now.values.values c.touch_filled.new.values.values (subst (λ b. AreTouched (covers b) c.args.self.now.values.values c.touch_filled.new.values.values) c.whole_sheet.ensures c.touch_filled.ensures.touched)) refl

pub returns-in_err-clear_sheet-clause-follow : goal.returns-in_err-clear_sheet-clause-follow
returns-in_err-clear_sheet-clause-follow c = follow_touched (covers (whole_sheet c.args.sheet)) c.args.self.now (record { session = c.clear_sheet.new.self; values = c.touch_filled.new.values }) c.clear_sheet.ensures.words (at_most (covers (whole_sheet c.args.sheet)) c.args.self.now.values.values c.touch_filled.new.values.values (subst (λ b. AreTouched (covers b) c.args.self.now.values.values c.touch_filled.new.values.values) c.whole_sheet.ensures c.touch_filled.ensures.touched)) c.in_err-clear_sheet.ensures.err

pub returns-clause-follow : goal.returns-clause-follow
returns-clause-follow c =
    let d = state_of c.args.self.now in
    let on_sheet : Place → Bool = λ p. p.sheet == c.args.sheet in
    let marked = subst (λ b. AreFilledMarked b c.args.self.now.session c.touch_filled.new.values.values) c.whole_sheet.ensures c.in_ok-touch_filled.ensures.marked in
    follow_changed (covers (whole_sheet c.args.sheet)) c.args.self.now (record { session = c.clear_sheet.new.self; values = c.touch_filled.new.values }) (emptied on_sheet d.book) c.clear_sheet.ensures.words (at_most (covers (whole_sheet c.args.sheet)) c.args.self.now.values.values c.touch_filled.new.values.values (subst (λ b. AreTouched (covers b) c.args.self.now.values.values c.touch_filled.new.values.values) c.whole_sheet.ensures c.touch_filled.ensures.touched)) c.in_ok-clear_sheet.ensures.ok refl
    (λ q out. unemptied on_sheet d.book q (λ there filled. out (marked q (covers_same c.args.sheet q (filled_inside d c.requires q filled) ∙ there) filled)))
