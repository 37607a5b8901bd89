use Rattle.std.proofs.Common.{sym, subst, refl}
use Rattle.cell_addr.specs.Place.{covers}
use Rattle.shift_core.specs.Carried.{destination}
use Rattle.book_model.specs.Sound.{IsSound}
use Rattle.session_operations.specs.Seen.{state_of}
use Rattle.session_operations.proofs.Pasting.{pasted-sound}
use Rattle.session_operations.proofs.Turning.{sound_inside}
use Rattle.session_values.proofs.MarkedCells.{at_most, at_most_on}
use Rattle.session_values.specs.Touched.{AreTouched, AreTouchedAtMost}
use Rattle.session_operations.specs.internal.Touched.{AreFilledMarked}
use Rattle.session_operations.proofs.Following.{follow_pasted, follow_touched}
use Rattle.session_operations.proofs.parts.Parts.paste.Goals as goal

pub paste-requires-clause-inside : goal.paste-requires-clause-inside
paste-requires-clause-inside c = sound_inside (state_of c.args.self.now) c.requires.fits

pub returns-in_err-paste-clause-fits : goal.returns-in_err-paste-clause-fits
returns-in_err-paste-clause-fits c = subst IsSound (sym c.in_err-paste.ensures.err) c.requires.fits

pub returns-clause-fits : goal.returns-clause-fits
returns-clause-fits c =
    let d = state_of c.args.self.now in
    pasted-sound d (state_of (record { session = c.paste.new.self; values = c.touch_filled_or_forget.new.values })) c.args.area c.args.cells.now c.args.at c.requires.fits c.requires.block c.requires.copied c.in_ok-check_copied.ensures.cause.0 c.in_ok-paste.ensures.ok refl

pub returns-in_err-touch_filled-clause-follow : goal.returns-in_err-touch_filled-clause-follow
returns-in_err-touch_filled-clause-follow c =
    let there = destination c.args.area c.args.at in
    follow_touched (covers there) c.args.self.now (record { session = c.args.self.now.session; values = c.touch_filled.new.values }) (λ i w h. h)
    (at_most (covers there) c.args.self.now.values.values c.touch_filled.new.values.values (subst (λ b. AreTouched (covers b) c.args.self.now.values.values c.touch_filled.new.values.values) c.destination-there.ensures c.touch_filled.ensures.touched)) refl

pub returns-in_err-paste-clause-follow : goal.returns-in_err-paste-clause-follow
returns-in_err-paste-clause-follow c =
    let there = destination c.args.area c.args.at in
    follow_touched (covers there) c.args.self.now (record { session = c.paste.new.self; values = c.touch_filled.new.values }) c.paste.ensures.words
    (at_most (covers there) c.args.self.now.values.values c.touch_filled.new.values.values (subst (λ b. AreTouched (covers b) c.args.self.now.values.values c.touch_filled.new.values.values) c.destination-there.ensures c.touch_filled.ensures.touched)) c.in_err-paste.ensures.err

pub returns-clause-follow : goal.returns-clause-follow
returns-clause-follow c =
    let there = destination c.args.area c.args.at in
    follow_pasted c.args.area c.args.cells.now c.args.at c.requires.block c.args.self.now (record { session = c.paste.new.self; values = c.touch_filled_or_forget.new.values }) c.touch_filled.new.values.values c.paste.ensures.words c.in_ok-paste.ensures.ok
    (subst (λ b. AreTouched (covers b) c.args.self.now.values.values c.touch_filled.new.values.values) c.destination-there.ensures c.touch_filled.ensures.touched)
    (subst (λ b. AreTouchedAtMost (covers b) c.touch_filled.new.values.values c.touch_filled_or_forget.new.values.values) c.destination-there.ensures c.touch_filled_or_forget.ensures.touched)
    (subst (λ b. AreFilledMarked b c.args.self.now.session c.touch_filled.new.values.values) c.destination-there.ensures c.in_ok-touch_filled.ensures.marked)
    (subst (λ b. AreFilledMarked b c.paste.new.self c.touch_filled_or_forget.new.values.values) c.destination-there.ensures c.touch_filled_or_forget.ensures.marked)

pub returns-clause-touched : goal.returns-clause-touched
returns-clause-touched c =
    let there = covers (destination c.args.area c.args.at) in
    let old = c.args.self.now.values.values in
    let between = c.touch_filled.new.values.values in
    let new = c.touch_filled_or_forget.new.values.values in
    at_most_on there old between new
    (at_most there old between (subst (λ b. AreTouched (covers b) old between) c.destination-there.ensures c.touch_filled.ensures.touched))
    (subst (λ b. AreTouchedAtMost (covers b) between new) c.destination-there.ensures c.touch_filled_or_forget.ensures.touched)
