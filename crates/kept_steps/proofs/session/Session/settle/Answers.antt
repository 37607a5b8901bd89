use Rattle.std.proofs.Common.{◌≡◌, ◌∙◌, ap, arith, Some}
use Rattle.shift_line.specs.Track.{last}
use Rattle.kept_book.specs.Kept.{frame_of}
use Rattle.kept_steps.specs.Timeline.{timeline_of}
use Rattle.kept_steps.proofs.Settled.{base-cursor, comes-to, settling, stored-from}
use Rattle.kept_steps.proofs.session.Session.settle.Goals as goal

pub settle-requires-clause-cursor : goal.settle-requires-clause-cursor
settle-requires-clause-cursor c =
    let s = c.args.self.now in
    let upto = base-cursor (timeline_of s.book) s.book.lazy.line.first (last s.book.lazy.line) (frame_of s.book) s.steps s.batch s.fits in
    let same : c.keep_only.new.book.lazy.line.cursor ≡ s.book.lazy.line.cursor = ap (λ l. l.cursor) c.keep_only.ensures.line in
    omega (arith, upto, same, c.requires)

pub invariant_of-self : goal.invariant_of-self
invariant_of-self c = record { fits = (settling c.args.self.now.book c.keep_only.new.book c.settle.new.book c.args.self.now.steps c.args.self.now.batch c.args.self.now.suspended c.args.self.now.next_sheet c.args.self.now.fits c.in_ok-listed.listed c.in_ok-ids.ids c.args.base c.requires c.in_ok-listed.ensures c.in_ok-ids.ensures c.keep_only.ensures.kept c.keep_only.ensures.line c.keep_only.ensures.frame c.keep_only.ensures.names c.settle.result c.settle.ensures.line c.settle.ensures.standings c.settle.ensures.line_err c.settle.ensures.err c.settle.ensures.grid c.settle.ensures.names).0 }

pub returns-in_err-settle-clause-state : goal.returns-in_err-settle-clause-state
returns-in_err-settle-clause-state c = (settling c.args.self.now.book c.keep_only.new.book c.settle.new.book c.args.self.now.steps c.args.self.now.batch c.args.self.now.suspended c.args.self.now.next_sheet c.args.self.now.fits c.in_ok-listed.listed c.in_ok-ids.ids c.args.base c.requires c.in_ok-listed.ensures c.in_ok-ids.ensures c.keep_only.ensures.kept c.keep_only.ensures.line c.keep_only.ensures.frame c.keep_only.ensures.names c.settle.result c.settle.ensures.line c.settle.ensures.standings c.settle.ensures.line_err c.settle.ensures.err c.settle.ensures.grid c.settle.ensures.names).1

pub returns-in_err-settle-clause-kept : goal.returns-in_err-settle-clause-kept
returns-in_err-settle-clause-kept c = λ id h used is from upto. stored-from c.args.self.now.book c.keep_only.new.book c.args.self.now.steps c.args.self.now.batch c.args.self.now.fits c.in_ok-listed.listed c.in_ok-ids.ids c.args.base c.requires c.in_ok-listed.ensures c.in_ok-ids.ensures c.keep_only.ensures.kept c.settle.new.book.lazy c.settle.ensures.kept id h used is (omega (arith, from, c.requires))

pub returns-clause-state : goal.returns-clause-state
returns-clause-state c = (settling c.args.self.now.book c.keep_only.new.book c.settle.new.book c.args.self.now.steps c.args.self.now.batch c.args.self.now.suspended c.args.self.now.next_sheet c.args.self.now.fits c.in_ok-listed.listed c.in_ok-ids.ids c.args.base c.requires c.in_ok-listed.ensures c.in_ok-ids.ensures c.keep_only.ensures.kept c.keep_only.ensures.line c.keep_only.ensures.frame c.keep_only.ensures.names c.settle.result c.settle.ensures.line c.settle.ensures.standings c.settle.ensures.line_err c.settle.ensures.err c.settle.ensures.grid c.settle.ensures.names).1

pub returns-clause-kept : goal.returns-clause-kept
returns-clause-kept c = λ id h used is from upto. stored-from c.args.self.now.book c.keep_only.new.book c.args.self.now.steps c.args.self.now.batch c.args.self.now.fits c.in_ok-listed.listed c.in_ok-ids.ids c.args.base c.requires c.in_ok-listed.ensures c.in_ok-ids.ensures c.keep_only.ensures.kept c.settle.new.book.lazy c.settle.ensures.kept id h used is (omega (arith, from, c.requires))

pub returns-clause-placed : goal.returns-clause-placed
returns-clause-placed c = λ id h used is under. comes-to c.args.self.now.book c.keep_only.new.book c.args.self.now.steps c.args.self.now.batch c.args.self.now.fits c.in_ok-listed.listed c.in_ok-ids.ids c.args.base c.requires c.in_ok-listed.ensures c.in_ok-ids.ensures c.keep_only.ensures.kept c.settle.new.book.lazy c.in_ok-settle.ensures.placed id h used is (omega (arith, under, c.requires)) ∙ ap Some c.requires
