use Rattle.std.proofs.Common.{◌+◌, ◌≤◌, ap, arith, drop, length}
use Rattle.std.proofs.Math.ListN.{drop_of_length-le}
use Rattle.kept_book.specs.Kept.{change_of, changes_of, line_of}
use Rattle.kept_book.proofs.ChangesInOrder.{parts-at}
use Rattle.session_values.specs.Following.{words_in}
use Rattle.session_values.proofs.PartsFollowed.{forth_done, forth_first, forth_more}
use Rattle.session_values.proofs.PartsMarked.{done_forth, first_forth, more_forth}
use Rattle.session_values.proofs.values.SessionValues.parts_turned_forth.Goals as goal

pub parts-init : goal.parts-init
parts-init c = let s = c.args.session.now in (forth_first (line_of s.book) (words_in s) (changes_of c.args.parts.now) c.args.self.now.values, first_forth s (changes_of c.args.parts.now) c.args.self.now.values)

pub parts-preserved : goal.parts-preserved
parts-preserved c =
    let s = c.args.session.now in
    let ps = c.args.parts.now in
    let i = c.parts.part-index in
    let p = c.part-item.result in (
      forth_more (line_of s.book) (words_in s) (changes_of ps) (changes_of (drop i ps)) (changes_of (drop (i + 1) ps)) (change_of p) c.args.self.now.values c.parts.self.values c.part_turned_forth.new.self.values
          (parts-at ps i p c.parts-test.true c.part-item.is) c.parts.invariant.0 c.part_turned_forth.ensures.follows,
      more_forth s (changes_of ps) (changes_of (drop i ps)) (changes_of (drop (i + 1) ps)) (change_of p) c.args.self.now.values c.parts.self.values c.part_turned_forth.new.self.values
          (parts-at ps i p c.parts-test.true c.part-item.is) c.parts.invariant.1 c.part_turned_forth.ensures.marks,
    )

pub returns-clause-follows : goal.returns-clause-follows
returns-clause-follows c =
    let s = c.args.session.now in
    let ps = c.args.parts.now in
    let all : length ps ≤ c.parts.part-index = omega (arith, c.parts-test.false) in
    forth_done (line_of s.book) (words_in s) (changes_of ps) (changes_of (drop c.parts.part-index ps)) c.args.self.now.values c.parts.self.values (ap changes_of (drop_of_length-le ps all)) c.parts.invariant.0

pub returns-clause-marks : goal.returns-clause-marks
returns-clause-marks c =
    let s = c.args.session.now in
    let ps = c.args.parts.now in
    let all : length ps ≤ c.parts.part-index = omega (arith, c.parts-test.false) in
    done_forth s (changes_of ps) (changes_of (drop c.parts.part-index ps)) c.args.self.now.values c.parts.self.values (ap changes_of (drop_of_length-le ps all)) c.parts.invariant.1
