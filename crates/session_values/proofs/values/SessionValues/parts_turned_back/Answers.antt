use Rattle.std.proofs.Common.{◌≡◌, ◌<◌, ◌+◌, ◌-◌, ◌∙◌, sym, ap, subst, ℕ, arith, length, take, drop, ◌∷◌}
use Rattle.std.proofs.Math.Seq.{drop-length, take-length}
use Rattle.kept_book.specs.Kept.{change_of, changes_of, line_of}
use Rattle.kept_book.proofs.ChangesInOrder.{parts-at, parts-before}
use Rattle.session_values.specs.Following.{words_in}
use Rattle.session_values.proofs.PartsFollowed.{back_done, back_first, back_more}
use Rattle.session_values.specs.Parts.{MarksPartsBack}
use Rattle.session_values.proofs.PartsMarked.{more_back, none_back}
use Rattle.session_values.proofs.values.SessionValues.parts_turned_back.Goals as goal

pub loop-index-init : goal.loop-index-init
loop-index-init c =
    let s = c.args.session.now in
    let ps = c.args.parts.now in (
      back_first (line_of s.book) (words_in s) (changes_of ps) (changes_of (take (length ps) ps)) c.args.self.now.values (ap changes_of (take-length ps)),
      none_back s (changes_of (drop (length ps) ps)) c.args.self.now.values (ap changes_of (drop-length ps)),
    )

pub loop-index-preserved : goal.loop-index-preserved
loop-index-preserved c =
    let s = c.args.session.now in
    let ps = c.args.parts.now in
    let i = c.loop-index.index - 1 in
    let p = c.index-parts-index.result in
    let last : c.loop-index.index ≡ i + 1 = omega (arith, c.loop-index-test.true) in
    let below : i < length ps = omega (arith, c.loop-index-test.true, c.loop-index.auto.index) in (
      back_more (line_of s.book) (words_in s) (changes_of ps) (changes_of (take c.loop-index.index ps)) (changes_of (take i ps)) (change_of p) c.args.self.now.values c.loop-index.self.values c.part_turned_back.new.self.values
          (ap (λ n. changes_of (take n ps)) last ∙ parts-before ps i p below c.index-parts-index.is) c.loop-index.invariant.0 c.part_turned_back.ensures.follows,
      more_back s (changes_of (drop i ps)) (changes_of (drop c.loop-index.index ps)) (change_of p) c.args.self.now.values c.loop-index.self.values c.part_turned_back.new.self.values
          (parts-at ps i p below c.index-parts-index.is ∙ ap (λ n. change_of p ∷ changes_of (drop n ps)) (sym last)) c.loop-index.invariant.1 c.part_turned_back.ensures.marks,
    )

pub returns-clause-follows : goal.returns-clause-follows
returns-clause-follows c =
    let s = c.args.session.now in
    let ps = c.args.parts.now in
    let none : c.loop-index.index ≡ 0 = omega (arith, c.loop-index-test.false) in
    back_done (line_of s.book) (words_in s) (changes_of ps) (changes_of (take c.loop-index.index ps)) c.args.self.now.values c.loop-index.self.values (ap (λ n. changes_of (take n ps)) none) c.loop-index.invariant.0

pub returns-clause-marks : goal.returns-clause-marks
returns-clause-marks c =
    let s = c.args.session.now in
    let ps = c.args.parts.now in
    let none : c.loop-index.index ≡ 0 = omega (arith, c.loop-index-test.false) in
    subst (λ (n : ℕ). MarksPartsBack s (changes_of (drop n ps)) c.args.self.now.values c.loop-index.self.values) none c.loop-index.invariant.1
