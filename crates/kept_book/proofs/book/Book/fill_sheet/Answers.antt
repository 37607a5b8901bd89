use Rattle.std.proofs.Common.{◌≡◌, ◌∙◌, ◌-◌, ◌+◌, sym, ap, refl, arith}
use Rattle.shift_line.specs.Track.{with_spare}
use Rattle.kept_book.specs.Kept.{workbook}
use Rattle.kept_book.proofs.GivenBooks.{given_from, given_none, given_one}
use Rattle.kept_book.proofs.book.Book.fill_sheet.Goals as goal

pub loop-index-init : goal.loop-index-init
loop-index-init c = record { book = given_none c.args.sheet c.args.cells.now (workbook c.args.self.now); stand = c.requires.stand; line = refl }

pub fill_given-requires-clause-stand : goal.fill_given-requires-clause-stand
fill_given-requires-clause-stand c = c.loop-index.invariant.stand

pub loop-index-preserved : goal.loop-index-preserved
loop-index-preserved c =
    let d = workbook c.args.self.now in
    let i = c.loop-index.index - 1 in
    let last : i + 1 ≡ c.loop-index.index = omega (arith, c.loop-index-test.true) in
    record {
      book = given_one c.args.sheet c.args.cells.now i c.index-cells-index.result d (workbook c.loop-index.self) (workbook c.fill_given.new.self)
          (omega (arith, c.loop-index-test.true, c.loop-index.auto.index)) c.index-cells-index.is (c.loop-index.invariant.book ∙ ap (λ k. given_from c.args.sheet c.args.cells.now k d) (sym last)) c.in_ok-fill_given.ensures.ok;
      stand = c.in_ok-fill_given.ensures.stand;
      line = c.fill_given.ensures.line ∙ ap (with_spare c.fill_given.new.self.lazy.line.spare) c.loop-index.invariant.line;
    }

pub returns-clause-ok : goal.returns-clause-ok
returns-clause-ok c =
    let first : c.loop-index.index ≡ 0 = omega (arith, c.loop-index-test.false) in
    c.loop-index.invariant.book ∙ ap (λ k. given_from c.args.sheet c.args.cells.now k (workbook c.args.self.now)) first

pub returns-clause-stand : goal.returns-clause-stand
returns-clause-stand c = c.loop-index.invariant.stand

pub returns-clause-line : goal.returns-clause-line
returns-clause-line c = c.loop-index.invariant.line

pub returns-in_err-fill_given-clause-line : goal.returns-in_err-fill_given-clause-line
returns-in_err-fill_given-clause-line c = c.fill_given.ensures.line ∙ ap (with_spare c.fill_given.new.self.lazy.line.spare) c.loop-index.invariant.line
