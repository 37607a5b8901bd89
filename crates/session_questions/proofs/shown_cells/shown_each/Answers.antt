use Rattle.std.proofs.Common.{◌∙◌, sym, ap, subst}
use Rattle.std.proofs.lemmas.List.{take_all}
use Rattle.session_operations.specs.Following.{book_of}
use Rattle.session_questions.specs.internal.ShownCells.{Holds, shown_each}
use Rattle.session_questions.proofs.ShownCells.{one_more}
use Rattle.session_questions.proofs.shown_cells.shown_each.Goals as goal

pub cells-preserved : goal.cells-preserved
cells-preserved c session customs today stands shows held =
    let items = c.args.cells.now in
    let i = c.cells.at-index in
    let item = c.cells-item.result in
    let here = subst (λ e. Holds stands (book_of session) e.0 e.1.now) (sym c.cells-item.is) (held i item c.cells-test.true) in
    one_more (book_of session) customs today items i item c.cells.list.items c.push.new.self.items c.in_ok-shown.shown c.cells-test.true c.cells-item.is (c.cells.invariant session customs today stands shows held)
    (c.in_ok-shown.ensures session customs today stands shows here) c.in_ok-push.ensures.items

pub returns : goal.returns
returns c session customs today stands shows held =
    c.cells.invariant session customs today stands shows held ∙ ap (shown_each (book_of session) customs today) (take_all c.cells.at-index c.args.cells.now c.cells-test.false)
