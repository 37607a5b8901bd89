use Rattle.std.proofs.Common.{subst}
use Rattle.std.specs.Prelude.{IfOk}
use Rattle.touch_index.specs.Kept.{FindsBlocks, FindsCells}
use Rattle.touch_index.proofs.Found.{if_ok}
use Rattle.touch_index.proofs.index.TouchIndex.touched.Goals as goal

pub returns-in-Lines-clause-cells : goal.returns-in-Lines-clause-cells
returns-in-Lines-clause-cells c = subst (λ f. IfOk c.edited.result (λ found. FindsCells c.args.self.now c.args.lines.now f found.items)) c.in-Lines.ensures c.edited.ensures.cells

pub returns-in-Lines-clause-blocks : goal.returns-in-Lines-clause-blocks
returns-in-Lines-clause-blocks c = subst (λ f. IfOk c.edited.result (λ found. FindsBlocks c.args.self.now c.args.lines.now f found.items)) c.in-Lines.ensures c.edited.ensures.blocks

pub returns-in-Cells-clause-cells : goal.returns-in-Cells-clause-cells
returns-in-Cells-clause-cells c = subst (λ f. IfOk c.moved.result (λ found. FindsCells c.args.self.now c.args.lines.now f found.items)) c.in-Cells.ensures c.moved.ensures.cells

pub returns-in-Cells-clause-blocks : goal.returns-in-Cells-clause-blocks
returns-in-Cells-clause-blocks c = subst (λ f. IfOk c.moved.result (λ found. FindsBlocks c.args.self.now c.args.lines.now f found.items)) c.in-Cells.ensures c.moved.ensures.blocks

pub returns-in-Sheet-clause-cells : goal.returns-in-Sheet-clause-cells
returns-in-Sheet-clause-cells c = subst (λ f. IfOk c.dropped.result (λ found. FindsCells c.args.self.now c.args.lines.now f found.items)) c.in-Sheet.ensures
    (if_ok c.dropped.result _ _ c.dropped.ensures.cells (λ found finds. finds c.args.lines.now))

pub returns-in-Sheet-clause-blocks : goal.returns-in-Sheet-clause-blocks
returns-in-Sheet-clause-blocks c = subst (λ f. IfOk c.dropped.result (λ found. FindsBlocks c.args.self.now c.args.lines.now f found.items)) c.in-Sheet.ensures
    (if_ok c.dropped.result _ _ c.dropped.ensures.blocks (λ found finds. finds c.args.lines.now))
