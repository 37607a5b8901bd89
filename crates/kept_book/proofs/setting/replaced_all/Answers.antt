use Rattle.grid_store.specs.Grid.{cells_of, items_of}
use Rattle.kept_book.proofs.SetTogether.{more-stood}
use Rattle.kept_book.proofs.setting.replaced_all.Goals as goal

pub loop-at-preserved : goal.loop-at-preserved
loop-at-preserved c =
    more-stood (cells_of c.args.grid.now) c.args.cells.now c.loop-at.at-index c.loop-at-item.result (items_of c.loop-at.list) (items_of c.push_replaced.new.list) c.loop-at-test.true c.loop-at-item.is c.loop-at.invariant c.in_ok-push_replaced.ensures
