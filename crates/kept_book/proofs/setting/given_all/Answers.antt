use Rattle.name_table.specs.Listed.{listed}
use Rattle.kept_book.proofs.SetTogether.{more-given}
use Rattle.kept_book.proofs.setting.given_all.Goals as goal

pub loop-at-preserved : goal.loop-at-preserved
loop-at-preserved c = record {
  entries = more-given (listed c.args.sheets.now) c.args.cells.now c.loop-at.at-index c.loop-at-item.result c.as_str.result.now c.loop-at.list.items c.push_given.new.list.items c.loop-at-test.true c.loop-at-item.is c.as_str.ensures
      c.loop-at.invariant.entries c.in_ok-push_given.ensures.entries;
  copied = c.in_ok-push_given.ensures.copied c.loop-at.invariant.copied;
}
