use Rattle.std.proofs.Common.{◌≡◌, ◌∙◌, ap, arith, length}
use Rattle.std.specs.FinMap.{from_entries}
use Rattle.range_table.specs.internal.Kept.{map_of}
use Rattle.range_table.specs.internal.Tables.{kept_below}
use Rattle.range_table.proofs.Numbers.{copied_next, nothing_below}
use Rattle.range_table.proofs.kept.KeptSummaries.copied.Goals as goal

pub numbers-init : goal.numbers-init
numbers-init c = c.in_ok-copy.ensures ∙ nothing_below c.args.self.now.table

pub numbers-preserved : goal.numbers-preserved
numbers-preserved c = copied_next c.args.self.now.table c.numbers.number (map_of c.numbers.copy) (map_of c.copy_one.new.copy) c.numbers.invariant c.in_ok-copy_one.ensures

pub returns : goal.returns
returns c =
    let all : c.numbers.number ≡ length c.args.self.now.table.keys.keys = omega (arith, c.numbers-test.false, c.len-number-end.ensures) in
    c.numbers.invariant ∙ ap (λ n. from_entries (kept_below c.args.self.now.table n)) all
