-- The table is parted by the number, and the search finds where.
use Rattle.std.proofs.Common.{ℤ, rules}
use Rattle.std.specs.Prelude.{int_le}
use Rattle.std.proofs.lemmas.List.Sorted.{IsPartitionPoint-from_clause}
use Rattle.tariffs.proofs.Risen.{risen-parted}
use Rattle.tariffs.proofs.search.begun.Goals as goal

pub returns-clause-before : goal.returns-clause-before
returns-clause-before c =
    let parted = risen-parted c.args.x c.args.table.now c.requires in
    (IsPartitionPoint-from_clause (λ (row : ℤ × ℤ). int_le row.0 c.args.x) _ _ c.partition_point.ensures.partitioned parted (λ a r q k. search rules)).0

pub returns-clause-behind : goal.returns-clause-behind
returns-clause-behind c =
    let parted = risen-parted c.args.x c.args.table.now c.requires in
    (IsPartitionPoint-from_clause (λ (row : ℤ × ℤ). int_le row.0 c.args.x) _ _ c.partition_point.ensures.partitioned parted (λ a r q k. search rules)).1
