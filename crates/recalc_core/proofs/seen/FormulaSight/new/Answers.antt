use Rattle.std.proofs.Common.{sym, subst}
use Rattle.range_table.specs.Ranges.{table_of}
use Rattle.range_table.specs.Table.{AreFolds}
use Rattle.recalc_core.specs.internal.KeptValues.{kept_by}
use Rattle.recalc_core.specs.internal.Seen.{shown_at}
use Rattle.recalc_core.specs.declared.kept.KeptValues.{KeptValues}
use Rattle.recalc_core.proofs.seen.FormulaSight.new.Goals as goal

pub invariant_of-result : goal.invariant_of-result
invariant_of-result c = record { right = subst (λ (k : KeptValues). AreFolds (shown_at (kept_by k)) (table_of c.args.ranges).kept) (sym c.by.ensures) c.requires }
