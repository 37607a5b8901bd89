use Rattle.std.proofs.Common.{sym, subst, refl}
use Rattle.dep_graph.specs.declared.node.Node.{Node}
use Rattle.dep_graph.specs.declared.node.Node.TheVariants.{Cell}
use Rattle.range_table.specs.Ranges.{table_of}
use Rattle.range_table.specs.Table.{AreFolds, RangeTable}
use Rattle.recalc_core.specs.internal.Seen.{shown_at}
use Rattle.recalc_core.specs.internal.UnderWay.{DiffersAt}
use Rattle.recalc_core.proofs.Touched.{cell_touched, cells_alike}
use Rattle.recalc_core.proofs.settling.touch.Goals as goal

pub returns-in-Cell-clause-right : goal.returns-in-Cell-clause-right
returns-in-Cell-clause-right c = λ before after differs right.
    subst (λ (t : RangeTable). AreFolds (shown_at after) t.kept) (sym c.touch.ensures)
    (cell_touched c.in-Cell.at before after (table_of c.args.ranges.now).kept (subst (λ (a : Node). DiffersAt a before after) c.in-Cell.is differs) right)

pub returns-in-Name-clause-right : goal.returns-in-Name-clause-right
returns-in-Name-clause-right c = λ before after differs right.
    cells_alike before after (table_of c.args.ranges.now).kept (λ p. (subst (λ (a : Node). DiffersAt a before after) c.in-Name.is differs) (Cell p) refl) right

pub returns-in-Range-clause-right : goal.returns-in-Range-clause-right
returns-in-Range-clause-right c = λ before after differs right.
    cells_alike before after (table_of c.args.ranges.now).kept (λ p. (subst (λ (a : Node). DiffersAt a before after) c.in-Range.is differs) (Cell p) refl) right

pub returns-in-Whole-clause-right : goal.returns-in-Whole-clause-right
returns-in-Whole-clause-right c = λ before after differs right.
    cells_alike before after (table_of c.args.ranges.now).kept (λ p. (subst (λ (a : Node). DiffersAt a before after) c.in-Whole.is differs) (Cell p) refl) right
