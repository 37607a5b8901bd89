use Rattle.std.proofs.Common.{subst, sym}
use Rattle.cell_addr.specs.Axis.{span_of}
use Rattle.cell_addr.specs.declared.axis.Axis.TheVariants.{Cols, Rows}
use Rattle.place_lines.specs.Spots.{AreNumbersOf, table_along}
use Rattle.dep_graph.specs.declared.node.Node.TheVariants.{Range}
use Rattle.dep_graph.specs.internal.Files.{IsSpotOf, in_area}
use Rattle.dep_graph.proofs.Adding.{on_ok}
use Rattle.dep_graph.proofs.FiledCells.{in_its_area, place_in_area}
use Rattle.dep_graph.proofs.LineRuns.{cells_spots}
use Rattle.dep_graph.proofs.files.Files.file_block.Goals as goal

pub returns-clause-filed : goal.returns-clause-filed
returns-clause-filed c =
    let b = c.args.block in
    let lines = c.args.lines.now in
    let rows : AreNumbersOf (table_along Rows lines b.sheet) (span_of Rows b) c.deref.result.now
    = subst (λ runs. AreNumbersOf (table_along Rows lines b.sheet) (span_of Rows b) runs) (sym c.deref.ensures.value)
    (subst (λ span. AreNumbersOf (table_along Rows lines b.sheet) span c.in_ok-rows.rows.items) c.span.ensures c.in_ok-rows.ensures) in
    let cols : AreNumbersOf (table_along Cols lines b.sheet) (span_of Cols b) c.deref-2.result.now
    = subst (λ runs. AreNumbersOf (table_along Cols lines b.sheet) (span_of Cols b) runs) (sym c.deref-2.ensures.value)
    (subst (λ span. AreNumbersOf (table_along Cols lines b.sheet) span c.in_ok-cols.cols.items) c.span-2.ensures c.in_ok-cols.ensures) in
    cells_spots (in_area b.sheet c.deref.result.now c.deref-2.result.now) (IsSpotOf lines (Range b)) c.args.filing c.args.self.now c.file_all.new.self
    (λ spot. place_in_area lines b c.deref.result.now c.deref-2.result.now rows cols spot) c.file_all.ensures.filed

pub returns-clause-found : goal.returns-clause-found
returns-clause-found c =
    let b = c.args.block in
    let lines = c.args.lines.now in
    let rows : AreNumbersOf (table_along Rows lines b.sheet) (span_of Rows b) c.deref.result.now
    = subst (λ runs. AreNumbersOf (table_along Rows lines b.sheet) (span_of Rows b) runs) (sym c.deref.ensures.value)
    (subst (λ span. AreNumbersOf (table_along Rows lines b.sheet) span c.in_ok-rows.rows.items) c.span.ensures c.in_ok-rows.ensures) in
    let cols : AreNumbersOf (table_along Cols lines b.sheet) (span_of Cols b) c.deref-2.result.now
    = subst (λ runs. AreNumbersOf (table_along Cols lines b.sheet) (span_of Cols b) runs) (sym c.deref-2.ensures.value)
    (subst (λ span. AreNumbersOf (table_along Cols lines b.sheet) span c.in_ok-cols.cols.items) c.span-2.ensures c.in_ok-cols.ensures) in
    on_ok c.file_all.result _ _ c.file_all.ensures.found (λ found spot has. found spot (in_its_area lines b c.deref.result.now c.deref-2.result.now rows cols spot has))
