use Rattle.std.proofs.Common.{subst, sym}
use Rattle.std.proofs.lemmas.Result.{on_ok_weaker}
use Rattle.cell_addr.specs.Axis.{span_of}
use Rattle.cell_addr.specs.declared.axis.Axis.TheVariants.{Cols, Rows}
use Rattle.place_lines.specs.Spots.{AreNumbersOf, table_along}
use Rattle.range_table.proofs.Finding.{finds_its_cells}
use Rattle.range_table.proofs.files.Files.file.Goals as goal

pub returns-clause-finds : goal.returns-clause-finds
returns-clause-finds c =
    let b = c.args.b in
    let lines = c.args.lines.now in
    let rows : AreNumbersOf (table_along Rows lines b.sheet) (span_of Rows b) c.deref.result.now
    = subst (λ runs. AreNumbersOf (table_along Rows lines b.sheet) (span_of Rows b) runs) (sym c.deref.ensures.value)
    (subst (λ span. AreNumbersOf (table_along Rows lines b.sheet) span c.in_ok-rows.rows.items) c.span.ensures c.in_ok-rows.ensures) in
    let cols : AreNumbersOf (table_along Cols lines b.sheet) (span_of Cols b) c.deref-2.result.now
    = subst (λ runs. AreNumbersOf (table_along Cols lines b.sheet) (span_of Cols b) runs) (sym c.deref-2.ensures.value)
    (subst (λ span. AreNumbersOf (table_along Cols lines b.sheet) span c.in_ok-cols.cols.items) c.span-2.ensures c.in_ok-cols.ensures) in
    on_ok_weaker c.file_all.result (λ found. record {
      touches = c.in_ok-add_block.ensures.kept;
      cells = finds_its_cells lines b c.file_all.new.cells c.args.number c.deref.result.now c.deref-2.result.now rows cols found;
    }) c.file_all.ensures.found
