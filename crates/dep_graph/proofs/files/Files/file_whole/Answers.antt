use Rattle.std.proofs.Common.{subst, sym}
use Rattle.cell_addr.specs.Whole.{lines_of}
use Rattle.place_lines.specs.Spots.{AreNumbersOf, table_along}
use Rattle.dep_graph.specs.declared.node.Node.TheVariants.{Whole}
use Rattle.dep_graph.specs.internal.Files.{IsSpotOf}
use Rattle.dep_graph.specs.internal.Wholes.{on_runs}
use Rattle.dep_graph.proofs.Adding.{on_ok}
use Rattle.dep_graph.proofs.LineRuns.{cells_spots, lines_on_runs, runs_on_lines}
use Rattle.dep_graph.proofs.files.Files.file_whole.Goals as goal

pub returns-clause-filed : goal.returns-clause-filed
returns-clause-filed c =
    let w = c.args.whole in
    let lines = c.args.lines.now in
    let are : AreNumbersOf (table_along w.axis lines w.sheet) (lines_of w) c.deref.result.now
    = subst (λ runs. AreNumbersOf (table_along w.axis lines w.sheet) (lines_of w) runs) (sym c.deref.ensures.value)
    (subst (λ span. AreNumbersOf (table_along w.axis lines w.sheet) span c.in_ok-runs.runs.items) c.span.ensures c.in_ok-runs.ensures) in
    cells_spots (on_runs w.sheet w.axis c.deref.result.now) (IsSpotOf lines (Whole w)) c.args.filing c.args.self.now c.file_runs.new.self
    (λ spot. runs_on_lines lines w c.deref.result.now are spot) c.file_runs.ensures.filed

pub returns-clause-found : goal.returns-clause-found
returns-clause-found c =
    let w = c.args.whole in
    let lines = c.args.lines.now in
    let are : AreNumbersOf (table_along w.axis lines w.sheet) (lines_of w) c.deref.result.now
    = subst (λ runs. AreNumbersOf (table_along w.axis lines w.sheet) (lines_of w) runs) (sym c.deref.ensures.value)
    (subst (λ span. AreNumbersOf (table_along w.axis lines w.sheet) span c.in_ok-runs.runs.items) c.span.ensures c.in_ok-runs.ensures) in
    on_ok c.file_runs.result _ _ c.file_runs.ensures.found (λ found spot has. found spot (lines_on_runs lines w c.deref.result.now are spot has))
