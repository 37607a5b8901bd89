use Rattle.std.proofs.Common.{◌∙◌, inl, inr}
use Rattle.std.proofs.lemmas.List.Folds.{list_any_at}
use Rattle.dep_graph.specs.internal.Files.{in_row, in_run}
use Rattle.dep_graph.proofs.LineRuns.{any_next, cells_on}
use Rattle.dep_graph.proofs.files.Files.file_row.Goals as goal

pub cols-preserved : goal.cols-preserved
cols-preserved c =
    let sheet = c.args.sheet in
    let rows = c.args.rows in
    let cols = c.args.cols.now in
    let new = c.file_cells.new.self in
    record {
      current = c.file_cells.ensures.current ∙ c.cols.invariant.current;
      owners = c.file_cells.ensures.owners ∙ c.cols.invariant.owners;
      serves = c.file_cells.ensures.serves ∙ c.cols.invariant.serves;
      filed = cells_on (in_row sheet rows cols) (in_run sheet rows _) c.args.filing c.args.self.now c.cols.self new
          (λ spot is. list_any_at (λ run. in_run sheet rows run spot) cols c.cols.run-index _ c.cols-test.true is) c.cols.invariant.filed c.file_cells.ensures.filed;
      found = λ spot h. elim (any_next (λ run. in_run sheet rows run spot) cols c.cols.run-index _ c.cols-test.true h) [
        | inl early ↦ c.file_cells.ensures.filed.grows spot c.args.filing (c.cols.invariant.found spot early)
        | inr here ↦ c.in_ok-file_cells.ensures.found spot here
      ];
    }
