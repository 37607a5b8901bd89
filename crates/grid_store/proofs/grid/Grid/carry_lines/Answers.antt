use Rattle.std.proofs.Common.{◌∙◌, sym, ap, subst, is_some}
use Rattle.shift_core.specs.declared.form.Form.TheVariants.{Lines}
use Rattle.stable_lines.specs.Sheets.{AreUnchanged}
use Rattle.grid_store.specs.Grid.{cells_of}
use Rattle.grid_store.specs.internal.Ways.{carried_map, form_goes}
use Rattle.grid_store.proofs.LostCells.{carried-kept, kept_some}
use Rattle.grid_store.proofs.grid.Grid.carry_lines.Goals as goal

pub renew-requires-clause-kept : goal.renew-requires-clause-kept
renew-requires-clause-kept _ c = λ p some.
    kept_some (cells_of c.reserve.new.self) (cells_of c.clear_lost.new.self) (λ q. is_some (form_goes c.args.way (Lines c.args.sheet c.args.axis c.args.edit) q)) c.in_ok-lost.ensures.kept p some

pub returns-clause-carried : goal.returns-clause-carried
returns-clause-carried _ c =
    let goes = form_goes c.args.way (Lines c.args.sheet c.args.axis c.args.edit) in
    c.renew.ensures.carried ∙ ap (carried_map goes) c.in_ok-lost.ensures.kept ∙ carried-kept goes (cells_of c.reserve.new.self) ∙ ap (carried_map goes) c.reserve.ensures.cells

pub returns-clause-lines : goal.returns-clause-lines
returns-clause-lines _ c =
    let g = c.args.self.now in
    let between = c.clear_lost.new.self in record {
      own_rows = between.rows;
      own_cols = between.cols;
      rows_kept = subst (AreUnchanged g.rows) (sym c.clear_lost.ensures.lines.0) c.reserve.ensures.rows;
      cols_kept = subst (AreUnchanged g.cols) (sym c.clear_lost.ensures.lines.1) c.reserve.ensures.cols;
      rows_limit = between.rows_limit;
      cols_limit = between.cols_limit;
      renewal = c.renew.ensures.lines;
    }
