-- The lines of a sheet along an axis, after an edit or once it is taken back. Serves what makes them.
use Rattle.std.proofs.Common.{◌≡◌, ◌∙◌, sym, ap, subst, ℕ, Result}
use Rattle.std.specs.Prelude.{IfOk}
use Rattle.cell_addr.specs.Axis.{limit_of}
use Rattle.cell_addr.specs.declared.axis.Axis.{Axis}
use Rattle.cell_addr.specs.declared.axis.Axis.TheVariants.{Rows, Cols}
use Rattle.cell_addr.specs.declared.place.TheConstants.{COLS, ROWS}
use Rattle.shift_core.specs.declared.edit.Edit.{Edit}
use Rattle.shift_core.specs.Lines.{line_after, line_before}
use Rattle.stable_lines.specs.Lines.{AreRenewed}
use Rattle.stable_lines.specs.Sheets.{table_of}
use Rattle.stable_lines.specs.declared.sheets.SheetLines.{SheetLines}
use Rattle.stable_lines.specs.declared.table.LineTable.{LineTable}
use Rattle.grid_store.specs.declared.way.Going.{Going}
use Rattle.grid_store.specs.declared.way.Going.TheVariants.{Forth, Back}
use Rattle.grid_store.specs.internal.Renewal.{along}
use Rattle.grid_store.specs.internal.Ways.{line_goes, turned}

module _ (rows cols : SheetLines) (rows_end : rows.plain.limit ≡ ROWS) (cols_end : cols.plain.limit ≡ COLS) where
  ends : (axis : Axis) → (along axis rows cols).plain.limit ≡ limit_of axis
  ends Rows = rows_end
  ends Cols = cols_end

  module _ {E : Type 0} (r : Result LineTable E) (axis : Axis) (edit : Edit) (sheet : ℕ) (lines : SheetLines) (t : LineTable) (from : lines ≡ along axis rows cols) (is : t ≡ table_of lines sheet) where
    here : t ≡ table_of (along axis rows cols) sheet
    here = is ∙ ap (λ (l : SheetLines). table_of l sheet) from

    end : t.limit ≡ limit_of axis
    end = ap (λ (x : LineTable). x.limit) here ∙ (along axis rows cols).limits sheet ∙ ends axis

    pub renewed_back : (way : Going) → way ≡ Back → IfOk r (AreRenewed (line_after t.limit edit) t) → IfOk r (AreRenewed (line_goes (turned way) (limit_of axis) edit) (table_of (along axis rows cols) sheet))
    renewed_back way back renewed =
        subst (λ (w : Going). IfOk r (AreRenewed (line_goes (turned w) (limit_of axis) edit) (table_of (along axis rows cols) sheet))) (sym back)
        (subst (λ (x : LineTable). IfOk r (AreRenewed (line_after (limit_of axis) edit) x)) here (subst (λ n. IfOk r (AreRenewed (line_after n edit) t)) end renewed))

    pub renewed_forth : (way : Going) → way ≡ Forth → IfOk r (AreRenewed (line_before t.limit edit) t) → IfOk r (AreRenewed (line_goes (turned way) (limit_of axis) edit) (table_of (along axis rows cols) sheet))
    renewed_forth way forth renewed =
        subst (λ (w : Going). IfOk r (AreRenewed (line_goes (turned w) (limit_of axis) edit) (table_of (along axis rows cols) sheet))) (sym forth)
        (subst (λ (x : LineTable). IfOk r (AreRenewed (line_before (limit_of axis) edit) x)) here (subst (λ n. IfOk r (AreRenewed (line_before n edit) t)) end renewed))
