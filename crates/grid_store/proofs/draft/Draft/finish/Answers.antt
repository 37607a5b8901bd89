-- Each key that is kept stands in the draft's lines, under which its cells are seen.
use Rattle.std.proofs.Common.{◌∙◌, ap, subst, IsSome}
use Rattle.grid_store.proofs.Drafts.{placed_cells, placed_standing}
use Rattle.grid_store.proofs.SameKeys.{same_seen}
use Rattle.grid_store.proofs.TurnedKeys.{on_err}
use Rattle.stable_lines.specs.declared.sheets.SheetLines.{SheetLines}
use Rattle.grid_store.proofs.draft.Draft.finish.Goals as goal

pub invariant_of-grid : goal.invariant_of-grid
invariant_of-grid _ c =
    let g = c.args.grid.now in record {
      rows_limit = g.rows_limit;
      cols_limit = g.cols_limit;
      standing = λ k some. g.standing k (subst IsSome (c.in_err-change.ensures.err k) some);
    }

pub invariant_of-grid-2 : goal.invariant_of-grid-2
invariant_of-grid-2 _ c =
    let d = c.args.self in
    let parts = c.into_parts-cells.ensures in
    record {
      rows_limit = ap (λ (r : SheetLines). r.plain.limit) parts.rows ∙ d.changes.rows_limit;
      cols_limit = ap (λ (s : SheetLines). s.plain.limit) parts.cols ∙ d.changes.cols_limit;
      standing =
          placed_standing c.args.grid.now d c.change.new.self c.leave_lost.new.self _ _ _ _ parts.cells parts.rows parts.cols c.deref.ensures.value
          c.in_ok-change.ensures.ok c.leave_lost.ensures c.requires;
    }

pub returns-in_err-change-clause-err : goal.returns-in_err-change-clause-err
returns-in_err-change-clause-err _ c =
    let g = c.args.grid.now in on_err c.from_residual.result (same_seen g.rows g.cols g.cells.entries c.change.new.self.entries c.in_err-change.ensures.err)

pub returns-clause-ok : goal.returns-clause-ok
returns-clause-ok _ c =
    let parts = c.into_parts-cells.ensures in
    placed_cells c.args.grid.now c.args.self c.change.new.self c.leave_lost.new.self _ _ _ _ parts.cells parts.rows parts.cols c.deref.ensures.value
    c.in_ok-change.ensures.ok c.leave_lost.ensures
