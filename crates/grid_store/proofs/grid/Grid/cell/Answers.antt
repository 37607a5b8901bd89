use Rattle.std.proofs.Common.{◌∙◌, sym, ap, option_copied, option_and_then}
use Rattle.std.specs.BTreeMap as tree
use Rattle.grid_store.specs.Keys.{key_cmp}
use Rattle.grid_store.proofs.Views.{get-seen, get-seen_at, kept}
use Rattle.grid_store.proofs.grid.Grid.cell.Goals as goal

pub returns-in_err-key : goal.returns-in_err-key
returns-in_err-key _ c =
    let g = c.args.self.now in
    ap option_copied c.from_residual.ensures ∙ sym (get-seen g.rows g.cols g.cells.entries c.args.at ∙ ap (option_and_then (kept g.cells.entries)) (sym c.in_err-key.ensures))

pub returns : goal.returns
returns _ c =
    let g = c.args.self.now in c.get.ensures.value ∙ (λ i. tree.get key_cmp (c.by_rows.ensures i) c.in_ok-key.key) ∙ sym (get-seen_at g.rows g.cols g.cells.entries c.args.at c.in_ok-key.key (sym c.in_ok-key.ensures))
