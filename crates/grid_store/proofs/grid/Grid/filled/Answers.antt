use Rattle.std.proofs.Common.{◌∙◌, sym, ap, subst}
use Rattle.std.specs.BTreeMap.{IsOrdered, btree_map_len}
use Rattle.grid_store.specs.Keys.{key_cmp}
use Rattle.grid_store.proofs.Views.{len-seen}
use Rattle.grid_store.proofs.grid.Grid.filled.Goals as goal

pub returns : goal.returns
returns _ c = let g = c.args.self.now in c.len.ensures.len ∙ ap btree_map_len c.by_rows.ensures ∙ sym (len-seen g.rows g.cols g.cells.entries (subst (IsOrdered key_cmp) c.by_rows.ensures c.len.ensures.ordered) g.standing)
