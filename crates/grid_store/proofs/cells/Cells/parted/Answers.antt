use Rattle.std.proofs.Common.{◌≡◌, ◌∙◌, sym, ap, ◌++◌, not, is_none, is_some, option_to_list}
use Rattle.std.specs.BTreeMap as tree
use Rattle.grid_store.specs.Keys.{key_cmp}
use Rattle.grid_store.specs.internal.Drafting.{emptied_by, emptied_of, fresh_of, over_of, placed_if}
use Rattle.grid_store.proofs.KeyChanges.{not_some, part-on}
use Rattle.grid_store.proofs.cells.Cells.parted.Goals as goal

pub loop-key-preserved : goal.loop-key-preserved
loop-key-preserved _ c =
    let cells = c.args.self.now in
    let parts = c.loop-key.parts in
    let i = c.loop-key.invariant in
    let key = c.in-Some.key in
    let change = c.in-Some.change in
    let rest = c.next.new.self in
    let steps = c.in-Some.ensures.steps in
    let kept : c.contains_key-kept.result ≡ is_some (tree.get key_cmp cells key) = c.contains_key-kept.ensures ∙ ap (λ m. is_some (tree.get key_cmp m key)) c.by_rows-in-loop-key.ensures in
    record {
      fresh = ap (λ z. z ++ fresh_of cells rest) (c.in_ok-add.ensures.fresh ∙ ap (λ b. parts.fresh.items ++ option_to_list (placed_if b (key, change))) (ap not kept ∙ not_some (tree.get key_cmp cells key)))
          ∙ part-on parts.fresh.items (placed_if (is_none (tree.get key_cmp cells key)) (key, change)) (fresh_of cells rest) ∙ ap (λ es. parts.fresh.items ++ fresh_of cells es) (sym steps) ∙ i.fresh;
      over = ap (λ z. z ++ over_of cells rest) (c.in_ok-add.ensures.over ∙ ap (λ b. parts.over.items ++ option_to_list (placed_if b (key, change))) kept)
          ∙ part-on parts.over.items (placed_if (is_some (tree.get key_cmp cells key)) (key, change)) (over_of cells rest) ∙ ap (λ es. parts.over.items ++ over_of cells es) (sym steps) ∙ i.over;
      emptied = ap (λ z. z ++ emptied_of rest) c.in_ok-add.ensures.emptied
          ∙ part-on parts.emptied.items (emptied_by (key, change)) (emptied_of rest) ∙ ap (λ es. parts.emptied.items ++ emptied_of es) (sym steps) ∙ i.emptied;
      ordered = i.ordered;
    }
