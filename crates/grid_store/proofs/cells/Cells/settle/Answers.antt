use Rattle.std.proofs.Common.{◌≡◌, ◌∙◌, sym, ap, subst, IsSome, ◌++◌, ◌∷◌, []}
use Rattle.std.specs.BTreeMap as tree
use Rattle.std.specs.BTreeMap.{is_at}
use Rattle.grid_store.specs.Keys.{key_cmp}
use Rattle.grid_store.specs.internal.Drafting.{AreAllKept, under}
use Rattle.grid_store.specs.internal.Lists.{or_else}
use Rattle.grid_store.proofs.KeyChanges.{each_front, kept-still, last-kept, still_some}
use Rattle.grid_store.proofs.cells.Cells.settle.Goals as goal

pub loop-key-preserved : goal.loop-key-preserved
loop-key-preserved _ c =
    let i = c.loop-key.invariant in
    let front = c.pop.new.self.items in
    let key = c.in-Some.key in
    let cell = c.in-Some.cell in
    let old = c.loop-key.self in
    let new = c.overwrite.new.self in
    let updates = c.overwrite.ensures.0 in
    let parts : c.loop-key.list.items ≡ front ++ (key, cell) ∷ [] = c.in-Some.ensures.items in
    record {
      over = λ k. last-kept front key cell old new updates k ∙ ap (λ es. or_else (under es k) (tree.get key_cmp old k)) (sym parts) ∙ i.over k;
      kept = kept-still front old new (λ k some. subst IsSome (sym (updates k)) (still_some (is_at (key_cmp key) k) cell (tree.get key_cmp old k) some))
          (each_front (λ e. IsSome (tree.get key_cmp old e.0)) front (key, cell) (subst (λ es. AreAllKept es old) parts i.kept)).0;
    }
