use Rattle.std.proofs.Common.{◌≡◌, ◌∙◌, sym, ap, subst, cond, Some, None, ◌++◌, ◌∷◌, []}
use Rattle.std.specs.BTreeMap as tree
use Rattle.grid_store.specs.Keys.{key_cmp}
use Rattle.grid_store.specs.internal.Drafting.{under}
use Rattle.grid_store.specs.internal.Lists.{or_else}
use Rattle.grid_store.proofs.KeyChanges.{front-none, last-kept, last-other}
use Rattle.grid_store.proofs.cells.Cells.keep_all.Goals as goal

pub loop-key-preserved : goal.loop-key-preserved
loop-key-preserved _ c =
    let i = c.loop-key.invariant in
    let front = c.pop.new.self.items in
    let key = c.in-Some.key in
    let cell = c.in-Some.cell in
    let old = c.loop-key.self in
    let parts : c.loop-key.list.items ≡ front ++ (key, cell) ∷ [] = c.in-Some.ensures.items in
    record {
      over = λ k. last-kept front key cell old c.keep.new.self c.in_ok-keep.ensures.ok.0 k ∙ ap (λ es. or_else (under es k) (tree.get key_cmp old k)) (sym parts) ∙ i.over k;
      part = λ k none. front-none front (key, cell) k (subst (λ es. under es k ≡ None) parts (i.part k none));
      others = λ k none.
          c.in_ok-keep.ensures.ok.0 k ∙ ap (λ b. cond b (Some cell) (tree.get key_cmp old k)) (last-other front key cell k (subst (λ es. under es k ≡ None) parts (i.part k none))) ∙ i.others k none;
    }
