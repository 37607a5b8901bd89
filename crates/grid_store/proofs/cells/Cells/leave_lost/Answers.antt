use Rattle.std.proofs.Common.{◌∙◌, sym, ap, refl, cond, None, drop, get_or, ◌+◌}
use Rattle.std.specs.BTreeMap as tree
use Rattle.std.specs.BTreeMap.{is_at}
use Rattle.std.proofs.lemmas.List.{drop_more}
use Rattle.grid_store.specs.Keys.{key_cmp}
use Rattle.grid_store.specs.internal.Drafting.{is_gone}
use Rattle.grid_store.proofs.KeyChanges.{no_key, one-gone}
use Rattle.grid_store.proofs.cells.Cells.leave_lost.Goals as goal

pub loop-key-preserved : goal.loop-key-preserved
loop-key-preserved _ c = λ k.
    let rows = c.args.rows.now in
    let cols = c.args.cols.now in
    let keys = c.args.keys.now in
    let i = c.loop-key.key-index in
    let x = get_or keys i no_key in
    let rest = drop (i + 1) keys in
    let old = tree.get key_cmp c.loop-key.self k in
    ap (cond (is_gone rows cols rest k) None) (c.leave_if_lost.ensures k) ∙ one-gone rows cols x k rest old (is_at (key_cmp x) k) refl
    ∙ ap (λ ks. cond (is_gone rows cols ks k) None old) (sym (drop_more keys i no_key c.loop-key-test.true)) ∙ c.loop-key.invariant k
