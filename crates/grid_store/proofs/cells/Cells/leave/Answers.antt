use Rattle.std.proofs.Common.{◌∙◌, sym, ap, cond, None, drop, get_or, ◌+◌}
use Rattle.std.specs.BTreeMap as tree
use Rattle.std.specs.BTreeMap.{is_at}
use Rattle.std.proofs.lemmas.List.{drop_more}
use Rattle.grid_store.specs.Draft.{is_one_of}
use Rattle.grid_store.specs.Keys.{key_cmp}
use Rattle.grid_store.proofs.KeyChanges.{no_key, same_key_tests, taken-or}
use Rattle.grid_store.proofs.cells.Cells.leave.Goals as goal

pub loop-key-preserved : goal.loop-key-preserved
loop-key-preserved _ c = λ k.
    let keys = c.args.keys.now in
    let i = c.loop-key.key-index in
    let x = get_or keys i no_key in
    let old = tree.get key_cmp c.loop-key.self k in
    let rest = is_one_of (drop (i + 1) keys) k in
    ap (cond rest None) (c.remove.ensures.updates.0 k ∙ ap (λ b. cond b None old) (same_key_tests x k)) ∙ taken-or rest (is_at (key_cmp k) x) old
    ∙ ap (λ ks. cond (is_one_of ks k) None old) (sym (drop_more keys i no_key c.loop-key-test.true)) ∙ c.loop-key.invariant k
