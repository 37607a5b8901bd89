use Rattle.std.proofs.Common.{◌∙◌, ap, cond, map, None}
use Rattle.std.specs.BTreeMap as tree
use Rattle.grid_store.specs.Draft.{is_one_of}
use Rattle.grid_store.specs.Keys.{key_cmp}
use Rattle.grid_store.proofs.KeyChanges.{taken_again}
use Rattle.grid_store.proofs.cells.Cells.fill.Goals as goal

pub returns-clause-err : goal.returns-clause-err
returns-clause-err _ c =
    let mid = c.keep_all.new.self in
    taken_again c.args.list.items c.args.self.now mid c.leave.new.self c.requires c.in-Err.ensures.others
    (λ k. c.leave.ensures k ∙ ap (λ ks. cond (is_one_of ks k) None (tree.get key_cmp mid k)) (c.deref-in-Err.ensures.value ∙ c.in_ok-keys.ensures ∙ ap (map (λ e. e.0)) c.deref.ensures.value))
