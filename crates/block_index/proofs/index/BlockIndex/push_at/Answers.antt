use Rattle.std.proofs.Common.{◌∙◌, ap, set, ◌++◌, ◌∷◌, []}
use Rattle.needs_order.specs.Needs.{lists_of}
use Rattle.block_index.proofs.Filing.{list_read, lists-same, lists-set, on_err}
use Rattle.block_index.proofs.index.BlockIndex.push_at.Goals as goal

pub returns-in_err-push-clause-err : goal.returns-in_err-push-clause-err
returns-in_err-push-clause-err c = on_err c.from_residual.result _ (lists-same c.args.self.now.lists.items c.args.place c.index_mut.result.now c.push.new.self c.requires c.index_mut.ensures.value c.in_err-push.ensures.items)

pub returns-clause-ok : goal.returns-clause-ok
returns-clause-ok c =
    lists-set c.args.self.now.lists.items c.args.place c.push.new.self
    ∙ ap (set (lists_of c.args.self.now.lists.items) c.args.place)
    (c.in_ok-push.ensures.items ∙ ap (λ xs. xs ++ c.args.number ∷ []) (list_read c.args.self.now.lists.items c.args.place c.index_mut.result.now c.requires c.index_mut.ensures.value))
