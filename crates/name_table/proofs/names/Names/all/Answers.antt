use Rattle.std.proofs.Common.{◌∙◌, ◌++◌, sym, ap}
use Rattle.std.proofs.lemmas.List.{append-nil}
use Rattle.cell_addr.proofs.Entries.{entries-from_entries}
use Rattle.name_table.proofs.KeyOrder.{key_cmp-IsTotalOrder}
use Rattle.name_table.proofs.names.Names.all.Goals as goal

pub returns : goal.returns
returns c =
    let i = c.names.invariant in
    sym (append-nil c.names.list.items) ∙ ap (λ r. c.names.list.items ++ r) (sym c.in-None.ensures.steps.0) ∙ i.parts
    ∙ sym (entries-from_entries key_cmp-IsTotalOrder c.args.self.now.holders.entries i.ordered)
