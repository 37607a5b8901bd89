use Rattle.std.proofs.Common.{◌∙◌, sym, ap, ◌++◌}
use Rattle.name_table.proofs.Holders.{kept-last}
use Rattle.name_table.proofs.copy.copied_holders.Goals as goal

pub names-preserved : goal.names-preserved
names-preserved c =
    let i = c.names.invariant in record {
      parts = kept-last c.args.holders.now.entries c.names.copy.entries c.keep.new.holders.entries (c.in-Some.key.now, c.in-Some.holder.now) c.next.new.self i.ordered
          (ap (λ r. c.names.copy.entries ++ r) (sym c.in-Some.ensures.steps) ∙ i.parts) c.in_ok-keep.ensures;
      ordered = i.ordered;
    }
