-- The word of a name that has a holder is known.
use Rattle.std.proofs.Common.{sym, subst, IsSome}
use Rattle.cell_addr.proofs.Entries.{lookup-from_entries}
use Rattle.name_table.proofs.KeyOrder.{key_cmp-IsTotalOrder}
use Rattle.name_table.proofs.names.Names.overwrite.Goals as goal

pub add-requires : goal.add-requires
add-requires c =
    let names = c.args.self.now in
    record { known = names.known c.args.key (subst IsSome (sym (lookup-from_entries key_cmp-IsTotalOrder names.holders.entries c.args.key)) c.requires) }
