-- A name that is taken out is none of the map's any more.
use Rattle.std.proofs.Common.{◌∙◌, None, length, map}
use Rattle.cell_addr.proofs.Entries.{from_entries-remove, lookup-from_entries}
use Rattle.folded_key.specs.Key.{text_of}
use Rattle.name_table.specs.Scopes.{key_of}
use Rattle.name_table.proofs.Holders.{known-after}
use Rattle.name_table.proofs.KeyOrder.{key_cmp-IsTotalOrder, key_cmp-IsAntisymmetric}
use Rattle.name_table.proofs.names.Names.remove.Goals as goal

pub invariant_of-self : goal.invariant_of-self
invariant_of-self c =
    let names = c.args.self.now in record {
      proper = names.proper;
      known = known-after (length (map text_of names.words.spellings.keys)) names.holders.entries c.remove.new.self.entries (key_of c.args.scope c.args.word) None c.remove.ensures.updates.0 (λ bad. cc) names.known;
    }

pub returns-clause-holder : goal.returns-clause-holder
returns-clause-holder c = c.remove.ensures.value ∙ lookup-from_entries key_cmp-IsTotalOrder c.args.self.now.holders.entries (key_of c.args.scope c.args.word)

pub returns-clause-removed : goal.returns-clause-removed
returns-clause-removed c =
    from_entries-remove key_cmp-IsTotalOrder key_cmp-IsAntisymmetric c.args.self.now.holders.entries c.remove.new.self.entries (key_of c.args.scope c.args.word) c.remove.ensures.updates.0
