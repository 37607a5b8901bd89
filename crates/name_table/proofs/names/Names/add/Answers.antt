-- A name that is put in is one of the map's, and its word is known.
use Rattle.std.proofs.Common.{◌∙◌, sym, ap, length, map, is_some}
use Rattle.std.proofs.lemmas.Bool.{both_ways}
use Rattle.std.proofs.lemmas.Result.{on_ok_weaker}
use Rattle.cell_addr.proofs.Entries.{from_entries-insert, lookup-from_entries}
use Rattle.folded_key.specs.Key.{text_of}
use Rattle.name_table.specs.Scopes.{key_of}
use Rattle.name_table.proofs.Holders.{known-inserted}
use Rattle.name_table.proofs.KeyOrder.{key_cmp-IsTotalOrder, key_cmp-IsAntisymmetric}
use Rattle.name_table.proofs.names.Names.add.Goals as goal

pub invariant_of-self : goal.invariant_of-self
invariant_of-self c =
    let names = c.args.self.now in record {
      proper = names.proper;
      known = known-inserted c.insert.result (length (map text_of names.words.spellings.keys)) names.holders.entries c.insert.new.self.entries (key_of c.args.scope c.args.word) c.args.holder
          (on_ok_weaker c.insert.result (λ u. u.0) c.insert.ensures.updates) c.insert.ensures.err c.requires.known names.known;
    }

pub returns-clause-ok : goal.returns-clause-ok
returns-clause-ok c =
    from_entries-insert key_cmp-IsTotalOrder key_cmp-IsAntisymmetric c.args.self.now.holders.entries c.insert.new.self.entries (key_of c.args.scope c.args.word) c.args.holder c.in_ok-insert.ensures.updates.0

pub returns-in_err-insert-clause-held : goal.returns-in_err-insert-clause-held
returns-in_err-insert-clause-held c = λ held.
    let none = sym (lookup-from_entries key_cmp-IsTotalOrder c.args.self.now.holders.entries (key_of c.args.scope c.args.word)) ∙ c.in_err-insert.ensures.absent in absurd (both_ways _ (ap is_some none) held)
