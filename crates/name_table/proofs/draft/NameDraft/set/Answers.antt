-- A change more, of a known word.
use Rattle.std.proofs.Common.{sym, subst, ℕ, ◌<◌, length, Option}
use Rattle.std.specs.List.{AllByRecursion}
use Rattle.name_table.specs.Scopes.{key_of}
use Rattle.name_table.specs.declared.key.NameKey.{NameKey}
use Rattle.name_table.proofs.DraftedNames.{change-set, words-set}
use Rattle.name_table.proofs.draft.NameDraft.set.Goals as goal

pub returns-clause-names : goal.returns-clause-names
returns-clause-names c = λ names.
    change-set c.args.self.now.names.entries c.insert.new.self.entries (key_of c.args.scope c.args.word) c.args.holder c.in_ok-insert.ensures.updates.0 names

pub returns-clause-known : goal.returns-clause-known
returns-clause-known c = λ words below known.
    subst (AllByRecursion (λ (e : NameKey × Option ℕ). e.0.word < length words)) (sym c.in_ok-insert.ensures.entries)
    (words-set (length words) c.args.self.now.names.entries (key_of c.args.scope c.args.word) c.args.holder below known)
