use Rattle.std.proofs.Common.{◌∙◌, sym, ap, is_some}
use Rattle.std.specs.FinMap as fin
use Rattle.std.specs.Prelude.{option_and_then}
use Rattle.name_table.specs.Named.{names_of, words_of}
use Rattle.name_table.specs.Scopes as table
use Rattle.kept_book.specs.Frame.{named_at}
use Rattle.kept_book.specs.Kept.{at_of}
use Rattle.kept_book.proofs.FoundNames.{get-read}
use Rattle.session_operations.proofs.NamesRead.{is_some-read}
use Rattle.session_operations.proofs.parts.Parts.has_name.Goals as goal

pub returns-in-Some : goal.returns-in-Some
returns-in-Some c =
    let b = c.args.self.now.session.book in
    let trees = named_at (at_of b) b.lazy.line.cursor in
    let read = get-read (words_of b.names) b.names.words.proper trees (names_of b.names) c.args.scope c.args.name.now in
    c.is_some.ensures ∙ ap is_some c.holder.ensures ∙ ap (λ r. is_some (option_and_then (λ n. fin.get (names_of b.names) (table.key_of c.args.scope n)) r)) (sym c.in-Some.is ∙ c.known.ensures.number)
    ∙ sym (ap is_some read ∙ is_some-read trees _)

pub returns-in-None : goal.returns-in-None
returns-in-None c =
    let b = c.args.self.now.session.book in
    let trees = named_at (at_of b) b.lazy.line.cursor in
    let read = get-read (words_of b.names) b.names.words.proper trees (names_of b.names) c.args.scope c.args.name.now in
    ap (λ r. is_some (option_and_then (λ n. fin.get (names_of b.names) (table.key_of c.args.scope n)) r)) (sym c.in-None.is ∙ c.known.ensures.number)
    ∙ sym (ap is_some read ∙ is_some-read trees _)
