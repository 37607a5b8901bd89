use Rattle.std.proofs.Common.{◌≡◌, ◌∙◌, ap, subst}
use Rattle.std.specs.List.{list_any}
use Rattle.std.specs.Prelude.{IfOk}
use Rattle.name_table.specs.Named.{names_of, words_of}
use Rattle.kept_book.specs.Frame.{named_at}
use Rattle.kept_book.specs.Kept.{at_of}
use Rattle.session_questions.specs.internal.Listing.{is_listed_as}
use Rattle.session_operations.proofs.Following.{numbered_in}
use Rattle.session_questions.proofs.ListedNames.{names-listed}
use Rattle.session_questions.proofs.listing.names_listed.Goals as goal

pub returns : goal.returns
returns c =
    let s = c.args.parts.now.session in
    let b = s.book in
    subst (λ l. IfOk c.entries.result (λ list. list.items ≡ l))
    (names-listed (words_of b.names) b.names.words.proper (named_at (at_of b) b.lazy.line.cursor) (names_of b.names) (numbered_in s) c.in_ok-names.names.keys c.entries.ensures.order
    (λ q. c.in_ok-names.ensures q ∙ ap (list_any (is_listed_as (words_of b.names) q)) (c.deref.ensures.value ∙ c.in_ok-keys.ensures)))
    c.entries.ensures.list
