-- No text so far begins with a dash, so all hold where those left do.
use Rattle.std.proofs.Common.{◌≡◌, drop, not}
use Rattle.std.specs.List.{list_all}
use Rattle.command_words.specs.Words.{begins_with_dash}
use Rattle.command_words.specs.internal.Found.{texts}
use Rattle.command_words.proofs.reading.have_no_dash.Given as goal

abbrev pub invariant-books : goal.invariant-books
invariant-books l = list_all (λ book. not (begins_with_dash book)) (texts (drop l.book-index l.books)) ≡ list_all (λ book. not (begins_with_dash book)) (texts l.books)
