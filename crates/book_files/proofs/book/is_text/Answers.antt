-- What reads as UTF-8 is UTF-8.
use Rattle.std.proofs.Common.{◌∙◌}
use Rattle.book_files.proofs.BookAnswers.{tells-utf8}
use Rattle.book_files.proofs.book.is_text.Goals as goal

pub returns : goal.returns
returns c = c.is_ok.ensures.value ∙ tells-utf8 _ c.args.bytes.now c.from_utf8.result c.from_utf8.ensures.cases
