-- The last slash is found, or there is none.
use Rattle.std.proofs.Common.{◌∙◌, sym, arith, Some, None}
use Rattle.std.proofs.lemmas.Str.Pattern.{rfind_char}
use Rattle.book_files.proofs.SheetNames.{behind-none, behind-last}
use Rattle.book_files.proofs.book.behind_slashes.Goals as goal

pub returns-in-Some : goal.returns-in-Some
returns-in-Some c =
    let found = rfind_char 47 c.args.name.now (Some c.in-Some.at) c.in-Some.ensures.cases (omega arith) in
    c.range_from.ensures.value ∙ sym (behind-last c.args.name.now c.in-Some.at found.0 found.1 found.2)

pub returns-in-None : goal.returns-in-None
returns-in-None c = sym (behind-none c.args.name.now (rfind_char 47 c.args.name.now None c.in-None.ensures.cases (omega arith)))
