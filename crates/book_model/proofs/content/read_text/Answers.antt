-- A text that doesn't begin with an apostrophe has nothing after one.
use Rattle.std.proofs.Common.{lit<, ap, None}
use Rattle.std.proofs.lemmas.Str.Pattern.{strip_prefix_char}
use Rattle.cell_addr.proofs.Splits.{strip_prefix-is}
use Rattle.book_model.specs.declared.content.ContentText.TheVariants.{Text}
use Rattle.book_model.proofs.content.read_text.Goals as goal

pub returns-in_ok-from_str-in-None : goal.returns-in_ok-from_str-in-None
returns-in_ok-from_str-in-None c =
    let bare = strip_prefix-is 39 c.args.text.now None (strip_prefix_char 39 c.args.text.now None c.in-None.ensures.cases (lit< tt)) in
    rw (← bare) (ap Text c.in_ok-from_str-in-None.ensures)
