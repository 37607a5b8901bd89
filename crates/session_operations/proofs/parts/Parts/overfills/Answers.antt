use Rattle.std.proofs.Common.{◌∙◌, sym, ap, nat_lt}
use Rattle.std.specs.FinMap as fin
use Rattle.book_model.specs.Changes.{with_content}
use Rattle.book_model.specs.Content.{content_given, content_of}
use Rattle.session_operations.specs.Seen.{state_of}
use Rattle.session_operations.proofs.FilledCells.{emptied_fits, no_text, overfilled, text_gives}
use Rattle.session_operations.proofs.parts.Parts.overfills.Goals as goal

pub returns-then-is_empty : goal.returns-then-is_empty
returns-then-is_empty c =
    let d = state_of c.args.self.now in
    sym (ap (λ w. nat_lt 1000000 (fin.len (with_content c.args.at w d.book).cells)) (no_text c.args.text.now (sym c.is_empty.ensures ∙ c.if-is_empty.true))
    ∙ emptied_fits d.book.cells c.args.at 1000000 c.requires.book.count)

pub returns : goal.returns
returns c =
    let d = state_of c.args.self.now in
    let given = text_gives d.book.sheets c.args.at.sheet c.args.text.now (sym c.is_empty.ensures ∙ c.if-is_empty.false) in
    c.is_full_without.ensures ∙ sym (overfilled d.book.cells c.args.at (content_given d.book.sheets c.args.at.sheet (content_of c.args.text.now)) given.0 1000000 c.requires.book.count given.1)
