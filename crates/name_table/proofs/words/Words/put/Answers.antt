-- The word of a text is the text folded, and its number the length of the list that it comes to.
use Rattle.std.proofs.Common.{◌∙◌, sym, ap, Some}
use Rattle.cell_addr.specs.Sheets.{same_name}
use Rattle.cell_addr.specs.Text.{folded}
use Rattle.folded_key.specs.Key.{text_of}
use Rattle.name_table.specs.Words.{number_in}
use Rattle.name_table.specs.internal.WordList.{words_in}
use Rattle.std.proofs.lemmas.List.{length-map}
use Rattle.cell_addr.proofs.Listed.{same_name-true}
use Rattle.name_table.proofs.WordNumbers.{folded-folded, number-folded, position-pushed}
use Rattle.name_table.proofs.words.Words.put.Goals as goal

pub put_last-requires-clause-small : goal.put_last-requires-clause-small
put_last-requires-clause-small c = ap folded c.in_ok-spelling.ensures ∙ folded-folded c.args.text.now ∙ sym c.in_ok-spelling.ensures

pub put_last-requires-clause-new : goal.put_last-requires-clause-new
put_last-requires-clause-new c = ap (number_in (words_in c.args.self.now)) c.in_ok-spelling.ensures ∙ number-folded (words_in c.args.self.now) c.args.text.now ∙ c.requires

pub returns-clause-number : goal.returns-clause-number
returns-clause-number c =
    let words = words_in c.args.self.now in
    ap (λ ws. number_in ws c.args.text.now) c.in_ok-put_last.ensures.ok
    ∙ position-pushed (same_name c.args.text.now) words c.in_ok-spelling.spelling c.requires (same_name-true c.args.text.now c.in_ok-spelling.spelling (sym (folded-folded c.args.text.now) ∙ ap folded (sym c.in_ok-spelling.ensures)))
    ∙ ap Some (length-map c.args.self.now.spellings.keys text_of ∙ sym c.len-number.ensures.len)
