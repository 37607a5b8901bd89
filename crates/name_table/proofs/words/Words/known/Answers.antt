use Rattle.std.proofs.Common.{◌∙◌, sym, arith}
use Rattle.std.proofs.lemmas.List.{length-map}
use Rattle.cell_addr.specs.Sheets.{same_name}
use Rattle.folded_key.specs.Key.{text_of}
use Rattle.name_table.proofs.WordNumbers.{position-map}
use Rattle.name_table.proofs.words.Words.known.Goals as goal

pub returns-in-Some-clause-number : goal.returns-in-Some-clause-number
returns-in-Some-clause-number c = c.in-Some.ensures.place ∙ sym (position-map (same_name c.args.text.now) text_of c.args.self.now.spellings.keys)

pub returns-in-Some-clause-within : goal.returns-in-Some-clause-within
returns-in-Some-clause-within c = omega (arith, length-map c.args.self.now.spellings.keys text_of, c.in-Some.ensures.within)

pub returns-in-None-clause-number : goal.returns-in-None-clause-number
returns-in-None-clause-number c = c.in-None.ensures.place ∙ sym (position-map (same_name c.args.text.now) text_of c.args.self.now.spellings.keys)
