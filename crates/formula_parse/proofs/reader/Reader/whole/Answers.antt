use Rattle.formula_parse.proofs.WholeTerms.{whole-there}
use Rattle.formula_parse.proofs.reader.Reader.whole.Goals as goal

pub returns : goal.returns
returns g c =
    whole-there c.args.self.now.home c.whole.result (record { sheet = c.args.sheet; axis = c.args.axis; first = c.args.first.line; last = c.args.last.line })
    c.args.first.fixed c.args.last.fixed c.requires.first c.requires.last c.whole.ensures
