use Rattle.std.proofs.Common.{◌≡◌, ap, rules, Some, None}
use Rattle.cell_addr.specs.Sheets.{id_in}
use Rattle.formula_tree.specs.Reference.{sheet_of}
use Rattle.formula_tree.specs.Relative.{relative}
use Rattle.formula_tree.specs.StandsFor.{at_home}
use Rattle.formula_tree.specs.Reader.{tree_of_text}
use Rattle.formula_tree.proofs.Exact.{text_reader-exact}
use Rattle.formula_parse.proofs.ReadTexts.{unread-deep}
use Rattle.formula_parse.proofs.formula.parse.Goals as goal

pub returns-in_default-clause-unspelt : goal.returns-in_default-clause-unspelt
returns-in_default-clause-unspelt g c = λ _ t spelt.
    let find = id_in (g.S.SheetNames.sheets c.args.sheets.now) in
    let none : tree_of_text (sheet_of c.args.home) find c.args.text.now ≡ None = search rules in
    unread-deep (sheet_of c.args.home) find c.args.text.now none t spelt

pub returns-clause-spelt : goal.returns-clause-spelt
returns-clause-spelt g c =
    let find = id_in (g.S.SheetNames.sheets c.args.sheets.now) in
    let t = at_home c.args.home (relative c.in-Some.tree.value) in
    let read : tree_of_text (sheet_of c.args.home) find c.args.text.now ≡ Some t = search rules in
    let spelt = (text_reader-exact (sheet_of c.args.home) find c.args.text.now t).0 read in
    (t, ap (at_home c.args.home) c.in_ok-shared.ensures.tree, spelt.0, spelt.1)
