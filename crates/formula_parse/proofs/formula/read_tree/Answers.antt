use Rattle.std.proofs.Common.{◌≡◌, ◌∙◌, sym, rules, Some}
use Rattle.cell_addr.specs.Parts.{strip_prefix}
use Rattle.cell_addr.specs.Sheets.{id_in}
use Rattle.formula_tree.specs.Reference.{sheet_of}
use Rattle.formula_parse.proofs.ReadTexts.{text-tree}
use Rattle.formula_parse.proofs.formula.read_tree.Goals as goal

pub returns : goal.returns
returns g c =
    let begins : Some c.in-Some.formula.now ≡ strip_prefix 61 c.args.text.now = search rules in
    c.in_ok-found.ensures
    ∙ sym (text-tree (sheet_of c.args.home) (id_in (g.S.SheetNames.sheets c.args.sheets.now)) c.args.text.now c.in-Some.formula.now begins)
