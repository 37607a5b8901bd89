use Rattle.std.proofs.Common.{sym, subst}
use Rattle.cell_addr.specs.Sheets.{id_in}
use Rattle.formula_tree.specs.Proper.{IsProper}
use Rattle.formula_tree.proofs.ProperTrees.{spelled-proper}
use Rattle.name_table.specs.Listed.{listed}
use Rattle.kept_book.proofs.setting.read_formula.Goals as goal

pub returns-in-Ok-clause-proper : goal.returns-in-Ok-clause-proper
returns-in-Ok-clause-proper c =
    let t = c.in-Ok.ensures.spelt in
    (c.requires, subst IsProper (sym t.1) (spelled-proper c.args.at.sheet (id_in (listed c.args.sheets.now)) c.args.text.now t.0 t.2))
