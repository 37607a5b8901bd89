-- The tree of a text is proper, so its places are inside and its blocks in order.
use Rattle.std.proofs.Common.{sym, subst, [], ◌∷◌}
use Rattle.cell_addr.specs.Sheets.{id_in}
use Rattle.formula_tree.specs.Reference.{sheet_of}
use Rattle.formula_tree.proofs.ProperTrees.{spelled-proper}
use Rattle.tree_rewrite.specs.References.{FitsSheets}
use Rattle.tree_rewrite.proofs.CallerLemmas.{proper-fit}
use Rattle.call_bench.proofs.reading.read_tree.Goals as goal

pub returns-in-Ok : goal.returns-in-Ok
returns-in-Ok c =
    let spelt = c.in-Ok.ensures.spelt in
    let proper = spelled-proper (sheet_of c.args.home) (id_in ((0, c.in_ok-from_str.field-0) ∷ [])) c.args.text.now spelt.0 spelt.2 in
    subst FitsSheets (sym spelt.1) (proper-fit spelt.0 proper)
