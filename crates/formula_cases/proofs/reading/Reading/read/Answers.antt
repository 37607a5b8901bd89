-- The tree of a text is proper, so its places are inside and its blocks in order.
use Rattle.std.proofs.Common.{sym, subst, [], ◌∷◌}
use Rattle.cell_addr.specs.Sheets.{id_in}
use Rattle.formula_tree.specs.Reference.{sheet_of}
use Rattle.formula_tree.specs.StandsFor.{ArePlacesInside}
use Rattle.formula_tree.proofs.ProperTrees.{spelled-proper}
use Rattle.formula_tree.proofs.SameTexts.{proper-inside}
use Rattle.tree_rewrite.specs.References.{FitsSheets}
use Rattle.tree_rewrite.proofs.CallerLemmas.{proper-fit}
use Rattle.formula_cases.proofs.reading.Reading.read.Goals as goal

pub returns-in-Ok-clause-places : goal.returns-in-Ok-clause-places
returns-in-Ok-clause-places c =
    let spelt = c.in-Ok.ensures.spelt in
    let proper = spelled-proper (sheet_of c.args.home) (id_in ((0, c.args.self.now.sheets.name) ∷ [])) c.args.text.now spelt.0 spelt.2 in
    subst ArePlacesInside (sym spelt.1) (proper-inside spelt.0 proper)

pub returns-in-Ok-clause-fits : goal.returns-in-Ok-clause-fits
returns-in-Ok-clause-fits c =
    let spelt = c.in-Ok.ensures.spelt in
    let proper = spelled-proper (sheet_of c.args.home) (id_in ((0, c.args.self.now.sheets.name) ∷ [])) c.args.text.now spelt.0 spelt.2 in
    subst FitsSheets (sym spelt.1) (proper-fit spelt.0 proper)
