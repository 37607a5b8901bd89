use Rattle.std.proofs.Common.{◌∙◌, refl, subst}
use Rattle.formula_tree.specs.Links.{names_in}
use Rattle.formula_tree.specs.Relative.{relative}
use Rattle.formula_tree.specs.StandsFor.{at_home}
use Rattle.recalc_core.specs.internal.Seen.{AreRead}
use Rattle.recalc_core.proofs.ReadNames.{read_all}
use Rattle.std.proofs.lemmas.Result.{IfOk-weaker}
use Rattle.recalc_core.proofs.names.read_names.Goals as goal

pub returns-clause-read : goal.returns-clause-read
returns-clause-read g c =
    let b = g.T.Trees.workbook c.args.trees.now in
    let words = g.T.Trees.words c.args.trees.now in
    IfOk-weaker c.read_words.result _ _
    (λ names read home. read_all b words c.args.sheet (names_in (at_home home (relative c.args.tree.now.value))) names.items
    (subst (λ asked. AreRead b words c.args.sheet asked names.items) (c.deref.ensures.value ∙ c.in_ok-words.ensures home (at_home home (relative c.args.tree.now.value)) refl) read))
    c.read_words.ensures.read
