use Rattle.std.proofs.Common.{◌≡◌, ◌∙◌, sym, ap, subst, Global}
use Rattle.std.specs.declared.rc.Rc.{Rc}
use Rattle.formula_tree.specs.Relative.{relative}
use Rattle.formula_tree.specs.StandsFor.{at_home}
use Rattle.tree_rewrite.specs.References.{FitsSheets}
use Rattle.tree_rewrite.specs.declared.passage.Passage.{Passage}
use Rattle.formula_tree.specs.Term.{mapped}
use Rattle.formula_tree.specs.declared.node.Node.{Node}
use Rattle.tree_rewrite.specs.internal.Passage.{area_passed, cell_passed, tree_passed}
use Rattle.tree_rewrite.specs.internal.Walk.{term_of}
use Rattle.tree_rewrite.proofs.Inside.{home_in-inside, tree_in-fits}
use Rattle.tree_rewrite.proofs.Passing as passing
use Rattle.tree_rewrite.proofs.rewrite.pass.Goals as goal

-- what a tree becomes by the passage of its references
became : (p : Passage) (tree after : Rc Node Global) → term_of after ≡ mapped (cell_passed p) (area_passed p) (term_of tree) → term_of after ≡ tree_passed p tree
became p tree after h = h ∙ passing.passed-each p (term_of tree)

pub replaced-requires : goal.replaced-requires
replaced-requires c =
    let p : Passage = record { direction = c.args.direction; shift = c.args.s.now; from = c.args.home; to = c.in-Some.to } in
    passing.taken-each p c.requires.sound (home_in-inside c.args.direction c.args.s.now c.args.home c.in-Some.to c.requires.sound c.requires.home (sym c.home.ensures ∙ c.in-Some.is))
    (relative c.args.tree.now.value) c.requires.fits

pub returns-clause-inside : goal.returns-clause-inside
returns-clause-inside c = home_in-inside c.args.direction c.args.s.now c.args.home c.in-Some.to c.requires.sound c.requires.home (sym c.home.ensures ∙ c.in-Some.is)

pub returns-clause-tree : goal.returns-clause-tree
returns-clause-tree c =
    let p : Passage = record { direction = c.args.direction; shift = c.args.s.now; from = c.args.home; to = c.in-Some.to } in
    ap (at_home c.in-Some.to) (became p c.args.tree.now c.in_ok-tree.tree c.in_ok-tree.ensures.tree)
    ∙ passing.passed-at_home p (term_of c.args.tree.now) c.requires.sound c.requires.fits

pub returns-clause-fits : goal.returns-clause-fits
returns-clause-fits c =
    let p : Passage = record { direction = c.args.direction; shift = c.args.s.now; from = c.args.home; to = c.in-Some.to } in
    let is =
    ap (at_home c.in-Some.to) (became p c.args.tree.now c.in_ok-tree.tree c.in_ok-tree.ensures.tree)
    ∙ passing.passed-at_home p (term_of c.args.tree.now) c.requires.sound c.requires.fits in
    subst FitsSheets (sym is) (tree_in-fits c.args.direction c.args.s.now (at_home c.args.home (term_of c.args.tree.now)) c.requires.sound c.requires.fits)
