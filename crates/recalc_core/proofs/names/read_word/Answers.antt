use Rattle.std.proofs.Common.{refl, subst, inr}
use Rattle.recalc_core.specs.Given.{IsFound, IsGiven}
use Rattle.recalc_core.specs.declared.names.ReadName.{ReadName}
use Rattle.recalc_core.proofs.ReadNames.{read_here}
use Rattle.recalc_core.proofs.names.read_word.Goals as goal

pub returns-clause-read : goal.returns-clause-read
returns-clause-read g c =
    let b = g.T.Trees.workbook c.args.trees.now in
    let words = g.T.Trees.words c.args.trees.now in
    let name : ReadName = record { word = c.in_ok-copy-in-Formula.field-0; node = c.in-Some.node; home = c.in-Formula.home; tree = c.in-Formula.tree } in
    inr (
      name,
      c.in_ok-copy-in-Formula.ensures,
      read_here b words c.args.sheet c.args.word.now c.in-Some.node c.in_ok-tree.field-0 name
          (subst (IsFound b words c.args.word.now c.args.sheet) c.in-Some.is (subst (λ w. IsFound b words w c.args.sheet c.in_ok-node.field-0) c.as_str.ensures c.in_ok-node.ensures.found))
          (subst (λ w. IsGiven w words c.in-Some.node c.in_ok-tree.field-0) c.in_ok-node.ensures.leaves (subst (λ ws. IsGiven (g.T.Trees.workbook c.find.new.self) ws c.in-Some.node c.in_ok-tree.field-0) c.in_ok-node.ensures.words c.in_ok-tree.ensures.given))
          c.in-Formula.is c.in_ok-copy-in-Formula.ensures refl,
      c.in_ok-push-in-Formula.ensures.items,
    )
