use Rattle.std.proofs.Common.{◌≡◌, ◌∙◌, sym, ap, subst, refl, [], drop, false, IsTrue}
use Rattle.std.proofs.lemmas.List.{drop_all}
use Rattle.formula_tree.specs.Reference.{base_of, corner_at}
use Rattle.formula_tree.specs.Relative.{relative, relative_list}
use Rattle.formula_tree.specs.StandsFor.{at_home}
use Rattle.cell_addr.specs.declared.axis.Axis.TheVariants.{Rows, Cols}
use Rattle.formula_tree.specs.Term.{whole, prefix, percent, binary, call, paren, each_corner_all}
use Rattle.formula_tree.specs.Whole.{first_ref, last_ref}
use Rattle.formula_tree.proofs.RelativeNodes.{relative-Binary, relative-Call, relative-Paren, relative_list-trees}
use Rattle.tree_rewrite.specs.Rewritten.{ComesBack}
use Rattle.tree_rewrite.specs.internal.Passage.{AllComeBack}
use Rattle.tree_rewrite.specs.internal.Walk.{term_of, terms_in}
use Rattle.tree_rewrite.proofs.NodesBack as nodes
use Rattle.tree_rewrite.proofs.Returns.{all_at, comes-on, comes-not}
use Rattle.tree_rewrite.proofs.Walking as walking
use Rattle.tree_rewrite.proofs.loss.+comes_back.Goals as goal

-- what a test denies
no-and : {P : Type 0} → (IsTrue false → P) × (P → IsTrue false) → P → ⊥
no-and e h = let t = e.1 h in cc

pub all_come_back-returns-then-not-comes_back : goal.all_come_back-returns-then-not-comes_back
all_come_back-returns-then-not-comes_back t c =
    let item = c.argument-item.result in
    let none : ComesBack c.args.s.now (at_home c.args.home (term_of item)) → ⊥ = λ h. absurd (no-and (rw c.deref.ensures at c.if-not-comes_back.ensures) h) in (
      λ h. absurd (cc),
      λ h. absurd (comes-not c.args.s.now c.args.home c.items-argument-items.result.now c.arguments.argument-index item
          (AllComeBack c.args.s.now (each_corner_all (corner_at (base_of c.args.home)) (relative_list c.args.list.now)))
          c.arguments-test.true c.argument-item.is c.arguments.invariant none h),
    )

pub all_come_back-arguments-init : goal.all_come_back-arguments-init
all_come_back-arguments-init t c =
    let same : each_corner_all (corner_at (base_of c.args.home)) (relative_list c.args.list.now) ≡ all_at c.args.home c.items-argument-items.result.now =
    ap (each_corner_all (corner_at (base_of c.args.home))) (relative_list-trees c.args.list.now ∙ ap terms_in (sym c.items-argument-items.ensures)) in
    (λ h. subst (AllComeBack c.args.s.now) (sym same) h, λ h. subst (AllComeBack c.args.s.now) same h)

pub all_come_back-arguments-preserved : goal.all_come_back-arguments-preserved
all_come_back-arguments-preserved t c =
    comes-on c.args.s.now c.args.home c.items-argument-items.result.now c.arguments.argument-index c.argument-item.result
    (AllComeBack c.args.s.now (each_corner_all (corner_at (base_of c.args.home)) (relative_list c.args.list.now)))
    c.arguments-test.true c.argument-item.is c.arguments.invariant ((rw c.deref.ensures at c.if-not-comes_back.ensures).0 refl)

pub all_come_back-returns : goal.all_come_back-returns
all_come_back-returns t c =
    let past : drop c.arguments.argument-index c.items-argument-items.result.now ≡ [] = drop_all c.arguments.argument-index c.items-argument-items.result.now c.arguments-test.false in
    (λ h. (rw past at c.arguments.invariant).0 refl, λ h. refl)

pub comes_back-returns-in-WholeRows : goal.comes_back-returns-in-WholeRows
comes_back-returns-in-WholeRows t c =
    nodes.node-back c.args.s.now c.args.home c.args.tree.now (whole Rows (first_ref Rows c.in-WholeRows.sheet c.in-WholeRows.first) (last_ref Rows c.in-WholeRows.sheet c.in-WholeRows.last)) c.whole_comes_back.result
    (ap relative c.in-WholeRows.is ∙ walking.relative-WholeRows c.in-WholeRows.sheet c.in-WholeRows.first c.in-WholeRows.last) c.whole_comes_back.ensures

pub comes_back-returns-in-WholeCols : goal.comes_back-returns-in-WholeCols
comes_back-returns-in-WholeCols t c =
    nodes.node-back c.args.s.now c.args.home c.args.tree.now (whole Cols (first_ref Cols c.in-WholeCols.sheet c.in-WholeCols.first) (last_ref Cols c.in-WholeCols.sheet c.in-WholeCols.last)) c.whole_comes_back-in-WholeCols.result
    (ap relative c.in-WholeCols.is ∙ walking.relative-WholeCols c.in-WholeCols.sheet c.in-WholeCols.first c.in-WholeCols.last) c.whole_comes_back-in-WholeCols.ensures

pub comes_back-returns-in-Prefix : goal.comes_back-returns-in-Prefix
comes_back-returns-in-Prefix t c =
    nodes.node-back c.args.s.now c.args.home c.args.tree.now (prefix c.in-Prefix.field-0 (term_of c.in-Prefix.part)) c.comes_back.result (ap relative c.in-Prefix.is ∙ walking.relative-Prefix c.in-Prefix.field-0 c.in-Prefix.part)
    (nodes.prefix-back c.args.s.now c.in-Prefix.field-0 (at_home c.args.home (term_of c.in-Prefix.part)) c.comes_back.result (rw c.deref.ensures at c.comes_back.ensures))

pub comes_back-returns-in-Percent : goal.comes_back-returns-in-Percent
comes_back-returns-in-Percent t c =
    nodes.node-back c.args.s.now c.args.home c.args.tree.now (percent (term_of c.in-Percent.part)) c.comes_back-in-Percent.result (ap relative c.in-Percent.is ∙ walking.relative-Percent c.in-Percent.part)
    (nodes.percent-back c.args.s.now (at_home c.args.home (term_of c.in-Percent.part)) c.comes_back-in-Percent.result (rw c.deref-in-Percent.ensures at c.comes_back-in-Percent.ensures))

pub comes_back-returns-in-Paren : goal.comes_back-returns-in-Paren
comes_back-returns-in-Paren t c =
    nodes.node-back c.args.s.now c.args.home c.args.tree.now (paren (term_of c.in-Paren.part)) c.comes_back-in-Paren.result (ap relative c.in-Paren.is ∙ relative-Paren c.in-Paren.part)
    (nodes.paren-back c.args.s.now (at_home c.args.home (term_of c.in-Paren.part)) c.comes_back-in-Paren.result (rw c.deref-in-Paren.ensures at c.comes_back-in-Paren.ensures))

pub comes_back-returns-then-comes_back : goal.comes_back-returns-then-comes_back
comes_back-returns-then-comes_back t c =
    nodes.node-back c.args.s.now c.args.home c.args.tree.now (binary c.in-Binary.field-0 (term_of c.in-Binary.left) (term_of c.in-Binary.right)) c.comes_back-then-comes_back.result (ap relative c.in-Binary.is ∙ relative-Binary c.in-Binary.field-0 c.in-Binary.left c.in-Binary.right)
    (nodes.binary-back c.args.s.now c.in-Binary.field-0 (at_home c.args.home (term_of c.in-Binary.left)) (at_home c.args.home (term_of c.in-Binary.right)) c.comes_back-in-Binary.result c.comes_back-then-comes_back.result (rw c.deref-in-Binary.ensures at c.comes_back-in-Binary.ensures) c.if-comes_back.true (rw c.deref-then-comes_back.ensures at c.comes_back-then-comes_back.ensures))

pub comes_back-returns-else-comes_back : goal.comes_back-returns-else-comes_back
comes_back-returns-else-comes_back t c =
    nodes.node-back c.args.s.now c.args.home c.args.tree.now (binary c.in-Binary.field-0 (term_of c.in-Binary.left) (term_of c.in-Binary.right)) c.comes_back-in-Binary.result (ap relative c.in-Binary.is ∙ relative-Binary c.in-Binary.field-0 c.in-Binary.left c.in-Binary.right)
    (nodes.binary-lost c.args.s.now c.in-Binary.field-0 (at_home c.args.home (term_of c.in-Binary.left)) (at_home c.args.home (term_of c.in-Binary.right)) c.comes_back-in-Binary.result (rw c.deref-in-Binary.ensures at c.comes_back-in-Binary.ensures) c.if-comes_back.false)

pub comes_back-returns-in-Call : goal.comes_back-returns-in-Call
comes_back-returns-in-Call t c =
    nodes.node-back c.args.s.now c.args.home c.args.tree.now (call c.in-Call.field-0 (relative_list c.in-Call.list)) c.all_come_back.result (ap relative c.in-Call.is ∙ relative-Call c.in-Call.field-0 c.in-Call.list)
    (nodes.call-back c.args.s.now c.in-Call.field-0 (each_corner_all (corner_at (base_of c.args.home)) (relative_list c.in-Call.list)) c.all_come_back.result c.all_come_back.ensures)
