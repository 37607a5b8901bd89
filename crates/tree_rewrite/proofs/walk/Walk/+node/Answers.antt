use Rattle.std.proofs.Common.{◌≡◌, ◌∙◌, ◌+◌, ◌-◌, ◌*◌, ◌<◌, sym, ap, subst, rules, take, drop, length, Bool, true, false, None}
use Rattle.std.proofs.lemmas.List.{take_rest, take_all}
use Rattle.formula_tree.specs.Arguments.{trees}
use Rattle.formula_tree.specs.Relative.{relative, relative_list}
use Rattle.cell_addr.specs.declared.axis.Axis.TheVariants.{Rows, Cols}
use Rattle.formula_tree.specs.Term.{depth_of, depth_of_all}
use Rattle.formula_tree.specs.Whole.{first_ref, last_ref}
use Rattle.tree_rewrite.specs.internal.Walk.{Takes, AllTake, term_of, terms_in, tree_replaced}
use Rattle.tree_rewrite.proofs.Parts.{staying-item, front-pushed, rest-pushed}
use Rattle.formula_tree.specs.declared.node.Node.TheVariants as nodes
use Rattle.formula_tree.proofs.RelativeNodes.{relative_list-trees}
use Rattle.tree_rewrite.proofs.Walking as walking
use Rattle.tree_rewrite.proofs.walk.Walk.+node.Goals as goal

-- a test has one answer
other : (b : Bool) → b ≡ false → b ≡ true → ⊥
other b f t = cc

pub node-returns-in-Number : goal.node-returns-in-Number
node-returns-in-Number g t c = walking.leaf-stays (g.R.Replacement.for_cell c.args.self.now.rule.now) (g.R.Replacement.for_area c.args.self.now.rule.now) c.args.node.now c.in-Number.is

pub node-returns-in-Some : goal.node-returns-in-Some
node-returns-in-Some g t c =
    walking.prefix-changes (g.R.Replacement.for_cell c.args.self.now.rule.now) (g.R.Replacement.for_area c.args.self.now.rule.now) c.args.node.now c.in-Prefix.sign c.in-Prefix.part c.in-Some.part c.in-Prefix.is
    (walking.changed term_of c.in_ok-part-in-Prefix.field-0 c.in-Some.part _ _ c.in-Some.is c.in_ok-part-in-Prefix.ensures)

pub node-returns-in-None : goal.node-returns-in-None
node-returns-in-None g t c =
    walking.prefix-stays (g.R.Replacement.for_cell c.args.self.now.rule.now) (g.R.Replacement.for_area c.args.self.now.rule.now) c.args.node.now c.in-Prefix.sign c.in-Prefix.part c.in-Prefix.is
    (walking.unchanged term_of c.in_ok-part-in-Prefix.field-0 _ _ c.in-None.is c.in_ok-part-in-Prefix.ensures)

pub node-returns-in-Some-2 : goal.node-returns-in-Some-2
node-returns-in-Some-2 g t c =
    walking.percent-changes (g.R.Replacement.for_cell c.args.self.now.rule.now) (g.R.Replacement.for_area c.args.self.now.rule.now) c.args.node.now c.in-Percent.part c.in-Some-2.part c.in-Percent.is
    (walking.changed term_of c.in_ok-part-in-Percent.field-0 c.in-Some-2.part _ _ c.in-Some-2.is c.in_ok-part-in-Percent.ensures)

pub node-returns-in-None-2 : goal.node-returns-in-None-2
node-returns-in-None-2 g t c =
    walking.percent-stays (g.R.Replacement.for_cell c.args.self.now.rule.now) (g.R.Replacement.for_area c.args.self.now.rule.now) c.args.node.now c.in-Percent.part c.in-Percent.is
    (walking.unchanged term_of c.in_ok-part-in-Percent.field-0 _ _ c.in-None-2.is c.in_ok-part-in-Percent.ensures)

pub node-returns-in-Some-4 : goal.node-returns-in-Some-4
node-returns-in-Some-4 g t c =
    walking.paren-changes (g.R.Replacement.for_cell c.args.self.now.rule.now) (g.R.Replacement.for_area c.args.self.now.rule.now) c.args.node.now c.in-Paren.part c.in-Some-4.part c.in-Paren.is
    (walking.changed term_of c.in_ok-part-in-Paren.field-0 c.in-Some-4.part _ _ c.in-Some-4.is c.in_ok-part-in-Paren.ensures)

pub node-returns-in-None-4 : goal.node-returns-in-None-4
node-returns-in-None-4 g t c =
    walking.paren-stays (g.R.Replacement.for_cell c.args.self.now.rule.now) (g.R.Replacement.for_area c.args.self.now.rule.now) c.args.node.now c.in-Paren.part c.in-Paren.is
    (walking.unchanged term_of c.in_ok-part-in-Paren.field-0 _ _ c.in-None-4.is c.in_ok-part-in-Paren.ensures)

pub node-returns-in_ok-copy-in-Some-3 : goal.node-returns-in_ok-copy-in-Some-3
node-returns-in_ok-copy-in-Some-3 g t c =
    let made = walking.call-changes (g.R.Replacement.for_cell c.args.self.now.rule.now) (g.R.Replacement.for_area c.args.self.now.rule.now) c.args.node.now c.in-Call.word c.in-Call.list c.in-Some-3.list c.in-Call.is
    (walking.changed relative_list c.in_ok-list-in-Call.field-0 c.in-Some-3.list _ _ c.in-Some-3.is c.in_ok-list-in-Call.ensures) in
    (ap (λ w. relative (nodes.Call w c.in-Some-3.list)) c.in_ok-copy-in-Some-3.ensures ∙ made.0, made.1)

pub node-returns-in-None-3 : goal.node-returns-in-None-3
node-returns-in-None-3 g t c =
    walking.call-stays (g.R.Replacement.for_cell c.args.self.now.rule.now) (g.R.Replacement.for_area c.args.self.now.rule.now) c.args.node.now c.in-Call.word c.in-Call.list c.in-Call.is
    (walking.unchanged relative_list c.in_ok-list-in-Call.field-0 _ _ c.in-None-3.is c.in_ok-list-in-Call.ensures)

pub node-returns-in_ok-right-in-Binary : goal.node-returns-in_ok-right-in-Binary
node-returns-in_ok-right-in-Binary g t c =
    let b = c.in-Binary in
    let some : (c.in_ok-new_left-in-Binary.new_left ≡ None) × (c.in_ok-new_right-in-Binary.new_right ≡ None) → ⊥ = λ h. absurd (other c.neither.result c.if-neither.false (c.neither.ensures.1 h)) in
    walking.binary-changes (g.R.Replacement.for_cell c.args.self.now.rule.now) (g.R.Replacement.for_area c.args.self.now.rule.now) c.args.node.now b.op b.left b.right c.in_ok-left-in-Binary.left c.in_ok-right-in-Binary.right
    c.in_ok-new_left-in-Binary.new_left c.in_ok-new_right-in-Binary.new_right b.is c.in_ok-new_left-in-Binary.ensures c.in_ok-new_right-in-Binary.ensures some
    (c.in_ok-left-in-Binary.ensures (tree_replaced (g.R.Replacement.for_cell c.args.self.now.rule.now) (g.R.Replacement.for_area c.args.self.now.rule.now) b.left) c.in_ok-new_left-in-Binary.ensures)
    (c.in_ok-right-in-Binary.ensures (tree_replaced (g.R.Replacement.for_cell c.args.self.now.rule.now) (g.R.Replacement.for_area c.args.self.now.rule.now) b.right) c.in_ok-new_right-in-Binary.ensures)

pub node-returns-then-neither : goal.node-returns-then-neither
node-returns-then-neither g t c =
    let b = c.in-Binary in
    let none = c.neither.ensures.0 c.if-neither.true in
    walking.binary-stays (g.R.Replacement.for_cell c.args.self.now.rule.now) (g.R.Replacement.for_area c.args.self.now.rule.now) c.args.node.now b.op b.left b.right b.is
    (walking.unchanged term_of c.in_ok-new_left-in-Binary.new_left (term_of b.left) (tree_replaced (g.R.Replacement.for_cell c.args.self.now.rule.now) (g.R.Replacement.for_area c.args.self.now.rule.now) b.left) none.0 c.in_ok-new_left-in-Binary.ensures)
    (walking.unchanged term_of c.in_ok-new_right-in-Binary.new_right (term_of b.right) (tree_replaced (g.R.Replacement.for_cell c.args.self.now.rule.now) (g.R.Replacement.for_area c.args.self.now.rule.now) b.right) none.1 c.in_ok-new_right-in-Binary.ensures)

pub node-part-requires : goal.node-part-requires
node-part-requires g t c =
    let fits : Takes (g.R.Replacement.TakesCell c.args.self.now.rule.now) (g.R.Replacement.TakesArea c.args.self.now.rule.now) (term_of c.in-Prefix.part) = walking.Takes-prefix (g.R.Replacement.TakesCell c.args.self.now.rule.now) (g.R.Replacement.TakesArea c.args.self.now.rule.now) c.args.node.now c.in-Prefix.sign c.in-Prefix.part c.in-Prefix.is c.requires in
    let less : 4 * depth_of (term_of c.in-Prefix.part) + 1 < 4 * depth_of (relative c.args.node.now) = walking.depth-prefix c.args.node.now c.in-Prefix.sign c.in-Prefix.part c.in-Prefix.is in
    search rules

pub node-part-requires-in-Percent : goal.node-part-requires-in-Percent
node-part-requires-in-Percent g t c =
    let fits : Takes (g.R.Replacement.TakesCell c.args.self.now.rule.now) (g.R.Replacement.TakesArea c.args.self.now.rule.now) (term_of c.in-Percent.part) = walking.Takes-percent (g.R.Replacement.TakesCell c.args.self.now.rule.now) (g.R.Replacement.TakesArea c.args.self.now.rule.now) c.args.node.now c.in-Percent.part c.in-Percent.is c.requires in
    let less : 4 * depth_of (term_of c.in-Percent.part) + 1 < 4 * depth_of (relative c.args.node.now) = walking.depth-percent c.args.node.now c.in-Percent.part c.in-Percent.is in
    search rules

pub node-part-requires-in-Paren : goal.node-part-requires-in-Paren
node-part-requires-in-Paren g t c =
    let fits : Takes (g.R.Replacement.TakesCell c.args.self.now.rule.now) (g.R.Replacement.TakesArea c.args.self.now.rule.now) (term_of c.in-Paren.part) = walking.Takes-paren (g.R.Replacement.TakesCell c.args.self.now.rule.now) (g.R.Replacement.TakesArea c.args.self.now.rule.now) c.args.node.now c.in-Paren.part c.in-Paren.is c.requires in
    let less : 4 * depth_of (term_of c.in-Paren.part) + 1 < 4 * depth_of (relative c.args.node.now) = walking.depth-paren c.args.node.now c.in-Paren.part c.in-Paren.is in
    search rules

pub node-part-requires-in-Binary : goal.node-part-requires-in-Binary
node-part-requires-in-Binary g t c =
    let b = c.in-Binary in
    let fits : Takes (g.R.Replacement.TakesCell c.args.self.now.rule.now) (g.R.Replacement.TakesArea c.args.self.now.rule.now) (term_of b.left) = (walking.Takes-binary (g.R.Replacement.TakesCell c.args.self.now.rule.now) (g.R.Replacement.TakesArea c.args.self.now.rule.now) c.args.node.now b.op b.left b.right b.is c.requires).0 in
    let less : 4 * depth_of (term_of b.left) + 1 < 4 * depth_of (relative c.args.node.now) = (walking.depth-binary c.args.node.now b.op b.left b.right b.is).0 in
    search rules

pub node-part-requires-in-Binary-2 : goal.node-part-requires-in-Binary-2
node-part-requires-in-Binary-2 g t c =
    let b = c.in-Binary in
    let fits : Takes (g.R.Replacement.TakesCell c.args.self.now.rule.now) (g.R.Replacement.TakesArea c.args.self.now.rule.now) (term_of b.right) = (walking.Takes-binary (g.R.Replacement.TakesCell c.args.self.now.rule.now) (g.R.Replacement.TakesArea c.args.self.now.rule.now) c.args.node.now b.op b.left b.right b.is c.requires).1 in
    let less : 4 * depth_of (term_of b.right) + 1 < 4 * depth_of (relative c.args.node.now) = (walking.depth-binary c.args.node.now b.op b.left b.right b.is).1 in
    search rules

pub node-arguments-requires : goal.node-arguments-requires
node-arguments-requires g t c =
    let fits : AllTake (g.R.Replacement.TakesCell c.args.self.now.rule.now) (g.R.Replacement.TakesArea c.args.self.now.rule.now) (relative_list c.in-Call.list) = walking.Takes-call (g.R.Replacement.TakesCell c.args.self.now.rule.now) (g.R.Replacement.TakesArea c.args.self.now.rule.now) c.args.node.now c.in-Call.word c.in-Call.list c.in-Call.is c.requires in
    let less : 4 * depth_of_all (relative_list c.in-Call.list) + 3 < 4 * depth_of (relative c.args.node.now) = walking.depth-call c.args.node.now c.in-Call.word c.in-Call.list c.in-Call.is in
    search rules

pub arguments-part-requires : goal.arguments-part-requires
arguments-part-requires g t c =
    let items = c.items-items.result.now in
    let item = c.index-items-index.result in
    let all : AllTake (g.R.Replacement.TakesCell c.args.self.now.rule.now) (g.R.Replacement.TakesArea c.args.self.now.rule.now) (terms_in items) =
    subst (AllTake (g.R.Replacement.TakesCell c.args.self.now.rule.now) (g.R.Replacement.TakesArea c.args.self.now.rule.now)) (relative_list-trees c.args.list.now ∙ ap terms_in (sym c.items-items.ensures)) c.requires in
    let fits : Takes (g.R.Replacement.TakesCell c.args.self.now.rule.now) (g.R.Replacement.TakesArea c.args.self.now.rule.now) (term_of item) = walking.AllTake-item (g.R.Replacement.TakesCell c.args.self.now.rule.now) (g.R.Replacement.TakesArea c.args.self.now.rule.now) items c.staying.index item c.staying-test.true c.index-items-index.is all in
    let less : 4 * depth_of (term_of item) + 1 < 4 * depth_of_all (relative_list c.args.list.now) + 3 =
    walking.depth-item c.args.list.now items c.staying.index item c.items-items.ensures c.staying-test.true c.index-items-index.is in
    search rules

pub arguments-returns-in-Some : goal.arguments-returns-in-Some
arguments-returns-in-Some g t c =
    let items = c.items-items.result.now in
    let item = c.index-items-index.result in
    let rest = take (length items - (c.staying.index + 1)) (drop (c.staying.index + 1) items) in
    walking.arguments-change (g.R.Replacement.for_cell c.args.self.now.rule.now) (g.R.Replacement.for_area c.args.self.now.rule.now) c.args.list.now c.in_ok-list.list items c.staying.index item c.in-Some.changed rest c.items-items.ensures
    c.staying-test.true c.index-items-index.is c.staying.invariant
    (walking.changed term_of c.in_ok-changed.field-0 c.in-Some.changed _ _ c.in-Some.is c.in_ok-changed.ensures)
    (take_rest items (c.staying.index + 1)) c.in_ok-list.ensures

pub arguments-arguments_from-requires : goal.arguments-arguments_from-requires
arguments-arguments_from-requires g t c =
    let items = c.items-items.result.now in
    let rest = take (length items - (c.staying.index + 1)) (drop (c.staying.index + 1) items) in
    let is = take_rest items (c.staying.index + 1) in
    let all : AllTake (g.R.Replacement.TakesCell c.args.self.now.rule.now) (g.R.Replacement.TakesArea c.args.self.now.rule.now) (terms_in items) =
    subst (AllTake (g.R.Replacement.TakesCell c.args.self.now.rule.now) (g.R.Replacement.TakesArea c.args.self.now.rule.now)) (relative_list-trees c.args.list.now ∙ ap terms_in (sym c.items-items.ensures)) c.requires in
    let fits : AllTake (g.R.Replacement.TakesCell c.args.self.now.rule.now) (g.R.Replacement.TakesArea c.args.self.now.rule.now) (terms_in rest) =
    subst (λ xs. AllTake (g.R.Replacement.TakesCell c.args.self.now.rule.now) (g.R.Replacement.TakesArea c.args.self.now.rule.now) (terms_in xs)) (sym is) (walking.AllTake-drop (g.R.Replacement.TakesCell c.args.self.now.rule.now) (g.R.Replacement.TakesArea c.args.self.now.rule.now) items (c.staying.index + 1) all) in
    let less : 4 * depth_of_all (terms_in rest) + 2 < 4 * depth_of_all (relative_list c.args.list.now) + 3 =
    walking.depth-rest c.args.list.now items rest (c.staying.index + 1) c.items-items.ensures is in
    search rules

pub arguments-staying-preserved : goal.arguments-staying-preserved
arguments-staying-preserved g t c =
    staying-item (tree_replaced (g.R.Replacement.for_cell c.args.self.now.rule.now) (g.R.Replacement.for_area c.args.self.now.rule.now)) term_of c.items-items.result.now c.staying.index c.index-items-index.result c.staying-test.true c.index-items-index.is
    c.staying.invariant
    (walking.unchanged term_of c.in_ok-changed.field-0 (term_of c.index-items-index.result) (tree_replaced (g.R.Replacement.for_cell c.args.self.now.rule.now) (g.R.Replacement.for_area c.args.self.now.rule.now) c.index-items-index.result) c.in_default.is c.in_ok-changed.ensures)

pub arguments-returns : goal.arguments-returns
arguments-returns g t c =
    let items = c.items-items.result.now in
    let past : take c.staying.index items ≡ items = take_all c.staying.index items c.staying-test.false in
    walking.arguments-stay (g.R.Replacement.for_cell c.args.self.now.rule.now) (g.R.Replacement.for_area c.args.self.now.rule.now) c.args.list.now items c.items-items.ensures (rw past at c.staying.invariant)

pub arguments_from-rest-preserved : goal.arguments_from-rest-preserved
arguments_from-rest-preserved g t c =
    rest-pushed term_of (tree_replaced (g.R.Replacement.for_cell c.args.self.now.rule.now) (g.R.Replacement.for_area c.args.self.now.rule.now)) (trees c.push-in-rest.new.self) (trees c.rest.list) c.args.front.now c.args.rest.now (term_of c.args.changed)
    c.rest.argument-index c.in_ok-new_or_shared.field-0 c.argument-item-in-rest.result c.rest-test.true c.argument-item-in-rest.is
    c.in_ok-push-3.ensures.ok c.rest.invariant (c.in_ok-new_or_shared.ensures (tree_replaced (g.R.Replacement.for_cell c.args.self.now.rule.now) (g.R.Replacement.for_area c.args.self.now.rule.now) c.argument-item-in-rest.result) c.in_ok-new.ensures)

pub arguments_from-front-preserved : goal.arguments_from-front-preserved
arguments_from-front-preserved g t c =
    front-pushed term_of (trees c.push.new.self) (trees c.front.list) c.args.front.now c.front.argument-index c.in_ok-clone.field-0 c.argument-item.result
    c.front-test.true c.argument-item.is c.in_ok-push.ensures.ok c.front.invariant (ap relative c.in_ok-clone.ensures.cases)

pub arguments_from-returns : goal.arguments_from-returns
arguments_from-returns g t c =
    let past : take c.rest.argument-index c.args.rest.now ≡ c.args.rest.now = take_all c.rest.argument-index c.args.rest.now c.rest-test.false in
    rw past at c.rest.invariant

pub arguments_from-part-requires : goal.arguments_from-part-requires
arguments_from-part-requires g t c =
    let item = c.argument-item-in-rest.result in
    let fits : Takes (g.R.Replacement.TakesCell c.args.self.now.rule.now) (g.R.Replacement.TakesArea c.args.self.now.rule.now) (term_of item) =
    walking.AllTake-item (g.R.Replacement.TakesCell c.args.self.now.rule.now) (g.R.Replacement.TakesArea c.args.self.now.rule.now) c.args.rest.now c.rest.argument-index item c.rest-test.true c.argument-item-in-rest.is c.requires in
    let less : 4 * depth_of (term_of item) + 1 < 4 * depth_of_all (terms_in c.args.rest.now) + 2 =
    walking.depth-of_rest c.args.rest.now c.rest.argument-index item c.rest-test.true c.argument-item-in-rest.is in
    search rules

pub node-reference-requires : goal.node-reference-requires
node-reference-requires g t c = walking.Takes-cell (g.R.Replacement.TakesCell c.args.self.now.rule.now) (g.R.Replacement.TakesArea c.args.self.now.rule.now) c.args.node.now c.in-Cell.reference c.in-Cell.is c.requires

pub node-area-requires : goal.node-area-requires
node-area-requires g t c =
    record { takes = walking.Takes-area (g.R.Replacement.TakesCell c.args.self.now.rule.now) (g.R.Replacement.TakesArea c.args.self.now.rule.now) c.args.node.now c.in-Area.first c.in-Area.last c.in-Area.is c.requires; shape = tt }

pub node-returns-in-Cell : goal.node-returns-in-Cell
node-returns-in-Cell g t c =
    walking.cell-becomes (g.R.Replacement.for_cell c.args.self.now.rule.now) (g.R.Replacement.for_area c.args.self.now.rule.now) c.args.node.now c.in-Cell.reference c.reference.result c.in-Cell.is c.reference.ensures

pub node-returns-in-Area : goal.node-returns-in-Area
node-returns-in-Area g t c =
    walking.area-becomes (g.R.Replacement.for_cell c.args.self.now.rule.now) (g.R.Replacement.for_area c.args.self.now.rule.now) c.args.node.now c.in-Area.first c.in-Area.last c.area.result c.in-Area.is c.area.ensures

pub node-whole-requires : goal.node-whole-requires
node-whole-requires g t c =
    walking.Takes-whole (g.R.Replacement.TakesCell c.args.self.now.rule.now) (g.R.Replacement.TakesArea c.args.self.now.rule.now) c.args.node.now Rows (first_ref Rows c.in-WholeRows.sheet c.in-WholeRows.first) (last_ref Rows c.in-WholeRows.sheet c.in-WholeRows.last)
    (ap relative c.in-WholeRows.is ∙ walking.relative-WholeRows c.in-WholeRows.sheet c.in-WholeRows.first c.in-WholeRows.last) c.requires

pub node-returns-in-WholeRows : goal.node-returns-in-WholeRows
node-returns-in-WholeRows g t c =
    walking.whole-becomes (g.R.Replacement.for_cell c.args.self.now.rule.now) (g.R.Replacement.for_area c.args.self.now.rule.now) c.args.node.now Rows (first_ref Rows c.in-WholeRows.sheet c.in-WholeRows.first) (last_ref Rows c.in-WholeRows.sheet c.in-WholeRows.last)
    c.whole.result (ap relative c.in-WholeRows.is ∙ walking.relative-WholeRows c.in-WholeRows.sheet c.in-WholeRows.first c.in-WholeRows.last) c.whole.ensures

pub node-whole-requires-in-WholeCols : goal.node-whole-requires-in-WholeCols
node-whole-requires-in-WholeCols g t c =
    walking.Takes-whole (g.R.Replacement.TakesCell c.args.self.now.rule.now) (g.R.Replacement.TakesArea c.args.self.now.rule.now) c.args.node.now Cols (first_ref Cols c.in-WholeCols.sheet c.in-WholeCols.first) (last_ref Cols c.in-WholeCols.sheet c.in-WholeCols.last)
    (ap relative c.in-WholeCols.is ∙ walking.relative-WholeCols c.in-WholeCols.sheet c.in-WholeCols.first c.in-WholeCols.last) c.requires

pub node-returns-in-WholeCols : goal.node-returns-in-WholeCols
node-returns-in-WholeCols g t c =
    walking.whole-becomes (g.R.Replacement.for_cell c.args.self.now.rule.now) (g.R.Replacement.for_area c.args.self.now.rule.now) c.args.node.now Cols (first_ref Cols c.in-WholeCols.sheet c.in-WholeCols.first) (last_ref Cols c.in-WholeCols.sheet c.in-WholeCols.last)
    c.whole-in-WholeCols.result (ap relative c.in-WholeCols.is ∙ walking.relative-WholeCols c.in-WholeCols.sheet c.in-WholeCols.first c.in-WholeCols.last) c.whole-in-WholeCols.ensures
