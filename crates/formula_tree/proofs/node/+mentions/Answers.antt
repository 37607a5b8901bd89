use Rattle.std.proofs.Common.{ap, ◌∙◌, sym, ◌+◌, [], ◌++◌, drop, ◌&&◌, if◌then◌else◌}
use Rattle.formula_tree.specs.Links.{once_after}
use Rattle.formula_tree.specs.Mentions.{same_mention, mentions_in, mentions_in_all}
use Rattle.formula_tree.specs.Term.{each_corner_all}
use Rattle.formula_tree.specs.Reference.{base_of, corner_at}
use Rattle.formula_tree.specs.Relative.{relative, relative_list}
use Rattle.formula_tree.specs.StandsFor.{at_home}
use Rattle.formula_tree.proofs.EachCorner.{is_reference-each_corner}
use Rattle.formula_tree.proofs.Once.{once_after-two, once_after-step, drop-item}
use Rattle.formula_tree.proofs.RelativeNodes.{relative-Binary, relatives, relative_list-trees}
use Rattle.formula_tree.proofs.node.+mentions.Goals as goal

pub Node::add_mentions-returns-in_ok-add_mentions-in-Binary-2 : goal.Node::add_mentions-returns-in_ok-add_mentions-in-Binary-2
Node::add_mentions-returns-in_ok-add_mentions-in-Binary-2 t c =
    let left = c.deref-in-Binary.result.now in
    let right = c.deref-in-Binary-2.result.now in
    once_after-two same_mention c.args.list.now.items c.add_mentions-in-Binary.new.list.items c.add_mentions-in-Binary-2.new.list.items
    (mentions_in (at_home c.args.home (relative left))) (mentions_in (at_home c.args.home (relative right))) (mentions_in (at_home c.args.home (relative c.args.self.now)))
    c.in_ok-add_mentions-in-Binary.ensures c.in_ok-add_mentions-in-Binary-2.ensures
    (rw (c.in-Binary.is, c.deref-in-Binary.ensures, c.deref-in-Binary-2.ensures) (ap (λ t. mentions_in (at_home c.args.home t)) (relative-Binary c.in-Binary.field-0 c.in-Binary.left c.in-Binary.right)))

pub TreeList::add_mentions-arguments-init : goal.TreeList::add_mentions-arguments-init
TreeList::add_mentions-arguments-init t c = rw (c.items-argument-items.ensures, relative_list-trees c.args.self.now)

pub TreeList::add_mentions-arguments-preserved : goal.TreeList::add_mentions-arguments-preserved
TreeList::add_mentions-arguments-preserved t c =
    let items = c.items-argument-items.result.now in
    let i = c.arguments.argument-index in
    let item = c.argument-item.result in
    let f = corner_at (base_of c.args.home) in
    let rest = mentions_in_all c.args.skip (each_corner_all f (relatives (drop (i + 1) items))) in
    let kept = is_reference-each_corner f (relative item.value) in
    once_after-step same_mention c.arguments.list.items c.add_mentions.new.list.items (once_after same_mention c.args.list.now.items (mentions_in_all c.args.skip (each_corner_all f (relative_list c.args.self.now))))
    (mentions_in (at_home c.args.home (relative item.value))) rest (mentions_in_all c.args.skip (each_corner_all f (relatives (drop i items))))
    (rw c.deref-in-arguments.ensures at c.in_ok-add_mentions.ensures)
    (ap (λ xs. mentions_in_all c.args.skip (each_corner_all f (relatives xs))) (drop-item items i item c.arguments-test.true c.argument-item.is)
    ∙ ap (λ b. (if c.args.skip && b then [] else mentions_in (at_home c.args.home (relative item.value))) ++ rest) kept
    ∙ ap (λ b. (if b then [] else mentions_in (at_home c.args.home (relative item.value))) ++ rest) (sym (rw c.deref.ensures at c.if-is_skipped.ensures)))
    c.arguments.invariant
