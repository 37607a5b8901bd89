use Rattle.std.proofs.Common.{ap, ◌∙◌, sym, ◌+◌, [], ◌++◌, drop, ◌&&◌, if◌then◌else◌}
use Rattle.formula_tree.specs.Links.{once_after, same_link, links_in, links_in_all}
use Rattle.formula_tree.specs.Term.{each_corner_all}
use Rattle.formula_tree.specs.Reference.{base_of, corner_at}
use Rattle.formula_tree.specs.Relative.{relative, relative_list}
use Rattle.formula_tree.specs.StandsFor.{at_home}
use Rattle.formula_tree.proofs.EachCorner.{is_reference-each_corner}
use Rattle.formula_tree.proofs.Once.{once_after-two, once_after-step, drop-item}
use Rattle.formula_tree.proofs.RelativeNodes.{relative-Binary, relatives, relative_list-trees}
use Rattle.formula_tree.proofs.node.+links.Goals as goal

pub Node::add_links-returns-in_ok-add_links-in-Binary-2 : goal.Node::add_links-returns-in_ok-add_links-in-Binary-2
Node::add_links-returns-in_ok-add_links-in-Binary-2 t c =
    let left = c.deref-in-Binary.result.now in
    let right = c.deref-in-Binary-2.result.now in
    once_after-two same_link c.args.links.now.items c.add_links-in-Binary.new.links.items c.add_links-in-Binary-2.new.links.items
    (links_in (at_home c.args.home (relative left))) (links_in (at_home c.args.home (relative right))) (links_in (at_home c.args.home (relative c.args.self.now)))
    c.in_ok-add_links-in-Binary.ensures c.in_ok-add_links-in-Binary-2.ensures
    (rw (c.in-Binary.is, c.deref-in-Binary.ensures, c.deref-in-Binary-2.ensures) (ap (λ t. links_in (at_home c.args.home t)) (relative-Binary c.in-Binary.field-0 c.in-Binary.left c.in-Binary.right)))

pub TreeList::add_links-arguments-init : goal.TreeList::add_links-arguments-init
TreeList::add_links-arguments-init t c = rw (c.items-argument-items.ensures, relative_list-trees c.args.self.now)

pub TreeList::add_links-arguments-preserved : goal.TreeList::add_links-arguments-preserved
TreeList::add_links-arguments-preserved t c =
    let items = c.items-argument-items.result.now in
    let i = c.arguments.argument-index in
    let item = c.argument-item.result in
    let f = corner_at (base_of c.args.home) in
    let rest = links_in_all c.args.skip (each_corner_all f (relatives (drop (i + 1) items))) in
    let kept = is_reference-each_corner f (relative item.value) in
    once_after-step same_link c.arguments.links.items c.add_links.new.links.items (once_after same_link c.args.links.now.items (links_in_all c.args.skip (each_corner_all f (relative_list c.args.self.now))))
    (links_in (at_home c.args.home (relative item.value))) rest (links_in_all c.args.skip (each_corner_all f (relatives (drop i items))))
    (rw c.deref-in-arguments.ensures at c.in_ok-add_links.ensures)
    (ap (λ xs. links_in_all c.args.skip (each_corner_all f (relatives xs))) (drop-item items i item c.arguments-test.true c.argument-item.is)
    ∙ ap (λ b. (if c.args.skip && b then [] else links_in (at_home c.args.home (relative item.value))) ++ rest) kept
    ∙ ap (λ b. (if b then [] else links_in (at_home c.args.home (relative item.value))) ++ rest) (sym (rw c.deref.ensures at c.if-is_skipped.ensures)))
    c.arguments.invariant
