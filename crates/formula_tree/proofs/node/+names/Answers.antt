use Rattle.std.proofs.Common.{ap, ◌+◌, drop}
use Rattle.cell_addr.specs.Sheets.{same_name}
use Rattle.formula_tree.specs.Links.{once_after, names_in, names_in_all}
use Rattle.formula_tree.specs.Relative.{relative, relative_list}
use Rattle.formula_tree.proofs.Once.{once_after-two, once_after-step, drop-item}
use Rattle.formula_tree.proofs.RelativeNodes.{relative-Binary, relatives, relative_list-trees}
use Rattle.formula_tree.proofs.node.+names.Goals as goal

pub Node::add_names-returns-in_ok-add_names-in-Binary-2 : goal.Node::add_names-returns-in_ok-add_names-in-Binary-2
Node::add_names-returns-in_ok-add_names-in-Binary-2 t c =
    let left = c.deref-in-Binary.result.now in
    let right = c.deref-in-Binary-2.result.now in
    once_after-two same_name c.args.names.now.items c.add_names-in-Binary.new.names.items c.add_names-in-Binary-2.new.names.items
    (names_in (relative left)) (names_in (relative right)) (names_in (relative c.args.self.now))
    c.in_ok-add_names-in-Binary.ensures c.in_ok-add_names-in-Binary-2.ensures
    (rw (c.in-Binary.is, c.deref-in-Binary.ensures, c.deref-in-Binary-2.ensures) (ap names_in (relative-Binary c.in-Binary.field-0 c.in-Binary.left c.in-Binary.right)))

pub TreeList::add_names-arguments-preserved : goal.TreeList::add_names-arguments-preserved
TreeList::add_names-arguments-preserved t c =
    let items = c.items-argument-items.result.now in
    let i = c.arguments.argument-index in
    let item = c.argument-item.result in
    once_after-step same_name c.arguments.names.items c.add_names.new.names.items (once_after same_name c.args.names.now.items (names_in_all (relative_list c.args.self.now)))
    (names_in (relative item.value)) (names_in_all (relatives (drop (i + 1) items))) (names_in_all (relatives (drop i items)))
    (rw c.deref.ensures at c.in_ok-add_names.ensures) (ap (λ xs. names_in_all (relatives xs)) (drop-item items i item c.arguments-test.true c.argument-item.is)) c.arguments.invariant

pub TreeList::add_names-arguments-init : goal.TreeList::add_names-arguments-init
TreeList::add_names-arguments-init t c = rw (c.items-argument-items.ensures, relative_list-trees c.args.self.now)
