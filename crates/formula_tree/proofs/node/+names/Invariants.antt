use Rattle.std.proofs.Common.{◌≡◌, drop}
use Rattle.cell_addr.specs.Sheets.{same_name}
use Rattle.formula_tree.specs.Links.{once_after, names_in_all}
use Rattle.formula_tree.specs.Relative.{relative_list}
use Rattle.formula_tree.proofs.RelativeNodes.{relatives}
use Rattle.formula_tree.proofs.node.+names.Given as goal

-- the names so far, and those of the arguments that are left, are the names of all
abbrev pub invariant-TreeList::add_names-arguments : goal.invariant-TreeList::add_names-arguments
invariant-TreeList::add_names-arguments l = once_after same_name l.names.items (names_in_all (relatives (drop l.argument-index l.argument-items))) ≡ once_after same_name l.initial.names.items (names_in_all (relative_list l.self))
