use Rattle.std.proofs.Common.{◌≡◌, drop}
use Rattle.formula_tree.specs.Links.{once_after, same_link, links_in_all}
use Rattle.formula_tree.specs.Term.{each_corner_all}
use Rattle.formula_tree.specs.Reference.{base_of, corner_at}
use Rattle.formula_tree.specs.Relative.{relative_list}
use Rattle.formula_tree.proofs.RelativeNodes.{relatives}
use Rattle.formula_tree.proofs.node.+links.Given as goal

-- the links so far, and those of the arguments that are left, are the links of all
abbrev pub invariant-TreeList::add_links-arguments : goal.invariant-TreeList::add_links-arguments
invariant-TreeList::add_links-arguments l = once_after same_link l.links.items (links_in_all l.skip (each_corner_all (corner_at (base_of l.home)) (relatives (drop l.argument-index l.argument-items)))) ≡ once_after same_link l.initial.links.items (links_in_all l.skip (each_corner_all (corner_at (base_of l.home)) (relative_list l.self)))
