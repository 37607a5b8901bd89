use Rattle.std.proofs.Common.{◌≡◌, drop}
use Rattle.formula_tree.specs.Links.{once_after}
use Rattle.formula_tree.specs.Mentions.{same_mention, mentions_in_all}
use Rattle.formula_tree.specs.Term.{each_corner_all}
use Rattle.formula_tree.specs.Reference.{base_of, corner_at}
use Rattle.formula_tree.specs.Relative.{relative_list}
use Rattle.formula_tree.proofs.RelativeNodes.{relatives}
use Rattle.formula_tree.proofs.node.+mentions.Given as goal

-- the mentions so far, and those of the arguments that are left, are the mentions of all
abbrev pub invariant-TreeList::add_mentions-arguments : goal.invariant-TreeList::add_mentions-arguments
invariant-TreeList::add_mentions-arguments l = once_after same_mention l.list.items (mentions_in_all l.skip (each_corner_all (corner_at (base_of l.home)) (relatives (drop l.argument-index l.argument-items)))) ≡ once_after same_mention l.initial.list.items (mentions_in_all l.skip (each_corner_all (corner_at (base_of l.home)) (relative_list l.self)))
