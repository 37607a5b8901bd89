-- Trees at a home, and how many steps their arguments take.
use Rattle.std.specs.Prelude.{ℕ, zero, suc, List}
use Rattle.std.specs.List.{sum_by}
use Rattle.formula_tree.specs.Reference.{base_of, corner_at}
use Rattle.formula_tree.specs.Relative.{relative, relative_list}
use Rattle.formula_tree.specs.StandsFor.{at_home}
use Rattle.formula_tree.specs.Term.{Term, Terms, no_terms, term, each_corner_all}
use Rattle.formula_tree.specs.declared.node.Node.{Node}
use Rattle.formula_tree.specs.declared.node.TreeList.{TreeList}
use Rattle.formula_tree.specs.declared.reference.Corner.{Corner}
use Rattle.formula_tree.specs.declared.reference.Home.{Home}
use Rattle.calc_terms.specs.Cost.{cost}
use Rattle.calc_terms.specs.References.{argument_size}
use Rattle.calc_terms.specs.World.{World}
use Rattle.calc_terms.specs.declared.argument.Argument.{Argument}

-- the term of a tree, and the terms of arguments, in a formula at a home
abbrev pub term_at : Home → Node → Term Corner
term_at home tree = at_home home (relative tree)

abbrev pub terms_at : Home → TreeList → Terms Corner
terms_at home list = each_corner_all (corner_at (base_of home)) (relative_list list)

-- the steps that the argument at this place takes at most; none where there is none
abbrev pub cost_at : World → ℕ → Terms Corner → ℕ → ℕ
cost_at w sheet no_terms place = 0
cost_at w sheet (term t ts) zero = cost w sheet t
cost_at w sheet (term t ts) (suc place) = cost_at w sheet ts place

-- the cells that aren't empty of the blocks that all arguments stand for
abbrev pub sizes : World → List Argument → ℕ
sizes w args = sum_by (argument_size w) args
