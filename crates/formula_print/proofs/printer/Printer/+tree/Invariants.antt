use Rattle.std.proofs.Common.{◌≡◌, ℕ, List, ◌+◌, ◌*◌, ◌++◌, string_bytes}
use Rattle.cell_addr.specs.Sheets.{name_in}
use Rattle.formula_tree.specs.Canonical.{printed_all}
use Rattle.formula_tree.specs.Reference.{base_of, sheet_of, corner_at}
use Rattle.formula_tree.specs.Relative.{relative, relative_list}
use Rattle.formula_tree.specs.Term.{depth_of, depth_of_all, each_corner_all}
use Rattle.formula_print.proofs.Commas.{printed_from, terms_from}
use Rattle.formula_print.proofs.printer.Printer.+tree.Given as goal

-- what was written, and the arguments that are left, are all arguments
abbrev pub invariant-push_arguments-arguments : goal.invariant-push_arguments-arguments
invariant-push_arguments-arguments g l = (cs : List ℕ)
    → string_bytes l.out ++ printed_from l.is_first (sheet_of l.self.home) (name_in (g.S.SheetNames.sheets l.self.sheets.now)) (terms_from l.self.home l.argument-items l.argument-index) cs
    ≡ string_bytes l.initial.out ++ printed_all (sheet_of l.self.home) (name_in (g.S.SheetNames.sheets l.self.sheets.now)) (each_corner_all (corner_at (base_of l.self.home)) (relative_list l.list)) cs

abbrev pub decreases-push_tree : goal.decreases-push_tree
decreases-push_tree g l = 2 * depth_of (relative l.tree.now)

abbrev pub decreases-push_arguments : goal.decreases-push_arguments
decreases-push_arguments g l = 2 * depth_of_all (relative_list l.list.now) + 1
