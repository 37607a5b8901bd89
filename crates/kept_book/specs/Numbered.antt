-- The formulas of a workbook's cells, each under a number. Source: this project's own.
use Rattle.std.specs.Prelude.{◌≡◌, ℕ, Option, option_map, option_and_then}
use Rattle.cell_addr.specs.declared.place.Place.{Place}
use Rattle.formula_tree.specs.Term.{Term}
use Rattle.formula_tree.specs.declared.reference.Corner.{Corner}
use Rattle.shift_core.specs.Tables.{place_after}
use Rattle.shift_core.specs.declared.shift.Shift.{Shift}
use Rattle.tree_rewrite.specs.Rewritten.{rewritten}

-- where a formula stands, and its tree
abbrev pub Stood : Type 0
Stood = Place × Term Corner

-- what stands under each number
abbrev pub Numbered : Type 0
Numbered = ℕ → Option Stood

-- what stands under a number follows a structural operation; a formula whose place is lost is gone
abbrev pub stood_after : Shift → Stood → Option Stood
stood_after s f = option_map (λ q. (q, rewritten s f.1)) (place_after s f.0)

abbrev pub Follows : Shift → Numbered → Numbered → Type 0
Follows s old new = (k : ℕ) → new k ≡ option_and_then (stood_after s) (old k)
