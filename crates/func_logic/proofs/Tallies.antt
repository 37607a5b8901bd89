-- Tallies of truth values, one after another: for the walks over arguments and cells.
use Rattle.std.proofs.Common.{◌≡◌, refl, ℕ, Bool, true, false, not, cond, ◌||◌, List, map, Option, Some, None}
use Rattle.std.specs.Option.{option_or}
use Rattle.cell_value.specs.declared.area.Filled.{Filled}
use Rattle.cell_value.specs.declared.fault.FaultKind.{FaultKind}
use Rattle.cell_value.specs.declared.scalar.Scalar.{Scalar}
use Rattle.cell_value.specs.Filled.{spread}
use Rattle.func_args.proofs.Walk.{value_of, of_filled}
use Rattle.func_logic.specs.declared.tally.Tally.{Tally}
use Rattle.func_logic.specs.Tally.{joined, no_truths, of_cell, together}

or_none : (a : Bool) → (a || false) ≡ a
or_none true = refl
or_none false = refl

odd_none : (a : Bool) → cond a (not false) false ≡ a
odd_none true = refl
odd_none false = refl

fault_none : (a : Option FaultKind) → option_or a None ≡ a
fault_none None = refl
fault_none (Some a) = refl

-- nothing more changes no tally
joined_none : (t : Tally) → joined t no_truths ≡ t
joined_none t = λ i. record {
  some_true = or_none t.some_true i;
  some_false = or_none t.some_false i;
  odd_true = odd_none t.odd_true i;
  fault = fault_none t.fault i;
}

-- what the values of cells add to a tally
abbrev pub with_cells : List Scalar → Tally → Tally
with_cells xs t = together t (map of_cell xs)

-- empty cells add nothing
pub filled_count : (from size : ℕ) (cells : List Filled) → with_cells (spread from size cells) ≡ with_cells (map value_of cells)
filled_count from size cells =
    of_filled with_cells
    (λ xs i t. with_cells xs (joined_none t i))
    (λ x xs ys e i t. e i (joined t (of_cell x)))
    from size cells
