-- What formulas are worked out over. Source: this project's own.
use Rattle.std.specs.Prelude.{ℕ, ℤ, List, Option}
use Rattle.cell_addr.specs.declared.place.Place.{Place}
use Rattle.cell_value.specs.declared.scalar.Scalar.{Scalar}
use Rattle.formula_tree.specs.Term.{Term}
use Rattle.formula_tree.specs.declared.reference.Corner.{Corner}

-- a named expression: its value and its tree
pub record Named : Type 0 where
  pub value : Scalar
  pub tree : Term Corner

pub record World : Type 0 where
  -- what each place shows
  pub shown : Place → Scalar
  -- the named expression that a word finds on a sheet
  pub named : List ℕ → ℕ → Option Named
  -- the serial number of today
  pub today : ℤ
