-- A formula at a position of the line, and how an operation takes it to the next position and back.
-- Source: this project's own.
use Rattle.std.specs.Prelude.{◌≡◌, Option, Some, None, option_map}
use Rattle.formula_tree.specs.Reference.{IsHomeInside}
use Rattle.formula_tree.specs.StandsFor.{at_home}
use Rattle.formula_tree.specs.Term.{Term}
use Rattle.formula_tree.specs.declared.reference.Corner.{Corner}
use Rattle.formula_tree.specs.declared.reference.Home.{Home}
use Rattle.formula_tree.specs.declared.reference.Ref.{Ref}
use Rattle.shift_core.specs.declared.shift.Shift.{Shift}
use Rattle.tree_rewrite.specs.References.{FitsSheets}
use Rattle.tree_rewrite.specs.Rewritten.{ComesBack, Loses, home_after, home_before, returned, rewritten}

-- where the formula is and what its tree is there
pub record Standing : Type 0 where
  pub home : Home
  pub tree : Term Corner

-- home, references and blocks are within the limits of a sheet
pub record IsFit (x : Standing) : Type 0 where
  pub home : IsHomeInside x.home
  pub tree : FitsSheets x.tree

-- with the tree after the operation, at another home
abbrev pub rewritten_at : Shift → Standing → Home → Standing
rewritten_at s x home = record { home = home; tree = rewritten s x.tree }

-- after the operation; a lost home has none
abbrev pub after : Shift → Standing → Option Standing
after s x = option_map (rewritten_at s x) (home_after s x.home)

-- the tree before the operation in a formula at the home: the saved one, or else what the way back makes of the
-- tree after it
abbrev pub tree_before : Shift → Option (Term Ref) → Home → Term Corner → Term Corner
tree_before s (Some t) home u = at_home home t
tree_before s None home u = returned s u

-- with the tree before the operation, at another home
abbrev pub returned_at : Shift → Option (Term Ref) → Standing → Home → Standing
returned_at s saved x home = record { home = home; tree = tree_before s saved home x.tree }

-- before the operation, over which this tree was saved, or none
abbrev pub before : Shift → Option (Term Ref) → Standing → Option Standing
before s saved x = option_map (returned_at s saved x) (home_before s x.home)

-- over an operation from which the tree doesn't come back that tree is saved, and over another one none
abbrev pub IsSavedOver : Shift → Standing → Option (Term Ref) → Type 0
IsSavedOver s x None = ComesBack s x.tree
IsSavedOver s x (Some t) = Loses s x.tree × (at_home x.home t ≡ x.tree)
