-- What a formula's tree means. Source: OpenFormula; that a block or a whole range is #VALUE! where one value is wanted,
-- and that a name as an argument of a function stands for the reference, block or whole range that its own tree is, is
-- this project's own.
use Rattle.std.specs.Prelude.{ℕ, List, [], ◌∷◌, Option, Some, None}
use Rattle.cell_value.specs.declared.fault.FaultKind.TheVariants as fault
use Rattle.cell_value.specs.declared.scalar.Scalar.{Scalar}
use Rattle.cell_value.specs.declared.scalar.Scalar.TheVariants as scalar
use Rattle.custom_fn.specs.Registry.{custom_named}
use Rattle.custom_fn.specs.declared.rule.Rule.{Rule}
use Rattle.formula_tree.specs.Reference.{base_of, sheet_of}
use Rattle.formula_tree.specs.Term.{Term, number, text, truth, fault, cell, area, whole, name, prefix, percent, binary, call, paren, Terms, no_terms, term}
use Rattle.formula_tree.specs.declared.reference.Corner.{Corner}
use Rattle.formula_tree.specs.declared.reference.Home.{Home}
use Rattle.operators.specs.Operators.{combined, hundredth, signed_value}
use Rattle.calc_terms.specs.Calls.{call_value}
use Rattle.calc_terms.specs.References.{argument_of, reference_of}
use Rattle.calc_terms.specs.Words.{function_named}
use Rattle.calc_terms.specs.World.{Named, World}
use Rattle.calc_terms.specs.declared.argument.Argument.{Argument}

-- the value of a named expression; a word that finds none is #NAME?
abbrev pub value_named : Option Named → Scalar
value_named (Some named) = named.value
value_named None = scalar.Fault fault.Name

abbrev mutual
  -- what a tree means in a formula at a home, where the names and rules are those of the custom functions
  pub meaning : World → List (List ℕ × Rule) → Home → Term Corner → Scalar
  meaning w customs home (number m) = scalar.Number m
  meaning w customs home (text s) = scalar.Text s
  meaning w customs home (truth b) = scalar.Truth b
  meaning w customs home (fault k) = scalar.Fault k
  meaning w customs home (cell c) = w.shown c.at
  meaning w customs home (area c d) = scalar.Fault fault.Value
  meaning w customs home (whole axis c d) = scalar.Fault fault.Value
  meaning w customs home (name word) = value_named (w.named word (sheet_of home))
  meaning w customs home (prefix s t) = signed_value s (meaning w customs home t)
  meaning w customs home (percent t) = hundredth (meaning w customs home t)
  meaning w customs home (binary o l r) = combined o (meaning w customs home l) (meaning w customs home r)
  meaning w customs home (call word ts) =
      call_value w (base_of home) (function_named word) (custom_named word customs) (evaluated w customs home ts)
  meaning w customs home (paren t) = meaning w customs home t

  -- the arguments of a call, before its function says what it takes
  pub evaluated : World → List (List ℕ × Rule) → Home → Terms Corner → List Argument
  evaluated w customs home no_terms = []
  evaluated w customs home (term t ts) =
      argument_of (reference_of w (sheet_of home) t) (meaning w customs home t) ∷ evaluated w customs home ts
