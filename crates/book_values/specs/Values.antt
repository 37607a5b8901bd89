-- What the places and names of a workbook show. Source: this project's own; that a node on a cycle alone shows
-- #CYCLE! by itself is HyperFormula's.
use Rattle.std.specs.Prelude.{ℕ, ℤ, List, ◌++◌, map, Option, Some, None}
use Rattle.std.specs.FinMap as finmap
use Rattle.std.specs.Option.{option_and_then, option_map}
use Rattle.cell_value.specs.declared.fault.FaultKind.TheVariants as fault
use Rattle.cell_value.specs.declared.scalar.Scalar.{Scalar}
use Rattle.cell_value.specs.declared.scalar.Scalar.TheVariants as scalar
use Rattle.book_values.specs.Book.{formulas_of}
use Rattle.book_values.specs.Book as cells
use Rattle.custom_fn.specs.declared.rule.Rule.{Rule}
use Rattle.formula_tree.specs.Term.{Term}
use Rattle.formula_tree.specs.declared.reference.Corner.{Corner}
use Rattle.formula_tree.specs.declared.reference.Home.{Home}
use Rattle.value_network.specs.Network.{Network, cyclic, value}
use Rattle.calc_terms.specs.Meaning.{meaning}
use Rattle.calc_terms.specs.World.{Named, World}
use Rattle.book_values.specs.Names.{Key, Names, found, tree_in}
use Rattle.book_values.specs.Workbook.{Node, Workbook, home_of, name, needs, place, same_node}

-- the named expression of a key, where every node shows the given value
abbrev pub named_as : Names → (Node → Scalar) → Key → Option Named
named_as names shown key = option_map (λ t. record { value = shown (name key); tree = t }) (tree_in names key)

-- what formulas see where every node shows the given value
abbrev pub world_of : Names → ℤ → (Node → Scalar) → World
world_of names today shown = record {
  shown = λ p. shown (place p);
  named = λ word sheet. option_and_then (named_as names shown) (found names word sheet);
  today = today;
}

-- what a cell of this content works out
abbrev pub content_value : World → List (List ℕ × Rule) → Home → Option cells.Content → Scalar
content_value w customs home None = scalar.Empty
content_value w customs home (Some (cells.number m)) = scalar.Number m
content_value w customs home (Some (cells.truth b)) = scalar.Truth b
content_value w customs home (Some (cells.text s)) = scalar.Text s
content_value w customs home (Some (cells.formula t)) = meaning w customs home t
content_value w customs home (Some (cells.unreadable s)) = scalar.Fault fault.Error

-- what a name of this tree works out; one that the workbook hasn't is #NAME?
abbrev pub name_value : World → List (List ℕ × Rule) → Home → Option (Term Corner) → Scalar
name_value w customs home (Some t) = meaning w customs home t
name_value w customs home None = scalar.Fault fault.Name

-- what a node works out
abbrev pub worked_out : Workbook → World → List (List ℕ × Rule) → Node → Scalar
worked_out b w customs (place p) = content_value w customs (home_of (place p)) (finmap.get b.cells p)
worked_out b w customs (name key) = name_value w customs (home_of (name key)) (tree_in b.names key)

-- the places with a formula and the names of a workbook, and which needs which
abbrev pub network : Workbook → List (List ℕ × Rule) → ℤ → Network Node Scalar
network b customs today = record {
  formulas = map place (formulas_of b.cells) ++ map (λ e. name e.0) b.names;
  same = same_node;
  needs = needs b;
  own = λ shown a. worked_out b (world_of b.names today shown) customs a;
  cycle = scalar.Fault fault.Cycle;
}

-- what a node shows: on a cycle of needs #CYCLE!, and else what it works out. Who reads a node on a cycle reads that
-- fault as any other
abbrev pub value_of : Workbook → List (List ℕ × Rule) → ℤ → Node → Scalar
value_of b customs today = value (network b customs today) (cyclic (network b customs today))
