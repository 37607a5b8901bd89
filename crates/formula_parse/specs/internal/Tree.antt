-- Nodes and the terms that they stand for at a home. Serves the reader.
use Rattle.std.specs.Prelude.{ℕ, List, Option, Some, None}
use Rattle.formula_tree.specs.Term.{Term, text}
use Rattle.formula_tree.specs.Token.{Token}
use Rattle.formula_tree.specs.Reader.{Read, on_sheet}
use Rattle.formula_tree.specs.Relative.{relative}
use Rattle.formula_tree.specs.StandsFor.{at_home}
use Rattle.formula_tree.specs.declared.node.Node.{Node}
use Rattle.formula_tree.specs.declared.reference.Corner.{Corner}
use Rattle.formula_tree.specs.declared.reference.Home.{Home}

-- what a node stands for at a home
abbrev pub tree_at : Home → Node → Term Corner
tree_at home node = at_home home (relative node)

-- a text, by its content between quotes
abbrev pub text_then : Option (List ℕ) → List Token → Read
text_then None rest = None
text_then (Some content) rest = Some (text content, rest)

-- what stands after a sheet's name, by the name between apostrophes
abbrev pub sheet_then : (List ℕ → Option ℕ) → Option (List ℕ) → List Token → Read
sheet_then find None rest = None
sheet_then find (Some name) rest = on_sheet (find name) rest
