-- What a workbook answers a recalculation. Source: this project's own.
use Rattle.std.specs.Prelude.{◌≡◌, ℕ, true, false, List, Option, Some, None}
use Rattle.custom_fn.specs.declared.rule.Rule.{Rule}
use Rattle.formula_tree.specs.Relative.{relative}
use Rattle.formula_tree.specs.StandsFor.{at_home}
use Rattle.calc_terms.specs.World.{World}
use Rattle.book_values.specs.Names.{Key, found}
use Rattle.book_values.specs.Values.{worked_out}
use Rattle.book_values.specs.Workbook as book
use Rattle.book_values.specs.Workbook.{Workbook, home_of, tree_at}
use Rattle.dep_graph.specs.declared.node.Node.{Node}
use Rattle.recalc_core.specs.Kept.{stands}
use Rattle.recalc_core.specs.Nodes.{node_at}
use Rattle.recalc_core.specs.declared.trees.NodeContent.{NodeContent}
use Rattle.recalc_core.specs.declared.trees.NodeContent.TheVariants.{Nothing, Value, Formula}

-- what a workbook has at a place or a name: nothing where it hasn't got it, a value where it has it without a tree, which
-- then shows that value whatever others show, or a formula
abbrev pub HasGiven : Workbook → book.Node → NodeContent → Type 0
HasGiven b x Nothing = stands b x ≡ false
HasGiven b x (Value s) = (stands b x ≡ true) × (tree_at b x ≡ None) × ((w : World) (customs : List (List ℕ × Rule)) → worked_out b w customs x ≡ s)
HasGiven b x (Formula tree home) = (home ≡ home_of x) × (tree_at b x ≡ Some (at_home home (relative tree.value)))

-- what it has at a node; at one that is neither a place nor a name that it could know, nothing
abbrev pub HasGivenAt : Workbook → Option book.Node → NodeContent → Type 0
HasGivenAt b (Some x) given = HasGiven b x given
HasGivenAt b None given = given ≡ Nothing

abbrev pub IsGiven : Workbook → List (List ℕ) → Node → NodeContent → Type 0
IsGiven b words a given = HasGivenAt b (node_at words a) given

-- the node of the name that a word finds on a sheet
abbrev pub IsFound : Workbook → List (List ℕ) → List ℕ → ℕ → Option Node → Type 0
IsFound b words word sheet None = found b.names word sheet ≡ None
IsFound b words word sheet (Some a) = (key : Key) × (found b.names word sheet ≡ Some key) × (node_at words a ≡ Some (book.name key))

-- what no call leaves, and what two calls leave that one does
pub record IsOrder {T : Type 0} (leaves : T → T → Type 0) : Type 0 where
  pub none : (t : T) → leaves t t
  pub both : (t u v : T) → leaves t u → leaves u v → leaves t v
