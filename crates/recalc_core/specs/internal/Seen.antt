-- What a formula sees of kept values, and the names that it reads.
use Rattle.std.specs.Prelude.{◌≡◌, ◌⊎◌, ◌++◌, ◌∷◌, [], ℕ, ℤ, true, List, All, Some, None, unwrap_or, is_some}
use Rattle.std.specs.List.{find, list_any}
use Rattle.std.specs.Option.{option_map}
use Rattle.cell_addr.specs.Sheets.{same_name}
use Rattle.cell_addr.specs.declared.place.Place.{Place}
use Rattle.cell_value.specs.declared.scalar.Scalar.{Scalar}
use Rattle.cell_value.specs.declared.scalar.Scalar.TheVariants.{Empty}
use Rattle.formula_tree.specs.Relative.{relative}
use Rattle.formula_tree.specs.StandsFor.{at_home}
use Rattle.calc_terms.specs.World.{Named, World}
use Rattle.book_values.specs.Names.{Key, found, tree_in}
use Rattle.book_values.specs.Workbook as book
use Rattle.book_values.specs.Workbook.{Workbook}
use Rattle.dep_graph.specs.declared.node.Node.{Node}
use Rattle.dep_graph.specs.declared.node.Node.TheVariants.{Cell}
use Rattle.recalc_core.specs.Kept.{Kept}
use Rattle.recalc_core.specs.Nodes.{node_at}
use Rattle.recalc_core.specs.declared.names.ReadName.{ReadName}

-- what a node shows, and a place: nothing where no value is kept of it
abbrev pub shown_of : Kept → Node → Scalar
shown_of kept a = unwrap_or (kept a) Empty

abbrev pub shown_at : Kept → Place → Scalar
shown_at kept p = shown_of kept (Cell p)

-- a name that was read, as a formula sees it
abbrev pub named_by : Kept → ReadName → Named
named_by kept name = record { value = shown_of kept name.node; tree = at_home name.home (relative name.tree.value) }

-- what a formula sees
abbrev pub world_in : Kept → List ReadName → ℤ → World
world_in kept names today = record {
  shown = shown_at kept;
  named = λ word sheet. option_map (named_by kept) (find (λ name. same_name name.word word) names);
  today = today;
}

-- the name is the one that its word finds on the sheet, with its tree
abbrev pub IsRead : Workbook → List (List ℕ) → ℕ → ReadName → Type 0
IsRead b words sheet name =
    (key : Key) × (found b.names name.word sheet ≡ Some key) × (node_at words name.node ≡ Some (book.name key))
    × (tree_in b.names key ≡ Some (at_home name.home (relative name.tree.value)))

-- each is, and each of the words asked for that finds one has it
pub record AreRead (b : Workbook) (words : List (List ℕ)) (sheet : ℕ) (asked : List (List ℕ)) (names : List ReadName) : Type 0 where
  pub each : All (IsRead b words sheet) names
  pub all : (word : List ℕ) → list_any (same_name word) asked ≡ true → is_some (found b.names word sheet) ≡ true → list_any (λ name. same_name name.word word) names ≡ true

-- the name that the word finds is added, where it finds one
abbrev pub AddsRead : Workbook → List (List ℕ) → ℕ → List ℕ → List ReadName → List ReadName → Type 0
AddsRead b words sheet word old new =
    ((found b.names word sheet ≡ None) × (new ≡ old))
    ⊎ ((name : ReadName) × (name.word ≡ word) × IsRead b words sheet name × (new ≡ old ++ name ∷ []))
