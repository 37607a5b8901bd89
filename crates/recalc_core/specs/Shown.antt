-- What kept values tell of what places and names show. Source: this project's own.
use Rattle.std.specs.Prelude.{◌≡◌, ℕ, ℤ, true, List, Some, None, is_some, unwrap_or, IsTrue}
use Rattle.cell_addr.specs.declared.place.Place.{Place}
use Rattle.cell_value.specs.declared.scalar.Scalar.TheVariants.{Empty}
use Rattle.custom_fn.specs.declared.rule.Rule.{Rule}
use Rattle.book_values.specs.Names.{Key, tree_in}
use Rattle.book_values.specs.Values.{value_of}
use Rattle.book_values.specs.Workbook as book
use Rattle.book_values.specs.Workbook.{Workbook}
use Rattle.dep_graph.specs.Needs.{Links}
use Rattle.dep_graph.specs.Nodes.{has}
use Rattle.dep_graph.specs.declared.node.Node.{Node}
use Rattle.dep_graph.specs.declared.node.Node.TheVariants.{Cell}
use Rattle.recalc_core.specs.Kept.{AreRight, IsFit, Kept, stands}
use Rattle.recalc_core.specs.Nodes.{node_at}

-- where kept values are right, a place shows what is kept of it, and nothing where nothing is
abbrev pub PlacesShowKept : Type 0
PlacesShowKept =
    (b : Workbook) (words : List (List ℕ)) (customs : List (List ℕ × Rule)) (today : ℤ) (kept : Kept) (p : Place) →
    AreRight b words customs today kept → unwrap_or (kept (Cell p)) Empty ≡ value_of b customs today (book.place p)

-- and a name that the workbook knows shows what is kept of it
abbrev pub NamesShowKept : Type 0
NamesShowKept =
    (b : Workbook) (words : List (List ℕ)) (customs : List (List ℕ × Rule)) (today : ℤ) (kept : Kept) (key : Key) (a : Node) →
    AreRight b words customs today kept → is_some (tree_in b.names key) ≡ true → node_at words a ≡ Some (book.name key) →
    kept a ≡ Some (value_of b customs today (book.name key))

-- where nothing is kept, marks fit that are all filled cells and all names
abbrev pub AllMarkedFit : Type 0
AllMarkedFit =
    (b : Workbook) (words : List (List ℕ)) (customs : List (List ℕ × Rule)) (today : ℤ) (links : Links) (marks : List Node) (kept : Kept) →
    ((a : Node) → kept a ≡ None) → ((a : Node) (x : book.Node) → node_at words a ≡ Some x → stands b x ≡ true → IsTrue (has a marks)) →
    IsFit b words customs today links marks kept
