-- What changes of cells and of one name leave alone. Serves the laws.
use Rattle.std.proofs.Common.{◌≡◌, ◌∙◌, sym, ap, List, Some, is_some}
use Rattle.std.specs.Prelude.{ℕ, slice_get}
use Rattle.std.specs.FinMap as map
use Rattle.cell_addr.specs.declared.place.Place.{Place}
use Rattle.formula_tree.specs.Reference.{sheet_of}
use Rattle.book_values.specs.Names.{Key, tree_in}
use Rattle.book_values.specs.Values.{content_value, name_value, world_of}
use Rattle.book_values.specs.Workbook as book
use Rattle.book_values.specs.Workbook.{Workbook, content_tree, home_of, tree_needs}
use Rattle.dep_graph.specs.Nodes.{has}
use Rattle.dep_graph.specs.declared.node.Node.{Node}
use Rattle.dep_graph.specs.declared.node.Node.TheVariants.{Cell, Name, Range, Whole}
use Rattle.recalc_core.specs.Nodes.{node_at}
use Rattle.recalc_core.proofs.Bridge.{name_only, none_some, same_some}
use Rattle.recalc_core.proofs.Edits.{name_changes_its_users}
use Rattle.marked_values.specs.Changes.{CellsAlone, IsLeftAlone, NameAlone}

place_same : (p q : Place) → book.place p ≡ book.place q → p ≡ q
place_same p q e = cc

-- the node of a place is its cell
pub place_node : (words : List (List ℕ)) (a : Node) (p : Place) → node_at words a ≡ Some (book.place p) → a ≡ Cell p
place_node words (Cell q) p at = ap Cell (place_same q p (same_some (book.place q) (book.place p) at))
place_node words (Name scope word) p at = absurd (apart (name_only scope (slice_get words word) (book.place p) at))
  where
    apart : (key : Key) × (book.place p ≡ book.name key) → ⊥
    apart (key, e) = cc
place_node words (Range block) p at = absurd (none_some (book.place p) at)
place_node words (Whole w) p at = absurd (none_some (book.place p) at)

module _ (b c : Workbook) (names : b.names ≡ c.names) where
  place_alone : (p : Place) → map.get b.cells p ≡ map.get c.cells p → IsLeftAlone b c (book.place p)
  place_alone p same = record {
    alike = record {
      stands = ap is_some same;
      needs = λ y i. tree_needs (names i) (sheet_of (home_of (book.place p))) (content_tree (same i)) y;
      works = λ customs today shown i. content_value (world_of (names i) today shown) customs (home_of (book.place p)) (same i);
    };
    tree = ap content_tree (sym same);
  }

  key_alone : (key : Key) → IsLeftAlone b c (book.name key)
  key_alone key = record {
    alike = record {
      stands = λ i. is_some (tree_in (names i) key);
      needs = λ y i. tree_needs (names i) (sheet_of (home_of (book.name key))) (tree_in (names i) key) y;
      works = λ customs today shown i. name_value (world_of (names i) today shown) customs (home_of (book.name key)) (tree_in (names i) key);
    };
    tree = ap (λ ns. tree_in ns key) (sym names);
  }

pub cells_alone : CellsAlone
cells_alone b c words changed names cells a (book.place p) at out =
    place_alone b c names p (cells p (λ marked. out (ap (λ n. has n changed) (place_node words a p at) ∙ marked)))
cells_alone b c words changed names cells a (book.name key) at out = key_alone b c names key

pub name_alone : NameAlone
name_alone b c words key changed differ have a (book.place p) at out = record {
  alike = name_changes_its_users b c words key changed differ have a (book.place p) at out;
  tree = ap (λ cells. content_tree (map.get cells p)) (sym differ.cells);
}
name_alone b c words key changed differ have a (book.name other) at out = record {
  alike = name_changes_its_users b c words key changed differ have a (book.name other) at out;
  tree = sym (differ.trees other (λ same. out (have.itself a (at ∙ ap (λ k. Some (book.name k)) same))));
}
