-- Values in which a name's node is marked, and what is linked to it or seeks a name.
use Rattle.std.specs.Prelude.{◌≡◌, ◌⊎◌, ⊤, ℕ, true, false, if◌then◌else◌, IsTrue, ◌++◌, ◌∷◌, [], List, Option, Some, None, slice_get, unwrap_or}
use Rattle.cell_addr.specs.Sheets.{same_name}
use Rattle.cell_addr.specs.declared.place.TheConstants.{NO_SHEET}
use Rattle.dep_graph.specs.Nodes.{has}
use Rattle.dep_graph.specs.Users.{AreLinkedTo}
use Rattle.dep_graph.specs.declared.node.Node.{Node}
use Rattle.dep_graph.specs.declared.node.Node.TheVariants.{Name}
use Rattle.name_table.specs.declared.key.NameKey.{NameKey}
use Rattle.session_values.specs.declared.naming.NameTurn.{NameTurn}
use Rattle.session_values.specs.declared.naming.NameTurn.TheVariants.{Absent, Added, Changed, Removed}
use Rattle.kept_values.specs.Values.{asks_in, kept_in, links_in, loses_in, marks_in, seeks_in, unlinked_in}
use Rattle.kept_values.specs.declared.values.Values.{Values}

-- these nodes are marked as well, and are to be linked, and nothing else changed
pub record HaveMarked (nodes : List Node) (v w : Values) : Type 0 where
  pub links : links_in w ≡ links_in v
  pub asking : asks_in w ≡ asks_in v
  pub losing : loses_in w ≡ loses_in v
  pub seeking : seeks_in w ≡ seeks_in v
  pub kept : kept_in w ≡ kept_in v
  pub marks : (a : Node) → has a (marks_in w) ≡ has a (marks_in v ++ nodes)
  pub unlinked : (a : Node) → has a (unlinked_in w) ≡ has a (unlinked_in v ++ nodes)

-- there is a node, and it is marked
abbrev pub HasMarked : Option Node → Values → Values → Type 0
HasMarked (Some n) v w = HaveMarked (n ∷ []) v w
HasMarked None v w = ⊥

-- there is a node, and it and each that is linked to it is marked
abbrev pub HasMarkedLinked : Option Node → Values → Values → Type 0
HasMarkedLinked (Some n) v w = (nodes : List Node) × AreLinkedTo n (links_in v) nodes × HaveMarked (nodes ++ n ∷ []) v w
HasMarkedLinked None v w = ⊥

-- the second list has what the first one has, the first node, each that is linked to the second one, and each that was noted to use the word
-- where it finds no name, and nothing else
pub record AreSought (n whole : Node) (word : List ℕ) (v : Values) (old new : List Node) : Type 0 where
  pub stay : (a : Node) → IsTrue (has a old) → IsTrue (has a new)
  pub sought : (a : Node) → seeks_in v word a ≡ true → IsTrue (has a new)
  pub linked : (a : Node) → IsTrue (has whole (links_in v a)) → IsTrue (has a new)
  pub itself : IsTrue (has n new)
  pub only : (a : Node) → IsTrue (has a new) → IsTrue (has a old) ⊎ ((seeks_in v word a ≡ true) ⊎ (IsTrue (has whole (links_in v a)) ⊎ (a ≡ n)))

-- these are marked, and are to be linked, of which none is noted under the word any more
pub record HaveSought (n whole : Node) (word : List ℕ) (v w : Values) : Type 0 where
  pub links : links_in w ≡ links_in v
  pub asking : asks_in w ≡ asks_in v
  pub losing : loses_in w ≡ loses_in v
  pub kept : kept_in w ≡ kept_in v
  pub seeking : (other : List ℕ) (a : Node) → seeks_in w other a ≡ (if same_name word other then false else seeks_in v other a)
  pub marks : AreSought n whole word v (marks_in v) (marks_in w)
  pub unlinked : AreSought n whole word v (unlinked_in v) (unlinked_in w)

-- there are two nodes, and so it is
abbrev pub HasSought : Option Node → Option Node → List ℕ → Values → Values → Type 0
HasSought (Some n) (Some whole) word v w = HaveSought n whole word v w
HasSought _ _ word v w = ⊥

-- the node of a name, and that of the whole workbook's name of its word
abbrev pub own_node : NameKey → Node
own_node key = Name (unwrap_or key.scope NO_SHEET) key.word

abbrev pub whole_node : NameKey → Node
whole_node key = Name NO_SHEET key.word

-- marked is what this touches, where these are the words by their numbers
abbrev pub HasTurned : List (List ℕ) → NameKey → NameTurn → Values → Values → Type 0
HasTurned words key Changed v w = HasMarked (Some (own_node key)) v w
HasTurned words key Removed v w = HasMarkedLinked (Some (own_node key)) v w
HasTurned words key Added v w = (word : List ℕ) → slice_get words key.word ≡ Some word → HasSought (Some (own_node key)) (Some (whole_node key)) word v w
HasTurned words key Absent v w = ⊥

-- where anything is kept, the values before and after it stand so; else nothing is kept after it either
abbrev pub AreMade : (Values → Values → Type 0) → Option Values → Option Values → Type 0
AreMade Stand None None = ⊤
AreMade Stand (Some v) (Some w) = Stand v w
AreMade Stand _ _ = ⊥
