-- Cells that a change touches, marked in what is kept of values. Source: this project's own.
use Rattle.std.specs.Prelude.{◌≡◌, ◌⊎◌, ⊤, Bool, true, List, Option, Some, None, IsTrue}
use Rattle.std.specs.List.{list_any}
use Rattle.cell_addr.specs.Place.{same_place}
use Rattle.cell_addr.specs.declared.place.Place.{Place}
use Rattle.dep_graph.specs.Nodes.{has}
use Rattle.dep_graph.specs.declared.node.Node.{Node}
use Rattle.dep_graph.specs.declared.node.Node.TheVariants.{Cell}
use Rattle.kept_book.specs.Change.{Change}
use Rattle.kept_steps.specs.Turned.{AreOfCells, is_listed}
use Rattle.kept_values.specs.Values.{asks_in, kept_in, links_in, loses_in, marks_in, seeks_in, unlinked_in}
use Rattle.kept_values.specs.declared.values.Values.{Values}

-- more cells of these places may be marked, what is marked may be to be linked, and nothing else changed
pub record IsTouched (places : Place → Bool) (v w : Values) : Type 0 where
  pub links : links_in w ≡ links_in v
  pub asking : asks_in w ≡ asks_in v
  pub losing : loses_in w ≡ loses_in v
  pub seeking : seeks_in w ≡ seeks_in v
  pub kept : kept_in w ≡ kept_in v
  pub stay : (a : Node) → IsTrue (has a (marks_in v)) → IsTrue (has a (marks_in w))
  pub only : (a : Node) → IsTrue (has a (marks_in w)) → IsTrue (has a (marks_in v)) ⊎ ((p : Place) × (a ≡ Cell p) × (places p ≡ true))
  pub linking : (a : Node) → IsTrue (has a (unlinked_in v)) → IsTrue (has a (unlinked_in w))
  pub among : (a : Node) → IsTrue (has a (unlinked_in w)) → IsTrue (has a (unlinked_in v)) ⊎ IsTrue (has a (marks_in w))

-- so where anything is kept; else nothing is kept still
abbrev pub AreTouched : (Place → Bool) → Option Values → Option Values → Type 0
AreTouched places (Some v) (Some w) = IsTouched places v w
AreTouched places None None = ⊤
AreTouched places _ _ = ⊥

-- so, or nothing is kept any more
abbrev pub AreTouchedAtMost : (Place → Bool) → Option Values → Option Values → Type 0
AreTouchedAtMost places old None = ⊤
AreTouchedAtMost places old new = AreTouched places old new

-- the cell is marked, and is to be linked, where anything is kept
abbrev pub IsMarkedIn : Option Values → Place → Type 0
IsMarkedIn None p = ⊤
IsMarkedIn (Some v) p = IsTrue (has (Cell p) (marks_in v)) × IsTrue (has (Cell p) (unlinked_in v))

-- tests whether a place is that of one of these items
abbrev pub is_place_of : {X : Type 0} → (X → Place) → List X → Place → Bool
is_place_of place items p = list_any (λ e. same_place p (place e)) items

-- each cell of these places is marked
abbrev pub AreMarkedIn : Option Values → (Place → Bool) → Type 0
AreMarkedIn values places = (p : Place) → places p ≡ true → IsMarkedIn values p

-- where anything is kept, the changes of a step are changes of cells alone, and each cell that they list is marked
abbrev pub IsStepMarked : List Change → Option Values → Type 0
IsStepMarked changes None = ⊤
IsStepMarked changes (Some v) = AreOfCells changes × AreMarkedIn (Some v) (is_listed changes)
