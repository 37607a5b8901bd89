-- Marks that are taken along with a structural operation.
use Rattle.std.specs.Prelude.{◌≡◌, ◌++◌, ◌⊎◌, ℕ, Bool, true, if◌then◌else◌, List, Option, Some, None, IsTrue}
use Rattle.shift_core.specs.declared.shift.Shift.{Shift}
use Rattle.dep_graph.specs.Bent.{IsBentBy}
use Rattle.dep_graph.specs.Laws.{IsNoRange}
use Rattle.dep_graph.specs.Needs.{Links}
use Rattle.dep_graph.specs.Nodes.{has}
use Rattle.dep_graph.specs.Shifted.{AreShifted, node_after}
use Rattle.dep_graph.specs.declared.node.Node.{Node}
use Rattle.dep_graph.specs.declared.node.Node.TheVariants.{Cell, Name, Range}
use Rattle.recalc_core.specs.Kept.{Kept}
use Rattle.recalc_core.specs.Laws.{AreKnown}
use Rattle.recalc_core.specs.Moves.{carried_kept}
use Rattle.recalc_core.specs.Recalc.{with_mark}
use Rattle.recalc_core.specs.Shifted.{from_over}
use Rattle.marked_values.specs.Gathered.{AreTakenAlong}
use Rattle.marked_values.specs.Shifts.{is_moved_cell}
use Rattle.restored_values.specs.Probes.{probe_of}
use Rattle.kept_values.specs.Shifted.{ComesFrom, IsProbedBy, moved_cell}
use Rattle.kept_values.specs.Values.{kept_in, links_in, marks_in, unlinked_in}
use Rattle.kept_values.specs.declared.values.Values.{Values}

-- the marks with one more, if there is one
abbrev pub with_some : Option Node → List Node → List Node
with_some (Some a) marks = with_mark a marks
with_some None marks = marks

-- the marks with a node where the operation takes it, and a cell of a moved block where it was too
abbrev pub with_taken : Shift → Node → List Node → List Node
with_taken s a marks = with_some (moved_cell s a) (with_some (node_after s a) marks)

-- so each of the nodes is marked, and nothing else but what was marked, which stays so; and where all was known all is
pub record AddsTaken (s : Shift) (nodes old new : List Node) : Type 0 where
  pub taken : AreTakenAlong s nodes new
  pub stay : (a : Node) → IsTrue (has a old) → IsTrue (has a new)
  pub from : (a : Node) → IsTrue (has a new) → IsTrue (has a old) ⊎ ((b : Node) × IsTrue (has b nodes) × ComesFrom s b a)
  pub known : (words : List (List ℕ)) → AreKnown words nodes → AreKnown words old → AreKnown words new

-- the second nodes are what the operation makes of the first ones, and nothing else
pub record AreMoved (s : Shift) (nodes moved : Node → Bool) : Type 0 where
  pub along : (a after : Node) → nodes a ≡ true → node_after s a ≡ Some after → moved after ≡ true
  pub from : (a : Node) → moved a ≡ true → (d : Node) × (nodes d ≡ true) × (node_after s d ≡ Some a)

-- the second nodes are the first ones taken along with the operation, and no other ones; and where the first ones are known they are
pub record AreAlong (s : Shift) (nodes more : List Node) : Type 0 where
  pub taken : AreTakenAlong s nodes more
  pub from : (a : Node) → IsTrue (has a more) → (b : Node) × IsTrue (has b nodes) × ComesFrom s b a
  pub known : (words : List (List ℕ)) → AreKnown words nodes → AreKnown words more

-- links, kept values, marks and what is to be linked went along with the operation
pub record AreCarried (s : Shift) (old : Links) (was : Kept) (marked waiting : List Node) (w : Values) : Type 0 where
  pub links : AreShifted s old (links_in w)
  pub kept : (a : Node) → IsNoRange a → kept_in w a ≡ carried_kept (from_over s) was a
  pub marks : AreAlong s marked (marks_in w)
  pub unlinked : AreAlong s waiting (unlinked_in w)

-- the second nodes are the first ones, what is touched, what is bent, and what is noted to ask where a reference is
abbrev pub HasGathered : List Node → List Node → Values → List Node → List Node → Type 0
HasGathered touched bent v old new = (a : Node) → has a new ≡ has a (((old ++ touched) ++ bent) ++ v.noted.asking.keys)

-- the list has each node that is linked to what the operation's probe bends, and no other one, and these are linked to something
pub record AreProbed (s : Shift) (links : Links) (nodes : List Node) : Type 0 where
  pub all : (probe : Shift) (a : Node) → probe_of s ≡ Some probe → IsBentBy probe links a → IsTrue (has a nodes)
  pub only : (a : Node) → IsTrue (has a nodes) → IsProbedBy s links a
  pub linked : (a : Node) → IsTrue (has a nodes) → (d : Node) × IsTrue (has d (links a))
