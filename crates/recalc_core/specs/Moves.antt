-- What kept values become where nodes move, and that they then fit the marks. Source: this project's own.
use Rattle.std.specs.Prelude.{◌≡◌, ◌⊎◌, ℕ, ℤ, true, false, List, Option, Some, None, unwrap_or, IsTrue}
use Rattle.std.specs.Option.{option_and_then, option_map}
use Rattle.cell_value.specs.declared.fault.FaultKind.TheVariants as fault
use Rattle.cell_value.specs.declared.scalar.Scalar.{Scalar}
use Rattle.cell_value.specs.declared.scalar.Scalar.TheVariants as scalar
use Rattle.custom_fn.specs.declared.rule.Rule.{Rule}
use Rattle.book_values.specs.Values.{worked_out, world_of}
use Rattle.book_values.specs.Workbook as book
use Rattle.book_values.specs.Workbook.{Workbook, tree_at}
use Rattle.dep_graph.specs.Laws.{IsNoRange}
use Rattle.dep_graph.specs.Needs.{Links}
use Rattle.dep_graph.specs.Nodes.{has}
use Rattle.dep_graph.specs.declared.node.Node.{Node}
use Rattle.recalc_core.specs.Kept.{IsFit, Kept, stands}
use Rattle.recalc_core.specs.Laws.{AreKnown}
use Rattle.recalc_core.specs.Links.{AreLinksOf}
use Rattle.recalc_core.specs.Nodes.{node_at}

-- where each place and each name was before, if it was somewhere
abbrev pub Back : Type 0
Back = book.Node → Option book.Node

-- and each node of the graph
abbrev pub From : Type 0
From = Node → Option Node

-- each node keeps what was kept of the one that it was
abbrev pub carried_kept : From → Kept → Kept
carried_kept from kept a = option_and_then kept (from a)

-- what a node shows that the workbook hasn't got
abbrev pub bare_value : book.Node → Scalar
bare_value (book.place p) = scalar.Empty
bare_value (book.name key) = scalar.Fault fault.Name

-- each node shows what the one that it was showed
abbrev pub carried : Back → (book.Node → Scalar) → book.Node → Scalar
carried back shown x = unwrap_or (option_map shown (back x)) (bare_value x)

-- a node does what another did before: it stands where that one did, needs just the nodes that those it needed have become,
-- beside some that were nowhere, and works out the same of what has come along
pub record DoesAsBefore (b c : Workbook) (back : Back) (x y : book.Node) : Type 0 where
  pub stands : stands c x ≡ stands b y
  pub there : (z : book.Node) → book.needs c x z ≡ true → (back z ≡ None) ⊎ ((w : book.Node) × (back z ≡ Some w) × (book.needs b y w ≡ true))
  pub forth : (w : book.Node) → book.needs b y w ≡ true → (z : book.Node) × (back z ≡ Some w) × (book.needs c x z ≡ true)
  pub works : (customs : List (List ℕ × Rule)) (today : ℤ) (shown : book.Node → Scalar) → worked_out c (world_of c.names today (carried back shown)) customs x ≡ worked_out b (world_of b.names today shown) customs y

-- it does what the node did that it was, or it was nowhere and the workbook hasn't got it
abbrev pub IsCarried : Workbook → Workbook → Back → book.Node → Type 0
IsCarried b c back x =
    ((y : book.Node) × (back x ≡ Some y) × DoesAsBefore b c back x y)
    ⊎ ((back x ≡ None) × (stands c x ≡ false) × (tree_at c x ≡ None))

-- places and names come from where their nodes in the graph do, no two from one
pub record IsWayBack (words : List (List ℕ)) (back : Back) (from : From) : Type 0 where
  pub same : (a : Node) → IsNoRange a → option_and_then (node_at words) (from a) ≡ option_and_then back (node_at words a)
  pub plain : (a before : Node) → IsNoRange a → from a ≡ Some before → IsNoRange before
  pub once : (x z y : book.Node) → back x ≡ Some y → back z ≡ Some y → x ≡ z

-- each place and each known name is carried but for those of the list, which has those that were marked too
abbrev pub AreCarried : Workbook → Workbook → List (List ℕ) → Back → List Node → Type 0
AreCarried b c words back marks = (a : Node) (x : book.Node) → node_at words a ≡ Some x → ¬ IsTrue (has a marks) → IsCarried b c back x

abbrev pub MarksFollow : From → List Node → List Node → Type 0
MarksFollow from marks more = (a before : Node) → IsNoRange a → from a ≡ Some before → IsTrue (has before marks) → IsTrue (has a more)

-- kept values that come along fit the marks where these do too and all that isn't just carried is marked
abbrev pub MovesKeepFit : Type 0
MovesKeepFit =
    (b c : Workbook) (words : List (List ℕ)) (old new : Links) (customs : List (List ℕ × Rule)) (today : ℤ) (marks more : List Node) (kept : Kept) (back : Back) (from : From) →
    AreLinksOf b words old → AreLinksOf c words new → IsWayBack words back from → AreKnown words marks → MarksFollow from marks more → AreCarried b c words back more →
    IsFit b words customs today old marks kept → IsFit c words customs today new more (carried_kept from kept)
