-- What holds of the values of a workbook with names.
use Rattle.std.specs.Prelude.{◌≡◌, ◌↔◌, ℕ, ℤ, if◌then◌else◌, true, List}
use Rattle.cell_value.specs.declared.fault.FaultKind.TheVariants as fault
use Rattle.cell_value.specs.declared.scalar.Scalar.{Scalar}
use Rattle.cell_value.specs.declared.scalar.Scalar.TheVariants as scalar
use Rattle.custom_fn.specs.declared.rule.Rule.{Rule}
use Rattle.value_network.specs.Network.{LeadsTo, cyclic}
use Rattle.book_values.specs.Names.{Key, tree_in}
use Rattle.book_values.specs.Values.{network, value_of, worked_out, world_of}
use Rattle.book_values.specs.Workbook.{Node, Workbook}

-- each node shows #CYCLE! where it is on a cycle, and else what it works out where every node shows the given value
abbrev pub UnfoldsIn : Workbook → List (List ℕ × Rule) → ℤ → (Node → Scalar) → Type 0
UnfoldsIn b customs today shown =
    (a : Node) → shown a ≡ (if cyclic (network b customs today) a then scalar.Fault fault.Cycle else worked_out b (world_of b.names today shown) customs a)

-- the values of the nodes unfold
abbrev pub ValuesUnfold : Type 0
ValuesUnfold = (b : Workbook) (customs : List (List ℕ × Rule)) (today : ℤ) → UnfoldsIn b customs today (value_of b customs today)

-- nothing else does
abbrev pub NothingElseUnfolds : Type 0
NothingElseUnfolds = (b : Workbook) (customs : List (List ℕ × Rule)) (today : ℤ) (shown : Node → Scalar) → UnfoldsIn b customs today shown → (a : Node) → shown a ≡ value_of b customs today a

-- the nodes that show #CYCLE! by themselves are those from which needs lead back to them
abbrev pub CyclesReturn : Type 0
CyclesReturn = (b : Workbook) (customs : List (List ℕ × Rule)) (today : ℤ) (a : Node) → (cyclic (network b customs today) a ≡ true) ↔ LeadsTo (network b customs today) a a

-- the same cells, and the same tree of each name
pub record AreAlike (b c : Workbook) : Type 0 where
  pub cells : b.cells ≡ c.cells
  pub trees : (key : Key) → tree_in b.names key ≡ tree_in c.names key

-- so what nodes show doesn't depend on the order of the names, nor does what formulas see
abbrev pub ValuesAlike : Type 0
ValuesAlike = (b c : Workbook) → AreAlike b c
    → ((customs : List (List ℕ × Rule)) (today : ℤ) (a : Node) → value_of b customs today a ≡ value_of c customs today a)
    × ((today : ℤ) (shown : Node → Scalar) → world_of b.names today shown ≡ world_of c.names today shown)
