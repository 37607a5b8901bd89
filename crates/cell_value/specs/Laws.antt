-- What the order of values, their coercions and the names of faults amount to.
use Rattle.std.specs.Prelude.{◌≡◌, ◌↔◌, ◌⊎◌, ◌<ℤ◌, ℕ, ℤ, pos, Bool, List, [], Some, Ok, Err, IsTrue}
use Rattle.std.specs.declared.cmp.Ordering.{Ordering}
use Rattle.std.specs.declared.cmp.Ordering.TheVariants.{Less, Equal}
use Rattle.std.specs.Ordering.{ordering_reverse}
use Rattle.cell_addr.specs.Text.{folded}
use Rattle.fix_num.specs.Number.{IsInside}
use Rattle.cell_value.specs.declared.fault.FaultKind.{FaultKind}
use Rattle.cell_value.specs.declared.scalar.Scalar.{Scalar}
use Rattle.cell_value.specs.declared.scalar.Scalar.TheVariants.{Empty, Number, Text, Truth, Fault}
use Rattle.cell_value.specs.Fault.{fault_named, fault_text}
use Rattle.cell_value.specs.Scalar.{order_of, same_value, to_number, to_text, to_truth}

-- a number, a text or a truth value
abbrev pub IsValue : Scalar → Type 0
IsValue Empty = ⊥
IsValue (Number _) = Unit {0}
IsValue (Text _) = Unit {0}
IsValue (Truth _) = Unit {0}
IsValue (Fault _) = ⊥

-- nothing, or a value
abbrev pub IsNoFault : Scalar → Type 0
IsNoFault Empty = Unit {0}
IsNoFault (Number _) = Unit {0}
IsNoFault (Text _) = Unit {0}
IsNoFault (Truth _) = Unit {0}
IsNoFault (Fault _) = ⊥

-- the two compare, and the other way round in reverse
abbrev pub Compares : Scalar → Scalar → Type 0
Compares a b = (o : Ordering) × (order_of a b ≡ Ok o) × (order_of b a ≡ Ok (ordering_reverse o))

-- the three are as in a total order: each two compare, what is before one is before all that follow
-- it, and equal ones compare alike with the third
pub record IsOrdered (a b c : Scalar) : Type 0 where
  pub compared : Compares a b
  pub chained : order_of a b ≡ Ok Less → order_of b c ≡ Ok Less → order_of a c ≡ Ok Less
  pub alike : order_of a b ≡ Ok Equal → order_of a c ≡ order_of b c

-- numbers, texts and truth values together are in one total order
abbrev pub ValuesAreOrdered : Type 0
ValuesAreOrdered = (a b c : Scalar) → IsValue a → IsValue b → IsValue c → IsOrdered a b c

-- nothing, too, compares with each value, and the other way round in reverse
abbrev pub EachTwoCompare : Type 0
EachTwoCompare = (a b : Scalar) → IsNoFault a → IsNoFault b → Compares a b

-- nothing, or a number
abbrev pub IsNumeric : Scalar → Type 0
IsNumeric Empty = Unit {0}
IsNumeric (Number _) = Unit {0}
IsNumeric _ = ⊥

-- nothing, or a text
abbrev pub IsTextual : Scalar → Type 0
IsTextual Empty = Unit {0}
IsTextual (Text _) = Unit {0}
IsTextual _ = ⊥

-- nothing, or a truth value
abbrev pub IsLogical : Scalar → Type 0
IsLogical Empty = Unit {0}
IsLogical (Truth _) = Unit {0}
IsLogical _ = ⊥

-- beside values of one kind, nothing is in their total order
abbrev pub EmptyIsOrderedInAKind : Type 0
EmptyIsOrderedInAKind =
    (a b c : Scalar)
    → ((IsNumeric a × IsNumeric b × IsNumeric c) ⊎ ((IsTextual a × IsTextual b × IsTextual c) ⊎ (IsLogical a × IsLogical b × IsLogical c)))
    → IsOrdered a b c

-- beside values of two kinds it isn't: nothing equals both 0 and the text of no characters, of which
-- one is before the other; and it is before 1, which is before the text that it equals
abbrev pub EmptyIsInNoOrder : Type 0
EmptyIsInNoOrder =
    (order_of (Number (pos 0)) Empty ≡ Ok Equal)
    × (order_of Empty (Text []) ≡ Ok Equal)
    × (order_of (Number (pos 0)) (Text []) ≡ Ok Less)
    × (order_of Empty (Number (pos 1000000)) ≡ Ok Less)
    × (order_of (Number (pos 1000000)) (Text []) ≡ Ok Less)

-- so not all three that are no faults are ordered
abbrev pub NotAllAreOrdered : Type 0
NotAllAreOrdered = ¬ ((a b c : Scalar) → IsNoFault a → IsNoFault b → IsNoFault c → IsOrdered a b c)

-- numbers compare by size
abbrev pub NumbersCompareBySize : Type 0
NumbersCompareBySize =
    (a b : ℤ) → ((order_of (Number a) (Number b) ≡ Ok Less) ↔ (a <ℤ b)) × ((order_of (Number a) (Number b) ≡ Ok Equal) ↔ (a ≡ b))

-- texts are equal exactly where they are the same bytes with ASCII capitals made small
abbrev pub TextsAreEqualWhenFolded : Type 0
TextsAreEqualWhenFolded = (a b : List ℕ) → (order_of (Text a) (Text b) ≡ Ok Equal) ↔ (folded a ≡ folded b)

-- each number is before each text, and each text before each truth value
abbrev pub KindsAreInOrder : Type 0
KindsAreInOrder =
    (number : ℤ) (text : List ℕ) (truth : Bool)
    → (order_of (Number number) (Text text) ≡ Ok Less) × (order_of (Text text) (Truth truth) ≡ Ok Less) × (order_of (Number number) (Truth truth) ≡ Ok Less)

-- a fault decides a comparison, the one on the left before that on the right
abbrev pub FaultsDecide : Type 0
FaultsDecide =
    (fault : FaultKind) (x : Scalar) → (order_of (Fault fault) x ≡ Err fault) × (IsNoFault x → order_of x (Fault fault) ≡ Err fault)

-- the test of two values for sameness holds exactly of equal values
abbrev pub SameAreEqual : Type 0
SameAreEqual = (a b : Scalar) → IsTrue (same_value a b) ↔ (a ≡ b)

-- a text names a fault exactly where it is its spelling, with letters in any case
abbrev pub FaultsAreNamedBySpelling : Type 0
FaultsAreNamedBySpelling = (text : List ℕ) (fault : FaultKind) → (fault_named text ≡ Some fault) ↔ (folded text ≡ folded (fault_text fault))

-- the text of a number is read back as that number
abbrev pub NumbersAreReadBack : Type 0
NumbersAreReadBack = (number : ℤ) → IsInside number → to_number (to_text (Number number)) ≡ Ok number

-- the text of a truth value is read back as that truth value
abbrev pub TruthsAreReadBack : Type 0
TruthsAreReadBack = (truth : Bool) → to_truth (to_text (Truth truth)) ≡ Ok truth
