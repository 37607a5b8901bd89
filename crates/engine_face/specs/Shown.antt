-- Values and texts as another language gets them. Source: this project's own.
use Rattle.std.specs.Prelude.{◌≡◌, ◌++◌, nat_le, ℕ, ℤ, pos, Bool, true, false, List, [], length, drop, Option, None, Some, Result, Ok, Err}
use Rattle.cell_value.specs.declared.fault.FaultKind.{FaultKind}
use Rattle.cell_value.specs.declared.fault.FaultKind.TheVariants as fault
use Rattle.cell_value.specs.declared.scalar.Scalar.{Scalar}
use Rattle.cell_value.specs.declared.scalar.Scalar.TheVariants.{Empty, Number, Text, Truth, Fault}
use Rattle.book_engine.specs.Stop.{Stop}
use Rattle.engine_face.specs.Status.{status_of_stop}
use Rattle.engine_face.specs.declared.shown.Shown.{Shown}
use Rattle.engine_face.specs.declared.status.Status.{Status}
use Rattle.engine_face.specs.declared.status.Status.TheVariants.{Done, NoRoom}

-- the number of a fault
abbrev pub fault_number : FaultKind → ℤ
fault_number fault.Div0 = pos 1
fault_number fault.Name = pos 2
fault_number fault.Value = pos 3
fault_number fault.Num = pos 4
fault_number fault.Na = pos 5
fault_number fault.Cycle = pos 6
fault_number fault.Ref = pos 7
fault_number fault.Error = pos 8

-- 1 for TRUE, 0 for FALSE
abbrev pub truth_number : Bool → ℤ
truth_number true = pos 1
truth_number false = pos 0

-- the same, where no sign is
abbrev pub truth_bit : Bool → ℕ
truth_bit true = 1
truth_bit false = 0

-- the bytes of a text; none of any other value
abbrev pub value_text : Scalar → List ℕ
value_text (Text text) = text
value_text _ = []

-- a value without the bytes of its text
abbrev pub shown_value : Scalar → Shown
shown_value Empty = record { kind = 0; number = pos 0; length = 0 }
shown_value (Number m) = record { kind = 1; number = m; length = 0 }
shown_value (Text text) = record { kind = 2; number = pos 0; length = length text }
shown_value (Truth b) = record { kind = 3; number = truth_number b; length = 0 }
shown_value (Fault f) = record { kind = 4; number = fault_number f; length = 0 }

-- a text that may be missing, which is then no bytes
abbrev pub text_or_none : Option (List ℕ) → List ℕ
text_or_none None = []
text_or_none (Some text) = text

-- the room has a place for so many items
abbrev pub fits : {X : Type 0} → List X → List X → Bool
fits items room = nat_le (length items) (length room)

-- the room with the items at its head, and behind them what was there
abbrev pub filled : {X : Type 0} → List X → List X → List X
filled items room = items ++ drop (length items) room

-- items stand at the head of the room, or have no place there and the room is as it was
abbrev pub Fits : {X : Type 0} → List X → List X → List X → Status → Type 0
Fits items old new Done = (fits items old ≡ true) × (new ≡ filled items old)
Fits items old new NoRoom = (fits items old ≡ false) × (new ≡ old)
Fits items old new _ = ⊥

-- so it is with the bytes or rows of what the engine answered; where it stopped it is said why, and the room is as it was
abbrev pub EndFits : {X Y : Type 0} → (X → List Y) → Result X Stop → List Y → List Y → Status → Type 0
EndFits items (Ok x) old new status = Fits (items x) old new status
EndFits items (Err stop) old new status = (status ≡ status_of_stop stop) × (new ≡ old)

-- this is told of what the engine answered; where it stopped nothing is told
abbrev pub EndTold : {X Y : Type 0} → (X → Y) → Result X Stop → Y → Y → Type 0
EndTold seen (Ok x) had told = told ≡ seen x
EndTold seen (Err stop) had told = told ≡ had
