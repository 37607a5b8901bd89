-- Faults: how they are spelled, and which of them a failed calculation is.
use Rattle.std.specs.Prelude.{ℕ, Bool, List, [], ◌∷◌, Option, codes, bytes_eq}
use Rattle.std.specs.List.{find}
use Rattle.cell_addr.specs.Text.{folded}
use Rattle.fix_num.specs.declared.error.NumError.{NumError}
use Rattle.fix_num.specs.declared.error.NumError.TheVariants.{NotANumber, Range, ZeroDivisor}
use Rattle.cell_value.specs.declared.fault.FaultKind.{FaultKind}
use Rattle.cell_value.specs.declared.fault.FaultKind.TheVariants.{Div0, Name, Value, Num, Na, Cycle, Ref, Error}

-- how a fault is spelled
abbrev pub fault_text : FaultKind → List ℕ
fault_text Div0 = codes "#DIV/0!"
fault_text Name = codes "#NAME?"
fault_text Value = codes "#VALUE!"
fault_text Num = codes "#NUM!"
fault_text Na = codes "#N/A"
fault_text Cycle = codes "#CYCLE!"
fault_text Ref = codes "#REF!"
fault_text Error = codes "#ERROR!"

-- whether a text spells a word, with letters in any case
abbrev pub spells : List ℕ → List ℕ → Bool
spells text word = bytes_eq (folded text) (folded word)

-- all faults
abbrev pub faults : List FaultKind
faults = Div0 ∷ Name ∷ Value ∷ Num ∷ Na ∷ Cycle ∷ Ref ∷ Error ∷ []

-- the fault that a text spells, with letters in any case
abbrev pub fault_named : List ℕ → Option FaultKind
fault_named text = find (λ fault. spells text (fault_text fault)) faults

-- the fault of a calculation that failed: out of range is #NUM!, and a zero divisor #DIV/0!
abbrev pub fault_of_error : NumError → FaultKind
fault_of_error Range = Num
fault_of_error ZeroDivisor = Div0
fault_of_error NotANumber = Value
