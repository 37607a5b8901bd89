-- That the test of two values for sameness tells exactly whether they are equal: for `==` of scalars.
use Rattle.std.proofs.Common.{◌≡◌, ◌∙◌, sym, ap, refl, Some}
use Rattle.std.specs.Cmp.{IsEquivalence, decided, signed_Decides, booleans_Decides}
use Rattle.std.specs.Bool.{Decides}
use Rattle.std.specs.Cmp.Lexicographic.{bytes_decides}
use Rattle.cell_value.specs.declared.fault.FaultKind.{FaultKind}
use Rattle.cell_value.specs.declared.fault.FaultKind.TheVariants.{Div0, Name, Value, Num, Na, Cycle, Ref, Error}
use Rattle.cell_value.specs.declared.scalar.Scalar.{Scalar}
use Rattle.cell_value.specs.declared.scalar.Scalar.TheVariants as scalar
use Rattle.cell_value.specs.Fault.{fault_text, fault_named}
use Rattle.cell_value.specs.Scalar.{same_value}

-- the word of a fault tells which fault it is
pub fault_named-fault_text : (fault : FaultKind) → fault_named (fault_text fault) ≡ Some fault
fault_named-fault_text Div0 = refl
fault_named-fault_text Name = refl
fault_named-fault_text Value = refl
fault_named-fault_text Num = refl
fault_named-fault_text Na = refl
fault_named-fault_text Cycle = refl
fault_named-fault_text Ref = refl
fault_named-fault_text Error = refl

-- faults that are spelled alike are the same
pub fault_text-exact : (a b : FaultKind) → fault_text a ≡ fault_text b → a ≡ b
fault_text-exact a b e =
    let s : Some a ≡ Some b = sym (fault_named-fault_text a) ∙ ap fault_named e ∙ fault_named-fault_text b in
    cc

pub same_value_decides : (a b : Scalar) → Decides (same_value a b) (a ≡ b)
same_value_decides scalar.Empty scalar.Empty = (λ e. refl, λ e. refl)
same_value_decides (scalar.Number a) (scalar.Number b) = (λ e. ap scalar.Number ((signed_Decides a b).0 e), λ e. (signed_Decides a b).1 (cc))
same_value_decides (scalar.Text a) (scalar.Text b) = (λ e. ap scalar.Text ((bytes_decides a b).0 e), λ e. (bytes_decides a b).1 (cc))
same_value_decides (scalar.Truth a) (scalar.Truth b) = (λ e. ap scalar.Truth ((booleans_Decides a b).0 e), λ e. (booleans_Decides a b).1 (cc))
same_value_decides (scalar.Fault a) (scalar.Fault b) =
    (λ e. ap scalar.Fault (fault_text-exact a b ((bytes_decides _ _).0 e)), λ e. (bytes_decides _ _).1 (let f : a ≡ b = cc in ap fault_text f))
same_value_decides a b = (λ e. cc, λ e. cc)

pub same_value_equiv : IsEquivalence same_value
same_value_equiv = decided same_value same_value_decides
