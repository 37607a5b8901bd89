use Rattle.std.proofs.Common.{inl, inr}
use Rattle.cell_value.proofs.TotalOrder.{numeric_ordered, textual_ordered, logical_ordered}
use Rattle.cell_value.proofs.laws.empty_is_ordered_in_a_kind.Goals as goal

pub returns : goal.returns
returns c = λ x y z h.
    elim h [
      | inl p ↦ numeric_ordered x y z p.0 p.1 p.2
      | inr q ↦ elim q [ inl p ↦ textual_ordered x y z p.0 p.1 p.2 | inr p ↦ logical_ordered x y z p.0 p.1 p.2 ]
    ]
