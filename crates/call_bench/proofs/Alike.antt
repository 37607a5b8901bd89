-- Cells that all have one value, over operations. Serves the summaries that are kept of them.
use Rattle.std.proofs.Common.{◌≡◌, sym, refl, subst, Result, Ok, Err, OnOk, OnErr}
use Rattle.cell_addr.specs.declared.place.Place.{Place}
use Rattle.cell_value.specs.declared.scalar.Scalar.{Scalar}
use Rattle.shift_core.specs.declared.shift.Shift.{Shift}
use Rattle.range_table.specs.Shifted.{TakesValues}
use Rattle.range_table.specs.Table.{AreFolds, RangeTable}

-- summaries stay right whether an operation is done or wants memory
pub alike_right : {A E : Type 0} (r : Result A E) (v : Scalar) (s : Shift) (old new : RangeTable)
    → OnOk r ((before after : Place → Scalar) → TakesValues s before after → AreFolds before old.kept → AreFolds after new.kept) → OnErr r (new ≡ old) → AreFolds (λ p. v) old.kept → AreFolds (λ p. v) new.kept
alike_right (Ok _) v s old new right err is = right (λ p. v) (λ p. v) (λ p q i goes. refl) is
alike_right (Err _) v s old new right err is = subst (λ (t : RangeTable). AreFolds (λ p. v) t.kept) (sym err) is
