use Rattle.std.proofs.Common.{◌∙◌, sym, refl, subst, Some}
use Rattle.kept_steps.specs.internal.Noted.{SameBatch}
use Rattle.kept_steps.proofs.noting.room.Goals as goal
use Rattle.kept_steps.proofs.noting.room.Goals.{in-Some+in_ok-reserve, in_default}

pub returns-in_err-reserve-clause-batch : goal.returns-in_err-reserve-clause-batch
returns-in_err-reserve-clause-batch c =
    subst (λ b. SameBatch b (Some (record { parts = c.reserve.new.self }))) (sym c.in-Some.is) (record { parts = c.reserve.new.self }, refl, c.in_err-reserve.ensures.items)

pub returns-clause-batch : goal.returns-clause-batch
returns-clause-batch c = elim c.match-batch.branch [
  | in-Some+in_ok-reserve w ↦ subst (λ b. SameBatch b c.match-batch.batch) (sym w.in-Some.is) (record { parts = w.reserve.new.self }, w.batch-is, w.in_ok-reserve.ensures.items)
  | in_default w ↦ subst (λ b. SameBatch b c.match-batch.batch) (sym w.in_default.is) (w.batch-is ∙ w.in_default.is)
]
