-- What a call that does nothing leaves of the formulas. Serves refusals.
use Rattle.std.proofs.Common.{refl, inl}
use Rattle.kept_steps.specs.Kept.{KeepsAtShift, KeepsInUse}
use Rattle.kept_steps.specs.declared.session.Session.{Session}

pub kept-itself : (s : Session) → KeepsInUse s s.book.lazy
kept-itself s = record { in_use = λ id l used. refl; others = λ id l. inl refl }

pub shift-itself : (s : Session) → KeepsAtShift s s.book.lazy
shift-itself s = record { up_to_cursor = λ stays id h is upto. is; from_base = λ id h used is from upto. refl }
