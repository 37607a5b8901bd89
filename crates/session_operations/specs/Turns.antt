-- What a call does, said of sessions, and what the tests of refusals answer. Source: this project's own.
use Rattle.std.specs.Prelude.{◌≡◌, Option, Some, None, Result, Ok, Err, ⊤}
use Rattle.book_model.specs.Operation.{Operation}
use Rattle.book_model.specs.Refusals.{cause}
use Rattle.book_model.specs.Session.{next}
use Rattle.book_model.specs.Workbook.{State}
use Rattle.book_model.specs.declared.refusal.Refusal.{Refusal}
use Rattle.session_operations.specs.declared.stop.Stop.{Stop}
use Rattle.session_operations.specs.declared.stop.Stop.TheVariants.{Refused, NoMemory}

-- an operation that answers nothing
abbrev pub NoAnswer : {X : Type 0} → State → X → Type 0
NoAnswer d x = ⊤

-- a call for an operation: where no cause holds, its answer is the operation's, and the session is the next one; where it is refused,
-- the cause is the operation's; for want of memory the session stays
abbrev pub Turns : {X : Type 0} → Operation → (State → X → Type 0) → State → State → Result X Stop → Type 0
Turns op Answers old new (Ok x) = (cause op old ≡ None) × Answers old x × (new ≡ next op old)
Turns op Answers old new (Err (Refused r)) = (cause op old ≡ Some r) × (new ≡ next op old)
Turns op Answers old new (Err NoMemory) = new ≡ old

-- a test answers the cause, if there is one
abbrev pub IsCause : {X : Type 0} → Result X Refusal → Option Refusal → Type 0
IsCause (Ok x) cause = cause ≡ None
IsCause (Err r) cause = cause ≡ Some r

-- a question that may have a cause to be refused: where it has none this holds of the answer, and else the cause is the answer; or
-- there was no memory
abbrev pub Answered : {X : Type 0} → Option Refusal → (X → Type 0) → Result X Stop → Type 0
Answered cause P (Ok x) = (cause ≡ None) × P x
Answered cause P (Err (Refused r)) = cause ≡ Some r
Answered cause P (Err NoMemory) = ⊤
