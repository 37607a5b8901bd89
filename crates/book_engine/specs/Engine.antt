-- What a call of an engine does. Source: this project's own.
use Rattle.std.specs.Prelude.{◌≡◌, ℕ, Bool, true, false, List, Some, None, Result, Ok, Err}
use Rattle.custom_fn.specs.declared.rule.Rule.{Rule}
use Rattle.calc_eval.specs.declared.customs.Customs.{Ghosts}
use Rattle.book_model.specs.Clipboard.{Clipboard, nothing}
use Rattle.book_model.specs.Operation.{Operation}
use Rattle.book_model.specs.Refusals.{cause}
use Rattle.book_model.specs.Session.{next}
use Rattle.book_model.specs.Workbook.{State}
use Rattle.session_questions.specs.Seen.{with_rules}
use Rattle.session_questions.specs.Seen.{clip_of, state_of, with_clipboard}
use Rattle.book_engine.specs.declared.engine.Engine.{Engine}
use Rattle.session_questions.specs.Stop.{Stop}
use Rattle.session_questions.specs.Stop.TheVariants.{Refused, NoMemory}

-- the engine, which holds these custom functions, is in this session; who calls the engine never looks inside
unfoldable pub StandsFor : {C : Type 0} {G : Ghosts C} → (C → List (List ℕ × Rule)) → Engine C G → State → Type 0
StandsFor customs engine d = with_rules (customs engine.customs) engine.day (with_clipboard (clip_of engine.waiting.clip) (state_of engine.parts)) ≡ d

-- a call for an operation, whichever session the engine is in: where no cause holds, its answer is the operation's, and
-- the engine is in the next session; where it is refused, the cause is the operation's; for want of memory the session
-- stays
abbrev pub Does : {C X : Type 0} {G : Ghosts C} → (C → List (List ℕ × Rule)) → Operation → (State → X → Type 0) → Engine C G → Engine C G → Result X Stop → Type 0
Does customs op Answers old new (Ok x) = (d : State) → StandsFor customs old d → (cause op d ≡ None) × Answers d x × StandsFor customs new (next op d)
Does customs op Answers old new (Err (Refused r)) = (d : State) → StandsFor customs old d → (cause op d ≡ Some r) × StandsFor customs new (next op d)
Does customs op Answers old new (Err NoMemory) = (d : State) → StandsFor customs old d → StandsFor customs new d

-- a call that is always accepted and answers nothing
abbrev pub DoesAlways : {C : Type 0} {G : Ghosts C} → (C → List (List ℕ × Rule)) → Operation → Engine C G → Engine C G → Type 0
DoesAlways customs op old new = (d : State) → StandsFor customs old d → StandsFor customs new (next op d)

-- tests whether nothing waits to be pasted
abbrev pub is_nothing : Clipboard → Bool
is_nothing nothing = true
is_nothing clip = false
