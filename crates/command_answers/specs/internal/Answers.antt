-- What the call does that a command asks for, and what answers one that stopped.
use Rattle.std.specs.Prelude.{◌≡◌, ℕ, List, Some, None, Result, Ok, Err}
use Rattle.calc_eval.specs.declared.customs.Customs.{Ghosts}
use Rattle.custom_fn.specs.declared.rule.Rule.{Rule}
use Rattle.book_model.specs.Workbook.{State}
use Rattle.book_engine.specs.Engine.{StandsFor}
use Rattle.book_engine.specs.declared.engine.Engine.{Engine}
use Rattle.book_engine.specs.Stop as engine
use Rattle.book_engine.specs.Stop.TheVariants.{Refused, NoMemory}
use Rattle.script_lang.specs.Lines.{line_of}
use Rattle.script_lang.specs.declared.commands.Command.{Command}
use Rattle.command_answers.specs.Replies.{next_state, refused_for, refused_text}
use Rattle.command_answers.specs.Sessions.{Keeps}

-- a call for what a command asks for, whichever session the engine was in
abbrev pub DoesFor : {C X : Type 0} {G : Ghosts C} → (C → List (List ℕ × Rule)) → Command → (State → X → Type 0) → Engine C G → Engine C G → Result X engine.Stop → Type 0
DoesFor customs c Answers old new (Ok x) = (d : State) → StandsFor customs old d → (refused_for c d ≡ None) × Answers d x × StandsFor customs new (next_state c d)
DoesFor customs c Answers old new (Err (Refused r)) = (d : State) → StandsFor customs old d → (refused_for c d ≡ Some r) × StandsFor customs new (next_state c d)
DoesFor customs c Answers old new (Err NoMemory) = Keeps customs old new

-- the line of a call that stopped; of want of memory there is none
abbrev pub IsLineOfStop : engine.Stop → List ℕ → Type 0
IsLineOfStop (Refused r) line = line ≡ line_of (refused_text r)
IsLineOfStop NoMemory line = ⊥
