-- Answers counted one after the other: a summary is that of all. Serves the commands that a run generates.
use Rattle.std.proofs.Common.{◌≡◌, ◌∙◌, sym, ap, subst, refl, arith, ℕ, suc, ◌+◌, ◌&&◌, Bool, true, false, List, [], ◌∷◌, length, filter, Some}
use Rattle.custom_fn.specs.declared.rule.Rule.{Rule}
use Rattle.calc_eval.specs.declared.customs.Customs.{Ghosts}
use Rattle.book_engine.specs.Engine.{StandsFor}
use Rattle.book_engine.specs.declared.engine.Engine.{Engine}
use Rattle.command_answers.specs.Replies.{is_refused, next_state, reply}
use Rattle.book_model.specs.Workbook.{State}
use Rattle.script_lang.specs.declared.commands.Command.{Command}
use Rattle.sheet_cli.specs.Answering.{Answered, answers_from, bytes_of, first_refusal, summary, summary_outcome}
use Rattle.sheet_cli.specs.declared.answering.Tally.{Tally}
use Rattle.command_answers.specs.Sessions.{Executes}
use Rattle.sheet_cli.specs.internal.Tallied.{Adds, Completes, one_if, summary_of}

-- where a refusal ends a run, the first of the answers that are left is the first of all
abbrev pub EndsAlike : Bool → List Answered → List Answered → Type 0
EndsAlike strict rest all = strict ≡ true → first_refusal rest ≡ first_refusal all

-- the engine is in a session in which the commands that are left complete all answers
abbrev pub Tallied : {C : Type 0} {G : Ghosts C} → (C → List (List ℕ × Rule)) → Bool → Engine C G → Tally → List Command → List Answered → Type 0
Tallied customs strict engine tally left all = (d : State) × (StandsFor customs engine d × Completes tally (answers_from d left) all × EndsAlike strict (answers_from d left) all)

answers-none : (d : State) → answers_from d [] ≡ []
unfolding answers_from
answers-none d = refl

answers-more : (d : State) (c : Command) (rest : List Command) → answers_from d (c ∷ rest) ≡ (record { line = reply c d; refused = is_refused d c }) ∷ answers_from (next_state c d) rest
unfolding answers_from
answers-more d c rest = refl

pub tallied-start : {C : Type 0} {G : Ghosts C} (customs : C → List (List ℕ × Rule)) (strict : Bool) (engine : Engine C G) (d : State) (commands : List Command) (t : Tally) → t ≡ record { commands = 0; refused = 0; bytes = 0 } → StandsFor customs engine d → Tallied customs strict engine t commands (answers_from d commands)
tallied-start customs strict engine d commands t none stands =
    let zero : (n : ℕ) → 0 + n ≡ n = λ n. omega arith in
    rw none (d, (stands, (zero _, zero _, zero _), λ s. refl))

length-one : (b : Bool) (a : Answered) (rest : List Answered) → a.refused ≡ b → length (filter (λ x. x.refused) (a ∷ rest)) ≡ one_if b + length (filter (λ x. x.refused) rest)
length-one true a rest is = let one : suc (length (filter (λ x. x.refused) rest)) ≡ 1 + length (filter (λ x. x.refused) rest) = omega arith in rw is one
length-one false a rest is = let zero : 0 + length (filter (λ x. x.refused) rest) ≡ length (filter (λ x. x.refused) rest) = omega arith in rw is (sym zero)

refusal-after : (strict : Bool) (a : Answered) (rest all : List Answered) → (strict && a.refused) ≡ false → EndsAlike strict (a ∷ rest) all → EndsAlike strict rest all
refusal-after true a rest all passes alike = λ s. rw passes at (alike s)
refusal-after false a rest all passes alike = λ s. cc

-- one more answer that doesn't end the run
pub tallied-more : {C : Type 0} {G : Ghosts C} (customs : C → List (List ℕ × Rule)) (strict : Bool) (before after : Engine C G) (t u : Tally) (c : Command) (line : List ℕ) (refused : Bool) (left rest : List Command) (all : List Answered) → left ≡ c ∷ rest → Executes customs c before after line refused → (strict && refused) ≡ false → Adds line refused t u
    → Tallied customs strict before t left all → Tallied customs strict after u rest all
tallied-more customs strict before after t u c line refused left rest all is did passes adds (d, (stands, counts, alike)) =
    let now = did d stands in
    let a : Answered = record { line = reply c d; refused = is_refused d c } in
    let more : answers_from d left ≡ a ∷ answers_from (next_state c d) rest = ap (answers_from d) is ∙ answers-more d c rest in
    let counted = subst (λ r. Completes t r all) more counts in
    let ends = subst (λ r. EndsAlike strict r all) more alike in
    let size = ap length now.0 in
    let one = length-one refused a (answers_from (next_state c d) rest) (sym now.1) in
    (next_state c d, (now.2, (omega (arith, counted.0, adds.0), omega (arith, counted.1, adds.1, one), omega (arith, counted.2, adds.2, size)), refusal-after strict a (answers_from (next_state c d) rest) all (ap (λ b. strict && b) (sym now.1) ∙ passes) ends))

and-both : (a b : Bool) → (a && b) ≡ true → (a ≡ true) × (b ≡ true)
and-both true b h = (refl, h)
and-both false b h = cc

-- an answer that ends the run
pub tallied-ends : {C : Type 0} {G : Ghosts C} (customs : C → List (List ℕ × Rule)) (strict : Bool) (before after : Engine C G) (t : Tally) (c : Command) (line : List ℕ) (refused : Bool) (left rest : List Command) (all : List Answered) → left ≡ c ∷ rest → Executes customs c before after line refused → (strict && refused) ≡ true
    → Tallied customs strict before t left all → summary_outcome strict all ≡ (line, 1)
tallied-ends customs strict before after t c line refused left rest all is did last (d, (stands, counts, alike)) =
    let now = did d stands in
    let both = and-both strict refused last in
    let a : Answered = record { line = reply c d; refused = is_refused d c } in
    let more : answers_from d left ≡ a ∷ answers_from (next_state c d) rest = ap (answers_from d) is ∙ answers-more d c rest in
    let first : first_refusal (a ∷ answers_from (next_state c d) rest) ≡ first_refusal all = subst (λ r. first_refusal r ≡ first_refusal all) more (alike both.0) in
    let refusal : a.refused ≡ true = sym now.1 ∙ both.1 in
    let found : Some (reply c d) ≡ first_refusal all = rw refusal at first in
    rw (both.0, sym found, now.0) refl

-- all answers were counted
pub tallied-all : {C : Type 0} {G : Ghosts C} (customs : C → List (List ℕ × Rule)) (strict : Bool) (engine : Engine C G) (t : Tally) (left : List Command) (all : List Answered) → left ≡ [] → Tallied customs strict engine t left all → summary_outcome strict all ≡ (summary_of t, 0)
tallied-all customs strict engine t left all is (d, (stands, counts, alike)) =
    let none : answers_from d left ≡ [] = ap (answers_from d) is ∙ answers-none d in
    let counted = subst (λ r. Completes t r all) none counts in
    let commands : t.commands ≡ length all = omega (arith, counted.0) in
    let refused : t.refused ≡ length (filter (λ a. a.refused) all) = omega (arith, counted.1) in
    let bytes : t.bytes ≡ bytes_of all = omega (arith, counted.2) in
    let text : summary_of t ≡ summary all = rw (commands, refused, bytes) refl in
    rw text (of strict (subst (λ r. EndsAlike strict r all) none alike))
  where
    of : (s : Bool) → EndsAlike s [] all → summary_outcome s all ≡ (summary all, 0)
    of true same = rw (sym (same refl)) refl
    of false same = refl
