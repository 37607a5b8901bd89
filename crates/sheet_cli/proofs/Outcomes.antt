-- A run over the records of a script, one record at a time: what the call of the program promises rests on this.
use Rattle.std.proofs.Common.{◌≡◌, ◌∙◌, sym, ap, subst, refl, arith, ℕ, zero, suc, ◌+◌, ◌&&◌, Bool, true, false, cond, List, [], ◌∷◌, ◌++◌, length, take, Option, Some, None, Result, Ok, Err, append_assoc}
use Rattle.std.specs.Prelude.{⊤, IsErrAnd}
use Rattle.std.proofs.lemmas.List.{append-nil}
use Rattle.std.specs.Io.KnownBytes.{Appends, Keeps}
use Rattle.custom_fn.specs.declared.rule.Rule.{Rule}
use Rattle.calc_eval.specs.declared.customs.Customs.{Ghosts}
use Rattle.book_files.specs.Outside.{AppendsPart}
use Rattle.book_files.specs.declared.error.WriteError.{WriteError}
use Rattle.book_files.specs.declared.error.WriteError.TheVariants as write
use Rattle.script_lang.specs.Lines.{line_of}
use Rattle.command_answers.specs.Replies.{is_refused, next_state, record_text, reply}
use Rattle.book_model.specs.Workbook.{State}
use Rattle.script_lang.specs.declared.commands.Command.{Command}
use Rattle.book_engine.specs.Engine.{StandsFor}
use Rattle.book_engine.specs.declared.engine.Engine.{Engine}
use Rattle.script_lang.specs.declared.commands.Version.{Version}
use Rattle.script_lang.specs.Command.{command_in, version_after}
use Rattle.script_lang.specs.declared.error.ScriptError.{ScriptError}
use Rattle.sheet_cli.specs.Answering.{outcome_from, record_outcome}
use Rattle.run_inputs.specs.Outcome.{Outcome, followed_by}
use Rattle.sheet_cli.specs.declared.ending.EarlyEnd.{EarlyEnd}
use Rattle.sheet_cli.specs.declared.ending.EarlyEnd.TheVariants as stop
use Rattle.sheet_cli.specs.internal.Answers.{AnswersPart, AnswersRecord, PartOfCommand, version_behind}
use Rattle.sheet_cli.specs.internal.Ends.{Printed, PrintedLine}

-- what was taken since an old moment, and then the rest, is the whole
abbrev pub Completes : Option (List ℕ) → Option (List ℕ) → List ℕ → List ℕ → Type 0
Completes None now rest whole = ⊤
Completes (Some xs) None rest whole = ⊥
Completes (Some xs) (Some ys) rest whole = (done : List ℕ) × (ys ≡ xs ++ done) × (whole ≡ done ++ rest)

pub completes-start : (old : Option (List ℕ)) (whole : List ℕ) → Completes old old whole whole
completes-start None whole = tt
completes-start (Some xs) whole = ([], sym (append-nil xs), refl)

pub completes-write : (old now new : Option (List ℕ)) (bytes rest whole : List ℕ) → Completes old now (bytes ++ rest) whole → Appends now new bytes → Completes old new rest whole
completes-write None now new bytes rest whole c a = tt
completes-write (Some xs) None new bytes rest whole c a = absurd c
completes-write (Some xs) (Some ys) None bytes rest whole c a = a
completes-write (Some xs) (Some ys) (Some zs) bytes rest whole (done, now, all) a =
    (done ++ bytes, a ∙ ap (λ t. t ++ bytes) now ∙ append_assoc xs done bytes, all ∙ sym (append_assoc done bytes rest))

-- where nothing is left, the whole was appended
pub completes-end : (old now : Option (List ℕ)) (whole : List ℕ) → Completes old now [] whole → Appends old now whole
completes-end None now whole c = tt
completes-end (Some xs) None whole c = c
completes-end (Some xs) (Some ys) whole (done, now, all) = now ∙ ap (λ t. xs ++ t) (sym (all ∙ append-nil done))

-- the last line completes the whole
pub completes-last : (old now new : Option (List ℕ)) (last whole : List ℕ) → Completes old now last whole → Appends now new last → Appends old new whole
completes-last None now new last whole c a = tt
completes-last (Some xs) None new last whole c a = absurd c
completes-last (Some xs) (Some ys) None last whole c a = a
completes-last (Some xs) (Some ys) (Some zs) last whole (done, now, all) a = a ∙ ap (λ t. t ++ last) now ∙ append_assoc xs done last ∙ ap (λ t. xs ++ t) (sym all)

-- the front of what is behind some bytes
take-behind : (done rest : List ℕ) (n : ℕ) → take (length done + n) (done ++ rest) ≡ done ++ take n rest
take-behind [] rest n = let same : 0 + n ≡ n = omega arith in ap (λ k. take k rest) same
take-behind (b ∷ done) rest n =
    let same : length (b ∷ done) + n ≡ suc (length done + n) = omega arith in
    ap (λ k. take k (b ∷ (done ++ rest))) same ∙ ap (λ t. b ∷ t) (take-behind done rest n)

-- the front of some bytes is a front of more
front-of : (n : ℕ) (bytes more : List ℕ) → (m : ℕ) × (take m (bytes ++ more) ≡ take n bytes)
front-of zero bytes more = (0, refl)
front-of (suc n) [] more = (0, refl)
front-of (suc n) (b ∷ bytes) more = let f = front-of n bytes more in (suc f.0, ap (λ t. b ∷ t) f.1)

pub part-longer : (old new : Option (List ℕ)) (bytes more : List ℕ) → AppendsPart old new bytes → AppendsPart old new (bytes ++ more)
part-longer old new bytes more (n, a) = let f = front-of n bytes more in (f.0, subst (λ t. Appends old new t) (sym f.1) a)

-- nothing was appended
pub part-none : (old : Option (List ℕ)) (bytes : List ℕ) → AppendsPart old old bytes
part-none None bytes = (0, tt)
part-none (Some xs) bytes = (0, sym (append-nil xs))

pub part-all : (old new : Option (List ℕ)) (bytes : List ℕ) → Appends old new bytes → AppendsPart old new bytes
part-all old new bytes a =
    let all : take (length bytes + 0) (bytes ++ []) ≡ bytes = take-behind bytes [] 0 ∙ append-nil bytes in
    (length bytes + 0, subst (λ t. Appends old new (take (length bytes + 0) t)) (append-nil bytes) (subst (λ t. Appends old new t) (sym all) a))

-- a part of the rest makes a part of the whole
pub completes-part : (old now new : Option (List ℕ)) (rest whole : List ℕ) → Completes old now rest whole → AppendsPart now new rest → AppendsPart old new whole
completes-part None now new rest whole c p = (0, tt)
completes-part (Some xs) None new rest whole c p = absurd c
completes-part (Some xs) (Some ys) None rest whole c p = absurd p.1
completes-part (Some xs) (Some ys) (Some zs) rest whole (done, now, all) (n, a) =
    (length done + n, a ∙ ap (λ t. t ++ take n rest) now ∙ append_assoc xs done (take n rest) ∙ ap (λ t. xs ++ t) (sym (take-behind done rest n) ∙ ap (take (length done + n)) (sym all)))

-- what was taken so far is a part of the whole
pub completes-so_far : (old now : Option (List ℕ)) (rest whole : List ℕ) → Completes old now rest whole → AppendsPart old now whole
completes-so_far old now rest whole c = completes-part old now now rest whole c (part-none now rest)

-- no record left
pub outcome-none : (strict : Bool) (version : Version) (d : State) (k : ℕ) → outcome_from strict version d k [] ≡ ([], 0)
unfolding outcome_from
outcome-none strict version d k = refl

-- a record, and those after it
pub outcome-more : (strict : Bool) (version : Version) (d : State) (k : ℕ) (fields : List (List ℕ)) (rest : List (List (List ℕ)))
    → outcome_from strict version d k (fields ∷ rest) ≡ record_outcome strict version d k (command_in version k fields) (λ v after. outcome_from strict v after (k + 1) rest)
unfolding outcome_from
outcome-more strict version d k fields rest = refl

-- the engine is in a session in which the records that are left, the first of them with this number, complete the whole
abbrev pub Leads : {C : Type 0} {G : Ghosts C} → (C → List (List ℕ × Rule)) → Bool → Version → Engine C G → ℕ → List (List (List ℕ)) → Option (List ℕ) → Option (List ℕ) → Outcome → Type 0
Leads customs strict version engine k left old now whole = (d : State) × (StandsFor customs engine d × Completes old now (outcome_from strict version d k left).0 whole.0 × ((outcome_from strict version d k left).1 ≡ whole.1))

-- the outcome of a record that did this and doesn't end the run: its reply, and the rest in the next session
outcome-goes : {C : Type 0} {G : Ghosts C} (customs : C → List (List ℕ × Rule)) (strict : Bool) (version : Version) (said : Result Command ScriptError) (k : ℕ) (before after : Engine C G) (d : State) (old new : Option (List ℕ)) (rest : Version → State → Outcome) → AnswersRecord customs strict said k None before after old new → StandsFor customs before d
    → (line : List ℕ) × (next : State) × (Appends old new line × StandsFor customs after next × (record_outcome strict version d k said rest ≡ followed_by line (rest (version_behind version said) next)))
outcome-goes customs strict version (Ok command) k before after d old new rest did stands = let now = did d stands in (reply command d, next_state command d, (now.1, now.2, rw now.0 refl))
outcome-goes customs strict version (Err e) k before after d old new rest did stands = absurd did

-- the outcome of a record that did this and ends the run: its line and its status
outcome-ends : {C : Type 0} {G : Ghosts C} (customs : C → List (List ℕ × Rule)) (strict : Bool) (version : Version) (said : Result Command ScriptError) (k status : ℕ) (before after : Engine C G) (d : State) (old new : Option (List ℕ)) (rest : Version → State → Outcome) → AnswersRecord customs strict said k (Some status) before after old new → StandsFor customs before d
    → (line : List ℕ) × (Appends old new line × (record_outcome strict version d k said rest ≡ (line, status)))
outcome-ends customs strict version (Ok command) k status before after d old new rest did stands = let now = did d stands in (reply command d, (now.1, rw (now.0, now.2) refl))
outcome-ends customs strict version (Err e) k status before after d old new rest did stands = (line_of (record_text k e), (did.0, rw did.1 refl))

-- the outcome of a record of whose line a part was written
outcome-part : {C : Type 0} {G : Ghosts C} (customs : C → List (List ℕ × Rule)) (strict : Bool) (version : Version) (said : Result Command ScriptError) (k : ℕ) (before : Engine C G) (d : State) (old new : Option (List ℕ)) (rest : Version → State → Outcome) → AnswersPart customs said k before old new → StandsFor customs before d
    → AppendsPart old new (record_outcome strict version d k said rest).0
outcome-part customs strict version (Ok command) k before d old new rest part stands = of (strict && is_refused d command)
  where
    of : (ends : Bool) → AppendsPart old new (cond ends (reply command d, 1) (followed_by (reply command d) (rest (version_after version command) (next_state command d)))).0
    of true = part d stands
    of false = part-longer old new (reply command d) (rest (version_after version command) (next_state command d)).0 (part d stands)
outcome-part customs strict version (Err e) k before d old new rest part stands = part

-- a record that doesn't end the run: what was written and the rest still make the whole
pub goes_on : {C : Type 0} {G : Ghosts C} (customs : C → List (List ℕ × Rule)) (strict : Bool) (version : Version) (old now new : Option (List ℕ)) (before after : Engine C G) (k : ℕ) (left rest : List (List (List ℕ))) (fields : List (List ℕ)) (whole : Outcome) → left ≡ fields ∷ rest → AnswersRecord customs strict (command_in version k fields) k None before after now new
    → Leads customs strict version before k left old now whole → Leads customs strict (version_behind version (command_in version k fields)) after (k + 1) rest old new whole
goes_on customs strict version old now new before after k left rest fields whole is did (d, (stands, written, status)) =
    let g = outcome-goes customs strict version (command_in version k fields) k before after d now new (λ v next. outcome_from strict v next (k + 1) rest) did stands in
    let e : outcome_from strict version d k left ≡ followed_by g.0 (outcome_from strict (version_behind version (command_in version k fields)) g.1 (k + 1) rest) = ap (λ l. outcome_from strict version d k l) is ∙ outcome-more strict version d k fields rest ∙ g.2.2 in
    let P : Outcome → Type 0 = λ o. Completes old now o.0 whole.0 in
    (g.1, (g.2.1, completes-write old now new g.0 (outcome_from strict (version_behind version (command_in version k fields)) g.1 (k + 1) rest).0 whole.0 (subst P e written) g.2.0, sym (ap (λ (o : Outcome). o.1) e) ∙ status))

-- a record that ends the run: what was written is the whole
pub stops : {C : Type 0} {G : Ghosts C} (customs : C → List (List ℕ × Rule)) (strict : Bool) (version : Version) (old now new : Option (List ℕ)) (before after : Engine C G) (k end : ℕ) (left rest : List (List (List ℕ))) (fields : List (List ℕ)) (whole : Outcome) → left ≡ fields ∷ rest → AnswersRecord customs strict (command_in version k fields) k (Some end) before after now new
    → Leads customs strict version before k left old now whole → Appends old new whole.0 × (end ≡ whole.1)
stops customs strict version old now new before after k end left rest fields whole is did (d, (stands, written, status)) =
    let g = outcome-ends customs strict version (command_in version k fields) k end before after d now new (λ v next. outcome_from strict v next (k + 1) rest) did stands in
    let e : outcome_from strict version d k left ≡ (g.0, end) = ap (λ l. outcome_from strict version d k l) is ∙ outcome-more strict version d k fields rest ∙ g.1.1 in
    let P : Outcome → Type 0 = λ o. Completes old now o.0 whole.0 in
    (completes-last old now new g.0 whole.0 (subst P e written) g.1.0, sym (ap (λ (o : Outcome). o.1) e) ∙ status)

-- a record that wasn't answered to its end: what was written is a part of the whole
pub breaks : {C : Type 0} {G : Ghosts C} (customs : C → List (List ℕ × Rule)) (strict : Bool) (version : Version) (old now new : Option (List ℕ)) (before : Engine C G) (k : ℕ) (left rest : List (List (List ℕ))) (fields : List (List ℕ)) (whole : Outcome) → left ≡ fields ∷ rest → AnswersPart customs (command_in version k fields) k before now new
    → Leads customs strict version before k left old now whole → AppendsPart old new whole.0
breaks customs strict version old now new before k left rest fields whole is part (d, (stands, written, status)) =
    let p = outcome-part customs strict version (command_in version k fields) k before d now new (λ v next. outcome_from strict v next (k + 1) rest) part stands in
    let e : outcome_from strict version d k left ≡ record_outcome strict version d k (command_in version k fields) (λ v next. outcome_from strict v next (k + 1) rest) = ap (λ l. outcome_from strict version d k l) is ∙ outcome-more strict version d k fields rest in
    completes-part old now new (outcome_from strict version d k left).0 whole.0 written (subst (λ (o : Outcome). AppendsPart now new o.0) (sym e) p)

-- no record is left: what was written is the whole
pub ends : {C : Type 0} {G : Ghosts C} (customs : C → List (List ℕ × Rule)) (strict : Bool) (version : Version) (old now : Option (List ℕ)) (engine : Engine C G) (k : ℕ) (left : List (List (List ℕ))) (whole : Outcome) → left ≡ [] → Leads customs strict version engine k left old now whole
    → Appends old now whole.0 × (0 ≡ whole.1)
ends customs strict version old now engine k left whole is (d, (stands, written, status)) =
    let e : outcome_from strict version d k left ≡ ([], 0) = ap (λ l. outcome_from strict version d k l) is ∙ outcome-none strict version d k in
    let P : Outcome → Type 0 = λ o. Completes old now o.0 whole.0 in
    (completes-end old now whole.0 (subst P e written), sym (ap (λ (o : Outcome). o.1) e) ∙ status)

-- what was written so far is a part of the whole
pub so_far : {C : Type 0} {G : Ghosts C} (customs : C → List (List ℕ × Rule)) (strict : Bool) (version : Version) (old now : Option (List ℕ)) (engine : Engine C G) (k : ℕ) (left : List (List (List ℕ))) (whole : Outcome) → Leads customs strict version engine k left old now whole → AppendsPart old now whole.0
so_far customs strict version old now engine k left whole (d, (stands, written, status)) = completes-so_far old now (outcome_from strict version d k left).0 whole.0 written

-- a part was printed before a run was stopped, though not by a fault in reading
pub stopped : (o : Outcome) (old new : Option (List ℕ)) (s : EarlyEnd) → (s ≡ stop.ReadFault → ⊥) → AppendsPart old new o.0 → Printed o old new (Err s)
stopped o old new stop.ReadFault other part = absurd (other refl)
stopped o old new stop.WriteFault other part = part
stopped o old new stop.NoMemory other part = part

-- nothing of the line of a command, or of a record, was written
pub no_part : {C : Type 0} {G : Ghosts C} (customs : C → List (List ℕ × Rule)) (c : Command) (before : Engine C G) (old : Option (List ℕ)) → PartOfCommand customs c before old old
no_part customs c before old = λ d stands. part-none old (reply c d)

pub nothing_answered : {C : Type 0} {G : Ghosts C} (customs : C → List (List ℕ × Rule)) (said : Result Command ScriptError) (k : ℕ) (before : Engine C G) (old : Option (List ℕ)) → AnswersPart customs said k before old old
nothing_answered customs (Ok c) k before old = no_part customs c before old
nothing_answered customs (Err e) k before old = part-none old (line_of (record_text k e))

-- what a failed write wrote
pub wrote_part : (old new : Option (List ℕ)) (bytes : List ℕ) (r : Result ⊤ WriteError) (e : WriteError) → r ≡ Err e
    → (r ≡ Err write.Failed → AppendsPart old new bytes) → (r ≡ Err write.NoMemory → Keeps old new) → AppendsPart old new bytes
wrote_part old new bytes r write.Failed is part none = part is
wrote_part None new bytes r write.NoMemory is part none = (0, tt)
wrote_part (Some xs) None bytes r write.NoMemory is part none = absurd (none is)
wrote_part (Some xs) (Some ys) bytes r write.NoMemory is part none = (0, none is ∙ sym (append-nil xs))

-- what was written of a line before a run was stopped
pub line_part : (X : Type 0) (line : List ℕ) (old new : Option (List ℕ)) (s : EarlyEnd) → PrintedLine line old new {X = X} (Err s) → AppendsPart old new line
line_part X line old new stop.ReadFault printed = absurd printed
line_part X line old new stop.WriteFault printed = printed
line_part X line old new stop.NoMemory printed = printed

-- want of memory stopped a run, of which a part was printed
pub no_memory : (o : Outcome) (old new : Option (List ℕ)) (r : Result ℕ EarlyEnd) → IsErrAnd r (λ e. e ≡ stop.NoMemory) → AppendsPart old new o.0 → Printed o old new r
no_memory o old new (Ok status) is part = absurd is
no_memory o old new (Err e) is part = stopped o old new e (λ fault. cc) part
