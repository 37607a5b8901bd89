-- The causes of a refusal, tested in two parts. Serves the calls on names, and the values of names and tried formulas.
use Rattle.std.proofs.Common.{◌≡◌, ◌≢◌, ◌∙◌, sym, ap, refl, cond, ℕ, ℤ, Bool, true, false, not, ◌||◌, ◌==◌, List, [], ◌∷◌, ◌++◌, Option, Some, None, is_some, Result, Ok, Err, eqb-true}
use Rattle.std.specs.Prelude.{is_ok}
use Rattle.std.proofs.lemmas.Bool.{false≢true}
use Rattle.std.proofs.lemmas.List.Elements.{All-head, All-tail}
use Rattle.std.proofs.lemmas.Option.{none-some}
use Rattle.std.specs.List.{All, list_any}
use Rattle.std.specs.Option.{is_none}
use Rattle.custom_fn.specs.declared.rule.Rule.{Rule}
use Rattle.cell_addr.specs.Sheets.{AreSheets}
use Rattle.cell_addr.specs.declared.place.TheConstants.{NO_SHEET}
use Rattle.book_model.specs.Operation.{Operation}
use Rattle.book_model.specs.Operation as op
use Rattle.book_model.specs.Refusals.{Cause, cause, first_cause}
use Rattle.book_model.specs.Workbook.{State, Workbook, has_scope}
use Rattle.book_model.specs.declared.refusal.Refusal.{Refusal}
use Rattle.session_operations.specs.Seen.{with_rules}
use Rattle.session_operations.specs.declared.stop.Stop.{Stop}
use Rattle.session_operations.specs.declared.stop.Stop.TheVariants.{Refused, NoMemory}
use Rattle.session_operations.specs.Turns.{Answered, IsCause, Turns}
use Rattle.session_operations.proofs.Turning.{next_refused}

front-by : (b : Bool) (x r : Refusal) (one more : Option Refusal) → cond b (Some x) one ≡ Some r → (one ≡ Some r → more ≡ Some r) → cond b (Some x) more ≡ Some r
front-by true x r one more e h = e
front-by false x r one more e h = h e

-- a cause of the first part is one of all
pub front : (cs ds : List Cause) (r : Refusal) → first_cause cs ≡ Some r → first_cause (cs ++ ds) ≡ Some r
front [] ds r e = cc
front (c ∷ cs) ds r e = front-by c.0 c.1 r (first_cause cs) (first_cause (cs ++ ds)) e (front cs ds r)

behind-by : (b : Bool) (x : Refusal) (one more all : Option Refusal) → cond b (Some x) one ≡ None → (one ≡ None → all ≡ more) → cond b (Some x) all ≡ more
behind-by true x one more all e h = cc
behind-by false x one more all e h = h e

-- where there is none, the second part decides
pub behind : (cs ds : List Cause) → first_cause cs ≡ None → first_cause (cs ++ ds) ≡ first_cause ds
behind [] ds e = refl
behind (c ∷ cs) ds e = behind-by c.0 c.1 (first_cause cs) (first_cause ds) (first_cause (cs ++ ds)) e (behind cs ds)

-- a reading that fails, fails with more causes behind its own
pub reads_front : {X Y : Type 0} (cs ds : List Cause) (P : X → Type 0) (Q : Y → Type 0) (e : Stop) → Answered {X = X} (first_cause cs) P (Err e) → Answered {X = Y} (first_cause (cs ++ ds)) Q (Err e)
reads_front cs ds P Q (Refused r) h = front cs ds r h
reads_front cs ds P Q NoMemory h = tt

-- a call whose reading fails turns as it does
pub reads_turn : {X Y : Type 0} (op : Operation) (d : State) (cs : List Cause) (P : X → Type 0) (Answers : State → Y → Type 0) (e : Stop) → cause op d ≡ first_cause cs → Answered {X = X} (first_cause cs) P (Err e) → Turns {X = Y} op Answers d d (Err e)
reads_turn op d cs P Answers (Refused r) is h = (is ∙ h, next_refused op d r (is ∙ h))
reads_turn op d cs P Answers NoMemory is h = refl

-- a test whose answer is the cause passes where there is none
pub accepted_where_ok : {X : Type 0} (r : Result X Refusal) (cause : Option Refusal) → IsCause r cause → is_ok r ≡ is_none cause
accepted_where_ok (Ok x) cause is = ap is_none (sym is)
accepted_where_ok (Err r) cause is = ap is_none (sym is)

pub none_is : {X : Type 0} (o : Option X) → is_some o ≡ false → is_none o ≡ true
none_is None h = refl
none_is (Some x) h = cc

pub some_is : {X : Type 0} (o : Option X) → is_some o ≡ true → is_none o ≡ false
some_is None h = cc
some_is (Some x) h = refl

-- no sheet of a proper list has the number of none
none-listed : (sheets : List (ℕ × List ℕ)) → All (λ (s : ℕ × List ℕ). s.0 ≢ NO_SHEET) sheets → list_any (λ s. s.0 == NO_SHEET) sheets ≡ false
none-listed [] h = refl
none-listed (s ∷ sheets) h =
    (λ i. differs (s.0 == NO_SHEET) refl i || none-listed sheets (All-tail (λ (x : ℕ × List ℕ). x.0 ≢ NO_SHEET) s sheets h) i)
  where
    differs : (b : Bool) → (s.0 == NO_SHEET) ≡ b → (s.0 == NO_SHEET) ≡ false
    differs true is = absurd (All-head (λ (x : ℕ × List ℕ). x.0 ≢ NO_SHEET) s sheets h (eqb-true s.0 NO_SHEET is))
    differs false is = is

first-fails : (h : Bool) (r : Refusal) (rest : Option Refusal) → cond (not h) (Some r) rest ≡ None → h ≡ true
first-fails true r rest e = refl
first-fails false r rest e = absurd (none-some r (sym e))

-- a scope that a proper workbook has isn't the number of no sheet
pub scoped : (b : Workbook) (scope : Option ℕ) (r : Refusal) (cs : List Cause) → AreSheets b.sheets → first_cause ((not (has_scope b scope), r) ∷ cs) ≡ None → scope ≢ Some NO_SHEET
scoped b scope r cs sheets none same =
    false≢true (sym (none-listed b.sheets sheets.1) ∙ sym (ap (has_scope b) same) ∙ first-fails (has_scope b scope) r (first_cause cs) none)

-- where neither of two causes holds, what the second one misses is there
pub second_holds : (g h : Bool) (r s : Refusal) → first_cause ((not g, r) ∷ (not h, s) ∷ []) ≡ None → h ≡ true
second_holds true h r s e = first-fails h s None e
second_holds false h r s e = absurd (none-some r (sym e))

-- where none of three causes holds, what the third one finds isn't there
pub third_misses : (g h : Bool) (m : Bool) (r s t : Refusal) → first_cause ((g, r) ∷ (h, s) ∷ (m, t) ∷ []) ≡ None → m ≡ false
third_misses true h m r s t e = absurd (none-some r (sym e))
third_misses false true m r s t e = absurd (none-some s (sym e))
third_misses false false true r s t e = absurd (none-some t (sym e))
third_misses false false false r s t e = refl

-- causes don't rest on the custom functions or the day
pub cause_rules : (customs : List (List ℕ × Rule)) (today : ℤ) (o : Operation) (d : State) → cause o (with_rules customs today d) ≡ cause o d
cause_rules customs today (op.set at text) d = refl
cause_rules customs today (op.clear area) d = refl
cause_rules customs today (op.structural s) d = refl
cause_rules customs today (op.add_sheet name) d = refl
cause_rules customs today (op.rename_sheet sheet name) d = refl
cause_rules customs today (op.clear_sheet sheet) d = refl
cause_rules customs today (op.add_name name scope text) d = refl
cause_rules customs today (op.change_name name scope text) d = refl
cause_rules customs today (op.remove_name name scope) d = refl
cause_rules customs today (op.copy area) d = refl
cause_rules customs today (op.cut area) d = refl
cause_rules customs today (op.paste at) d = refl
cause_rules customs today op.begin d = refl
cause_rules customs today op.commit d = refl
cause_rules customs today op.suspend d = refl
cause_rules customs today op.resume d = refl
cause_rules customs today op.undo d = refl
cause_rules customs today op.redo d = refl
cause_rules customs today (op.value at) d = refl
cause_rules customs today (op.formula at) d = refl
cause_rules customs today (op.content at) d = refl
cause_rules customs today (op.precedents at) d = refl
cause_rules customs today (op.dependents at) d = refl
cause_rules customs today (op.name_value name sheet) d = refl
cause_rules customs today (op.try_formula sheet text) d = refl
cause_rules customs today (op.write_all cells) d = refl
