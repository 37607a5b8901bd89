-- Which marks there are after a step that is taken back or done again. Serves steps back and forth.
use Rattle.std.proofs.Common.{◌≡◌, ◌∙◌, sym, ap, refl, subst, arith, nat_lt, ◌||◌, not, cond, ℕ, Bool, true, false, List, [], ◌∷◌, Option, Some, None, is_some, Result, Ok, Err, ◌⊎◌}
use Rattle.std.specs.Prelude.{IsTrue, OnOk, slice_get}
use Rattle.std.proofs.lemmas.Bool.{le-ltb}
use Rattle.std.proofs.lemmas.Option.{none-some, same_Some}
use Rattle.shift_core.specs.Opposite.{opposite_of}
use Rattle.shift_core.specs.declared.shift.Shift.{Shift}
use Rattle.kept_book.specs.Change.{Change}
use Rattle.kept_book.specs.Frame.{Line}
use Rattle.kept_steps.specs.Turned.{AreOfCells, is_listed, key_spelt, lists_names_alone, name_of, only, operation_of}
use Rattle.kept_steps.specs.declared.session.Session.{Session}
use Rattle.name_table.specs.declared.key.NameKey.{NameKey}
use Rattle.book_values.specs.Names.{key_of}
use Rattle.book_values.specs.Workbook as book
use Rattle.dep_graph.specs.Nodes.{has}
use Rattle.dep_graph.specs.declared.node.Node.{Node}
use Rattle.recalc_core.specs.Nodes.{node_at}
use Rattle.session_values.specs.Values.{links_in, seeks_in}
use Rattle.session_values.specs.KeptValues.{Values}
use Rattle.session_values.specs.Following.{words_in}
use Rattle.session_values.specs.Naming.{MarksFor, MarksTurn, turn_of}
use Rattle.session_values.specs.Parts.{MarksPartsBack, MarksPartsForth}
use Rattle.session_values.specs.declared.naming.NameTurn.{NameTurn}
use Rattle.session_values.specs.declared.naming.NameTurn.TheVariants.{Absent, Added, Changed, Removed}
use Rattle.session_values.specs.Touched.{AreTouched}
use Rattle.session_values.proofs.PartsMarked.{name_marked_back, name_marked_forth}
use Rattle.session_operations.specs.Kept.{MarksStep}
use Rattle.session_operations.specs.internal.Opposites.{paired, with_opposite_of}

-- what holds however a call ends
pub all_ok : {X E A : Type 0} (r : Result X E) → A → OnOk r A
all_ok (Ok x) a = a
all_ok (Err e) a = tt

-- a step of cells alone is no operation
no_operation : (line : Line) (changes : List Change) (s : Shift) → AreOfCells changes → operation_of line changes ≡ Some s → ⊥
no_operation line [] s cells is = none-some s is
no_operation line (c ∷ []) s cells is =
    none-some s (sym (ap (λ (t : Bool). cond t (line c.from) None) (ap (nat_lt c.from) cells.0.position ∙ le-ltb c.from c.from (omega arith))) ∙ is)
no_operation line (c ∷ d ∷ cs) s cells is = none-some s is

-- nor a change of a name
pub not_of_cells : (changes : List Change) (x : NameKey × (Option ℕ × Option ℕ)) → name_of changes ≡ Some x → AreOfCells changes → ⊥
not_of_cells [] x is cells = none-some x is
not_of_cells (c ∷ []) x is cells = by (nat_lt c.from c.to || not (lists_names_alone c)) is
  where
    by : (b : Bool) → cond b None (only c.names) ≡ Some x → ⊥
    by true h = none-some x h
    by false h = none-some x (sym (ap only cells.0.names) ∙ h)
not_of_cells (c ∷ d ∷ cs) x is cells = none-some x is

module _ (line : Line) (changes : List Change) (Marks : Shift → Shift → Type 0) (Parts : Type 0) (old new : Option Values) where
  -- where the step is an operation that another one takes back
  pub marked_along : (s back : Shift) → operation_of line changes ≡ Some s → opposite_of s ≡ Some back → Marks s back → MarksStep line changes Marks Parts old new
  marked_along s back is opposite marks = record {
    operation = λ t other is_t is_other.
        let same : s ≡ t = same_Some s t (sym is ∙ is_t) in
        let turned : back ≡ other = same_Some back other (sym opposite ∙ ap opposite_of same ∙ is_other) in
        subst (λ (x : Shift). Marks x other) same (subst (Marks s) turned marks);
    cells = λ of_cells. absurd (no_operation line changes s of_cells is);
    parts = λ more none. absurd (none s back is opposite);
  }

  -- and where it is none
  pub marked_cells : None ≡ with_opposite_of (operation_of line changes) → (AreOfCells changes → AreTouched (is_listed changes) old new) → (¬ AreOfCells changes → Parts) → MarksStep line changes Marks Parts old new
  marked_cells none cells parts = record {
    operation = λ s back is opposite. absurd (none-some (s, back) (none ∙ ap with_opposite_of is ∙ ap (paired s) opposite));
    cells = cells;
    parts = λ more no_operation. parts more;
  }

-- ---- a step that is one change of a name

-- what a name's change marks rests on the session's words alone
turn_over : (s t : Session) (key : NameKey) (turn : NameTurn) (old new : Option Values) → words_in t ≡ words_in s → MarksTurn key turn t old new → MarksTurn key turn s old new
turn_over s t key Changed old new same marks =
    subst (λ (ws : List (List ℕ)). (word : List ℕ) → slice_get ws key.word ≡ Some word → MarksFor (λ v a. node_at ws a ≡ Some (book.name (key_spelt key word))) old new) same marks
turn_over s t key Removed old new same marks =
    subst (λ (ws : List (List ℕ)). (word : List ℕ) → slice_get ws key.word ≡ Some word
    → MarksFor (λ v a. (node_at ws a ≡ Some (book.name (key_spelt key word))) ⊎ ((n : Node) × (node_at ws n ≡ Some (book.name (key_spelt key word))) × IsTrue (has n (links_in v a)))) old new) same marks
turn_over s t key Added old new same marks =
    subst (λ (ws : List (List ℕ)). (word : List ℕ) → slice_get ws key.word ≡ Some word
    → MarksFor (λ v a. (node_at ws a ≡ Some (book.name (key_of key.scope word)))
    ⊎ ((seeks_in v word a ≡ true) ⊎ ((n : Node) × (node_at ws n ≡ Some (book.name (key_of None word))) × IsTrue (has n (links_in v a))))) old new) same marks
turn_over s t key Absent old new same marks = marks

pub name_parts_back : (s t : Session) (changes : List Change) (key : NameKey) (before after : Option ℕ) (old new : Option Values) → name_of changes ≡ Some (key, (before, after)) → words_in t ≡ words_in s
    → MarksTurn key (turn_of (is_some after) (is_some before)) t old new → MarksPartsBack s changes old new
name_parts_back s t [] key before after old new is same marks = absurd (none-some (key, (before, after)) is)
name_parts_back s t (c ∷ []) key before after old new is same marks = (old, refl, name_marked_back s c old new key before after is (turn_over s t key (turn_of (is_some after) (is_some before)) old new same marks))
name_parts_back s t (c ∷ d ∷ cs) key before after old new is same marks = absurd (none-some (key, (before, after)) is)

pub name_parts_forth : (s t : Session) (changes : List Change) (key : NameKey) (before after : Option ℕ) (old new : Option Values) → name_of changes ≡ Some (key, (before, after)) → words_in t ≡ words_in s
    → MarksTurn key (turn_of (is_some before) (is_some after)) t old new → MarksPartsForth s changes old new
name_parts_forth s t [] key before after old new is same marks = absurd (none-some (key, (before, after)) is)
name_parts_forth s t (c ∷ []) key before after old new is same marks = (new, name_marked_forth s c old new key before after is (turn_over s t key (turn_of (is_some before) (is_some after)) old new same marks), refl)
name_parts_forth s t (c ∷ d ∷ cs) key before after old new is same marks = absurd (none-some (key, (before, after)) is)

-- what holds of both, where a call ends well
pub both_when_ok : {X E : Type 0} (r : Result X E) (A B : Type 0) → A → OnOk r B → OnOk r (A × B)
both_when_ok (Ok x) A B a b = (a, b)
both_when_ok (Err e) A B a b = tt
