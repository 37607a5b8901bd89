-- Which marks there are after a part of a step was taken back or done again. Serves steps of several parts.
use Rattle.std.proofs.Common.{◌≡◌, ◌<◌, ◌∙◌, sym, ap, subst, refl, arith, ltb-true, nat_lt, not, cond, ◌||◌, ℕ, Bool, true, false, List, [], ◌∷◌, map, Option, Some, None, is_some, Result, Ok, Err, ⊎_elim}
use Rattle.std.specs.Prelude.{IfSome, OnOk}
use Rattle.std.proofs.lemmas.Bool.{and_parts, false≢true, or_cases, or_left, or_right}
use Rattle.std.proofs.lemmas.Option.{none-some, same_Some}
use Rattle.name_table.specs.declared.key.NameKey.{NameKey}
use Rattle.shift_core.specs.Opposite.{opposite_of}
use Rattle.shift_core.specs.declared.shift.Shift.{Shift}
use Rattle.shift_core.specs.declared.shift.Shift.TheVariants.{DropSheet}
use Rattle.dep_graph.specs.Nodes.{has}
use Rattle.dep_graph.specs.declared.node.Node.{Node}
use Rattle.dep_graph.specs.declared.node.Node.TheVariants.{Cell, Name, Range, Whole}
use Rattle.kept_book.specs.Change.{Change, shift_of}
use Rattle.kept_book.specs.Frame.{Line}
use Rattle.kept_book.specs.Kept.{line_of}
use Rattle.kept_steps.specs.Turned.{IsOfCells, is_listed, lists_names_alone, name_alone, only}
use Rattle.kept_steps.specs.declared.session.Session.{Session}
use Rattle.kept_values.specs.Shifted.{may_touch}
use Rattle.kept_values.specs.declared.values.Values.{Values}
use Rattle.session_values.specs.Naming.{MarksTurn, turn_of}
use Rattle.session_values.specs.Parts.{AllPass, MarksPartBack, MarksPartForth, MarksPartsBack, MarksPartsForth, returns_with}
use Rattle.session_values.specs.Shifting.{MarksSheetBack, MarksShift, MarksShiftBack, is_replaced_cell}
use Rattle.session_values.specs.Touched.{AreTouchedAtMost}
use Rattle.session_values.specs.internal.Listed.{cell_node, is_name_below}
use Rattle.session_values.specs.internal.Way.{IsLeftForth}
use Rattle.session_values.proofs.Listed.{replaced_only}
use Rattle.session_values.proofs.Named.{nothing_turns}

-- what holds however a call ends
pub however : {X E A : Type 0} (r : Result X E) → A → OnOk r A
however (Ok x) a = a
however (Err e) a = tt

with_some : (P : Option Values → Type 0) (new : Option Values) → P new → IfSome new (λ w. P (Some w))
with_some P None p = tt
with_some P (Some w) p = p

pub nothing_listed : (test : Node → Bool) → AllPass test []
nothing_listed test a h = absurd (false≢true h)

-- ---- which kinds of changes there are

goes : (line : Line) (c : Change) (x : Shift) → shift_of line c ≡ Some x → nat_lt c.from c.to ≡ true
goes line c x is = by (nat_lt c.from c.to) refl is
  where
    by : (t : Bool) → nat_lt c.from c.to ≡ t → cond t (line c.from) None ≡ Some x → nat_lt c.from c.to ≡ true
    by true e h = e
    by false e h = absurd (none-some x h)

no_cells : (line : Line) (c : Change) (x : Shift) → shift_of line c ≡ Some x → IsOfCells c → ⊥
no_cells line c x is cells = let p : c.from < c.to = ltb-true c.from c.to (goes line c x is) in let q = cells.position in absurd (omega (arith, p, q))

no_name : (line : Line) (c : Change) (x : Shift) (y : NameKey × (Option ℕ × Option ℕ)) → shift_of line c ≡ Some x → name_alone c ≡ Some y → ⊥
no_name line c x y is named = none-some y (sym (ap (λ t. cond (t || not (lists_names_alone c)) None (only c.names)) (goes line c x is)) ∙ named)

name_no_cells : (c : Change) (y : NameKey × (Option ℕ × Option ℕ)) → name_alone c ≡ Some y → IsOfCells c → ⊥
name_no_cells c y is cells = by (nat_lt c.from c.to || not (lists_names_alone c)) is
  where
    by : (b : Bool) → cond b None (only c.names) ≡ Some y → ⊥
    by true h = none-some y h
    by false h = none-some y (sym (ap only cells.names) ∙ h)

-- ---- where nothing is kept any more

pub nothing_marked_back : (s : Session) (c : Change) (old new : Option Values) → new ≡ None → MarksPartBack s c old new
nothing_marked_back s c old new none = subst (λ (o : Option Values). MarksPartBack s c old o) (sym none) (record {
  operation = λ x back is opposite. ([], [], nothing_listed (may_touch back), nothing_listed (is_replaced_cell (c ∷ [])), tt);
  sheet = λ sheet is. ([], nothing_listed (returns_with sheet c), tt);
  cells = λ of_cells. tt;
  name = λ key before after named. (nothing_turns key (turn_of (is_some after) (is_some before)) s old).1;
})

pub nothing_marked_forth : (s : Session) (c : Change) (old new : Option Values) → new ≡ None → MarksPartForth s c old new
nothing_marked_forth s c old new none = subst (λ (o : Option Values). MarksPartForth s c old o) (sym none) (record {
  operation = λ x is. ([], nothing_listed (may_touch x), tt);
  cells = λ of_cells. tt;
  name = λ key before after named. (nothing_turns key (turn_of (is_some before) (is_some after)) s old).1;
})

module _ (s : Session) (c : Change) (old new : Option Values) where
  -- ---- operations

  module _ (x : Shift) (is : shift_of (line_of s.book) c ≡ Some x) where
    same_operation : (y : Shift) → shift_of (line_of s.book) c ≡ Some y → x ≡ y
    same_operation y is_y = same_Some x y (sym is ∙ is_y)

    pub operation_marked_back : (back : Shift) (touched removed : List Node) → opposite_of x ≡ Some back → AllPass (may_touch back) touched → AllPass (is_replaced_cell (c ∷ [])) removed → MarksShiftBack x back touched removed old new
        → MarksPartBack s c old new
    operation_marked_back back touched removed opposite moved all marks = record {
      operation = λ y other is_y is_other.
          let same = same_operation y is_y in
          let turned : back ≡ other = same_Some back other (sym opposite ∙ ap opposite_of same ∙ is_other) in (
            touched,
            removed,
            subst (λ (b : Shift). AllPass (may_touch b) touched) turned moved,
            all,
            with_some (λ o. MarksShiftBack y other touched removed old o) new
                (subst (λ (b : Shift). MarksShiftBack y b touched removed old new) turned (subst (λ (z : Shift). MarksShiftBack z back touched removed old new) same marks)),
          );
      sheet = λ sheet is_drop. absurd (none-some back (ap opposite_of (sym (same_operation (DropSheet sheet) is_drop)) ∙ opposite));
      cells = λ of_cells. absurd (no_cells (line_of s.book) c x is of_cells);
      name = λ key before after named. absurd (no_name (line_of s.book) c x (key, (before, after)) is named);
    }

    pub sheet_marked_back : (sheet : ℕ) (nodes : List Node) → x ≡ DropSheet sheet → AllPass (returns_with sheet c) nodes → MarksSheetBack nodes old new → MarksPartBack s c old new
    sheet_marked_back sheet nodes drop all marks = record {
      operation = λ y other is_y is_other. absurd (none-some other (ap opposite_of (sym drop ∙ same_operation y is_y) ∙ is_other));
      sheet = λ on is_on.
          let dropped : DropSheet sheet ≡ DropSheet on = sym drop ∙ same_operation (DropSheet on) is_on in
          let same : sheet ≡ on = cc in
          (nodes, subst (λ (n : ℕ). AllPass (returns_with n c) nodes) same all, with_some (λ o. MarksSheetBack nodes old o) new marks);
      cells = λ of_cells. absurd (no_cells (line_of s.book) c x is of_cells);
      name = λ key before after named. absurd (no_name (line_of s.book) c x (key, (before, after)) is named);
    }

    pub operation_marked_forth : (touched : List Node) → AllPass (may_touch x) touched → MarksShift x touched old new → MarksPartForth s c old new
    operation_marked_forth touched all marks = record {
      operation = λ y is_y.
          let same = same_operation y is_y in
          (touched, subst (λ (z : Shift). AllPass (may_touch z) touched) same all, with_some (λ o. MarksShift y touched old o) new (subst (λ (z : Shift). MarksShift z touched old new) same marks));
      cells = λ of_cells. absurd (no_cells (line_of s.book) c x is of_cells);
      name = λ key before after named. absurd (no_name (line_of s.book) c x (key, (before, after)) is named);
    }

  -- ---- names

  module _ (key : NameKey) (before after : Option ℕ) (named : name_alone c ≡ Some (key, (before, after))) where
    same_name : (y : NameKey × (Option ℕ × Option ℕ)) → name_alone c ≡ Some y → (key, (before, after)) ≡ y
    same_name y is = same_Some (key, (before, after)) y (sym named ∙ is)

    pub name_marked_back : MarksTurn key (turn_of (is_some after) (is_some before)) s old new → MarksPartBack s c old new
    name_marked_back marks = record {
      operation = λ x back is opposite. absurd (no_name (line_of s.book) c x (key, (before, after)) is named);
      sheet = λ sheet is. absurd (no_name (line_of s.book) c (DropSheet sheet) (key, (before, after)) is named);
      cells = λ of_cells. absurd (name_no_cells c (key, (before, after)) named of_cells);
      name = λ k b a is. subst (λ (y : NameKey × (Option ℕ × Option ℕ)). MarksTurn y.0 (turn_of (is_some y.1.1) (is_some y.1.0)) s old new) (same_name (k, (b, a)) is) marks;
    }

    pub name_marked_forth : MarksTurn key (turn_of (is_some before) (is_some after)) s old new → MarksPartForth s c old new
    name_marked_forth marks = record {
      operation = λ x is. absurd (no_name (line_of s.book) c x (key, (before, after)) is named);
      cells = λ of_cells. absurd (name_no_cells c (key, (before, after)) named of_cells);
      name = λ k b a is. subst (λ (y : NameKey × (Option ℕ × Option ℕ)). MarksTurn y.0 (turn_of (is_some y.1.0) (is_some y.1.1)) s old new) (same_name (k, (b, a)) is) marks;
    }

  -- ---- cells

  module _ (none : shift_of (line_of s.book) c ≡ None) (unnamed : name_alone c ≡ None) (touched : AreTouchedAtMost (is_listed (c ∷ [])) old new) where
    pub cells_marked_back : MarksPartBack s c old new
    cells_marked_back = record {
      operation = λ x back is opposite. absurd (none-some x (sym none ∙ is));
      sheet = λ sheet is. absurd (none-some (DropSheet sheet) (sym none ∙ is));
      cells = λ of_cells. touched;
      name = λ key before after named. absurd (none-some (key, (before, after)) (sym unnamed ∙ named));
    }

    pub cells_marked_forth : MarksPartForth s c old new
    cells_marked_forth = record {
      operation = λ x is. absurd (none-some x (sym none ∙ is));
      cells = λ of_cells. touched;
      name = λ key before after named. absurd (none-some (key, (before, after)) (sym unnamed ∙ named));
    }

-- ---- the nodes of a dropped sheet

pub below_touched : (sheet words : ℕ) (a : Node) → is_name_below sheet words a ≡ true → may_touch (DropSheet sheet) a ≡ true
below_touched sheet words (Cell p) h = absurd (false≢true h)
below_touched sheet words (Name scope word) h = (and_parts _ _ h).0
below_touched sheet words (Range b) h = absurd (false≢true h)
below_touched sheet words (Whole w) h = absurd (false≢true h)

pub below_return : (sheet words : ℕ) (c : Change) (nodes : List Node) → ((a : Node) → has a nodes ≡ (is_name_below sheet words a || has a (map cell_node c.replaced))) → AllPass (returns_with sheet c) nodes
below_return sheet words c nodes all a h = ⊎_elim
    (λ (name : is_name_below sheet words a ≡ true). or_right (is_replaced_cell (c ∷ []) a) (may_touch (DropSheet sheet) a) (below_touched sheet words a name))
    (λ (cell : has a (map cell_node c.replaced) ≡ true). or_left (is_replaced_cell (c ∷ []) a) (may_touch (DropSheet sheet) a) (replaced_only (c ∷ []) c.replaced refl a cell))
    (or_cases (is_name_below sheet words a) (has a (map cell_node c.replaced)) (sym (all a) ∙ h))

-- ---- one part after the other

pub none_back : (s : Session) (cs : List Change) (old : Option Values) → cs ≡ [] → MarksPartsBack s cs old old
none_back s cs old none = subst (λ l. MarksPartsBack s l old old) (sym none) refl

pub more_back : (s : Session) (cs rest : List Change) (c : Change) (old now new : Option Values) → cs ≡ c ∷ rest → MarksPartsBack s rest old now → MarksPartBack s c now new → MarksPartsBack s cs old new
more_back s cs rest c old now new begins before part = subst (λ l. MarksPartsBack s l old new) (sym begins) (now, before, part)

pub first_forth : (s : Session) (cs : List Change) (old : Option Values) → IsLeftForth s cs cs old old
first_forth s cs old new marks = marks

pub more_forth : (s : Session) (cs left rest : List Change) (c : Change) (old now later : Option Values) → left ≡ c ∷ rest → IsLeftForth s cs left old now → MarksPartForth s c now later → IsLeftForth s cs rest old later
more_forth s cs left rest c old now later begins before part new marks = before new (subst (λ l. MarksPartsForth s l now new) (sym begins) (later, part, marks))

pub done_forth : (s : Session) (cs left : List Change) (old now : Option Values) → left ≡ [] → IsLeftForth s cs left old now → MarksPartsForth s cs old now
done_forth s cs left old now none all = all now (subst (λ l. MarksPartsForth s l now now) (sym none) refl)
