-- What stands under a name after one name is changed, or after a structural operation. Serves the laws of sessions, and the
-- engine.
use Rattle.std.proofs.Common.{◌≡◌, ◌≢◌, ◌∙◌, sym, ap, subst, refl, ℕ, ◌==◌, ◌&&◌, Bool, true, false, cond, eqb, not, List, [], ◌∷◌, map, Option, Some, None, inl, inr, option_map}
use Rattle.std.specs.FinMap as fin
use Rattle.std.specs.FinMap.{find, get-entries, get-from_entries, get-insert, get-remove, get-retain_keys}
use Rattle.std.specs.Ordering.{eq_by_cmp, is_eq}
use Rattle.std.specs.declared.cmp.Ordering.{Ordering}
use Rattle.std.specs.declared.cmp.Ordering.TheVariants.{Less, Equal, Greater}
use Rattle.std.proofs.lemmas.Bool.{and_parts, eq-eqb}
use Rattle.std.proofs.lemmas.Option.{same_Some}
use Rattle.cell_addr.specs.declared.place.TheConstants.{NO_SHEET}
use Rattle.formula_tree.specs.Term.{Term, number, text, truth, fault, cell, area, whole, name, prefix, percent, binary, call, paren, Terms, no_terms, term}
use Rattle.formula_tree.specs.declared.reference.Corner.{Corner}
use Rattle.shift_core.specs.Form.{form_of}
use Rattle.shift_core.specs.declared.form.Form.{Form}
use Rattle.shift_core.specs.declared.shift.Shift.{Shift}
use Rattle.tree_rewrite.specs.Rewritten.{rewritten}
use Rattle.tree_rewrite.specs.Sheets.{HasSheet, SomeHasSheet}
use Rattle.book_values.specs.Names.{Key}
use Rattle.book_model.specs.Changes.{rewritten_names, rewritten_tree, stays}
use Rattle.book_model.specs.Names.{NameMap, all_are_absolute, are_absolute, is_absolute, key_cmp, with_tree}
use Rattle.book_model.proofs.NameOrder.{key_cmp-IsTotalOrder, key_cmp-IsAntisymmetric}

pub find-mapped : {K X Y : Type 0} (R : K → K → Ordering) (h : X → Y) (q : K) (es : List (K × X)) → find R q (map (λ e. (e.0, h e.1)) es) ≡ option_map h (find R q es)
find-mapped R h q [] = refl
find-mapped R h q (e ∷ es) = go (eq_by_cmp R q e.0) (find-mapped R h q es)
  where
    go : (b : Bool) → find R q (map (λ e. (e.0, h e.1)) es) ≡ option_map h (find R q es)
        → cond b (Some (h e.1)) (find R q (map (λ e. (e.0, h e.1)) es)) ≡ option_map h (cond b (Some e.1) (find R q es))
    go true f = refl
    go false f = f

-- what stands under a name after all formulas of names followed an operation
pub get-rewritten : (s : Shift) (m : NameMap) (key : Key) → fin.get (rewritten_names s m) key ≡ option_map (rewritten s) (fin.get m key)
get-rewritten s m key =
    get-from_entries key_cmp-IsTotalOrder (map (rewritten_tree s) (fin.entries m)) key
    ∙ find-mapped key_cmp (rewritten s) key (fin.entries m)
    ∙ ap (option_map (rewritten s)) (sym (get-entries m key))

-- what stands under a name of those that stay
pub get-left : (f : Form) (m : NameMap) (key : Key) → fin.get (fin.retain_keys m (stays f)) key ≡ cond (stays f key) (fin.get m key) None
get-left f m key = get-retain_keys m (stays f) key (λ k t. ap (stays f) (sym (key_cmp-IsAntisymmetric key k t)))

pub get-after : (s : Shift) (m : NameMap) (key : Key) → fin.get (rewritten_names s (fin.retain_keys m (stays (form_of s)))) key ≡ option_map (rewritten s) (cond (stays (form_of s) key) (fin.get m key) None)
get-after s m key = get-rewritten s (fin.retain_keys m (stays (form_of s))) key ∙ ap (option_map (rewritten s)) (get-left (form_of s) m key)

left-some : (b : Bool) (f : Option (Term Corner)) (t : Term Corner) → cond b f None ≡ Some t → (b ≡ true) × (f ≡ Some t)
left-some true f t e = (refl, e)
left-some false f t e = cc

mapped-some : (h : Term Corner → Term Corner) (r : Option (Term Corner)) (t : Term Corner) → option_map h r ≡ Some t → (u : Term Corner) × (r ≡ Some u) × (h u ≡ t)
mapped-some h None t e = cc
mapped-some h (Some u) t e = (u, refl, same_Some _ _ e)

-- where a name's tree after an operation comes from
pub name-came : (s : Shift) (m : NameMap) (key : Key) (t : Term Corner) → fin.get (rewritten_names s (fin.retain_keys m (stays (form_of s)))) key ≡ Some t
    → (u : Term Corner) × (stays (form_of s) key ≡ true) × (fin.get m key ≡ Some u) × (rewritten s u ≡ t)
name-came s m key t e =
    let u = mapped-some (rewritten s) (cond (stays (form_of s) key) (fin.get m key) None) t (sym (get-after s m key) ∙ e) in
    let l = left-some (stays (form_of s) key) (fin.get m key) u.0 u.1 in
    (u.0, l.0, l.1, u.2)

equal_of : (o : Ordering) → is_eq o ≡ true → o ≡ Equal
equal_of Less h = cc
equal_of Equal h = refl
equal_of Greater h = cc

changed : (P : Term Corner → Type 0) (b : Bool) (change old : Option (Term Corner)) (t : Term Corner) → cond b change old ≡ Some t → (b ≡ true → change ≡ Some t → P t) → (old ≡ Some t → P t) → P t
changed P true change old t e new kept = new refl e
changed P false change old t e new kept = kept e

-- what stands under a name after one is changed
pub get-with : (key : Key) (change : Option (Term Corner)) (m : NameMap) (q : Key) → fin.get (with_tree key change m) q ≡ cond (eq_by_cmp key_cmp q key) change (fin.get m q)
get-with key None m q = get-remove key_cmp-IsTotalOrder m key q
get-with key (Some t) m q = get-insert key_cmp-IsTotalOrder m key t q

-- what holds of the old names and of the changed one holds of all
pub changed_names : (P : Key → Term Corner → Type 0) (key : Key) (change : Option (Term Corner)) (m : NameMap)
    → ((t : Term Corner) → change ≡ Some t → P key t) → ((q : Key) (t : Term Corner) → fin.get m q ≡ Some t → P q t)
    → (q : Key) (t : Term Corner) → fin.get (with_tree key change m) q ≡ Some t → P q t
changed_names P key change m new old q t e =
    changed (P q) (eq_by_cmp key_cmp q key) change (fin.get m q) t (sym (get-with key change m q) ∙ e)
    (λ b n. subst (λ k. P k t) (sym (key_cmp-IsAntisymmetric q key (equal_of (key_cmp q key) b))) (new t n)) (old q t)

on-one : (b : Bool) → not b ≡ true → b ≡ false
on-one true h = cc
on-one false h = refl

on-sheet : (c : Corner) (sheet : ℕ) → is_absolute c ≡ true → c.at.sheet ≡ sheet → sheet ≢ NO_SHEET
on-sheet c sheet h e none =
    let both = and_parts (c.row_fixed && c.col_fixed) (not (c.at.sheet == NO_SHEET)) h in
    let other : eqb c.at.sheet NO_SHEET ≡ false = on-one (eqb c.at.sheet NO_SHEET) both.1 in
    let same : eqb c.at.sheet NO_SHEET ≡ true = eq-eqb c.at.sheet NO_SHEET (e ∙ none) in
    cc

mutual
  -- each sheet of a tree whose corners are absolute is one
  pub absolute-sheet : (t : Term Corner) → are_absolute t ≡ true → (sheet : ℕ) → HasSheet sheet t → sheet ≢ NO_SHEET
  absolute-sheet (number m) h sheet i = absurd i
  absolute-sheet (text w) h sheet i = absurd i
  absolute-sheet (truth b) h sheet i = absurd i
  absolute-sheet (fault f) h sheet i = absurd i
  absolute-sheet (cell c) h sheet i = on-sheet c sheet h i
  absolute-sheet (area c d) h sheet i =
      let both = and_parts (is_absolute c) (is_absolute d) h in
      elim i [ inl e ↦ on-sheet c sheet both.0 e | inr e ↦ on-sheet d sheet both.1 e ]
  absolute-sheet (whole axis c d) h sheet i =
      let both = and_parts (is_absolute c) (is_absolute d) h in
      elim i [ inl e ↦ on-sheet c sheet both.0 e | inr e ↦ on-sheet d sheet both.1 e ]
  absolute-sheet (name w) h sheet i = absurd i
  absolute-sheet (prefix s t) h sheet i = absolute-sheet t h sheet i
  absolute-sheet (percent t) h sheet i = absolute-sheet t h sheet i
  absolute-sheet (binary o u v) h sheet i =
      let both = and_parts (are_absolute u) (are_absolute v) h in
      elim i [ inl e ↦ absolute-sheet u both.0 sheet e | inr e ↦ absolute-sheet v both.1 sheet e ]
  absolute-sheet (call w ts) h sheet i = absolute-sheet-of ts h sheet i
  absolute-sheet (paren t) h sheet i = absolute-sheet t h sheet i

  absolute-sheet-of : (ts : Terms Corner) → all_are_absolute ts ≡ true → (sheet : ℕ) → SomeHasSheet sheet ts → sheet ≢ NO_SHEET
  absolute-sheet-of no_terms h sheet i = absurd i
  absolute-sheet-of (term t ts) h sheet i =
      let both = and_parts (are_absolute t) (all_are_absolute ts) h in
      elim i [ inl e ↦ absolute-sheet t both.0 sheet e | inr e ↦ absolute-sheet-of ts both.1 sheet e ]
