-- The names that go with a dropped sheet, and names as changes list them. Serves structural operations and the steps over
-- changes.
use Rattle.std.proofs.Common.{◌≡◌, ◌∙◌, sym, ap, refl, ℕ, ◌<◌, Bool, true, false, cond, not, List, [], ◌∷◌, filter, length, map, Option, Some, None, option_map}
use Rattle.std.proofs.lemmas.Bool.{eqb-true, eq-eqb}
use Rattle.std.proofs.lemmas.Option.{same_Some}
use Rattle.std.specs.FinMap as fin
use Rattle.std.specs.FinMap.{find, get-entries, same_map}
use Rattle.std.specs.List.{AllByRecursion}
use Rattle.std.specs.Option.{option_eq}
use Rattle.std.specs.Ordering.{eq_by_cmp}
use Rattle.std.specs.Prelude.{nat_eq}
use Rattle.formula_tree.specs.Links.{same_scope}
use Rattle.name_table.proofs.DraftedNames.{get-with_holder}
use Rattle.name_table.proofs.KeyOrder.{key_cmp-IsAntisymmetric, key_cmp-IsTotalOrder}
use Rattle.name_table.specs.Scopes.{NameMap, in_scope, key_cmp, key_of}
use Rattle.name_table.specs.declared.key.NameKey.{NameKey}
use Rattle.shift_core.specs.declared.form.Form.{Form}
use Rattle.shift_core.specs.declared.form.Form.TheVariants as form
use Rattle.kept_book.specs.Change.{AreKnown, id_stays, names_with}
use Rattle.kept_book.specs.Frame.{Words}
use Rattle.kept_book.specs.internal.Dropped.{AreGone, gone, ids_left}
use Rattle.kept_book.proofs.NamesSeen.{is_id_key, same_id_key}

abbrev pub Listed : Type 0
Listed = List (NameKey × (Option ℕ × Option ℕ))

-- two maps of ids are the same where they answer alike
pub same_ids : (m n : NameMap) → ((k : NameKey) → fin.get m k ≡ fin.get n k) → m ≡ n
same_ids m n h = same_map key_cmp-IsTotalOrder key_cmp-IsAntisymmetric m n h

-- what a side of a listed name says, in place of what there is
abbrev pub listed_or : (Option ℕ × Option ℕ → Option ℕ) → Option (Option ℕ × Option ℕ) → Option ℕ → Option ℕ
listed_or side None r = r
listed_or side (Some x) r = side x

pub get-names_with : (side : Option ℕ × Option ℕ → Option ℕ) (cs : Listed) (names : NameMap) (k : NameKey) → fin.get (names_with side cs names) k ≡ listed_or side (find key_cmp k cs) (fin.get names k)
get-names_with side [] names k = refl
get-names_with side (c ∷ cs) names k =
    get-with_holder c.0 (side c.1) (names_with side cs names) k ∙ go (eq_by_cmp key_cmp k c.0) (get-names_with side cs names k)
  where
    go : (b : Bool) → fin.get (names_with side cs names) k ≡ listed_or side (find key_cmp k cs) (fin.get names k)
        → cond b (side c.1) (fin.get (names_with side cs names) k) ≡ listed_or side (cond b (Some c.1) (find key_cmp k cs)) (fin.get names k)
    go true h = refl
    go false h = h

-- the two tests of scopes are one
scope-tests : (a : Option ℕ) (d : ℕ) → option_eq nat_eq a (Some d) ≡ same_scope a (Some d)
scope-tests None d = refl
scope-tests (Some n) d = refl

scope-is : (a : Option ℕ) (d : ℕ) → same_scope a (Some d) ≡ true → a ≡ Some d
scope-is None d h = cc
scope-is (Some n) d h = ap Some (eqb-true n d h)

scope-same : (a : Option ℕ) (d : ℕ) → a ≡ Some d → same_scope a (Some d) ≡ true
scope-same None d h = cc
scope-same (Some n) d h = eq-eqb n d (same_Some n d h)

-- the names of a sheet's own among entries, as they are listed when they go
abbrev going : ℕ → List (NameKey × ℕ) → Listed
going d es = map (gone (Some d)) (map (λ e. (e.0.word, e.1)) (filter (λ e. option_eq nat_eq e.0.scope (Some d)) es))

-- a listed name that goes
abbrev went : ℕ → Option ℕ × Option ℕ
went id = (Some id, None)

module _ (d : ℕ) (k : NameKey) where
  head-going : (e : NameKey × ℕ) (es : List (NameKey × ℕ)) (t b : Bool) → option_eq nat_eq e.0.scope (Some d) ≡ t → eq_by_cmp key_cmp k e.0 ≡ b
      → find key_cmp k (going d es) ≡ cond (same_scope k.scope (Some d)) (option_map went (find key_cmp k es)) None
      → find key_cmp k (map (gone (Some d)) (map (λ e. (e.0.word, e.1)) (cond t (e ∷ filter (λ e. option_eq nat_eq e.0.scope (Some d)) es) (filter (λ e. option_eq nat_eq e.0.scope (Some d)) es))))
      ≡ cond (same_scope k.scope (Some d)) (option_map went (cond b (Some e.1) (find key_cmp k es))) None
  head-going e es true b is here h =
      let scope = scope-is e.0.scope d (sym (scope-tests e.0.scope d) ∙ is) in
      let key : key_of (Some d) e.0.word ≡ e.0 = λ i. record { scope = sym scope i; word = e.0.word } in
      ap (λ c. cond c (Some (went e.1)) (find key_cmp k (going d es))) (ap (eq_by_cmp key_cmp k) key ∙ here) ∙ by b here
    where
      by : (b : Bool) → eq_by_cmp key_cmp k e.0 ≡ b → cond b (Some (went e.1)) (find key_cmp k (going d es)) ≡ cond (same_scope k.scope (Some d)) (option_map went (cond b (Some e.1) (find key_cmp k es))) None
      by true t =
          let same = is_id_key k e.0 t in
          let own = scope-same k.scope d (ap (λ x. x.scope) same ∙ scope-is e.0.scope d (sym (scope-tests e.0.scope d) ∙ is)) in
          sym (ap (λ c. cond c (Some (went e.1)) None) own)
      by false t = h
  head-going e es false true is here h =
      let same = is_id_key k e.0 here in
      let other : same_scope k.scope (Some d) ≡ false = ap (λ x. same_scope x.scope (Some d)) same ∙ sym (scope-tests e.0.scope d) ∙ is in
      h ∙ ap (λ c. cond c (option_map went (find key_cmp k es)) None) other ∙ sym (ap (λ c. cond c (Some (went e.1)) None) other)
  head-going e es false false is here h = h

  find-going : (es : List (NameKey × ℕ)) → find key_cmp k (going d es) ≡ cond (same_scope k.scope (Some d)) (option_map went (find key_cmp k es)) None
  find-going [] = none (same_scope k.scope (Some d))
    where
      none : (b : Bool) → ◌≡◌ {A = Option (Option ℕ × Option ℕ)} None (cond b None None)
      none true = refl
      none false = refl
  find-going (e ∷ es) = head-going e es (option_eq nat_eq e.0.scope (Some d)) (eq_by_cmp key_cmp k e.0) refl refl (find-going es)

  pub find-left : (names : NameMap) → find key_cmp k (ids_left (form.Sheet d) names) ≡ cond (same_scope k.scope (Some d)) (option_map went (fin.get names k)) None
  find-left names = find-going (fin.entries names) ∙ ap (λ r. cond (same_scope k.scope (Some d)) (option_map went r) None) (sym (get-entries names k))

after-left : (b : Bool) (r : Option ℕ) → listed_or (λ x. x.1) (cond b (option_map went r) None) r ≡ cond (not b) r None
after-left true None = refl
after-left true (Some id) = refl
after-left false r = refl

-- what stands under a name once those of a dropped sheet are gone
pub get-left : (f : Form) (names : NameMap) (k : NameKey) → fin.get (names_with (λ x. x.1) (ids_left f names) names) k ≡ cond (id_stays f k) (fin.get names k) None
get-left (form.Lines sheet axis edit) names k = refl
get-left (form.Cells source to) names k = refl
get-left (form.Sheet d) names k =
    get-names_with (λ x. x.1) (ids_left (form.Sheet d) names) names k ∙ ap (λ r. listed_or (λ x. x.1) r (fin.get names k)) (find-left d k names)
    ∙ after-left (same_scope k.scope (Some d)) (fin.get names k)

back-left : (b : Bool) (r s : Option ℕ) → s ≡ cond (not b) r None → listed_or (λ x. x.0) (cond b (option_map went r) None) s ≡ r
back-left true None s h = h
back-left true (Some id) s h = refl
back-left false r s h = h

-- they come back
pub left-back : (f : Form) (names : NameMap) → names_with (λ x. x.0) (ids_left f names) (names_with (λ x. x.1) (ids_left f names) names) ≡ names
left-back (form.Lines sheet axis edit) names = refl
left-back (form.Cells source to) names = refl
left-back (form.Sheet d) names = same_ids _ _ (λ k.
    let next = names_with (λ x. x.1) (ids_left (form.Sheet d) names) names in
    get-names_with (λ x. x.0) (ids_left (form.Sheet d) names) next k ∙ ap (λ r. listed_or (λ x. x.0) r (fin.get next k)) (find-left d k names)
    ∙ back-left (same_scope k.scope (Some d)) (fin.get names k) (fin.get next k) (get-left (form.Sheet d) names k))

-- each is gone after the change
all-gone : (scope : Option ℕ) (es : List (ℕ × ℕ)) → AreGone (map (gone scope) es)
all-gone scope [] = tt
all-gone scope (e ∷ es) = (refl, all-gone scope es)

pub left-gone : (f : Form) (names : NameMap) → AreGone (ids_left f names)
left-gone (form.Lines sheet axis edit) names = tt
left-gone (form.Cells source to) names = tt
left-gone (form.Sheet d) names = all-gone (Some d) (in_scope (Some d) names)

-- what holds of each key that is found holds of all keys
all_found : (P : NameKey → Type 0) (es : List (NameKey × ℕ)) → ((k : NameKey) (id : ℕ) → find key_cmp k es ≡ Some id → P k) → AllByRecursion (λ e. P e.0) es
all_found P [] h = tt
all_found P (e ∷ es) h = (
  h e.0 e.1 (ap (λ b. cond b (Some e.1) (find key_cmp e.0 es)) (same_id_key e.0 e.0 refl)),
  all_found P es (λ k id is. later k id (eq_by_cmp key_cmp k e.0) refl is),
)
  where
    later : (k : NameKey) (id : ℕ) (b : Bool) → eq_by_cmp key_cmp k e.0 ≡ b → find key_cmp k es ≡ Some id → P k
    later k id true t is = h k e.1 (ap (λ b. cond b (Some e.1) (find key_cmp k es)) t)
    later k id false t is = h k id (ap (λ b. cond b (Some e.1) (find key_cmp k es)) t ∙ is)

going-known : (words : Words) (d : ℕ) (es : List (NameKey × ℕ)) → AllByRecursion (λ e. e.0.word < length words) es → AreKnown words (going d es)
going-known words d [] h = tt
going-known words d (e ∷ es) h = go (option_eq nat_eq e.0.scope (Some d)) (going-known words d es h.1)
  where
    go : (t : Bool) → AreKnown words (going d es)
        → AreKnown words (map (gone (Some d)) (map (λ e. (e.0.word, e.1)) (cond t (e ∷ filter (λ e. option_eq nat_eq e.0.scope (Some d)) es) (filter (λ e. option_eq nat_eq e.0.scope (Some d)) es))))
    go true more = (h.0, more)
    go false more = more

-- their words are known
pub left-known : (words : Words) (f : Form) (names : NameMap) → ((k : NameKey) (id : ℕ) → fin.get names k ≡ Some id → k.word < length words) → AreKnown words (ids_left f names)
left-known words (form.Lines sheet axis edit) names h = tt
left-known words (form.Cells source to) names h = tt
left-known words (form.Sheet d) names h = going-known words d (fin.entries names) (all_found (λ k. k.word < length words) (fin.entries names) (λ k id is. h k id (get-entries names k ∙ is)))
