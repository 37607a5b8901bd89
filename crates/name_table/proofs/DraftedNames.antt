-- Names with a draft's changes over them, and names that are added and taken away again. Serves drafts of names.
use Rattle.std.proofs.Common.{◌≡◌, ◌∙◌, ◌⊎◌, inl, inr, sym, ap, subst, refl, arith, ℕ, zero, suc, ◌<◌, Bool, true, false, cond, List, [], ◌∷◌, ◌++◌, length, get_or, Option, Some, None, option_map, IsSome, is_some, is_none, unwrap_or}
use Rattle.std.specs.BTreeMap as tree
use Rattle.std.specs.BTreeMap.{BTreeMap, insert_entry, is_at}
use Rattle.std.specs.Cmp.{eq_by_cmp_equiv}
use Rattle.std.specs.FinMap as fin
use Rattle.std.specs.FinMap.{get-insert, get-remove, same_map}
use Rattle.std.specs.List.{AllByRecursion, cons_option}
use Rattle.std.specs.Ordering.{eq_by_cmp, match_ordering}
use Rattle.std.specs.declared.cmp.Ordering.{Ordering}
use Rattle.std.specs.declared.cmp.Ordering.TheVariants.{Less, Equal, Greater}
use Rattle.std.proofs.lemmas.Option.{none-some, same_Some}
use Rattle.name_table.specs.Drafts.{with_changes, without}
use Rattle.name_table.specs.Scopes.{NameMap, key_cmp, with_holder}
use Rattle.name_table.specs.declared.key.NameKey.{NameKey}
use Rattle.name_table.specs.internal.Fresh.{AddsNone, KeepsOthers, fresh_at, fresh_of, under, with_added}
use Rattle.name_table.proofs.Holders.{is-equal}
use Rattle.name_table.proofs.KeyOrder.{key_cmp-IsTotalOrder, key_cmp-IsAntisymmetric}

-- the name that a loop gives where there is none
abbrev pub no_name : NameKey × ℕ
no_name = (record { scope = None; word = 0 }, 0)

same_names : (m n : NameMap) → ((k : NameKey) → fin.get m k ≡ fin.get n k) → m ≡ n
same_names m n h = same_map key_cmp-IsTotalOrder key_cmp-IsAntisymmetric m n h

is-key : (k l : NameKey) → is_at (key_cmp k) l ≡ true → k ≡ l
is-key k l h = key_cmp-IsAntisymmetric k l (is-equal (key_cmp k l) h)

turned : (k l : NameKey) → is_at (key_cmp k) l ≡ is_at (key_cmp l) k
turned k l = (eq_by_cmp_equiv key_cmp-IsTotalOrder).symm k l

pub get-with_holder : (key : NameKey) (holder : Option ℕ) (names : NameMap) (k : NameKey) → fin.get (with_holder key holder names) k ≡ cond (eq_by_cmp key_cmp k key) holder (fin.get names k)
get-with_holder key None names k = get-remove key_cmp-IsTotalOrder names key k
get-with_holder key (Some n) names k = get-insert key_cmp-IsTotalOrder names key n k

unwrapped : (b : Bool) (change : Option ℕ) (r : Option (Option ℕ)) (s : Option ℕ) → cond b change (unwrap_or r s) ≡ unwrap_or (cond b (Some change) r) s
unwrapped true change r s = refl
unwrapped false change r s = refl

get-with_changes : (es : List (NameKey × Option ℕ)) (names : NameMap) (k : NameKey) → fin.get (with_changes es names) k ≡ unwrap_or (under es k) (fin.get names k)
get-with_changes [] names k = refl
get-with_changes (e ∷ es) names k =
    get-with_holder e.0 e.1 (with_changes es names) k ∙ ap (cond (is_at (key_cmp k) e.0) e.1) (get-with_changes es names k)
    ∙ unwrapped (is_at (key_cmp k) e.0) e.1 (under es k) (fin.get names k)

-- one more change
pub change-set : (old new : List (NameKey × Option ℕ)) (key : NameKey) (holder : Option ℕ)
    → ((k : NameKey) → under new k ≡ cond (is_at (key_cmp key) k) (Some holder) (under old k)) → (names : NameMap) → with_changes new names ≡ with_holder key holder (with_changes old names)
change-set old new key holder h names = same_names _ _ (λ k.
    get-with_changes new names k ∙ ap (λ r. unwrap_or r (fin.get names k)) (h k ∙ ap (λ b. cond b (Some holder) (under old k)) (turned key k))
    ∙ sym (unwrapped (is_at (key_cmp k) key) holder (under old k) (fin.get names k)) ∙ ap (cond (is_at (key_cmp k) key) holder) (sym (get-with_changes old names k))
    ∙ sym (get-with_holder key holder (with_changes old names) k))

-- its word is known, as those of the others are
pub words-set : (n : ℕ) (es : List (NameKey × Option ℕ)) (key : NameKey) (holder : Option ℕ) → key.word < n → AllByRecursion (λ (e : NameKey × Option ℕ). e.0.word < n) es
    → AllByRecursion (λ (e : NameKey × Option ℕ). e.0.word < n) (insert_entry key_cmp es key holder)
words-set n [] key holder below known = (below, tt)
words-set n (e ∷ es) key holder below known = by (key_cmp key e.0) (words-set n es key holder below known.1)
  where
    by : (r : Ordering) → AllByRecursion (λ (e : NameKey × Option ℕ). e.0.word < n) (insert_entry key_cmp es key holder)
        → AllByRecursion (λ (e : NameKey × Option ℕ). e.0.word < n) (match_ordering r ((key, holder) ∷ e ∷ es) ((e.0, holder) ∷ es) (e ∷ insert_entry key_cmp es key holder))
    by Less more = (below, known)
    by Equal more = known
    by Greater more = (known.0, more)

-- the last change, made before the others
pub changes-last : (front : List (NameKey × Option ℕ)) (e : NameKey × Option ℕ) (names : NameMap) → with_changes (front ++ e ∷ []) names ≡ with_changes front (with_holder e.0 e.1 names)
changes-last [] e names = refl
changes-last (f ∷ front) e names = ap (with_holder f.0 f.1) (changes-last front e names)

-- the others add no name then
pub adds-none-still : (old new : BTreeMap NameKey (Option ℕ)) (key : NameKey) (holder : Option ℕ) (names : NameMap)
    → ((k : NameKey) → tree.get key_cmp new k ≡ cond (is_at (key_cmp key) k) None (tree.get key_cmp old k)) → AddsNone old names → AddsNone new (with_holder key holder names)
adds-none-still old new key holder names h room k given is = by (is_at (key_cmp key) k) refl
  where
    by : (b : Bool) → is_at (key_cmp key) k ≡ b → IsSome (fin.get (with_holder key holder names) k)
    by true e = absurd (none-some (Some given) (sym (h k ∙ ap (λ b. cond b None (tree.get key_cmp old k)) e) ∙ is))
    by false e =
        subst IsSome (sym (get-with_holder key holder names k ∙ ap (λ b. cond b holder (fin.get names k)) (turned k key ∙ e)))
        (room k given (sym (h k ∙ ap (λ b. cond b None (tree.get key_cmp old k)) e) ∙ is))

-- names that are added
apart : {X : Type 0} (b : Bool) (x : X) (r : Option X) → cond b (Some x) r ≡ None → (b ≡ false) × (r ≡ None)
apart true x r h = absurd (none-some x (sym h))
apart false x r h = (refl, h)

pub other-at : (es : List (NameKey × ℕ)) (i : ℕ) (d : NameKey × ℕ) (k : NameKey) → under es k ≡ None → i < length es → is_at (key_cmp k) (get_or es i d).0 ≡ false
other-at [] i d k none l = absurd (omega arith)
other-at (e ∷ es) zero d k none l = (apart (is_at (key_cmp k) e.0) e.1 (under es k) none).0
other-at (e ∷ es) (suc i) d k none l = other-at es i d k (apart (is_at (key_cmp k) e.0) e.1 (under es k) none).1 (omega (arith, l))

pub others-kept : (es : List (NameKey × ℕ)) (i : ℕ) (d : NameKey × ℕ) (old now next : NameMap) → i < length es → KeepsOthers es old now
    → next ≡ fin.insert now (get_or es i d).0 (get_or es i d).1 → KeepsOthers es old next
others-kept es i d old now next l kept is k none =
    let x = get_or es i d in
    ap (λ m. fin.get m k) is ∙ get-insert key_cmp-IsTotalOrder now x.0 x.1 k ∙ ap (λ b. cond b (Some x.1) (fin.get now k)) (other-at es i d k none l) ∙ kept k none

pub known-at : (n : ℕ) (es : List (NameKey × ℕ)) (i : ℕ) (d : NameKey × ℕ) → AllByRecursion (λ (e : NameKey × ℕ). e.0.word < n) es → i < length es → (get_or es i d).0.word < n
known-at n [] i d known l = absurd (omega arith)
known-at n (e ∷ es) zero d known l = known.0
known-at n (e ∷ es) (suc i) d known l = known-at n es i d known.1 (omega (arith, l))

still-some : {X : Type 0} (b : Bool) (x : X) (r : Option X) → IsSome r → IsSome (cond b (Some x) r)
still-some true x r some = refl
still-some false x r some = some

added-has : (es : List (NameKey × ℕ)) (names : NameMap) (k : NameKey) → IsSome (fin.get names k) ⊎ IsSome (under es k) → IsSome (fin.get (with_added es names) k)
added-has [] names k (inl some) = some
added-has [] names k (inr some) = cc
added-has (e ∷ es) names k h = added-has es (fin.insert names e.0 e.1) k (next (is_at (key_cmp k) e.0) refl h)
  where
    next : (b : Bool) → is_at (key_cmp k) e.0 ≡ b → IsSome (fin.get names k) ⊎ IsSome (cond b (Some e.1) (under es k)) → IsSome (fin.get (fin.insert names e.0 e.1) k) ⊎ IsSome (under es k)
    next true t h = inl (subst IsSome (sym (get-insert key_cmp-IsTotalOrder names e.0 e.1 k ∙ ap (λ b. cond b (Some e.1) (fin.get names k)) t)) refl)
    next false t (inl some) = inl (subst IsSome (sym (get-insert key_cmp-IsTotalOrder names e.0 e.1 k ∙ ap (λ b. cond b (Some e.1) (fin.get names k)) t)) some)
    next false t (inr some) = inr some

-- names that are taken away
get-without : (es : List (NameKey × ℕ)) (names : NameMap) (k : NameKey) → fin.get (without es names) k ≡ cond (is_some (under es k)) None (fin.get names k)
get-without [] names k = refl
get-without (e ∷ es) names k =
    get-without es (fin.remove names e.0) k ∙ ap (cond (is_some (under es k)) None) (get-remove key_cmp-IsTotalOrder names e.0 k) ∙ by (is_at (key_cmp k) e.0) (under es k)
  where
    by : (b : Bool) (r : Option ℕ) → cond (is_some r) None (cond b None (fin.get names k)) ≡ cond (is_some (cond b (Some e.1) r)) None (fin.get names k)
    by true None = refl
    by true (Some x) = refl
    by false r = refl

-- the names that get a holder and have none
module _ (names : NameMap) where
  fresh-missing : (es : List (NameKey × Option ℕ)) (k : NameKey) → IsSome (under (fresh_of names es) k) → fin.get names k ≡ None
  fresh-missing [] k some = cc
  fresh-missing (e ∷ es) k some = by (fin.get names e.0) refl e.1 (fresh-missing es k) some
    where
      here : (b : Bool) (h : ℕ) (r : Option ℕ) → is_at (key_cmp k) e.0 ≡ b → fin.get names e.0 ≡ None → (IsSome r → fin.get names k ≡ None) → IsSome (cond b (Some h) r) → fin.get names k ≡ None
      here true h r t none more some = ap (fin.get names) (is-key k e.0 t) ∙ none
      here false h r t none more some = more some

      by : (held : Option ℕ) → fin.get names e.0 ≡ held → (change : Option ℕ) → (IsSome (under (fresh_of names es) k) → fin.get names k ≡ None)
          → IsSome (under (cons_option (cond (is_none held) (option_map (λ h. (e.0, h)) change) None) (fresh_of names es)) k) → fin.get names k ≡ None
      by (Some x) is change more some = more some
      by None is None more some = more some
      by None is (Some h) more some = here (is_at (key_cmp k) e.0) h (under (fresh_of names es) k) refl is more some

  fresh-changed : (es : List (NameKey × Option ℕ)) (k : NameKey) → IsSome (under (fresh_of names es) k) → IsSome (under es k)
  fresh-changed [] k some = some
  fresh-changed (e ∷ es) k some = by (fin.get names e.0) e.1 (fresh-changed es k) some
    where
      here : (b : Bool) (h : ℕ) (r : Option ℕ) (s : Option (Option ℕ)) → (IsSome r → IsSome s) → IsSome (cond b (Some h) r) → IsSome (cond b (Some e.1) s)
      here true h r s more some = refl
      here false h r s more some = more some

      by : (held change : Option ℕ) → (IsSome (under (fresh_of names es) k) → IsSome (under es k))
          → IsSome (under (cons_option (cond (is_none held) (option_map (λ h. (e.0, h)) change) None) (fresh_of names es)) k) → IsSome (cond (is_at (key_cmp k) e.0) (Some e.1) (under es k))
      by (Some x) change more some = still-some (is_at (key_cmp k) e.0) e.1 (under es k) (more some)
      by None None more some = still-some (is_at (key_cmp k) e.0) e.1 (under es k) (more some)
      by None (Some h) more some = here (is_at (key_cmp k) e.0) h (under (fresh_of names es) k) (under es k) more some

  behind-one : (x : Option (NameKey × ℕ)) (rest : List (NameKey × ℕ)) (k : NameKey) → IsSome (under rest k) → IsSome (under (cons_option x rest) k)
  behind-one None rest k some = some
  behind-one (Some x) rest k some = still-some (is_at (key_cmp k) x.0) x.1 (under rest k) some

  held-or-fresh : (es : List (NameKey × Option ℕ)) (k : NameKey) (holder : ℕ) → under es k ≡ Some (Some holder) → IsSome (fin.get names k) ⊎ IsSome (under (fresh_of names es) k)
  held-or-fresh [] k holder is = absurd (none-some (Some holder) is)
  held-or-fresh (e ∷ es) k holder is = by (is_at (key_cmp k) e.0) refl (held-or-fresh es k holder) is
    where
      here : is_at (key_cmp k) e.0 ≡ true → e.1 ≡ Some holder → (held : Option ℕ) → fin.get names e.0 ≡ held
          → IsSome (fin.get names k) ⊎ IsSome (under (cons_option (cond (is_none held) (option_map (λ h. (e.0, h)) e.1) None) (fresh_of names es)) k)
      here t given (Some x) held = inl (subst IsSome (sym (ap (fin.get names) (is-key k e.0 t) ∙ held)) refl)
      here t given None held =
          inr (subst (λ (r : Option ℕ). IsSome (under (cons_option (option_map (λ h. (e.0, h)) r) (fresh_of names es)) k)) (sym given)
          (subst (λ b. IsSome (cond b (Some holder) (under (fresh_of names es) k))) (sym t) refl))

      there : IsSome (fin.get names k) ⊎ IsSome (under (fresh_of names es) k) → IsSome (fin.get names k) ⊎ IsSome (under (fresh_of names (e ∷ es)) k)
      there (inl some) = inl some
      there (inr some) = inr (behind-one (fresh_at names e) (fresh_of names es) k some)

      by : (b : Bool) → is_at (key_cmp k) e.0 ≡ b → (under es k ≡ Some (Some holder) → IsSome (fin.get names k) ⊎ IsSome (under (fresh_of names es) k)) → cond b (Some e.1) (under es k) ≡ Some (Some holder)
          → IsSome (fin.get names k) ⊎ IsSome (under (fresh_of names (e ∷ es)) k)
      by true t more is = here t (same_Some e.1 (Some holder) is) (fin.get names e.0) refl
      by false t more is = there (more is)

  pub fresh-known : (n : ℕ) (es : List (NameKey × Option ℕ)) → AllByRecursion (λ (e : NameKey × Option ℕ). e.0.word < n) es → AllByRecursion (λ (e : NameKey × ℕ). e.0.word < n) (fresh_of names es)
  fresh-known n [] known = tt
  fresh-known n (e ∷ es) known = by (is_none (fin.get names e.0)) e.1 (fresh-known n es known.1)
    where
      by : (b : Bool) (change : Option ℕ) → AllByRecursion (λ (e : NameKey × ℕ). e.0.word < n) (fresh_of names es)
          → AllByRecursion (λ (e : NameKey × ℕ). e.0.word < n) (cons_option (cond b (option_map (λ h. (e.0, h)) change) None) (fresh_of names es))
      by true None more = more
      by true (Some h) more = (known.0, more)
      by false change more = more

  module _ (changes : BTreeMap NameKey (Option ℕ)) (fresh : List (NameKey × ℕ)) (is : fresh ≡ fresh_of names changes.entries) (mid : NameMap) (others : KeepsOthers fresh names mid) where
    -- the names without those that were added are as they were
    pub back-again : without fresh mid ≡ names
    back-again = same_names _ _ (λ k. get-without fresh mid k ∙ by k (under fresh k) refl)
      where
        by : (k : NameKey) (r : Option ℕ) → under fresh k ≡ r → cond (is_some r) None (fin.get mid k) ≡ fin.get names k
        by k None e = others k e
        by k (Some x) e = sym (fresh-missing changes.entries k (subst (λ l. IsSome (under l k)) is (ap is_some e)))

    -- each change at one of them comes yet
    pub same-in-the-end : with_changes changes.entries mid ≡ with_changes changes.entries names
    same-in-the-end = same_names _ _ (λ k. get-with_changes changes.entries mid k ∙ by k (under changes.entries k) refl ∙ sym (get-with_changes changes.entries names k))
      where
        none-is : (r : Option (Option ℕ)) → IsSome r → r ≡ None → ⊥
        none-is r some e = let bad = subst IsSome e some in cc

        added : (k : NameKey) (r : Option ℕ) → under fresh k ≡ r → under changes.entries k ≡ None → fin.get mid k ≡ fin.get names k
        added k None f e = others k f
        added k (Some x) f e = absurd (none-is (under changes.entries k) (fresh-changed changes.entries k (subst (λ l. IsSome (under l k)) is (ap is_some f))) e)

        by : (k : NameKey) (r : Option (Option ℕ)) → under changes.entries k ≡ r → unwrap_or r (fin.get mid k) ≡ unwrap_or r (fin.get names k)
        by k None e = added k (under fresh k) refl e
        by k (Some x) e = refl

    -- and each name that gets a holder has one
    pub all-held : mid ≡ with_added fresh names → AddsNone changes mid
    all-held added k holder given =
        subst (λ m. IsSome (fin.get m k)) (sym added)
        (added-has fresh names k (subst (λ l. IsSome (fin.get names k) ⊎ IsSome (under l k)) (sym is) (held-or-fresh changes.entries k holder given)))
