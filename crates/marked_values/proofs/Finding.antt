-- What a word finds before and after a change of one name. Serves the laws.
use Rattle.std.proofs.Common.{◌≡◌, ◌∙◌, sym, ap, ap₂, refl, subst, ℕ, Bool, true, false, cond, List, [], ◌∷◌, Option, Some, None, is_some, ◌⊎◌, inl, inr, ⊎_elim, eq-eqb}
use Rattle.std.specs.Prelude.{bytes_eq}
use Rattle.std.specs.Cmp.Lexicographic.{bytes_decides}
use Rattle.std.proofs.lemmas.Bool.{cases_Bool, false≢true}
use Rattle.std.proofs.lemmas.Str.Ascii.{lowercase-lowercase}
use Rattle.cell_addr.specs.Text.{folded}
use Rattle.formula_tree.specs.Links.{names_in}
use Rattle.formula_tree.specs.Term.{Term}
use Rattle.formula_tree.specs.declared.reference.Corner.{Corner}
use Rattle.book_values.proofs.Keys.{same_key-equal, same_key-self}
use Rattle.book_values.specs.Names.{Key, Names, found, is_found, key_of, same_key, tree_in}
use Rattle.book_values.specs.Workbook as book
use Rattle.book_values.specs.Workbook.{Workbook, mentions_node}
use Rattle.recalc_core.specs.Edits.{DifferInName, UsesWord}
use Rattle.recalc_core.proofs.Bridge.{any_as, none_some, same_some}
use Rattle.marked_values.specs.NameMarks.{is_scope_for}
use Rattle.marked_values.specs.Rebound.{AddedIsFound, ChangedIsFoundAlike, IsGivenWay, RemovedWasFound, same_found}

pub same_found-equal : (o p : Option Key) → same_found o p ≡ true → o ≡ p
same_found-equal (Some k) (Some l) h = ap Some (same_key-equal k l h)
same_found-equal None None h = refl
same_found-equal (Some k) None h = absurd (false≢true h)
same_found-equal None (Some l) h = absurd (false≢true h)

pub same_found-self : (o : Option Key) → same_found o o ≡ true
same_found-self (Some k) = same_key-self k
same_found-self None = refl

-- ---- words in small letters

folded-folded : (w : List ℕ) → folded (folded w) ≡ folded w
folded-folded [] = refl
folded-folded (b ∷ w) = λ i. lowercase-lowercase b i ∷ folded-folded w i

-- what a word in small letters finds
abbrev finds_small : Names → ℕ → List ℕ → Option Key
finds_small names sheet small =
    cond (is_some (tree_in names (record { scope = Some sheet; word = small }))) (Some (record { scope = Some sheet; word = small }))
    (cond (is_some (tree_in names (record { scope = None; word = small }))) (Some (record { scope = None; word = small })) None)

-- a word finds what its small letters find
pub found_small : (names : Names) (w word : List ℕ) (sheet : ℕ) → bytes_eq (folded w) word ≡ true → found names w sheet ≡ found names word sheet
found_small names w word sheet h = ap (finds_small names sheet) (sym (folded-folded w) ∙ ap folded ((bytes_decides (folded w) word).0 h))

-- so a tree that uses the word mentions the name that it finds
pub mentions_found : (names : Names) (sheet : ℕ) (t : Term Corner) (word : List ℕ) (k : Key) → UsesWord t word → found names word sheet ≡ Some k → mentions_node names sheet t (book.name k) ≡ true
mentions_found names sheet t word k uses e =
    any_as (λ w. bytes_eq (folded w) word) (λ w. is_found (found names w sheet) k) (names_in t) (λ w h. ap (λ o. is_found o k) (found_small names w word sheet h ∙ e) ∙ same_key-self k) uses

-- ---- what is found

-- a word finds the sheet's own name, else that of the whole workbook
finds : (names : Names) (word : List ℕ) (sheet : ℕ) (m n : Bool) → is_some (tree_in names (key_of (Some sheet) word)) ≡ m → is_some (tree_in names (key_of None word)) ≡ n
    → found names word sheet ≡ cond m (Some (key_of (Some sheet) word)) (cond n (Some (key_of None word)) None)
finds names word sheet m n e f = ap₂ (λ s t. cond s (Some (key_of (Some sheet) word)) (cond t (Some (key_of None word)) None)) e f

-- what a word finds on a sheet is the sheet's or the whole workbook's
pub found_scope : (names : Names) (word : List ℕ) (sheet : ℕ) (k : Key) → found names word sheet ≡ Some k → is_scope_for k.scope sheet ≡ true
found_scope names word sheet k e = by (is_some (tree_in names (key_of (Some sheet) word))) (is_some (tree_in names (key_of None word))) refl refl
  where
    by : (m n : Bool) → is_some (tree_in names (key_of (Some sheet) word)) ≡ m → is_some (tree_in names (key_of None word)) ≡ n → is_scope_for k.scope sheet ≡ true
    by true n p q = subst (λ l. is_scope_for l.scope sheet ≡ true) (same_some (key_of (Some sheet) word) k (sym (finds names word sheet true n p q) ∙ e)) (eq-eqb sheet sheet refl)
    by false true p q = subst (λ l. is_scope_for l.scope sheet ≡ true) (same_some (key_of None word) k (sym (finds names word sheet false true p q) ∙ e)) refl
    by false false p q = absurd (none_some k (sym (finds names word sheet false false p q) ∙ e))

module _ (b c : Workbook) (key : Key) (differ : DifferInName b c key) where
  -- another key has the same tree in both
  is_key : (k : Key) → (k ≡ key) ⊎ (tree_in b.names k ≡ tree_in c.names k)
  is_key k = ⊎_elim
      (λ (h : same_key k key ≡ true). inl (same_key-equal k key h))
      (λ (h : same_key k key ≡ false). inr (differ.trees k (λ same. false≢true (sym h ∙ subst (λ l. same_key k l ≡ true) same (same_key-self k)))))
      (cases_Bool (same_key k key))

  pub is_found_alike : is_some (tree_in b.names key) ≡ true → is_some (tree_in c.names key) ≡ true → (word : List ℕ) (sheet : ℕ) → found b.names word sheet ≡ found c.names word sheet
  is_found_alike had have word sheet =
      ap₂ (λ s t. cond s (Some (key_of (Some sheet) word)) (cond t (Some (key_of None word)) None)) (there (key_of (Some sheet) word)) (there (key_of None word))
    where
      there : (k : Key) → is_some (tree_in b.names k) ≡ is_some (tree_in c.names k)
      there k = ⊎_elim
          (λ (same : k ≡ key). ap (λ l. is_some (tree_in b.names l)) same ∙ had ∙ sym have ∙ ap (λ l. is_some (tree_in c.names l)) (sym same))
          (λ (e : tree_in b.names k ≡ tree_in c.names k). ap is_some e)
          (is_key k)

  module _ (gone : is_some (tree_in c.names key) ≡ false) (word : List ℕ) (sheet : ℕ) where
    abbrev own : Key
    own = key_of (Some sheet) word

    abbrev whole : Key
    whole = key_of None word

    none_now : (k : Key) → is_some (tree_in b.names k) ≡ false → is_some (tree_in c.names k) ≡ false
    none_now k none = ⊎_elim
        (λ (same : k ≡ key). ap (λ l. is_some (tree_in c.names l)) same ∙ gone)
        (λ (e : tree_in b.names k ≡ tree_in c.names k). sym (ap is_some e) ∙ none)
        (is_key k)

    pub was_found : (found b.names word sheet ≡ found c.names word sheet) ⊎ (found b.names word sheet ≡ Some key)
    was_found = by (is_some (tree_in b.names own)) (is_some (tree_in b.names whole)) refl refl
      where
        by : (m n : Bool) → is_some (tree_in b.names own) ≡ m → is_some (tree_in b.names whole) ≡ n → (found b.names word sheet ≡ found c.names word sheet) ⊎ (found b.names word sheet ≡ Some key)
        by true n p q = ⊎_elim
            (λ (same : own ≡ key). inr (finds b.names word sheet true n p q ∙ ap Some same))
            (λ (e : tree_in b.names own ≡ tree_in c.names own). inl (finds b.names word sheet true n p q ∙ sym (finds c.names word sheet true (is_some (tree_in c.names whole)) (sym (ap is_some e) ∙ p) refl)))
            (is_key own)
        by false true p q = ⊎_elim
            (λ (same : whole ≡ key). inr (finds b.names word sheet false true p q ∙ ap Some same))
            (λ (e : tree_in b.names whole ≡ tree_in c.names whole). inl (finds b.names word sheet false true p q ∙ sym (finds c.names word sheet false true (none_now own p) (sym (ap is_some e) ∙ q))))
            (is_key whole)
        by false false p q = inl (finds b.names word sheet false false p q ∙ sym (finds c.names word sheet false false (none_now own p) (none_now whole q)))

turned : (b c : Workbook) (key : Key) → DifferInName b c key → DifferInName c b key
turned b c key differ = record { cells = sym differ.cells; trees = λ other apart. sym (differ.trees other apart) }

module _ (b c : Workbook) (key : Key) (differ : DifferInName b c key) (fresh : is_some (tree_in b.names key) ≡ false) (word : List ℕ) (sheet : ℕ) where
  abbrev own_key : Key
  own_key = key_of (Some sheet) word

  abbrev whole_key : Key
  whole_key = key_of None word

  -- what was there before is another name, and is there now
  still : (k : Key) → is_some (tree_in b.names k) ≡ true → ¬ (k ≡ key) × (is_some (tree_in c.names k) ≡ true)
  still k there =
      let apart : ¬ (k ≡ key) = λ same. false≢true (sym fresh ∙ ap (λ l. is_some (tree_in b.names l)) (sym same) ∙ there) in
      (apart, sym (ap is_some (differ.trees k apart)) ∙ there)

  given_way : found c.names word sheet ≡ Some key → IsGivenWay b key word sheet
  given_way now = by (is_some (tree_in b.names own_key)) (is_some (tree_in b.names whole_key)) refl refl
    where
      hides : found b.names word sheet ≡ Some whole_key → ¬ (whole_key ≡ key) → is_some (tree_in c.names whole_key) ≡ true → (m : Bool) → is_some (tree_in c.names own_key) ≡ m → IsGivenWay b key word sheet
      hides was apart there true e = inr (was, sym (ap (λ (k : Key). k.scope) (same_some own_key key (sym (finds c.names word sheet true true e there) ∙ now))))
      hides was apart there false e = absurd (apart (same_some whole_key key (sym (finds c.names word sheet false true e there) ∙ now)))

      by : (m n : Bool) → is_some (tree_in b.names own_key) ≡ m → is_some (tree_in b.names whole_key) ≡ n → IsGivenWay b key word sheet
      by true n p q =
          let (apart, there) = still own_key p in
          absurd (apart (same_some own_key key (sym (finds c.names word sheet true (is_some (tree_in c.names whole_key)) there refl) ∙ now)))
      by false true p q =
          let (apart, there) = still whole_key q in
          hides (finds b.names word sheet false true p q) apart there (is_some (tree_in c.names own_key)) refl
      by false false p q = inl (finds b.names word sheet false false p q)

  pub is_found_now : (found b.names word sheet ≡ found c.names word sheet) ⊎ ((found c.names word sheet ≡ Some key) × IsGivenWay b key word sheet)
  is_found_now = ⊎_elim
      (λ (same : found c.names word sheet ≡ found b.names word sheet). inl (sym same))
      (λ (now : found c.names word sheet ≡ Some key). inr (now, given_way now))
      (was_found c b key (turned b c key differ) fresh word sheet)

pub changed_is_found_alike : ChangedIsFoundAlike
changed_is_found_alike b c key word sheet differ had have = is_found_alike b c key differ had have word sheet

pub removed_was_found : RemovedWasFound
removed_was_found b c key word sheet differ gone = was_found b c key differ gone word sheet

pub added_is_found : AddedIsFound
added_is_found b c key word sheet differ fresh = is_found_now b c key differ fresh word sheet
