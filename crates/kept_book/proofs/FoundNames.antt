-- The names that are seen as a list, and which of them a word finds. Serves who reads names by their words.
use Rattle.std.proofs.Common.{◌≡◌, ◌∙◌, sym, ap, subst, refl, ℕ, true, false, cond, List, [], ◌∷◌, Option, Some, None, is_some, option_map}
use Rattle.std.proofs.lemmas.Bool.{false≢true}
use Rattle.std.proofs.lemmas.Slice.Eq.{bytes_eq-Decides}
use Rattle.std.specs.Cmp.{both_ways}
use Rattle.std.specs.FinMap as fin
use Rattle.std.specs.FinMap.{find, get-entries}
use Rattle.std.specs.Option.{option_or}
use Rattle.std.specs.Ordering.{eq_by_cmp}
use Rattle.std.specs.Prelude.{option_and_then, slice_get}
use Rattle.cell_addr.specs.Text.{folded}
use Rattle.formula_tree.specs.Term.{Term}
use Rattle.formula_tree.specs.declared.reference.Corner.{Corner}
use Rattle.name_table.proofs.WordNumbers.{folded-folded, number-folded}
use Rattle.name_table.specs.Scopes as table
use Rattle.name_table.specs.Words.{AreWords, number_in}
use Rattle.book_values.proofs.Keys.{same_key-equal, same_key-self}
use Rattle.book_values.specs.Names.{Key, Names, found, key_of, same_key, tree_in}
use Rattle.book_model.specs.Names.{NameMap, key_cmp}
use Rattle.kept_book.specs.Frame.{Words, names_seen}
use Rattle.kept_book.proofs.NamesSeen as seen
use Rattle.kept_book.proofs.NamesSeen.{get-seen, number_of, spelled-has}

-- the two tests of names are one
pub key-tests : (a b : Key) → eq_by_cmp key_cmp a b ≡ same_key a b
key-tests a b = both_ways (eq_by_cmp key_cmp a b) (same_key a b)
    (λ h. subst (λ c. same_key a c ≡ true) (seen.is_key a b h) (same_key-self a))
    (λ h. seen.same_key a b (same_key-equal a b h))

pub turned-test : (a b : Key) → same_key a b ≡ same_key b a
turned-test a b = both_ways (same_key a b) (same_key b a)
    (λ h. subst (λ x. same_key x a ≡ true) (same_key-equal a b h) (same_key-self a))
    (λ h. subst (λ x. same_key x b ≡ true) (same_key-equal b a h) (same_key-self b))

find-tree : (es : Names) (q : Key) → tree_in es q ≡ find key_cmp q es
find-tree [] q = refl
find-tree (e ∷ es) q = (λ i. cond ((turned-test e.0 q ∙ sym (key-tests q e.0)) i) (Some e.1) (find-tree es q i))

-- the entries of a map of names have its trees
pub tree_in-entries : (m : NameMap) (q : Key) → tree_in (fin.entries m) q ≡ fin.get m q
tree_in-entries m q = find-tree (fin.entries m) q ∙ sym (get-entries m q)

-- the word of a text has the number of the text
number-read : (words : Words) (text : List ℕ) → number_of words (folded text) ≡ number_in words text
number-read words text = ap (λ b. cond b (number_in words (folded text)) None) ((bytes_eq-Decides (folded (folded text)) (folded text)).1 (folded-folded text)) ∙ number-folded words text

-- what the word of a text finds: its number in the list, and what the table has under that
pub get-read : (words : Words) (proper : AreWords words) (trees : ℕ → Term Corner) (names : table.NameMap) (scope : Option ℕ) (text : List ℕ)
    → fin.get (names_seen words trees names) (key_of scope text) ≡ option_map trees (option_and_then (λ n. fin.get names (table.key_of scope n)) (number_in words text))
get-read words proper trees names scope text =
    get-seen words proper trees names (key_of scope text) ∙ ap (λ r. option_map trees (option_and_then (λ n. fin.get names (table.key_of scope n)) r)) (number-read words text)

some-mapped : {X Y : Type 0} (f : X → Y) (o : Option X) → is_some (option_map f o) ≡ is_some o
some-mapped f None = refl
some-mapped f (Some x) = refl

-- the name of the sheet comes before that of the whole workbook
chosen : (own whole : Option ℕ) (text : List ℕ) (sheet : ℕ)
    → cond (is_some own) (Some (key_of (Some sheet) text)) (cond (is_some whole) (Some (key_of None text)) None)
    ≡ option_map (λ (f : Option ℕ × ℕ). key_of f.0 text) (option_or (option_map (λ id. (Some sheet, id)) own) (option_map (λ id. (None, id)) whole))
chosen (Some id) whole text sheet = refl
chosen None (Some id) text sheet = refl
chosen None None text sheet = refl

there-mapped : {X Y : Type 0} (f : X → Y) (o : Option X) → is_some (option_map f o) ≡ true → (x : X) × (o ≡ Some x)
there-mapped f None e = absurd (false≢true e)
there-mapped f (Some x) e = (x, refl)

module _ (words : Words) (h : AreWords words) (trees : ℕ → Term Corner) (names : table.NameMap) where
  -- what is seen under a known word
  pub get-known : (scope : Option ℕ) (n : ℕ) (w : List ℕ) → slice_get words n ≡ Some w
      → fin.get (names_seen words trees names) (record { scope = scope; word = w }) ≡ option_map trees (fin.get names (table.key_of scope n))
  get-known scope n w spelt =
      get-seen words h trees names (record { scope = scope; word = w })
      ∙ ap (λ r. option_map trees (option_and_then (λ m. fin.get names (table.key_of scope m)) r)) (spelled-has words w n h spelt)

  -- a name that is seen has a word with a number, and an id
  pub seen-id : (q : Key) → is_some (fin.get (names_seen words trees names) q) ≡ true → (n : ℕ) × (number_of words q.word ≡ Some n) × ((id : ℕ) × (fin.get names (table.key_of q.scope n) ≡ Some id))
  seen-id q some = go (number_of words q.word) refl (sym (ap is_some (get-seen words h trees names q)) ∙ some)
    where
      go : (r : Option ℕ) → number_of words q.word ≡ r → is_some (option_map trees (option_and_then (λ m. fin.get names (table.key_of q.scope m)) r)) ≡ true
          → (n : ℕ) × (number_of words q.word ≡ Some n) × ((id : ℕ) × (fin.get names (table.key_of q.scope n) ≡ Some id))
      go None is e = absurd (false≢true e)
      go (Some n) is e = (n, is, there-mapped trees (fin.get names (table.key_of q.scope n)) e)

  has-read : (scope : Option ℕ) (text : List ℕ) (n : ℕ) → number_in words text ≡ Some n → is_some (tree_in (fin.entries (names_seen words trees names)) (key_of scope text)) ≡ is_some (fin.get names (table.key_of scope n))
  has-read scope text n number =
      ap is_some (tree_in-entries (names_seen words trees names) (key_of scope text) ∙ get-read words h trees names scope text
      ∙ ap (λ r. option_map trees (option_and_then (λ m. fin.get names (table.key_of scope m)) r)) number)
      ∙ some-mapped trees (fin.get names (table.key_of scope n))

  lacks-read : (scope : Option ℕ) (text : List ℕ) → number_in words text ≡ None → is_some (tree_in (fin.entries (names_seen words trees names)) (key_of scope text)) ≡ false
  lacks-read scope text none =
      ap is_some (tree_in-entries (names_seen words trees names) (key_of scope text) ∙ get-read words h trees names scope text
      ∙ ap (λ r. option_map trees (option_and_then (λ m. fin.get names (table.key_of scope m)) r)) none)

  -- the name that a text finds is the one that the number of its word finds in the table
  pub found-read : (text : List ℕ) (sheet n : ℕ) → number_in words text ≡ Some n
      → found (fin.entries (names_seen words trees names)) text sheet ≡ option_map (λ (f : Option ℕ × ℕ). key_of f.0 text) (table.found names n sheet)
  found-read text sheet n number =
      (λ i. cond (has-read (Some sheet) text n number i) (Some (key_of (Some sheet) text)) (cond (has-read None text n number i) (Some (key_of None text)) None))
      ∙ chosen (fin.get names (table.key_of (Some sheet) n)) (fin.get names (table.key_of None n)) text sheet

  -- a text whose word isn't known finds none
  pub found-none : (text : List ℕ) (sheet : ℕ) → number_in words text ≡ None → found (fin.entries (names_seen words trees names)) text sheet ≡ None
  found-none text sheet none i = cond (lacks-read (Some sheet) text none i) (Some (key_of (Some sheet) text)) (cond (lacks-read None text none i) (Some (key_of None text)) None)
