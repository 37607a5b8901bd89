-- What stands under a name of a frame: the tree of the id that the scope has for the word's number. Serves all calls.
use Rattle.std.proofs.Common.{◌≡◌, ◌∙◌, sym, ap, refl, ℕ, Bool, true, false, cond, List, [], ◌∷◌, Option, Some, None, option_map}
use Rattle.std.proofs.lemmas.Option.{none-some, same_Some}
use Rattle.std.proofs.lemmas.Slice.Eq.{bytes_eq-Decides}
use Rattle.std.specs.Cmp.{both_ways}
use Rattle.std.specs.FinMap as fin
use Rattle.std.specs.FinMap.{find, get-entries, get-from_entries, same_map}
use Rattle.std.specs.List.{cons_option, filter_map}
use Rattle.std.specs.Ordering.{eq_by_cmp}
use Rattle.std.specs.Prelude.{bytes_eq, option_and_then, slice_get}
use Rattle.cell_addr.specs.Text.{folded}
use Rattle.formula_tree.specs.Term.{Term}
use Rattle.formula_tree.specs.declared.reference.Corner.{Corner}
use Rattle.name_table.proofs.KeyOrder as order
use Rattle.name_table.proofs.WordNumbers.{number-spelled, spelled-number}
use Rattle.name_table.specs.Scopes as table
use Rattle.name_table.specs.Words.{AreWords, number_in}
use Rattle.name_table.specs.declared.key.NameKey.{NameKey}
use Rattle.shift_core.proofs.CarriedEntries.{eq_by_cmp-decides}
use Rattle.book_values.specs.Names.{Key}
use Rattle.book_model.proofs.NameOrder.{key_cmp-IsAntisymmetric, key_cmp-IsTotalOrder}
use Rattle.book_model.specs.Names.{NameMap, key_cmp}
use Rattle.kept_book.specs.Frame.{Words, name_seen, names_seen}

-- the number of a word, written as it is
abbrev pub number_of : Words → List ℕ → Option ℕ
number_of words w = cond (bytes_eq (folded w) w) (number_in words w) None

pub number-spells : (words : Words) (w : List ℕ) (n : ℕ) → AreWords words → number_of words w ≡ Some n → slice_get words n ≡ Some w
number-spells words w n h e = go (bytes_eq (folded w) w) refl e
  where
    go : (b : Bool) → bytes_eq (folded w) w ≡ b → cond b (number_in words w) None ≡ Some n → slice_get words n ≡ Some w
    go true is f = number-spelled words w n h f ∙ ap Some ((bytes_eq-Decides (folded w) w).0 is)
    go false is f = absurd (none-some n f)

pub spelled-has : (words : Words) (w : List ℕ) (n : ℕ) → AreWords words → slice_get words n ≡ Some w → number_of words w ≡ Some n
spelled-has words w n h e =
    let found = spelled-number words w n h e in
    let small : folded w ≡ w = same_Some (folded w) w (sym (number-spelled words w n h found) ∙ e) in
    ap (λ b. cond b (number_in words w) None) ((bytes_eq-Decides (folded w) w).1 small) ∙ found

-- two maps of names are the same where they answer alike
pub same_names : (m n : NameMap) → ((q : Key) → fin.get m q ≡ fin.get n q) → m ≡ n
same_names m n h = same_map key_cmp-IsTotalOrder key_cmp-IsAntisymmetric m n h

pub is_key : (a b : Key) → eq_by_cmp key_cmp a b ≡ true → a ≡ b
is_key a b h = (eq_by_cmp-decides key_cmp-IsTotalOrder key_cmp-IsAntisymmetric a b).0 h

pub same_key : (a b : Key) → a ≡ b → eq_by_cmp key_cmp a b ≡ true
same_key a b h = (eq_by_cmp-decides key_cmp-IsTotalOrder key_cmp-IsAntisymmetric a b).1 h

pub is_id_key : (a b : NameKey) → eq_by_cmp table.key_cmp a b ≡ true → a ≡ b
is_id_key a b h = (eq_by_cmp-decides order.key_cmp-IsTotalOrder order.key_cmp-IsAntisymmetric a b).0 h

pub same_id_key : (a b : NameKey) → a ≡ b → eq_by_cmp table.key_cmp a b ≡ true
same_id_key a b h = (eq_by_cmp-decides order.key_cmp-IsTotalOrder order.key_cmp-IsAntisymmetric a b).1 h

-- a key as it is seen, by its word
abbrev pub seen_key : NameKey → List ℕ → Key
seen_key k w = record { scope = k.scope; word = w }

-- the tests of the two kinds of keys agree
pub tests-agree : (words : Words) (q : Key) (k : NameKey) (w : List ℕ) (n : ℕ) → AreWords words → slice_get words k.word ≡ Some w → number_of words q.word ≡ Some n
    → eq_by_cmp key_cmp q (seen_key k w) ≡ eq_by_cmp table.key_cmp (table.key_of q.scope n) k
tests-agree words q k w n h spelt number = both_ways (eq_by_cmp key_cmp q (seen_key k w)) (eq_by_cmp table.key_cmp (table.key_of q.scope n) k)
    (λ t.
    let same = is_key q (seen_key k w) t in
    let word : n ≡ k.word = same_Some n k.word (sym number ∙ ap (λ x. number_of words x.word) same ∙ spelled-has words w k.word h spelt) in
    same_id_key (table.key_of q.scope n) k (λ i. record { scope = (same i).scope; word = word i }))
    (λ t.
    let same = is_id_key (table.key_of q.scope n) k t in
    let spells : Some q.word ≡ Some w = sym (number-spells words q.word n h number) ∙ ap (λ x. slice_get words x.word) same ∙ spelt in
    let word = same_Some q.word w spells in
    same_key q (seen_key k w) (λ i. record { scope = (same i).scope; word = word i }))

module _ (words : Words) (h : AreWords words) (trees : ℕ → Term Corner) where
  -- the tree of the id that is found, if one is
  abbrev pub tree_found : List (NameKey × ℕ) → Key → Option ℕ → Option (Term Corner)
  tree_found es q r = option_map trees (option_and_then (λ n. find table.key_cmp (table.key_of q.scope n) es) r)

  none-found : (q : Key) (r : Option ℕ) → tree_found [] q r ≡ None
  none-found q None = refl
  none-found q (Some n) = refl

  -- a name whose word isn't known isn't seen
  skipped : (q : Key) (e : NameKey × ℕ) (es : List (NameKey × ℕ)) (r : Option ℕ) → slice_get words e.0.word ≡ None → number_of words q.word ≡ r → tree_found es q r ≡ tree_found (e ∷ es) q r
  skipped q e es None unknown number = refl
  skipped q e es (Some n) unknown number = ap (option_map trees) (go (eq_by_cmp table.key_cmp (table.key_of q.scope n) e.0) refl)
    where
      go : (b : Bool) → eq_by_cmp table.key_cmp (table.key_of q.scope n) e.0 ≡ b
          → find table.key_cmp (table.key_of q.scope n) es ≡ cond b (Some e.1) (find table.key_cmp (table.key_of q.scope n) es)
      go true t =
          let same = is_id_key (table.key_of q.scope n) e.0 t in
          absurd (none-some q.word (sym unknown ∙ ap (λ x. slice_get words x.word) (sym same) ∙ number-spells words q.word n h number))
      go false t = refl

  seen : (q : Key) (e : NameKey × ℕ) (es : List (NameKey × ℕ)) (w : List ℕ) (r : Option ℕ) → slice_get words e.0.word ≡ Some w → number_of words q.word ≡ r
      → cond (eq_by_cmp key_cmp q (seen_key e.0 w)) (Some (trees e.1)) (tree_found es q r) ≡ tree_found (e ∷ es) q r
  seen q e es w None spelt number = go (eq_by_cmp key_cmp q (seen_key e.0 w)) refl
    where
      go : (b : Bool) → eq_by_cmp key_cmp q (seen_key e.0 w) ≡ b → cond b (Some (trees e.1)) None ≡ None
      go true t =
          let same = is_key q (seen_key e.0 w) t in
          absurd (none-some e.0.word (sym number ∙ ap (λ x. number_of words x.word) same ∙ spelled-has words w e.0.word h spelt))
      go false t = refl
  seen q e es w (Some n) spelt number =
      ap (λ b. cond b (Some (trees e.1)) (tree_found es q (Some n))) (tests-agree words q e.0 w n h spelt number)
      ∙ go (eq_by_cmp table.key_cmp (table.key_of q.scope n) e.0)
    where
      go : (b : Bool) → cond b (Some (trees e.1)) (option_map trees (find table.key_cmp (table.key_of q.scope n) es)) ≡ option_map trees (cond b (Some e.1) (find table.key_cmp (table.key_of q.scope n) es))
      go true = refl
      go false = refl

  find-seen : (q : Key) (es : List (NameKey × ℕ)) → find key_cmp q (filter_map (name_seen words trees) es) ≡ tree_found es q (number_of words q.word)
  find-seen q [] = sym (none-found q (number_of words q.word))
  find-seen q (e ∷ es) = go (slice_get words e.0.word) refl (find-seen q es)
    where
      go : (r : Option (List ℕ)) → slice_get words e.0.word ≡ r → find key_cmp q (filter_map (name_seen words trees) es) ≡ tree_found es q (number_of words q.word)
          → find key_cmp q (cons_option (option_map (λ w. (seen_key e.0 w, trees e.1)) r) (filter_map (name_seen words trees) es)) ≡ tree_found (e ∷ es) q (number_of words q.word)
      go None unknown same = same ∙ skipped q e es (number_of words q.word) unknown refl
      go (Some w) spelt same = ap (cond (eq_by_cmp key_cmp q (seen_key e.0 w)) (Some (trees e.1))) same ∙ seen q e es w (number_of words q.word) spelt refl

  -- the id of a name
  abbrev pub id_found : table.NameMap → Key → Option ℕ
  id_found names q = option_and_then (λ n. fin.get names (table.key_of q.scope n)) (number_of words q.word)

  found-entries : (names : table.NameMap) (q : Key) (r : Option ℕ) → tree_found (fin.entries names) q r ≡ option_map trees (option_and_then (λ n. fin.get names (table.key_of q.scope n)) r)
  found-entries names q None = refl
  found-entries names q (Some n) = ap (option_map trees) (sym (get-entries names (table.key_of q.scope n)))

  pub get-seen : (names : table.NameMap) (q : Key) → fin.get (names_seen words trees names) q ≡ option_map trees (id_found names q)
  get-seen names q =
      get-from_entries key_cmp-IsTotalOrder (filter_map (name_seen words trees) (fin.entries names)) q
      ∙ find-seen q (fin.entries names) ∙ found-entries names q (number_of words q.word)
