-- Names of which one gets an id, or loses it. Serves the call that names a formula.
use Rattle.std.proofs.Common.{◌≡◌, ◌∙◌, sym, ap, refl, ℕ, zero, suc, Bool, true, false, cond, List, [], ◌∷◌, ◌++◌, Option, Some, None, option_map, is_some}
use Rattle.std.proofs.lemmas.Option.{none-some}
use Rattle.std.specs.FinMap as fin
use Rattle.std.specs.Ordering.{eq_by_cmp}
use Rattle.std.specs.Prelude.{option_and_then, slice_get}
use Rattle.cell_addr.specs.Text.{folded}
use Rattle.formula_tree.specs.Term.{Term}
use Rattle.formula_tree.specs.declared.reference.Corner.{Corner}
use Rattle.name_table.proofs.DraftedNames.{get-with_holder}
use Rattle.name_table.specs.Scopes as table
use Rattle.name_table.specs.Words.{AreWords, number_in, with_word}
use Rattle.name_table.specs.declared.key.NameKey.{NameKey}
use Rattle.book_values.specs.Names.{Key}
use Rattle.book_model.proofs.NameMaps.{get-with}
use Rattle.book_model.specs.Names.{key_cmp, with_tree}
use Rattle.kept_book.specs.Change.{with_id}
use Rattle.kept_book.specs.Frame.{Words, names_seen}
use Rattle.kept_book.specs.Kept.{IsMore}
use Rattle.kept_book.proofs.NamesSeen.{get-seen, is_key, number_of, same_names, seen_key, spelled-has, tests-agree}

-- the word of a text is one more, or known already
front-there : (words rest : Words) (i : ℕ) (w : List ℕ) → slice_get words i ≡ Some w → slice_get (words ++ rest) i ≡ Some w
front-there [] rest i w e = absurd (none-some w e)
front-there (v ∷ words) rest zero w e = e
front-there (v ∷ words) rest (suc i) w e = front-there words rest i w e

pub more-word : (text : List ℕ) (words : Words) → IsMore words (with_word text words)
more-word text words i w e = go (is_some (number_in words text))
  where
    go : (b : Bool) → slice_get (cond b words (words ++ folded text ∷ [])) i ≡ Some w
    go true = e
    go false = front-there words (folded text ∷ []) i w e

module _ (words : Words) (h : AreWords words) (trees : ℕ → Term Corner) (names : table.NameMap) (key : NameKey) (w : List ℕ) (spelt : slice_get words key.word ≡ Some w) (id : Option ℕ) where
  put-at : (q : Key) (r : Option ℕ) → number_of words q.word ≡ r
      → option_map trees (option_and_then (λ n. fin.get (with_id key id names) (table.key_of q.scope n)) r)
      ≡ cond (eq_by_cmp key_cmp q (seen_key key w)) (option_map trees id) (option_map trees (option_and_then (λ n. fin.get names (table.key_of q.scope n)) r))
  put-at q None is = go (eq_by_cmp key_cmp q (seen_key key w)) refl
    where
      go : (b : Bool) → eq_by_cmp key_cmp q (seen_key key w) ≡ b → None ≡ cond b (option_map trees id) None
      go true t = absurd (none-some key.word (sym is ∙ ap (λ k. number_of words k.word) (is_key q (seen_key key w) t) ∙ spelled-has words w key.word h spelt))
      go false t = refl
  put-at q (Some n) is =
      ap (option_map trees) (get-with_holder key id names (table.key_of q.scope n)) ∙ go (eq_by_cmp table.key_cmp (table.key_of q.scope n) key)
      ∙ sym (ap (λ b. cond b (option_map trees id) (option_map trees (fin.get names (table.key_of q.scope n)))) (tests-agree words q key w n h spelt is))
    where
      go : (b : Bool) → option_map trees (cond b id (fin.get names (table.key_of q.scope n))) ≡ cond b (option_map trees id) (option_map trees (fin.get names (table.key_of q.scope n)))
      go true = refl
      go false = refl

  -- the names that are seen once one has this id, or none
  pub names-put : names_seen words trees (with_id key id names) ≡ with_tree (seen_key key w) (option_map trees id) (names_seen words trees names)
  names-put = same_names _ _ (λ q.
      get-seen words h trees (with_id key id names) q ∙ put-at q (number_of words q.word) refl
      ∙ ap (cond (eq_by_cmp key_cmp q (seen_key key w)) (option_map trees id)) (sym (get-seen words h trees names q))
      ∙ sym (get-with (seen_key key w) (option_map trees id) (names_seen words trees names) q))
