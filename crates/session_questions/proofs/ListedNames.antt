-- The names of a table in the order in which they are listed. Serves the list of names, and their texts.
use Rattle.std.proofs.Common.{◌≡◌, ◌∙◌, sym, ap, refl, ℕ, ◌||◌, Bool, true, false, cond, List, [], ◌∷◌, map, Option, Some, None, is_some, option_map}
use Rattle.std.specs.BTreeMap.{is_at}
use Rattle.std.specs.Cmp.{eq_by_cmp_equiv}
use Rattle.std.specs.FinMap as fin
use Rattle.std.specs.FinMap.{find, get-entries, get-from_entries}
use Rattle.std.specs.List.{AllByRecursion, cons_option, filter_map, list_any}
use Rattle.std.specs.List.Sorted.{IsStrictlySortedBy}
use Rattle.std.specs.Ordering.{eq_by_cmp}
use Rattle.std.specs.Prelude.{slice_get}
use Rattle.cell_addr.specs.Text.{capitals}
use Rattle.formula_tree.specs.Term.{Term}
use Rattle.formula_tree.specs.declared.reference.Corner.{Corner}
use Rattle.name_table.specs.Scopes as table
use Rattle.name_table.specs.Words.{AreWords}
use Rattle.name_table.specs.declared.key.NameKey.{NameKey}
use Rattle.book_values.specs.Names.{Key}
use Rattle.book_model.specs.Answers.{by_capitals}
use Rattle.book_model.specs.Names.{NameMap, key_cmp}
use Rattle.book_model.proofs.NameOrder.{key_cmp-IsTotalOrder}
use Rattle.kept_book.specs.Frame.{Words, name_seen, names_seen}
use Rattle.recalc_core.specs.Nodes.{AreNumbered}
use Rattle.session_questions.specs.Areas.{entry_of}
use Rattle.session_questions.specs.declared.shown_name.ShownName.{ShownName}
use Rattle.session_questions.specs.internal.Links.{shown_name}
use Rattle.session_questions.specs.internal.Names.{passes, shown_cmp, shown_cmp-IsTotalOrder}
use Rattle.session_questions.specs.internal.Listing.{entry_shown, is_listed_as}
use Rattle.session_operations.proofs.NamedSlots.{key-itself}
use Rattle.session_questions.proofs.NeedingNames.{IsSmall, all-small, key_shown, keys-decide, shown-decide, shown_cmp-IsAntisymmetric}
use Rattle.session_questions.proofs.RaisedKeys.{all_found, entries-raised, find-raised, is_raised, raised}
use Rattle.session_questions.proofs.SortedKeys.{kept, kept_are}

all-pass : {X : Type 0} (o : Option X) → is_some o ≡ passes (λ x. true) o
all-pass None = refl
all-pass (Some x) = refl

module _ (words : Words) (proper : AreWords words) (trees : ℕ → Term Corner) (names : table.NameMap) (numbered : AreNumbered words (fin.entries (names_seen words trees names))) where
  abbrev seen : List (NameKey × ℕ) → List (Key × Term Corner)
  seen es = filter_map (name_seen words trees) es

  abbrev m : NameMap
  m = names_seen words trees names

  -- a name of the table is shown so exactly where a name that is seen is
  listed-seen : (q : ShownName) (es : List (NameKey × ℕ)) → list_any (is_listed_as words q) es ≡ is_some (find shown_cmp q (raised shown_cmp shown_name (seen es)))
  listed-seen q [] = refl
  listed-seen q (e ∷ es) = go (slice_get words e.0.word) (listed-seen q es)
    where
      one : (n : ShownName) (t : Term Corner) (b : Bool) (rest : Option (Term Corner)) → eq_by_cmp shown_cmp q n ≡ b → (eq_by_cmp shown_cmp n q || is_some rest) ≡ is_some (cond (eq_by_cmp shown_cmp q n) (Some t) rest)
      one n t b rest is = ap (λ c. c || is_some rest) ((eq_by_cmp_equiv shown_cmp-IsTotalOrder).symm n q ∙ is) ∙ either b ∙ ap (λ c. is_some (cond c (Some t) rest)) (sym is)
        where
          either : (b : Bool) → (b || is_some rest) ≡ is_some (cond b (Some t) rest)
          either true = refl
          either false = refl

      go : (o : Option (List ℕ)) → list_any (is_listed_as words q) es ≡ is_some (find shown_cmp q (raised shown_cmp shown_name (seen es)))
          → (passes (λ n. eq_by_cmp shown_cmp n q) (option_map (λ w. record { scope = e.0.scope; word = capitals w }) o) || list_any (is_listed_as words q) es)
          ≡ is_some (find shown_cmp q (raised shown_cmp shown_name (cons_option (option_map (λ w. (record { scope = e.0.scope; word = w }, trees e.1)) o) (seen es))))
      go None h = h
      go (Some w) h =
          let n : ShownName = record { scope = e.0.scope; word = capitals w } in
          ap (λ b. eq_by_cmp shown_cmp n q || b) h
          ∙ one n (trees e.1) (eq_by_cmp shown_cmp q n) (find shown_cmp q (raised shown_cmp shown_name (seen es))) refl

  small : (key : Key) (t : Term Corner) → fin.get m key ≡ Some t → IsSmall key
  small key t is = all-small m fin.empty words proper numbered key t is

  small-seen : AllByRecursion (λ e. IsSmall e.0) (seen (fin.entries names))
  small-seen = all_found key_cmp IsSmall (λ k. key-itself k k refl) (seen (fin.entries names)) (λ k t h. small k t (get-from_entries key_cmp-IsTotalOrder (seen (fin.entries names)) k ∙ h))

  small-entries : AllByRecursion (λ e. IsSmall e.0) (fin.entries m)
  small-entries = all_found key_cmp IsSmall (λ k. key-itself k k refl) (fin.entries m) (λ k t h. small k t (get-entries m k ∙ h))

  -- and so exactly where the map by shown names has it
  listed-get : (q : ShownName) → list_any (is_listed_as words q) (fin.entries names) ≡ is_some (fin.get (fin.from_entries {R = shown_cmp} (raised shown_cmp shown_name (fin.entries m))) q)
  listed-get q =
      let up : Bool = is_raised key_cmp shown_cmp keys-decide shown-decide shown_name key_shown q in
      listed-seen q (fin.entries names)
      ∙ ap is_some (find-raised key_cmp shown_cmp keys-decide shown-decide shown_name key_shown q (seen (fin.entries names)) small-seen)
      ∙ ap (λ r. is_some (cond up r None)) (sym (get-from_entries key_cmp-IsTotalOrder (seen (fin.entries names)) (key_shown q)) ∙ get-entries m (key_shown q))
      ∙ ap is_some (sym (find-raised key_cmp shown_cmp keys-decide shown-decide shown_name key_shown q (fin.entries m) small-entries))
      ∙ ap is_some (sym (get-from_entries shown_cmp-IsTotalOrder (raised shown_cmp shown_name (fin.entries m)) q))

  as-listed : (es : List (Key × Term Corner)) → map entry_shown (kept (λ t. true) (raised shown_cmp shown_name es)) ≡ map (λ e. entry_of e.0) es
  as-listed [] = refl
  as-listed (e ∷ es) = ap (λ l. entry_of e.0 ∷ l) (as-listed es)

  -- shown names in order that are those of the table are all names as they are listed
  pub names-listed : (ns : List ShownName) → IsStrictlySortedBy shown_cmp ns → ((q : ShownName) → list_any (is_at (shown_cmp q)) ns ≡ list_any (is_listed_as words q) (fin.entries names))
      → map entry_shown ns ≡ map (λ e. entry_of e.0) (by_capitals (fin.entries m))
  names-listed ns up h =
      ap (map entry_shown) (sym (kept_are shown_cmp-IsTotalOrder shown_cmp-IsAntisymmetric (λ t. true) (fin.from_entries {R = shown_cmp} (raised shown_cmp shown_name (fin.entries m))) ns up
      (λ q. h q ∙ listed-get q ∙ all-pass (fin.get (fin.from_entries {R = shown_cmp} (raised shown_cmp shown_name (fin.entries m))) q))))
      ∙ ap (λ l. map entry_shown (kept (λ t. true) l)) (sym (entries-raised shown_cmp-IsTotalOrder shown_name (fin.entries m)))
      ∙ as-listed (by_capitals (fin.entries m))
