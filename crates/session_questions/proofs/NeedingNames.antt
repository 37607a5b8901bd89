-- The names whose formulas mention a place, in the order in which links show them. Serves the dependents of a cell.
use Rattle.std.proofs.Common.{◌≡◌, ◌∙◌, sym, ap, subst, refl, arith, ℕ, ◌&&◌, Bool, true, false, true≢false, cond, List, [], ◌∷◌, map, Option, Some, None, is_some, option_map, ⊎_elim}
use Rattle.std.proofs.lemmas.Bool.{and_from, and_parts, or_cases, or_left, or_right}
use Rattle.std.proofs.lemmas.Option.{none-some}
use Rattle.std.specs.BTreeMap.{is_at}
use Rattle.std.specs.Char.{to_ascii_lowercase, to_ascii_uppercase}
use Rattle.std.specs.Cmp.Lexicographic.{slice_cmp}
use Rattle.std.specs.FinMap as fin
use Rattle.std.specs.FinMap.{IsAntisymmetric, get-entries, get-from_entries, nat_cmp-IsAntisymmetric, slice_cmp-IsAntisymmetric}
use Rattle.std.specs.List.{cons_option, filter_map, list_any}
use Rattle.std.specs.List.Sorted.{IsStrictlySortedBy}
use Rattle.std.specs.Option.{option_cmp}
use Rattle.std.specs.Ordering.{eq_by_cmp, nat_cmp, ordering_then}
use Rattle.std.specs.Prelude.{slice_get}
use Rattle.std.specs.declared.cmp.Ordering.{Ordering}
use Rattle.std.specs.declared.cmp.Ordering.TheVariants.{Less, Equal, Greater}
use Rattle.std.proofs.lemmas.Bool.Decides.{nat_tests}
use Rattle.book_values.specs.Book.{Book as Contents}
use Rattle.cell_addr.specs.Text.{capitals, folded}
use Rattle.cell_addr.specs.declared.place.Place.{Place}
use Rattle.formula_tree.specs.Term.{Term}
use Rattle.formula_tree.specs.declared.link.Link.TheVariants as links
use Rattle.formula_tree.specs.declared.reference.Corner.{Corner}
use Rattle.calc_terms.specs.Needs.{mentions}
use Rattle.dep_graph.proofs.Places.{has_cases, has_first, has_later}
use Rattle.dep_graph.specs.Nodes.{has}
use Rattle.dep_graph.specs.declared.node.Node.{Node}
use Rattle.dep_graph.specs.declared.node.Node.TheVariants as node
use Rattle.shift_core.proofs.CarriedEntries.{eq_by_cmp-decides}
use Rattle.name_table.specs.Words.{AreWords}
use Rattle.book_values.specs.Names.{Key, key_of}
use Rattle.book_values.specs.Workbook as book
use Rattle.book_values.specs.Workbook.{Workbook, tree_at}
use Rattle.book_model.specs.Answers.{by_capitals, name_link, name_needing}
use Rattle.book_model.specs.Names.{NameMap, key_cmp}
use Rattle.kept_book.proofs.FoundNames.{tree_in-entries}
use Rattle.session_operations.proofs.KeptFollowing.{same_tests}
use Rattle.recalc_core.specs.Nodes.{AreNumbered, name_at, node_at, scope_at}
use Rattle.session_operations.proofs.MentionedPlaces.{mentions_holds, mentions_is}
use Rattle.session_operations.specs.Users.{mentions_at}
use Rattle.session_questions.specs.declared.shown_name.ShownName.{ShownName}
use Rattle.session_questions.specs.internal.Links.{is_shown_at, name_shown, shown_link, shown_name}
use Rattle.session_questions.specs.internal.Names.{passes, shown_cmp, shown_cmp-IsTotalOrder}
use Rattle.session_operations.proofs.NamedSlots.{is-key, key-itself}
use Rattle.session_operations.proofs.NamesRead.{small-word}
use Rattle.session_questions.proofs.RaisedKeys.{all_found, entries-raised, find-raised, raised}
use Rattle.session_questions.proofs.SortedKeys.{kept, kept_are}

small : (c : ℕ) → to_ascii_lowercase (to_ascii_uppercase c) ≡ to_ascii_lowercase c
small c = grind (arith, nat_tests)

capital : (c : ℕ) → to_ascii_uppercase (to_ascii_lowercase c) ≡ to_ascii_uppercase c
capital c = grind (arith, nat_tests)

folded-capitals : (w : List ℕ) → folded (capitals w) ≡ folded w
folded-capitals [] = refl
folded-capitals (c ∷ cs) = λ i. small c i ∷ folded-capitals cs i

-- a word in small letters has the same capitals
pub capitals-folded : (w : List ℕ) → capitals (folded w) ≡ capitals w
capitals-folded [] = refl
capitals-folded (c ∷ cs) = λ i. capital c i ∷ capitals-folded cs i

first-equal : (a b : Ordering) → ordering_then a b ≡ Equal → a ≡ Equal
first-equal Less b e = cc
first-equal Equal b e = refl
first-equal Greater b e = cc

second-equal : (a b : Ordering) → ordering_then a b ≡ Equal → b ≡ Equal
second-equal Less b e = cc
second-equal Equal b e = e
second-equal Greater b e = cc

scopes-equal : (a b : Option ℕ) → option_cmp nat_cmp a b ≡ Equal → a ≡ b
scopes-equal None None e = refl
scopes-equal None (Some y) e = cc
scopes-equal (Some x) None e = cc
scopes-equal (Some x) (Some y) e = ap Some (nat_cmp-IsAntisymmetric x y e)

pub shown_cmp-IsAntisymmetric : IsAntisymmetric shown_cmp
shown_cmp-IsAntisymmetric x y e =
    let scope = scopes-equal x.scope y.scope (first-equal _ (slice_cmp nat_cmp x.word y.word) e) in
    let word = slice_cmp-IsAntisymmetric nat_cmp-IsAntisymmetric x.word y.word (second-equal (option_cmp nat_cmp x.scope y.scope) _ e) in
    λ i. record { scope = scope i; word = word i }

-- the key of a name from how it is shown
abbrev pub key_shown : ShownName → Key
key_shown n = key_of n.scope n.word

-- the key of a name has its word in small letters
abbrev pub IsSmall : Key → Type 0
IsSmall k = key_shown (shown_name k) ≡ k

key-small : (scope : Option ℕ) (word : List ℕ) → IsSmall (key_of scope word)
key-small scope word = ap (λ w. record { scope = scope; word = w }) (ap folded (capitals-folded word) ∙ folded-capitals word)

pub keys-decide : (x y : Key) → (eq_by_cmp key_cmp x y ≡ true → x ≡ y) × (x ≡ y → eq_by_cmp key_cmp x y ≡ true)
keys-decide x y = (is-key x y, key-itself x y)

pub shown-decide : (x y : ShownName) → (eq_by_cmp shown_cmp x y ≡ true → x ≡ y) × (x ≡ y → eq_by_cmp shown_cmp x y ≡ true)
shown-decide x y = let d = eq_by_cmp-decides shown_cmp-IsTotalOrder shown_cmp-IsAntisymmetric x y in (d.0, d.1)

module _ (at : Place) (q : ShownName) where
  abbrev needs : Option (Term Corner) → Bool
  needs r = passes (λ t. mentions t at) r

  abbrev written : Bool
  written = eq_by_cmp shown_cmp q (shown_name (key_shown q))

  needs-written : (b : Bool) (r : Option (Term Corner)) → (b && needs r) ≡ needs (cond b r None)
  needs-written true r = refl
  needs-written false r = refl

  -- what stands under a shown name in the order of shown names
  pub shown-get : (m : NameMap) → ((key : Key) (t : Term Corner) → fin.get m key ≡ Some t → IsSmall key)
      → (written && needs (fin.get m (key_shown q))) ≡ needs (fin.get (fin.from_entries {R = shown_cmp} (raised shown_cmp shown_name (fin.entries m))) q)
  shown-get m small =
      needs-written written (fin.get m (key_shown q))
      ∙ ap (λ r. needs (cond written r None)) (get-entries m (key_shown q))
      ∙ ap needs (sym (find-raised key_cmp shown_cmp keys-decide shown-decide shown_name key_shown q (fin.entries m)
      (all_found key_cmp IsSmall (λ k. key-itself k k refl) (fin.entries m) (λ k t h. small k t (get-entries m k ∙ h)))))
      ∙ ap needs (sym (get-from_entries shown_cmp-IsTotalOrder (raised shown_cmp shown_name (fin.entries m)) q))

-- names with formulas that mention a place as links
needing-links : (at : Place) (es : List (Key × Term Corner)) → filter_map (name_needing at) es ≡ map shown_link (kept (λ t. mentions t at) (raised shown_cmp shown_name es))
needing-links at [] = refl
needing-links at (e ∷ es) = go (mentions e.1 at) (needing-links at es)
  where
    go : (b : Bool) → filter_map (name_needing at) es ≡ map shown_link (kept (λ t. mentions t at) (raised shown_cmp shown_name es))
        → cons_option (cond b (Some (shown_link (shown_name e.0))) None) (filter_map (name_needing at) es)
        ≡ map shown_link (cond b (shown_name e.0 ∷ kept (λ t. mentions t at) (raised shown_cmp shown_name es)) (kept (λ t. mentions t at) (raised shown_cmp shown_name es)))
    go true h = ap (λ l. shown_link (shown_name e.0) ∷ l) h
    go false h = h

-- shown names in order that are those of the names whose formulas mention a place
names-listed : (at : Place) (m : NameMap) (ns : List ShownName) → ((key : Key) (t : Term Corner) → fin.get m key ≡ Some t → IsSmall key) → IsStrictlySortedBy shown_cmp ns
    → ((q : ShownName) → list_any (is_at (shown_cmp q)) ns ≡ (written at q && needs at q (fin.get m (key_shown q)))) → map shown_link ns ≡ filter_map (name_needing at) (by_capitals (fin.entries m))
names-listed at m ns small up h =
    sym (needing-links at (by_capitals (fin.entries m))
    ∙ ap (λ l. map shown_link (kept (λ t. mentions t at) l)) (entries-raised shown_cmp-IsTotalOrder shown_name (fin.entries m))
    ∙ ap (map shown_link) (kept_are shown_cmp-IsTotalOrder shown_cmp-IsAntisymmetric (λ t. mentions t at) (fin.from_entries {R = shown_cmp} (raised shown_cmp shown_name (fin.entries m))) ns up
    (λ q. h q ∙ shown-get at q m small)))

-- ---- names among nodes

none-true : (o : Option ShownName) (test : ShownName → Bool) → o ≡ None → passes test o ≡ true → ⊥
none-true o test e h = true≢false (sym h ∙ ap (passes test) e)

any-where : (test : Node → Bool) (nodes : List Node) → list_any test nodes ≡ true → (a : Node) × (has a nodes ≡ true) × (test a ≡ true)
any-where test [] h = absurd (true≢false (sym h))
any-where test (a ∷ nodes) h = ⊎_elim
    (λ (here : test a ≡ true). (a, has_first a nodes, here))
    (λ (later : list_any test nodes ≡ true). let (c, there, is) = any-where test nodes later in (c, has_later c a nodes there, is))
    (or_cases (test a) (list_any test nodes) h)

any-has : (test : Node → Bool) (a : Node) (nodes : List Node) → has a nodes ≡ true → test a ≡ true → list_any test nodes ≡ true
any-has test a [] h is = absurd (true≢false (sym h))
any-has test a (c ∷ nodes) h is = ⊎_elim
    (λ (same : a ≡ c). or_left (test c) (list_any test nodes) (ap test (sym same) ∙ is))
    (λ (later : has a nodes ≡ true). or_right (test c) (list_any test nodes) (any-has test a nodes later is))
    (has_cases a c nodes h)

module _ (m : NameMap) (cells : Contents) (words : List (List ℕ)) (proper : AreWords words) (numbered : AreNumbered words (fin.entries m)) where
  abbrev b : Workbook
  b = record { cells = cells; names = fin.entries m }

  -- the key of a name has its word in small letters
  node-small : (a : Node) (key : Key) → node_at words a ≡ Some (book.name key) → IsSmall key
  node-small (node.Cell p) key at = absurd (apart at)
    where
      apart : Some (book.place p) ≡ Some (book.name key) → ⊥
      apart e = cc
  node-small (node.Range block) key at = absurd (none-some (book.name key) at)
  node-small (node.Whole range) key at = absurd (none-some (book.name key) at)
  node-small (node.Name scope number) key at = by (slice_get words number) refl at
    where
      by : (o : Option (List ℕ)) → slice_get words number ≡ o → name_at scope o ≡ Some (book.name key) → IsSmall key
      by None e h = absurd (none-some (book.name key) h)
      by (Some w) e h =
          let is : record { scope = scope_at scope; word = w } ≡ key = same_name (record { scope = scope_at scope; word = w }) key h in
          subst IsSmall is (ap (λ v. record { scope = scope_at scope; word = v }) (folded-capitals w ∙ small-word words w number proper e))
        where
          same_name : (k l : Key) → Some (book.name k) ≡ Some (book.name l) → k ≡ l
          same_name k l e = cc

  pub all-small : (key : Key) (t : Term Corner) → fin.get m key ≡ Some t → IsSmall key
  all-small key t is = let (a, at) = numbered.all key (ap is_some (tree_in-entries m key ∙ is)) in node-small a key at

  module _ (at : Place) (nodes : List Node) (users : (a : Node) → has a nodes ≡ mentions_at b words at a) (q : ShownName) where
    -- a node that is shown so, and whose formula mentions the place
    forth : (a : Node) → mentions_at b words at a ≡ true → is_shown_at words q a ≡ true → (written at q && needs at q (fin.get m (key_shown q))) ≡ true
    forth a uses shown =
        let (x, t, known, is, h) = mentions_holds b words at a uses in
        by x t known is h (sym (ap (λ o. passes (λ n. eq_by_cmp shown_cmp n q) (name_shown o)) known) ∙ shown)
      where
        by : (x : book.Node) (t : Term Corner) → node_at words a ≡ Some x → tree_at b x ≡ Some t → mentions t at ≡ true → passes (λ n. eq_by_cmp shown_cmp n q) (name_shown (Some x)) ≡ true
            → (written at q && needs at q (fin.get m (key_shown q))) ≡ true
        by (book.place p) t known is h named = absurd (true≢false (sym named))
        by (book.name key) t known is h named =
            let same : shown_name key ≡ q = (shown-decide (shown_name key) q).0 named in
            let low : key_shown q ≡ key = ap key_shown (sym same) ∙ node-small a key known in
            and_from (written at q) (needs at q (fin.get m (key_shown q)))
            ((shown-decide q (shown_name (key_shown q))).1 (sym same ∙ ap shown_name (sym low)))
            (ap (needs at q) (ap (fin.get m) low ∙ sym (tree_in-entries m key) ∙ is) ∙ h)

    back : written at q ≡ true → needs at q (fin.get m (key_shown q)) ≡ true → list_any (is_shown_at words q) nodes ≡ true
    back wrote needed = by (fin.get m (key_shown q)) refl needed
      where
        by : (o : Option (Term Corner)) → fin.get m (key_shown q) ≡ o → needs at q o ≡ true → list_any (is_shown_at words q) nodes ≡ true
        by None is h = absurd (true≢false (sym h))
        by (Some t) is h =
            let tree : tree_at b (book.name (key_shown q)) ≡ Some t = tree_in-entries m (key_shown q) ∙ is in
            let (a, known) = numbered.all (key_shown q) (ap is_some tree) in
            any-has (is_shown_at words q) a nodes (users a ∙ mentions_is b words at a (book.name (key_shown q)) t known tree ∙ h)
            (ap (λ o. passes (λ n. eq_by_cmp shown_cmp n q) (name_shown o)) known
            ∙ (shown-decide (shown_name (key_shown q)) q).1 (sym ((shown-decide q (shown_name (key_shown q))).0 wrote)))

    -- a name is shown so among the nodes that use the place exactly where the formula of its key mentions it
    shown-mentions : list_any (is_shown_at words q) nodes ≡ (written at q && needs at q (fin.get m (key_shown q)))
    shown-mentions = same_tests (list_any (is_shown_at words q) nodes) (written at q && needs at q (fin.get m (key_shown q)))
        (λ h. let (a, there, shown) = any-where (is_shown_at words q) nodes h in forth a (sym (users a) ∙ there) shown)
        (λ h. let (wrote, needed) = and_parts (written at q) (needs at q (fin.get m (key_shown q))) h in back wrote needed)

  -- shown names in order that are those among the nodes that use a place
  pub among-listed : (at : Place) (nodes : List Node) (ns : List ShownName) → ((a : Node) → has a nodes ≡ mentions_at b words at a) → IsStrictlySortedBy shown_cmp ns
      → ((q : ShownName) → list_any (is_at (shown_cmp q)) ns ≡ list_any (is_shown_at words q) nodes) → map shown_link ns ≡ filter_map (name_needing at) (by_capitals (fin.entries m))
  among-listed at nodes ns users up h = names-listed at m ns all-small up (λ q. h q ∙ shown-mentions at nodes users q)

-- a name that a word finds as a link, and one that it doesn't find
pub found-link : (scope : Option ℕ) (word : List ℕ) (found : Option Key) → Some (key_of scope word) ≡ found → Some (links.Name scope (capitals word)) ≡ option_map name_link found
found-link scope word found e = ap (λ w. Some (links.Name scope w)) (sym (capitals-folded word)) ∙ ap (option_map name_link) e
