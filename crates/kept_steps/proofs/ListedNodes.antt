-- The nodes of all cells and all names. Serves the list of them.
use Rattle.std.proofs.Common.{◌≡◌, ◌∙◌, sym, ap, subst, refl, ℕ, Bool, true, false, cond, ◌==◌, ◌||◌, ◌<◌, ◌++◌, List, [], ◌∷◌, length, map, Option, Some, None, is_some, option_map, eqb-true, ⊎_elim}
use Rattle.std.proofs.lemmas.Bool.{and_parts, false≢true, or_cases, or_left, or_right}
use Rattle.std.proofs.lemmas.List.Folds.{list_any-append}
use Rattle.std.proofs.lemmas.Option.{none-some, same_Some}
use Rattle.std.specs.FinMap as fin
use Rattle.std.specs.FinMap.{find, get-entries, get-from_entries}
use Rattle.std.specs.List.{AllByRecursion}
use Rattle.std.specs.Ordering.{eq_by_cmp}
use Rattle.std.specs.Prelude.{slice_get, unwrap_or}
use Rattle.cell_addr.proofs.Places.{place_cmp-IsTotalOrder}
use Rattle.cell_addr.specs.Order.{place_cmp}
use Rattle.cell_addr.specs.declared.place.Place.{Place}
use Rattle.cell_addr.specs.declared.place.TheConstants.{NO_SHEET}
use Rattle.grid_store.specs.declared.cell.Cell.{Cell}
use Rattle.name_table.proofs.KeyOrder as order
use Rattle.name_table.specs.Scopes as table
use Rattle.name_table.specs.Words.{AreWords}
use Rattle.name_table.specs.declared.key.NameKey.{NameKey}
use Rattle.shift_core.specs.Maps.{PlaceMap}
use Rattle.book_model.proofs.Contents.{is_at}
use Rattle.book_values.specs.Workbook as book
use Rattle.book_values.specs.Workbook.{Workbook}
use Rattle.dep_graph.specs.Nodes.{has, same_node}
use Rattle.dep_graph.specs.declared.node.Node.{Node}
use Rattle.dep_graph.specs.declared.node.Node.TheVariants as node
use Rattle.dep_graph.specs.internal.Hashed.{own_node}
use Rattle.kept_book.proofs.Contents.{get-contents}
use Rattle.kept_book.proofs.NamesSeen.{is_id_key}
use Rattle.kept_book.proofs.Staying.{word-there}
use Rattle.kept_book.specs.Frame.{At, IsNamed, Words, named_at, names_seen, numbered_at}
use Rattle.kept_book.specs.Stored.{content_of, contents_of}
use Rattle.recalc_core.specs.Kept.{stands}
use Rattle.recalc_core.specs.Laws.{AreKnown}
use Rattle.recalc_core.specs.Nodes.{name_at, node_at, scope_at}
use Rattle.kept_steps.specs.internal.GivenCell.{cell_node, name_node}
use Rattle.kept_steps.proofs.Entries.{each_entry}
use Rattle.kept_steps.proofs.GivenNodes.{tree-known}

some-mapped : {X Y : Type 0} (f : X → Y) (o : Option X) → is_some (option_map f o) ≡ is_some o
some-mapped f None = refl
some-mapped f (Some x) = refl

-- a place that has an entry is listed
cell-listed : (p : Place) (es : List (Place × Cell)) → is_some (find place_cmp p es) ≡ true → has (node.Cell p) (map cell_node es) ≡ true
cell-listed p [] some = absurd (false≢true some)
cell-listed p (e ∷ es) some = go (eq_by_cmp place_cmp p e.0) refl some (cell-listed p es)
  where
    go : (b : Bool) → eq_by_cmp place_cmp p e.0 ≡ b → is_some (cond b (Some e.1) (find place_cmp p es)) ≡ true
        → (is_some (find place_cmp p es) ≡ true → has (node.Cell p) (map cell_node es) ≡ true) → has (node.Cell p) (map cell_node (e ∷ es)) ≡ true
    go true is s later = or_left (same_node (node.Cell p) (cell_node e)) (has (node.Cell p) (map cell_node es)) (ap (λ q. same_node (node.Cell p) (node.Cell q)) (is_at e.0 p is) ∙ own_node (node.Cell p))
    go false is s later = or_right (same_node (node.Cell p) (cell_node e)) (has (node.Cell p) (map cell_node es)) (later s)

abbrev pub name_nodes : List (NameKey × ℕ) → List Node
name_nodes es = map (λ e. name_node e.0) es

-- so is a name
name-listed : (key : NameKey) (es : List (NameKey × ℕ)) → is_some (find table.key_cmp key es) ≡ true → has (name_node key) (name_nodes es) ≡ true
name-listed key [] some = absurd (false≢true some)
name-listed key (e ∷ es) some = go (eq_by_cmp table.key_cmp key e.0) refl some (name-listed key es)
  where
    go : (b : Bool) → eq_by_cmp table.key_cmp key e.0 ≡ b → is_some (cond b (Some e.1) (find table.key_cmp key es)) ≡ true
        → (is_some (find table.key_cmp key es) ≡ true → has (name_node key) (name_nodes es) ≡ true) → has (name_node key) (name_nodes (e ∷ es)) ≡ true
    go true is s later = or_left (same_node (name_node key) (name_node e.0)) (has (name_node key) (name_nodes es)) (ap (λ q. same_node (name_node key) (name_node q)) (sym (is_id_key key e.0 is)) ∙ own_node (name_node key))
    go false is s later = or_right (same_node (name_node key) (name_node e.0)) (has (name_node key) (name_nodes es)) (later s)

-- no cell is a name or a range, and no name is a range
no-cell-name : (s n : ℕ) (es : List (Place × Cell)) → has (node.Name s n) (map cell_node es) ≡ false
no-cell-name s n [] = refl
no-cell-name s n (e ∷ es) = no-cell-name s n es

-- the number of a scope is the number again
number-back : (s : ℕ) → unwrap_or (scope_at s) NO_SHEET ≡ s
number-back s = go (s == NO_SHEET) refl
  where
    go : (b : Bool) → (s == NO_SHEET) ≡ b → unwrap_or (cond b None (Some s)) NO_SHEET ≡ s
    go true is = sym (eqb-true s NO_SHEET is)
    go false is = refl

-- a name that is listed has a word that is known
listed-known : (words : Words) (s n : ℕ) (es : List (NameKey × ℕ)) → AllByRecursion (λ (e : NameKey × ℕ). e.0.word < length words) es → has (node.Name s n) (name_nodes es) ≡ true → n < length words
listed-known words s n [] all h = absurd (false≢true h)
listed-known words s n (e ∷ es) all h = ⊎_elim
    (λ (here : same_node (node.Name s n) (name_node e.0) ≡ true).
    subst (λ m. m < length words) (sym (eqb-true n e.0.word (and_parts (s == unwrap_or e.0.scope NO_SHEET) (n == e.0.word) here).1)) all.0)
    (λ (later : has (node.Name s n) (name_nodes es) ≡ true). listed-known words s n es all.1 later)
    (or_cases (same_node (node.Name s n) (name_node e.0)) (has (node.Name s n) (name_nodes es)) h)

no-range : (b : _) (es : List (Place × Cell)) (ks : List (NameKey × ℕ)) → has (node.Range b) (map cell_node es ++ name_nodes ks) ≡ false
no-range b [] [] = refl
no-range b [] (k ∷ ks) = no-range b [] ks
no-range b (e ∷ es) ks = no-range b es ks

no-whole : (w : _) (es : List (Place × Cell)) (ks : List (NameKey × ℕ)) → has (node.Whole w) (map cell_node es ++ name_nodes ks) ≡ false
no-whole w [] [] = refl
no-whole w [] (k ∷ ks) = no-whole w [] ks
no-whole w (e ∷ es) ks = no-whole w es ks

module _ (at : At) (k : ℕ) (words : Words) (h : AreWords words) (names : table.NameMap) (stand : (key : NameKey) (id : ℕ) → fin.get names key ≡ Some id → IsNamed at words k key id) (b : Workbook)
    (shown : b.names ≡ fin.entries (names_seen words (named_at at k) names)) (cells : PlaceMap Cell) (contents : b.cells ≡ contents_of (numbered_at at k) cells) (es : List (Place × Cell)) (all : fin.from_entries es ≡ cells) where
  place-there : (p : Place) → stands b (book.place p) ≡ true → has (node.Cell p) (map cell_node es) ≡ true
  place-there p there = cell-listed p es
      (ap is_some (sym (ap (λ m. fin.get m p) (sym all) ∙ get-from_entries place_cmp-IsTotalOrder es p))
      ∙ sym (some-mapped (content_of (numbered_at at k)) (fin.get cells p))
      ∙ ap is_some (sym (ap (λ m. fin.get m p) contents ∙ get-contents (numbered_at at k) cells p)) ∙ there)

  name-there : (s n : ℕ) (w : List ℕ) → slice_get words n ≡ Some w → stands b (book.name (record { scope = scope_at s; word = w })) ≡ true → has (node.Name s n) (name_nodes (fin.entries names)) ≡ true
  name-there s n w spelt there =
      ap (λ m. has (node.Name m n) (name_nodes (fin.entries names))) (sym (number-back s))
      ∙ name-listed (table.key_of (scope_at s) n) (fin.entries names)
      (ap is_some (sym (get-entries names (table.key_of (scope_at s) n)))
      ∙ sym (some-mapped (named_at at k) (fin.get names (table.key_of (scope_at s) n)))
      ∙ ap is_some (sym (tree-known at k words h names stand b shown (scope_at s) n w spelt)) ∙ there)

  -- each node that stands is listed
  pub all-listed : (a : Node) (x : book.Node) → node_at words a ≡ Some x → stands b x ≡ true → has a (map cell_node es ++ name_nodes (fin.entries names)) ≡ true
  all-listed (node.Cell p) x is there =
      list_any-append (same_node (node.Cell p)) (map cell_node es) (name_nodes (fin.entries names))
      ∙ or_left (has (node.Cell p) (map cell_node es)) (has (node.Cell p) (name_nodes (fin.entries names))) (place-there p (subst (λ y. stands b y ≡ true) (sym (same_Some (book.place p) x is)) there))
  all-listed (node.Name s n) x is there =
      list_any-append (same_node (node.Name s n)) (map cell_node es) (name_nodes (fin.entries names))
      ∙ or_right (has (node.Name s n) (map cell_node es)) (has (node.Name s n) (name_nodes (fin.entries names))) (go (slice_get words n) refl is)
    where
      go : (r : Option (List ℕ)) → slice_get words n ≡ r → name_at s r ≡ Some x → has (node.Name s n) (name_nodes (fin.entries names)) ≡ true
      go None spelt e = absurd (none-some x e)
      go (Some w) spelt e = name-there s n w spelt (subst (λ y. stands b y ≡ true) (sym (same_Some (book.name (record { scope = scope_at s; word = w })) x e)) there)
  all-listed (node.Range c) x is there = absurd (none-some x is)
  all-listed (node.Whole c) x is there = absurd (none-some x is)

  -- and each that is listed is known
  pub listed-nodes : AreKnown words (map cell_node es ++ name_nodes (fin.entries names))
  listed-nodes (node.Cell p) h2 = (book.place p, refl)
  listed-nodes (node.Name s n) h2 =
      let in_names : has (node.Name s n) (name_nodes (fin.entries names)) ≡ true =
      sym (list_any-append (same_node (node.Name s n)) (map cell_node es) (name_nodes (fin.entries names)) ∙ ap (λ c. c || has (node.Name s n) (name_nodes (fin.entries names))) (no-cell-name s n es)) ∙ h2 in
      let known = listed-known words s n (fin.entries names) (each_entry order.key_cmp-IsTotalOrder (λ (e : NameKey × ℕ). e.0.word < length words) names (λ key id e. (stand key id e).known)) in_names in
      let w = word-there words n known in
      (book.name (record { scope = scope_at s; word = w.0 }), ap (name_at s) w.1)
  listed-nodes (node.Range c) h2 = absurd (false≢true (sym (no-range c es (fin.entries names)) ∙ h2))
  listed-nodes (node.Whole c) h2 = absurd (false≢true (sym (no-whole c es (fin.entries names)) ∙ h2))
