-- Nodes that do as before after one cell or one name was changed. Serves the laws.
use Rattle.std.proofs.Common.{◌≡◌, ◌∙◌, sym, ap, ap₂, refl, subst, ℕ, ℤ, Bool, true, false, cond, ◌||◌, List, [], ◌∷◌, Option, Some, None, is_some, option_and_then, option_map, ⊎_elim}
use Rattle.std.specs.Prelude.{IsTrue, bytes_eq}
use Rattle.std.specs.FinMap as map
use Rattle.std.specs.List.{list_any}
use Rattle.std.specs.Cmp.Lexicographic.{bytes_decides}
use Rattle.std.proofs.lemmas.Bool.{false≢true, false_from_ne_true, or_cases, or_left, or_parts}
use Rattle.cell_addr.proofs.SamePlaces.{same_place-self}
use Rattle.cell_addr.specs.Text.{folded}
use Rattle.cell_addr.specs.declared.place.Place.{Place}
use Rattle.cell_value.specs.declared.scalar.Scalar.{Scalar}
use Rattle.custom_fn.specs.declared.rule.Rule.{Rule}
use Rattle.formula_tree.specs.Links.{names_in}
use Rattle.formula_tree.specs.Reference.{sheet_of}
use Rattle.formula_tree.specs.Term.{Term}
use Rattle.formula_tree.specs.declared.reference.Corner.{Corner}
use Rattle.calc_terms.proofs.Reading.{reads_needs}
use Rattle.calc_terms.specs.Laws.{NameAlike}
use Rattle.calc_terms.specs.Meaning.{meaning}
use Rattle.calc_terms.specs.World.{Named, World}
use Rattle.book_values.specs.Book.{Content}
use Rattle.book_values.specs.Book as content
use Rattle.book_values.specs.Names.{Key, found, is_found, key_of, tree_in}
use Rattle.book_values.specs.Values.{content_value, name_value, named_as, world_of}
use Rattle.book_values.specs.Workbook as book
use Rattle.book_values.specs.Workbook.{Workbook, content_tree, home_of, mentions_node, tree_at, tree_needs}
use Rattle.dep_graph.specs.Nodes.{has, same_node}
use Rattle.dep_graph.specs.declared.node.Node.{Node}
use Rattle.dep_graph.specs.declared.node.Node.TheVariants.{Cell, Name, Range, Whole}
use Rattle.recalc_core.specs.Edits.{CellChangesAlone, DifferInCell, DifferInName, HaveUsers, NameChangesItsUsers}
use Rattle.recalc_core.specs.Laws.{DoesAlike}
use Rattle.recalc_core.specs.Nodes.{node_at}
use Rattle.recalc_core.proofs.Bridge.{name_only, none_some, same_some}

-- ---- one cell

place_same : (p q : Place) → book.place p ≡ book.place q → p ≡ q
place_same p q e = cc

-- the node of a place is its cell
cell_of : (words : List (List ℕ)) (a : Node) (p : Place) → node_at words a ≡ Some (book.place p) → has a (Cell p ∷ []) ≡ true
cell_of words (Cell q) p at = or_left (same_node (Cell q) (Cell p)) false (subst (λ r. same_node (Cell q) (Cell r) ≡ true) (place_same q p (same_some (book.place q) (book.place p) at)) (same_place-self q))
cell_of words (Name scope word) p at = absurd (apart (name_only scope _ (book.place p) at))
  where
    apart : (key : Key) × (book.place p ≡ book.name key) → ⊥
    apart (key, e) = cc
cell_of words (Range block) p at = absurd (none_some (book.place p) at)
cell_of words (Whole w) p at = absurd (none_some (book.place p) at)

module _ (b c : Workbook) (p : Place) (differ : DifferInCell b c p) where
  other_place : (q : Place) → ¬ (q ≡ p) → DoesAlike b c (book.place q)
  other_place q apart = record {
    stands = ap is_some (differ.cells q apart);
    needs = λ y i. tree_needs (differ.names i) (sheet_of (home_of (book.place q))) (content_tree (differ.cells q apart i)) y;
    works = λ customs today shown i. content_value (world_of (differ.names i) today shown) customs (home_of (book.place q)) (differ.cells q apart i);
  }

  each_name : (key : Key) → DoesAlike b c (book.name key)
  each_name key = record {
    stands = λ i. is_some (tree_in (differ.names i) key);
    needs = λ y i. tree_needs (differ.names i) (sheet_of (home_of (book.name key))) (tree_in (differ.names i) key) y;
    works = λ customs today shown i. name_value (world_of (differ.names i) today shown) customs (home_of (book.name key)) (tree_in (differ.names i) key);
  }

pub cell_changes_alone : CellChangesAlone
cell_changes_alone b c words p differ a (book.place q) at out = other_place b c p differ q (λ same. out (cell_of words a p (at ∙ ap (λ r. Some (book.place r)) same)))
cell_changes_alone b c words p differ a (book.name key) at out = each_name b c p differ key

-- ---- one name

module _ (b c : Workbook) (key : Key) (differ : DifferInName b c key) where
  abbrev is_word : List ℕ → Bool
  is_word w = bytes_eq (folded w) key.word

  other_key : (scope : Option ℕ) (w : List ℕ) → is_word w ≡ false → ¬ (key_of scope w ≡ key)
  other_key scope w h same = false≢true (sym h ∙ (bytes_decides (folded w) key.word).1 (ap (λ (k : Key). k.word) same))

  -- any other word finds the same
  finds_same : (w : List ℕ) (sheet : ℕ) → is_word w ≡ false → found b.names w sheet ≡ found c.names w sheet
  finds_same w sheet h = λ i. cond (is_some (differ.trees (key_of (Some sheet) w) (other_key (Some sheet) w h) i)) (Some (key_of (Some sheet) w))
      (cond (is_some (differ.trees (key_of None w) (other_key None w h) i)) (Some (key_of None w)) None)

  -- and what it finds has the same tree
  named_same : (shown : book.Node → Scalar) (w : List ℕ) (sheet : ℕ) → is_word w ≡ false → option_and_then (named_as b.names shown) (found b.names w sheet) ≡ option_and_then (named_as c.names shown) (found c.names w sheet)
  named_same shown w sheet h = ap (option_and_then (named_as b.names shown)) (finds_same w sheet h) ∙ trees_same (is_some (tree_in c.names (key_of (Some sheet) w))) (is_some (tree_in c.names (key_of None w))) refl refl
    where
      of_key : (scope : Option ℕ) → named_as b.names shown (key_of scope w) ≡ named_as c.names shown (key_of scope w)
      of_key scope = ap (option_map (λ t. record { value = shown (book.name (key_of scope w)); tree = t })) (differ.trees (key_of scope w) (other_key scope w h))

      trees_same : (m n : Bool) → is_some (tree_in c.names (key_of (Some sheet) w)) ≡ m → is_some (tree_in c.names (key_of None w)) ≡ n
          → option_and_then (named_as b.names shown) (found c.names w sheet) ≡ option_and_then (named_as c.names shown) (found c.names w sheet)
      trees_same true n e f =
          ap (option_and_then (named_as b.names shown)) (own e) ∙ of_key (Some sheet) ∙ sym (ap (option_and_then (named_as c.names shown)) (own e))
        where
          own : is_some (tree_in c.names (key_of (Some sheet) w)) ≡ true → found c.names w sheet ≡ Some (key_of (Some sheet) w)
          own e = ap (λ t. cond t (Some (key_of (Some sheet) w)) (cond (is_some (tree_in c.names (key_of None w))) (Some (key_of None w)) None)) e
      trees_same false true e f =
          ap (option_and_then (named_as b.names shown)) (whole e f) ∙ of_key None ∙ sym (ap (option_and_then (named_as c.names shown)) (whole e f))
        where
          whole : is_some (tree_in c.names (key_of (Some sheet) w)) ≡ false → is_some (tree_in c.names (key_of None w)) ≡ true → found c.names w sheet ≡ Some (key_of None w)
          whole e f = ap₂ (λ t u. cond t (Some (key_of (Some sheet) w)) (cond u (Some (key_of None w)) None)) e f
      trees_same false false e f =
          ap (option_and_then (named_as b.names shown)) (nothing e f) ∙ sym (ap (option_and_then (named_as c.names shown)) (nothing e f))
        where
          nothing : is_some (tree_in c.names (key_of (Some sheet) w)) ≡ false → is_some (tree_in c.names (key_of None w)) ≡ false → found c.names w sheet ≡ None
          nothing e f = ap₂ (λ t u. cond t (Some (key_of (Some sheet) w)) (cond u (Some (key_of None w)) None)) e f

  -- a tree that doesn't use the word
  any_same : (sheet : ℕ) (k : Key) (ws : List (List ℕ)) → list_any is_word ws ≡ false → list_any (λ w. is_found (found b.names w sheet) k) ws ≡ list_any (λ w. is_found (found c.names w sheet) k) ws
  any_same sheet k [] h = refl
  any_same sheet k (w ∷ ws) h =
      let (here, later) = or_parts (is_word w) (list_any is_word ws) h in
      ap₂ (λ s t. s || t) (ap (λ o. is_found o k) (finds_same w sheet here)) (any_same sheet k ws later)

  mentions_same : (sheet : ℕ) (t : Term Corner) (y : book.Node) → list_any is_word (names_in t) ≡ false → mentions_node b.names sheet t y ≡ mentions_node c.names sheet t y
  mentions_same sheet t (book.place p) h = refl
  mentions_same sheet t (book.name k) h = any_same sheet k (names_in t) h

  word_apart : (w : List ℕ) (ws : List (List ℕ)) → list_any (bytes_eq w) ws ≡ true → list_any is_word ws ≡ false → is_word w ≡ false
  word_apart w [] has_it h = absurd (false≢true has_it)
  word_apart w (v ∷ ws) has_it h =
      let (here, later) = or_parts (is_word v) (list_any is_word ws) h in
      ⊎_elim
      (λ (same : bytes_eq w v ≡ true). ap is_word ((bytes_decides w v).0 same) ∙ here)
      (λ (rest : list_any (bytes_eq w) ws ≡ true). word_apart w ws rest later)
      (or_cases (bytes_eq w v) (list_any (bytes_eq w) ws) has_it)

  alike_itself : (v w : World) (m : Option Named) → v.shown ≡ w.shown → NameAlike v w m m
  alike_itself v w None same = tt
  alike_itself v w (Some m) same = (refl, refl, λ p h. ap (λ f. f p) same)

  means_same : (customs : List (List ℕ × Rule)) (today : ℤ) (shown : book.Node → Scalar) (x : book.Node) (t : Term Corner) → list_any is_word (names_in t) ≡ false
      → meaning (world_of b.names today shown) customs (home_of x) t ≡ meaning (world_of c.names today shown) customs (home_of x) t
  means_same customs today shown x t h = reads_needs (world_of b.names today shown) (world_of c.names today shown) customs (home_of x) t (record {
    today = refl;
    shown = λ p m. refl;
    named = λ w m. subst (NameAlike (world_of b.names today shown) (world_of c.names today shown) ((world_of b.names today shown).named w (sheet_of (home_of x))))
        (named_same shown w (sheet_of (home_of x)) (word_apart w (names_in t) m h))
        (alike_itself (world_of b.names today shown) (world_of c.names today shown) ((world_of b.names today shown).named w (sheet_of (home_of x))) refl);
  })

  -- a node whose tree stays and doesn't use the word
  needs_same : (x : book.Node) (o : Option (Term Corner)) → ((t : Term Corner) → o ≡ Some t → list_any is_word (names_in t) ≡ false) → (y : book.Node)
      → tree_needs b.names (sheet_of (home_of x)) o y ≡ tree_needs c.names (sheet_of (home_of x)) o y
  needs_same x None unused y = refl
  needs_same x (Some t) unused y = mentions_same (sheet_of (home_of x)) t y (unused t refl)

  content_same : (customs : List (List ℕ × Rule)) (today : ℤ) (shown : book.Node → Scalar) (p : Place) (o : Option Content) → ((t : Term Corner) → content_tree o ≡ Some t → list_any is_word (names_in t) ≡ false)
      → content_value (world_of b.names today shown) customs (home_of (book.place p)) o ≡ content_value (world_of c.names today shown) customs (home_of (book.place p)) o
  content_same customs today shown p None unused = refl
  content_same customs today shown p (Some (content.number m)) unused = refl
  content_same customs today shown p (Some (content.truth m)) unused = refl
  content_same customs today shown p (Some (content.text m)) unused = refl
  content_same customs today shown p (Some (content.unreadable m)) unused = refl
  content_same customs today shown p (Some (content.formula t)) unused = means_same customs today shown (book.place p) t (unused t refl)

  name_same : (customs : List (List ℕ × Rule)) (today : ℤ) (shown : book.Node → Scalar) (k : Key) (o : Option (Term Corner)) → ((t : Term Corner) → o ≡ Some t → list_any is_word (names_in t) ≡ false)
      → name_value (world_of b.names today shown) customs (home_of (book.name k)) o ≡ name_value (world_of c.names today shown) customs (home_of (book.name k)) o
  name_same customs today shown k None unused = refl
  name_same customs today shown k (Some t) unused = means_same customs today shown (book.name k) t (unused t refl)

  place_alike : (p : Place) → ((t : Term Corner) → tree_at b (book.place p) ≡ Some t → list_any is_word (names_in t) ≡ false) → DoesAlike b c (book.place p)
  place_alike p unused = record {
    stands = λ i. is_some (map.get (differ.cells i) p);
    needs = λ y. needs_same (book.place p) (tree_at b (book.place p)) unused y ∙ (λ i. tree_needs c.names (sheet_of (home_of (book.place p))) (content_tree (map.get (differ.cells i) p)) y);
    works = λ customs today shown. content_same customs today shown p (map.get b.cells p) unused
        ∙ (λ i. content_value (world_of c.names today shown) customs (home_of (book.place p)) (map.get (differ.cells i) p));
  }

  name_alike : (k : Key) → ¬ (k ≡ key) → ((t : Term Corner) → tree_at b (book.name k) ≡ Some t → list_any is_word (names_in t) ≡ false) → DoesAlike b c (book.name k)
  name_alike k apart unused = record {
    stands = ap is_some (differ.trees k apart);
    needs = λ y. needs_same (book.name k) (tree_at b (book.name k)) unused y ∙ (λ i. tree_needs c.names (sheet_of (home_of (book.name k))) (differ.trees k apart i) y);
    works = λ customs today shown. name_same customs today shown k (tree_in b.names k) unused ∙ (λ i. name_value (world_of c.names today shown) customs (home_of (book.name k)) (differ.trees k apart i));
  }

  module _ (words : List (List ℕ)) (changed : List Node) (have : HaveUsers b words key changed) where
    unused_at : (a : Node) (x : book.Node) → node_at words a ≡ Some x → ¬ IsTrue (has a changed) → (t : Term Corner) → tree_at b x ≡ Some t → list_any is_word (names_in t) ≡ false
    unused_at a x at out t is = false_from_ne_true (list_any is_word (names_in t)) (λ h. out (have.users a x t at is h))

    pub all_alike : (a : Node) (x : book.Node) → node_at words a ≡ Some x → ¬ IsTrue (has a changed) → DoesAlike b c x
    all_alike a (book.place p) at out = place_alike p (unused_at a (book.place p) at out)
    all_alike a (book.name k) at out = name_alike k (λ same. out (have.itself a (at ∙ ap (λ l. Some (book.name l)) same))) (unused_at a (book.name k) at out)

pub name_changes_its_users : NameChangesItsUsers
name_changes_its_users b c words key changed differ have = all_alike b c key differ words changed have
