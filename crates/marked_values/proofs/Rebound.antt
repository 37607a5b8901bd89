-- What a change of one name leaves alone, or to its needs, by what the name's word finds. Serves the laws.
use Rattle.std.proofs.Common.{◌≡◌, ◌∙◌, sym, ap, ap₂, refl, subst, ℕ, ℤ, true, false, cond, ◌&&◌, ◌||◌, List, [], ◌∷◌, Option, Some, None, is_some, option_and_then, option_map, ⊎_elim}
use Rattle.std.specs.Prelude.{IsTrue, bytes_eq}
use Rattle.std.specs.FinMap as map
use Rattle.std.specs.List.{list_any}
use Rattle.std.specs.Cmp.Lexicographic.{bytes_decides}
use Rattle.std.proofs.lemmas.Bool.{cases_Bool, false≢true, or_left, or_right}
use Rattle.cell_addr.specs.Text.{folded}
use Rattle.cell_value.specs.declared.scalar.Scalar.{Scalar}
use Rattle.custom_fn.specs.declared.rule.Rule.{Rule}
use Rattle.formula_tree.specs.Links.{names_in}
use Rattle.formula_tree.specs.Reference.{sheet_of}
use Rattle.formula_tree.specs.Term.{Term}
use Rattle.formula_tree.specs.declared.reference.Corner.{Corner}
use Rattle.calc_terms.proofs.Reading.{reads_needs}
use Rattle.calc_terms.specs.Laws.{NameAlike}
use Rattle.calc_terms.specs.Meaning.{meaning}
use Rattle.calc_terms.specs.Needs.{mentions_name}
use Rattle.calc_terms.specs.World.{Named, World}
use Rattle.book_values.specs.Book.{Content}
use Rattle.book_values.specs.Book as content
use Rattle.book_values.proofs.Keys.{same_key-self, word_passes}
use Rattle.book_values.specs.Names.{Key, found, is_found, key_of, tree_in}
use Rattle.book_values.specs.Values.{content_value, name_value, named_as, worked_out, world_of}
use Rattle.book_values.specs.Workbook as book
use Rattle.book_values.specs.Workbook.{Workbook, content_tree, home_of, mentions_node, tree_at, tree_needs}
use Rattle.dep_graph.specs.Nodes.{has}
use Rattle.dep_graph.specs.declared.node.Node.{Node}
use Rattle.recalc_core.specs.Edits.{DifferInName, UsesWord}
use Rattle.recalc_core.specs.Kept.{stands}
use Rattle.recalc_core.specs.Nodes.{node_at}
use Rattle.recalc_core.proofs.Bridge.{found_stands}
use Rattle.marked_values.specs.Rebound.{HaveRebound, NameLeavesToNeeds, NeedsOthers, ReboundLeavesAlone, same_found}
use Rattle.marked_values.proofs.Finding.{found_small, same_found-equal}

-- ---- a formula whose words find the same

module _ (b c : Workbook) (x : book.Node) where
  abbrev sheet : ℕ
  sheet = sheet_of (home_of x)

  -- each name of a tree finds the same
  abbrev FindsAlike : Term Corner → Type 0
  FindsAlike t = (w : List ℕ) → mentions_name t w ≡ true → found b.names w sheet ≡ found c.names w sheet

  -- and what it finds has the same tree
  abbrev HasTreesAlike : Term Corner → Type 0
  HasTreesAlike t = (w : List ℕ) (k : Key) → mentions_name t w ≡ true → found b.names w sheet ≡ Some k → tree_in b.names k ≡ tree_in c.names k

  any_same : (k : Key) (ws : List (List ℕ)) → ((w : List ℕ) → list_any (bytes_eq w) ws ≡ true → found b.names w sheet ≡ found c.names w sheet)
      → list_any (λ w. is_found (found b.names w sheet) k) ws ≡ list_any (λ w. is_found (found c.names w sheet) k) ws
  any_same k [] alike = refl
  any_same k (w ∷ ws) alike =
      ap₂ (λ s t. s || t)
      (ap (λ o. is_found o k) (alike w (or_left (bytes_eq w w) (list_any (bytes_eq w) ws) ((bytes_decides w w).1 refl))))
      (any_same k ws (λ v m. alike v (or_right (bytes_eq v w) (list_any (bytes_eq v) ws) m)))

  mentions_alike : (t : Term Corner) → FindsAlike t → (y : book.Node) → mentions_node b.names sheet t y ≡ mentions_node c.names sheet t y
  mentions_alike t alike (book.place p) = refl
  mentions_alike t alike (book.name k) = any_same k (names_in t) alike

  needs_alike : (o : Option (Term Corner)) → ((t : Term Corner) → o ≡ Some t → FindsAlike t) → (y : book.Node) → tree_needs b.names sheet o y ≡ tree_needs c.names sheet o y
  needs_alike None alike y = refl
  needs_alike (Some t) alike y = mentions_alike t (alike t refl) y

  named_alike : (shown : book.Node → Scalar) (t : Term Corner) → FindsAlike t → HasTreesAlike t → (w : List ℕ) → mentions_name t w ≡ true
      → option_and_then (named_as b.names shown) (found b.names w sheet) ≡ option_and_then (named_as c.names shown) (found c.names w sheet)
  named_alike shown t alike trees w m = by (found b.names w sheet) (λ k e. trees w k m e) ∙ ap (option_and_then (named_as c.names shown)) (alike w m)
    where
      by : (o : Option Key) → ((k : Key) → o ≡ Some k → tree_in b.names k ≡ tree_in c.names k) → option_and_then (named_as b.names shown) o ≡ option_and_then (named_as c.names shown) o
      by None same = refl
      by (Some k) same = ap (option_map (λ t. record { value = shown (book.name k); tree = t })) (same k refl)

  alike_itself : (v w : World) (m : Option Named) → v.shown ≡ w.shown → NameAlike v w m m
  alike_itself v w None same = tt
  alike_itself v w (Some m) same = (refl, refl, λ p h. ap (λ f. f p) same)

  module _ (customs : List (List ℕ × Rule)) (today : ℤ) (shown : book.Node → Scalar) where
    means_alike : (t : Term Corner) → FindsAlike t → HasTreesAlike t → meaning (world_of b.names today shown) customs (home_of x) t ≡ meaning (world_of c.names today shown) customs (home_of x) t
    means_alike t alike trees = reads_needs (world_of b.names today shown) (world_of c.names today shown) customs (home_of x) t (record {
      today = refl;
      shown = λ p m. refl;
      named = λ w m. subst (NameAlike (world_of b.names today shown) (world_of c.names today shown) ((world_of b.names today shown).named w (sheet_of (home_of x))))
          (named_alike shown t alike trees w m)
          (alike_itself (world_of b.names today shown) (world_of c.names today shown) ((world_of b.names today shown).named w (sheet_of (home_of x))) refl);
    })

    content_alike : (o : Option Content) → ((t : Term Corner) → content_tree o ≡ Some t → FindsAlike t) → ((t : Term Corner) → content_tree o ≡ Some t → HasTreesAlike t)
        → content_value (world_of b.names today shown) customs (home_of x) o ≡ content_value (world_of c.names today shown) customs (home_of x) o
    content_alike None alike trees = refl
    content_alike (Some (content.number m)) alike trees = refl
    content_alike (Some (content.truth m)) alike trees = refl
    content_alike (Some (content.text m)) alike trees = refl
    content_alike (Some (content.unreadable m)) alike trees = refl
    content_alike (Some (content.formula t)) alike trees = means_alike t (alike t refl) (trees t refl)

    tree_alike : (o : Option (Term Corner)) → ((t : Term Corner) → o ≡ Some t → FindsAlike t) → ((t : Term Corner) → o ≡ Some t → HasTreesAlike t)
        → name_value (world_of b.names today shown) customs (home_of x) o ≡ name_value (world_of c.names today shown) customs (home_of x) o
    tree_alike None alike trees = refl
    tree_alike (Some t) alike trees = means_alike t (alike t refl) (trees t refl)

-- ---- one name

module _ (b c : Workbook) (key : Key) (differ : DifferInName b c key) where
  -- any other word finds the same
  other_alike : (w : List ℕ) (sheet : ℕ) → bytes_eq (folded w) key.word ≡ false → found b.names w sheet ≡ found c.names w sheet
  other_alike w sheet h = λ i. cond (is_some (differ.trees (key_of (Some sheet) w) (other_key (Some sheet)) i)) (Some (key_of (Some sheet) w))
      (cond (is_some (differ.trees (key_of None w) (other_key None) i)) (Some (key_of None w)) None)
    where
      other_key : (scope : Option ℕ) → ¬ (key_of scope w ≡ key)
      other_key scope same = false≢true (sym h ∙ (bytes_decides (folded w) key.word).1 (ap (λ (k : Key). k.word) same))

  module _ (words : List (List ℕ)) (changed : List Node) (have : HaveRebound b c words key changed) (a : Node) (x : book.Node) (at : node_at words a ≡ Some x) (out : ¬ IsTrue (has a changed)) where
    -- the name's word finds the same, where the formula uses it
    finds_alike : (t : Term Corner) → tree_at b x ≡ Some t → FindsAlike b c x t
    finds_alike t is w m = ⊎_elim
        (λ (h : bytes_eq (folded w) key.word ≡ true). found_small b.names w key.word (sheet_of (home_of x)) h ∙ itself h ∙ sym (found_small c.names w key.word (sheet_of (home_of x)) h))
        (λ (h : bytes_eq (folded w) key.word ≡ false). other_alike w (sheet_of (home_of x)) h)
        (cases_Bool (bytes_eq (folded w) key.word))
      where
        uses : bytes_eq (folded w) key.word ≡ true → UsesWord t key.word
        uses h = word_passes w (λ v. bytes_eq (folded v) key.word) (names_in t) h m

        itself : bytes_eq (folded w) key.word ≡ true → found b.names key.word (sheet_of (home_of x)) ≡ found c.names key.word (sheet_of (home_of x))
        itself h = ⊎_elim
            (λ (same : same_found (found b.names key.word (sheet_of (home_of x))) (found c.names key.word (sheet_of (home_of x))) ≡ true).
            same_found-equal (found b.names key.word (sheet_of (home_of x))) (found c.names key.word (sheet_of (home_of x))) same)
            (λ (other : same_found (found b.names key.word (sheet_of (home_of x))) (found c.names key.word (sheet_of (home_of x))) ≡ false). absurd (out (have.users a x t at is (uses h) other)))
            (cases_Bool (same_found (found b.names key.word (sheet_of (home_of x))) (found c.names key.word (sheet_of (home_of x)))))

    isnt_key : (k : Key) → x ≡ book.name k → ¬ (k ≡ key)
    isnt_key k is same = out (have.itself a (at ∙ ap Some is ∙ ap (λ l. Some (book.name l)) same))

    -- where the name is needed by none, all that is found has the same tree
    trees_by_needs : NeedsOthers b words changed x → (t : Term Corner) → tree_at b x ≡ Some t → HasTreesAlike b c x t
    trees_by_needs others t is w k m e =
        let (n, to, free) = others (book.name k) (ap (λ o. tree_needs b.names (sheet_of (home_of x)) o (book.name k)) is ∙ mention) in
        differ.trees k (λ same. free (have.itself n (to ∙ ap (λ l. Some (book.name l)) same)))
      where
        mention : mentions_node b.names (sheet_of (home_of x)) t (book.name k) ≡ true
        mention = word_passes w (λ v. is_found (found b.names v (sheet_of (home_of x))) k) (names_in t) (ap (λ o. is_found o k) e ∙ same_key-self k) m

    -- so it is where the name isn't in both
    trees_by_found : (is_some (tree_in b.names key) && is_some (tree_in c.names key)) ≡ false → (t : Term Corner) → tree_at b x ≡ Some t → HasTreesAlike b c x t
    trees_by_found once t is w k m e = differ.trees k (λ same. false≢true (sym once ∙ both (subst (λ l. found b.names w (sheet_of (home_of x)) ≡ Some l) same e)))
      where
        both : found b.names w (sheet_of (home_of x)) ≡ Some key → (is_some (tree_in b.names key) && is_some (tree_in c.names key)) ≡ true
        both f = ap₂ (λ s t. s && t) (found_stands b.names w (sheet_of (home_of x)) key f) (found_stands c.names w (sheet_of (home_of x)) key (sym (finds_alike t is w m) ∙ f))

  module _ (words : List (List ℕ)) (changed : List Node) (have : HaveRebound b c words key changed) where
    stands_alike : (a : Node) (x : book.Node) → node_at words a ≡ Some x → ¬ IsTrue (has a changed) → stands b x ≡ stands c x
    stands_alike a (book.place p) at out = λ i. is_some (map.get (differ.cells i) p)
    stands_alike a (book.name k) at out = ap is_some (differ.trees k (isnt_key words changed have a (book.name k) at out k refl))

    same_tree : (a : Node) (x : book.Node) → node_at words a ≡ Some x → ¬ IsTrue (has a changed) → tree_at c x ≡ tree_at b x
    same_tree a (book.place p) at out = ap (λ cells. content_tree (map.get cells p)) (sym differ.cells)
    same_tree a (book.name k) at out = sym (differ.trees k (isnt_key words changed have a (book.name k) at out k refl))

    same_needs : (a : Node) (x : book.Node) → node_at words a ≡ Some x → ¬ IsTrue (has a changed) → (y : book.Node) → book.needs b x y ≡ book.needs c x y
    same_needs a x at out y =
        needs_alike b c x (tree_at b x) (finds_alike words changed have a x at out) y ∙ sym (ap (λ o. tree_needs c.names (sheet_of (home_of x)) o y) (same_tree a x at out))

    same_work : (a : Node) (x : book.Node) → node_at words a ≡ Some x → ¬ IsTrue (has a changed) → ((t : Term Corner) → tree_at b x ≡ Some t → HasTreesAlike b c x t)
        → (customs : List (List ℕ × Rule)) (today : ℤ) (shown : book.Node → Scalar) → worked_out b (world_of b.names today shown) customs x ≡ worked_out c (world_of c.names today shown) customs x
    same_work a (book.place p) at out trees customs today shown =
        content_alike b c (book.place p) customs today shown (map.get b.cells p) (finds_alike words changed have a (book.place p) at out) trees
        ∙ (λ i. content_value (world_of c.names today shown) customs (home_of (book.place p)) (map.get (differ.cells i) p))
    same_work a (book.name k) at out trees customs today shown =
        tree_alike b c (book.name k) customs today shown (tree_in b.names k) (finds_alike words changed have a (book.name k) at out) trees
        ∙ sym (ap (name_value (world_of c.names today shown) customs (home_of (book.name k))) (same_tree a (book.name k) at out))

pub name_leaves_to_needs : NameLeavesToNeeds
name_leaves_to_needs b c words key changed differ have a x at out = record {
  stands = stands_alike b c key differ words changed have a x at out;
  tree = same_tree b c key differ words changed have a x at out;
  needs = same_needs b c key differ words changed have a x at out;
  works = λ others. same_work b c key differ words changed have a x at out (trees_by_needs b c key differ words changed have a x at out others);
}

pub rebound_leaves_alone : ReboundLeavesAlone
rebound_leaves_alone b c words key changed differ once have a x at out = record {
  alike = record {
    stands = stands_alike b c key differ words changed have a x at out;
    needs = same_needs b c key differ words changed have a x at out;
    works = same_work b c key differ words changed have a x at out (trees_by_found b c key differ words changed have a x at out once);
  };
  tree = same_tree b c key differ words changed have a x at out;
}
