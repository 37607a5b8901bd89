-- Values stay with cells and names that an operation carries along. Serves the law.
use Rattle.value_network.proofs.Values.{value-good}
use Rattle.value_network.proofs.Stuck.{cyclic_covers}
use Rattle.value_network.proofs.FollowedNeeds.{cycles_return, first_need}
use Rattle.std.proofs.Common.{◌≡◌, ◌∙◌, sym, ap, refl, subst, inr, ℕ, ℤ, Bool, true, not, ◌&&◌, List, [], ◌∷◌, Option, Some, None, option_map, option_and_then, ⊎_elim, arith, ◌⊎◌, inl, is_none, false}
use Rattle.std.specs.Prelude.{bytes_eq}
use Rattle.std.specs.FinMap as map
use Rattle.std.specs.List.{list_any}
use Rattle.std.specs.Cmp.Lexicographic.{bytes_decides}
use Rattle.std.proofs.lemmas.Bool.{and_parts, cases_Bool, false≢true, or_cases, or_left, or_right}
use Rattle.std.proofs.lemmas.Option.{same_Some}
use Rattle.cell_addr.specs.Place.{Covers, IsBlockInside, IsInside}
use Rattle.cell_addr.specs.declared.place.Block.{Block}
use Rattle.cell_addr.specs.declared.place.Place.{Place}
use Rattle.cell_addr.proofs.SamePlaces.{same_place-equal}
use Rattle.cell_value.specs.declared.scalar.Scalar.{Scalar}
use Rattle.cell_value.specs.declared.scalar.Scalar.TheVariants as scalar
use Rattle.custom_fn.specs.declared.rule.Rule.{Rule}
use Rattle.formula_tree.specs.Links.{is_place_word, names_in}
use Rattle.formula_tree.specs.Reference.{block_of, sheet_of}
use Rattle.formula_tree.specs.Term.{Term, Terms, number, text, truth, fault, cell, area, whole, prefix, percent, binary, call, paren, no_terms, term, is_reference}
use Rattle.formula_tree.specs.Term as terms
use Rattle.formula_tree.specs.declared.reference.Corner.{Corner}
use Rattle.formula_tree.specs.declared.reference.Home.{Home}
use Rattle.shift_core.specs.Form.{form_of}
use Rattle.shift_core.specs.Sound.{IsSound}
use Rattle.shift_core.specs.Tables.{place_after, place_before}
use Rattle.shift_core.specs.declared.shift.Shift.{Shift}
use Rattle.shift_core.proofs.CellMoves.{Covers-from_covers}
use Rattle.shift_core.proofs.PlaceLaws.{place_moved_returns, place_returned_goes, place_returned_inside}
use Rattle.tree_rewrite.specs.References.{EachReference, EachReferenceOfAll}
use Rattle.tree_rewrite.specs.Rewritten.{area_after, rewritten}
use Rattle.value_network.specs.Network.{Network, cyclic, value}
use Rattle.book_values.specs.Book as contents
use Rattle.calc_terms.specs.Needs.{mentions, mentions_any}
use Rattle.calc_terms.specs.References.{full_block}
use Rattle.calc_terms.specs.World.{World}
use Rattle.book_values.specs.Names.{Key, Names, found, is_found, tree_in}
use Rattle.book_values.specs.Values.{content_value, name_value, named_as, network, value_of, world_of}
use Rattle.book_values.specs.Workbook.{Node, Workbook, content_tree, home_of, mentions_node, needs, tree_at, tree_needs}
use Rattle.book_values.specs.Workbook as nodes
use Rattle.book_values.proofs.Keys.{same_key-self, word_passes}
use Rattle.book_values.proofs.Networks.{is_network}
use Rattle.carried_terms.specs.Carried.{GoesAlong, NamesAgree}
use Rattle.carried_terms.specs.Laws.{NeedsGo}
use Rattle.carried_terms.specs.Still.{IsStillArea, IsStillReference, ShowAlong, WordsAgree, passage_of}
use Rattle.carried_terms.proofs.Meaning.{carried_means}
use Rattle.carried_terms.proofs.Needs.{needs_go}
use Rattle.carried_terms.proofs.Still.{follows, own_agrees, still_goes}
use Rattle.carried_values.specs.Over.{GoesOver, Idle, shown_from, values_carried}
use Rattle.carried_values.proofs.Over.{go_over}
use Rattle.carried_books.specs.Laws.{MovedValuesStay}
use Rattle.carried_books.specs.Moved.{AreCarried, content_after, node_before, is_bare}

pub none_there : {X : Type 0} (o : Option X) → is_none o ≡ true → o ≡ None
none_there None h = refl
none_there (Some x) h = absurd (false≢true h)

pub none_before : (s : Shift) (o : Option contents.Content) → option_map (content_after s) o ≡ None → o ≡ None
none_before s None h = refl
none_before s (Some x) h = cc

-- a word of the list that passes a test
any_word : (test : List ℕ → Bool) (words : List (List ℕ)) → list_any test words ≡ true → (word : List ℕ) × (list_any (bytes_eq word) words ≡ true) × (test word ≡ true)
any_word test [] h = absurd (false≢true h)
any_word test (w ∷ words) h =
    ⊎_elim
    (λ here. (w, or_left (bytes_eq w w) (list_any (bytes_eq w) words) ((bytes_decides w w).1 refl), here))
    (λ later. let v = any_word test words later in (v.0, or_right (bytes_eq v.0 w) (list_any (bytes_eq v.0) words) v.1, v.2))
    (or_cases (test w) (list_any test words) h)

covered_inside : (b : Block) (p : Place) → IsBlockInside b → Covers b p → IsInside p
covered_inside b p i on = (omega arith, omega arith)

-- what a tree whose references are on the sheets mentions is on them
module _ (s : Shift) (bare : Place → Bool) where
  mutual
    mentioned_inside : (t : Term Corner) → EachReference (IsStillReference s) (IsStillArea s bare) t → (p : Place) → mentions t p ≡ true → IsInside p
    mentioned_inside (cell c) h p m = subst IsInside (same_place-equal c.at p m) h.0
    mentioned_inside (area c d) h p m = covered_inside (block_of c d) p h.0 (Covers-from_covers (block_of c d) p m)
    mentioned_inside (whole axis c d) (apart, still) p m = covered_inside (full_block axis c d) p still.0 (Covers-from_covers (full_block axis c d) p m)
    mentioned_inside (prefix sign t) h p m = mentioned_inside t h p m
    mentioned_inside (percent t) h p m = mentioned_inside t h p m
    mentioned_inside (binary o l r) h p m = ⊎_elim (λ e. mentioned_inside l h.0 p e) (λ e. mentioned_inside r h.1 p e) (or_cases (mentions l p) (mentions r p) m)
    mentioned_inside (call word ts) h p m = any_inside (is_place_word word) ts h p m
    mentioned_inside (paren t) h p m = mentioned_inside t h p m
    mentioned_inside (number k) h p m = absurd (false≢true m)
    mentioned_inside (text u) h p m = absurd (false≢true m)
    mentioned_inside (truth b) h p m = absurd (false≢true m)
    mentioned_inside (fault f) h p m = absurd (false≢true m)
    mentioned_inside (terms.name word) h p m = absurd (false≢true m)

    any_inside : (skip : Bool) (ts : Terms Corner) → EachReferenceOfAll (IsStillReference s) (IsStillArea s bare) ts → (p : Place) → mentions_any skip ts p ≡ true → IsInside p
    any_inside skip no_terms h p m = absurd (false≢true m)
    any_inside skip (term t ts) h p m =
        ⊎_elim
        (λ e. mentioned_inside t h.0 p (and_parts (not (skip && is_reference t)) (mentions t p) e).1)
        (λ e. any_inside skip ts h.1 p e)
        (or_cases (not (skip && is_reference t) && mentions t p) (mentions_any skip ts p) m)

-- where a node needs another, it has a tree that mentions it
tree_found : (names : Names) (sheet : ℕ) (o : Option (Term Corner)) (d : Node) → tree_needs names sheet o d ≡ true → (t : Term Corner) × (o ≡ Some t) × (mentions_node names sheet t d ≡ true)
tree_found names sheet None d h = absurd (false≢true h)
tree_found names sheet (Some t) d h = (t, refl, h)

pub tree_after : (s : Shift) (o : Option contents.Content) → content_tree (option_map (content_after s) o) ≡ option_map (rewritten s) (content_tree o)
tree_after s None = refl
tree_after s (Some (contents.number m)) = refl
tree_after s (Some (contents.truth b)) = refl
tree_after s (Some (contents.text u)) = refl
tree_after s (Some (contents.formula t)) = refl
tree_after s (Some (contents.unreadable u)) = refl

place_given : (o : Option Place) (x : Node) → option_map nodes.place o ≡ Some x → (p : Place) × (o ≡ Some p) × (x ≡ nodes.place p)
place_given None x e = cc
place_given (Some p) x e = (p, refl, sym (same_Some _ _ e))

module _ (s : Shift) (b c : Workbook) (customs : List (List ℕ × Rule)) (today : ℤ) (Inside : Node → Type 0) (sound : IsSound s) (over : AreCarried s b c Inside) where
  abbrev one : Network Node Scalar
  one = network b customs today

  abbrev two : Network Node Scalar
  two = network c customs today

  abbrev back : Node → Option Node
  back = node_before s

  abbrev given : Node → Scalar
  given a = scalar.Empty

  abbrev was : Node → Scalar
  was = value one (cyclic one)

  abbrev shown : Node → Scalar
  shown = values_carried one back given

  abbrev old : World
  old = world_of b.names today was

  abbrev new : World
  new = world_of c.names today shown

  comes : (p q : Place) → IsInside p → place_after s p ≡ Some q → back (nodes.place q) ≡ Some (nodes.place p)
  comes p q i e = ap (option_map nodes.place) (place_moved_returns (form_of s) p q sound i e)

  -- where a cell came from
  came : (q : Place) (x : Node) → Inside (nodes.place q) → back (nodes.place q) ≡ Some x → (p : Place) × (x ≡ nodes.place p) × IsInside p × (place_after s p ≡ Some q)
  came q x i e =
      let w = place_given (place_before s q) x e in
      let on = over.within q i in
      (w.0, w.2, place_returned_inside (form_of s) w.0 q sound on w.1, place_returned_goes (form_of s) w.0 q sound on w.1)

  abbrev bare : Place → Bool
  bare = is_bare b c

  -- an empty cell needs nothing and shows nothing
  empty_idle : (p : Place) → map.get b.cells p ≡ None → Idle one (nodes.place p)
  empty_idle p e d = ap (λ o. tree_needs b.names (sheet_of (home_of (nodes.place p))) (content_tree o) d) e

  empty_idle_after : (q : Place) → map.get c.cells q ≡ None → Idle two (nodes.place q)
  empty_idle_after q e d = ap (λ o. tree_needs c.names (sheet_of (home_of (nodes.place q))) (content_tree o) d) e

  empty_free : (p : Place) → map.get b.cells p ≡ None → cyclic one (nodes.place p) ≡ false
  empty_free p e =
      ⊎_elim
      (λ (h : cyclic one (nodes.place p) ≡ true).
      let w = first_need one ((cycles_return one (is_network b customs today) (nodes.place p)).0 h) in absurd (false≢true (sym (empty_idle p e w.0) ∙ w.1)))
      (λ (h : cyclic one (nodes.place p) ≡ false). h)
      (cases_Bool (cyclic one (nodes.place p)))

  empty_shows : (p : Place) → map.get b.cells p ≡ None → was (nodes.place p) ≡ scalar.Empty
  empty_shows p e =
      value-good one (is_network b customs today) (cyclic one) (cyclic_covers one) (nodes.place p) (empty_free p e)
      ∙ ap (content_value old customs (home_of (nodes.place p))) e

  bare_parts : (p : Place) → bare p ≡ true → (map.get b.cells p ≡ None) × (map.get c.cells p ≡ None)
  bare_parts p h =
      let w = and_parts (is_none (map.get b.cells p)) (is_none (map.get c.cells p)) h in (none_there (map.get b.cells p) w.0, none_there (map.get c.cells p) w.1)

  bare_shown : (p : Place) (o : Option Place) → place_before s p ≡ o → IsInside p → map.get c.cells p ≡ None → shown_from scalar.Empty was (option_map nodes.place o) ≡ scalar.Empty
  bare_shown p None is i e = refl
  bare_shown p (Some r) is i e =
      let on = place_returned_inside (form_of s) r p sound i is in
      empty_shows r (none_before s (map.get b.cells r) (sym (over.cells r p on (place_returned_goes (form_of s) r p sound i is)) ∙ e))

  shows_along : ShowAlong s bare old new
  shows_along = record {
    moved = λ p q i e. sym (ap (shown_from scalar.Empty was) (comes p q i e));
    bare_ones = λ p i h. let w = bare_parts p h in empty_shows p w.0 ∙ sym (bare_shown p (place_before s p) refl i w.1);
  }

  tree_moves : (a x : Node) → Inside a → back a ≡ Some x → tree_at c a ≡ option_map (rewritten s) (tree_at b x)
  tree_moves (nodes.place q) x i e =
      let w = came q x i e in
      ap content_tree (over.cells w.0 q w.2 w.3) ∙ tree_after s (map.get b.cells w.0) ∙ sym (ap (λ y. option_map (rewritten s) (tree_at b y)) w.1)
  tree_moves (nodes.name key) x i e = over.names key i ∙ ap (λ y. option_map (rewritten s) (tree_at b y)) (same_Some _ _ e)

  tree_is : (a x : Node) (t : Term Corner) → Inside a → back a ≡ Some x → tree_at b x ≡ Some t → tree_at c a ≡ Some (rewritten s t)
  tree_is a x t i e is = tree_moves a x i e ∙ ap (option_map (rewritten s)) is

  goes : (a x : Node) (t : Term Corner) → Inside a → back a ≡ Some x → tree_at b x ≡ Some t → NeedsGo (place_after s) bare t (rewritten s t)
  goes a x t i e is =
      let still = over.still a x t i e is in
      needs_go (place_after s) (area_after s) bare t (follows s bare old new (home_of x) (home_of a) sound shows_along t still.references)

  -- the words of a formula that is carried along mention the names that they did
  names_along : (a x : Node) (t : Term Corner) (key : Key) → Inside a → back a ≡ Some x → tree_at b x ≡ Some t
      → mentions_node b.names (sheet_of (home_of x)) t (nodes.name key) ≡ true → needs c a (nodes.name key) ≡ true
  names_along a x t key i e is m =
      let go = goes a x t i e is in
      let w = any_word (λ word. is_found (found b.names word (sheet_of (home_of x))) key) (names_in t) m in
      let finds = over.finds a x t w.0 i e is w.1 in
      ap (λ o. tree_needs c.names (sheet_of (home_of a)) o (nodes.name key)) (tree_is a x t i e is)
      ∙ word_passes w.0 (λ word. is_found (found c.names word (sheet_of (home_of a))) key) (names_in (rewritten s t)) (ap (λ f. is_found f key) finds ∙ w.2) (ap (list_any (bytes_eq w.0)) go.names ∙ w.1)

  names_came : (a x : Node) (t : Term Corner) (key : Key) → Inside a → back a ≡ Some x → tree_at b x ≡ Some t
      → mentions_node c.names (sheet_of (home_of a)) (rewritten s t) (nodes.name key) ≡ true → mentions_node b.names (sheet_of (home_of x)) t (nodes.name key) ≡ true
  names_came a x t key i e is m =
      let go = goes a x t i e is in
      let w = any_word (λ word. is_found (found c.names word (sheet_of (home_of a))) key) (names_in (rewritten s t)) m in
      let listed = sym (ap (list_any (bytes_eq w.0)) go.names) ∙ w.1 in
      let finds = over.finds a x t w.0 i e is listed in
      word_passes w.0 (λ word. is_found (found b.names word (sheet_of (home_of x))) key) (names_in t) (sym (ap (λ f. is_found f key) finds) ∙ w.2) listed

  -- what a word finds in both agrees
  named_agree : (key : Key) (from to : Home) (o : Option (Term Corner)) → Inside (nodes.name key) → tree_in b.names key ≡ o
      → NamesAgree (passage_of s old new from to) (named_as b.names was key) (named_as c.names shown key)
  named_agree key from to None i is =
      subst (λ o. NamesAgree (passage_of s old new from to) (option_map (λ t. record { value = was (nodes.name key); tree = t }) o) (named_as c.names shown key)) (sym is)
      (subst (λ o. NamesAgree (passage_of s old new from to) None (option_map (λ t. record { value = shown (nodes.name key); tree = t }) o)) (sym (over.names key i ∙ ap (option_map (rewritten s)) is)) tt)
  named_agree key from to (Some u) i is =
      let still = over.still (nodes.name key) (nodes.name key) u i refl is in
      subst (λ o. NamesAgree (passage_of s old new from to) (option_map (λ t. record { value = was (nodes.name key); tree = t }) o) (named_as c.names shown key)) (sym is)
      (subst (λ o. NamesAgree (passage_of s old new from to) (Some (record { value = was (nodes.name key); tree = u })) (option_map (λ t. record { value = shown (nodes.name key); tree = t }) o))
      (sym (over.names key i ∙ ap (option_map (rewritten s)) is))
      (refl, own_agrees s bare old new from to sound shows_along u still.references))

  found_agree : (from to : Home) (f : Option Key) → ((key : Key) → f ≡ Some key → Inside (nodes.name key))
      → NamesAgree (passage_of s old new from to) (option_and_then (named_as b.names was) f) (option_and_then (named_as c.names shown) f)
  found_agree from to None inside = tt
  found_agree from to (Some key) inside = named_agree key from to (tree_in b.names key) (inside key refl) refl

  words_agree : (a x : Node) (t : Term Corner) → Inside a → back a ≡ Some x → tree_at b x ≡ Some t → WordsAgree (passage_of s old new (home_of x) (home_of a)) t
  words_agree a x t i e is word m =
      let here = found b.names word (sheet_of (home_of x)) in
      subst (λ f. NamesAgree (passage_of s old new (home_of x) (home_of a)) (option_and_then (named_as b.names was) here) (option_and_then (named_as c.names shown) f))
      (sym (over.finds a x t word i e is m))
      (found_agree (home_of x) (home_of a) here
      (λ key f. over.closed a (nodes.name key) i (names_along a x t key i e is
      (word_passes word (λ w. is_found (found b.names w (sheet_of (home_of x))) key) (names_in t) (ap (λ g. is_found g key) f ∙ same_key-self key) m))))

  along : (a x : Node) (t : Term Corner) → Inside a → back a ≡ Some x → tree_at b x ≡ Some t → GoesAlong (passage_of s old new (home_of x) (home_of a)) t
  along a x t i e is = (still_goes s bare old new (home_of x) (home_of a) t sound (over.still a x t i e is) shows_along (words_agree a x t i e is)).0

  -- needs go and come
  forth : (a x d : Node) → Inside a → back a ≡ Some x → needs b x d ≡ true → Idle one d ⊎ ((y : Node) × (back y ≡ Some d) × (needs c a y ≡ true))
  forth a x (nodes.place p) i e h =
      let w = tree_found b.names (sheet_of (home_of x)) (tree_at b x) (nodes.place p) h in
      let still = over.still a x w.0 i e w.1 in
      ⊎_elim
      (λ h. inl (empty_idle p (bare_parts p h).0))
      (λ go. inr (
        nodes.place go.0,
        comes p go.0 (mentioned_inside s bare w.0 still.references p w.2) go.1,
        ap (λ o. tree_needs c.names (sheet_of (home_of a)) o (nodes.place go.0)) (tree_is a x w.0 i e w.1) ∙ go.2,
      ))
      ((goes a x w.0 i e w.1).forth p w.2)
  forth a x (nodes.name key) i e h =
      let w = tree_found b.names (sheet_of (home_of x)) (tree_at b x) (nodes.name key) h in
      inr (nodes.name key, refl, names_along a x w.0 key i e w.1 w.2)

  tree_was : (o : Option (Term Corner)) (u : Term Corner) → option_map (rewritten s) o ≡ Some u → (t : Term Corner) × (o ≡ Some t) × (u ≡ rewritten s t)
  tree_was None u e = cc
  tree_was (Some t) u e = (t, refl, sym (same_Some _ _ e))

  there : (a y x : Node) → Inside a → back a ≡ Some x → needs c a y ≡ true → Idle two y ⊎ ((d : Node) × (back y ≡ Some d) × (needs b x d ≡ true))
  there a (nodes.place q) x i e h =
      let w = tree_found c.names (sheet_of (home_of a)) (tree_at c a) (nodes.place q) h in
      let v = tree_was (tree_at b x) w.0 (sym (tree_moves a x i e) ∙ w.1) in
      let still = over.still a x v.0 i e v.1 in
      ⊎_elim
      (λ h. inl (empty_idle_after q (bare_parts q h).1))
      (λ go. inr (
        nodes.place go.0,
        comes go.0 q (mentioned_inside s bare v.0 still.references go.0 go.2) go.1,
        ap (λ o. tree_needs b.names (sheet_of (home_of x)) o (nodes.place go.0)) v.1 ∙ go.2,
      ))
      ((goes a x v.0 i e v.1).back q (ap (λ u. mentions u q) (sym v.2) ∙ w.2))
  there a (nodes.name key) x i e h =
      let w = tree_found c.names (sheet_of (home_of a)) (tree_at c a) (nodes.name key) h in
      let v = tree_was (tree_at b x) w.0 (sym (tree_moves a x i e) ∙ w.1) in
      inr (
        nodes.name key,
        refl,
        ap (λ o. tree_needs b.names (sheet_of (home_of x)) o (nodes.name key)) v.1
            ∙ names_came a x v.0 key i e v.1 (ap (λ u. mentions_node c.names (sheet_of (home_of a)) u (nodes.name key)) (sym v.2) ∙ w.2),
      )

  -- and what a node works out stays
  content_stays : (p q : Place) (o : Option contents.Content) → map.get b.cells p ≡ o → Inside (nodes.place q) → back (nodes.place q) ≡ Some (nodes.place p)
      → content_value new customs (home_of (nodes.place q)) (option_map (content_after s) o) ≡ content_value old customs (home_of (nodes.place p)) o
  content_stays p q None is i e = refl
  content_stays p q (Some (contents.number m)) is i e = refl
  content_stays p q (Some (contents.truth t)) is i e = refl
  content_stays p q (Some (contents.text u)) is i e = refl
  content_stays p q (Some (contents.unreadable u)) is i e = refl
  content_stays p q (Some (contents.formula t)) is i e =
      sym (carried_means (passage_of s old new (home_of (nodes.place p)) (home_of (nodes.place q))) customs t refl (along (nodes.place q) (nodes.place p) t i e (ap content_tree is)))

  name_stays : (key : Key) (o : Option (Term Corner)) → tree_in b.names key ≡ o → Inside (nodes.name key)
      → name_value new customs (home_of (nodes.name key)) (option_map (rewritten s) o) ≡ name_value old customs (home_of (nodes.name key)) o
  name_stays key None is i = refl
  name_stays key (Some t) is i =
      sym (carried_means (passage_of s old new (home_of (nodes.name key)) (home_of (nodes.name key))) customs t refl (along (nodes.name key) (nodes.name key) t i refl is))

  own_stays : (a x : Node) → Inside a → back a ≡ Some x → two.own shown a ≡ one.own was x
  own_stays (nodes.place q) x i e =
      let w = came q x i e in
      ap (content_value new customs (home_of (nodes.place q))) (over.cells w.0 q w.2 w.3)
      ∙ content_stays w.0 q (map.get b.cells w.0) refl i (e ∙ ap (λ y. Some y) w.1)
      ∙ sym (ap (one.own was) w.1)
  own_stays (nodes.name key) x i e =
      ap (name_value new customs (home_of (nodes.name key))) (over.names key i)
      ∙ name_stays key (tree_in b.names key) refl i
      ∙ ap (one.own was) (same_Some _ _ e)

  no_place : (o : Option Place) → option_map nodes.place o ≡ None → o ≡ None
  no_place None e = refl
  no_place (Some p) e = cc

  put_in : (a : Node) → Inside a → back a ≡ None → Idle two a × (two.own shown a ≡ scalar.Empty)
  put_in (nodes.place q) i e =
      let empty = over.fresh q i (no_place (place_before s q) e) in
      (λ d. ap (λ o. tree_needs c.names (sheet_of (home_of (nodes.place q))) (content_tree o) d) empty, ap (content_value new customs (home_of (nodes.place q))) empty)
  put_in (nodes.name key) i e = cc

  apart : (a d x : Node) → Inside a → Inside d → back a ≡ Some x → back d ≡ Some x → a ≡ d
  apart (nodes.place q) (nodes.place r) x i j e f =
      let w = came q x i e in
      let v = came r x j f in
      let same : nodes.place w.0 ≡ nodes.place v.0 = sym w.1 ∙ v.1 in
      ap nodes.place (same_Some _ _ (sym w.3 ∙ ap (place_after s) (place_same w.0 v.0 same) ∙ v.3))
    where
      place_of : Node → Place → Place
      place_of (nodes.place p) other = p
      place_of (nodes.name key) other = other

      place_same : (p r : Place) → nodes.place p ≡ nodes.place r → p ≡ r
      place_same p r h = ap (λ n. place_of n p) h
  apart (nodes.place q) (nodes.name key) x i j e f = let w = came q x i e in let clash : nodes.place w.0 ≡ nodes.name key = sym w.1 ∙ sym (same_Some _ _ f) in cc
  apart (nodes.name key) (nodes.place r) x i j e f = let w = came r x j f in let clash : nodes.place w.0 ≡ nodes.name key = sym w.1 ∙ sym (same_Some _ _ e) in cc
  apart (nodes.name key) (nodes.name other) x i j e f = same_Some _ _ e ∙ sym (same_Some _ _ f)

  pub carried_over : GoesOver one two back given Inside
  carried_over = record {
    cycle = refl;
    closed = over.closed;
    apart = apart;
    forth = forth;
    there = there;
    own = λ a x i e h. own_stays a x i e;
    bare = put_in;
  }

  pub values_stay : (a : Node) → Inside a → value_of c customs today a ≡ shown_from scalar.Empty (value_of b customs today) (back a)
  values_stay a i = go_over one two back given Inside (is_network b customs today) (is_network c customs today) carried_over a i

pub moved_values_stay : MovedValuesStay
moved_values_stay s b c customs today inside sound over a i = values_stay s b c customs today (λ x. inside x ≡ true) sound over a i
