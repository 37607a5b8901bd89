-- What a node shows: nothing where it doesn't stand, a value without a tree, the cycle's, or what its formula means over
-- kept values that are right of all that its needs lead to. Serves what works nodes out.
use Rattle.std.proofs.Common.{◌≡◌, ◌∙◌, sym, ap, refl, subst, arith, ℕ, ℤ, ◌+◌, ◌≤◌, Bool, true, false, cond, List, [], ◌∷◌, Option, Some, None, is_some, option_map, option_and_then, ◌⊎◌, inl, inr, ⊎_elim}
use Rattle.std.specs.FinMap as map
use Rattle.std.specs.List.{All, find, list_any}
use Rattle.std.specs.Cmp.Lexicographic.{bytes_decides}
use Rattle.std.specs.Prelude.{bytes_eq, unwrap_or}
use Rattle.std.proofs.lemmas.Bool.{cases_Bool, false≢true, or_cases}
use Rattle.std.proofs.lemmas.List.Elements.{All-head, All-tail}
use Rattle.cell_addr.specs.Sheets.{same_name}
use Rattle.cell_addr.specs.Text.{folded}
use Rattle.cell_addr.specs.declared.place.Place.{Place}
use Rattle.cell_value.specs.declared.fault.FaultKind.TheVariants as fault
use Rattle.cell_value.specs.declared.scalar.Scalar.{Scalar}
use Rattle.cell_value.specs.declared.scalar.Scalar.TheVariants as scalar
use Rattle.cell_value.specs.declared.scalar.Scalar.TheVariants.{Empty}
use Rattle.custom_fn.specs.declared.rule.Rule.{Rule}
use Rattle.formula_tree.specs.Links.{names_in}
use Rattle.formula_tree.specs.Reference.{sheet_of}
use Rattle.formula_tree.specs.Relative.{relative}
use Rattle.formula_tree.specs.StandsFor.{at_home}
use Rattle.formula_tree.specs.Term.{Term}
use Rattle.formula_tree.specs.declared.reference.Corner.{Corner}
use Rattle.formula_tree.specs.declared.reference.Home.{Home}
use Rattle.value_network.specs.Network.{LeadsTo, Network, after, at_once, cyclic}
use Rattle.calc_terms.proofs.Reading.{costs_rest_on_needs, reads_needs}
use Rattle.calc_terms.specs.Cost.{cost}
use Rattle.calc_terms.specs.Laws.{AreAlike, NameAlike, ShowAlike}
use Rattle.calc_terms.specs.Meaning.{meaning}
use Rattle.calc_terms.specs.Needs.{mentions_name}
use Rattle.calc_terms.specs.World.{World}
use Rattle.book_values.specs.Book.{Content}
use Rattle.book_values.specs.Book as content
use Rattle.book_values.proofs.Keys.{same_key-self, word_passes}
use Rattle.book_values.proofs.Networks.{cycles_return, values_unfold}
use Rattle.book_values.specs.Names.{Key, found, is_found, tree_in}
use Rattle.book_values.specs.Values.{content_value, name_value, named_as, network, value_of, worked_out, world_of}
use Rattle.book_values.specs.Workbook as book
use Rattle.book_values.specs.Workbook.{Workbook, content_tree, home_of, mentions_node, needs, tree_at, tree_needs}
use Rattle.dep_graph.specs.Laws.{IsNoRange}
use Rattle.dep_graph.specs.declared.node.Node.{Node}
use Rattle.dep_graph.specs.declared.node.Node.TheVariants.{Cell, Name, Range, Whole}
use Rattle.recalc_core.specs.Given.{HasGiven}
use Rattle.recalc_core.specs.Kept.{AreRight, IsRight, Kept, expected, expected_at, stands}
use Rattle.recalc_core.specs.Nodes.{node_at}
use Rattle.recalc_core.specs.Steps.{formula_cost}
use Rattle.recalc_core.specs.declared.names.ReadName.{ReadName}
use Rattle.recalc_core.specs.declared.trees.NodeContent.TheVariants as given
use Rattle.recalc_core.specs.declared.kept.KeptValues.{KeptValues}
use Rattle.recalc_core.specs.internal.KeptValues.{kept_by}
use Rattle.recalc_core.specs.internal.Seen.{AreRead, IsRead, named_by, shown_at, shown_of, world_in}
use Rattle.recalc_core.specs.internal.UnderWay.{IsMeaning, IsReady, IsWithinCost}
use Rattle.recalc_core.proofs.Bridge.{any_as, none_some, same_some}
use Rattle.recalc_core.proofs.ReadNames.{found_alike}

-- ---- names that are read

-- an item that is found is one of the list, and passes
found_item : {X : Type 0} (P : X → Type 0) (p : X → Bool) (xs : List X) (x : X) → All P xs → find p xs ≡ Some x → P x × (p x ≡ true)
found_item P p [] x all h = absurd (none_some x h)
found_item P p (y ∷ ys) x all h = by (p y) refl (λ later. found_item P p ys x (All-tail P y ys all) later)
  where
    by : (t : Bool) → p y ≡ t → (find p ys ≡ Some x → P x × (p x ≡ true)) → P x × (p x ≡ true)
    by true e on =
        let same : y ≡ x = same_some y x (sym (ap (λ t. cond t (Some y) (find p ys)) e) ∙ h) in
        subst (λ z. P z × (p z ≡ true)) same (All-head P y ys all, e)
    by false e on = on (sym (ap (λ t. cond t (Some y) (find p ys)) e) ∙ h)

passing_found : {X : Type 0} (p : X → Bool) (xs : List X) → list_any p xs ≡ true → find p xs ≡ None → ⊥
passing_found p [] h none = false≢true h
passing_found p (x ∷ xs) h none = by (p x) refl (λ later no_more. passing_found p xs later no_more)
  where
    by : (t : Bool) → p x ≡ t → (list_any p xs ≡ true → find p xs ≡ None → ⊥) → ⊥
    by true e on = none_some x (sym none ∙ ap (λ t. cond t (Some x) (find p xs)) e)
    by false e on = on (⊎_elim (λ (here : p x ≡ true). absurd (false≢true (sym e ∙ here))) (λ (later : list_any p xs ≡ true). later) (or_cases (p x) (list_any p xs) h))
        (sym (ap (λ t. cond t (Some x) (find p xs)) e) ∙ none)

module _ (b : Workbook) (words : List (List ℕ)) (sheet : ℕ) (asked : List (List ℕ)) (names : List ReadName) (read : AreRead b words sheet asked names) where
  abbrev of_word : List ℕ → Option ReadName
  of_word word = find (λ name. same_name name.word word) names

  -- a word finds nothing in the workbook and among the names, or the same name in both
  abbrev Finds : List ℕ → Type 0
  Finds word = ((found b.names word sheet ≡ None) × (of_word word ≡ None))
      ⊎ ((key : Key) × (read_as : ReadName) × (found b.names word sheet ≡ Some key) × (of_word word ≡ Some read_as) × (node_at words read_as.node ≡ Some (book.name key))
      × (tree_in b.names key ≡ Some (at_home read_as.home (relative read_as.tree.value))))

  pub finds : (word : List ℕ) → list_any (same_name word) asked ≡ true → Finds word
  finds word mentioned = by (found b.names word sheet) (of_word word) refl refl
    where
      by : (m : Option Key) (n : Option ReadName) → found b.names word sheet ≡ m → of_word word ≡ n → Finds word
      by None None e f = inl (e, f)
      by (Some key) None e f = absurd (passing_found (λ name. same_name name.word word) names (read.all word mentioned (ap is_some e)) f)
      by None (Some other) e f =
          let ((key, is, at, tree), same) = found_item (IsRead b words sheet) (λ name. same_name name.word word) names other read.each f in
          absurd (none_some key (sym e ∙ sym (found_alike b.names other.word word sheet same) ∙ is))
      by (Some key) (Some other) e f =
          let ((known, is, at, tree), same) = found_item (IsRead b words sheet) (λ name. same_name name.word word) names other read.each f in
          let one : known ≡ key = same_some known key (sym is ∙ found_alike b.names other.word word sheet same ∙ e) in
          inr (key, other, e, f, at ∙ ap (λ k. Some (book.name k)) one, ap (tree_in b.names) (sym one) ∙ tree)

word_asked : (t : Term Corner) (word : List ℕ) → mentions_name t word ≡ true → list_any (same_name word) (names_in t) ≡ true
word_asked t word h = any_as (bytes_eq word) (same_name word) (names_in t) (λ other same. (bytes_decides (folded word) (folded other)).1 (ap folded ((bytes_decides word other).0 same))) h

-- ---- values of single nodes

-- a place or a name is no range
pub no_range : (words : List (List ℕ)) (a : Node) (x : book.Node) → node_at words a ≡ Some x → IsNoRange a
no_range words (Cell p) x at = tt
no_range words (Name scope word) x at = tt
no_range words (Range b) x at = none_some x at
no_range words (Whole w) x at = none_some x at

-- what is kept of a place or a name where it is right
pub right_at : (b : Workbook) (words : List (List ℕ)) (customs : List (List ℕ × Rule)) (today : ℤ) (kept : Kept) (a : Node) (x : book.Node) → IsRight b words customs today kept a → node_at words a ≡ Some x
    → kept a ≡ expected b customs today x
right_at b words customs today kept a x right at = right (no_range words a x at) ∙ ap (expected_at b customs today) at

module _ (b : Workbook) (customs : List (List ℕ × Rule)) (today : ℤ) where
  abbrev net : Network book.Node Scalar
  net = network b customs today

  abbrev value : book.Node → Scalar
  value = value_of b customs today

  abbrev world : World
  world = world_of b.names today value

  needs_none : (x c : book.Node) → tree_at b x ≡ None → needs b x c ≡ true → ⊥
  needs_none x c none h = false≢true (sym (ap (λ t. tree_needs b.names (sheet_of (home_of x)) t c) none) ∙ h)

  pub leads_none : {x c : book.Node} → LeadsTo net x c → tree_at b x ≡ None → ⊥
  leads_none (at_once {a = x} {b = c} h) none = needs_none x c none h
  leads_none (after {a = x} {b = c} h rest) none = needs_none x c none h

  -- a node without a tree is on no cycle
  pub free : (x : book.Node) → tree_at b x ≡ None → cyclic net x ≡ false
  free x none = ⊎_elim (λ h. absurd (leads_none ((cycles_return b customs today x).0 h) none)) (λ h. h) (cases_Bool (cyclic net x))

  value_good : (x : book.Node) → cyclic net x ≡ false → value x ≡ worked_out b world customs x
  value_good x good = values_unfold b customs today x ∙ ap (λ t. cond t (scalar.Fault fault.Cycle) (worked_out b world customs x)) good

  -- a node with a tree stands
  pub tree_stands : (x : book.Node) (t : Term Corner) → tree_at b x ≡ Some t → stands b x ≡ true
  tree_stands (book.place p) t h = by (map.get b.cells p) refl
    where
      by : (o : Option Content) → map.get b.cells p ≡ o → is_some (map.get b.cells p) ≡ true
      by None e = absurd (none_some t (sym (ap content_tree e) ∙ h))
      by (Some c) e = ap is_some e
  tree_stands (book.name key) t h = ap is_some h

  pub expected_some : (x : book.Node) → stands b x ≡ true → expected b customs today x ≡ Some (value x)
  expected_some x h = ap (λ t. cond t (Some (value x)) None) h

  pub nothing_expected : (x : book.Node) → HasGiven b x given.Nothing → expected b customs today x ≡ None
  nothing_expected x h = ap (λ t. cond t (Some (value x)) None) h

  pub value_expected : (x : book.Node) (s : Scalar) → HasGiven b x (given.Value s) → expected b customs today x ≡ Some s
  value_expected x s (here, no_tree, shows) = expected_some x here ∙ ap Some (value_good x (free x no_tree) ∙ shows world customs)

  -- a node on a cycle shows the cycle's value
  pub cycle_expected : (x : book.Node) → cyclic net x ≡ true → expected b customs today x ≡ Some (scalar.Fault fault.Cycle)
  cycle_expected x bad = by (tree_at b x) refl
    where
      by : (o : Option (Term Corner)) → tree_at b x ≡ o → expected b customs today x ≡ Some (scalar.Fault fault.Cycle)
      by None e = absurd (false≢true (sym (free x e) ∙ bad))
      by (Some t) e =
          expected_some x (tree_stands x t e)
          ∙ ap Some (values_unfold b customs today x ∙ ap (λ m. cond m (scalar.Fault fault.Cycle) (worked_out b world customs x)) bad)

  -- a formula shows what its tree means
  works_tree : (x : book.Node) (t : Term Corner) → tree_at b x ≡ Some t → worked_out b world customs x ≡ meaning world customs (home_of x) t
  works_tree (book.place p) t h = by (map.get b.cells p) refl
    where
      by : (o : Option Content) → map.get b.cells p ≡ o → content_value world customs (home_of (book.place p)) (map.get b.cells p) ≡ meaning world customs (home_of (book.place p)) t
      by None e = absurd (none_some t (sym (ap content_tree e) ∙ h))
      by (Some (content.number m)) e = absurd (none_some t (sym (ap content_tree e) ∙ h))
      by (Some (content.truth m)) e = absurd (none_some t (sym (ap content_tree e) ∙ h))
      by (Some (content.text m)) e = absurd (none_some t (sym (ap content_tree e) ∙ h))
      by (Some (content.unreadable m)) e = absurd (none_some t (sym (ap content_tree e) ∙ h))
      by (Some (content.formula u)) e =
          ap (content_value world customs (home_of (book.place p))) e
          ∙ ap (meaning world customs (home_of (book.place p))) (same_some u t (sym (ap content_tree e) ∙ h))
  works_tree (book.name key) t h = ap (name_value world customs (home_of (book.name key))) h

  pub formula_expected : (x : book.Node) (t : Term Corner) → tree_at b x ≡ Some t → cyclic net x ≡ false → expected b customs today x ≡ Some (meaning world customs (home_of x) t)
  formula_expected x t is good = expected_some x (tree_stands x t is) ∙ ap Some (value_good x good ∙ works_tree x t is)

  -- what a place shows by what should be kept of it
  place_shows : (p : Place) → unwrap_or (expected b customs today (book.place p)) Empty ≡ value (book.place p)
  place_shows p = by (map.get b.cells p) refl
    where
      by : (o : Option Content) → map.get b.cells p ≡ o → unwrap_or (cond (is_some (map.get b.cells p)) (Some (value (book.place p))) None) Empty ≡ value (book.place p)
      by None e =
          ap (λ o. unwrap_or (cond (is_some o) (Some (value (book.place p))) None) Empty) e
          ∙ sym (value_good (book.place p) (free (book.place p) (ap content_tree e)) ∙ ap (content_value world customs (home_of (book.place p))) e)
      by (Some c) e = ap (λ o. unwrap_or (cond (is_some o) (Some (value (book.place p))) None) Empty) e

  module _ (words : List (List ℕ)) (kept : Kept) where
    pub shows_right : (p : Place) → IsRight b words customs today kept (Cell p) → shown_at kept p ≡ value (book.place p)
    shows_right p right = ap (λ o. unwrap_or o Empty) (right tt) ∙ place_shows p

    name_right : (key : Key) (t : Term Corner) (c : Node) → tree_in b.names key ≡ Some t → node_at words c ≡ Some (book.name key) → IsRight b words customs today kept c → shown_of kept c ≡ value (book.name key)
    name_right key t c tree at right = ap (λ o. unwrap_or o Empty) (right_at b words customs today kept c (book.name key) right at ∙ expected_some (book.name key) (ap is_some tree))

    -- a formula at a home, where all that it reads is right: each place and name that it mentions, and what the trees of these names need
    module _ (home : Home) (t : Term Corner) (Reads : book.Node → Type 0) (once : (z : book.Node) → mentions_node b.names (sheet_of home) t z ≡ true → Reads z)
        (twice : (y z : book.Node) → mentions_node b.names (sheet_of home) t y ≡ true → needs b y z ≡ true → Reads z)
        (right : (z : book.Node) (c : Node) → Reads z → node_at words c ≡ Some z → IsRight b words customs today kept c) (names : List ReadName) (read : AreRead b words (sheet_of home) (names_in t) names) where
      shown_alike : ShowAlike (world_in kept names today) world t
      shown_alike p h = shows_right p (right (book.place p) (Cell p) (once (book.place p) h) refl)

      named_alike : (word : List ℕ) → mentions_name t word ≡ true → Finds b words (sheet_of home) (names_in t) names read word
          → NameAlike (world_in kept names today) world ((world_in kept names today).named word (sheet_of home)) (world.named word (sheet_of home))
      named_alike word h (inl (none, no_name)) =
          subst (λ o. NameAlike (world_in kept names today) world (option_map (named_by kept) o) (world.named word (sheet_of home))) (sym no_name)
          (subst (λ o. NameAlike (world_in kept names today) world None (option_and_then (named_as b.names value) o)) (sym none) tt)
      named_alike word h (inr (key, other, found_key, here, at, tree)) =
          let mentioned : mentions_node b.names (sheet_of home) t (book.name key) ≡ true =
          word_passes word (λ v. is_found (found b.names v (sheet_of home)) key) (names_in t) (ap (λ o. is_found o key) found_key ∙ same_key-self key) h in
          let own : Term Corner = at_home other.home (relative other.tree.value) in
          subst (λ o. NameAlike (world_in kept names today) world (option_map (named_by kept) o) (world.named word (sheet_of home))) (sym here)
          (subst (λ o. NameAlike (world_in kept names today) world (Some (named_by kept other)) (option_and_then (named_as b.names value) o)) (sym found_key)
          (subst (λ o. NameAlike (world_in kept names today) world (Some (named_by kept other)) (option_map (λ u. record { value = value (book.name key); tree = u }) o)) (sym tree) (
            name_right key own other.node tree at (right (book.name key) other.node (once (book.name key) mentioned) at),
            refl,
            λ p m. shows_right p (right (book.place p) (Cell p)
                (twice (book.name key) (book.place p) mentioned (ap (λ o. tree_needs b.names (sheet_of (home_of (book.name key))) o (book.place p)) tree ∙ m)) refl),
          )))

      alike : AreAlike (world_in kept names today) world (sheet_of home) t
      alike = record {
        today = refl;
        shown = shown_alike;
        named = λ word h. named_alike word h (finds b words (sheet_of home) (names_in t) names read word (word_asked t word h));
      }

      -- it means over kept values what it means in the workbook, and costs as much
      pub means_alike : meaning (world_in kept names today) customs home t ≡ meaning world customs home t
      means_alike = reads_needs (world_in kept names today) world customs home t alike

      pub costs_alike : cost (world_in kept names today) (sheet_of home) t ≡ cost world (sheet_of home) t
      costs_alike = costs_rest_on_needs (world_in kept names today) world (sheet_of home) t alike

    need : (x : book.Node) (t : Term Corner) (z : book.Node) → tree_at b x ≡ Some t → mentions_node b.names (sheet_of (home_of x)) t z ≡ true → needs b x z ≡ true
    need x t z is h = ap (λ o. tree_needs b.names (sheet_of (home_of x)) o z) is ∙ h

    -- what is worked out of a node that is ready should be kept of it
    pub meaning_expected : (a : Node) (x : book.Node) (t : Term Corner) (s : Scalar) → IsReady b words customs today kept a → node_at words a ≡ Some x → tree_at b x ≡ Some t
        → IsMeaning b words customs today kept (home_of x) t s → expected b customs today x ≡ Some s
    meaning_expected a x t s ready at is (names, read, shows) =
        let (good, right) = ready x at in
        let same = means_alike (home_of x) t (λ z. LeadsTo net x z) (λ z h. at_once (need x t z is h)) (λ y z h more. after (need x t y is h) (at_once more)) right names read in
        formula_expected x t is good ∙ ap Some (sym same ∙ sym shows)

    -- so is what it costs
    pub ready_within : (a : Node) (x : book.Node) (t : Term Corner) (old new : ℕ) → IsReady b words customs today kept a → node_at words a ≡ Some x → tree_at b x ≡ Some t
        → IsWithinCost b words today kept (home_of x) t old new → new ≤ old + formula_cost b customs today (sheet_of (home_of x)) t
    ready_within a x t old new ready at is (inl none) = omega (arith, none)
    ready_within a x t old new ready at is (inr (names, read, most)) =
        let (good, right) = ready x at in
        let same = costs_alike (home_of x) t (λ z. LeadsTo net x z) (λ z h. at_once (need x t z is h)) (λ y z h more. after (need x t y is h) (at_once more)) right names read in
        omega (arith, most, same)

    -- any formula means over values that are all right what it means in the workbook, and costs as much
    pub meaning_right : (home : Home) (t : Term Corner) (s : Scalar) → AreRight b words customs today kept → IsMeaning b words customs today kept home t s → s ≡ meaning world customs home t
    meaning_right home t s right (names, read, shows) = shows ∙ means_alike home t (λ z. Unit {0}) (λ z h. tt) (λ y z h more. tt) (λ z c reads at. right c) names read

    pub right_within : (home : Home) (t : Term Corner) (old new : ℕ) → AreRight b words customs today kept → IsWithinCost b words today kept home t old new
        → new ≤ old + formula_cost b customs today (sheet_of home) t
    right_within home t old new right (inl none) = omega (arith, none)
    right_within home t old new right (inr (names, read, most)) =
        let same = costs_alike home t (λ z. Unit {0}) (λ z h. tt) (λ y z h more. tt) (λ z c reads at. right c) names read in
        omega (arith, most, same)

-- one view's world, by equal values
pub same_world : (one two : KeptValues) (names : List ReadName) (today : ℤ) → one ≡ two → world_in (kept_by one) names today ≡ world_in (kept_by two) names today
same_world one two names today e = ap (λ (k : KeptValues). world_in (kept_by k) names today) e
