-- Nodes that an operation takes along with all that they need: chains of their needs go over, and their values stay. Serves the laws
-- on operations.
use Rattle.std.proofs.Common.{◌≡◌, ◌∙◌, sym, ap, refl, subst, ℕ, ℤ, pos, [], true, false, cond, List, Option, Some, None, option_map, ◌⊎◌, inl, inr, ⊎_elim, is_none}
use Rattle.std.specs.FinMap as map
use Rattle.std.proofs.lemmas.Bool.{and_parts, false≢true}
use Rattle.std.proofs.lemmas.Option.{none-some, same_Some}
use Rattle.cell_addr.specs.Place.{IsInside}
use Rattle.cell_addr.specs.declared.place.Place.{Place}
use Rattle.cell_value.specs.declared.scalar.Scalar.TheVariants.{Empty}
use Rattle.custom_fn.specs.declared.rule.Rule.{Rule}
use Rattle.formula_tree.specs.Reference.{sheet_of}
use Rattle.formula_tree.specs.Term.{Term}
use Rattle.formula_tree.specs.declared.reference.Corner.{Corner}
use Rattle.shift_core.specs.Form.{form_of}
use Rattle.shift_core.specs.Sound.{IsSound}
use Rattle.shift_core.specs.Tables.{place_before}
use Rattle.shift_core.specs.declared.shift.Shift.{Shift}
use Rattle.shift_core.proofs.PlaceLaws.{place_moved_inside, place_returned_goes, place_returned_inside}
use Rattle.tree_rewrite.specs.References.{FitsSheets}
use Rattle.tree_rewrite.specs.Rewritten.{rewritten}
use Rattle.value_network.specs.Network.{after, at_once}
use Rattle.book_values.specs.Names.{Key, found, tree_in}
use Rattle.book_values.specs.Values.{value_of}
use Rattle.book_values.specs.Workbook as book
use Rattle.book_values.specs.Workbook.{Workbook, content_tree, home_of, mentions_node, needs, tree_at, tree_needs}
use Rattle.carried_books.specs.Moved.{AreCarried, is_bare, node_before}
use Rattle.carried_books.proofs.Moved.{none_before, none_there, values_stay}
use Rattle.carried_terms.specs.Still.{IsStill}
use Rattle.carried_values.specs.Over.{shown_from}
use Rattle.recalc_core.specs.Kept.{expected}
use Rattle.recalc_core.proofs.Worked.{leads_none}
use Rattle.marked_values.specs.Marks.{Leads}
use Rattle.marked_values.specs.Shifts.{IsBookAfter, asks_place, is_moved_cell}
use Rattle.marked_values.proofs.Pairs.{FindsSame, IsSettled, Pair, need_back, need_forth, pair_back, pair_finds, pair_stands, pair_tree}
use Rattle.marked_values.proofs.StillTrees.{IsUnbent, is_still, mentioned_inside}

-- a node that needs another has a tree
pub tree_of_need : (b : Workbook) (x y : book.Node) → needs b x y ≡ true → (t : Term Corner) × (tree_at b x ≡ Some t)
tree_of_need b x y need = by (tree_at b x) refl need
  where
    by : (o : Option (Term Corner)) → tree_at b x ≡ o → tree_needs b.names (sheet_of (home_of x)) o y ≡ true → (t : Term Corner) × (tree_at b x ≡ Some t)
    by None e h = absurd (false≢true h)
    by (Some t) e h = (t, e)

pub tree_was : (s : Shift) (o : Option (Term Corner)) (u : Term Corner) → option_map (rewritten s) o ≡ Some u → (t : Term Corner) × (o ≡ Some t)
tree_was s None u e = absurd (none-some u e)
tree_was s (Some t) u e = (t, refl)

-- a formula of a node that is taken along
pub record IsReady (s : Shift) (t : Term Corner) : Type 0 where
  pub fits : FitsSheets t
  pub unbent : IsUnbent s t
  pub asks : asks_place t ≡ false

-- a set of nodes, each with where it is after the operation, that has with each of them all that it needs
pub record AreTaken (s : Shift) (b c : Workbook) (Taken : book.Node → book.Node → Type 0) : Type 0 where
  pub pairs : (x z : book.Node) → Taken x z → Pair s x z
  pub ready : (x z : book.Node) (t : Term Corner) → Taken x z → tree_at b x ≡ Some t → IsReady s t
  pub settled : (x z : book.Node) (t : Term Corner) → Taken x z → tree_at b x ≡ Some t → IsSettled s z
  pub closed : (x z y w : book.Node) → Taken x z → needs b x y ≡ true → needs c z w ≡ true → Pair s y w → Taken y w
  pub bare : (x z : book.Node) (p : Place) → Taken x z → is_moved_cell s p ≡ true → needs b x (book.place p) ≡ true → needs c z (book.place p) ≡ true → is_bare b c p ≡ true

module _ (s : Shift) (b c : Workbook) (sound : IsSound s) (over : IsBookAfter s b c) (Taken : book.Node → book.Node → Type 0) (taken : AreTaken s b c Taken) where
  empty_before : (p : Place) → is_bare b c p ≡ true → map.get b.cells p ≡ None
  empty_before p h = none_there (map.get b.cells p) (and_parts (is_none (map.get b.cells p)) (is_none (map.get c.cells p)) h).0

  empty_after : (p : Place) → is_bare b c p ≡ true → map.get c.cells p ≡ None
  empty_after p h = none_there (map.get c.cells p) (and_parts (is_none (map.get b.cells p)) (is_none (map.get c.cells p)) h).1

  finds : (x z : book.Node) (t : Term Corner) → Taken x z → tree_at b x ≡ Some t → FindsSame s b c over x z
  finds x z t here is = pair_finds s b c over x z (taken.pairs x z here) (taken.settled x z t here is)

  tree_before : (x z : book.Node) (w : book.Node) → Taken x z → needs c z w ≡ true → (t : Term Corner) × (tree_at b x ≡ Some t)
  tree_before x z w here need =
      let (u, after_it) = tree_of_need c z w need in
      tree_was s (tree_at b x) u (sym (pair_tree s b c over x z (taken.pairs x z here)) ∙ after_it)

  -- ---- one need

  abbrev pub Forth : book.Node → book.Node → Type 0
  Forth z y = ((w : book.Node) × Taken y w × (needs c z w ≡ true)) ⊎ ((p : Place) × (y ≡ book.place p) × (is_moved_cell s p ≡ true) × (is_bare b c p ≡ true) × (needs c z (book.place p) ≡ true))

  pub need_goes : (x z y : book.Node) → Taken x z → needs b x y ≡ true → Forth z y
  need_goes x z y here need =
      let (t, is) = tree_of_need b x y need in
      let ready = taken.ready x z t here is in
      ⊎_elim
      (λ there. let (w, pair, needed) = there in inl (w, taken.closed x z y w here need needed pair, needed))
      (λ gone. let (p, same, moved, needed) = gone in inr (p, same, moved, taken.bare x z p here moved (sym (ap (needs b x) same) ∙ need) needed, needed))
      (need_forth s b c over x z t sound (taken.pairs x z here) is ready.fits ready.unbent (finds x z t here is) y need)

  abbrev pub Back : book.Node → book.Node → Type 0
  Back x w = ((y : book.Node) × Taken y w × (needs b x y ≡ true)) ⊎ ((p : Place) × (w ≡ book.place p) × IsInside p × (is_moved_cell s p ≡ true) × (is_bare b c p ≡ true) × (needs b x (book.place p) ≡ true))

  pub need_comes : (x z w : book.Node) → Taken x z → needs c z w ≡ true → Back x w
  need_comes x z w here need =
      let (t, is) = tree_before x z w here need in
      let ready = taken.ready x z t here is in
      ⊎_elim
      (λ there. let (y, pair, needed) = there in inl (y, taken.closed x z y w here needed need pair, needed))
      (λ gone.
      let (p, same, moved, needed) = gone in
      inr (
        p,
        same,
        mentioned_inside t p ready.fits (sym (ap (λ o. tree_needs b.names (sheet_of (home_of x)) o (book.place p)) is) ∙ needed),
        moved,
        taken.bare x z p here moved needed (sym (ap (needs c z) same) ∙ need),
        needed,
      ))
      (need_back s b c over x z t sound (taken.pairs x z here) is ready.fits ready.unbent (finds x z t here is) w need)

  -- ---- chains

  pub leads_forth : {x y : book.Node} → Leads b x y → (z : book.Node) → Taken x z
      → ((w : book.Node) × Taken y w × Leads c z w) ⊎ ((p : Place) × (y ≡ book.place p) × (is_moved_cell s p ≡ true) × Leads c z (book.place p))
  leads_forth (at_once {a = x} {b = y} need) z here = by (need_goes x z y here need)
    where
      by : Forth z y → ((w : book.Node) × Taken y w × Leads c z w) ⊎ ((p : Place) × (y ≡ book.place p) × (is_moved_cell s p ≡ true) × Leads c z (book.place p))
      by (inl (w, there, needed)) = inl (w, there, at_once needed)
      by (inr (p, same, moved, bare, needed)) = inr (p, same, moved, at_once needed)
  leads_forth (after {a = x} {b = m} {c = y} need rest) z here = by (need_goes x z m here need) (λ w there. leads_forth rest w there)
    where
      by : Forth z m → ((w : book.Node) → Taken m w → ((v : book.Node) × Taken y v × Leads c w v) ⊎ ((p : Place) × (y ≡ book.place p) × (is_moved_cell s p ≡ true) × Leads c w (book.place p)))
          → ((w : book.Node) × Taken y w × Leads c z w) ⊎ ((p : Place) × (y ≡ book.place p) × (is_moved_cell s p ≡ true) × Leads c z (book.place p))
      by (inl (w, there, needed)) on = ⊎_elim
          (λ led. let (v, onto, leads) = led in inl (v, onto, after needed leads))
          (λ led. let (p, same, moved, leads) = led in inr (p, same, moved, after needed leads))
          (on w there)
      by (inr (p, same, moved, bare, needed)) on = absurd (leads_none b [] (pos 0) rest (ap (tree_at b) same ∙ ap content_tree (empty_before p bare)))

  pub leads_back : {z w : book.Node} → Leads c z w → (x : book.Node) → Taken x z
      → ((y : book.Node) × Taken y w × Leads b x y) ⊎ ((p : Place) × (w ≡ book.place p) × (is_moved_cell s p ≡ true) × Leads b x (book.place p))
  leads_back (at_once {a = z} {b = w} need) x here = by (need_comes x z w here need)
    where
      by : Back x w → ((y : book.Node) × Taken y w × Leads b x y) ⊎ ((p : Place) × (w ≡ book.place p) × (is_moved_cell s p ≡ true) × Leads b x (book.place p))
      by (inl (y, there, needed)) = inl (y, there, at_once needed)
      by (inr (p, same, inside, moved, bare, needed)) = inr (p, same, moved, at_once needed)
  leads_back (after {a = z} {b = m} {c = w} need rest) x here = by (need_comes x z m here need) (λ y there. leads_back rest y there)
    where
      by : Back x m → ((y : book.Node) → Taken y m → ((v : book.Node) × Taken v w × Leads b y v) ⊎ ((p : Place) × (w ≡ book.place p) × (is_moved_cell s p ≡ true) × Leads b y (book.place p)))
          → ((y : book.Node) × Taken y w × Leads b x y) ⊎ ((p : Place) × (w ≡ book.place p) × (is_moved_cell s p ≡ true) × Leads b x (book.place p))
      by (inl (y, there, needed)) on = ⊎_elim
          (λ led. let (v, onto, leads) = led in inl (v, onto, after needed leads))
          (λ led. let (p, same, moved, leads) = led in inr (p, same, moved, after needed leads))
          (on y there)
      by (inr (p, same, inside, moved, bare, needed)) on = absurd (leads_none c [] (pos 0) rest (ap (tree_at c) same ∙ ap content_tree (empty_after p bare)))

  -- ---- values

  -- the nodes after the operation: those of the set, and empty cells
  abbrev IsEmptyCell : book.Node → Type 0
  IsEmptyCell z = (q : Place) × (z ≡ book.place q) × IsInside q × (map.get c.cells q ≡ None)

  abbrev Inside : book.Node → Type 0
  Inside z = ((x : book.Node) × Taken x z) ⊎ IsEmptyCell z

  empty_tree : (z : book.Node) → IsEmptyCell z → tree_at c z ≡ None
  empty_tree z (q, same, inside, none) = ap (tree_at c) same ∙ ap content_tree none

  closed : (z w : book.Node) → Inside z → needs c z w ≡ true → Inside w
  closed z w (inl (x, here)) need = by (need_comes x z w here need)
    where
      by : Back x w → Inside w
      by (inl (y, there, needed)) = inl (y, there)
      by (inr (p, same, inside, moved, bare, needed)) = inr (p, same, inside, empty_after p bare)
  closed z w (inr empty) need = let (t, is) = tree_of_need c z w need in absurd (none-some t (sym (empty_tree z empty) ∙ is))

  pair_inside : (x : book.Node) (q : Place) → Pair s x (book.place q) → IsInside q
  pair_inside (book.place p) q (inside, goes) = place_moved_inside (form_of s) p q sound inside goes
  pair_inside (book.name key) q pair = absurd pair

  place_same : (p q : Place) → book.place p ≡ book.place q → p ≡ q
  place_same p q e = cc

  no_name : (p : Place) (key : Key) → book.name key ≡ book.place p → ⊥
  no_name p key e = cc

  within : (q : Place) → Inside (book.place q) → IsInside q
  within q (inl (x, here)) = pair_inside x q (taken.pairs x (book.place q) here)
  within q (inr (p, same, inside, none)) = subst IsInside (sym (place_same q p same)) inside

  names_after : (key : Key) → Inside (book.name key) → tree_in c.names key ≡ option_map (rewritten s) (tree_in b.names key)
  names_after key (inl (x, here)) = by x (taken.pairs x (book.name key) here)
    where
      by : (x : book.Node) → Pair s x (book.name key) → tree_in c.names key ≡ option_map (rewritten s) (tree_in b.names key)
      by (book.name other) (stays, same) = ap (tree_in c.names) same ∙ over.names other stays ∙ ap (λ k. option_map (rewritten s) (tree_in b.names k)) (sym same)
      by (book.place p) pair = absurd pair
  names_after key (inr (p, same, inside, none)) = absurd (no_name p key same)

  -- an empty cell had no formula where it was
  no_formula : (z x : book.Node) (t : Term Corner) → IsEmptyCell z → node_before s z ≡ Some x → tree_at b x ≡ Some t → ⊥
  no_formula z x t (q, same, inside, none) was is = by (place_before s q) refl (sym (ap (node_before s) same) ∙ was)
    where
      by : (o : Option Place) → place_before s q ≡ o → option_map book.place o ≡ Some x → ⊥
      by None e h = none-some x h
      by (Some p) e h =
          let moved = over.cells p q (place_returned_inside (form_of s) p q sound inside e) (place_returned_goes (form_of s) p q sound inside e) in
          let gone : map.get b.cells p ≡ None = none_before s (map.get b.cells p) (sym moved ∙ none) in
          none-some t (sym (ap content_tree gone) ∙ ap (tree_at b) (same_Some (book.place p) x h) ∙ is)

  -- a formula of the set is carried along as it is
  still : (x z : book.Node) (t : Term Corner) → Taken x z → tree_at b x ≡ Some t → IsStill s (is_bare b c) t
  still x z t here is =
      let ready = taken.ready x z t here is in
      let after_it : tree_at c z ≡ Some (rewritten s t) = pair_tree s b c over x z (taken.pairs x z here) ∙ ap (option_map (rewritten s)) is in
      is_still s sound t ready.fits ready.unbent (is_bare b c)
      (λ p moved was now. taken.bare x z p here moved
      (ap (λ o. tree_needs b.names (sheet_of (home_of x)) o (book.place p)) is ∙ was)
      (ap (λ o. tree_needs c.names (sheet_of (home_of z)) o (book.place p)) after_it ∙ now))
      ready.asks

  same_origin : (x y z : book.Node) → Taken x z → node_before s z ≡ Some y → x ≡ y
  same_origin x y z here was = same_Some x y (sym (pair_back s sound x z (taken.pairs x z here)) ∙ was)

  are_carried : AreCarried s b c Inside
  are_carried = record {
    closed = closed;
    within = within;
    cells = over.cells;
    fresh = λ q inside none. over.fresh q (within q inside) none;
    names = names_after;
    still = λ z x t inside was is. still_of z x t inside was is;
    finds = λ z x t word inside was is mentioned. finds_of z x t word inside was is;
  }
    where
      still_of : (z x : book.Node) (t : Term Corner) → Inside z → node_before s z ≡ Some x → tree_at b x ≡ Some t → IsStill s (is_bare b c) t
      still_of z x t (inl (y, here)) was is = still y z t here (ap (tree_at b) (same_origin y x z here was) ∙ is)
      still_of z x t (inr empty) was is = absurd (no_formula z x t empty was is)

      finds_of : (z x : book.Node) (t : Term Corner) (word : List ℕ) → Inside z → node_before s z ≡ Some x → tree_at b x ≡ Some t
          → found c.names word (sheet_of (home_of z)) ≡ found b.names word (sheet_of (home_of x))
      finds_of z x t word (inl (y, here)) was is =
          let same = same_origin y x z here was in
          finds y z t here (ap (tree_at b) same ∙ is) word ∙ ap (λ n. found b.names word (sheet_of (home_of n))) same
      finds_of z x t word (inr empty) was is = absurd (no_formula z x t empty was is)

  module _ (customs : List (List ℕ × Rule)) (today : ℤ) where
    pub value_stays : (x z : book.Node) → Taken x z → value_of c customs today z ≡ value_of b customs today x
    value_stays x z here =
        values_stay s b c customs today Inside sound are_carried z (inl (x, here))
        ∙ ap (shown_from Empty (value_of b customs today)) (pair_back s sound x z (taken.pairs x z here))

    -- what should be kept of it stays too
    pub expected_stays : (x z : book.Node) → Taken x z → expected c customs today z ≡ expected b customs today x
    expected_stays x z here = λ i. cond (pair_stands s b c over x z (taken.pairs x z here) i) (Some (value_stays x z here i)) None
