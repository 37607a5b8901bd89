-- The links of a formula's tree after an operation rewrote it. Serves the laws on operations.
use Rattle.std.proofs.Common.{◌≡◌, ◌∙◌, sym, ap, ap₂, refl, subst, ℕ, Bool, true, false, cond, ◌&&◌, ◌||◌, List, [], ◌∷◌, ◌++◌, Option, Some, None, option_map, ⊎_elim, eq-eqb}
use Rattle.std.specs.Prelude.{bytes_eq, codes}
use Rattle.std.specs.List.{cons_option, filter_map, list_any}
use Rattle.std.specs.Cmp.Lexicographic.{bytes_decides}
use Rattle.std.proofs.lemmas.Bool.{and_from, false≢true, or_cases, or_left, or_parts, or_right}
use Rattle.std.proofs.lemmas.List.Folds.{list_any-append}
use Rattle.cell_addr.proofs.SamePlaces.{same_block-decides, same_block-equal, same_place-equal, same_place-self, same_whole-decides}
use Rattle.cell_addr.proofs.Wholes.{whole_of-whole_block}
use Rattle.cell_addr.specs.Text.{folded}
use Rattle.cell_addr.specs.Whole.{whole_block, whole_of}
use Rattle.cell_addr.specs.declared.axis.Axis.{Axis}
use Rattle.cell_addr.specs.declared.place.Block.{Block}
use Rattle.cell_addr.specs.declared.place.Place.{Place}
use Rattle.cell_addr.specs.declared.whole.Whole.{Whole}
use Rattle.formula_tree.specs.Links.{is_place_word, links_in, links_in_all, same_link, same_scope}
use Rattle.formula_tree.specs.Reference.{block_of}
use Rattle.formula_tree.specs.Term.{Term, Terms, number, text, truth, fault, cell, area, whole, prefix, percent, binary, call, paren, no_terms, term, is_reference, mapped_all}
use Rattle.formula_tree.specs.Term as terms
use Rattle.formula_tree.specs.Whole.{whole_between}
use Rattle.formula_tree.specs.declared.link.Link.{Link}
use Rattle.formula_tree.specs.declared.link.Link.TheVariants as links
use Rattle.formula_tree.specs.declared.reference.Corner.{Corner}
use Rattle.shift_core.specs.Tables.{block_after, place_after}
use Rattle.shift_core.specs.Wholes.{whole_after}
use Rattle.shift_core.specs.declared.shift.Shift.{Shift}
use Rattle.tree_rewrite.specs.References.{EachReference, EachReferenceOfAll}
use Rattle.tree_rewrite.specs.Rewritten.{area_after, area_at, cell_at, rewritten}
use Rattle.tree_rewrite.proofs.WholeAreas.{axis-after}
use Rattle.carried_terms.specs.Carried.{asks_where}
use Rattle.carried_terms.specs.Still.{AllAskNowhere, AsksNowhere}
use Rattle.marked_values.specs.Shifts.{any_asks_place, asks_place}
use Rattle.marked_values.proofs.TreeLinks.{link_between}

-- ---- links in lists

same_scope-self : (s : Option ℕ) → same_scope s s ≡ true
same_scope-self None = refl
same_scope-self (Some n) = eq-eqb n n refl

pub same_link-self : (l : Link) → same_link l l ≡ true
same_link-self (links.Cell p) = same_place-self p
same_link-self (links.Area b) = (same_block-decides b b).1 refl
same_link-self (links.Whole w) = (same_whole-decides w w).1 refl
same_link-self (links.Name s w) = and_from (same_scope s s) (bytes_eq (folded w) (folded w)) (same_scope-self s) ((bytes_decides (folded w) (folded w)).1 refl)

abbrev pub HasLink : Link → List Link → Type 0
HasLink l ls = list_any (same_link l) ls ≡ true

-- a link of the list that passes a test
pub passing : (test : Link → Bool) (ls : List Link) → list_any test ls ≡ true → (l : Link) × HasLink l ls × (test l ≡ true)
passing test [] h = absurd (false≢true h)
passing test (l ∷ ls) h = ⊎_elim
    (λ (here : test l ≡ true). (l, or_left (same_link l l) (list_any (same_link l) ls) (same_link-self l), here))
    (λ (later : list_any test ls ≡ true). let (m, is, passes) = passing test ls later in (m, or_right (same_link m l) (list_any (same_link m) ls) is, passes))
    (or_cases (test l) (list_any test ls) h)

-- a cell, a block or a whole range is the same as itself alone
pub same_cell : (p : Place) (l : Link) → same_link (links.Cell p) l ≡ true → l ≡ links.Cell p
same_cell p (links.Cell q) h = ap links.Cell (sym (same_place-equal p q h))
same_cell p (links.Area b) h = absurd (false≢true h)
same_cell p (links.Whole w) h = absurd (false≢true h)
same_cell p (links.Name s w) h = absurd (false≢true h)

pub same_area : (b : Block) (l : Link) → same_link (links.Area b) l ≡ true → l ≡ links.Area b
same_area b (links.Cell q) h = absurd (false≢true h)
same_area b (links.Area c) h = ap links.Area (sym (same_block-equal b c h))
same_area b (links.Whole w) h = absurd (false≢true h)
same_area b (links.Name s w) h = absurd (false≢true h)

pub same_range : (v : Whole) (l : Link) → same_link (links.Whole v) l ≡ true → l ≡ links.Whole v
same_range v (links.Cell q) h = absurd (false≢true h)
same_range v (links.Area b) h = absurd (false≢true h)
same_range v (links.Whole w) h = ap links.Whole (sym ((same_whole-decides v w).0 h))
same_range v (links.Name s w) h = absurd (false≢true h)

cons_append : {X : Type 0} (o : Option X) (xs ys : List X) → cons_option o (xs ++ ys) ≡ cons_option o xs ++ ys
cons_append None xs ys = refl
cons_append (Some x) xs ys = refl

filter_map-append : {X Y : Type 0} (f : X → Option Y) (xs ys : List X) → filter_map f (xs ++ ys) ≡ filter_map f xs ++ filter_map f ys
filter_map-append f [] ys = refl
filter_map-append f (x ∷ xs) ys = ap (cons_option (f x)) (filter_map-append f xs ys) ∙ cons_append (f x) (filter_map f xs) (filter_map f ys)

-- ---- links over an operation

-- where a link leads after it
abbrev pub link_after : Shift → Link → Option Link
link_after s (links.Cell p) = option_map links.Cell (place_after s p)
link_after s (links.Area b) = option_map links.Area (block_after s b)
link_after s (links.Whole w) = option_map links.Whole (whole_after s w)
link_after s (links.Name scope w) = None

cell_links : (c : Corner) (o : Option Place) → links_in (cell_at c o) ≡ cons_option (option_map links.Cell o) []
cell_links c None = refl
cell_links c (Some p) = refl

area_links : (c d : Corner) (o : Option Block) → links_in (area_at None c d o) ≡ cons_option (option_map links.Area o) []
area_links c d None = refl
area_links c d (Some b) = refl

-- the block of a whole range along the axis is that of no other one
same_whole_of : (axis : Axis) (v : Whole) → v.axis ≡ axis → whole_of axis (whole_block v) ≡ v
same_whole_of axis v e = subst (λ a. whole_of a (whole_block v) ≡ v) e (whole_of-whole_block v)

whole_links : (axis : Axis) (c d : Corner) (o : Option Whole) → ((v : Whole) → o ≡ Some v → v.axis ≡ axis)
    → links_in (area_at (Some axis) c d (option_map whole_block o)) ≡ cons_option (option_map links.Whole o) []
whole_links axis c d None along = refl
whole_links axis c d (Some v) along = ap (λ w. links.Whole w ∷ []) (same_whole_of axis v (along v refl))

cell_skipped : (c : Corner) (o : Option Place) → cond (is_reference (cell_at c o)) [] (links_in (cell_at c o)) ≡ []
cell_skipped c None = refl
cell_skipped c (Some p) = refl

area_skipped : (lines : Option Axis) (c d : Corner) (o : Option Block) → cond (is_reference (area_at lines c d o)) [] (links_in (area_at lines c d o)) ≡ []
area_skipped lines c d None = refl
area_skipped None c d (Some b) = refl
area_skipped (Some axis) c d (Some b) = refl

module _ (s : Shift) where
  abbrev all_rewritten : Terms Corner → Terms Corner
  all_rewritten = mapped_all (λ c. cell_at c (place_after s c.at)) (λ lines c d. area_at lines c d (area_after s lines (block_of c d)))

  -- an argument that is skipped stays so, or is lost
  argument : (skip : Bool) (t : Term Corner) → links_in (rewritten s t) ≡ filter_map (link_after s) (links_in t)
      → cond (skip && is_reference (rewritten s t)) [] (links_in (rewritten s t)) ≡ filter_map (link_after s) (cond (skip && is_reference t) [] (links_in t))
  argument false t e = e
  argument true (cell c) e = cell_skipped c (place_after s c.at)
  argument true (area c d) e = area_skipped None c d (block_after s (block_of c d))
  argument true (whole axis c d) e = area_skipped (Some axis) c d (area_after s (Some axis) (block_of c d))
  argument true (number m) e = e
  argument true (text w) e = e
  argument true (truth b) e = e
  argument true (fault k) e = e
  argument true (terms.name w) e = e
  argument true (prefix sign t) e = e
  argument true (percent t) e = e
  argument true (binary o l r) e = e
  argument true (call w ts) e = e
  argument true (paren t) e = e

  mutual
    -- the links go where places, blocks and whole ranges do
    pub moved_links : (t : Term Corner) → links_in (rewritten s t) ≡ filter_map (link_after s) (links_in t)
    moved_links (cell c) = cell_links c (place_after s c.at)
    moved_links (area c d) = area_links c d (block_after s (block_of c d))
    moved_links (whole axis c d) = let w = whole_between axis c d in whole_links axis c d (whole_after s w) (λ v goes. axis-after s w v goes)
    moved_links (number m) = refl
    moved_links (text w) = refl
    moved_links (truth b) = refl
    moved_links (fault k) = refl
    moved_links (terms.name w) = refl
    moved_links (prefix sign t) = moved_links t
    moved_links (percent t) = moved_links t
    moved_links (binary o l r) = ap₂ (λ xs ys. xs ++ ys) (moved_links l) (moved_links r) ∙ sym (filter_map-append (link_after s) (links_in l) (links_in r))
    moved_links (call w ts) = all_moved_links (is_place_word w) ts
    moved_links (paren t) = moved_links t

    all_moved_links : (skip : Bool) (ts : Terms Corner) → links_in_all skip (all_rewritten ts) ≡ filter_map (link_after s) (links_in_all skip ts)
    all_moved_links skip no_terms = refl
    all_moved_links skip (term t ts) =
        ap₂ (λ xs ys. xs ++ ys) (argument skip t (moved_links t)) (all_moved_links skip ts)
        ∙ sym (filter_map-append (link_after s) (cond (skip && is_reference t) [] (links_in t)) (links_in_all skip ts))

  -- a link that goes somewhere is among those that went
  went : (l m : Link) (ls : List Link) → ((k : Link) → same_link l k ≡ true → k ≡ l) → link_after s l ≡ Some m → HasLink l ls → HasLink m (filter_map (link_after s) ls)
  went l m [] own goes h = absurd (false≢true h)
  went l m (k ∷ ls) own goes h = ⊎_elim
      (λ (here : same_link l k ≡ true).
      ap (λ x. list_any (same_link m) (cons_option x (filter_map (link_after s) ls))) (ap (link_after s) (own k here) ∙ goes)
      ∙ or_left (same_link m m) (list_any (same_link m) (filter_map (link_after s) ls)) (same_link-self m))
      (λ (later : HasLink l ls). after_it (link_after s k) (went l m ls own goes later))
      (or_cases (same_link l k) (list_any (same_link l) ls) h)
    where
      after_it : (o : Option Link) → HasLink m (filter_map (link_after s) ls) → HasLink m (cons_option o (filter_map (link_after s) ls))
      after_it None there = there
      after_it (Some x) there = or_right (same_link m x) (list_any (same_link m) (filter_map (link_after s) ls)) there

  -- and what is among these came from a link
  came : (test : Link → Bool) (ls : List Link) → list_any test (filter_map (link_after s) ls) ≡ true → (l : Link) × (m : Link) × HasLink l ls × (link_after s l ≡ Some m) × (test m ≡ true)
  came test [] h = absurd (false≢true h)
  came test (k ∷ ls) h = by (link_after s k) refl (λ later. came test ls later)
    where
      later_one : (l : Link) × (m : Link) × HasLink l ls × (link_after s l ≡ Some m) × (test m ≡ true) → (l : Link) × (m : Link) × HasLink l (k ∷ ls) × (link_after s l ≡ Some m) × (test m ≡ true)
      later_one (l, m, is, goes, passes) = (l, m, or_right (same_link l k) (list_any (same_link l) ls) is, goes, passes)

      by : (o : Option Link) → link_after s k ≡ o
          → (list_any test (filter_map (link_after s) ls) ≡ true → (l : Link) × (m : Link) × HasLink l ls × (link_after s l ≡ Some m) × (test m ≡ true))
          → (l : Link) × (m : Link) × HasLink l (k ∷ ls) × (link_after s l ≡ Some m) × (test m ≡ true)
      by None e on = later_one (on (sym (ap (λ o. list_any test (cons_option o (filter_map (link_after s) ls))) e) ∙ h))
      by (Some x) e on = ⊎_elim
          (λ (here : test x ≡ true). (k, x, or_left (same_link k k) (list_any (same_link k) ls) (same_link-self k), e, here))
          (λ (later : list_any test (filter_map (link_after s) ls) ≡ true). later_one (on later))
          (or_cases (test x) (list_any test (filter_map (link_after s) ls)) (sym (ap (λ o. list_any test (cons_option o (filter_map (link_after s) ls))) e) ∙ h))

  -- so it is with the links of a tree
  pub cell_goes : (t : Term Corner) (p q : Place) → place_after s p ≡ Some q → HasLink (links.Cell p) (links_in t) → HasLink (links.Cell q) (links_in (rewritten s t))
  cell_goes t p q goes h =
      ap (list_any (same_link (links.Cell q))) (moved_links t)
      ∙ went (links.Cell p) (links.Cell q) (links_in t) (same_cell p) (ap (option_map links.Cell) goes) h

  pub area_goes : (t : Term Corner) (b c : Block) → block_after s b ≡ Some c → HasLink (links.Area b) (links_in t) → HasLink (links.Area c) (links_in (rewritten s t))
  area_goes t b c goes h =
      ap (list_any (same_link (links.Area c))) (moved_links t)
      ∙ went (links.Area b) (links.Area c) (links_in t) (same_area b) (ap (option_map links.Area) goes) h

  pub range_goes : (t : Term Corner) (v w : Whole) → whole_after s v ≡ Some w → HasLink (links.Whole v) (links_in t) → HasLink (links.Whole w) (links_in (rewritten s t))
  range_goes t v w goes h =
      ap (list_any (same_link (links.Whole w))) (moved_links t)
      ∙ went (links.Whole v) (links.Whole w) (links_in t) (same_range v) (ap (option_map links.Whole) goes) h

  pub link_came : (t : Term Corner) (test : Link → Bool) → list_any test (links_in (rewritten s t)) ≡ true → (l : Link) × (m : Link) × HasLink l (links_in t) × (link_after s l ≡ Some m) × (test m ≡ true)
  link_came t test h = came test (links_in t) (sym (ap (list_any test) (moved_links t)) ∙ h)

-- ---- trees that ask for no place

uncounted : (skip : Bool) (r : Bool) (l : Link) (xs : List Link) → skip ≡ false → HasLink l xs → HasLink l (cond (skip && r) [] xs)
uncounted true r l xs e h = absurd (false≢true (sym e))
uncounted false r l xs e h = h

in_left : (l : Link) (xs ys : List Link) → HasLink l xs → HasLink l (xs ++ ys)
in_left l xs ys h = list_any-append (same_link l) xs ys ∙ or_left (list_any (same_link l) xs) (list_any (same_link l) ys) h

in_right : (l : Link) (xs ys : List Link) → HasLink l ys → HasLink l (xs ++ ys)
in_right l xs ys h = list_any-append (same_link l) xs ys ∙ or_right (list_any (same_link l) xs) (list_any (same_link l) ys) h

module _ (P : Link → Type 0) where
  mutual
    -- what holds of each of its links holds of each of its references
    pub by_links : (t : Term Corner) → asks_place t ≡ false → ((l : Link) → HasLink l (links_in t) → P l) → EachReference (λ c. P (links.Cell c.at)) (λ lines c d. P (link_between lines c d)) t
    by_links (cell c) h each = each (links.Cell c.at) (or_left (same_link (links.Cell c.at) (links.Cell c.at)) false (same_link-self (links.Cell c.at)))
    by_links (area c d) h each = each (links.Area (block_of c d)) (or_left (same_link (links.Area (block_of c d)) (links.Area (block_of c d))) false (same_link-self (links.Area (block_of c d))))
    by_links (whole axis c d) h each =
        let l = links.Whole (whole_between axis c d) in each l (or_left (same_link l l) false (same_link-self l))
    by_links (prefix s t) h each = by_links t h each
    by_links (percent t) h each = by_links t h each
    by_links (binary o l r) h each =
        let (first, second) = or_parts (asks_place l) (asks_place r) h in
        (by_links l first (λ k is. each k (in_left k (links_in l) (links_in r) is)), by_links r second (λ k is. each k (in_right k (links_in l) (links_in r) is)))
    by_links (call w ts) h each = let (word, rest) = or_parts (is_place_word w) (any_asks_place ts) h in all_by_links (is_place_word w) ts word rest each
    by_links (paren t) h each = by_links t h each
    by_links (number m) h each = tt
    by_links (text s) h each = tt
    by_links (truth b) h each = tt
    by_links (fault k) h each = tt
    by_links (terms.name w) h each = tt

    all_by_links : (skip : Bool) (ts : Terms Corner) → skip ≡ false → any_asks_place ts ≡ false → ((l : Link) → HasLink l (links_in_all skip ts) → P l)
        → EachReferenceOfAll (λ c. P (links.Cell c.at)) (λ lines c d. P (link_between lines c d)) ts
    all_by_links skip no_terms e h each = tt
    all_by_links skip (term t ts) e h each =
        let (first, second) = or_parts (asks_place t) (any_asks_place ts) h in (
          by_links t first (λ k is. each k (in_left k (cond (skip && is_reference t) [] (links_in t)) (links_in_all skip ts) (uncounted skip (is_reference t) k (links_in t) e is))),
          all_by_links skip ts e second (λ k is. each k (in_right k (cond (skip && is_reference t) [] (links_in t)) (links_in_all skip ts) is)),
        )

mutual
  pub asks_nowhere : (t : Term Corner) → asks_place t ≡ false → AsksNowhere t
  asks_nowhere (prefix s t) h = asks_nowhere t h
  asks_nowhere (percent t) h = asks_nowhere t h
  asks_nowhere (binary o l r) h = let (first, second) = or_parts (asks_place l) (asks_place r) h in (asks_nowhere l first, asks_nowhere r second)
  asks_nowhere (call w ts) h =
      let (word, rest) = or_parts (is_place_word w) (any_asks_place ts) h in
      ((or_parts (asks_where w) (bytes_eq w (codes "ROWS") || bytes_eq w (codes "COLUMNS")) word).0, all_ask_nowhere ts rest)
  asks_nowhere (paren t) h = asks_nowhere t h
  asks_nowhere (number m) h = tt
  asks_nowhere (text s) h = tt
  asks_nowhere (truth b) h = tt
  asks_nowhere (fault k) h = tt
  asks_nowhere (cell c) h = tt
  asks_nowhere (area c d) h = tt
  asks_nowhere (whole axis c d) h = tt
  asks_nowhere (terms.name w) h = tt

  all_ask_nowhere : (ts : Terms Corner) → any_asks_place ts ≡ false → AllAskNowhere ts
  all_ask_nowhere no_terms h = tt
  all_ask_nowhere (term t ts) h = let (first, second) = or_parts (asks_place t) (any_asks_place ts) h in (asks_nowhere t first, all_ask_nowhere ts second)
