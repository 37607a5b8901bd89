-- Formulas as they are pasted: what holds of each reference, block and whole range, and of trees. Serves the laws, and callers.
use Rattle.std.proofs.Common.{◌≡◌, ◌≢◌, ◌∙◌, sym, ap, subst, refl, arith, ℕ, ◌<◌, ◌≤◌, min, ℤ, ◌+ℤ◌, ◌-ℤ◌, pos, negsuc, Bool, true, false, cond, ◌&&◌, ◌==◌, inl, inr, List, Option, Some, None}
use Rattle.std.specs.Prelude.{nat_lt, is_some}
use Rattle.std.proofs.lemmas.Bool.{eqb-true}
use Rattle.std.proofs.lemmas.Bool.Decides.{nat_tests}
use Rattle.std.proofs.lemmas.Int.{ints}
use Rattle.cell_addr.specs.declared.axis.Axis.{Axis}
use Rattle.cell_addr.specs.declared.axis.Axis.TheVariants.{Rows, Cols}
use Rattle.cell_addr.specs.Axis.{line_of as line_along}
use Rattle.cell_addr.specs.Place.{IsInside}
use Rattle.cell_addr.specs.Sheets.{name_in}
use Rattle.cell_addr.specs.declared.place.Place.{Place}
use Rattle.cell_addr.specs.declared.place.TheConstants.{ROWS, COLS}
use Rattle.formula_tree.specs.Grammar.{placed, first_of, last_of, cell_on}
use Rattle.formula_tree.specs.Level.{level, atom_level}
use Rattle.formula_tree.specs.Proper.{IsProper}
use Rattle.formula_tree.specs.Reference.{base_of, sheet_of, line_of, part_from, sheet_from, ref_from}
use Rattle.formula_tree.specs.StandsFor.{from_home, at_home}
use Rattle.formula_tree.specs.Term.{Term, number, text, truth, fault, cell, area, whole, name, prefix, percent, binary, call, paren, Terms, no_terms, term, depth_of, each_corner, each_corner_all, mapped, mapped_all, shaped}
use Rattle.formula_tree.specs.Whole.{AreWhole, first_corner, last_corner, fixed_along}
use Rattle.formula_tree.specs.declared.address.Address.{Address}
use Rattle.formula_tree.specs.declared.reference.Corner.{Corner}
use Rattle.formula_tree.specs.declared.reference.Home.{Home}
use Rattle.formula_tree.specs.declared.reference.Part.TheVariants.{Rel}
use Rattle.formula_tree.specs.declared.reference.Ref.{Ref}
use Rattle.formula_tree.proofs.SeenFromHome.{seen-back}
use Rattle.tree_rewrite.specs.Pasted.{AreThere, IsAreaThere, IsThere, address_pasted, area_pasted, cell_pasted, is_inside, line_pasted, pasted, shaped_on, sheet_if, sheet_pasted}
use Rattle.tree_rewrite.specs.References.{EachReference, EachReferenceOfAll, FitsSheets, IsAreaInside, IsReferenceInside}
use Rattle.tree_rewrite.specs.Sheets.{HasSheet}
use Rattle.tree_rewrite.proofs.EachReferences.{EachReference-all, EachReference-mapped, mapped-sheet}
use Rattle.tree_rewrite.proofs.Inside.{fits-inside}
use Rattle.tree_rewrite.proofs.Levels.{depth_of-mapped, proper-mapped}

both : (a b : Bool) → (a && b) ≡ true → (a ≡ true) × (b ≡ true)
both true b h = (refl, h)
both false b h = absurd (cc)

inside-of : (n : ℕ) (a : Address) → is_inside a ≡ true → IsInside (placed n a).at
inside-of n a h = let e = both (nat_lt a.row ROWS) (nat_lt a.col COLS) h in (grind (arith, nat_tests), grind (arith, nat_tests))

-- two lines in order
low : (x y n : ℕ) → x < n → y < n → cond (nat_lt y x) y x < n
low x y n h k = elim (nat_lt y x) as (λ b. cond b y x < n) [ true ↦ k | false ↦ h ]

high : (x y n : ℕ) → x < n → y < n → cond (nat_lt y x) x y < n
high x y n h k = elim (nat_lt y x) as (λ b. cond b x y < n) [ true ↦ h | false ↦ k ]

ordered : (x y : ℕ) → cond (nat_lt y x) y x ≤ cond (nat_lt y x) x y
ordered x y = go (nat_lt y x) refl where
  go : (b : Bool) → nat_lt y x ≡ b → cond b y x ≤ cond b x y
  go true e = grind (arith, nat_tests)
  go false e = grind (arith, nat_tests)

-- a reference that is there, and a block or a whole range
cell-proper : (n : ℕ) (a : Address) (b : Bool) → (b ≡ true → is_inside a ≡ true) → IsProper (cell_on (cond b (Some n) None) a)
cell-proper n a true h = inside-of n a (h refl)
cell-proper n a false h = tt

area-proper : (n : ℕ) (a c : Address) (b : Bool) → (b ≡ true → (is_inside a && is_inside c) ≡ true) → IsProper (shaped_on None (cond b (Some n) None) a c)
area-proper n a c true h =
    let e = both (is_inside a) (is_inside c) (h refl) in
    let i = inside-of n a e.0 in
    let j = inside-of n c e.1 in (
      (low a.row c.row ROWS i.0 j.0, low a.col c.col COLS i.1 j.1),
      (high a.row c.row ROWS i.0 j.0, high a.col c.col COLS i.1 j.1),
      (refl, ordered a.row c.row, ordered a.col c.col),
    )
area-proper n a c false h = tt

-- the corners of a whole range are those of one again
whole-along : (axis : Axis) (from to : Place) (n s t k m : ℕ) (f g : Bool)
    → AreWhole axis (placed n (first_of (address_pasted from to (first_corner axis s k f)) (address_pasted from to (last_corner axis t m g))))
    (placed n (last_of (address_pasted from to (first_corner axis s k f)) (address_pasted from to (last_corner axis t m g))))
whole-along Rows from to n s t k m f g = (refl, refl)
whole-along Cols from to n s t k m f g = (refl, refl)

whole-pasted : (axis : Axis) (from to : Place) (n : ℕ) (c d : Corner) → AreWhole axis c d
    → AreWhole axis (placed n (first_of (address_pasted from to c) (address_pasted from to d))) (placed n (last_of (address_pasted from to c) (address_pasted from to d)))
whole-pasted axis from to n c d w =
    let P : Corner → Corner → Type 0 = λ x y. AreWhole axis (placed n (first_of (address_pasted from to x) (address_pasted from to y))) (placed n (last_of (address_pasted from to x) (address_pasted from to y))) in
    let first = first_corner axis c.at.sheet (line_along axis c.at) (fixed_along axis c) in
    let along = whole-along axis from to n c.at.sheet d.at.sheet (line_along axis c.at) (line_along axis d.at) (fixed_along axis c) (fixed_along axis d) in
    subst (λ x. P x d) (sym w.0) (subst (P first) (sym w.1) along)

shaped-proper : (lines : Option Axis) (from to : Place) (n : ℕ) (c d : Corner) (b : Bool) → (b ≡ true → (is_inside (address_pasted from to c) && is_inside (address_pasted from to d)) ≡ true) → IsProper (shaped lines c d)
    → IsProper (shaped_on lines (cond b (Some n) None) (address_pasted from to c) (address_pasted from to d))
shaped-proper None from to n c d b h p = area-proper n (address_pasted from to c) (address_pasted from to d) b h
shaped-proper (Some axis) from to n c d true h p =
    let o = area-proper n (address_pasted from to c) (address_pasted from to d) true h in (o.0, o.1, o.2, whole-pasted axis from to n c d p.3)
shaped-proper (Some axis) from to n c d false h p = tt

cell-fits : (n : ℕ) (a : Address) (b : Bool) → (b ≡ true → is_inside a ≡ true) → FitsSheets (cell_on (cond b (Some n) None) a)
cell-fits n a true h = inside-of n a (h refl)
cell-fits n a false h = tt

block-fits : (n : ℕ) (a c : Address) → (is_inside a && is_inside c) ≡ true → IsAreaInside None (placed n (first_of a c)) (placed n (last_of a c))
block-fits n a c h =
    let e = both (is_inside a) (is_inside c) h in
    let i = inside-of n a e.0 in
    let j = inside-of n c e.1 in (ordered a.row c.row, high a.row c.row ROWS i.0 j.0, ordered a.col c.col, high a.col c.col COLS i.1 j.1)

area-fits : (lines : Option Axis) (n : ℕ) (a c : Address) (b : Bool) → (b ≡ true → (is_inside a && is_inside c) ≡ true) → FitsSheets (shaped_on lines (cond b (Some n) None) a c)
area-fits None n a c true h = block-fits n a c (h refl)
area-fits (Some axis) n a c true h = block-fits n a c (h refl)
area-fits lines n a c false h = tt

cell-atom : (o : Option ℕ) (a : Address) → (level (cell_on o a) ≡ atom_level) × (depth_of (cell_on o a) ≡ 1)
cell-atom (Some n) a = (refl, refl)
cell-atom None a = (refl, refl)

area-atom : (lines : Option Axis) (o : Option ℕ) (a c : Address) → (level (shaped_on lines o a c) ≡ atom_level) × (depth_of (shaped_on lines o a c) ≡ 1)
area-atom None (Some n) a c = (refl, refl)
area-atom (Some axis) (Some n) a c = (refl, refl)
area-atom lines None a c = (refl, refl)

cell-sheet : (m n : ℕ) (a : Address) (b : Bool) → HasSheet m (cell_on (cond b (Some n) None) a) → (b ≡ true) × (n ≡ m)
cell-sheet m n a true h = (refl, h)
cell-sheet m n a false h = absurd h

area-sheet : (m n : ℕ) (lines : Option Axis) (a c : Address) (b : Bool) → HasSheet m (shaped_on lines (cond b (Some n) None) a c) → (b ≡ true) × (n ≡ m)
area-sheet m n None a c true (inl h) = (refl, h)
area-sheet m n None a c true (inr h) = (refl, h)
area-sheet m n (Some axis) a c true (inl h) = (refl, h)
area-sheet m n (Some axis) a c true (inr h) = (refl, h)
area-sheet m n lines a c false h = absurd h

-- what a tree pasted somewhere is like
pub pasted-proper : (sheets : List (ℕ × List ℕ)) (from to : Home) (t : Term Corner) → IsProper t → IsProper (pasted sheets from to t)
pasted-proper sheets from to t p =
    proper-mapped _ _ (λ c. (cell-atom _ _).0) (λ lines c d. (area-atom lines _ _ _).0)
    (λ c q. cell-proper _ _ (is_some (name_in sheets (sheet_pasted (base_of from) (base_of to) c.at.sheet)) && is_inside (address_pasted (base_of from) (base_of to) c)) (λ h. (both _ _ h).1))
    (λ lines c d q. shaped-proper lines (base_of from) (base_of to) _ c d (is_some (name_in sheets (sheet_pasted (base_of from) (base_of to) c.at.sheet)) && (is_inside (address_pasted (base_of from) (base_of to) c) && is_inside (address_pasted (base_of from) (base_of to) d))) (λ h. (both _ _ h).1) q) t p

pub pasted-fits : (sheets : List (ℕ × List ℕ)) (from to : Home) (t : Term Corner) → FitsSheets (pasted sheets from to t)
pasted-fits sheets from to t =
    EachReference-mapped (λ c. Unit {0}) (λ lines c d. Unit {0}) IsReferenceInside IsAreaInside (cell_pasted sheets (base_of from) (base_of to)) (area_pasted sheets (base_of from) (base_of to))
    (λ c q. cell-fits _ _ (is_some (name_in sheets (sheet_pasted (base_of from) (base_of to) c.at.sheet)) && is_inside (address_pasted (base_of from) (base_of to) c)) (λ h. (both _ _ h).1))
    (λ lines c d q. area-fits lines _ _ _ (is_some (name_in sheets (sheet_pasted (base_of from) (base_of to) c.at.sheet)) && (is_inside (address_pasted (base_of from) (base_of to) c) && is_inside (address_pasted (base_of from) (base_of to) d))) (λ h. (both _ _ h).1)) t
    (EachReference-all (λ c. Unit {0}) (λ lines c d. Unit {0}) (λ c. tt) (λ lines c d. tt) t)

pub pasted-depth : (sheets : List (ℕ × List ℕ)) (from to : Home) (t : Term Corner) → depth_of (pasted sheets from to t) ≡ depth_of t
pasted-depth sheets from to t = depth_of-mapped _ _ (λ c. (cell-atom _ _).1) (λ lines c d. (area-atom lines _ _ _).1) t

pub pasted-sheet : (sheets : List (ℕ × List ℕ)) (from to : Home) (t : Term Corner) (m : ℕ) → HasSheet m (pasted sheets from to t) → is_some (name_in sheets m) ≡ true
pasted-sheet sheets from to t m h =
    mapped-sheet m (is_some (name_in sheets m) ≡ true) (cell_pasted sheets (base_of from) (base_of to)) (area_pasted sheets (base_of from) (base_of to))
    (λ c q. let w = cell-sheet m (sheet_pasted (base_of from) (base_of to) c.at.sheet) _ (is_some (name_in sheets (sheet_pasted (base_of from) (base_of to) c.at.sheet)) && is_inside (address_pasted (base_of from) (base_of to) c)) q in
    ap (λ n. is_some (name_in sheets n)) (sym w.1) ∙ (both _ _ w.0).0)
    (λ lines c d q. let w = area-sheet m (sheet_pasted (base_of from) (base_of to) c.at.sheet) lines _ _ (is_some (name_in sheets (sheet_pasted (base_of from) (base_of to) c.at.sheet)) && (is_inside (address_pasted (base_of from) (base_of to) c) && is_inside (address_pasted (base_of from) (base_of to) d))) q in
    ap (λ n. is_some (name_in sheets n)) (sym w.1) ∙ (both _ _ w.0).0) t h

-- a pasted tree is itself again, seen from its home and placed there
pub pasted-back : (sheets : List (ℕ × List ℕ)) (from to : Home) (t : Term Corner) → at_home to (from_home to (pasted sheets from to t)) ≡ pasted sheets from to t
pasted-back sheets from to t = seen-back to (pasted sheets from to t) (fits-inside (pasted sheets from to t) (pasted-fits sheets from to t))

-- a line within the limits lies where the formula's own line lies from it
line-stays : (from to line n : ℕ) (z : ℤ) → pos line +ℤ (pos to -ℤ pos from) ≡ z → line_of z < n → n ≤ ROWS → pos (line_of z) -ℤ pos to ≡ pos line -ℤ pos from
line-stays from to line n (pos k) e h i = let m : min k 4294967295 ≡ k = omega arith in rw m (omega (arith, ints, e))
line-stays from to line n (negsuc k) e h i = absurd (omega arith)

part-stays : (from to : ℕ) (fixed : Bool) (line n : ℕ) → line_pasted from to fixed line < n → n ≤ ROWS → part_from to fixed (line_pasted from to fixed line) ≡ part_from from fixed line
part-stays from to true line n h i = refl
part-stays from to false line n h i = ap (λ z. Rel z) (line-stays from to line n (pos line +ℤ (pos to -ℤ pos from)) refl h i)

sheet-stays : (own sheet : ℕ) (b : Bool) → (sheet == own) ≡ b → sheet_from own (cond b own sheet) ≡ sheet_from own sheet
sheet-stays own sheet true e = ap (sheet_from own) (sym (eqb-true sheet own e))
sheet-stays own sheet false e = refl

-- a reference is seen as before where the formula stays on its sheet
ref-stays : (from to : Place) (c : Corner) → from.sheet ≡ to.sheet → is_inside (address_pasted from to c) ≡ true
    → ref_from to (placed (sheet_pasted from to c.at.sheet) (address_pasted from to c)) ≡ ref_from from c
ref-stays from to c same h =
    let i = inside-of 0 (address_pasted from to c) h in
    let s : sheet_from to.sheet (sheet_pasted from to c.at.sheet) ≡ sheet_from from.sheet c.at.sheet = rw (sym same) (sheet-stays from.sheet c.at.sheet (c.at.sheet == from.sheet) refl) in
    let r = part-stays from.row to.row c.row_fixed c.at.row ROWS i.0 (omega arith) in
    let k = part-stays from.col to.col c.col_fixed c.at.col COLS i.1 (omega arith) in
    simp (s, r, k)

-- trees where references are seen as before
mutual
  seen-mapped : (k l : Corner → Ref) (f : Corner → Term Corner) (g : Option Axis → Corner → Corner → Term Corner) (P : Corner → Type 0) (Q : Option Axis → Corner → Corner → Type 0)
      → ((c : Corner) → P c → each_corner k (f c) ≡ cell (l c)) → ((lines : Option Axis) (c d : Corner) → Q lines c d → each_corner k (g lines c d) ≡ shaped lines (l c) (l d)) → (t : Term Corner) → EachReference P Q t
      → each_corner k (mapped f g t) ≡ each_corner l t
  seen-mapped k l f g P Q i j (number m) h = refl
  seen-mapped k l f g P Q i j (text w) h = refl
  seen-mapped k l f g P Q i j (truth b) h = refl
  seen-mapped k l f g P Q i j (fault e) h = refl
  seen-mapped k l f g P Q i j (cell c) h = i c h
  seen-mapped k l f g P Q i j (area c d) h = j None c d h
  seen-mapped k l f g P Q i j (whole axis c d) h = j (Some axis) c d h
  seen-mapped k l f g P Q i j (name w) h = refl
  seen-mapped k l f g P Q i j (prefix s t) h = ap (λ x. prefix s x) (seen-mapped k l f g P Q i j t h)
  seen-mapped k l f g P Q i j (percent t) h = ap (λ x. percent x) (seen-mapped k l f g P Q i j t h)
  seen-mapped k l f g P Q i j (binary o u v) h =
      ap (λ x. binary o x (each_corner k (mapped f g v))) (seen-mapped k l f g P Q i j u h.0) ∙ ap (λ x. binary o (each_corner l u) x) (seen-mapped k l f g P Q i j v h.1)
  seen-mapped k l f g P Q i j (call w ts) h = ap (λ x. call w x) (all_seen-mapped k l f g P Q i j ts h)
  seen-mapped k l f g P Q i j (paren t) h = ap (λ x. paren x) (seen-mapped k l f g P Q i j t h)

  all_seen-mapped : (k l : Corner → Ref) (f : Corner → Term Corner) (g : Option Axis → Corner → Corner → Term Corner) (P : Corner → Type 0) (Q : Option Axis → Corner → Corner → Type 0)
      → ((c : Corner) → P c → each_corner k (f c) ≡ cell (l c)) → ((lines : Option Axis) (c d : Corner) → Q lines c d → each_corner k (g lines c d) ≡ shaped lines (l c) (l d)) → (ts : Terms Corner) → EachReferenceOfAll P Q ts
      → each_corner_all k (mapped_all f g ts) ≡ each_corner_all l ts
  all_seen-mapped k l f g P Q i j no_terms h = refl
  all_seen-mapped k l f g P Q i j (term t ts) h =
      ap (λ x. term x (each_corner_all k (mapped_all f g ts))) (seen-mapped k l f g P Q i j t h.0) ∙ ap (λ x. term (each_corner l t) x) (all_seen-mapped k l f g P Q i j ts h.1)

-- what is there
there-parts : (a b : Bool) (n : ℕ) → cond (a && b) (Some n) None ≢ None → (a ≡ true) × (b ≡ true)
there-parts true true n h = (refl, refl)
there-parts true false n h = absurd (h refl)
there-parts false b n h = absurd (h refl)

cell-stays : (sheets : List (ℕ × List ℕ)) (from to : Place) (c : Corner) → from.sheet ≡ to.sheet → IsThere sheets from to c → each_corner (ref_from to) (cell_pasted sheets from to c) ≡ cell (ref_from from c)
cell-stays sheets from to c same h =
    let e = there-parts (is_some (name_in sheets (sheet_pasted from to c.at.sheet))) (is_inside (address_pasted from to c)) (sheet_pasted from to c.at.sheet) h in
    rw (e.0, e.1) (ap (λ r. cell r) (ref-stays from to c same e.1))

-- corners in order stay so
in-order : (a b : Address) → a.row ≤ b.row → a.col ≤ b.col → (first_of a b ≡ a) × (last_of a b ≡ b)
in-order a b h k =
    let r : nat_lt b.row a.row ≡ false = grind (arith, nat_tests) in
    let s : nat_lt b.col a.col ≡ false = grind (arith, nat_tests) in
    (rw (r, s) refl, rw (r, s) refl)

-- two corners as they are seen
seen-shaped : (lines : Option Axis) (to : Place) (c d : Corner) → each_corner (ref_from to) (shaped lines c d) ≡ shaped lines (ref_from to c) (ref_from to d)
seen-shaped None to c d = refl
seen-shaped (Some axis) to c d = refl

area-stays : (sheets : List (ℕ × List ℕ)) (from to : Place) (lines : Option Axis) (c d : Corner) → from.sheet ≡ to.sheet → IsAreaThere sheets from to c d
    → each_corner (ref_from to) (area_pasted sheets from to lines c d) ≡ shaped lines (ref_from from c) (ref_from from d)
area-stays sheets from to lines c d same h =
    let a = address_pasted from to c in
    let b = address_pasted from to d in
    let n = sheet_pasted from to c.at.sheet in
    let e = there-parts (is_some (name_in sheets n)) (is_inside a && is_inside b) n h.there in
    let i = both (is_inside a) (is_inside b) e.1 in
    let o = in-order a b h.rows h.cols in
    let one : sheet_if sheets n (is_inside a && is_inside b) ≡ Some n = rw (e.0, e.1) refl in
    ap (λ x. each_corner (ref_from to) (shaped_on lines x a b)) one
    ∙ seen-shaped lines to (placed n (first_of a b)) (placed n (last_of a b))
    ∙ ap (λ x. shaped lines (ref_from to (placed n x)) (ref_from to (placed n (last_of a b)))) o.0
    ∙ ap (λ x. shaped lines (ref_from to (placed n a)) (ref_from to (placed n x))) o.1
    ∙ ap (λ x. shaped lines x (ref_from to (placed n b))) (ref-stays from to c same i.0)
    ∙ ap (λ x. shaped lines (ref_from from c) x) (ap (λ s. ref_from to (placed (sheet_pasted from to s) b)) h.sheet ∙ ref-stays from to d same i.1)

pub pasted-stays : (sheets : List (ℕ × List ℕ)) (from to : Home) (t : Term Corner) → sheet_of from ≡ sheet_of to → AreThere sheets from to t → from_home to (pasted sheets from to t) ≡ from_home from t
pasted-stays sheets from to t same h =
    seen-mapped (ref_from (base_of to)) (ref_from (base_of from)) (cell_pasted sheets (base_of from) (base_of to)) (area_pasted sheets (base_of from) (base_of to))
    (IsThere sheets (base_of from) (base_of to)) (λ lines. IsAreaThere sheets (base_of from) (base_of to))
    (λ c q. cell-stays sheets (base_of from) (base_of to) c same q) (λ lines c d q. area-stays sheets (base_of from) (base_of to) lines c d same q) t h
