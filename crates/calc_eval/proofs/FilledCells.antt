-- The filled cells of a block one after another. Serves `filled_area` and `filled_summary`.
use Rattle.std.proofs.Common.{◌≡◌, ◌∙◌, sym, ap, refl, subst, arith, ℕ, zero, suc, ◌+◌, ◌-◌, ◌*◌, ◌<◌, ◌≤◌, Bool, true, false, cond, List, [], ◌∷◌, ◌++◌, length, take, drop, set, get_or, Option, Some, None, ⊎_elim}
use Rattle.std.specs.BTreeMap.{is_at}
use Rattle.std.specs.Borrow.{Bor}
use Rattle.std.proofs.Math.Nat.{mul-le-mul_right, suc-mul}
use Rattle.cell_value.proofs.Filling.{empty_from_any}
use Rattle.std.specs.List.{list_all}
use Rattle.std.specs.Map.{keys_of, lookup}
use Rattle.std.specs.Option.{option_or, unwrap_or}
use Rattle.std.specs.Ordering.{is_eq}
use Rattle.std.specs.declared.cmp.Ordering.{Ordering}
use Rattle.std.specs.declared.cmp.Ordering.TheVariants.{Less, Equal, Greater}
use Rattle.std.proofs.lemmas.Bool.{and_parts, cases_Bool, false≢true}
use Rattle.std.proofs.lemmas.Bool.Decides.{nat_tests}
use Rattle.std.proofs.lemmas.List.{get_or-map, length-map, take_more}
use Rattle.std.proofs.lemmas.Map.Keys.{Less-from_sorted}
use Rattle.cell_addr.proofs.Places.{place_cmp-IsAntisymmetric}
use Rattle.cell_addr.specs.Order.{place_cmp}
use Rattle.cell_addr.specs.Place.{covers, height, width}
use Rattle.cell_addr.specs.declared.place.Place.{Place}
use Rattle.cell_addr.specs.declared.place.Block.{Block}
use Rattle.cell_value.proofs.Summaries.{summary_of-append}
use Rattle.cell_value.specs.Cells.{IsEmptyFrom, with_value}
use Rattle.cell_value.specs.Scalar.{is_empty}
use Rattle.cell_value.specs.Summary.{alone, joined, no_values, summary_of}
use Rattle.cell_value.specs.declared.scalar.Scalar.{Scalar}
use Rattle.cell_value.specs.declared.scalar.Scalar.TheVariants.{Empty}
use Rattle.cell_value.specs.declared.scalar.Scalar.TheVariants as scalar
use Rattle.calc_terms.specs.Cells.{cells_in, size_of}
use Rattle.calc_eval.specs.Filled.{AreFilled, seen_cells, shown_by}
use Rattle.calc_eval.proofs.BlockChanges.{empty_from_in, none_in, size_in, with_value_in}

equal_from_is_eq : (o : Ordering) → is_eq o ≡ true → o ≡ Equal
equal_from_is_eq Less h = cc
equal_from_is_eq Equal h = refl
equal_from_is_eq Greater h = cc

-- places that compare as equal are one
pub one_place : (p q : Place) → is_at (place_cmp p) q ≡ true → p ≡ q
one_place p q here = place_cmp-IsAntisymmetric p q (equal_from_is_eq (place_cmp p q) here)

place_at_itself : (p : Place) → is_at (place_cmp p) p ≡ true
place_at_itself p = grind (arith, nat_tests)

-- a place that isn't before another isn't below it
not_below_row : (p q : Place) → p.sheet ≡ q.sheet → q.row < p.row → place_cmp p q ≡ Less → ⊥
not_below_row p q sheet above h = grind (arith, nat_tests)

not_below_col : (p q : Place) → p.sheet ≡ q.sheet → p.row ≡ q.row → q.col ≤ p.col → place_cmp p q ≡ Less → ⊥
not_below_col p q sheet row above h = grind (arith, nat_tests)

module _ {X : Type 0} where
  or_some : (b : Bool) (x : X) (r s : Option X) → cond b (Some x) (option_or r s) ≡ option_or (cond b (Some x) r) s
  or_some true x r s = refl
  or_some false x r s = refl

  lookup-append : (test : Place → Bool) (xs ys : List (Place × X)) → lookup test (xs ++ ys) ≡ option_or (lookup test xs) (lookup test ys)
  lookup-append test [] ys = refl
  lookup-append test (x ∷ xs) ys = ap (cond (test x.0) (Some x.1)) (lookup-append test xs ys) ∙ or_some (test x.0) x.1 (lookup test xs) (lookup test ys)

  or_none : (r : Option X) → option_or r None ≡ r
  or_none None = refl
  or_none (Some x) = refl

  -- nothing stands at a place among entries before another place, where it isn't below that one
  none_before : (xs : List (Place × X)) (i : ℕ) (at q : Place) → ((k : ℕ) (d : Place × X) → k < i → k < length xs → place_cmp (get_or xs k d).0 at ≡ Less) → (place_cmp q at ≡ Less → ⊥)
      → lookup (is_at (place_cmp q)) (take i xs) ≡ None
  none_before [] zero at q below far = refl
  none_before [] (suc i) at q below far = refl
  none_before (x ∷ xs) zero at q below far = refl
  none_before (x ∷ xs) (suc i) at q below far = ⊎_elim
      (λ here. absurd (far (subst (λ p. place_cmp p at ≡ Less) (sym (one_place q x.0 here)) (below 0 x (omega arith) (omega arith)))))
      (λ there. ap (λ b. cond b (Some x.1) (lookup (is_at (place_cmp q)) (take i xs))) there ∙ none_before xs i at q (λ k d low inside. below (suc k) d (omega arith) (omega arith)) far)
      (cases_Bool (is_at (place_cmp q) x.0))

module _ (b : Block) (cells : List (Place × Scalar)) (filled : AreFilled b cells) (i : ℕ) (inside : i < length cells) (d : Place × Scalar) where
  abbrev cell : Place × Scalar
  cell = get_or cells i d

  abbrev shown_before : Place → Scalar
  shown_before = shown_by (take i cells)

  abbrev shown_after : Place → Scalar
  shown_after = shown_by (take (i + 1) cells)

  is_covered : covers b cell.0 ≡ true
  is_covered = filled.covered i d inside

  row_inside : cell.0.row - b.top < height b
  row_inside = let h = is_covered in grind (arith, nat_tests)

  col_inside : cell.0.col - b.left < width b
  col_inside = let h = is_covered in grind (arith, nat_tests)

  from_top : b.top ≤ cell.0.row
  from_top = let h = is_covered in grind (arith, nat_tests)

  from_left : b.left ≤ cell.0.col
  from_left = let h = is_covered in grind (arith, nat_tests)

  same_sheet : b.sheet ≡ cell.0.sheet
  same_sheet = let h = is_covered in grind (arith, nat_tests)

  below : (k : ℕ) (e : Place × Scalar) → k < i → k < length cells → place_cmp (get_or cells k e).0 cell.0 ≡ Less
  below k e low within =
      ap (λ p. place_cmp p cell.0) (sym (get_or-map (λ x. x.0) cells k e d.0 within))
      ∙ ap (place_cmp (get_or (keys_of cells) k d.0)) (sym (get_or-map (λ x. x.0) cells i d d.0 inside))
      ∙ Less-from_sorted place_cmp (keys_of cells) k i d.0 filled.ordered low (let len = length-map cells (λ (x : Place × Scalar). x.0) in omega (arith, len, inside))

  here : record { sheet = b.sheet; row = b.top + (cell.0.row - b.top); col = b.left + (cell.0.col - b.left) } ≡ cell.0
  here =
      let sheet = same_sheet in
      let top = from_top in
      let left = from_left in
      let row : b.top + (cell.0.row - b.top) ≡ cell.0.row = omega (arith, top) in
      let col : b.left + (cell.0.col - b.left) ≡ cell.0.col = omega (arith, left) in
      λ j. record { sheet = sheet j; row = row j; col = col j }

  after-lookup : (q : Place) → lookup (is_at (place_cmp q)) (take (i + 1) cells) ≡ option_or (lookup (is_at (place_cmp q)) (take i cells)) (cond (is_at (place_cmp q) cell.0) (Some cell.1) None)
  after-lookup q = ap (lookup (is_at (place_cmp q))) (take_more cells i d inside) ∙ lookup-append (is_at (place_cmp q)) (take i cells) (cell ∷ [])

  shows_itself : shown_after cell.0 ≡ cell.1
  shows_itself =
      ap (λ r. unwrap_or r Empty)
      (after-lookup cell.0
      ∙ ap (λ r. option_or r (cond (is_at (place_cmp cell.0) cell.0) (Some cell.1) None)) (none_before cells i cell.0 cell.0 below (λ h. not_below_col cell.0 cell.0 refl refl (omega arith) h))
      ∙ ap (λ t. cond t (Some cell.1) None) (place_at_itself cell.0))

  shows_others : (q : Place) → (q ≡ cell.0 → ⊥) → shown_after q ≡ shown_before q
  shows_others q apart = ⊎_elim
      (λ same. absurd (apart (one_place q cell.0 same)))
      (λ other. ap (λ r. unwrap_or r Empty)
      (after-lookup q ∙ ap (λ t. option_or (lookup (is_at (place_cmp q)) (take i cells)) (cond t (Some cell.1) None)) other ∙ or_none (lookup (is_at (place_cmp q)) (take i cells))))
      (cases_Bool (is_at (place_cmp q) cell.0))

  shows_nothing : (q : Place) → (place_cmp q cell.0 ≡ Less → ⊥) → is_empty (shown_before q) ≡ true
  shows_nothing q far = ap (λ r. is_empty (unwrap_or r Empty)) (none_before cells i cell.0 q below far)

  -- one filled cell more
  fills : with_value (cells_in shown_before b) (cell.0.row - b.top) (cell.0.col - b.left) cell.1 ≡ cells_in shown_after b
  fills = with_value_in b (cell.0.row - b.top) (cell.0.col - b.left) row_inside col_inside shown_before shown_after cell.1
      (ap shown_after here ∙ shows_itself) (λ q apart. shows_others q (λ e. apart (e ∙ sym here)))

  -- before it all cells from it on are empty
  empty_yet : IsEmptyFrom (cells_in shown_before b) (cell.0.row - b.top) (cell.0.col - b.left)
  unfolding cells_in
  empty_yet =
      let sheet = same_sheet in
      let top = from_top in
      let left = from_left in
      empty_from_in b (cell.0.row - b.top) (cell.0.col - b.left) row_inside col_inside shown_before
      (λ c low. shows_nothing (record { sheet = b.sheet; row = b.top + (cell.0.row - b.top); col = c })
      (not_below_col (record { sheet = b.sheet; row = b.top + (cell.0.row - b.top); col = c }) cell.0 sheet (omega (arith, top)) (omega (arith, left, low))))
      (λ r c low. shows_nothing (record { sheet = b.sheet; row = r; col = c }) (not_below_row (record { sheet = b.sheet; row = r; col = c }) cell.0 sheet (omega (arith, top, low))))

before_all : (b : Block) (row col : ℕ) → row < height b → col < width b → row * width b + col < size_of b
before_all b row col r c =
    let within = mul-le-mul_right {m = suc row} {n = height b} (width b) (omega arith) in
    let more = suc-mul row (width b) in
    omega arith

-- values that are all empty come to nothing
alone_empty : (x : Scalar) → is_empty x ≡ true → alone x ≡ no_values
alone_empty scalar.Empty h = refl
alone_empty (scalar.Number n) h = absurd (false≢true h)
alone_empty (scalar.Text s) h = absurd (false≢true h)
alone_empty (scalar.Truth t) h = absurd (false≢true h)
alone_empty (scalar.Fault k) h = absurd (false≢true h)

none_first : (xs : List Scalar) → joined no_values (summary_of xs) ≡ summary_of xs
unfolding summary_of
none_first xs = sym (summary_of-append [] xs)

empty_first : (x : Scalar) (xs : List Scalar) → is_empty x ≡ true → summary_of (x ∷ xs) ≡ summary_of xs
unfolding summary_of
empty_first x xs h = ap (λ s. joined s (summary_of xs)) (alone_empty x h) ∙ none_first xs

pub summary_of_none : (xs : List Scalar) → list_all is_empty xs ≡ true → summary_of xs ≡ no_values
unfolding summary_of
summary_of_none [] h = refl
summary_of_none (x ∷ xs) h =
    let (first, rest) = and_parts (is_empty x) (list_all is_empty xs) h in
    empty_first x xs first ∙ summary_of_none xs rest

empties_first : (xs ys : List Scalar) → list_all is_empty xs ≡ true → summary_of (xs ++ ys) ≡ summary_of ys
empties_first [] ys h = refl
empties_first (x ∷ xs) ys h =
    let (first, rest) = and_parts (is_empty x) (list_all is_empty xs) h in
    empty_first x (xs ++ ys) first ∙ empties_first xs ys rest

of_one : (x : Scalar) → alone x ≡ summary_of (x ∷ [])
unfolding summary_of
of_one scalar.Empty = refl
of_one (scalar.Number n) = grind arith
of_one (scalar.Text s) = refl
of_one (scalar.Truth t) = refl
of_one (scalar.Fault k) = refl

put_at_end : (xs : List Scalar) (k : ℕ) (v : Scalar) → k < length xs → list_all is_empty (drop k xs) ≡ true → summary_of (set xs k v) ≡ summary_of (xs ++ v ∷ [])
unfolding summary_of
put_at_end [] k v inside none = absurd (omega arith)
put_at_end (x ∷ xs) zero v inside none =
    let (first, rest) = and_parts (is_empty x) (list_all is_empty xs) none in
    ap (joined (alone v)) (summary_of_none xs rest) ∙ sym (empties_first (x ∷ xs) (v ∷ []) none)
put_at_end (x ∷ xs) (suc k) v inside none = ap (joined (alone x)) (put_at_end xs k v (omega arith) none)

-- one value more behind those that are there
pub summary_more : (xs : List Scalar) (k : ℕ) (v : Scalar) → k < length xs → list_all is_empty (drop k xs) ≡ true → summary_of (set xs k v) ≡ joined (summary_of xs) (alone v)
summary_more xs k v inside none = put_at_end xs k v inside none ∙ summary_of-append xs (v ∷ []) ∙ ap (joined (summary_of xs)) (sym (of_one v))

-- what a filled cell does to the block
pub record Fills (b : Block) (cells : List (Place × Scalar)) (i : ℕ) (e : Place × Scalar) : Type 0 where
  pub top : b.top ≤ e.0.row
  pub left : b.left ≤ e.0.col
  pub row : e.0.row - b.top < height b
  pub col : e.0.col - b.left < width b
  pub empty : IsEmptyFrom (cells_in (shown_by (take i cells)) b) (e.0.row - b.top) (e.0.col - b.left)
  pub filled : with_value (cells_in (shown_by (take i cells)) b) (e.0.row - b.top) (e.0.col - b.left) e.1 ≡ cells_in (shown_by (take (i + 1) cells)) b
  pub sums : joined (summary_of (cells_in (shown_by (take i cells)) b).values) (alone e.1) ≡ summary_of (cells_in (shown_by (take (i + 1) cells)) b).values

module _ (b : Block) (cells : List (Place × Scalar)) (filled : AreFilled b cells) (i : ℕ) (inside : i < length cells) (d : Place × Scalar) where
  sums : joined (summary_of (cells_in (shown_by (take i cells)) b).values) (alone (get_or cells i d).1) ≡ summary_of (cells_in (shown_by (take (i + 1) cells)) b).values
  unfolding cells_in
  sums =
      let row = row_inside b cells filled i inside d in
      let col = col_inside b cells filled i inside d in
      let at = ((get_or cells i d).0.row - b.top) * width b + ((get_or cells i d).0.col - b.left) in
      let within : at < size_of b = before_all b ((get_or cells i d).0.row - b.top) ((get_or cells i d).0.col - b.left) row col in
      sym (summary_more (cells_in (shown_by (take i cells)) b).values at (get_or cells i d).1 (subst (λ n. at < n) (sym (size_in (shown_by (take i cells)) b)) within) (empty_yet b cells filled i inside d))
      ∙ ap (λ c. summary_of c.values) (fills b cells filled i inside d)

  pub cell_fills : (e : Place × Scalar) → get_or cells i d ≡ e → Fills b cells i e
  cell_fills e is = subst (Fills b cells i) is record {
    top = from_top b cells filled i inside d;
    left = from_left b cells filled i inside d;
    row = row_inside b cells filled i inside d;
    col = col_inside b cells filled i inside d;
    empty = empty_yet b cells filled i inside d;
    filled = fills b cells filled i inside d;
    sums = sums;
  }

pub seen_cell : (cells : List (Place × Bor Scalar)) (i : ℕ) (item : Place × Bor Scalar) → i < length cells → item ≡ get_or cells i item → get_or (seen_cells cells) i (item.0, item.1.now) ≡ (item.0, item.1.now)
seen_cell cells i item inside is = get_or-map (λ (cell : Place × Bor Scalar). (cell.0, cell.1.now)) cells i item (item.0, item.1.now) inside ∙ ap (λ cell. (cell.0, cell.1.now)) (sym is)

pub seen_inside : (cells : List (Place × Bor Scalar)) (i : ℕ) → i < length cells → i < length (seen_cells cells)
seen_inside cells i inside = let len = length-map {B = Place × Scalar} cells (λ (cell : Place × Bor Scalar). (cell.0, cell.1.now)) in omega (arith, len, inside)

-- at first nothing is filled, and the block comes to nothing
pub nothing_yet : (b : Block) (cells : List (Place × Scalar)) → no_values ≡ summary_of (cells_in (shown_by (take 0 cells)) b).values
nothing_yet b cells =
    sym (summary_of_none (cells_in (λ _. Empty) b).values (ap (λ c. list_all is_empty c.values) (sym (none_in b)) ∙ empty_from_any (height b * width b) 0))

pub rows_in : (f : Place → Scalar) (b : Block) → (cells_in f b).rows ≡ height b
unfolding cells_in
rows_in f b = refl

pub cols_in : (f : Place → Scalar) (b : Block) → (cells_in f b).cols ≡ width b
unfolding cells_in
cols_in f b = refl
