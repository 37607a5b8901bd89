-- The kept values of a block that aren't empty are those that its places show. Serves sums.
use Rattle.std.proofs.Common.{◌≡◌, ◌∙◌, sym, ap, refl, subst, arith, ℕ, zero, suc, ◌+◌, ◌-◌, ◌*◌, ◌<◌, ◌≤◌, Bool, true, false, cond, not, List, [], ◌∷◌, ◌++◌, map, length, take, drop, set, get_or, append_assoc, Result, Ok, Err, OnOk, OnErr}
use Rattle.std.specs.Borrow.{Bor}
use Rattle.std.specs.List.{list_all}
use Rattle.std.proofs.Math.Nat.{mul-le-mul_right, suc-mul}
use Rattle.std.proofs.lemmas.Bool.{and_parts}
use Rattle.std.proofs.lemmas.List.{append-nil, get_or-map, length-map, map-append, take_all, take_more}
use Rattle.cell_addr.specs.Place.{height, width}
use Rattle.cell_addr.specs.declared.place.Block.{Block}
use Rattle.cell_addr.specs.declared.place.Place.{Place}
use Rattle.cell_value.proofs.Filling.{empty_from_any}
use Rattle.cell_value.specs.Cells.{index_of}
use Rattle.cell_value.specs.Scalar.{is_empty}
use Rattle.cell_value.specs.declared.scalar.Scalar.{Scalar}
use Rattle.cell_value.specs.declared.scalar.Scalar.TheVariants.{Empty}
use Rattle.calc_terms.specs.Cells.{cells_in}
use Rattle.calc_eval.specs.Filled.{AreFilled, seen_cells, shown_by}
use Rattle.calc_eval.proofs.BlockChanges.{none_in, size_in}
use Rattle.calc_eval.proofs.FilledCells.{cell_fills, cols_in, seen_cell, seen_inside}
use Rattle.range_table.specs.Cells.{block_values, nonempty}
use Rattle.range_table.proofs.Sums.{nonempty-append}

-- ---- values put where all from there on are empty

left-by : (x : Scalar) (xs : List Scalar) (t : Bool) → t ≡ true → nonempty xs ≡ [] → cond (not t) (x ∷ nonempty xs) (nonempty xs) ≡ []
left-by x xs true e h = h
left-by x xs false e h = absurd (cc)

none_left : (xs : List Scalar) → list_all is_empty xs ≡ true → nonempty xs ≡ []
none_left [] h = refl
none_left (x ∷ xs) h = let (first, rest) = and_parts (is_empty x) (list_all is_empty xs) h in left-by x xs (is_empty x) first (none_left xs rest)

put_after : (xs : List Scalar) (k : ℕ) (v : Scalar) → k < length xs → list_all is_empty (drop k xs) ≡ true → nonempty (set xs k v) ≡ nonempty xs ++ nonempty (v ∷ [])
put_after [] k v inside none = absurd (omega arith)
put_after (x ∷ xs) zero v inside none =
    let (first, rest) = and_parts (is_empty x) (list_all is_empty xs) none in
    nonempty-append (v ∷ []) xs ∙ ap (λ ys. nonempty (v ∷ []) ++ ys) (none_left xs rest) ∙ append-nil (nonempty (v ∷ []))
    ∙ sym (ap (λ ys. ys ++ nonempty (v ∷ [])) (none_left (x ∷ xs) none))
put_after (x ∷ xs) (suc k) v inside none =
    nonempty-append (x ∷ []) (set xs k v)
    ∙ ap (λ ys. nonempty (x ∷ []) ++ ys) (put_after xs k v (omega arith) none)
    ∙ sym (append_assoc (nonempty (x ∷ [])) (nonempty xs) (nonempty (v ∷ [])))
    ∙ ap (λ ys. ys ++ nonempty (v ∷ [])) (sym (nonempty-append (x ∷ []) xs))

-- ---- the values of a block

abbrev origin : Place × Scalar
origin = (record { sheet = 0; row = 0; col = 0 }, Empty)

module _ (b : Block) (cells : List (Place × Scalar)) (filled : AreFilled b cells) where
  -- the first of them are those of a block where only these are filled
  abbrev AreThose : ℕ → Type 0
  AreThose i = nonempty (map (λ cell. cell.1) (take i cells)) ≡ nonempty (cells_in (shown_by (take i cells)) b).values

  at_first : AreThose 0
  at_first = sym (none_left (cells_in (λ _. Empty) b).values (ap (λ c. list_all is_empty c.values) (sym (none_in b)) ∙ empty_from_any (height b * width b) 0))

  one_more : (i : ℕ) → i < length cells → AreThose i → AreThose (i + 1)
  one_more i inside before =
      let e = get_or cells i origin in
      let shown = cells_in (shown_by (take i cells)) b in
      let row = e.0.row - b.top in
      let col = e.0.col - b.left in
      let fills = cell_fills b cells filled i inside origin e refl in
      let at = ap (λ w. row * w + col) (cols_in (shown_by (take i cells)) b) in
      let all = size_in (shown_by (take i cells)) b in
      let within = mul-le-mul_right {m = suc row} {n = height b} (width b) fills.row in
      let more = suc-mul row (width b) in
      let low = fills.col in
      ap (λ xs. nonempty (map (λ (cell : Place × Scalar). cell.1) xs)) (take_more cells i origin inside)
      ∙ ap nonempty (map-append (λ (cell : Place × Scalar). cell.1) (take i cells) (e ∷ []))
      ∙ nonempty-append (map (λ cell. cell.1) (take i cells)) (e.1 ∷ [])
      ∙ ap (λ xs. xs ++ nonempty (e.1 ∷ [])) before
      ∙ sym (put_after shown.values (index_of shown row col) e.1 (omega (arith, at, all, within, more, low)) fills.empty)
      ∙ ap (λ c. nonempty c.values) fills.filled

  so_far : (i : ℕ) → i ≤ length cells → AreThose i
  so_far zero within = at_first
  so_far (suc i) within = let next : i + 1 ≡ suc i = omega arith in subst AreThose next (one_more i (omega (arith, within)) (so_far i (omega (arith, within))))

  pub listed_values : nonempty (map (λ cell. cell.1) cells) ≡ nonempty (cells_in (shown_by cells) b).values
  listed_values =
      let all : take (length cells) cells ≡ cells = take_all (length cells) cells (omega arith) in
      subst (λ xs. nonempty (map (λ (cell : Place × Scalar). cell.1) xs) ≡ nonempty (cells_in (shown_by xs) b).values) all (so_far (length cells) (omega arith))

pub values_in : (f : Place → Scalar) (b : Block) → (cells_in f b).values ≡ block_values f b
unfolding cells_in
values_in f b = refl

-- ---- listed cells

-- their values, as they are
abbrev pub values_of : List (Place × Bor Scalar) → List Scalar
values_of cells = map (λ cell. cell.1) (seen_cells cells)

-- after one more of them
pub value_more : (cells : List (Place × Bor Scalar)) (i : ℕ) (item : Place × Bor Scalar) → i < length cells → item ≡ get_or cells i item → take i (values_of cells) ++ item.1.now ∷ [] ≡ take (i + 1) (values_of cells)
value_more cells i item inside is =
    let seen = seen_cells cells in
    let low = seen_inside cells i inside in
    let long = length-map {B = Scalar} seen (λ (cell : Place × Scalar). cell.1) in
    let here : get_or (values_of cells) i item.1.now ≡ item.1.now = get_or-map (λ (cell : Place × Scalar). cell.1) seen i (item.0, item.1.now) item.1.now low ∙ ap (λ (cell : Place × Scalar). cell.1) (seen_cell cells i item inside is) in
    ap (λ x. take i (values_of cells) ++ x ∷ []) (sym here) ∙ sym (take_more (values_of cells) i item.1.now (omega (arith, long, low)))

-- ---- steps

-- no more steps than were taken where there was memory, and none where there was none
pub most_steps : {A E : Type 0} (r : Result A E) (old new n m : ℕ) → OnOk r (new ≡ old + n) → OnErr r (new ≡ old) → n ≤ m → new ≤ old + m
most_steps (Ok _) old new n m ok err few = omega (arith, ok, few)
most_steps (Err _) old new n m ok err few = omega (arith, err)
