-- Filings under rows by columns of a sheet, and those that there were before. Serves the filing of ranges.
use Rattle.std.proofs.Common.{◌≡◌, ◌∙◌, sym, ap, refl, subst, arith, ℕ, zero, suc, ◌<◌, ◌≤◌, inl, inr, ⊎_elim, Bool, true, false, cond, ◌||◌, List, [], ◌∷◌, ◌++◌, length, get_or, nat_eq, eqb-true, Some, None}
use Rattle.std.specs.Prelude.{slice_get}
use Rattle.std.specs.declared.alloc.Global.{Global}
use Rattle.std.specs.declared.ops.Range.{Range}
use Rattle.std.specs.declared.vec.Vec.{Vec}
use Rattle.std.proofs.lemmas.Bool.{and_from, and_parts, cases_lt, eq-eqb, false≢true, or_cases, or_left, or_right}
use Rattle.std.proofs.lemmas.List.{get_or_past, length_push}
use Rattle.block_index.specs.Index.{finds}
use Rattle.block_slots.specs.Segments.{in_lines}
use Rattle.block_slots.specs.Slots.{in_block}
use Rattle.cell_addr.specs.Axis.{span_of}
use Rattle.cell_addr.specs.declared.axis.Axis.TheVariants.{Cols, Rows}
use Rattle.cell_addr.specs.declared.place.Block.{Block}
use Rattle.cell_addr.specs.declared.place.Place.{Place}
use Rattle.shift_core.proofs.CellMoves.{Covers-from_covers, covers-from_Covers}
use Rattle.place_lines.specs.Spots.{AreNumbersOf, in_runs, number_of, spot_of, table_along}
use Rattle.place_lines.specs.declared.lines.PlaceLines.{PlaceLines}
use Rattle.place_lines.specs.declared.spot.LineSpot.{LineSpot}
use Rattle.place_lines.proofs.Places.{same_spot}
use Rattle.dep_graph.specs.declared.files.Files.{Files}
use Rattle.dep_graph.specs.internal.Filings.{owner_at, serves_at}
use Rattle.dep_graph.specs.internal.Wholes.{finds_along, is_on_sheet}
use Rattle.dep_graph.specs.internal.Files.{FilesOn, FilesSpots, HasSpot, finds_filing, in_area, in_row, in_run}

-- ---- tests

pub same_test : (x y : Bool) → (x ≡ true → y ≡ true) → (y ≡ true → x ≡ true) → x ≡ y
same_test true y to from = sym (to refl)
same_test false true to from = from refl
same_test false false to from = refl

-- ---- the spots of an area

-- a spot is in one of the runs of columns where its column is
row_parts : (sheet : ℕ) (rows : Range ℕ) (cols : List (Range ℕ)) (spot : LineSpot) → in_row sheet rows cols spot ≡ true
    → (spot.sheet ≡ sheet) × (in_lines rows spot.row ≡ true) × (in_runs cols spot.col ≡ true)
row_parts sheet rows [] spot h = absurd (false≢true h)
row_parts sheet rows (run ∷ cols) spot h = ⊎_elim
    (λ (here : in_run sheet rows run spot ≡ true).
    let (s, lines) = and_parts (nat_eq spot.sheet sheet) (in_block rows run spot.row spot.col) here in
    let (row, col) = and_parts (in_lines rows spot.row) (in_lines run spot.col) lines in
    (eqb-true spot.sheet sheet s, row, or_left (in_lines run spot.col) (in_runs cols spot.col) col))
    (λ (later : in_row sheet rows cols spot ≡ true).
    let (s, row, col) = row_parts sheet rows cols spot later in
    (s, row, or_right (in_lines run spot.col) (in_runs cols spot.col) col))
    (or_cases (in_run sheet rows run spot) (in_row sheet rows cols spot) h)

row_from : (sheet : ℕ) (rows : Range ℕ) (cols : List (Range ℕ)) (spot : LineSpot) → spot.sheet ≡ sheet → in_lines rows spot.row ≡ true → in_runs cols spot.col ≡ true
    → in_row sheet rows cols spot ≡ true
row_from sheet rows [] spot s row col = absurd (false≢true col)
row_from sheet rows (run ∷ cols) spot s row col = ⊎_elim
    (λ (here : in_lines run spot.col ≡ true).
    or_left (in_run sheet rows run spot) (in_row sheet rows cols spot)
    (and_from (nat_eq spot.sheet sheet) (in_block rows run spot.row spot.col) (eq-eqb spot.sheet sheet s) (and_from (in_lines rows spot.row) (in_lines run spot.col) row here)))
    (λ (later : in_runs cols spot.col ≡ true). or_right (in_run sheet rows run spot) (in_row sheet rows cols spot) (row_from sheet rows cols spot s row later))
    (or_cases (in_lines run spot.col) (in_runs cols spot.col) col)

area_parts : (sheet : ℕ) (rows cols : List (Range ℕ)) (spot : LineSpot) → in_area sheet rows cols spot ≡ true
    → (spot.sheet ≡ sheet) × (in_runs rows spot.row ≡ true) × (in_runs cols spot.col ≡ true)
area_parts sheet [] cols spot h = absurd (false≢true h)
area_parts sheet (run ∷ rows) cols spot h = ⊎_elim
    (λ (here : in_row sheet run cols spot ≡ true).
    let (s, row, col) = row_parts sheet run cols spot here in
    (s, or_left (in_lines run spot.row) (in_runs rows spot.row) row, col))
    (λ (later : in_area sheet rows cols spot ≡ true).
    let (s, row, col) = area_parts sheet rows cols spot later in
    (s, or_right (in_lines run spot.row) (in_runs rows spot.row) row, col))
    (or_cases (in_row sheet run cols spot) (in_area sheet rows cols spot) h)

area_from : (sheet : ℕ) (rows cols : List (Range ℕ)) (spot : LineSpot) → spot.sheet ≡ sheet → in_runs rows spot.row ≡ true → in_runs cols spot.col ≡ true
    → in_area sheet rows cols spot ≡ true
area_from sheet [] cols spot s row col = absurd (false≢true row)
area_from sheet (run ∷ rows) cols spot s row col = ⊎_elim
    (λ (here : in_lines run spot.row ≡ true). or_left (in_row sheet run cols spot) (in_area sheet rows cols spot) (row_from sheet run cols spot s here col))
    (λ (later : in_runs rows spot.row ≡ true). or_right (in_row sheet run cols spot) (in_area sheet rows cols spot) (area_from sheet rows cols spot s later col))
    (or_cases (in_lines run spot.row) (in_runs rows spot.row) row)

-- the runs have the numbers of the lines of a block
module _ (lines : PlaceLines) (b : Block) (rows cols : List (Range ℕ)) (are_rows : AreNumbersOf (table_along Rows lines b.sheet) (span_of Rows b) rows)
    (are_cols : AreNumbersOf (table_along Cols lines b.sheet) (span_of Cols b) cols) (spot : LineSpot) where
  -- so a spot of their area is that of a place of the block
  pub place_in_area : in_area b.sheet rows cols spot ≡ true → HasSpot lines b spot
  place_in_area h =
      let (s, row, col) = area_parts b.sheet rows cols spot h in
      let (at_row, top, bottom, is_row) = (are_rows spot.row).0 row in
      let (at_col, left, right, is_col) = (are_cols spot.col).0 col in
      let p : Place = record { sheet = b.sheet; row = at_row; col = at_col } in
      (p, covers-from_Covers b p (refl, top, bottom, left, right), same_spot (spot_of lines p) spot (sym s) is_row is_col)

  -- and that of a place of the block is in the area
  pub in_its_area : HasSpot lines b spot → in_area b.sheet rows cols spot ≡ true
  in_its_area (p, covered, is) =
      let c = Covers-from_covers b p covered in
      let row : number_of (table_along Rows lines b.sheet) p.row ≡ spot.row = ap (λ sheet. number_of (table_along Rows lines sheet) p.row) c.0 ∙ ap (λ s. s.row) is in
      let col : number_of (table_along Cols lines b.sheet) p.col ≡ spot.col = ap (λ sheet. number_of (table_along Cols lines sheet) p.col) c.0 ∙ ap (λ s. s.col) is in
      area_from b.sheet rows cols spot (sym (c.0 ∙ ap (λ s. s.sheet) is))
      ((are_rows spot.row).1 (p.row, c.1, c.2, row))
      ((are_cols spot.col).1 (p.col, c.3, c.4, col))

-- ---- a new filing

-- what stood in a list stands there still after a push
gets_more : (xs more : List ℕ) (f : ℕ) → f < length xs → slice_get (xs ++ more) f ≡ slice_get xs f
gets_more [] more f low = absurd (omega (arith, low))
gets_more (x ∷ xs) more zero low = refl
gets_more (x ∷ xs) more (suc f) low = gets_more xs more f (omega (arith, low))

pub owner_pushed : (old new : Vec ℕ Global) (b : Bool) (x f : ℕ) → new.items ≡ cond b (old.items ++ x ∷ []) old.items → f < length old.items → owner_at new f ≡ owner_at old f
owner_pushed old new b x f pushed low = ap (λ xs. slice_get xs f) pushed ∙ by b
  where
    by : (t : Bool) → slice_get (cond t (old.items ++ x ∷ []) old.items) f ≡ slice_get old.items f
    by true = gets_more old.items (x ∷ []) f low
    by false = refl

pub count_pushed : (old new : Vec ℕ Global) (b : Bool) (x : ℕ) → new.items ≡ cond b (old.items ++ x ∷ []) old.items → length old.items ≤ length new.items
count_pushed old new b x pushed = subst (λ xs. length old.items ≤ length xs) (sym pushed) (by b)
  where
    by : (t : Bool) → length old.items ≤ length (cond t (old.items ++ x ∷ []) old.items)
    by true = omega (arith, length_push old.items x)
    by false = omega arith

-- a filing that is added serves no node
pub serves_pushed : (old new : Vec Bool Global) (b : Bool) (f : ℕ) → new.items ≡ cond b (old.items ++ false ∷ []) old.items → serves_at new f ≡ serves_at old f
serves_pushed old new b f pushed = ap (λ xs. get_or xs f false) pushed ∙ by b
  where
    behind : (xs : List Bool) (f : ℕ) → get_or (xs ++ false ∷ []) f false ≡ get_or xs f false
    behind [] zero = refl
    behind [] (suc f) = refl
    behind (x ∷ xs) zero = refl
    behind (x ∷ xs) (suc f) = behind xs f

    by : (t : Bool) → get_or (cond t (old.items ++ false ∷ []) old.items) f false ≡ get_or old.items f false
    by true = behind old.items f
    by false = refl

pub rooms_pushed : (owners more : Vec ℕ Global) (serves longer : Vec Bool Global) (b : Bool) (x : ℕ) → more.items ≡ cond b (owners.items ++ x ∷ []) owners.items → longer.items ≡ cond b (serves.items ++ false ∷ []) serves.items
    → length serves.items ≡ length owners.items → length longer.items ≡ length more.items
rooms_pushed owners more serves longer b x first second same = ap length second ∙ (by b ∙ sym (ap length first))
  where
    by : (t : Bool) → length (cond t (serves.items ++ false ∷ []) serves.items) ≡ length (cond t (owners.items ++ x ∷ []) owners.items)
    by true = omega (arith, length_push serves.items false, length_push owners.items x, same)
    by false = same

-- who has a filing has one of those that there are
pub owner_inside : (l : List ℕ) (i x : ℕ) → slice_get l i ≡ Some x → i < length l
owner_inside [] i x e = absurd (none e)
  where
    none : None ≡ Some x → ⊥
    none e = cc
owner_inside (y ∷ l) zero x e = omega arith
owner_inside (y ∷ l) (suc i) x e = let low : i < length l = owner_inside l i x e in omega (arith, low)

-- and so is one that may serve
pub served_inside : (files : Files) (f : ℕ) → serves_at files.serves f ≡ true → f < length files.owners.items
served_inside files f h = elim (cases_lt f (length files.owners.items)) [
  | inl low ↦ low
  | inr past ↦ absurd (false≢true (sym (get_or_past files.serves.items f false (omega (arith, past, files.rooms))) ∙ h))
]

pub got_last : (xs : List ℕ) (x : ℕ) → slice_get (xs ++ x ∷ []) (length xs) ≡ Some x
got_last [] x = refl
got_last (y ∷ xs) x = got_last xs x

-- each filing that is found is one of those that there are
filing_inside : (files : Files) (spot : LineSpot) (f : ℕ) → finds_filing files spot f ≡ true → f < length files.owners.items
filing_inside files spot f found = elim (or_cases (finds files.index spot.sheet spot.row spot.col f) _ found) [
  | inl range ↦ files.within spot.sheet spot.row spot.col f range
  | inr along ↦ elim (or_cases (finds_along Rows files.wholes spot f) (finds_along Cols files.wholes spot f) along) [
    | inl row ↦ files.within_wholes spot.sheet spot.row 0 f (and_parts (is_on_sheet Rows spot) (finds files.wholes spot.sheet spot.row 0 f) row).1
    | inr col ↦ files.within_wholes spot.sheet spot.col 1 f (and_parts (is_on_sheet Cols spot) (finds files.wholes spot.sheet spot.col 1 f) col).1
  ]
]

-- where the slots are the same, the same filings are found
pub finds_same : (old new : Files) → new.index ≡ old.index → new.wholes ≡ old.wholes → (spot : LineSpot) (f : ℕ) → finds_filing new spot f ≡ finds_filing old spot f
finds_same old new index wholes spot f =
    ap (λ x. finds x spot.sheet spot.row spot.col f || (finds_along Rows new.wholes spot f || finds_along Cols new.wholes spot f)) index
    ∙ ap (λ y. finds old.index spot.sheet spot.row spot.col f || (finds_along Rows y spot f || finds_along Cols y spot f)) wholes

-- a new filing leaves those that there were
module _ (test : LineSpot → Type 0) (filing : ℕ) (old mid new : Files) (index : mid.index ≡ old.index) (wholes : mid.wholes ≡ old.wholes) (fresh : length old.owners.items ≤ filing) (filed : FilesSpots test filing mid new) where
  was_found : (spot : LineSpot) (f : ℕ) → finds_filing mid spot f ≡ finds_filing old spot f
  was_found spot f = finds_same old mid index wholes spot f

  others_stay : (f : ℕ) → f < length old.owners.items → (spot : LineSpot) → finds_filing new spot f ≡ finds_filing old spot f
  others_stay f below spot = same_test (finds_filing new spot f) (finds_filing old spot f)
      (λ found. ⊎_elim
      (λ (before : finds_filing mid spot f ≡ true). sym (was_found spot f) ∙ before)
      (λ (is : test spot × (f ≡ filing)). absurd (omega (arith, is.1, below, fresh)))
      (filed.only spot f found))
      (λ found. filed.grows spot f (was_found spot f ∙ found))

  pub files_on : (pushed : Vec ℕ Global) (longer : Vec Bool Global) (b : Bool) (x : ℕ) → new.current ≡ old.current → new.owners ≡ pushed → new.serves ≡ longer
      → pushed.items ≡ cond b (old.owners.items ++ x ∷ []) old.owners.items → longer.items ≡ cond b (old.serves.items ++ false ∷ []) old.serves.items → FilesOn old new
  files_on pushed longer b x current owners serves items flags = record {
    current = current;
    owners = λ f low. ap (λ v. owner_at v f) owners ∙ owner_pushed old.owners pushed b x f items low;
    serves = λ f. ap (λ v. serves_at v f) serves ∙ serves_pushed old.serves longer b f flags;
    count = subst (λ v. length old.owners.items ≤ length v.items) (sym owners) (count_pushed old.owners pushed b x items);
    finds = others_stay;
  }

  -- nothing found the new filing before, so what finds it now passes the test
  pub only_new : (spot : LineSpot) → finds_filing new spot filing ≡ true → test spot
  only_new spot found = ⊎_elim
      (λ (before : finds_filing mid spot filing ≡ true). absurd (omega (arith, fresh, filing_inside old spot filing (sym (was_found spot filing) ∙ before))))
      (λ (is : test spot × (filing ≡ filing)). is.0)
      (filed.only spot filing found)
