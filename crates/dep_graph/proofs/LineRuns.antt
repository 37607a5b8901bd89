-- Filings under runs of lines, and under rows by columns, beside those that there were. Serves the filing of ranges.
use Rattle.std.proofs.Common.{◌≡◌, ◌∙◌, sym, ap, refl, subst, arith, ℕ, ◌+◌, ◌<◌, inl, inr, ◌⊎◌, ⊎_elim, Bool, true, false, ◌&&◌, List, [], ◌∷◌, get_or, length, take, nat_eq, eqb-true}
use Rattle.std.specs.List.{list_any}
use Rattle.std.specs.declared.ops.Range.{Range}
use Rattle.std.proofs.lemmas.Bool.{and_from, and_parts, eq-eqb, false≢true, or_cases, or_left, or_right}
use Rattle.std.proofs.lemmas.List.{take_more}
use Rattle.std.proofs.lemmas.List.Folds.{list_any-append}
use Rattle.block_index.specs.Index as blocks
use Rattle.block_index.specs.Index.{finds, in_cells}
use Rattle.block_slots.specs.Segments.{in_lines}
use Rattle.block_slots.specs.Slots.{in_block}
use Rattle.cell_addr.specs.Whole.{lines_of}
use Rattle.cell_addr.specs.declared.axis.Axis.{Axis}
use Rattle.cell_addr.specs.declared.axis.Axis.TheVariants.{Cols, Rows}
use Rattle.cell_addr.specs.declared.whole.Whole.{Whole}
use Rattle.place_lines.specs.Spots.{AreNumbersOf, in_runs, table_along}
use Rattle.place_lines.specs.declared.lines.PlaceLines.{PlaceLines}
use Rattle.place_lines.specs.declared.spot.LineSpot.{LineSpot}
use Rattle.dep_graph.specs.declared.files.Files.{Files}
use Rattle.dep_graph.specs.internal.Files.{FilesCells, FilesSpots, finds_filing, in_run}
use Rattle.dep_graph.specs.internal.Wholes.{IsOnLines, column_of, finds_along, is_on_sheet, number_on, on_run, on_runs}
use Rattle.dep_graph.proofs.FiledSlots.{found_on}

-- ---- tests

-- where nothing was filed
pub spots_same : (test : LineSpot → Type 0) (filing : ℕ) (files : Files) → FilesSpots test filing files files
spots_same test filing files = record { grows = λ spot f found. found; only = λ spot f found. inl found }

-- the same by a test that passes more
pub cells_spots : (test : LineSpot → Bool) (more : LineSpot → Type 0) (filing : ℕ) (old new : Files) → ((spot : LineSpot) → test spot ≡ true → more spot) → FilesCells test filing old new → FilesSpots more filing old new
cells_spots test more filing old new passes filed = record {
  grows = filed.grows;
  only = λ spot f found. elim (filed.only spot f found) [ inl was ↦ inl was | inr (is, same) ↦ inr (passes spot is, same) ];
}

-- some are filed, and then others
pub cells_on : (test part : LineSpot → Bool) (filing : ℕ) (a b c : Files) → ((spot : LineSpot) → part spot ≡ true → test spot ≡ true) → FilesCells test filing a b → FilesCells part filing b c → FilesCells test filing a c
cells_on test part filing a b c inside first second = record {
  grows = λ spot f found. second.grows spot f (first.grows spot f found);
  only = λ spot f found. elim (second.only spot f found) [ inl was ↦ first.only spot f was | inr (is, same) ↦ inr (inside spot is, same) ];
}

-- one of the first of a list passes where one of those before the last of them does, or that
pub any_next : {X : Type 0} (q : X → Bool) (xs : List X) (i : ℕ) (d : X) → i < length xs → list_any q (take (i + 1) xs) ≡ true → (list_any q (take i xs) ≡ true) ⊎ (q (get_or xs i d) ≡ true)
any_next q xs i d inside h =
    elim (or_cases (list_any q (take i xs)) (list_any q (get_or xs i d ∷ [])) (sym (list_any-append q (take i xs) (get_or xs i d ∷ [])) ∙ subst (λ l. list_any q l ≡ true) (take_more xs i d inside) h)) [
      | inl early ↦ inl early
      | inr last ↦ elim (or_cases (q (get_or xs i d)) false last) [ inl here ↦ inr here | inr none ↦ absurd (false≢true none) ]
    ]

-- ---- the lines of a whole range

runs_parts : (sheet : ℕ) (axis : Axis) (runs : List (Range ℕ)) (spot : LineSpot) → on_runs sheet axis runs spot ≡ true
    → (spot.sheet ≡ sheet) × (is_on_sheet axis spot ≡ true) × (in_runs runs (number_on axis spot) ≡ true)
runs_parts sheet axis [] spot h = absurd (false≢true h)
runs_parts sheet axis (run ∷ runs) spot h = ⊎_elim
    (λ (here : on_run sheet axis run spot ≡ true).
    let (s, rest) = and_parts (nat_eq spot.sheet sheet) (is_on_sheet axis spot && in_lines run (number_on axis spot)) here in
    let (on, line) = and_parts (is_on_sheet axis spot) (in_lines run (number_on axis spot)) rest in
    (eqb-true spot.sheet sheet s, on, or_left (in_lines run (number_on axis spot)) (in_runs runs (number_on axis spot)) line))
    (λ (later : on_runs sheet axis runs spot ≡ true).
    let (s, on, line) = runs_parts sheet axis runs spot later in
    (s, on, or_right (in_lines run (number_on axis spot)) (in_runs runs (number_on axis spot)) line))
    (or_cases (on_run sheet axis run spot) (on_runs sheet axis runs spot) h)

runs_from : (sheet : ℕ) (axis : Axis) (runs : List (Range ℕ)) (spot : LineSpot) → spot.sheet ≡ sheet → is_on_sheet axis spot ≡ true → in_runs runs (number_on axis spot) ≡ true → on_runs sheet axis runs spot ≡ true
runs_from sheet axis [] spot s on line = absurd (false≢true line)
runs_from sheet axis (run ∷ runs) spot s on line = ⊎_elim
    (λ (here : in_lines run (number_on axis spot) ≡ true).
    or_left (on_run sheet axis run spot) (on_runs sheet axis runs spot)
    (and_from (nat_eq spot.sheet sheet) (is_on_sheet axis spot && in_lines run (number_on axis spot)) (eq-eqb spot.sheet sheet s) (and_from (is_on_sheet axis spot) (in_lines run (number_on axis spot)) on here)))
    (λ (later : in_runs runs (number_on axis spot) ≡ true). or_right (on_run sheet axis run spot) (on_runs sheet axis runs spot) (runs_from sheet axis runs spot s on later))
    (or_cases (in_lines run (number_on axis spot)) (in_runs runs (number_on axis spot)) line)

-- the runs have the numbers of the lines of a whole range
module _ (lines : PlaceLines) (w : Whole) (runs : List (Range ℕ)) (are : AreNumbersOf (table_along w.axis lines w.sheet) (lines_of w) runs) (spot : LineSpot) where
  pub runs_on_lines : on_runs w.sheet w.axis runs spot ≡ true → IsOnLines lines w spot
  runs_on_lines h =
      let (s, on, line) = runs_parts w.sheet w.axis runs spot h in
      let (position, first, last, number) = (are (number_on w.axis spot)).0 line in
      (s, on, (position, (first, last), number))

  pub lines_on_runs : IsOnLines lines w spot → on_runs w.sheet w.axis runs spot ≡ true
  lines_on_runs (s, on, (position, (first, last), number)) = runs_from w.sheet w.axis runs spot s on ((are (number_on w.axis spot)).1 (position, first, last, number))

-- ---- what is found by other slots

found_parts : (files : Files) (spot : LineSpot) (f : ℕ) → finds_filing files spot f ≡ true → (finds files.index spot.sheet spot.row spot.col f ≡ true) ⊎ ((axis : Axis) × (finds_along axis files.wholes spot f ≡ true))
found_parts files spot f found = elim (or_cases (finds files.index spot.sheet spot.row spot.col f) _ found) [
  | inl range ↦ inl range
  | inr along ↦ elim (or_cases (finds_along Rows files.wholes spot f) (finds_along Cols files.wholes spot f) along) [ inl row ↦ inr (Rows, row) | inr col ↦ inr (Cols, col) ]
]

found_range : (files : Files) (spot : LineSpot) (f : ℕ) → finds files.index spot.sheet spot.row spot.col f ≡ true → finds_filing files spot f ≡ true
found_range files spot f h = or_left (finds files.index spot.sheet spot.row spot.col f) _ h

-- ---- rows by columns

-- a filing under rows by columns, where those of whole ranges stay
pub cells_filed : (old new : Files) (sheet : ℕ) (rows cols : Range ℕ) (filing : ℕ) → new.wholes ≡ old.wholes → blocks.Files (in_cells sheet rows cols) filing old.index new.index → FilesCells (in_run sheet rows cols) filing old new
cells_filed old new sheet rows cols filing wholes filed = record { grows = grows; only = only }
  where
    grows : (spot : LineSpot) (f : ℕ) → finds_filing old spot f ≡ true → finds_filing new spot f ≡ true
    grows spot f found = elim (found_parts old spot f found) [
      | inl range ↦ found_range new spot f (filed.grows spot.sheet spot.row spot.col f range)
      | inr (axis, along) ↦ found_on new spot axis f (ap (λ x. finds_along axis x spot f) wholes ∙ along)
    ]

    only : (spot : LineSpot) (f : ℕ) → finds_filing new spot f ≡ true → (finds_filing old spot f ≡ true) ⊎ ((in_run sheet rows cols spot ≡ true) × (f ≡ filing))
    only spot f found = elim (found_parts new spot f found) [
      | inl range ↦ elim (filed.only spot.sheet spot.row spot.col f range) [ inl was ↦ inl (found_range old spot f was) | inr here ↦ inr here ]
      | inr (axis, along) ↦ inl (found_on old spot axis f (sym (ap (λ x. finds_along axis x spot f) wholes) ∙ along))
    ]

pub cells_found : (files : Files) (sheet : ℕ) (rows cols : Range ℕ) (filing : ℕ) → ((row col : ℕ) → in_block rows cols row col ≡ true → finds files.index sheet row col filing ≡ true)
    → (spot : LineSpot) → in_run sheet rows cols spot ≡ true → finds_filing files spot filing ≡ true
cells_found files sheet rows cols filing found spot h =
    let (s, here) = and_parts (nat_eq spot.sheet sheet) (in_block rows cols spot.row spot.col) h in
    found_range files spot filing (subst (λ x. finds files.index x spot.row spot.col filing ≡ true) (sym (eqb-true spot.sheet sheet s)) (found spot.row spot.col here))

-- ---- runs of lines

one_axis : (a b : Axis) → column_of a ≡ column_of b → a ≡ b
one_axis Rows Rows e = refl
one_axis Cols Cols e = refl
one_axis Rows Cols e = absurd (omega (arith, e))
one_axis Cols Rows e = absurd (omega (arith, e))

module _ (old new : Files) (sheet : ℕ) (axis : Axis) (run cols : Range ℕ) (filing : ℕ) (column : (n : ℕ) → in_lines cols n ≡ true → n ≡ column_of axis) where
  -- a filing under a run of lines, where those of ranges stay
  pub run_filed : new.index ≡ old.index → blocks.Files (in_cells sheet run cols) filing old.wholes new.wholes → FilesCells (on_run sheet axis run) filing old new
  run_filed index filed = record { grows = grows; only = only }
    where
      grows : (spot : LineSpot) (f : ℕ) → finds_filing old spot f ≡ true → finds_filing new spot f ≡ true
      grows spot f found = elim (found_parts old spot f found) [
        | inl range ↦ found_range new spot f (ap (λ x. finds x spot.sheet spot.row spot.col f) index ∙ range)
        | inr (a, along) ↦
            let (on, there) = and_parts (is_on_sheet a spot) (finds old.wholes spot.sheet (number_on a spot) (column_of a) f) along in
            found_on new spot a f (and_from (is_on_sheet a spot) (finds new.wholes spot.sheet (number_on a spot) (column_of a) f) on (filed.grows spot.sheet (number_on a spot) (column_of a) f there))
      ]

      passes : (spot : LineSpot) (a : Axis) → is_on_sheet a spot ≡ true → in_cells sheet run cols spot.sheet (number_on a spot) (column_of a) ≡ true → on_run sheet axis run spot ≡ true
      passes spot a on cells =
          let (s, block) = and_parts (nat_eq spot.sheet sheet) (in_block run cols (number_on a spot) (column_of a)) cells in
          let (line, col) = and_parts (in_lines run (number_on a spot)) (in_lines cols (column_of a)) block in
          let same : a ≡ axis = one_axis a axis (column (column_of a) col) in
          subst (λ b. on_run sheet b run spot ≡ true) same
          (and_from (nat_eq spot.sheet sheet) (is_on_sheet a spot && in_lines run (number_on a spot)) s (and_from (is_on_sheet a spot) (in_lines run (number_on a spot)) on line))

      only : (spot : LineSpot) (f : ℕ) → finds_filing new spot f ≡ true → (finds_filing old spot f ≡ true) ⊎ ((on_run sheet axis run spot ≡ true) × (f ≡ filing))
      only spot f found = elim (found_parts new spot f found) [
        | inl range ↦ inl (found_range old spot f (sym (ap (λ x. finds x spot.sheet spot.row spot.col f) index) ∙ range))
        | inr (a, along) ↦
            let (on, there) = and_parts (is_on_sheet a spot) (finds new.wholes spot.sheet (number_on a spot) (column_of a) f) along in
            elim (filed.only spot.sheet (number_on a spot) (column_of a) f there) [
              | inl was ↦ inl (found_on old spot a f (and_from (is_on_sheet a spot) (finds old.wholes spot.sheet (number_on a spot) (column_of a) f) on was))
              | inr (cells, same) ↦ inr (passes spot a on cells, same)
            ]
      ]

  pub run_found : in_lines cols (column_of axis) ≡ true → ((row col : ℕ) → in_block run cols row col ≡ true → finds new.wholes sheet row col filing ≡ true) → (spot : LineSpot) → on_run sheet axis run spot ≡ true → finds_filing new spot filing ≡ true
  run_found own found spot h =
      let (s, rest) = and_parts (nat_eq spot.sheet sheet) (is_on_sheet axis spot && in_lines run (number_on axis spot)) h in
      let (on, line) = and_parts (is_on_sheet axis spot) (in_lines run (number_on axis spot)) rest in
      let there : finds new.wholes sheet (number_on axis spot) (column_of axis) filing ≡ true = found (number_on axis spot) (column_of axis) (and_from (in_lines run (number_on axis spot)) (in_lines cols (column_of axis)) line own) in
      found_on new spot axis filing
      (and_from (is_on_sheet axis spot) (finds new.wholes spot.sheet (number_on axis spot) (column_of axis) filing) on
      (subst (λ x. finds new.wholes x (number_on axis spot) (column_of axis) filing ≡ true) (sym (eqb-true spot.sheet sheet s)) there))
