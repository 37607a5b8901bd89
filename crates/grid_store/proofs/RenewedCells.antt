-- What a grid stands for once lines of a sheet are renewed is the map that the edit carries.
use Rattle.std.proofs.Common.{◌≡◌, ◌∙◌, sym, ap, refl, ℕ, List, Option, Some, None, option_and_then, IsSome, is_some}
use Rattle.std.specs.FinMap.{get}
use Rattle.std.proofs.lemmas.Bool.{both_ways}
use Rattle.cell_addr.specs.Axis.{limit_of}
use Rattle.cell_addr.specs.Place.{IsInside}
use Rattle.cell_addr.specs.declared.axis.Axis.{Axis}
use Rattle.cell_addr.specs.declared.axis.Axis.TheVariants.{Rows, Cols}
use Rattle.cell_addr.specs.declared.place.Place.{Place}
use Rattle.cell_addr.specs.declared.place.TheConstants.{ROWS, COLS}
use Rattle.shift_core.specs.Lines.{IsSoundEdit}
use Rattle.shift_core.specs.Maps.{AreInside}
use Rattle.shift_core.specs.Tables.{by_line}
use Rattle.shift_core.specs.declared.edit.Edit.{Edit}
use Rattle.shift_core.specs.declared.form.Form.TheVariants.{Lines}
use Rattle.stable_lines.specs.declared.sheets.SheetLines.{SheetLines}
use Rattle.grid_store.specs.Draft.{AreGivenOut}
use Rattle.grid_store.specs.Keys.{key_at, place_at}
use Rattle.grid_store.specs.declared.key.CellKey.{CellKey}
use Rattle.grid_store.specs.declared.way.Going.{Going}
use Rattle.grid_store.specs.internal.Renewal.{IsRenewal, along}
use Rattle.grid_store.specs.internal.Ways.{carried_map, form_goes, line_goes, turned}
use Rattle.grid_store.proofs.Carries.{get-carried, get-carried_outside, goes_by_line, returns, stays_inside}
use Rattle.grid_store.proofs.KeyPlaces.{inside_key, key_inside, key_of_place, place_of_key}
use Rattle.grid_store.proofs.PlaceMaps.{same_places}
use Rattle.grid_store.proofs.Renewals.{key_comes, key_fresh}
use Rattle.grid_store.proofs.Views.{get-seen, get-seen_at, kept, key_of_seen, seen}

-- only places of the sheet are seen
pub seen_inside : {X : Type 0} (rows cols : SheetLines) (es : List (CellKey × X)) → rows.plain.limit ≡ ROWS → cols.plain.limit ≡ COLS → AreInside (seen rows cols es)
seen_inside rows cols es rl cl p some = let w = key_of_seen rows cols es p some in inside_key rows cols rl cl p w.0 w.1

limit_along : (axis : Axis) (rows cols : SheetLines) → rows.plain.limit ≡ ROWS → cols.plain.limit ≡ COLS → (along axis rows cols).plain.limit ≡ limit_of axis
limit_along Rows rows cols rl cl = rl
limit_along Cols rows cols rl cl = cl

module _ {X : Type 0} (way : Going) (sheet : ℕ) (axis : Axis) (edit : Edit) (sound : IsSoundEdit (limit_of axis) edit) (rows cols rows' cols' : SheetLines)
    (renewal : IsRenewal axis sheet (line_goes (turned way) (limit_of axis) edit) rows cols rows' cols') (rl : rows.plain.limit ≡ ROWS) (cl : cols.plain.limit ≡ COLS)
    (es : List (CellKey × X)) where
  abbrev rule : ℕ → Option ℕ
  rule = line_goes (turned way) (limit_of axis) edit

  back_by_line : (q : Place) (r : Option Place) → form_goes (turned way) (Lines sheet axis edit) q ≡ r → by_line sheet axis rule q ≡ r
  back_by_line q r h = sym (ap (λ g. g q) (goes_by_line (turned way) sheet axis edit)) ∙ h

  -- a key stands still where its place isn't lost
  pub stood_on : (k : CellKey) (p : Place) → place_at rows cols k ≡ Some p → (r : Option Place) → form_goes way (Lines sheet axis edit) p ≡ r → IsSome r → IsSome (place_at rows' cols' k)
  stood_on k p at None e there = cc
  stood_on k p at (Some q) e there =
      let key = key_of_place rows cols k p at in
      let i = inside_key rows cols rl cl p k key in
      let j = stays_inside way (Lines sheet axis edit) p q sound i e in
      let back = back_by_line q (Some p) (returns way (Lines sheet axis edit) p q sound i e) in
      ap is_some (place_of_key rows' cols' q k (key_comes axis sheet rule rows cols rows' cols' renewal (limit_along axis rows cols rl cl) p q j back ∙ key))

  stands : (kept_there : (p : Place) → IsSome (get (seen rows cols es) p) → IsSome (form_goes way (Lines sheet axis edit) p)) (k : CellKey) → IsSome (kept es k)
      → (r : Option Place) → place_at rows cols k ≡ r → IsSome r → IsSome (place_at rows' cols' k)
  stands kept_there k some None at there = cc
  stands kept_there k some (Some p) at there =
      let seen_there = ap is_some (get-seen_at rows cols es p k (key_of_place rows cols k p at)) ∙ some in
      stood_on k p at (form_goes way (Lines sheet axis edit) p) refl (kept_there p seen_there)

  -- each key still stands at a place, where the edit loses none
  pub renewed_standing : ((k : CellKey) → IsSome (kept es k) → IsSome (place_at rows cols k)) → ((p : Place) → IsSome (get (seen rows cols es) p) → IsSome (form_goes way (Lines sheet axis edit) p)) → (k : CellKey) → IsSome (kept es k)
      → IsSome (place_at rows' cols' k)
  renewed_standing standing kept_there k some = stands kept_there k some (place_at rows cols k) refl (standing k some)

  absent : (q : Place) (k : CellKey) (r : Option X) → kept es k ≡ r → (IsSome (kept es k) → ⊥) → r ≡ None
  absent q k None e never = refl
  absent q k (Some c) e never = absurd (never (ap is_some e))

  there_by : ((k : CellKey) → IsSome (kept es k) → AreGivenOut rows cols k) → (q : Place) (k : CellKey) → IsInside q → key_at rows' cols' q ≡ Some k → (r : Option Place) → form_goes (turned way) (Lines sheet axis edit) q ≡ r
      → kept es k ≡ option_and_then (get (seen rows cols es)) r
  there_by given q k i at None e =
      absent q k (kept es k) refl (λ some. key_fresh axis sheet rule rows cols rows' cols' renewal (limit_along axis rows cols rl cl) q k i (back_by_line q None e) at (given k some))
  there_by given q k i at (Some p) e =
      sym (get-seen_at rows cols es p k (sym (key_comes axis sheet rule rows cols rows' cols' renewal (limit_along axis rows cols rl cl) p q i (back_by_line q (Some p) e)) ∙ at))

  seen_by : ((k : CellKey) → IsSome (kept es k) → AreGivenOut rows cols k) → (rows'.plain.limit ≡ ROWS) → (cols'.plain.limit ≡ COLS) → (q : Place) (r : Option CellKey) → key_at rows' cols' q ≡ r
      → option_and_then (kept es) r ≡ get (carried_map (form_goes way (Lines sheet axis edit)) (seen rows cols es)) q
  seen_by given rl' cl' q None at =
      sym (get-carried_outside way (Lines sheet axis edit) sound (seen rows cols es) (seen_inside rows cols es rl cl) q (λ i. both_ways _ (ap is_some at) (key_inside rows' cols' rl' cl' q i)))
  seen_by given rl' cl' q (Some k) at =
      let i = inside_key rows' cols' rl' cl' q k at in
      there_by given q k i at (form_goes (turned way) (Lines sheet axis edit) q) refl
      ∙ sym (get-carried way (Lines sheet axis edit) sound (seen rows cols es) (seen_inside rows cols es rl cl) q (form_goes (turned way) (Lines sheet axis edit) q) i refl)

  -- cells on lines that were given out are seen where their places go
  pub renewed_cells : ((k : CellKey) → IsSome (kept es k) → AreGivenOut rows cols k) → (rows'.plain.limit ≡ ROWS) → (cols'.plain.limit ≡ COLS) → seen rows' cols' es ≡ carried_map (form_goes way (Lines sheet axis edit)) (seen rows cols es)
  renewed_cells given rl' cl' = same_places _ _ (λ q. get-seen rows' cols' es q ∙ seen_by given rl' cl' q (key_at rows' cols' q) refl)
