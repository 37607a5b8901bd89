-- Places and keys lead to and fro. Serves all calls of a grid.
use Rattle.std.proofs.Common.{◌≡◌, ◌∙◌, sym, ap, refl, subst, ℕ, ◌<◌, Option, Some, None, option_map, option_and_then, IsSome}
use Rattle.std.proofs.lemmas.Option.{same_Some}
use Rattle.cell_addr.specs.Place.{IsInside}
use Rattle.cell_addr.specs.declared.place.Place.{Place}
use Rattle.cell_addr.specs.declared.place.TheConstants.{ROWS, COLS}
use Rattle.stable_lines.specs.Lines.{line_at, position_of}
use Rattle.stable_lines.specs.Sheets.{table_of}
use Rattle.stable_lines.specs.declared.sheets.SheetLines.{SheetLines}
use Rattle.grid_store.specs.Keys.{key_at, place_at}
use Rattle.grid_store.specs.declared.key.CellKey.{CellKey}

-- a key that is made of two lines, and a place of two positions
key_parts : (R C : Option ℕ) (s : ℕ) (k : CellKey) → option_and_then (λ row. option_map (λ col. record { sheet = s; row = row; col = col }) C) R ≡ Some k
    → (R ≡ Some k.row) × (C ≡ Some k.col) × (s ≡ k.sheet)
key_parts None C s k h = cc
key_parts (Some r) None s k h = cc
key_parts (Some r) (Some c) s k h = let e = same_Some _ _ h in (ap (λ z. Some z.row) e, ap (λ z. Some z.col) e, ap (λ z. z.sheet) e)

key_whole : (R C : Option ℕ) (s : ℕ) (k : CellKey) → R ≡ Some k.row → C ≡ Some k.col → s ≡ k.sheet → option_and_then (λ row. option_map (λ col. record { sheet = s; row = row; col = col }) C) R ≡ Some k
key_whole R C s k a b e = ap (option_and_then (λ row. option_map (λ col. record { sheet = s; row = row; col = col }) C)) a ∙ ap (option_map (λ col. record { sheet = s; row = k.row; col = col })) b ∙ (λ i. Some (record { sheet = e i; row = k.row; col = k.col }))

place_parts : (R C : Option ℕ) (s : ℕ) (p : Place) → option_and_then (λ row. option_map (λ col. record { sheet = s; row = row; col = col }) C) R ≡ Some p
    → (R ≡ Some p.row) × (C ≡ Some p.col) × (s ≡ p.sheet)
place_parts None C s p h = cc
place_parts (Some r) None s p h = cc
place_parts (Some r) (Some c) s p h = let e = same_Some _ _ h in (ap (λ z. Some z.row) e, ap (λ z. Some z.col) e, ap (λ z. z.sheet) e)

place_whole : (R C : Option ℕ) (s : ℕ) (p : Place) → R ≡ Some p.row → C ≡ Some p.col → s ≡ p.sheet → option_and_then (λ row. option_map (λ col. record { sheet = s; row = row; col = col }) C) R ≡ Some p
place_whole R C s p a b e = ap (option_and_then (λ row. option_map (λ col. record { sheet = s; row = row; col = col }) C)) a ∙ ap (option_map (λ col. record { sheet = s; row = p.row; col = col })) b ∙ (λ i. Some (record { sheet = e i; row = p.row; col = p.col }))

module _ (rows cols : SheetLines) where
  pub place_of_key : (p : Place) (k : CellKey) → key_at rows cols p ≡ Some k → place_at rows cols k ≡ Some p
  place_of_key p k h =
      let w = key_parts (line_at (table_of rows p.sheet) p.row) (line_at (table_of cols p.sheet) p.col) p.sheet k h in
      place_whole (position_of (table_of rows k.sheet) k.row) (position_of (table_of cols k.sheet) k.col) k.sheet p
      (ap (λ s. position_of (table_of rows s) k.row) (sym w.2) ∙ ((table_of rows p.sheet).inverse p.row k.row).0 w.0)
      (ap (λ s. position_of (table_of cols s) k.col) (sym w.2) ∙ ((table_of cols p.sheet).inverse p.col k.col).0 w.1) (sym w.2)

  pub key_of_place : (k : CellKey) (p : Place) → place_at rows cols k ≡ Some p → key_at rows cols p ≡ Some k
  key_of_place k p h =
      let w = place_parts (position_of (table_of rows k.sheet) k.row) (position_of (table_of cols k.sheet) k.col) k.sheet p h in
      key_whole (line_at (table_of rows p.sheet) p.row) (line_at (table_of cols p.sheet) p.col) p.sheet k
      (ap (λ s. line_at (table_of rows s) p.row) (sym w.2) ∙ ((table_of rows k.sheet).inverse p.row k.row).1 w.0)
      (ap (λ s. line_at (table_of cols s) p.col) (sym w.2) ∙ ((table_of cols k.sheet).inverse p.col k.col).1 w.1) (sym w.2)

  some_key : (R C : Option ℕ) (s : ℕ) → IsSome R → IsSome C → IsSome {T = CellKey} (option_and_then (λ row. option_map (λ col. record { sheet = s; row = row; col = col }) C) R)
  some_key None C s a b = a
  some_key (Some r) None s a b = b
  some_key (Some r) (Some c) s a b = refl

  -- the places of a sheet have keys, and no others
  pub key_inside : rows.plain.limit ≡ ROWS → cols.plain.limit ≡ COLS → (p : Place) → IsInside p → IsSome (key_at rows cols p)
  key_inside rl cl p i =
      some_key (line_at (table_of rows p.sheet) p.row) (line_at (table_of cols p.sheet) p.col) p.sheet
      ((table_of rows p.sheet).filled p.row (subst (λ n. p.row < n) (sym (rows.limits p.sheet ∙ rl)) i.0))
      ((table_of cols p.sheet).filled p.col (subst (λ n. p.col < n) (sym (cols.limits p.sheet ∙ cl)) i.1))

  pub inside_key : rows.plain.limit ≡ ROWS → cols.plain.limit ≡ COLS → (p : Place) (k : CellKey) → key_at rows cols p ≡ Some k → IsInside p
  inside_key rl cl p k h =
      let w = key_parts (line_at (table_of rows p.sheet) p.row) (line_at (table_of cols p.sheet) p.col) p.sheet k h in (
        subst (λ n. p.row < n) (rows.limits p.sheet ∙ rl) ((table_of rows p.sheet).within p.row k.row w.0),
        subst (λ n. p.col < n) (cols.limits p.sheet ∙ cl) ((table_of cols p.sheet).within p.col k.col w.1),
      )

  -- the parts of a place's key
  pub key_line : (p : Place) (k : CellKey) → key_at rows cols p ≡ Some k → line_at (table_of rows p.sheet) p.row ≡ Some k.row
  key_line p k h = (key_parts (line_at (table_of rows p.sheet) p.row) (line_at (table_of cols p.sheet) p.col) p.sheet k h).0

  pub key_col : (p : Place) (k : CellKey) → key_at rows cols p ≡ Some k → line_at (table_of cols p.sheet) p.col ≡ Some k.col
  key_col p k h = (key_parts (line_at (table_of rows p.sheet) p.row) (line_at (table_of cols p.sheet) p.col) p.sheet k h).1

  pub key_sheet : (p : Place) (k : CellKey) → key_at rows cols p ≡ Some k → p.sheet ≡ k.sheet
  key_sheet p k h = (key_parts (line_at (table_of rows p.sheet) p.row) (line_at (table_of cols p.sheet) p.col) p.sheet k h).2
