-- What a grid stands for once lines of a sheet are renewed: each key at the place that its line comes to. Serves inserts, deletions and moves
-- of rows and columns.
use Rattle.std.proofs.Common.{◌≡◌, ◌∙◌, sym, ap, refl, subst, ℕ, ◌<◌, ◌≤◌, inl, inr, Bool, true, false, ◌==◌, Option, Some, None, option_map, option_and_then, IsSome, IsSomeAnd, arith}
use Rattle.std.proofs.lemmas.Bool.{eqb-true, ne_eqb}
use Rattle.cell_addr.specs.Axis.{limit_of, line_of}
use Rattle.cell_addr.specs.Place.{IsInside}
use Rattle.cell_addr.specs.declared.axis.Axis.{Axis}
use Rattle.cell_addr.specs.declared.axis.Axis.TheVariants.{Rows, Cols}
use Rattle.cell_addr.specs.declared.place.Place.{Place}
use Rattle.shift_core.specs.Form.{across}
use Rattle.shift_core.specs.Tables.{by_line}
use Rattle.shift_core.proofs.Axes.{across-with_line, cases_by_line, line_inside, line_of-with_line, lost_line, sheet-with_line}
use Rattle.stable_lines.specs.Lines.{AreRenewed, ComesTo, line_at}
use Rattle.stable_lines.specs.Sheets.{table_of}
use Rattle.stable_lines.specs.declared.sheets.SheetLines.{SheetLines}
use Rattle.stable_lines.specs.declared.table.LineTable.{LineTable}
use Rattle.grid_store.specs.Draft.{AreGivenOut}
use Rattle.grid_store.specs.Keys.{key_at, place_at}
use Rattle.grid_store.specs.declared.key.CellKey.{CellKey}
use Rattle.grid_store.specs.internal.Renewal.{IsRenewal, along}
use Rattle.grid_store.proofs.KeyPlaces.{key_col, key_line, key_of_place, key_sheet}

-- the line of a key along an axis
abbrev pub key_along : Axis → CellKey → ℕ
key_along Rows k = k.row
key_along Cols k = k.col

given_along : (axis : Axis) (rows cols : SheetLines) (k : CellKey) → AreGivenOut rows cols k → key_along axis k < (table_of (along axis rows cols) k.sheet).next
given_along Rows rows cols k given = given.0
given_along Cols rows cols k given = given.1

-- the key of a sheet by the lines along an axis and across it
abbrev key_from : Axis → ℕ → Option ℕ → Option ℕ → Option CellKey
key_from Rows s A B = option_and_then (λ row. option_map (λ col. record { sheet = s; row = row; col = col }) B) A
key_from Cols s A B = option_and_then (λ row. option_map (λ col. record { sheet = s; row = row; col = col }) A) B

abbrev line_there : SheetLines → ℕ → ℕ → Option ℕ
line_there lines sheet x = line_at (table_of lines sheet) x

key-by : (axis : Axis) (rows cols : SheetLines) (p : Place)
    → key_at rows cols p ≡ key_from axis p.sheet (line_there (along axis rows cols) p.sheet (line_of axis p)) (line_there (along (across axis) rows cols) p.sheet (line_of (across axis) p))
key-by Rows rows cols p = refl
key-by Cols rows cols p = refl

same_from : (axis : Axis) (s t : ℕ) (A A' B B' : Option ℕ) → s ≡ t → A ≡ A' → B ≡ B' → key_from axis s A B ≡ key_from axis t A' B'
same_from axis s t A A' B B' e f g = λ i. key_from axis (e i) (f i) (g i)

along_line : (axis : Axis) (rows cols : SheetLines) (p : Place) (k : CellKey) → key_at rows cols p ≡ Some k → line_there (along axis rows cols) p.sheet (line_of axis p) ≡ Some (key_along axis k)
along_line Rows rows cols p k h = key_line rows cols p k h
along_line Cols rows cols p k h = key_col rows cols p k h

module _ (axis : Axis) (sheet : ℕ) (rule : ℕ → Option ℕ) (rows cols rows' cols' : SheetLines) (renewal : IsRenewal axis sheet rule rows cols rows' cols') (limit : (along axis rows cols).plain.limit ≡ limit_of axis) where
  abbrev old : LineTable
  old = table_of (along axis rows cols) sheet

  abbrev new : LineTable
  new = table_of (along axis rows' cols') sheet

  on_sheet : (q : Place) → IsInside q → line_of axis q < old.limit
  on_sheet q i = subst (λ n. line_of axis q < n) (sym ((along axis rows cols).limits sheet ∙ limit)) (line_inside axis q i)

  came : (q : Place) (r : Option ℕ) → IsInside q → rule (line_of axis q) ≡ r → ComesTo old new (line_of axis q) r
  came q r i e = subst (ComesTo old new (line_of axis q)) e (renewal.there.2 (line_of axis q) (on_sheet q i))

  -- what comes to a place has the key that it had
  pub key_comes : (p q : Place) → IsInside q → by_line sheet axis rule q ≡ Some p → key_at rows' cols' q ≡ key_at rows cols p
  key_comes p q i h =
      elim (cases_by_line sheet axis rule q p h) [
        | inl (n, w) ↦
            let sheets : q.sheet ≡ p.sheet = sym (ap (λ x. x.sheet) w.2 ∙ sheet-with_line axis n q) in
            let over : line_of (across axis) q ≡ line_of (across axis) p = sym (ap (line_of (across axis)) w.2 ∙ across-with_line axis n q) in
            let n_is : line_of axis p ≡ n = ap (line_of axis) w.2 ∙ line_of-with_line axis n q in
            key-by axis rows' cols' q
            ∙ same_from axis q.sheet p.sheet _ _ _ _ sheets
            (ap (λ s. line_there (along axis rows' cols') s (line_of axis q)) w.0 ∙ came q (Some n) i w.1
            ∙ (λ j. line_there (along axis rows cols) (sym (sym sheets ∙ w.0) j) (sym n_is j)))
            (λ j. line_there (renewal.over j) (sheets j) (over j))
            ∙ sym (key-by axis rows cols p)
        | inr w ↦
            let off = ne_eqb q.sheet sheet w.0 in
            key-by axis rows' cols' q
            ∙ same_from axis q.sheet q.sheet _ _ _ _ refl (ap (λ t. line_at t (line_of axis q)) (renewal.others q.sheet off)) (λ j. line_there (renewal.over j) q.sheet (line_of (across axis) q))
            ∙ sym (key-by axis rows cols q) ∙ ap (key_at rows cols) (sym w.1)
      ]

  late : (r : Option ℕ) (l : ℕ) → r ≡ Some l → IsSomeAnd r (λ x. old.next ≤ x) → old.next ≤ l
  late r l e h = subst (λ z. IsSomeAnd z (λ x. old.next ≤ x)) e h

  stale : (k : CellKey) → AreGivenOut rows cols k → sheet ≡ k.sheet → old.next ≤ key_along axis k → ⊥
  stale k given on fresh =
      let short : key_along axis k < old.next = subst (λ s. key_along axis k < (table_of (along axis rows cols) s).next) (sym on) (given_along axis rows cols k given) in omega (arith, short, fresh)

  -- where nothing comes, no key has lines that were given out
  pub key_fresh : (q : Place) (k : CellKey) → IsInside q → by_line sheet axis rule q ≡ None → key_at rows' cols' q ≡ Some k → AreGivenOut rows cols k → ⊥
  key_fresh q k i h at given =
      let w = lost_line sheet axis rule q h in
      let there : line_at new (line_of axis q) ≡ Some (key_along axis k) = ap (λ s. line_there (along axis rows' cols') s (line_of axis q)) (sym w.0) ∙ along_line axis rows' cols' q k at in
      let fresh = late (line_at new (line_of axis q)) (key_along axis k) there (came q None i w.1) in
      stale k given (sym w.0 ∙ key_sheet rows' cols' q k at) fresh

next_on : (axis : Axis) (sheet : ℕ) (rule : ℕ → Option ℕ) (rows cols rows' cols' : SheetLines) → IsRenewal axis sheet rule rows cols rows' cols' → (s : ℕ) (b : Bool) → (s == sheet) ≡ b
    → (table_of (along axis rows cols) s).next ≤ (table_of (along axis rows' cols') s).next
next_on axis sheet rule rows cols rows' cols' renewal s true e =
    subst (λ x. (table_of (along axis rows cols) x).next ≤ (table_of (along axis rows' cols') x).next) (sym (eqb-true s sheet e)) renewal.there.1
next_on axis sheet rule rows cols rows' cols' renewal s false e =
    subst (λ (t : LineTable). (table_of (along axis rows cols) s).next ≤ t.next) (sym (renewal.others s e)) (omega arith)

under_next : (a b c : ℕ) → a < b → b ≤ c → a < c
under_next a b c h k = omega arith

-- lines that were given out are so still
pub given_still : (axis : Axis) (sheet : ℕ) (rule : ℕ → Option ℕ) (rows cols rows' cols' : SheetLines) → IsRenewal axis sheet rule rows cols rows' cols' → (k : CellKey) → AreGivenOut rows cols k → AreGivenOut rows' cols' k
given_still Rows sheet rule rows cols rows' cols' renewal k given = (
  under_next k.row _ _ given.0 (next_on Rows sheet rule rows cols rows' cols' renewal k.sheet (k.sheet == sheet) refl),
  subst (λ (c : SheetLines). k.col < (table_of c k.sheet).next) (sym renewal.over) given.1,
)
given_still Cols sheet rule rows cols rows' cols' renewal k given = (
  subst (λ (r : SheetLines). k.row < (table_of r k.sheet).next) (sym renewal.over) given.0,
  under_next k.col _ _ given.1 (next_on Cols sheet rule rows cols rows' cols' renewal k.sheet (k.sheet == sheet) refl),
)

-- lines that stand were given out
standing-by : (rows cols : SheetLines) (k : CellKey) (r : Option Place) → place_at rows cols k ≡ r → IsSome r → AreGivenOut rows cols k
standing-by rows cols k None e some = cc
standing-by rows cols k (Some p) e some =
    let at = key_of_place rows cols k p e in (
      subst (λ s. k.row < (table_of rows s).next) (key_sheet rows cols p k at) ((table_of rows p.sheet).below p.row k.row (key_line rows cols p k at)),
      subst (λ s. k.col < (table_of cols s).next) (key_sheet rows cols p k at) ((table_of cols p.sheet).below p.col k.col (key_col rows cols p k at)),
    )

pub standing_given : (rows cols : SheetLines) (k : CellKey) → IsSome (place_at rows cols k) → AreGivenOut rows cols k
standing_given rows cols k some = standing-by rows cols k (place_at rows cols k) refl some

-- a table that is put in place among those of the rows, or of the columns
pub renewed_rows : (axis : Axis) → axis ≡ Rows → (sheet : ℕ) (rule : ℕ → Option ℕ) (rows cols rows' : SheetLines) (table : LineTable) → AreRenewed rule (table_of (along axis rows cols) sheet) table → table_of rows' sheet ≡ table
    → ((other : ℕ) → (other == sheet) ≡ false → table_of rows' other ≡ table_of rows other) → IsRenewal axis sheet rule rows cols rows' cols
renewed_rows Rows e sheet rule rows cols rows' table renewed replaced others = record { there = subst (AreRenewed rule (table_of rows sheet)) (sym replaced) renewed; others = others; over = refl }
renewed_rows Cols e sheet rule rows cols rows' table renewed replaced others = let bad : ⊥ = cc in absurd bad

pub renewed_cols : (axis : Axis) → axis ≡ Cols → (sheet : ℕ) (rule : ℕ → Option ℕ) (rows cols cols' : SheetLines) (table : LineTable) → AreRenewed rule (table_of (along axis rows cols) sheet) table → table_of cols' sheet ≡ table
    → ((other : ℕ) → (other == sheet) ≡ false → table_of cols' other ≡ table_of cols other) → IsRenewal axis sheet rule rows cols rows cols'
renewed_cols Rows e sheet rule rows cols cols' table renewed replaced others = let bad : ⊥ = cc in absurd bad
renewed_cols Cols e sheet rule rows cols cols' table renewed replaced others = record { there = subst (AreRenewed rule (table_of cols sheet)) (sym replaced) renewed; others = others; over = refl }
