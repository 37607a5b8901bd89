-- The cells of a file are its fields. Serves the laws of sheets.
use Rattle.std.proofs.Common.{◌≡◌, ◌∙◌, sym, ap, subst, refl, arith, ℕ, zero, suc, ◌+◌, ◌-◌, ◌≤◌, ◌<◌, ◌⊎◌, inl, inr, ◌↔◌, ◌&&◌, Bool, true, false, cond, nat_le, nat_lt, not, List, [], ◌∷◌, ◌++◌, length, take, get_or, Option, Some, None, Result, Ok, Err}
use Rattle.std.specs.Prelude.{⊤, Contains, filter, slice_get}
use Rattle.std.proofs.lemmas.Bool.Decides.{nat_tests}
use Rattle.book_model.specs.declared.given.BookCell.{BookCell}
use Rattle.book_files.specs.Books.{is_filled, record_cells, table_cells}
use Rattle.book_files.specs.Laws.{AreFields, IsField, field_in}
use Rattle.book_files.proofs.ReadingOrder.{order-filter, order-pairs, order-table}

-- a cell is one of the list
abbrev pub IsOne : BookCell → List BookCell → Type 0
IsOne c [] = ⊥
IsOne c (d ∷ ds) = (d ≡ c) ⊎ IsOne c ds

one-contains : (c : BookCell) (ds : List BookCell) → IsOne c ds → Contains ds c
one-contains c [] h = absurd h
one-contains c (d ∷ ds) (inl e) = (0, omega arith, e)
one-contains c (d ∷ ds) (inr h) = let m = one-contains c ds h in let inside = m.1 in (suc m.0, omega arith, m.2)

contains-one : (c : BookCell) (ds : List BookCell) (k : ℕ) → k < length ds → get_or ds k c ≡ c → IsOne c ds
contains-one c [] k inside is = absurd (omega arith)
contains-one c (d ∷ ds) zero inside is = inl is
contains-one c (d ∷ ds) (suc k) inside is = inr (contains-one c ds k (omega arith) is)

one-append : (c : BookCell) (xs ys : List BookCell) → IsOne c xs ⊎ IsOne c ys → IsOne c (xs ++ ys)
one-append c [] ys (inl h) = absurd h
one-append c [] ys (inr h) = h
one-append c (x ∷ xs) ys (inl (inl e)) = inl e
one-append c (x ∷ xs) ys (inl (inr h)) = inr (one-append c xs ys (inl h))
one-append c (x ∷ xs) ys (inr h) = inr (one-append c xs ys (inr h))

append-one : (c : BookCell) (xs ys : List BookCell) → IsOne c (xs ++ ys) → IsOne c xs ⊎ IsOne c ys
append-one c [] ys h = inr h
append-one c (x ∷ xs) ys (inl e) = inl (inl e)
append-one c (x ∷ xs) ys (inr h) = elim (append-one c xs ys h) [ inl a ↦ inl (inr a) | inr b ↦ inr b ]

one-kept : (c d : BookCell) (ds : List BookCell) (b : Bool) → is_filled d ≡ b → (IsOne c (filter is_filled ds) ↔ (IsOne c ds × (is_filled c ≡ true))) → IsOne c (cond b (d ∷ filter is_filled ds) (filter is_filled ds)) ↔ (IsOne c (d ∷ ds) × (is_filled c ≡ true))
one-kept c d ds true is h = (
  (λ i. elim i [ inl e ↦ (inl e, ap is_filled (sym e) ∙ is) | inr m ↦ let w = h.0 m in (inr w.0, w.1) ]),
  (λ p. elim p.0 [ inl e ↦ inl e | inr m ↦ inr (h.1 (m, p.1)) ]),
)
one-kept c d ds false is h = (
  (λ i. let w = h.0 i in (inr w.0, w.1)),
  (λ p. elim p.0 [ inl e ↦ let no : false ≡ true = sym is ∙ ap is_filled e ∙ p.1 in cc | inr m ↦ h.1 (m, p.1) ]),
)

-- the filled ones of a list
one-filter : (c : BookCell) (ds : List BookCell) → IsOne c (filter is_filled ds) ↔ (IsOne c ds × (is_filled c ≡ true))
one-filter c [] = ((λ h. absurd h), (λ p. absurd p.0))
one-filter c (d ∷ ds) = one-kept c d ds (is_filled d) refl (one-filter c ds)

-- a cell of a record from a column on
abbrev pub IsOf : ℕ → ℕ → List (List ℕ) → BookCell → Type 0
IsOf row col texts c = (c.row ≡ row) × (col ≤ c.col) × (slice_get texts (c.col - col) ≡ Some c.text)

same_cell : (c : BookCell) (row col : ℕ) (text : List ℕ) → c.row ≡ row → c.col ≡ col → c.text ≡ text → record { row = row; col = col; text = text } ≡ c
same_cell c row col text r k t = sym (λ i. record { row = r i; col = k i; text = t i })

text_at : (ts : List (List ℕ)) (t text : List ℕ) (k : ℕ) → slice_get (t ∷ ts) k ≡ Some text → ((k ≡ 0) × (t ≡ text)) ⊎ ((1 ≤ k) × (slice_get ts (k - 1) ≡ Some text))
text_at ts t text zero is = let same : t ≡ text = cc in inl (refl, same)
text_at ts t text (suc k) is = let less : k ≡ suc k - 1 = omega arith in inr (omega arith, subst (λ n. slice_get ts n ≡ Some text) less is)

of-record : (row col : ℕ) (texts : List (List ℕ)) (c : BookCell) → IsOne c (record_cells row col texts) → IsOf row col texts c
of-record row col [] c h = absurd h
of-record row col (t ∷ ts) c (inl e) =
    let at : 0 ≡ c.col - col = omega (arith, ap (λ (d : BookCell). d.col) e) in
    let here : Some t ≡ Some c.text = ap (λ (d : BookCell). Some d.text) e in
    (sym (ap (λ (d : BookCell). d.row) e), omega (arith, ap (λ (d : BookCell). d.col) e), subst (λ n. slice_get (t ∷ ts) n ≡ Some c.text) at here)
of-record row col (t ∷ ts) c (inr h) =
    let m = of-record row (col + 1) ts c h in
    let low = m.1 in
    let at : suc (c.col - (col + 1)) ≡ c.col - col = omega arith in
    (m.0, omega arith, subst (λ n. slice_get (t ∷ ts) n ≡ Some c.text) at m.2)

record-of : (row col : ℕ) (texts : List (List ℕ)) (c : BookCell) → IsOf row col texts c → IsOne c (record_cells row col texts)
record-of row col [] c (r, k, is) = cc
record-of row col (t ∷ ts) c (r, k, is) = elim (text_at ts t c.text (c.col - col) is) [
  | inl h ↦ let zero_gap = h.0 in inl (same_cell c row col t r (omega arith) (sym h.1))
  | inr h ↦ let low = h.0 in let at : c.col - col - 1 ≡ c.col - (col + 1) = omega arith in inr (record-of row (col + 1) ts c (r, omega arith, subst (λ n. slice_get ts n ≡ Some c.text) at h.1))
]

-- a cell of records from a row on
abbrev pub IsIn : ℕ → List (List (List ℕ)) → BookCell → Type 0
IsIn row rows c = (row ≤ c.row) × (field_in rows (c.row - row) c.col ≡ Some c.text)

row_at : (rows : List (List (List ℕ))) (fields : List (List ℕ)) (k col : ℕ) (text : List ℕ) → field_in (fields ∷ rows) k col ≡ Some text
    → ((k ≡ 0) × (slice_get fields col ≡ Some text)) ⊎ ((1 ≤ k) × (field_in rows (k - 1) col ≡ Some text))
row_at rows fields zero col text is = inl (refl, is)
row_at rows fields (suc k) col text is = let less : k ≡ suc k - 1 = omega arith in inr (omega arith, subst (λ n. field_in rows n col ≡ Some text) less is)

of-table : (row : ℕ) (rows : List (List (List ℕ))) (c : BookCell) → IsOne c (table_cells row rows) → IsIn row rows c
of-table row [] c h = absurd h
of-table row (fields ∷ rows) c h = elim (append-one c (record_cells row 0 fields) (table_cells (row + 1) rows) h) [
  | inl a ↦
      let m = of-record row 0 fields c a in
      let same = m.0 in
      let first : 0 ≡ c.row - row = omega arith in
      let at : c.col - 0 ≡ c.col = omega arith in
      let here : slice_get fields c.col ≡ Some c.text = subst (λ n. slice_get fields n ≡ Some c.text) at m.2 in
      (omega arith, subst (λ n. field_in (fields ∷ rows) n c.col ≡ Some c.text) first here)
  | inr b ↦
      let m = of-table (row + 1) rows c b in
      let low = m.0 in
      let at : suc (c.row - (row + 1)) ≡ c.row - row = omega arith in
      (omega arith, subst (λ n. field_in (fields ∷ rows) n c.col ≡ Some c.text) at m.1)
]

table-of : (row : ℕ) (rows : List (List (List ℕ))) (c : BookCell) → IsIn row rows c → IsOne c (table_cells row rows)
table-of row [] c (low, is) = cc
table-of row (fields ∷ rows) c (low, is) = elim (row_at rows fields (c.row - row) c.col c.text is) [
  | inl h ↦
      let first = h.0 in
      let at : c.col ≡ c.col - 0 = omega arith in
      one-append c (record_cells row 0 fields) (table_cells (row + 1) rows) (inl (record-of row 0 fields c (omega arith, omega arith, subst (λ n. slice_get fields n ≡ Some c.text) at h.1)))
  | inr h ↦
      let past = h.0 in
      let at : c.row - row - 1 ≡ c.row - (row + 1) = omega arith in
      one-append c (record_cells row 0 fields) (table_cells (row + 1) rows) (inr (table-of (row + 1) rows c (omega arith, subst (λ n. field_in rows n c.col ≡ Some c.text) at h.1)))
]

-- the cells of a table are its fields
each-field : (rows : List (List (List ℕ))) (c : BookCell) → IsOne c (table_cells 0 rows) ↔ IsField rows c
each-field rows c =
    let at : c.row - 0 ≡ c.row = omega arith in
    let back : c.row ≡ c.row - 0 = omega arith in (
      (λ h. subst (λ n. field_in rows n c.col ≡ Some c.text) at (of-table 0 rows c h).1),
      (λ is. table-of 0 rows c (omega arith, subst (λ n. field_in rows n c.col ≡ Some c.text) back is)),
    )

has_byte : (c : BookCell) → (is_filled c ≡ true) ↔ (0 < length c.text)
has_byte c = ((λ t. grind (arith, nat_tests)), (λ l. grind (arith, nat_tests)))

-- the filled cells of a table are its fields with a byte, in reading order
pub filled-fields : (rows : List (List (List ℕ))) → AreFields (λ c. 0 < length c.text) rows (filter is_filled (table_cells 0 rows))
filled-fields rows = (
  (λ c. (
    (λ h. let o = (one-filter c (table_cells 0 rows)).0 (contains-one c (filter is_filled (table_cells 0 rows)) h.0 h.1 h.2) in ((each-field rows c).0 o.0, (has_byte c).0 o.1)),
    (λ p. one-contains c (filter is_filled (table_cells 0 rows)) ((one-filter c (table_cells 0 rows)).1 ((each-field rows c).1 p.0, (has_byte c).1 p.1))),
  )),
  order-pairs (filter is_filled (table_cells 0 rows)) (order-filter (table_cells 0 rows) (order-table 0 rows)),
)

-- all cells of a table are all its fields
pub all-fields : (rows : List (List (List ℕ))) → AreFields (λ c. ⊤) rows (table_cells 0 rows)
all-fields rows = (
  (λ c. (
    (λ h. ((each-field rows c).0 (contains-one c (table_cells 0 rows) h.0 h.1 h.2), tt)),
    (λ p. one-contains c (table_cells 0 rows) ((each-field rows c).1 p.0)),
  )),
  order-pairs (table_cells 0 rows) (order-table 0 rows),
)
