-- The fields of a file stand in reading order. Serves the reader of books and the laws of sheets.
use Rattle.std.proofs.Common.{◌≡◌, refl, arith, ℕ, zero, suc, ◌+◌, ◌≤◌, ◌<◌, inl, inr, Bool, true, false, cond, List, [], ◌∷◌, ◌++◌, length}
use Rattle.std.specs.Prelude.{⊤, All, AllPairs, filter}
use Rattle.book_model.specs.declared.given.BookCell.{BookCell}
use Rattle.book_files.specs.Books.{is_filled, record_cells, table_cells}
use Rattle.book_files.specs.Laws.{ReadsBefore}

-- each of the cells passes
abbrev pub Each : (BookCell → Type 0) → List BookCell → Type 0
Each P [] = ⊤
Each P (c ∷ cs) = P c × Each P cs

-- each of the cells is read before those behind it
abbrev pub InOrder : List BookCell → Type 0
InOrder [] = ⊤
InOrder (c ∷ cs) = Each (ReadsBefore c) cs × InOrder cs

pub each-all : (P : BookCell → Type 0) (cs : List BookCell) → Each P cs → All P cs
each-all P [] h k d l = absurd (omega arith)
each-all P (c ∷ cs) h zero d l = h.0
each-all P (c ∷ cs) h (suc k) d l = each-all P cs h.1 k d (omega arith)

pub order-pairs : (cs : List BookCell) → InOrder cs → AllPairs ReadsBefore cs
order-pairs [] h i j d below l = absurd (omega arith)
order-pairs (c ∷ cs) h zero zero d below l = absurd (omega arith)
order-pairs (c ∷ cs) h (suc i) zero d below l = absurd (omega arith)
order-pairs (c ∷ cs) h zero (suc j) d below l = each-all (ReadsBefore c) cs h.0 j d (omega arith)
order-pairs (c ∷ cs) h (suc i) (suc j) d below l = order-pairs cs h.1 i j d (omega arith) (omega arith)

each-map : (P Q : BookCell → Type 0) (cs : List BookCell) → ((c : BookCell) → P c → Q c) → Each P cs → Each Q cs
each-map P Q [] f h = tt
each-map P Q (c ∷ cs) f h = (f c h.0, each-map P Q cs f h.1)

each-append : (P : BookCell → Type 0) (xs ys : List BookCell) → Each P xs → Each P ys → Each P (xs ++ ys)
each-append P [] ys a b = b
each-append P (x ∷ xs) ys a b = (a.0, each-append P xs ys a.1 b)

each-kept : (P : BookCell → Type 0) (b : Bool) (c : BookCell) (cs : List BookCell) → P c → Each P cs → Each P (cond b (c ∷ cs) cs)
each-kept P true c cs p h = (p, h)
each-kept P false c cs p h = h

pub each-filter : (P : BookCell → Type 0) (cs : List BookCell) → Each P cs → Each P (filter is_filled cs)
each-filter P [] h = tt
each-filter P (c ∷ cs) h = each-kept P (is_filled c) c (filter is_filled cs) h.0 (each-filter P cs h.1)

order-kept : (b : Bool) (c : BookCell) (cs : List BookCell) → Each (ReadsBefore c) cs → InOrder cs → InOrder (cond b (c ∷ cs) cs)
order-kept true c cs p h = (p, h)
order-kept false c cs p h = h

pub order-filter : (cs : List BookCell) → InOrder cs → InOrder (filter is_filled cs)
order-filter [] h = tt
order-filter (c ∷ cs) h = order-kept (is_filled c) c (filter is_filled cs) (each-filter (ReadsBefore c) cs h.0) (order-filter cs h.1)

order-append : (xs ys : List BookCell) → InOrder xs → InOrder ys → Each (λ x. Each (ReadsBefore x) ys) xs → InOrder (xs ++ ys)
order-append [] ys a b h = b
order-append (x ∷ xs) ys a b h = (each-append (ReadsBefore x) xs ys a.0 h.0, order-append xs ys a.1 b h.1)

-- in this row, from this column on
abbrev InRow : ℕ → ℕ → BookCell → Type 0
InRow row col c = (c.row ≡ row) × (col ≤ c.col)

in-row : (row col : ℕ) (texts : List (List ℕ)) → Each (InRow row col) (record_cells row col texts)
in-row row col [] = tt
in-row row col (t ∷ ts) = ((refl, omega arith), each-map (InRow row (col + 1)) (InRow row col) (record_cells row (col + 1) ts) (λ c h. let m = h.1 in (h.0, omega arith)) (in-row row (col + 1) ts))

from-row : (row : ℕ) (rows : List (List (List ℕ))) → Each (λ c. row ≤ c.row) (table_cells row rows)
from-row row [] = tt
from-row row (fields ∷ rows) =
    each-append (λ c. row ≤ c.row) (record_cells row 0 fields) (table_cells (row + 1) rows)
    (each-map (InRow row 0) (λ c. row ≤ c.row) (record_cells row 0 fields) (λ c h. let m = h.0 in omega arith) (in-row row 0 fields))
    (each-map (λ c. row + 1 ≤ c.row) (λ c. row ≤ c.row) (table_cells (row + 1) rows) (λ c h. omega arith) (from-row (row + 1) rows))

order-record : (row col : ℕ) (texts : List (List ℕ)) → InOrder (record_cells row col texts)
order-record row col [] = tt
order-record row col (t ∷ ts) =
    (each-map (InRow row (col + 1)) (ReadsBefore (record { row = row; col = col; text = t })) (record_cells row (col + 1) ts) (λ c h. let here = h.0 in let behind = h.1 in inr (omega arith, omega arith)) (in-row row (col + 1) ts), order-record row (col + 1) ts)

pub order-table : (row : ℕ) (rows : List (List (List ℕ))) → InOrder (table_cells row rows)
order-table row [] = tt
order-table row (fields ∷ rows) =
    order-append (record_cells row 0 fields) (table_cells (row + 1) rows) (order-record row 0 fields) (order-table (row + 1) rows)
    (each-map (InRow row 0) (λ x. Each (ReadsBefore x) (table_cells (row + 1) rows)) (record_cells row 0 fields)
    (λ x h. let here = h.0 in each-map (λ c. row + 1 ≤ c.row) (ReadsBefore x) (table_cells (row + 1) rows) (λ c low. inl (omega arith)) (from-row (row + 1) rows))
    (in-row row 0 fields))
