-- The sheet of a file can begin a session: its cells are inside and at distinct places. It serves the reader of books.
use Rattle.std.proofs.Common.{◌≡◌, subst, refl, arith, ℕ, ◌+◌, inl, inr, Bool, true, false, nat_le, nat_lt, List, [], ◌∷◌, length, Option, Some, None, ◌&&◌}
use Rattle.std.specs.Prelude.{All, AllPairs, filter}
use Rattle.std.proofs.lemmas.Bool.Decides.{nat_tests}
use Rattle.book_model.specs.Given.{IsGivenCell, StandApart}
use Rattle.book_model.specs.declared.given.BookCell.{BookCell}
use Rattle.cell_addr.specs.declared.place.TheConstants.{COLS, ROWS}
use Rattle.book_files.specs.Books.{field_fault, filled_after, first_fault, first_of, is_filled, or_behind, table_cells}
use Rattle.book_files.specs.Laws.{ReadsBefore}
use Rattle.book_files.specs.declared.fault.BookFault.{BookFault}
use Rattle.book_files.specs.declared.fault.BookFault.TheVariants.{Rows, Columns, FieldLength, Cells}
use Rattle.book_files.proofs.ReadingOrder.{Each, each-all, each-filter, order-filter, order-pairs, order-table}

-- cells in reading order stand at distinct places
apart-pairs : (cs : List BookCell) → AllPairs ReadsBefore cs → AllPairs StandApart cs
apart-pairs cs ordered i j d below inside = elim (ordered i j d below inside) [ inl row ↦ inl (λ e. omega arith) | inr behind ↦ let col = behind.1 in inr (λ e. omega arith) ]

passes : (a b d f : Bool) → first_of ((a, Rows) ∷ (b, Columns) ∷ (d, FieldLength) ∷ (f, Cells) ∷ []) ≡ None → (a ≡ false) × (b ≡ false) × (d ≡ false)
passes true b d f e = cc
passes false true d f e = cc
passes false false true f e = cc
passes false false false f e = (refl, refl, refl)

fine-cell : (filled : ℕ) (c : BookCell) → field_fault filled c ≡ None → IsGivenCell c
fine-cell filled c e =
    let p = passes (nat_le ROWS c.row) (nat_le COLS c.col) (nat_lt 8192 (length c.text)) (is_filled c && nat_le 1000000 filled) e in
    let row : nat_le ROWS c.row ≡ false = p.0 in
    let col : nat_le COLS c.col ≡ false = p.1 in
    let text : nat_lt 8192 (length c.text) ≡ false = p.2 in
    (grind (arith, nat_tests), grind (arith, nat_tests), grind (arith, nat_tests))

both : (a b : Option BookFault) → or_behind a b ≡ None → (a ≡ None) × (b ≡ None)
both None b e = (refl, e)
both (Some x) b e = cc

fine-cells : (filled : ℕ) (cs : List BookCell) → first_fault filled cs ≡ None → Each IsGivenCell cs
fine-cells filled [] e = tt
fine-cells filled (c ∷ cs) e =
    let two = both (field_fault filled c) (first_fault (filled_after filled c) cs) e in
    (fine-cell filled c two.0, fine-cells (filled_after filled c) cs two.1)

-- fields without a fault fill cells that are inside and at distinct places
pub given-cells : (filled : ℕ) (rows : List (List (List ℕ))) (cells : List BookCell) → first_fault filled (table_cells 0 rows) ≡ None → filter is_filled (table_cells 0 rows) ≡ cells
    → All IsGivenCell cells × AllPairs StandApart cells
given-cells filled rows cells e same =
    let inside = each-filter IsGivenCell (table_cells 0 rows) (fine-cells filled (table_cells 0 rows) e) in
    let ordered = order-pairs (filter is_filled (table_cells 0 rows)) (order-filter (table_cells 0 rows) (order-table 0 rows)) in
    subst (λ cs. All IsGivenCell cs × AllPairs StandApart cs) same (each-all IsGivenCell (filter is_filled (table_cells 0 rows)) inside, apart-pairs (filter is_filled (table_cells 0 rows)) ordered)
