-- Sheets that an engine can begin with: none, and one with one cell. Serves tests and examples.
use Rattle.std.proofs.Common.{◌≡◌, ◌≢◌, ap, refl, arith, zero, suc, ◌≤◌, List, [], ◌∷◌, ◌++◌, length, codes}
use Rattle.std.specs.Prelude.{All, AllPairs}
use Rattle.std.specs.List.{filter_map}
use Rattle.std.specs.FinMap as fin
use Rattle.std.specs.FinMap.{len-empty}
use Rattle.cell_addr.specs.Order.{place_cmp}
use Rattle.cell_addr.specs.Text.{folded}
use Rattle.cell_addr.proofs.Places.{place_cmp-IsTotalOrder}
use Rattle.book_values.specs.Book.{Content}
use Rattle.book_model.specs.Given.{CanBegin, GivenSheet, IsGivenCell, IsGivenSheet, StandApart, given_entry, numbered, workbook_given}
use Rattle.book_model.specs.declared.given.BookCell.{BookCell}
use Rattle.book_model.proofs.Counts.{len-from_entries, length-filter_map}

all_none : {X : Type 0} (P : X → Type 0) → All P []
all_none P k d inside = absurd (omega arith)

pairs_none : {X : Type 0} (R : X → X → Type 0) → AllPairs R []
pairs_none R i j d before inside = absurd (omega arith)

all_one : {X : Type 0} (P : X → Type 0) (x : X) → P x → All P (x ∷ [])
all_one P x p zero d inside = p
all_one P x p (suc k) d inside = absurd (omega arith)

pairs_one : {X : Type 0} (R : X → X → Type 0) (x : X) → AllPairs R (x ∷ [])
pairs_one R x i j d before inside = absurd (omega arith)

-- no sheets
pub no_sheets : CanBegin []
no_sheets = (
  all_none IsGivenSheet,
  pairs_none (λ (t u : GivenSheet). folded t.name ≢ folded u.name),
  omega arith,
  let none = len-empty place_cmp Content in omega (arith, none),
)

end_none : {X : Type 0} (xs : List X) → xs ++ [] ≡ xs
end_none [] = refl
end_none (x ∷ xs) = ap (λ ys. x ∷ ys) (end_none xs)

few : (s : GivenSheet) (c : BookCell) → s.cells ≡ c ∷ [] → fin.len (workbook_given (s ∷ [])).cells ≤ 1000000
few s c one =
    let es = filter_map (given_entry (numbered 0 (s ∷ [])) 0) s.cells in
    let most = len-from_entries place_cmp-IsTotalOrder (es ++ []) in
    let all = ap length (end_none es) in
    let fewer = length-filter_map (given_entry (numbered 0 (s ∷ [])) 0) s.cells in
    let single = ap length one in
    omega (arith, most, all, fewer, single)

-- one sheet with one cell
pub one_cell : (s : GivenSheet) (c : BookCell) → s.name ≡ codes "Plan" → s.cells ≡ c ∷ [] → IsGivenCell c → CanBegin (s ∷ [])
one_cell s c name one given = (
  all_one IsGivenSheet s (rw (name, one) (refl, all_one IsGivenCell c given, pairs_one StandApart c)),
  pairs_one (λ (t u : GivenSheet). folded t.name ≢ folded u.name) s,
  omega arith,
  few s c one,
)
