-- The sheets of books, read one after the other: a session can begin with them. Serves the books that a run is told.
use Rattle.std.proofs.Common.{◌≡◌, ◌≢◌, ◌∙◌, sym, ap, refl, arith, ℕ, zero, suc, ◌+◌, ◌≤◌, ◌<◌, ◌&&◌, ◌||◌, Bool, true, false, cond, List, [], ◌∷◌, ◌++◌, length, filter, get_or, Option, Some, None, Ok, Err, nat_le, nat_lt}
use Rattle.std.specs.Prelude.{not}
use Rattle.std.specs.List.{All, AllPairs, filter_map}
use Rattle.std.specs.Str.{is_utf8}
use Rattle.std.proofs.lemmas.Bool.Decides.{nat_tests}
use Rattle.std.proofs.lemmas.List.{length-append}
use Rattle.std.proofs.lemmas.List.Elements.{All-push}
use Rattle.std.proofs.lemmas.List.Quantifiers.{all_pairs_push}
use Rattle.std.proofs.lemmas.Slice.Eq.{bytes_eq-Decides}
use Rattle.cell_addr.specs.Sheets.{same_name}
use Rattle.cell_addr.specs.Text.{folded}
use Rattle.cell_addr.specs.declared.place.TheConstants.{COLS, ROWS}
use Rattle.cell_addr.proofs.Places.{place_cmp-IsTotalOrder}
use Rattle.book_files.specs.Books.{book_sheet_of, field_fault, filled_after, first_fault, is_filled, or_behind, sheet_name_of, sheet_unless, file_cells}
use Rattle.book_files.specs.declared.fault.BookFault.{BookFault}
use Rattle.book_files.specs.declared.fault.BookFault.TheVariants.{NotUtf8, BadSheetName, Rows, Columns, FieldLength, Cells}
use Rattle.book_model.specs.Given.{CanBegin, GivenSheet, IsGivenCell, IsGivenSheet, StandApart, given_entries, given_entry, given_sheet, numbered}
use Rattle.book_model.specs.Refusals.{is_sheet_name}
use Rattle.book_model.specs.declared.given.BookCell.{BookCell}
use Rattle.book_model.specs.declared.given.BookSheet.{BookSheet}
use Rattle.book_model.proofs.Counts.{len-from_entries, length-filter_map}
use Rattle.run_inputs.specs.Opening.{empty_sheet, filled_in, has_name}
use Rattle.run_inputs.specs.internal.Parts.{CanFollow}

-- sheets with which a session can begin, and which fill so many cells
pub record Standing (sheets : List GivenSheet) (filled : ℕ) : Type 0 where
  pub given : All IsGivenSheet sheets
  pub apart : AllPairs (λ s t. folded s.name ≢ folded t.name) sheets
  pub few : length sheets ≤ 1024
  pub counted : filled ≡ filled_in sheets
  pub most : filled ≤ 1000000

all_none : {X : Type 0} (P : X → Type 0) → All P []
all_none P k d inside = absurd (omega arith)

pairs_none : {X : Type 0} (R : X → X → Type 0) → AllPairs R []
pairs_none R i j d before inside = absurd (omega arith)

pub standing-none : Standing [] 0
standing-none = record {
  given = all_none IsGivenSheet;
  apart = pairs_none (λ (s t : GivenSheet). folded s.name ≢ folded t.name);
  few = omega arith;
  counted = refl;
  most = omega arith;
}

or-left : (a b : Bool) → a || b ≡ false → a ≡ false
or-left true b h = h
or-left false b h = refl

or-right : (a b : Bool) → a || b ≡ false → b ≡ false
or-right true b h = cc
or-right false b h = h

-- a name that no sheet has is another one than each sheet's
apart-from : (sheets : List GivenSheet) (name : List ℕ) → has_name sheets name ≡ false → (k : ℕ) (d : GivenSheet) → k < length sheets → folded (get_or sheets k d).name ≢ folded name
apart-from [] name none k d inside = absurd (omega arith)
apart-from (s ∷ sheets) name none zero d inside = λ same. let here = or-left (same_name s.name name) (has_name sheets name) none in let t = (bytes_eq-Decides (folded s.name) (folded name)).1 same in cc
apart-from (s ∷ sheets) name none (suc k) d inside = apart-from sheets name (or-right (same_name s.name name) (has_name sheets name) none) k d (omega arith)

filled-more : (sheets : List GivenSheet) (s : GivenSheet) → filled_in (sheets ++ s ∷ []) ≡ filled_in sheets + length s.cells
filled-more [] s = let same : length s.cells + 0 ≡ 0 + length s.cells = omega arith in same
filled-more (t ∷ sheets) s = let more = filled-more sheets s in omega (arith, more)

pub standing-more : (sheets : List GivenSheet) (filled : ℕ) (s : GivenSheet) → Standing sheets filled → CanFollow sheets filled s → Standing (sheets ++ s ∷ []) (filled + length s.cells)
standing-more sheets filled s standing can =
    let long = length-append sheets (s ∷ []) in
    let more = filled-more sheets s in
    let same = standing.counted in
    record {
      given = All-push IsGivenSheet sheets s standing.given can.0;
      apart = all_pairs_push (λ (t u : GivenSheet). folded t.name ≢ folded u.name) sheets s standing.apart (λ k d inside. apart-from sheets s.name can.1 k d inside);
      few = let few = can.2 in omega (arith, few, long);
      counted = omega (arith, more, same);
      most = can.3;
    }

entries-few : (listed : List (ℕ × List ℕ)) (n : ℕ) (sheets : List GivenSheet) → length (given_entries listed n sheets) ≤ filled_in sheets
entries-few listed n [] = omega arith
entries-few listed n (s ∷ sheets) =
    let long = length-append (filter_map (given_entry listed n) s.cells) (given_entries listed (n + 1) sheets) in
    let here = length-filter_map (given_entry listed n) s.cells in
    let rest = entries-few listed (n + 1) sheets in
    omega (arith, long, here, rest)

pub standing-can : (sheets : List GivenSheet) (filled : ℕ) → Standing sheets filled → CanBegin sheets
standing-can sheets filled standing =
    let entries = given_entries (numbered 0 sheets) 0 sheets in
    let most = len-from_entries place_cmp-IsTotalOrder entries in
    let few = entries-few (numbered 0 sheets) 0 sheets in
    let same = standing.counted in
    let limit = standing.most in
    (standing.given, standing.apart, standing.few, omega (arith, most, few, same, limit))

-- one empty sheet
pub empty-can : CanBegin (empty_sheet ∷ [])
empty-can = standing-can (empty_sheet ∷ []) 0
    (standing-more [] 0 empty_sheet standing-none ((refl, all_none IsGivenCell, pairs_none StandApart), refl, omega arith, omega arith))

-- where no field has a fault, the limit of filled cells is kept
last_passes : (a b c d : Bool) (p q r s : BookFault) → cond a (Some p) (cond b (Some q) (cond c (Some r) (cond d (Some s) None))) ≡ None → d ≡ false
last_passes true b c d p q r s h = cc
last_passes false true c d p q r s h = cc
last_passes false false true d p q r s h = cc
last_passes false false false true p q r s h = cc
last_passes false false false false p q r s h = refl

and-true : (b : Bool) → true && b ≡ b
and-true b = refl

passes-count : (filled : ℕ) (c : BookCell) (b : Bool) → is_filled c ≡ b → field_fault filled c ≡ None → filled ≤ 1000000 → cond b (filled + 1) filled ≤ 1000000
passes-count filled c true is none most =
    let last = last_passes (nat_le ROWS c.row) (nat_le COLS c.col) (nat_lt 8192 (length c.text)) (is_filled c && nat_le 1000000 filled) Rows Columns FieldLength Cells none in
    let full : nat_le 1000000 filled ≡ false = sym (ap (λ t. t && nat_le 1000000 filled) is) ∙ last in
    grind (arith, nat_tests, full)
passes-count filled c false is none most = most

none-left : (a b : Option BookFault) → or_behind a b ≡ None → a ≡ None
none-left None b h = refl
none-left (Some e) b h = cc

none-behind : (a b : Option BookFault) → or_behind a b ≡ None → b ≡ None
none-behind None b h = h
none-behind (Some e) b h = cc

filter-length : (c : BookCell) (cells : List BookCell) (b : Bool) → is_filled c ≡ b → (filled : ℕ) → filled + length (filter is_filled (c ∷ cells)) ≡ cond b (filled + 1) filled + length (filter is_filled cells)
filter-length c cells true is filled = rw is (omega arith)
filter-length c cells false is filled = rw is refl

fields-fit : (filled : ℕ) (cells : List BookCell) → first_fault filled cells ≡ None → filled ≤ 1000000 → filled + length (filter is_filled cells) ≤ 1000000
fields-fit filled [] none most = omega (arith, most)
fields-fit filled (c ∷ cells) none most =
    let here = none-left (field_fault filled c) (first_fault (filled_after filled c) cells) none in
    let behind = none-behind (field_fault filled c) (first_fault (filled_after filled c) cells) none in
    let rest = fields-fit (filled_after filled c) cells behind (passes-count filled c (is_filled c) refl here most) in
    let long = filter-length c cells (is_filled c) refl filled in
    omega (arith, rest, long)

-- a sheet that was read has the file's name, and keeps the limit of filled cells
said-ok : (text named : Bool) (f : Option BookFault) (name : List ℕ) (cells : List BookCell) (g : GivenSheet) (e d : BookFault) → cond text (Err e) (cond named (Err d) (sheet_unless f name cells)) ≡ Ok g
    → (f ≡ None) × (record { name = name; cells = filter is_filled cells } ≡ g)
said-ok true named f name cells g e d h = cc
said-ok false true f name cells g e d h = cc
said-ok false false (Some x) name cells g e d h = cc
said-ok false false None name cells g e d h = (refl, cc)

pub read_can : (sheets : List GivenSheet) (filled : ℕ) (file bytes : List ℕ) (s : BookSheet) → book_sheet_of file bytes filled ≡ Ok (given_sheet s) → IsGivenSheet (given_sheet s) → has_name sheets (sheet_name_of file) ≡ false → length sheets < 1024 → filled ≤ 1000000
    → CanFollow sheets filled (given_sheet s)
read_can sheets filled file bytes s said given new few most =
    let ok = said-ok (not (is_utf8 bytes)) (not (is_sheet_name (sheet_name_of file))) (first_fault filled (file_cells bytes)) (sheet_name_of file) (file_cells bytes) (given_sheet s) NotUtf8 BadSheetName said in
    let name : sheet_name_of file ≡ s.name = ap (λ (g : GivenSheet). g.name) ok.1 in
    let cells : filter is_filled (file_cells bytes) ≡ s.cells.list.items = ap (λ (g : GivenSheet). g.cells) ok.1 in
    let fit = fields-fit filled (file_cells bytes) ok.0 most in
    let long = ap length cells in
    (given, sym (ap (has_name sheets) name) ∙ new, few, omega (arith, fit, long))
