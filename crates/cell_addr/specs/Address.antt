-- Addresses of cells as texts: what they name, and how a place is written. Source: OpenFormula's
-- references without `$`, and this project's own limits on letters and digits.
use Rattle.std.specs.Prelude.{◌≡◌, ℕ, ◌+◌, ◌-◌, ◌*◌, ◌/◌, ◌%◌, Bool, true, false, not, ◌&&◌, if◌then◌else◌, nat_lt, nat_le, ◌==◌, List, [], ◌∷◌, ◌++◌, length, take, drop, slice_index, Option, Some, None, option_and_then, IsSome, Result, Ok, Err, min, max}
use Rattle.std.specs.Option.{option_map, option_zip}
use Rattle.std.specs.List.{list_all, list_any, prefix_len, before_first, after_first}
use Rattle.std.specs.Char.{is_ascii_alphabetic, to_ascii_uppercase}
use Rattle.std.specs.Fmt.{decimal}
use Rattle.digits.specs.Digits.{is_digit, value}
use Rattle.cell_addr.specs.SheetName.{sheet_and_rest}
use Rattle.cell_addr.specs.declared.address.TheConstants.{COLUMN_LETTERS, ROW_DIGITS}
use Rattle.cell_addr.specs.declared.spot.Spot.{Spot}
use Rattle.cell_addr.specs.declared.spot.AddrError.{AddrError}
use Rattle.cell_addr.specs.declared.spot.AddrError.TheVariants.{NotAnAddress, NoMemory}

-- the number of a column letter, in either case: A is 1 and Z is 26
abbrev pub letter_number : ℕ → ℕ
letter_number c = to_ascii_uppercase c - 64

-- the number that letters spell after those that spell n
abbrev pub letters_number_from : ℕ → List ℕ → ℕ
letters_number_from n [] = n
letters_number_from n (c ∷ cs) = letters_number_from (26 * n + letter_number c) cs

-- the number that letters spell: Z is 26, AA is 27, ZZ is 702, AAA is 703
abbrev pub letters_number : List ℕ → ℕ
letters_number cs = letters_number_from 0 cs

-- one to three letters
abbrev pub is_column : List ℕ → Bool
is_column cs = (nat_le 1 (length cs) && nat_le (length cs) COLUMN_LETTERS) && list_all is_ascii_alphabetic cs

-- one to seven digits, the first of them no 0; 48 is `0`
abbrev pub is_row : List ℕ → Bool
is_row cs = (nat_le 1 (length cs) && nat_le (length cs) ROW_DIGITS) && (not (slice_index cs 0 == 48) && list_all is_digit cs)

-- the column that a text names, counted from 0
abbrev pub column_of : List ℕ → Option ℕ
column_of cs = if is_column cs then Some (letters_number cs - 1) else None

-- the row that a text names, counted from 0
abbrev pub row_of : List ℕ → Option ℕ
row_of cs = if is_row cs then Some (value cs - 1) else None

-- the letters that a text begins with, and what follows them
abbrev pub letters : List ℕ → List ℕ
letters text = take (prefix_len is_ascii_alphabetic text) text

abbrev pub after_letters : List ℕ → List ℕ
after_letters text = drop (prefix_len is_ascii_alphabetic text) text

-- the row and the column that an address names: letters followed by digits
abbrev pub address_of : List ℕ → Option (ℕ × ℕ)
address_of text = option_zip (row_of (after_letters text)) (column_of (letters text))

-- 58 is `:`
abbrev pub is_colon : ℕ → Bool
is_colon c = c == 58

-- the spot of one address
abbrev pub spot_at : ℕ × ℕ → Spot
spot_at a = record { sheet = None; top = a.0; left = a.1; bottom = a.0; right = a.1; single = true }

-- the spot between two addresses, its corners in order
abbrev pub spot_between : (ℕ × ℕ) × (ℕ × ℕ) → Spot
spot_between (a, b) = record { sheet = None; top = min a.0 b.0; left = min a.1 b.1; bottom = max a.0 b.0; right = max a.1 b.1; single = false }

-- an address, or two with a colon between them
abbrev pub area_of : List ℕ → Option Spot
area_of text = if list_any is_colon text
    then option_map spot_between (option_zip (address_of (before_first is_colon text)) (address_of (after_first is_colon text)))
    else option_map spot_at (address_of text)

-- the spot on this sheet
abbrev pub on_sheet : Option (List ℕ) → Spot → Spot
on_sheet name spot = record spot { sheet = name }

-- an area after a sheet's name, or after none
abbrev pub area_on_sheet : Option (List ℕ) × List ℕ → Option Spot
area_on_sheet (name, area) = option_map (on_sheet name) (area_of area)

-- the spot that a text names: a sheet's name with `!` where one is wanted, and an area
abbrev pub spot_of : List ℕ → Option Spot
spot_of text = option_and_then area_on_sheet (sheet_and_rest text)

-- what a reading answers where the text names this spot, or none: that spot, or that it is no address;
-- want of memory only where there is a spot
abbrev pub ReadsAs : Result Spot AddrError → Option Spot → Type 0
ReadsAs (Ok spot) named = named ≡ Some spot
ReadsAs (Err NotAnAddress) named = named ≡ None
ReadsAs (Err NoMemory) named = IsSome named

-- the capital of a number from 0 for A, which is 65, to 25 for Z
abbrev pub capital : ℕ → ℕ
capital n = 65 + n

-- the letters of a column: one for the first 26 columns, then two, and three from column 702 on
abbrev pub column_letters : ℕ → List ℕ
column_letters col = if nat_lt col 26
    then capital col ∷ []
    else (if nat_lt col 702
    then capital ((col - 26) / 26) ∷ capital ((col - 26) % 26) ∷ []
    else capital ((col - 702) / 676) ∷ capital ((col - 702) / 26 % 26) ∷ capital ((col - 702) % 26) ∷ [])

-- the address of a row and a column
abbrev pub place_letters : ℕ → ℕ → List ℕ
place_letters row col = column_letters col ++ decimal (row + 1)
