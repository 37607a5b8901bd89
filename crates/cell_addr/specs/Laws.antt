-- What holds of the definitions as a whole: what is printed is read back, and what is listed is found.
use Rattle.std.specs.Prelude.{◌≡◌, ◌<◌, ◌≤◌, ◌↔◌, ℕ, true, List, ◌∷◌, ◌++◌, length, Some, None, Contains}
use Rattle.std.specs.List.{list_all}
use Rattle.std.specs.Char.{is_ascii_uppercase}
use Rattle.cell_addr.specs.declared.place.Place.{Place}
use Rattle.cell_addr.specs.declared.place.Block.{Block}
use Rattle.cell_addr.specs.declared.whole.Whole.{Whole}
use Rattle.cell_addr.specs.declared.place.TheConstants.{COLS}
use Rattle.cell_addr.specs.Axis.{line_of}
use Rattle.cell_addr.specs.Place.{IsInside, Covers, covers, same_place, same_block}
use Rattle.cell_addr.specs.Whole.{whole_block, same_whole}
use Rattle.cell_addr.specs.Text.{folded}
use Rattle.cell_addr.specs.Address.{column_letters, column_of, row_of, place_letters, is_row, address_of, spot_at, spot_of}
use Rattle.cell_addr.specs.Parts.{strip_prefix}
use Rattle.cell_addr.specs.Quoted.{doubled, quoted}
use Rattle.cell_addr.specs.Sheets.{id_in, name_in, AreApart}

-- the letters of a column are read back as that column
abbrev pub ColumnsAreReadBack : Type 0
ColumnsAreReadBack = (col : ℕ) → col < COLS → column_of (column_letters col) ≡ Some col

-- no two columns have the same letters
abbrev pub ColumnsDiffer : Type 0
ColumnsDiffer = (a b : ℕ) → a < COLS → b < COLS → column_letters a ≡ column_letters b → a ≡ b

-- the address of a place inside is read back as its row and column, and as a spot of one corner
abbrev pub PlacesAreReadBack : Type 0
PlacesAreReadBack = (p : Place) → IsInside p
    → (address_of (place_letters p.row p.col) ≡ Some (p.row, p.col)) × (spot_of (place_letters p.row p.col) ≡ Some (spot_at (p.row, p.col)))

-- the address of a place inside is one to three capitals, and then one to seven digits without a leading 0
abbrev pub PlacesAreWritten : Type 0
PlacesAreWritten = (p : Place) → IsInside p → (letters : List ℕ) × (digits : List ℕ)
    × ((place_letters p.row p.col ≡ letters ++ digits) × (1 ≤ length letters) × (length letters ≤ 3) × (list_all is_ascii_uppercase letters ≡ true) × (is_row digits ≡ true))

-- a content is read after an opening quote exactly where it is written there doubled and closed by a quote,
-- and what follows doesn't begin with one
abbrev pub ContentsAreRead : Type 0
ContentsAreRead = (quote : ℕ) (text content rest : List ℕ)
    → (quoted quote text ≡ Some (content, rest)) ↔ ((text ≡ doubled quote content ++ (quote ∷ rest)) × (strip_prefix quote rest ≡ None))

-- an address is read exactly where it is a column's letters followed by a row's digits
abbrev pub AddressesAreRead : Type 0
AddressesAreRead = (text : List ℕ) (row col : ℕ)
    → (address_of text ≡ Some (row, col)) ↔ ((letters : List ℕ) × (digits : List ℕ) × ((text ≡ letters ++ digits) × (column_of letters ≡ Some col) × (row_of digits ≡ Some row)))

-- the test and the relation agree on which places a block covers
abbrev pub BlocksCover : Type 0
BlocksCover = (b : Block) (p : Place) → (covers b p ≡ true) ↔ Covers b p

-- the block of a whole range covers, of the places of the sheet, those on its lines
abbrev pub WholesCoverTheirLines : Type 0
WholesCoverTheirLines = (w : Whole) (p : Place) → IsInside p
    → Covers (whole_block w) p ↔ ((w.sheet ≡ p.sheet) × (w.first ≤ line_of w.axis p) × (line_of w.axis p ≤ w.last))

-- places, blocks and whole ranges are the same exactly where they are equal
abbrev pub SameIsEqual : Type 0
SameIsEqual = ((p q : Place) → (same_place p q ≡ true) ↔ (p ≡ q)) × ((b c : Block) → (same_block b c ≡ true) ↔ (b ≡ c))
    × ((v w : Whole) → (same_whole v w ≡ true) ↔ (v ≡ w))

-- the number and the name of a listed sheet are found by each other, the name in any case of its letters
abbrev pub SheetsAreFound : Type 0
SheetsAreFound = (sheets : List (ℕ × List ℕ)) (id : ℕ) (name other : List ℕ) → AreApart sheets → Contains sheets (id, name) → folded other ≡ folded name
    → (id_in sheets other ≡ Some id) × (name_in sheets id ≡ Some name)

-- what is found in a list of sheets stands in it
abbrev pub FoundSheetsAreListed : Type 0
FoundSheetsAreListed = (sheets : List (ℕ × List ℕ)) (id : ℕ) (name : List ℕ)
    → (id_in sheets name ≡ Some id → (listed : List ℕ) × (Contains sheets (id, listed) × (folded listed ≡ folded name))) × (name_in sheets id ≡ Some name → Contains sheets (id, name))
