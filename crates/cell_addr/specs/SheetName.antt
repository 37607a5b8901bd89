-- Names of sheets in front of `!`: bare, or between apostrophes. Source: OpenFormula's quoted sheet
-- names, and this project's own rule for bare ones.
use Rattle.std.specs.Prelude.{ℕ, Bool, not, ◌&&◌, ◌||◌, if◌then◌else◌, ◌==◌, List, length, slice_index, Option, Some, None, option_and_then}
use Rattle.std.specs.Option.{option_map}
use Rattle.std.specs.List.{list_all}
use Rattle.std.specs.Char.{is_ascii_alphabetic, is_ascii_alphanumeric}
use Rattle.cell_addr.specs.Parts.{split_once, strip_prefix}
use Rattle.cell_addr.specs.Quoted.{quoted}

-- the bytes that a sheet's bare name may begin with, and those that it may hold; 95 is `_`
abbrev pub is_name_start : ℕ → Bool
is_name_start c = is_ascii_alphabetic c || c == 95

abbrev pub is_name_byte : ℕ → Bool
is_name_byte c = is_ascii_alphanumeric c || c == 95

-- a sheet's name that needs no apostrophes: it begins with a letter or _, and has letters, digits and _
abbrev pub is_bare_name : List ℕ → Bool
is_bare_name text = (not (length text == 0) && is_name_start (slice_index text 0)) && list_all is_name_byte text

-- a name that was read between apostrophes, and after it at once `!` and the rest; 33 is `!`
abbrev pub quoted_sheet : List ℕ × List ℕ → Option (Option (List ℕ) × List ℕ)
quoted_sheet (name, rest) = option_map (λ area. (Some name, area)) (strip_prefix 33 rest)

-- the bare name in front of the first `!`, and the rest; a text without `!` has no name
abbrev pub bare_sheet : List ℕ → Option (List ℕ × List ℕ) → Option (Option (List ℕ) × List ℕ)
bare_sheet text None = Some (None, text)
bare_sheet text (Some (name, area)) = if is_bare_name name then Some (Some name, area) else None

-- the sheet's name and the rest, by what follows an apostrophe that the text begins with, if one does
abbrev pub sheet_by_start : List ℕ → Option (List ℕ) → Option (Option (List ℕ) × List ℕ)
sheet_by_start text None = bare_sheet text (split_once 33 text)
sheet_by_start text (Some after) = option_and_then quoted_sheet (quoted 39 after)

-- the sheet's name that a text begins with, or none, and the rest after its `!`; nothing where the
-- name has no such form; 39 is the apostrophe
abbrev pub sheet_and_rest : List ℕ → Option (Option (List ℕ) × List ℕ)
sheet_and_rest text = sheet_by_start text (strip_prefix 39 text)
