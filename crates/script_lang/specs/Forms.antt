-- The forms of fields. Rows and columns are those of addresses. Source: OpenFormula's references without `$`, and
-- this project's own.
use Rattle.std.specs.Prelude.{ℕ, bytes_eq, codes, Bool, ◌&&◌, if◌then◌else◌, nat_le, List, length, Option, Some, None, option_and_then}
use Rattle.std.specs.List.{list_all}
use Rattle.std.specs.Str.{is_utf8}
use Rattle.digits.specs.Digits.{is_digit, value}
use Rattle.cell_addr.specs.Address.{spot_of}
use Rattle.script_lang.specs.declared.commands.Version.{Version}
use Rattle.script_lang.specs.declared.commands.Version.TheVariants.{One, Two}
use Rattle.cell_addr.specs.declared.spot.Spot.{Spot}
use Rattle.script_lang.specs.declared.form.TheConstants.{COUNT_DIGITS}

-- the text of a field of UTF-8
abbrev pub text_field : List ℕ → Option (List ℕ)
text_field field = if is_utf8 field then Some field else None

-- the block that a field names: one address, or two with a colon between them
abbrev pub block_field : List ℕ → Option Spot
block_field field = option_and_then spot_of (text_field field)

-- the place that a field names: one address
abbrev pub one_address : Spot → Option Spot
one_address s = if s.single then Some s else None

abbrev pub place_field : List ℕ → Option Spot
place_field field = option_and_then one_address (block_field field)

-- a count: one to seven digits, leading zeros too
abbrev pub is_count : List ℕ → Bool
is_count cs = (nat_le 1 (length cs) && nat_le (length cs) COUNT_DIGITS) && list_all is_digit cs

abbrev pub count_of : List ℕ → Option ℕ
count_of cs = if is_count cs then Some (value cs) else None

-- the version that a field names
abbrev pub version_field : List ℕ → Option Version
version_field field = if bytes_eq field (codes "1") then Some One else (if bytes_eq field (codes "2") then Some Two else None)
