-- What the fields behind a word say. Source: this project's own.
use Rattle.std.specs.Prelude.{ℕ, ◌+◌, true, List, [], ◌∷◌, Option, Some, None, Result, Ok, Err}
use Rattle.std.specs.Option.{option_map}
use Rattle.cell_addr.specs.Address.{row_of, column_of}
use Rattle.cell_addr.specs.declared.spot.Spot.{Spot}
use Rattle.script_lang.specs.declared.commands.Version.TheVariants as versions
use Rattle.script_lang.specs.Forms.{text_field, block_field, place_field, count_of, version_field}
use Rattle.script_lang.specs.declared.arguments.Arguments.{Arguments}
use Rattle.script_lang.specs.declared.error.ScriptError.{ScriptError}
use Rattle.script_lang.specs.declared.error.ScriptError.TheVariants.{BadField}
use Rattle.script_lang.specs.declared.word.FieldKind.{FieldKind}
use Rattle.script_lang.specs.declared.word.FieldKind.TheVariants.{Place, Block, Sheet, Scope, Row, Column, Count, RowBefore, ColumnBefore, Name, Text, Version}

-- what a field says, or that the field of this number is bad
abbrev pub said_by : {X : Type 0} → ℕ → Option X → Result X ScriptError
said_by k None = Err (BadField k)
said_by k (Some x) = Ok x

-- what is said, and then more; the first bad field counts
abbrev pub and_said : {X Y : Type 0} → Result X ScriptError → (X → Result Y ScriptError) → Result Y ScriptError
and_said (Ok x) next = next x
and_said (Err e) next = Err e

-- before a field is read each slot is empty
abbrev pub no_spot : Spot
no_spot = record { sheet = None; top = 0; left = 0; bottom = 0; right = 0; single = true }

abbrev pub no_arguments : Arguments
no_arguments = record { place = no_spot; block = no_spot; sheet = []; line = 0; count = 0; before = 0; name = []; text = []; version = versions.Two }

-- what a field of this kind says fills its slot
abbrev pub with_field : FieldKind → List ℕ → Arguments → Option Arguments
with_field Place field a = option_map (λ s. record a { place = s }) (place_field field)
with_field Block field a = option_map (λ s. record a { block = s }) (block_field field)
with_field Sheet field a = option_map (λ w. record a { sheet = w }) (text_field field)
with_field Scope field a = option_map (λ w. record a { sheet = w }) (text_field field)
with_field Row field a = option_map (λ n. record a { line = n }) (row_of field)
with_field Column field a = option_map (λ n. record a { line = n }) (column_of field)
with_field Count field a = option_map (λ n. record a { count = n }) (count_of field)
with_field RowBefore field a = option_map (λ n. record a { before = n }) (row_of field)
with_field ColumnBefore field a = option_map (λ n. record a { before = n }) (column_of field)
with_field Name field a = option_map (λ w. record a { name = w }) (text_field field)
with_field Text field a = option_map (λ w. record a { text = w }) (text_field field)
with_field Version field a = option_map (λ v. record a { version = v }) (version_field field)

-- what fields of these kinds say, one after the other, where the first of them has this number
abbrev pub read_from : ℕ → List FieldKind → List (List ℕ) → Arguments → Result Arguments ScriptError
read_from k (kind ∷ kinds) (field ∷ fields) a = and_said (said_by k (with_field kind field a)) (read_from (k + 1) kinds fields)
read_from k _ _ a = Ok a
