-- What stands under the keys of a table of TOML that has a form.
use Rattle.std.specs.Prelude.{ℕ, Bool, true, false, ◌&&◌, ◌||◌, nat_lt, bytes_eq, if◌then◌else◌, pos, List, Option, Some, None, is_some, option_and_then}
use Rattle.std.specs.List.{list_all, list_any}
use Rattle.toml.specs.Data.{Data, integer, Items, Members, no_members, member, as_str, as_bool, as_array, as_table, get_member}
use Rattle.toml.specs.View.{table_view}
use Rattle.case_files.specs.declared.form.Form.{Form}
use Rattle.case_files.specs.declared.form.Form.TheVariants as forms
use Rattle.case_files.specs.declared.row.Row.{Row}
use denote.Ref.{Bor}

-- the keys of a row with their values
abbrev pub members : Row → Members
members row = table_view row.table.now

-- the number that a value is; `None` where it is none of 32 bits without a sign
abbrev pub as_number : Data → Option ℕ
as_number (integer (pos n)) = if nat_lt n 4294967296 then Some n else None
as_number _ = None

-- whether a value is of the form
abbrev pub is_of : Form → Data → Bool
is_of forms.Text value = is_some (as_str value)
is_of forms.Number value = is_some (as_number value)
is_of forms.Truth value = is_some (as_bool value)
is_of forms.Array value = is_some (as_array value)
is_of forms.Table value = is_some (as_table value)

-- whether there is a value, which is of the form
abbrev pub is_some_of : Form → Option Data → Bool
is_some_of form None = false
is_some_of form (Some value) = is_of form value

-- a key, and the form of what stands under it
abbrev pub Key : Type 0
Key = Bor (List ℕ) × Form

-- whether a value of the key's form stands under the key
abbrev pub has : Members → Key → Bool
has ms key = is_some_of key.1 (get_member key.0.now ms)

-- whether the name is the key, and the value of its form
abbrev pub is_for : List ℕ → Data → Key → Bool
is_for name value key = bytes_eq key.0.now name && is_of key.1 value

-- whether the name is one of the keys, and the value of its form
abbrev pub allows : List Key → List ℕ → Data → Bool
allows keys name value = list_any (is_for name value) keys

-- whether each member is one that the first or the other keys allow
abbrev pub are_allowed : List Key → List Key → Members → Bool
are_allowed needed more no_members = true
are_allowed needed more (member name value ms) = (allows needed name value || allows more name value) && are_allowed needed more ms

-- whether a table has the first keys, and of the others those that it likes, each over a value of its form, and no more
abbrev pub is_row : List Key → List Key → Members → Bool
is_row needed more ms = list_all (has ms) needed && are_allowed needed more ms

-- what stands under a key, where it is a text, a number, a truth value, an array or a table
abbrev pub text_at : List ℕ → Members → Option (List ℕ)
text_at key ms = option_and_then as_str (get_member key ms)

abbrev pub number_at : List ℕ → Members → Option ℕ
number_at key ms = option_and_then as_number (get_member key ms)

abbrev pub truth_at : List ℕ → Members → Option Bool
truth_at key ms = option_and_then as_bool (get_member key ms)

abbrev pub values_at : List ℕ → Members → Option Items
values_at key ms = option_and_then as_array (get_member key ms)

abbrev pub table_at : List ℕ → Members → Option Members
table_at key ms = option_and_then as_table (get_member key ms)
