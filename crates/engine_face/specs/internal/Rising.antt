-- Cells to write as they are told one after the other. Serves the reader of their rows.
use Rattle.std.specs.Prelude.{◌++◌, ℕ, Bool, true, if◌then◌else◌, List, [], ◌∷◌, Option, None, Some, option_and_then}
use Rattle.std.specs.Str.{is_utf8}
use Rattle.std.specs.Ordering.{is_lt}
use Rattle.cell_addr.specs.Order.{place_cmp}
use Rattle.cell_addr.specs.declared.place.Place.{Place}
use Rattle.engine_face.specs.Written.{has_bytes, written_place, written_text}
use Rattle.engine_face.specs.declared.writing.WrittenRow.{WrittenRow}

-- the bytes of a row's text, and the text, where it has one
abbrev pub bytes_told : List ℕ → WrittenRow → Option (List ℕ)
bytes_told texts row = if has_bytes texts row then Some (written_text texts row) else None

abbrev pub text_told : List ℕ → WrittenRow → Option (List ℕ)
text_told texts row = option_and_then (λ bytes. if is_utf8 bytes then Some bytes else None) (bytes_told texts row)

-- a place stands behind the last one, where there is one
abbrev pub is_behind : Option Place → Place → Bool
is_behind None at = true
is_behind (Some last) at = is_lt (place_cmp last at)

-- the cells behind these, of which the last has this place
abbrev pub cells_told : List ℕ → Option Place → List (Place × List ℕ) → List WrittenRow → Option (List (Place × List ℕ))
cells_told texts last cells [] = Some cells
cells_told texts last cells (row ∷ rows) = option_and_then (λ text. if is_behind last (written_place row) then cells_told texts (Some (written_place row)) (cells ++ (written_place row, text) ∷ []) rows else None) (text_told texts row)
