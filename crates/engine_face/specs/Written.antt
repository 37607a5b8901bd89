-- Cells to write all at once, as rows that say where among some bytes their texts stand. Source: this project's own.
use Rattle.std.specs.Prelude.{◌≡◌, ◌-◌, ◌&&◌, nat_le, ℕ, Bool, true, List, length, take, drop, All, AllPairs}
use Rattle.std.specs.Str.{is_utf8}
use Rattle.std.specs.declared.cmp.Ordering.TheVariants.{Less}
use Rattle.cell_addr.specs.Order.{place_cmp}
use Rattle.cell_addr.specs.declared.place.Place.{Place}
use Rattle.engine_face.specs.declared.session.Session.{Session}
use Rattle.engine_face.specs.declared.status.Status.{Status}
use Rattle.engine_face.specs.declared.status.Status.TheVariants.{NoMemory, BadCells}
use Rattle.engine_face.specs.declared.writing.WrittenRow.{WrittenRow}

-- the place of a cell to write, and its text
abbrev pub written_place : WrittenRow → Place
written_place row = record { sheet = row.sheet; row = row.row; col = row.col }

abbrev pub written_text : List ℕ → WrittenRow → List ℕ
written_text texts row = take row.text_length (drop row.text_start texts)

abbrev pub written_cell : List ℕ → WrittenRow → Place × List ℕ
written_cell texts row = (written_place row, written_text texts row)

-- its text stands among the bytes
abbrev pub has_bytes : List ℕ → WrittenRow → Bool
has_bytes texts row = nat_le row.text_start (length texts) && nat_le row.text_length (length texts - row.text_start)

-- and is UTF-8
abbrev pub has_text : List ℕ → WrittenRow → Bool
has_text texts row = has_bytes texts row && is_utf8 (written_text texts row)

-- each has a text, and stands behind those before it: by sheet, by row, by column
abbrev pub AreWritten : List ℕ → List WrittenRow → Type 0
AreWritten texts rows = All (λ row. has_text texts row ≡ true) rows × AllPairs (λ a b. place_cmp (written_place a) (written_place b) ≡ Less) rows

-- a call that is given no such cells says so, or wants memory, and all stays
abbrev pub IsNoTable : Session → Session → Status → Type 0
IsNoTable old new BadCells = new ≡ old
IsNoTable old new NoMemory = new ≡ old
IsNoTable old new status = ⊥
