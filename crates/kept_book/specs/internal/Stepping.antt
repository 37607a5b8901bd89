-- The cells, the sheets and the names of a frame over several changes.
use Rattle.std.specs.Prelude.{⊤, ℕ, List, [], ◌∷◌}
use Rattle.grid_store.specs.declared.cell.Cell.{Cell}
use Rattle.name_table.specs.Scopes.{NameMap}
use Rattle.shift_core.specs.Maps.{PlaceMap}
use Rattle.kept_book.specs.Change.{AreKnown, Change, HaveSlots, cells_after, cells_before, names_with, sheets_with, shift_of}
use Rattle.kept_book.specs.Frame.{Frame, Line, Words}
use Rattle.kept_book.specs.declared.passing.Side.{Side}
use Rattle.kept_book.specs.declared.passing.Side.TheVariants.{Before, After}

abbrev pub cells_back : Line → List Change → PlaceMap Cell → PlaceMap Cell
cells_back line [] m = m
cells_back line (c ∷ cs) m = cells_before (shift_of line c) c (cells_back line cs m)

abbrev pub cells_forth : Line → List Change → PlaceMap Cell → PlaceMap Cell
cells_forth line [] m = m
cells_forth line (c ∷ cs) m = cells_forth line cs (cells_after (shift_of line c) c m)

abbrev pub sheets_back : List Change → List (ℕ × List ℕ) → List (ℕ × List ℕ)
sheets_back [] sheets = sheets
sheets_back (c ∷ cs) sheets = sheets_with (λ x. x.0) c.sheets (sheets_back cs sheets)

abbrev pub sheets_forth : List Change → List (ℕ × List ℕ) → List (ℕ × List ℕ)
sheets_forth [] sheets = sheets
sheets_forth (c ∷ cs) sheets = sheets_forth cs (sheets_with (λ x. x.1) c.sheets sheets)

abbrev pub names_back : List Change → NameMap → NameMap
names_back [] names = names
names_back (c ∷ cs) names = names_with (λ x. x.0) c.names (names_back cs names)

abbrev pub names_forth : List Change → NameMap → NameMap
names_forth [] names = names
names_forth (c ∷ cs) names = names_forth cs (names_with (λ x. x.1) c.names names)

-- what the changes list of sheets and names can be put back, and done again
abbrev pub CanReturn : Words → List Change → List (ℕ × List ℕ) → Type 0
CanReturn words [] sheets = ⊤
CanReturn words (c ∷ cs) sheets = HaveSlots (λ x. x.0) c.sheets (sheets_back cs sheets) × AreKnown words c.names × CanReturn words cs sheets

abbrev pub CanRepeat : Words → List Change → List (ℕ × List ℕ) → Type 0
CanRepeat words [] sheets = ⊤
CanRepeat words (c ∷ cs) sheets = HaveSlots (λ x. x.1) c.sheets sheets × AreKnown words c.names × CanRepeat words cs (sheets_with (λ x. x.1) c.sheets sheets)

-- one side of a change
abbrev pub of_side : {X : Type 0} → Side → X × X → X
of_side Before x = x.0
of_side After x = x.1

-- the cells, the sheets and the names on one side of changes
abbrev pub cells_on : Side → Line → List Change → PlaceMap Cell → PlaceMap Cell
cells_on Before = cells_back
cells_on After = cells_forth

abbrev pub sheets_on : Side → List Change → List (ℕ × List ℕ) → List (ℕ × List ℕ)
sheets_on Before = sheets_back
sheets_on After = sheets_forth

abbrev pub names_on : Side → List Change → NameMap → NameMap
names_on Before = names_back
names_on After = names_forth

-- the frame there, at a position
abbrev pub frame_on : Side → ℕ → Line → List Change → Frame → Frame
frame_on side position line cs f = record { position = position; cells = cells_on side line cs f.cells; sheets = sheets_on side cs f.sheets; names = names_on side cs f.names }

-- what the changes list of sheets and names can be put to that side
abbrev pub CanPass : Side → Words → List Change → List (ℕ × List ℕ) → Type 0
CanPass Before = CanReturn
CanPass After = CanRepeat
