-- Tables whose lines have low numbers, and that they stay so where others are edited.
use Rattle.std.proofs.Common.{◌≡◌, ◌∙◌, ◌==◌, false, sym, ap, subst, eqb-true, ℕ, ⊎_elim}
use Rattle.std.proofs.lemmas.Bool.{cases_Bool}
use Rattle.stable_lines.specs.Lines.{AreSame}
use Rattle.stable_lines.specs.Sheets.{AreUnchanged, table_of}
use Rattle.stable_lines.specs.declared.sheets.SheetLines.{SheetLines}
use Rattle.stable_lines.specs.declared.table.LineTable.{LineTable}
use Rattle.place_lines.specs.internal.Low.{HasLowLines}

same_low : (t u : LineTable) → AreSame t u → HasLowLines u → HasLowLines t
same_low t u same low position line found = low position line (sym (same.2 position) ∙ found)

-- the lines of each sheet have low numbers
abbrev pub AreLow : SheetLines → Type 0
AreLow lines = (sheet : ℕ) → HasLowLines (table_of lines sheet)

pub unchanged_low : (old new : SheetLines) → AreUnchanged old new → AreLow old → AreLow new
unchanged_low old new same low sheet = same_low (table_of new sheet) (table_of old sheet) (same sheet) (low sheet)

pub replaced_low : (old new : SheetLines) (sheet : ℕ) (table : LineTable) → table_of new sheet ≡ table → HasLowLines table
    → ((other : ℕ) → (other == sheet) ≡ false → AreSame (table_of new other) (table_of old other)) → AreLow old → AreLow new
replaced_low old new sheet table here table_low others low other = ⊎_elim
    (λ same. subst HasLowLines (sym (ap (table_of new) (eqb-true other sheet same) ∙ here)) table_low)
    (λ differs. same_low (table_of new other) (table_of old other) (others other differs) (low other))
    (cases_Bool (other == sheet))
