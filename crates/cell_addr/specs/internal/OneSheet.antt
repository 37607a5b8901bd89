-- A list of one sheet, which has the number 0, is a proper list of sheets.
use Rattle.std.specs.Prelude.{◌≢◌, ℕ, List, [], ◌∷◌, All}
use Rattle.std.proofs.Common.{arith, zero, suc}
use Rattle.cell_addr.specs.Sheets.{AreApart, AreSheets}
use Rattle.cell_addr.specs.declared.place.TheConstants.{NO_SHEET}

apart : (name : List ℕ) → AreApart ((0, name) ∷ [])
apart name i j d h k = absurd (omega arith)

numbered : (name : List ℕ) → All (λ (s : ℕ × List ℕ). s.0 ≢ NO_SHEET) ((0, name) ∷ [])
numbered name zero d k = λ e. omega arith
numbered name (suc i) d k = absurd (omega arith)

pub AreSheets-one : (name : List ℕ) → AreSheets ((0, name) ∷ [])
AreSheets-one name = (apart name, numbered name)
