-- What holds of every formula's text: reading gives back what was printed, and a text goes wrong at one place at most.
use Rattle.std.specs.Prelude.{◌≡◌, ℕ, ◌≤◌, List, Option, Some}
use Rattle.cell_addr.specs.Sheets.{AreApart, id_in, name_in}
use Rattle.formula_tree.specs.declared.reference.Corner.{Corner}
use Rattle.formula_tree.specs.Term.{Term, depth_of}
use Rattle.formula_tree.specs.Canonical.{formula_text}
use Rattle.formula_tree.specs.Proper.{IsProper, SheetsAreListed}
use Rattle.formula_tree.specs.Reader.{tree_of_text, max_levels}
use Rattle.formula_parse.specs.declared.wrong.TextSpan.{TextSpan}
use Rattle.formula_parse.specs.Fronts.{IsFormula, GoesWrongAt}

-- the canonical text of a proper tree, of no more levels than it may have and whose sheets are listed, is
-- read as that tree
abbrev pub CanonicalIsRead : Type 0
CanonicalIsRead = (home : ℕ) (find : List ℕ → Option ℕ) (names : ℕ → Option (List ℕ)) (t : Term Corner) → IsProper t → SheetsAreListed home names find t → depth_of t ≤ max_levels
    → tree_of_text home find (formula_text home names t) ≡ Some t

-- the tree that a text is read as is read again from its canonical text
abbrev pub ReadAgain : Type 0
ReadAgain = (home : ℕ) (sheets : List (ℕ × List ℕ)) (text : List ℕ) (t : Term Corner) → AreApart sheets → tree_of_text home (id_in sheets) text ≡ Some t
    → tree_of_text home (id_in sheets) (formula_text home (name_in sheets) t) ≡ Some t

-- a text goes wrong at one place at most
abbrev pub OnePlace : Type 0
OnePlace = (text : List ℕ) (span other : TextSpan) → GoesWrongAt text span → GoesWrongAt text other → span ≡ other

-- and a formula nowhere
abbrev pub FormulasGoRight : Type 0
FormulasGoRight = (text : List ℕ) (span : TextSpan) → IsFormula text → GoesWrongAt text span → ⊥
