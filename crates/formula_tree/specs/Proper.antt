-- Proper trees: those that the grammar can spell, with operands of the level that it asks.
-- Source: this project's own.
use Rattle.std.specs.Prelude.{◌≡◌, ℕ, ◌<◌, ◌≤◌, false, List, Option, Some, None, ◌⊎◌, IsTrue}
use Rattle.cell_addr.specs.Text.{capitals}
use Rattle.cell_addr.specs.Place as places
use Rattle.fix_num.specs.Number as numbers
use Rattle.formula_tree.specs.declared.reference.Corner.{Corner}
use Rattle.formula_tree.specs.Term.{Term, number, text, truth, fault, cell, area, whole, name, prefix, percent, binary, call, paren, Terms, no_terms, term}
use Rattle.formula_tree.specs.Level.{level, level_of, percent_level, sign_level}
use Rattle.formula_tree.specs.Run.{is_word, corner_of, truth_of}
use Rattle.formula_tree.specs.Whole.{AreWhole}

-- the corners of a block lie on one sheet, the first not after the second
abbrev pub AreOrdered : Corner → Corner → Type 0
AreOrdered c d = (c.at.sheet ≡ d.at.sheet) × (c.at.row ≤ d.at.row) × (c.at.col ≤ d.at.col)

-- a run that is read as a name: it has the form of one, and is neither an address nor a truth value
abbrev pub IsName : List ℕ → Type 0
IsName w = IsTrue (is_word w) × (corner_of w ≡ None) × (truth_of w ≡ None)

-- a function's word in capitals
abbrev pub IsCallWord : List ℕ → Type 0
IsCallWord w = IsTrue (is_word w) × (capitals w ≡ w)

abbrev mutual
  -- the tree is proper
  pub IsProper : Term Corner → Type 0
  IsProper (number m) = numbers.IsInside m × (numbers.is_negative m ≡ false)
  IsProper (text w) = Unit {0}
  IsProper (truth b) = Unit {0}
  IsProper (fault f) = Unit {0}
  IsProper (cell c) = places.IsInside c.at
  IsProper (area c d) = places.IsInside c.at × places.IsInside d.at × AreOrdered c d
  IsProper (whole axis c d) = places.IsInside c.at × places.IsInside d.at × AreOrdered c d × AreWhole axis c d
  IsProper (name w) = IsName w
  IsProper (prefix s t) = (sign_level ≤ level t) × IsProper t
  IsProper (percent t) = (percent_level ≤ level t) × IsProper t
  IsProper (binary o l r) = (level_of o ≤ level l) × (level_of o < level r) × IsProper l × IsProper r
  IsProper (call w ts) = IsCallWord w × AreProper ts
  IsProper (paren t) = IsProper t

  -- each of the trees is proper
  pub AreProper : Terms Corner → Type 0
  AreProper no_terms = Unit {0}
  AreProper (term t ts) = IsProper t × AreProper ts

-- the sheet is the home's, or has a name by which it is found again
abbrev pub IsListed : ℕ → (ℕ → Option (List ℕ)) → (List ℕ → Option ℕ) → ℕ → Type 0
IsListed home names find sheet = (sheet ≡ home) ⊎ ((w : List ℕ) × (names sheet ≡ Some w) × (find w ≡ Some sheet))

-- each sheet that a name finds has a name by which it is found
abbrev pub AreNamed : (ℕ → Option (List ℕ)) → (List ℕ → Option ℕ) → Type 0
AreNamed names find = (v : List ℕ) (sheet : ℕ) → find v ≡ Some sheet → (w : List ℕ) × (names sheet ≡ Some w) × (find w ≡ Some sheet)

abbrev mutual
  -- each sheet of the tree is the home's or listed
  pub SheetsAreListed : ℕ → (ℕ → Option (List ℕ)) → (List ℕ → Option ℕ) → Term Corner → Type 0
  SheetsAreListed home names find (cell c) = IsListed home names find c.at.sheet
  SheetsAreListed home names find (area c d) = IsListed home names find c.at.sheet
  SheetsAreListed home names find (whole axis c d) = IsListed home names find c.at.sheet
  SheetsAreListed home names find (prefix s t) = SheetsAreListed home names find t
  SheetsAreListed home names find (percent t) = SheetsAreListed home names find t
  SheetsAreListed home names find (binary o l r) = SheetsAreListed home names find l × SheetsAreListed home names find r
  SheetsAreListed home names find (call w ts) = AllSheetsAreListed home names find ts
  SheetsAreListed home names find (paren t) = SheetsAreListed home names find t
  SheetsAreListed home names find t = Unit {0}

  pub AllSheetsAreListed : ℕ → (ℕ → Option (List ℕ)) → (List ℕ → Option ℕ) → Terms Corner → Type 0
  AllSheetsAreListed home names find no_terms = Unit {0}
  AllSheetsAreListed home names find (term t ts) = SheetsAreListed home names find t × AllSheetsAreListed home names find ts
