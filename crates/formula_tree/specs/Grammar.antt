-- The grammar of formulas: which tokens spell which tree, one case for each production. The second
-- list of tokens is what follows the spelling. Source: OpenFormula for the operators and their
-- leftward grouping; the spelling of the rest is this project's own.
use Rattle.std.specs.Prelude.{◌≡◌, ℕ, ℤ, suc, Bool, if◌then◌else◌, nat_lt, List, [], ◌∷◌, Option, Some, None, Ok}
use Rattle.cell_addr.specs.declared.place.TheConstants.{ROWS}
use Rattle.cell_addr.specs.Text.{capitals}
use Rattle.cell_value.specs.declared.fault.FaultKind.{FaultKind}
use Rattle.cell_value.specs.declared.fault.FaultKind.TheVariants as faults
use Rattle.fix_num.specs.Text.{number_of}
use Rattle.formula_tree.specs.declared.reference.Corner.{Corner}
use Rattle.formula_tree.specs.declared.operator.Op.{Op}
use Rattle.formula_tree.specs.declared.operator.Sign.{Sign}
use Rattle.formula_tree.specs.declared.address.Address.{Address}
use Rattle.formula_tree.specs.declared.address.End.{End}
use Rattle.formula_tree.specs.Token.{Token}
use Rattle.formula_tree.specs.Token as tok
use Rattle.formula_tree.specs.Term.{Term, number, text, truth, fault, cell, area, name, prefix, percent, binary, call, paren, Terms, no_terms, term}
use Rattle.formula_tree.specs.Level.{level_of, percent_level, sign_level, atom_level, op_of}
use Rattle.formula_tree.specs.Run.{end_of_run}
use Rattle.formula_tree.specs.Whole.{whole_term}
use Rattle.formula_tree.specs.Tokens.{tokens_by}

-- the corner of an address on a sheet
abbrev pub placed : ℕ → Address → Corner
placed sheet a = record { at = record { sheet = sheet; row = a.row; col = a.col }; row_fixed = a.row_fixed; col_fixed = a.col_fixed }

-- of two addresses the lower row and the lower column, each with its `$`; equal ones stay
abbrev pub first_of : Address → Address → Address
first_of a b = record {
  row = if nat_lt b.row a.row then b.row else a.row;
  col = if nat_lt b.col a.col then b.col else a.col;
  row_fixed = if nat_lt b.row a.row then b.row_fixed else a.row_fixed;
  col_fixed = if nat_lt b.col a.col then b.col_fixed else a.col_fixed;
}

-- and the other row and the other column
abbrev pub last_of : Address → Address → Address
last_of a b = record {
  row = if nat_lt b.row a.row then a.row else b.row;
  col = if nat_lt b.col a.col then a.col else b.col;
  row_fixed = if nat_lt b.row a.row then a.row_fixed else b.row_fixed;
  col_fixed = if nat_lt b.col a.col then a.col_fixed else b.col_fixed;
}

-- a reference on a sheet, or the fault #REF! where there is no such sheet
abbrev pub cell_on : Option ℕ → Address → Term Corner
cell_on (Some sheet) a = cell (placed sheet a)
cell_on None a = fault faults.Ref

-- a block between two addresses on a sheet, its corners in order
abbrev pub area_on : Option ℕ → Address → Address → Term Corner
area_on (Some sheet) a b = area (placed sheet (first_of a b)) (placed sheet (last_of a b))
area_on None a b = fault faults.Ref

-- the end of a whole range that a token is, of a sheet of so many rows: a number, a name or another run
abbrev pub end_of : ℕ → Token → Option End
end_of rows (tok.Number w) = end_of_run rows w
end_of rows (tok.Name w) = end_of_run rows w
end_of rows (tok.Other w) = end_of_run rows w
end_of rows token = None

-- all rows or all columns between two ends on a sheet, the lower one first, each with its `$`; equal ones stay
abbrev pub whole_on : Option ℕ → End → End → Term Corner
whole_on (Some sheet) a b = if nat_lt b.line a.line
    then whole_term (record { sheet = sheet; axis = a.axis; first = b.line; last = a.line }) b.fixed a.fixed
    else whole_term (record { sheet = sheet; axis = a.axis; first = a.line; last = b.line }) a.fixed b.fixed
whole_on None a b = fault faults.Ref

-- atoms without parts: a number, a text, a truth value, a fault, a name, a reference, a block or a whole range,
-- these three with a sheet's name in front or without; rows is how many rows a sheet has, home is the formula's sheet,
-- and find gives the sheet of a name
pub data LeafAt (rows : ℕ) (home : ℕ) (find : List ℕ → Option ℕ) : List Token → Term Corner → List Token → Type 0 where
  a_number : {w : List ℕ} {m : ℤ} {zs : List Token} → number_of w ≡ Ok m → LeafAt rows home find (tok.Number w ∷ zs) (number m) zs
  a_text : {w : List ℕ} {zs : List Token} → LeafAt rows home find (tok.Text w ∷ zs) (text w) zs
  a_truth : {b : Bool} {zs : List Token} → LeafAt rows home find (tok.Truth b ∷ zs) (truth b) zs
  a_fault : {f : FaultKind} {zs : List Token} → LeafAt rows home find (tok.Fault f ∷ zs) (fault f) zs
  a_name : {w : List ℕ} {zs : List Token} → LeafAt rows home find (tok.Name w ∷ zs) (name w) zs
  a_corner : {a : Address} {zs : List Token} → LeafAt rows home find (tok.Corner a ∷ zs) (cell_on (Some home) a) zs
  a_range : {a b : Address} {zs : List Token} → LeafAt rows home find (tok.Corner a ∷ tok.Colon ∷ tok.Corner b ∷ zs) (area_on (Some home) a b) zs
  a_sheet_corner : {s : List ℕ} {a : Address} {zs : List Token} → LeafAt rows home find (tok.Sheet s ∷ tok.Corner a ∷ zs) (cell_on (find s) a) zs
  a_sheet_range : {s : List ℕ} {a b : Address} {zs : List Token} → LeafAt rows home find (tok.Sheet s ∷ tok.Corner a ∷ tok.Colon ∷ tok.Corner b ∷ zs) (area_on (find s) a b) zs
  a_whole : {x y : Token} {a b : End} {zs : List Token} → end_of rows x ≡ Some a → end_of rows y ≡ Some b → a.axis ≡ b.axis
      → LeafAt rows home find (x ∷ tok.Colon ∷ y ∷ zs) (whole_on (Some home) a b) zs
  a_sheet_whole : {s : List ℕ} {x y : Token} {a b : End} {zs : List Token} → end_of rows x ≡ Some a → end_of rows y ≡ Some b → a.axis ≡ b.axis
      → LeafAt rows home find (tok.Sheet s ∷ x ∷ tok.Colon ∷ y ∷ zs) (whole_on (find s) a b) zs

mutual
  -- the tokens spell the tree at a level of the grammar: all its operators outside parentheses and
  -- arguments are of this level or a higher one
  pub data SpellsAt (rows : ℕ) (home : ℕ) (find : List ℕ → Option ℕ) : ℕ → List Token → Term Corner → List Token → Type 0 where
    -- what is spelt at a level is spelt at the one below
    lower : {k : ℕ} {xs : List Token} {t : Term Corner} {zs : List Token} → SpellsAt rows home find (suc k) xs t zs → SpellsAt rows home find k xs t zs
    -- operators of one level group to the left
    between : (o : Op) {xs : List Token} {l : Term Corner} {ys : List Token} {r : Term Corner} {zs : List Token}
        → SpellsAt rows home find (level_of o) xs l (tok.Operator o ∷ ys) → SpellsAt rows home find (suc (level_of o)) ys r zs → SpellsAt rows home find (level_of o) xs (binary o l r) zs
    -- an operand followed by `%`, as often as wanted
    followed : {xs : List Token} {t : Term Corner} {zs : List Token}
        → SpellsAt rows home find percent_level xs t (tok.Percent ∷ zs) → SpellsAt rows home find percent_level xs (percent t) zs
    -- a sign in front of an operand, as often as wanted
    before : (s : Sign) {xs : List Token} {t : Term Corner} {zs : List Token}
        → SpellsAt rows home find sign_level xs t zs → SpellsAt rows home find sign_level (tok.Operator (op_of s) ∷ xs) (prefix s t) zs
    -- an atom without parts
    leaf : {xs : List Token} {t : Term Corner} {zs : List Token} → LeafAt rows home find xs t zs → SpellsAt rows home find atom_level xs t zs
    -- a formula in parentheses
    inside : {xs : List Token} {t : Term Corner} {zs : List Token}
        → SpellsAt rows home find 0 xs t (tok.Close ∷ zs) → SpellsAt rows home find atom_level (tok.Open ∷ xs) (paren t) zs
    -- a function without arguments
    alone : {w : List ℕ} {zs : List Token} → SpellsAt rows home find atom_level (tok.Word w ∷ tok.Open ∷ tok.Close ∷ zs) (call (capitals w) no_terms) zs
    -- a function with arguments
    called : {w : List ℕ} {xs : List Token} {ts : Terms Corner} {zs : List Token}
        → SpellsAllAt rows home find xs ts zs → SpellsAt rows home find atom_level (tok.Word w ∷ tok.Open ∷ xs) (call (capitals w) ts) zs

  -- the tokens spell one argument or more, with commas between them, and the closing parenthesis
  pub data SpellsAllAt (rows : ℕ) (home : ℕ) (find : List ℕ → Option ℕ) : List Token → Terms Corner → List Token → Type 0 where
    last : {xs : List Token} {t : Term Corner} {zs : List Token} → SpellsAt rows home find 0 xs t (tok.Close ∷ zs) → SpellsAllAt rows home find xs (term t no_terms) zs
    more : {xs : List Token} {t : Term Corner} {ys : List Token} {ts : Terms Corner} {zs : List Token}
        → SpellsAt rows home find 0 xs t (tok.Comma ∷ ys) → SpellsAllAt rows home find ys ts zs → SpellsAllAt rows home find xs (term t ts) zs

-- a whole list of tokens spells a tree
abbrev pub SpellsTokensAt : ℕ → ℕ → (List ℕ → Option ℕ) → List Token → Term Corner → Type 0
SpellsTokensAt rows home find tokens t = SpellsAt rows home find 0 tokens t []

-- a text spells a tree by a sheet of so many rows: it begins with `=`, and the tokens after that spell the tree
abbrev pub SpellsTextAt : ℕ → ℕ → (List ℕ → Option ℕ) → List ℕ → Term Corner → Type 0
SpellsTextAt rows home find [] t = ⊥
SpellsTextAt rows home find (c ∷ cs) t = (tokens : List Token) × ((c ≡ 61) × (tokens_by rows cs ≡ Some tokens) × SpellsTokensAt rows home find tokens t)

-- the same by a sheet as it is
abbrev pub Leaf : ℕ → (List ℕ → Option ℕ) → List Token → Term Corner → List Token → Type 0
Leaf home find xs t zs = LeafAt ROWS home find xs t zs

abbrev pub Spells : ℕ → (List ℕ → Option ℕ) → ℕ → List Token → Term Corner → List Token → Type 0
Spells home find k xs t zs = SpellsAt ROWS home find k xs t zs

abbrev pub SpellsAll : ℕ → (List ℕ → Option ℕ) → List Token → Terms Corner → List Token → Type 0
SpellsAll home find xs ts zs = SpellsAllAt ROWS home find xs ts zs

abbrev pub SpellsTokens : ℕ → (List ℕ → Option ℕ) → List Token → Term Corner → Type 0
SpellsTokens home find tokens t = SpellsTokensAt ROWS home find tokens t

abbrev pub SpellsText : ℕ → (List ℕ → Option ℕ) → List ℕ → Term Corner → Type 0
SpellsText home find written t = SpellsTextAt ROWS home find written t
