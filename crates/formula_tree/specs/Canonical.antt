-- The canonical text of a tree: no blanks, capitals, and a sheet's name exactly where the sheet isn't
-- the home's. Each definition puts a tree in front of what follows it. Source: this project's own.
use Rattle.std.specs.Prelude.{ℕ, ◌+◌, Bool, if◌then◌else◌, ◌==◌, List, [], ◌∷◌, ◌++◌, Option, Some, None}
use Rattle.std.specs.Fmt.{decimal}
use Rattle.cell_addr.specs.declared.axis.Axis.{Axis}
use Rattle.cell_addr.specs.declared.axis.Axis.TheVariants.{Rows, Cols}
use Rattle.cell_addr.specs.Address.{column_letters}
use Rattle.cell_addr.specs.Quoted.{doubled}
use Rattle.cell_addr.specs.SheetName.{is_bare_name}
use Rattle.cell_value.specs.Fault.{fault_text}
use Rattle.cell_value.specs.Scalar.{truth_text}
use Rattle.fix_num.specs.Text.{text_of}
use Rattle.formula_tree.specs.declared.reference.Corner.{Corner}
use Rattle.formula_tree.specs.declared.operator.Op.{Op}
use Rattle.formula_tree.specs.declared.operator.Op.TheVariants as op
use Rattle.formula_tree.specs.declared.operator.Sign.{Sign}
use Rattle.formula_tree.specs.Level.{op_of}
use Rattle.formula_tree.specs.Term.{Term, number, text, truth, fault, cell, area, whole, name, prefix, percent, binary, call, paren, Terms, no_terms, term}

-- how an operator is written
abbrev pub op_text : Op → List ℕ
op_text op.Add = 43 ∷ []
op_text op.Sub = 45 ∷ []
op_text op.Mul = 42 ∷ []
op_text op.Div = 47 ∷ []
op_text op.Power = 94 ∷ []
op_text op.Join = 38 ∷ []
op_text op.Equal = 61 ∷ []
op_text op.Unequal = 60 ∷ 62 ∷ []
op_text op.Less = 60 ∷ []
op_text op.Greater = 62 ∷ []
op_text op.AtMost = 60 ∷ 61 ∷ []
op_text op.AtLeast = 62 ∷ 61 ∷ []

-- how a sign is written: as the operator of the same name
abbrev pub sign_text : Sign → List ℕ
sign_text s = op_text (op_of s)

-- a content between quotes, in front of what follows
abbrev pub between_quotes : ℕ → List ℕ → List ℕ → List ℕ
between_quotes q content rest = q ∷ (doubled q content ++ (q ∷ rest))

-- a `$` where a part is fixed
abbrev pub dollar : Bool → List ℕ → List ℕ
dollar fixed rest = if fixed then 36 ∷ rest else rest

-- the row of a corner counted from 1, or the letters of its column, with its `$`
abbrev pub line_text : Axis → Corner → List ℕ → List ℕ
line_text Rows c rest = dollar c.row_fixed (decimal (c.at.row + 1) ++ rest)
line_text Cols c rest = dollar c.col_fixed (column_letters c.at.col ++ rest)

-- an address: the column and the row
abbrev pub corner_text : Corner → List ℕ → List ℕ
corner_text c rest = line_text Cols c (line_text Rows c rest)

-- a sheet's name with `!`, between apostrophes where it hasn't the form of a run's sheet name
abbrev pub sheet_text : Option (List ℕ) → List ℕ → List ℕ
sheet_text None rest = rest
sheet_text (Some sheet) rest = if is_bare_name sheet then sheet ++ (33 ∷ rest) else between_quotes 39 sheet (33 ∷ rest)

-- the sheet's name in front of a reference, exactly where the sheet isn't the home's
abbrev pub front_text : ℕ → (ℕ → Option (List ℕ)) → ℕ → List ℕ → List ℕ
front_text home names sheet rest = if sheet == home then rest else sheet_text (names sheet) rest

abbrev mutual
  -- the tree's text, for a home on the sheet home, where names gives the name of a sheet
  pub printed : ℕ → (ℕ → Option (List ℕ)) → Term Corner → List ℕ → List ℕ
  printed home names (number m) rest = text_of m ++ rest
  printed home names (text w) rest = between_quotes 34 w rest
  printed home names (truth b) rest = truth_text b ++ rest
  printed home names (fault f) rest = fault_text f ++ rest
  printed home names (cell c) rest = front_text home names c.at.sheet (corner_text c rest)
  printed home names (area c d) rest = front_text home names c.at.sheet (corner_text c (58 ∷ corner_text d rest))
  printed home names (whole axis c d) rest = front_text home names c.at.sheet (line_text axis c (58 ∷ line_text axis d rest))
  printed home names (name w) rest = w ++ rest
  printed home names (prefix s t) rest = sign_text s ++ printed home names t rest
  printed home names (percent t) rest = printed home names t (37 ∷ rest)
  printed home names (binary o l r) rest = printed home names l (op_text o ++ printed home names r rest)
  printed home names (call w ts) rest = w ++ (40 ∷ printed_all home names ts rest)
  printed home names (paren t) rest = 40 ∷ printed home names t (41 ∷ rest)

  -- the arguments with commas between them, and the closing parenthesis
  pub printed_all : ℕ → (ℕ → Option (List ℕ)) → Terms Corner → List ℕ → List ℕ
  printed_all home names no_terms rest = 41 ∷ rest
  printed_all home names (term t ts) rest = printed home names t (printed_more home names ts rest)

  pub printed_more : ℕ → (ℕ → Option (List ℕ)) → Terms Corner → List ℕ → List ℕ
  printed_more home names no_terms rest = 41 ∷ rest
  printed_more home names (term t ts) rest = 44 ∷ printed home names t (printed_more home names ts rest)

-- the canonical text of a formula
abbrev pub formula_text : ℕ → (ℕ → Option (List ℕ)) → Term Corner → List ℕ
formula_text home names t = 61 ∷ printed home names t []
