-- The tokens of formulas' texts. Source: this project's own.
use Rattle.std.specs.Prelude.{ℕ, Bool, true, false, List}
use Rattle.cell_value.specs.declared.fault.FaultKind.{FaultKind}
use Rattle.formula_tree.specs.declared.address.Address.{Address}
use Rattle.formula_tree.specs.declared.operator.Op.{Op}

-- a piece of a formula's text
pub data Token : Type 0 where
  -- the digits of a number, with its point where it has one, as written; beside `:` they may be a row's number
  Number : List ℕ → Token
  -- what stands between double quotes, where two double quotes inside are one
  Text : List ℕ → Token
  -- TRUE or FALSE
  Truth : Bool → Token
  -- a fault that is written out
  Fault : FaultKind → Token
  -- a sheet's name, with the `!` that follows it
  Sheet : List ℕ → Token
  -- an address
  Corner : Address → Token
  -- a run of the form of a name, as written; beside `:` it may be a column's letters
  Name : List ℕ → Token
  -- the word of a function, as written; `(` follows it
  Word : List ℕ → Token
  -- another run of letters, digits, `_`, `.` and `$`; beside `:` it may be a row or a column with its `$`, and else no
  -- production takes it
  Other : List ℕ → Token
  -- an operator; `+` and `-` may be signs too
  Operator : Op → Token
  -- `%`
  Percent : Token
  -- `:`, `,`, `(` and `)`
  Colon : Token
  Comma : Token
  Open : Token
  Close : Token

-- both are the same one of `:`, `,`, `(` and `)`
abbrev pub same_mark : Token → Token → Bool
same_mark Colon Colon = true
same_mark Comma Comma = true
same_mark Open Open = true
same_mark Close Close = true
same_mark a b = false
