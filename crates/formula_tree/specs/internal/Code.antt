-- The code of a tree: numbers from which the tree can be read back, so that two trees have one code
-- exactly where they are equal. A pool's trees are hashed by their codes. Each definition puts a code in
-- front of what follows it.
use Rattle.std.specs.Prelude.{◌≡◌, ℕ, ℤ, pos, ◌/◌, ◌%◌, Bool, if◌then◌else◌, int_lt, unsigned_abs, List, [], ◌∷◌, ◌++◌, length, fold, bytes_eq}
use Rattle.std.specs.List.{flat_map}
use Rattle.std.specs.Hash as fed
use Rattle.cell_addr.specs.declared.axis.Axis.{Axis}
use Rattle.cell_addr.specs.declared.axis.Axis.TheVariants.{Rows, Cols}
use Rattle.cell_value.specs.declared.fault.FaultKind.{FaultKind}
use Rattle.cell_value.specs.declared.fault.FaultKind.TheVariants as kinds
use Rattle.formula_tree.specs.Term.{Term, number, text, truth, fault, cell, area, whole, name, prefix, percent, binary, call, paren, Terms, no_terms, term}
use Rattle.formula_tree.specs.declared.code.TheConstants.{WORD}
use Rattle.formula_tree.specs.declared.operator.Op.{Op}
use Rattle.formula_tree.specs.declared.operator.Op.TheVariants as op
use Rattle.formula_tree.specs.declared.operator.Sign.{Sign}
use Rattle.formula_tree.specs.declared.operator.Sign.TheVariants as sign
use Rattle.formula_tree.specs.declared.reference.Part.{Part}
use Rattle.formula_tree.specs.declared.reference.Part.TheVariants.{Rel, Abs}
use Rattle.formula_tree.specs.declared.reference.Ref.{Ref}
use Rattle.formula_tree.specs.declared.reference.SheetPart.{SheetPart}
use Rattle.formula_tree.specs.declared.reference.SheetPart.TheVariants.{Own, Id}

-- what a hasher is fed of a code: four bytes a number
abbrev pub fed_words : List ℕ → List (List ℕ)
fed_words = flat_map fed.u32

-- the state of a hasher that is fed a code
unfoldable pub state_after : {S : Type 0} → (S → List ℕ → S) → S → List ℕ → S
state_after write state words = fold write state (fed_words words)

-- the new state of a hasher is the old one after a code, where `code` puts that in front of what follows
abbrev pub Feeds : {S : Type 0} → (S → List ℕ → S) → S → S → (List ℕ → List ℕ) → Type 0
Feeds write old new code = (rest : List ℕ) → state_after write new rest ≡ state_after write old (code rest)

-- a number of two words, the low one first
abbrev pub wide_code : ℕ → List ℕ → List ℕ
wide_code n rest = n % WORD ∷ n / WORD ∷ rest

abbrev pub bool_code : Bool → ℕ
bool_code b = if b then 1 else 0

abbrev pub is_below_zero : ℤ → Bool
is_below_zero z = int_lt z (pos 0)

abbrev pub signed_code : ℤ → List ℕ → List ℕ
signed_code z rest = bool_code (is_below_zero z) ∷ wide_code (unsigned_abs z) rest

abbrev pub text_code : List ℕ → List ℕ → List ℕ
text_code w rest = wide_code (length w) (w ++ rest)

abbrev pub sheet_code : SheetPart → List ℕ → List ℕ
sheet_code Own rest = 0 ∷ rest
sheet_code (Id sheet) rest = 1 ∷ sheet ∷ rest

abbrev pub part_code : Part → List ℕ → List ℕ
part_code (Rel by) rest = bool_code (is_below_zero by) ∷ unsigned_abs by ∷ rest
part_code (Abs line) rest = 2 ∷ line ∷ rest

abbrev pub ref_code : Ref → List ℕ → List ℕ
ref_code r rest = sheet_code r.sheet (part_code r.row (part_code r.col rest))

abbrev pub fault_code : FaultKind → ℕ
fault_code kinds.Div0 = 0
fault_code kinds.Name = 1
fault_code kinds.Value = 2
fault_code kinds.Num = 3
fault_code kinds.Na = 4
fault_code kinds.Cycle = 5
fault_code kinds.Ref = 6
fault_code kinds.Error = 7

abbrev pub sign_code : Sign → ℕ
sign_code sign.Plus = 0
sign_code sign.Minus = 1

abbrev pub op_code : Op → ℕ
op_code op.Add = 0
op_code op.Sub = 1
op_code op.Mul = 2
op_code op.Div = 3
op_code op.Power = 4
op_code op.Join = 5
op_code op.Equal = 6
op_code op.Unequal = 7
op_code op.Less = 8
op_code op.Greater = 9
op_code op.AtMost = 10
op_code op.AtLeast = 11

-- the number of a whole range's kind
abbrev pub whole_kind : Axis → ℕ
whole_kind Rows = 12
whole_kind Cols = 13

-- the number of a tree's kind
abbrev pub kind : Term Ref → ℕ
kind (number m) = 0
kind (text w) = 1
kind (truth b) = 2
kind (fault f) = 3
kind (cell r) = 4
kind (area r q) = 5
kind (name w) = 6
kind (prefix s t) = 7
kind (percent t) = 8
kind (binary o l r) = 9
kind (call w ts) = 10
kind (paren t) = 11
kind (whole axis r q) = whole_kind axis

abbrev mutual
  -- a tree begins with the number of its kind
  pub code : Term Ref → List ℕ → List ℕ
  code (number m) rest = 0 ∷ signed_code m rest
  code (text w) rest = 1 ∷ text_code w rest
  code (truth b) rest = 2 ∷ bool_code b ∷ rest
  code (fault f) rest = 3 ∷ fault_code f ∷ rest
  code (cell r) rest = 4 ∷ ref_code r rest
  code (area r q) rest = 5 ∷ ref_code r (ref_code q rest)
  code (name w) rest = 6 ∷ text_code w rest
  code (prefix s t) rest = 7 ∷ sign_code s ∷ code t rest
  code (percent t) rest = 8 ∷ code t rest
  code (binary o l r) rest = 9 ∷ op_code o ∷ code l (code r rest)
  code (call w ts) rest = 10 ∷ text_code w (code_all ts rest)
  code (paren t) rest = 11 ∷ code t rest
  code (whole axis r q) rest = whole_kind axis ∷ ref_code r (ref_code q rest)

  -- an argument follows 1, and 0 ends them
  pub code_all : Terms Ref → List ℕ → List ℕ
  code_all no_terms rest = 0 ∷ rest
  code_all (term t ts) rest = 1 ∷ code t (code_all ts rest)

-- the trees have the same code
abbrev pub same_code : Term Ref → Term Ref → Bool
same_code t u = bytes_eq (code t []) (code u [])
