-- A tree is read back from its code, so two trees have one code exactly where they are equal. Serves the
-- pool, which finds trees by their codes.
use Rattle.std.proofs.Common.{◌≡◌, ◌∙◌, sym, ap, refl, arith, ℕ, ℤ, pos, negsuc, neg_ℤ, zero, suc, ◌+◌, ◌*◌, ◌≤◌, max, Bool, true, false, if◌then◌else◌, ◌==◌, List, [], ◌∷◌, ◌++◌, length, take, drop, Option, Some, None}
use Rattle.std.specs.Prelude.{slice_get, unsigned_abs}
use Rattle.std.proofs.lemmas.Bool.Decides.{nat_tests}
use Rattle.std.proofs.Math.Seq.{take-append_seam, drop-append_seam}
use Rattle.cell_addr.specs.declared.axis.Axis.TheVariants.{Rows, Cols}
use Rattle.cell_value.specs.declared.fault.FaultKind.{FaultKind}
use Rattle.cell_value.specs.declared.fault.FaultKind.TheVariants as kinds
use Rattle.cell_value.specs.Fault.{faults}
use Rattle.formula_tree.specs.Term.{Term, number, text, truth, fault, cell, area, whole, name, prefix, percent, binary, call, paren, Terms, no_terms, term}
use Rattle.formula_tree.specs.declared.code.TheConstants.{WORD}
use Rattle.formula_tree.specs.declared.operator.Op.{Op}
use Rattle.formula_tree.specs.declared.operator.Op.TheVariants as op
use Rattle.formula_tree.specs.declared.operator.Sign.{Sign}
use Rattle.formula_tree.specs.declared.operator.Sign.TheVariants as sign
use Rattle.formula_tree.specs.declared.reference.Part.{Part}
use Rattle.formula_tree.specs.declared.reference.Part.TheVariants.{Rel, Abs}
use Rattle.formula_tree.specs.declared.reference.Ref.{Ref}
use Rattle.formula_tree.specs.declared.reference.SheetPart.{SheetPart}
use Rattle.formula_tree.specs.declared.reference.SheetPart.TheVariants.{Own, Id}
use Rattle.formula_tree.specs.internal.Code.{wide_code, bool_code, is_below_zero, signed_code, text_code, sheet_code, part_code, ref_code, fault_code, sign_code, op_code, code, code_all}

-- what is read from the front of a code, and what follows it
abbrev Read : Type 0 → Type 0
Read A = Option (A × List ℕ)

abbrev and_then : {A B : Type 0} → Read A → (A → List ℕ → Read B) → Read B
and_then None f = None
and_then (Some p) f = f p.0 p.1

-- a part read, and a value made of it
abbrev made : {A B : Type 0} → (A → B) → Read A → Read B
made f r = and_then r (λ x rest. Some (f x, rest))

abbrev read_word : List ℕ → Read ℕ
read_word [] = None
read_word (n ∷ rest) = Some (n, rest)

abbrev read_wide : List ℕ → Read ℕ
read_wide xs = and_then (read_word xs) (λ low ys. and_then (read_word ys) (λ high zs. Some (low + high * WORD, zs)))

abbrev signed : ℕ → ℕ → ℤ
signed s n = if s == 0 then pos n else neg_ℤ (pos n)

abbrev read_signed : List ℕ → Read ℤ
read_signed xs = and_then (read_word xs) (λ s ys. made (signed s) (read_wide ys))

abbrev read_text : List ℕ → Read (List ℕ)
read_text xs = and_then (read_wide xs) (λ n ys. Some (take n ys, drop n ys))

abbrev read_sheet : List ℕ → Read SheetPart
read_sheet xs = and_then (read_word xs) (λ k ys. if k == 0 then Some (Own, ys) else made (λ n. Id n) (read_word ys))

abbrev part_of : ℕ → ℕ → Part
part_of k n = if k == 2 then Abs n else Rel (signed k n)

abbrev read_part : List ℕ → Read Part
read_part xs = and_then (read_word xs) (λ k ys. made (part_of k) (read_word ys))

abbrev read_ref : List ℕ → Read Ref
read_ref xs = and_then (read_sheet xs) (λ s ys. and_then (read_part ys) (λ r zs. made (λ c. record { sheet = s; row = r; col = c }) (read_part zs)))

-- the item of a list at the index that is read
abbrev read_among : {A : Type 0} → List A → List ℕ → Read A
read_among all xs = and_then (read_word xs) (λ n ys. found (slice_get all n) ys)
  where
    found : {A : Type 0} → Option A → List ℕ → Read A
    found None ys = None
    found (Some x) ys = Some (x, ys)

abbrev signs : List Sign
signs = sign.Plus ∷ sign.Minus ∷ []

abbrev ops : List Op
ops = op.Add ∷ op.Sub ∷ op.Mul ∷ op.Div ∷ op.Power ∷ op.Join ∷ op.Equal ∷ op.Unequal ∷ op.Less ∷ op.Greater ∷ op.AtMost ∷ op.AtLeast ∷ []

-- a tree of a kind, where its parts are read by R and its arguments by S
abbrev read_kind : (List ℕ → Read (Term Ref)) → (List ℕ → Read (Terms Ref)) → ℕ → List ℕ → Read (Term Ref)
read_kind R S k xs = if k == 0 then made (λ m. number m) (read_signed xs)
    else if k == 1 then made (λ w. text w) (read_text xs)
    else if k == 2 then made (λ b. truth (b == 1)) (read_word xs)
    else if k == 3 then made (λ f. fault f) (read_among faults xs)
    else if k == 4 then made (λ r. cell r) (read_ref xs)
    else if k == 5 then and_then (read_ref xs) (λ r ys. made (λ q. area r q) (read_ref ys))
    else if k == 6 then made (λ w. name w) (read_text xs)
    else if k == 7 then and_then (read_among signs xs) (λ s ys. made (λ t. prefix s t) (R ys))
    else if k == 8 then made (λ t. percent t) (R xs)
    else if k == 9 then and_then (read_among ops xs) (λ o ys. and_then (R ys) (λ l zs. made (λ r. binary o l r) (R zs)))
    else if k == 10 then and_then (read_text xs) (λ w ys. made (λ ts. call w ts) (S ys))
    else if k == 11 then made (λ t. paren t) (R xs)
    else if k == 12 then and_then (read_ref xs) (λ r ys. made (λ q. whole Rows r q) (read_ref ys))
    else and_then (read_ref xs) (λ r ys. made (λ q. whole Cols r q) (read_ref ys))

-- in so many steps
mutual
  read_tree : ℕ → List ℕ → Read (Term Ref)
  read_tree zero xs = None
  read_tree (suc n) xs = and_then (read_word xs) (read_kind (read_tree n) (read_trees n))

  read_trees : ℕ → List ℕ → Read (Terms Ref)
  read_trees zero xs = None
  read_trees (suc n) xs = and_then (read_word xs) (λ k ys. if k == 0 then Some (no_terms, ys) else and_then (read_tree n ys) (λ t zs. made (λ ts. term t ts) (read_trees n zs)))

wide-back : (n : ℕ) (rest : List ℕ) → read_wide (wide_code n rest) ≡ Some (n, rest)
wide-back n rest = ap (λ m. Some (m, rest)) (omega arith)

signed-back : (z : ℤ) → signed (bool_code (is_below_zero z)) (unsigned_abs z) ≡ z
signed-back (pos n) = grind (arith, nat_tests)
signed-back (negsuc n) = refl

signed-read : (z : ℤ) (rest : List ℕ) → read_signed (signed_code z rest) ≡ Some (z, rest)
signed-read z rest = ap (made (signed (bool_code (is_below_zero z)))) (wide-back (unsigned_abs z) rest) ∙ ap (λ y. Some (y, rest)) (signed-back z)

text-read : (w rest : List ℕ) → read_text (text_code w rest) ≡ Some (w, rest)
text-read w rest =
    ap (λ r. and_then r (λ n ys. Some (take n ys, drop n ys))) (wide-back (length w) (w ++ rest))
    ∙ ap (λ v. Some (v, drop (length w) (w ++ rest))) (take-append_seam w rest)
    ∙ ap (λ ys. Some (w, ys)) (drop-append_seam w rest)

bool-back : (b : Bool) → (bool_code b == 1) ≡ b
bool-back true = refl
bool-back false = refl

sheet-read : (s : SheetPart) (rest : List ℕ) → read_sheet (sheet_code s rest) ≡ Some (s, rest)
sheet-read Own rest = refl
sheet-read (Id n) rest = refl

part_of-relative : (b : Bool) (n : ℕ) → part_of (bool_code b) n ≡ Rel (signed (bool_code b) n)
part_of-relative true n = refl
part_of-relative false n = refl

part-read : (p : Part) (rest : List ℕ) → read_part (part_code p rest) ≡ Some (p, rest)
part-read (Rel by) rest = ap (λ p. Some (p, rest)) (part_of-relative (is_below_zero by) (unsigned_abs by) ∙ ap (λ z. Rel z) (signed-back by))
part-read (Abs line) rest = refl

ref-read : (r : Ref) (rest : List ℕ) → read_ref (ref_code r rest) ≡ Some (r, rest)
ref-read r rest =
    let cols : List ℕ = part_code r.col rest in
    let rows : List ℕ = part_code r.row cols in
    ap (λ x. and_then x (λ s ys. and_then (read_part ys) (λ row zs. made (λ c. record { sheet = s; row = row; col = c }) (read_part zs)))) (sheet-read r.sheet rows)
    ∙ ap (λ x. and_then x (λ row zs. made (λ c. record { sheet = r.sheet; row = row; col = c }) (read_part zs))) (part-read r.row cols)
    ∙ ap (made (λ c. record { sheet = r.sheet; row = r.row; col = c })) (part-read r.col rest)

fault-read : (f : FaultKind) (rest : List ℕ) → read_among faults (fault_code f ∷ rest) ≡ Some (f, rest)
fault-read kinds.Div0 rest = refl
fault-read kinds.Name rest = refl
fault-read kinds.Value rest = refl
fault-read kinds.Num rest = refl
fault-read kinds.Na rest = refl
fault-read kinds.Cycle rest = refl
fault-read kinds.Ref rest = refl
fault-read kinds.Error rest = refl

sign-read : (s : Sign) (rest : List ℕ) → read_among signs (sign_code s ∷ rest) ≡ Some (s, rest)
sign-read sign.Plus rest = refl
sign-read sign.Minus rest = refl

op-read : (o : Op) (rest : List ℕ) → read_among ops (op_code o ∷ rest) ≡ Some (o, rest)
op-read op.Add rest = refl
op-read op.Sub rest = refl
op-read op.Mul rest = refl
op-read op.Div rest = refl
op-read op.Power rest = refl
op-read op.Join rest = refl
op-read op.Equal rest = refl
op-read op.Unequal rest = refl
op-read op.Less rest = refl
op-read op.Greater rest = refl
op-read op.AtMost rest = refl
op-read op.AtLeast rest = refl

-- how many steps more than one a tree takes
mutual
  height : Term Ref → ℕ
  height (prefix s t) = height t + 1
  height (percent t) = height t + 1
  height (binary o l r) = max (height l) (height r) + 1
  height (call w ts) = height_all ts + 1
  height (paren t) = height t + 1
  height t = 0

  height_all : Terms Ref → ℕ
  height_all no_terms = 0
  height_all (term t ts) = max (height t) (height_all ts) + 1

mutual
  unfolding read_tree height

  tree-read : (t : Term Ref) (n : ℕ) (rest : List ℕ) → height t ≤ n → read_tree (suc n) (code t rest) ≡ Some (t, rest)
  tree-read (number m) n rest h = ap (made (λ x. number x)) (signed-read m rest)
  tree-read (text w) n rest h = ap (made (λ x. text x)) (text-read w rest)
  tree-read (truth b) n rest h = ap (λ x. Some (truth x, rest)) (bool-back b)
  tree-read (fault f) n rest h = ap (made (λ x. fault x)) (fault-read f rest)
  tree-read (cell r) n rest h = ap (made (λ x. cell x)) (ref-read r rest)
  tree-read (area r q) n rest h = ap (λ x. and_then x (λ r ys. made (λ q. area r q) (read_ref ys))) (ref-read r (ref_code q rest)) ∙ ap (made (λ x. area r x)) (ref-read q rest)
  tree-read (whole Rows r q) n rest h = ap (λ x. and_then x (λ r ys. made (λ q. whole Rows r q) (read_ref ys))) (ref-read r (ref_code q rest)) ∙ ap (made (λ x. whole Rows r x)) (ref-read q rest)
  tree-read (whole Cols r q) n rest h = ap (λ x. and_then x (λ r ys. made (λ q. whole Cols r q) (read_ref ys))) (ref-read r (ref_code q rest)) ∙ ap (made (λ x. whole Cols r x)) (ref-read q rest)
  tree-read (name w) n rest h = ap (made (λ x. name x)) (text-read w rest)
  tree-read (prefix s t) zero rest h = absurd (omega arith)
  tree-read (prefix s t) (suc n) rest h =
      ap (λ x. and_then x (λ s ys. made (λ t. prefix s t) (read_tree (suc n) ys))) (sign-read s (code t rest))
      ∙ ap (made (λ x. prefix s x)) (tree-read t n rest (omega arith))
  tree-read (percent t) zero rest h = absurd (omega arith)
  tree-read (percent t) (suc n) rest h = ap (made (λ x. percent x)) (tree-read t n rest (omega arith))
  tree-read (binary o l r) zero rest h = absurd (omega arith)
  tree-read (binary o l r) (suc n) rest h =
      ap (λ x. and_then x (λ o ys. and_then (read_tree (suc n) ys) (λ l zs. made (λ r. binary o l r) (read_tree (suc n) zs)))) (op-read o (code l (code r rest)))
      ∙ ap (λ x. and_then x (λ l zs. made (λ r. binary o l r) (read_tree (suc n) zs))) (tree-read l n (code r rest) (omega arith))
      ∙ ap (made (λ x. binary o l x)) (tree-read r n rest (omega arith))
  tree-read (call w ts) zero rest h = absurd (omega arith)
  tree-read (call w ts) (suc n) rest h =
      ap (λ x. and_then x (λ w ys. made (λ ts. call w ts) (read_trees (suc n) ys))) (text-read w (code_all ts rest))
      ∙ ap (made (λ x. call w x)) (trees-read ts n rest (omega arith))
  tree-read (paren t) zero rest h = absurd (omega arith)
  tree-read (paren t) (suc n) rest h = ap (made (λ x. paren x)) (tree-read t n rest (omega arith))

  trees-read : (ts : Terms Ref) (n : ℕ) (rest : List ℕ) → height_all ts ≤ n → read_trees (suc n) (code_all ts rest) ≡ Some (ts, rest)
  trees-read no_terms n rest h = refl
  trees-read (term t ts) zero rest h = absurd (omega arith)
  trees-read (term t ts) (suc n) rest h =
      ap (λ x. and_then x (λ t zs. made (λ ts. term t ts) (read_trees (suc n) zs))) (tree-read t n (code_all ts rest) (omega arith))
      ∙ ap (made (λ x. term t x)) (trees-read ts n rest (omega arith))

tree_of : Term Ref → Read (Term Ref) → Term Ref
tree_of t None = t
tree_of t (Some read) = read.0

same-read : (t u : Term Ref) (xs : List ℕ) → ◌≡◌ {A = Read (Term Ref)} (Some (t, xs)) (Some (u, xs)) → t ≡ u
unfolding tree_of
same-read t u xs e = ap (tree_of t) e

-- two trees with one code are equal
pub code-equal : (t u : Term Ref) → code t [] ≡ code u [] → t ≡ u
code-equal t u e =
    let n : ℕ = max (height t) (height u) in
    same-read t u [] (sym (tree-read t n [] (omega arith)) ∙ ap (read_tree (suc n)) e ∙ tree-read u n [] (omega arith))
