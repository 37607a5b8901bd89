-- The tokens of the canonical text, and that they spell the tree. Serves the law that the canonical
-- text spells its tree. Each definition puts a tree in front of the tokens that follow it.
use Rattle.std.proofs.Common.{◌≡◌, sym, ◌∙◌, ap, refl, arith, subst, ℕ, suc, ◌≤◌, inl, inr, Bool, true, false, nat_lt, if◌then◌else◌, ◌==◌, List, ◌∷◌, Option, Some, None}
use Rattle.std.proofs.lemmas.Bool.{cond-false, le-ltb, eqb-true, eq-eqb, both_ways}
use Rattle.cell_addr.specs.declared.axis.Axis.{Axis}
use Rattle.cell_addr.specs.declared.axis.Axis.TheVariants.{Rows, Cols}
use Rattle.cell_addr.specs.Axis.{line_of}
use Rattle.cell_addr.specs.Place as places
use Rattle.cell_addr.specs.Text.{capitals}
use Rattle.fix_num.specs.Text.{text_of}
use Rattle.fix_num.proofs.PlainTexts.{number_of-text_of}
use Rattle.formula_tree.specs.declared.reference.Corner.{Corner}
use Rattle.formula_tree.specs.declared.address.Address.{Address}
use Rattle.formula_tree.specs.Token.{Token}
use Rattle.formula_tree.specs.Token as tok
use Rattle.formula_tree.specs.Term.{Term, number, text, truth, fault, cell, area, whole, name, prefix, percent, binary, call, paren, Terms, no_terms, term}
use Rattle.formula_tree.specs.Level.{level, level_of, percent_level, sign_level, atom_level, op_of}
use Rattle.formula_tree.specs.Grammar.{Leaf, a_number, a_text, a_truth, a_fault, a_name, a_corner, a_range, a_sheet_corner, a_sheet_range, a_whole, a_sheet_whole, Spells, between, followed, before, leaf, inside, alone, called, SpellsAll, last, more, placed, first_of, last_of, cell_on, area_on, whole_on}
use Rattle.formula_tree.specs.Proper.{IsProper, AreProper, AreOrdered, IsListed, SheetsAreListed, AllSheetsAreListed}
use Rattle.formula_tree.specs.Whole.{AreWhole}
use Rattle.formula_tree.proofs.EndTokens.{line_token, end_along, end_of-line_token}
use Rattle.formula_tree.proofs.Sound.{lower-to}
use Rattle.formula_tree.proofs.WholeCorners.{whole-corners}

-- the address of a corner
abbrev pub address_of : Corner → Address
address_of c = record { row = c.at.row; col = c.at.col; row_fixed = c.row_fixed; col_fixed = c.col_fixed }

abbrev pub sheet_tokens : Option (List ℕ) → List Token → List Token
sheet_tokens None rest = rest
sheet_tokens (Some sheet) rest = tok.Sheet sheet ∷ rest

abbrev pub front_tokens : ℕ → (ℕ → Option (List ℕ)) → ℕ → List Token → List Token
front_tokens home names sheet rest = if sheet == home then rest else sheet_tokens (names sheet) rest

abbrev mutual
  pub written : ℕ → (ℕ → Option (List ℕ)) → Term Corner → List Token → List Token
  written home names (number m) rest = tok.Number (text_of m) ∷ rest
  written home names (text w) rest = tok.Text w ∷ rest
  written home names (truth b) rest = tok.Truth b ∷ rest
  written home names (fault f) rest = tok.Fault f ∷ rest
  written home names (cell c) rest = front_tokens home names c.at.sheet (tok.Corner (address_of c) ∷ rest)
  written home names (area c d) rest = front_tokens home names c.at.sheet (tok.Corner (address_of c) ∷ tok.Colon ∷ tok.Corner (address_of d) ∷ rest)
  written home names (whole axis c d) rest = front_tokens home names c.at.sheet (line_token axis c ∷ tok.Colon ∷ line_token axis d ∷ rest)
  written home names (name w) rest = tok.Name w ∷ rest
  written home names (prefix s t) rest = tok.Operator (op_of s) ∷ written home names t rest
  written home names (percent t) rest = written home names t (tok.Percent ∷ rest)
  written home names (binary o l r) rest = written home names l (tok.Operator o ∷ written home names r rest)
  written home names (call w ts) rest = tok.Word w ∷ tok.Open ∷ written_all home names ts rest
  written home names (paren t) rest = tok.Open ∷ written home names t (tok.Close ∷ rest)

  pub written_all : ℕ → (ℕ → Option (List ℕ)) → Terms Corner → List Token → List Token
  written_all home names no_terms rest = tok.Close ∷ rest
  written_all home names (term t ts) rest = written home names t (written_more home names ts rest)

  pub written_more : ℕ → (ℕ → Option (List ℕ)) → Terms Corner → List Token → List Token
  written_more home names no_terms rest = tok.Close ∷ rest
  written_more home names (term t ts) rest = tok.Comma ∷ written home names t (written_more home names ts rest)

-- the corners of a block in order are the first and the last one
first_of-ordered : (c d : Corner) → AreOrdered c d → first_of (address_of c) (address_of d) ≡ address_of c
first_of-ordered c d o =
    let rows : nat_lt d.at.row c.at.row ≡ false = le-ltb d.at.row c.at.row o.1 in
    let cols : nat_lt d.at.col c.at.col ≡ false = le-ltb d.at.col c.at.col o.2 in
    rw (rows, cols) refl

last_of-ordered : (c d : Corner) → AreOrdered c d → last_of (address_of c) (address_of d) ≡ address_of d
last_of-ordered c d o =
    let rows : nat_lt d.at.row c.at.row ≡ false = le-ltb d.at.row c.at.row o.1 in
    let cols : nat_lt d.at.col c.at.col ≡ false = le-ltb d.at.col c.at.col o.2 in
    rw (rows, cols) refl

placed-address_of : (c : Corner) (s : ℕ) → c.at.sheet ≡ s → placed s (address_of c) ≡ c
placed-address_of c s e = subst (λ k. placed k (address_of c) ≡ c) e refl

cell_on-address_of : (s : Option ℕ) (c : Corner) → s ≡ Some c.at.sheet → cell_on s (address_of c) ≡ cell c
cell_on-address_of s c e = rw e refl

area_on-address_of : (s : Option ℕ) (c d : Corner) → s ≡ Some c.at.sheet → AreOrdered c d → area_on s (address_of c) (address_of d) ≡ area c d
area_on-address_of s c d e o =
    let sheet : ℕ = c.at.sheet in
    ap (λ x. area_on x (address_of c) (address_of d)) e
    ∙ ap (λ a. area (placed sheet a) (placed sheet (last_of (address_of c) (address_of d)))) (first_of-ordered c d o)
    ∙ ap (λ b. area c (placed sheet b)) (last_of-ordered c d o)
    ∙ ap (λ x. area c x) (placed-address_of d c.at.sheet (sym o.0))

-- the ends of a whole range in order are its first and its last line
ordered-along : (axis : Axis) (c d : Corner) → AreOrdered c d → line_of axis c.at ≤ line_of axis d.at
ordered-along Rows c d o = o.1
ordered-along Cols c d o = o.2

whole_on-end_along : (s : Option ℕ) (axis : Axis) (c d : Corner) → s ≡ Some c.at.sheet → AreOrdered c d → AreWhole axis c d
    → whole_on s (end_along axis c) (end_along axis d) ≡ whole axis c d
whole_on-end_along s axis c d e o w =
    let low : ℕ = line_of axis c.at in
    let high : ℕ = line_of axis d.at in
    ap (λ x. whole_on x (end_along axis c) (end_along axis d)) e
    ∙ cond-false (nat_lt high low) _ _ (le-ltb high low (ordered-along axis c d o))
    ∙ whole-corners axis c d o.0 w

module _ (home : ℕ) (find : List ℕ → Option ℕ) (names : ℕ → Option (List ℕ)) where
  spelt-as : (xs : List Token) (t u : Term Corner) (zs : List Token) → t ≡ u → Leaf home find xs t zs → Spells home find atom_level xs u zs
  spelt-as xs t u zs e l = subst (λ v. Spells home find atom_level xs v zs) e (leaf l)

  -- a cell on the home's sheet, or on a listed one
  spelt-cell : (c : Corner) (zs : List Token) (b : Bool) → (c.at.sheet == home) ≡ b → IsListed home names find c.at.sheet
      → Spells home find atom_level (if b then tok.Corner (address_of c) ∷ zs else sheet_tokens (names c.at.sheet) (tok.Corner (address_of c) ∷ zs)) (cell c) zs
  spelt-cell c zs true e l =
      spelt-as (tok.Corner (address_of c) ∷ zs) (cell_on (Some home) (address_of c)) (cell c) zs
      (cell_on-address_of (Some home) c (ap (λ s. Some s) (sym (eqb-true c.at.sheet home e)))) a_corner
  spelt-cell c zs false e (inl same) = absurd (both_ways (c.at.sheet == home) e (eq-eqb c.at.sheet home same))
  spelt-cell c zs false e (inr (w, n, f)) =
      rw n (spelt-as (tok.Sheet w ∷ tok.Corner (address_of c) ∷ zs) (cell_on (find w) (address_of c)) (cell c) zs (cell_on-address_of (find w) c f) a_sheet_corner)

  spelt-area : (c d : Corner) (zs : List Token) (b : Bool) → (c.at.sheet == home) ≡ b → IsListed home names find c.at.sheet → AreOrdered c d
      → Spells home find atom_level (if b then tok.Corner (address_of c) ∷ tok.Colon ∷ tok.Corner (address_of d) ∷ zs
      else sheet_tokens (names c.at.sheet) (tok.Corner (address_of c) ∷ tok.Colon ∷ tok.Corner (address_of d) ∷ zs)) (area c d) zs
  spelt-area c d zs true e l o =
      spelt-as (tok.Corner (address_of c) ∷ tok.Colon ∷ tok.Corner (address_of d) ∷ zs) (area_on (Some home) (address_of c) (address_of d)) (area c d) zs
      (area_on-address_of (Some home) c d (ap (λ s. Some s) (sym (eqb-true c.at.sheet home e))) o) a_range
  spelt-area c d zs false e (inl same) o = absurd (both_ways (c.at.sheet == home) e (eq-eqb c.at.sheet home same))
  spelt-area c d zs false e (inr (w, n, f)) o =
      rw n (spelt-as (tok.Sheet w ∷ tok.Corner (address_of c) ∷ tok.Colon ∷ tok.Corner (address_of d) ∷ zs) (area_on (find w) (address_of c) (address_of d)) (area c d) zs
      (area_on-address_of (find w) c d f o) a_sheet_range)

  spelt-whole : (axis : Axis) (c d : Corner) (zs : List Token) (b : Bool) → (c.at.sheet == home) ≡ b → IsListed home names find c.at.sheet
      → places.IsInside c.at → places.IsInside d.at → AreOrdered c d → AreWhole axis c d
      → Spells home find atom_level (if b then line_token axis c ∷ tok.Colon ∷ line_token axis d ∷ zs
      else sheet_tokens (names c.at.sheet) (line_token axis c ∷ tok.Colon ∷ line_token axis d ∷ zs)) (whole axis c d) zs
  spelt-whole axis c d zs true e l i j o w =
      spelt-as (line_token axis c ∷ tok.Colon ∷ line_token axis d ∷ zs) (whole_on (Some home) (end_along axis c) (end_along axis d)) (whole axis c d) zs
      (whole_on-end_along (Some home) axis c d (ap (λ s. Some s) (sym (eqb-true c.at.sheet home e))) o w)
      (a_whole (end_of-line_token axis c i) (end_of-line_token axis d j) refl)
  spelt-whole axis c d zs false e (inl same) i j o w = absurd (both_ways (c.at.sheet == home) e (eq-eqb c.at.sheet home same))
  spelt-whole axis c d zs false e (inr (v, n, f)) i j o w =
      rw n (spelt-as (tok.Sheet v ∷ line_token axis c ∷ tok.Colon ∷ line_token axis d ∷ zs) (whole_on (find v) (end_along axis c) (end_along axis d)) (whole axis c d) zs
      (whole_on-end_along (find v) axis c d f o w)
      (a_sheet_whole (end_of-line_token axis c i) (end_of-line_token axis d j) refl))

  spelt-alone : (w : List ℕ) (zs : List Token) → capitals w ≡ w → Spells home find atom_level (tok.Word w ∷ tok.Open ∷ tok.Close ∷ zs) (call w no_terms) zs
  spelt-alone w zs e = subst (λ v. Spells home find atom_level (tok.Word w ∷ tok.Open ∷ tok.Close ∷ zs) (call v no_terms) zs) e alone

  spelt-called : (w : List ℕ) (xs : List Token) (ts : Terms Corner) (zs : List Token) → capitals w ≡ w → SpellsAll home find xs ts zs
      → Spells home find atom_level (tok.Word w ∷ tok.Open ∷ xs) (call w ts) zs
  spelt-called w xs ts zs e d = subst (λ v. Spells home find atom_level (tok.Word w ∷ tok.Open ∷ xs) (call v ts) zs) e (called d)

  -- the tokens of one argument or more spell them
  abbrev AllSpelt : Terms Corner → List Token → Type 0
  AllSpelt no_terms zs = Unit {0}
  AllSpelt (term t ts) zs = SpellsAll home find (written home names t (written_more home names ts zs)) (term t ts) zs

  spelt-call : (w : List ℕ) (ts : Terms Corner) (zs : List Token) → capitals w ≡ w → AllSpelt ts zs
      → Spells home find atom_level (tok.Word w ∷ tok.Open ∷ written_all home names ts zs) (call w ts) zs
  spelt-call w no_terms zs e d = spelt-alone w zs e
  spelt-call w (term t ts) zs e d = spelt-called w (written home names t (written_more home names ts zs)) (term t ts) zs e d

  spelt-next : (t : Term Corner) (ts : Terms Corner) (zs : List Token) → Spells home find 0 (written home names t (written_more home names ts zs)) t (written_more home names ts zs)
      → AllSpelt ts zs → AllSpelt (term t ts) zs
  spelt-next t no_terms zs d ds = last d
  spelt-next t (term u us) zs d ds = more d ds

  mutual
    -- the tokens of a proper tree spell it at its level
    pub spelt-written : (t : Term Corner) → IsProper t → SheetsAreListed home names find t → (zs : List Token) → Spells home find (level t) (written home names t zs) t zs
    spelt-written (number m) p l zs = leaf (a_number (number_of-text_of m p.0))
    spelt-written (text w) p l zs = leaf a_text
    spelt-written (truth b) p l zs = leaf a_truth
    spelt-written (fault f) p l zs = leaf a_fault
    spelt-written (cell c) p l zs = spelt-cell c zs (c.at.sheet == home) refl l
    spelt-written (area c d) p l zs = spelt-area c d zs (c.at.sheet == home) refl l p.2
    spelt-written (whole axis c d) p l zs = spelt-whole axis c d zs (c.at.sheet == home) refl l p.0 p.1 p.2 p.3
    spelt-written (name w) p l zs = leaf a_name
    spelt-written (prefix s t) p l zs = before s (lower-to home find sign_level (level t) p.0 (spelt-written t p.1 l zs))
    spelt-written (percent t) p l zs = followed (lower-to home find percent_level (level t) p.0 (spelt-written t p.1 l (tok.Percent ∷ zs)))
    spelt-written (binary o a b) p l zs =
        between o
        (lower-to home find (level_of o) (level a) p.0 (spelt-written a p.2 l.0 (tok.Operator o ∷ written home names b zs)))
        (lower-to home find (suc (level_of o)) (level b) (omega (arith, p.1)) (spelt-written b p.3 l.1 zs))
    spelt-written (call w ts) p l zs = spelt-call w ts zs p.0.1 (spelt-all ts p.1 l zs)
    spelt-written (paren t) p l zs = inside (lower-to home find 0 (level t) (omega arith) (spelt-written t p l (tok.Close ∷ zs)))

    spelt-all : (ts : Terms Corner) → AreProper ts → AllSheetsAreListed home names find ts → (zs : List Token) → AllSpelt ts zs
    spelt-all no_terms p l zs = tt
    spelt-all (term t ts) p l zs =
        spelt-next t ts zs
        (lower-to home find 0 (level t) (omega arith) (spelt-written t p.0 l.0 (written_more home names ts zs)))
        (spelt-all ts p.1 l.1 zs)

  -- and so as a whole formula
  pub spelt-canonical : (t : Term Corner) → IsProper t → SheetsAreListed home names find t → (zs : List Token) → Spells home find 0 (written home names t zs) t zs
  spelt-canonical t p l zs = lower-to home find 0 (level t) (omega arith) (spelt-written t p l zs)
