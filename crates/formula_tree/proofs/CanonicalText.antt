-- The canonical text has the tokens that spell its tree. Serves the law that the canonical text spells
-- its tree.
use Rattle.std.proofs.Common.{◌≡◌, sym, ◌∙◌, ap, subst, refl, arith, ℕ, ◌+◌, ◌<◌, Bool, true, false, if◌then◌else◌, ◌==◌, List, [], ◌∷◌, ◌++◌, length, Option, Some, None}
use Rattle.std.proofs.lemmas.Bool.Decides.{nat_tests}
use Rattle.digits.specs.Digits.{is_digit}
use Rattle.digits.proofs.Numerals.{is_digit-bounds}
use Rattle.std.specs.Fmt.{decimal}
use Rattle.cell_addr.specs.declared.axis.Axis.{Axis}
use Rattle.cell_addr.specs.declared.axis.Axis.TheVariants.{Rows, Cols}
use Rattle.cell_addr.specs.declared.place.TheConstants.{ROWS, COLS}
use Rattle.cell_addr.specs.Address.{column_letters}
use Rattle.cell_addr.specs.SheetName.{is_bare_name}
use Rattle.cell_addr.specs.Place as places
use Rattle.cell_value.specs.declared.fault.FaultKind.{FaultKind}
use Rattle.cell_value.specs.declared.fault.FaultKind.TheVariants as kinds
use Rattle.cell_value.specs.Fault.{fault_text}
use Rattle.cell_value.specs.Scalar.{truth_text}
use Rattle.fix_num.specs.Text.{text_of}
use Rattle.formula_tree.specs.declared.reference.Corner.{Corner}
use Rattle.formula_tree.specs.declared.operator.Sign.{Sign}
use Rattle.formula_tree.specs.declared.operator.Sign.TheVariants as sign
use Rattle.formula_tree.specs.Token.{Token}
use Rattle.formula_tree.specs.Token as tok
use Rattle.formula_tree.specs.Term.{Term, number, text, truth, fault, cell, area, whole, name, prefix, percent, binary, call, paren, Terms, no_terms, term}
use Rattle.formula_tree.specs.Run.{is_blank, begins_run, begins_with_any}
use Rattle.formula_tree.specs.Canonical.{op_text, sign_text, dollar, line_text, corner_text, sheet_text, printed, printed_all, printed_more}
use Rattle.formula_tree.specs.Proper.{IsProper, AreProper}
use Rattle.formula_tree.specs.Laws.{CanonicalSpells}
use Rattle.formula_tree.proofs.Lexes.{Lexes, lexes-nil, Stopped, stopped-nil, stopped-close, stopped-comma, stopped-colon, stopped-percent, stopped-op, lexes-open, lexes-close, lexes-comma, lexes-colon, lexes-percent, lexes-sign, IsApart, lexes-op, lexes-fault}
use Rattle.formula_tree.proofs.LexedNumbers.{lexes-number, number-begins, lexes-text, lexes-quoted_sheet}
use Rattle.formula_tree.proofs.EndTokens.{line_token}
use Rattle.formula_tree.proofs.LexedEnds.{lexes-line, line-no_blank, IsRun-column, row-begins}
use Rattle.formula_tree.proofs.LexedRuns.{IsRun, run-not_blank, IsRun-word, IsRun-bare, lexes-name, lexes-truth, lexes-word, lexes-bare_sheet, lexes-corner, corner_text-begins}
use Rattle.formula_tree.proofs.Written.{address_of, sheet_tokens, written, written_all, written_more, spelt-canonical}

-- no tree's text begins with `=` or `>`
digit-apart : (cs : List ℕ) → begins_with_any is_digit cs ≡ true → IsApart cs
digit-apart [] h = (refl, refl)
digit-apart (c ∷ cs) h = let b = is_digit-bounds c h in (grind (arith, nat_tests), grind (arith, nat_tests))

begins_run-not_equal : (c : ℕ) → begins_run c ≡ true → (c == 61) ≡ false
begins_run-not_equal c h = grind (arith, nat_tests)

begins_run-not_greater : (c : ℕ) → begins_run c ≡ true → (c == 62) ≡ false
begins_run-not_greater c h = grind (arith, nat_tests)

run-apart : (w rest : List ℕ) → IsRun w → IsApart (w ++ rest)
run-apart [] rest r = absurd r
run-apart (c ∷ w) rest r = (begins_run-not_equal c r.0, begins_run-not_greater c r.0)

run-no_blank : (w rest : List ℕ) → IsRun w → begins_with_any is_blank (w ++ rest) ≡ false
run-no_blank [] rest r = absurd r
run-no_blank (c ∷ w) rest r = run-not_blank c r.0

fault-apart : (f : FaultKind) (cs : List ℕ) → IsApart (fault_text f ++ cs)
fault-apart kinds.Div0 cs = (refl, refl)
fault-apart kinds.Name cs = (refl, refl)
fault-apart kinds.Value cs = (refl, refl)
fault-apart kinds.Num cs = (refl, refl)
fault-apart kinds.Na cs = (refl, refl)
fault-apart kinds.Cycle cs = (refl, refl)
fault-apart kinds.Ref cs = (refl, refl)
fault-apart kinds.Error cs = (refl, refl)

truth-apart : (b : Bool) (cs : List ℕ) → IsApart (truth_text b ++ cs)
truth-apart true cs = (refl, refl)
truth-apart false cs = (refl, refl)

sign-apart : (s : Sign) (cs : List ℕ) → IsApart (sign_text s ++ cs)
sign-apart sign.Plus cs = (refl, refl)
sign-apart sign.Minus cs = (refl, refl)

corner-apart : (c : Corner) (cs : List ℕ) → places.IsInside c.at → IsApart (corner_text c cs)
corner-apart c cs p = let (w, (r, e)) = corner_text-begins c cs p in subst IsApart (sym e) (run-apart w cs r)

corner-no_blank : (c : Corner) (cs : List ℕ) → places.IsInside c.at → begins_with_any is_blank (corner_text c cs) ≡ false
corner-no_blank c cs p = let (w, (r, e)) = corner_text-begins c cs p in ap (begins_with_any is_blank) e ∙ run-no_blank w cs r

column-apart : (fixed : Bool) (col : ℕ) (cs : List ℕ) → col < COLS → IsApart (dollar fixed (column_letters col ++ cs))
column-apart true col cs h = (refl, refl)
column-apart false col cs h = run-apart (column_letters col) cs (IsRun-column col h)

row-apart : (fixed : Bool) (row : ℕ) (cs : List ℕ) → row < ROWS → IsApart (dollar fixed (decimal (row + 1) ++ cs))
row-apart true row cs h = (refl, refl)
row-apart false row cs h = digit-apart (decimal (row + 1) ++ cs) (row-begins row cs h)

line-apart : (axis : Axis) (c : Corner) (cs : List ℕ) → places.IsInside c.at → IsApart (line_text axis c cs)
line-apart Rows c cs p = row-apart c.row_fixed c.at.row cs p.0
line-apart Cols c cs p = column-apart c.col_fixed c.at.col cs p.1

named-apart : (b : Bool) (w rest : List ℕ) → is_bare_name w ≡ b → IsApart (sheet_text (Some w) rest)
named-apart true w rest e = rw e (run-apart w (33 ∷ rest) (IsRun-bare w e))
named-apart false w rest e = rw e (refl, refl)

sheet-apart : (n : Option (List ℕ)) (rest : List ℕ) → IsApart rest → IsApart (sheet_text n rest)
sheet-apart None rest a = a
sheet-apart (Some w) rest a = named-apart (is_bare_name w) w rest refl

front-apart : (b : Bool) (n : Option (List ℕ)) (rest : List ℕ) → IsApart rest → IsApart (if b then rest else sheet_text n rest)
front-apart true n rest a = a
front-apart false n rest a = sheet-apart n rest a

-- a sheet's name in front of a reference
lexes-named : (b : Bool) (w rest : List ℕ) (tokens : List Token) → is_bare_name w ≡ b → begins_with_any is_blank rest ≡ false → Lexes rest tokens
    → Lexes (sheet_text (Some w) rest) (tok.Sheet w ∷ tokens)
lexes-named true w rest tokens e h l = rw e (lexes-bare_sheet w rest tokens e h l)
lexes-named false w rest tokens e h l = rw e (lexes-quoted_sheet w rest tokens h l)

lexes-sheet : (n : Option (List ℕ)) (rest : List ℕ) (tokens : List Token) → begins_with_any is_blank rest ≡ false → Lexes rest tokens → Lexes (sheet_text n rest) (sheet_tokens n tokens)
lexes-sheet None rest tokens h l = l
lexes-sheet (Some w) rest tokens h l = lexes-named (is_bare_name w) w rest tokens refl h l

lexes-front : (b : Bool) (n : Option (List ℕ)) (rest : List ℕ) (tokens : List Token) → begins_with_any is_blank rest ≡ false → Lexes rest tokens
    → Lexes (if b then rest else sheet_text n rest) (if b then tokens else sheet_tokens n tokens)
lexes-front true n rest tokens h l = l
lexes-front false n rest tokens h l = lexes-sheet n rest tokens h l

module _ (home : ℕ) (names : ℕ → Option (List ℕ)) where
  apart : (t : Term Corner) → IsProper t → (cs : List ℕ) → IsApart (printed home names t cs)
  apart (number m) p cs = digit-apart (text_of m ++ cs) (number-begins m p.0 p.1 cs)
  apart (text w) p cs = (refl, refl)
  apart (truth b) p cs = truth-apart b cs
  apart (fault f) p cs = fault-apart f cs
  apart (cell c) p cs = front-apart (c.at.sheet == home) (names c.at.sheet) (corner_text c cs) (corner-apart c cs p)
  apart (area c d) p cs = front-apart (c.at.sheet == home) (names c.at.sheet) (corner_text c (58 ∷ corner_text d cs)) (corner-apart c (58 ∷ corner_text d cs) p.0)
  apart (whole axis c d) p cs = front-apart (c.at.sheet == home) (names c.at.sheet) (line_text axis c (58 ∷ line_text axis d cs)) (line-apart axis c (58 ∷ line_text axis d cs) p.0)
  apart (name w) p cs = run-apart w cs (IsRun-word w p.0)
  apart (prefix s t) p cs = sign-apart s (printed home names t cs)
  apart (percent t) p cs = apart t p.1 (37 ∷ cs)
  apart (binary o l r) p cs = apart l p.2 (op_text o ++ printed home names r cs)
  apart (call w ts) p cs = run-apart w (40 ∷ printed_all home names ts cs) (IsRun-word w p.0.0)
  apart (paren t) p cs = (refl, refl)

  stopped-more : (ts : Terms Corner) (cs : List ℕ) → Stopped (printed_more home names ts cs)
  stopped-more no_terms cs = stopped-close cs
  stopped-more (term t ts) cs = stopped-comma (printed home names t (printed_more home names ts cs))

  mutual
    -- the canonical text of a proper tree has its tokens, whatever stops it
    pub lexes-printed : (t : Term Corner) → IsProper t → (cs : List ℕ) (zs : List Token) → Stopped cs → Lexes cs zs → Lexes (printed home names t cs) (written home names t zs)
    lexes-printed (number m) p cs zs s l = lexes-number m p.0 p.1 cs zs s l
    lexes-printed (text w) p cs zs s l = lexes-text w cs zs s l
    lexes-printed (truth b) p cs zs s l = lexes-truth b cs zs s l
    lexes-printed (fault f) p cs zs s l = lexes-fault f cs zs l
    lexes-printed (cell c) p cs zs s l =
        lexes-front (c.at.sheet == home) (names c.at.sheet) (corner_text c cs) (tok.Corner (address_of c) ∷ zs) (corner-no_blank c cs p) (lexes-corner c cs zs p s l)
    lexes-printed (area c d) p cs zs s l =
        lexes-front (c.at.sheet == home) (names c.at.sheet) (corner_text c (58 ∷ corner_text d cs)) (tok.Corner (address_of c) ∷ tok.Colon ∷ tok.Corner (address_of d) ∷ zs)
        (corner-no_blank c (58 ∷ corner_text d cs) p.0)
        (lexes-corner c (58 ∷ corner_text d cs) (tok.Colon ∷ tok.Corner (address_of d) ∷ zs) p.0 (stopped-colon (corner_text d cs))
        (lexes-colon (corner_text d cs) (tok.Corner (address_of d) ∷ zs) (lexes-corner d cs zs p.1 s l)))
    lexes-printed (whole axis c d) p cs zs s l =
        lexes-front (c.at.sheet == home) (names c.at.sheet) (line_text axis c (58 ∷ line_text axis d cs)) (line_token axis c ∷ tok.Colon ∷ line_token axis d ∷ zs)
        (line-no_blank axis c (58 ∷ line_text axis d cs) p.0)
        (lexes-line axis c (58 ∷ line_text axis d cs) (tok.Colon ∷ line_token axis d ∷ zs) p.0 (stopped-colon (line_text axis d cs))
        (lexes-colon (line_text axis d cs) (line_token axis d ∷ zs) (lexes-line axis d cs zs p.1 s l)))
    lexes-printed (name w) p cs zs s l = lexes-name w cs zs p s l
    lexes-printed (prefix v t) p cs zs s l = lexes-sign v (printed home names t cs) (written home names t zs) (lexes-printed t p.1 cs zs s l)
    lexes-printed (percent t) p cs zs s l = lexes-printed t p.1 (37 ∷ cs) (tok.Percent ∷ zs) (stopped-percent cs) (lexes-percent cs zs l)
    lexes-printed (binary o a b) p cs zs s l =
        lexes-printed a p.2 (op_text o ++ printed home names b cs) (tok.Operator o ∷ written home names b zs) (stopped-op o (printed home names b cs))
        (lexes-op o (printed home names b cs) (written home names b zs) (apart b p.3 cs) (lexes-printed b p.3 cs zs s l))
    lexes-printed (call w ts) p cs zs s l =
        lexes-word w (printed_all home names ts cs) (tok.Open ∷ written_all home names ts zs) p.0
        (lexes-open (printed_all home names ts cs) (written_all home names ts zs) (lexes-all ts p.1 cs zs l))
    lexes-printed (paren t) p cs zs s l =
        lexes-open (printed home names t (41 ∷ cs)) (written home names t (tok.Close ∷ zs)) (lexes-printed t p (41 ∷ cs) (tok.Close ∷ zs) (stopped-close cs) (lexes-close cs zs l))

    lexes-all : (ts : Terms Corner) → AreProper ts → (cs : List ℕ) (zs : List Token) → Lexes cs zs → Lexes (printed_all home names ts cs) (written_all home names ts zs)
    lexes-all no_terms p cs zs l = lexes-close cs zs l
    lexes-all (term t ts) p cs zs l =
        lexes-printed t p.0 (printed_more home names ts cs) (written_more home names ts zs) (stopped-more ts cs) (lexes-more ts p.1 cs zs l)

    lexes-more : (ts : Terms Corner) → AreProper ts → (cs : List ℕ) (zs : List Token) → Lexes cs zs → Lexes (printed_more home names ts cs) (written_more home names ts zs)
    lexes-more no_terms p cs zs l = lexes-close cs zs l
    lexes-more (term t ts) p cs zs l =
        lexes-comma (printed home names t (printed_more home names ts cs)) (written home names t (written_more home names ts zs))
        (lexes-printed t p.0 (printed_more home names ts cs) (written_more home names ts zs) (stopped-more ts cs) (lexes-more ts p.1 cs zs l))

pub canonical-spells : CanonicalSpells
canonical-spells home find names t p l =
    let cs : List ℕ = printed home names t [] in
    (written home names t [], (refl, lexes-printed home names t p [] [] stopped-nil lexes-nil (length cs + 1) (omega arith), spelt-canonical home find names t p l []))
