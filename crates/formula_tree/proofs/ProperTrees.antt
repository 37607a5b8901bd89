-- Trees that tokens spell are proper. Serves the laws `a_texts_tree_is_proper` and
-- `a_texts_sheets_are_listed`.
use Rattle.std.proofs.Common.{◌≡◌, sym, ◌∙◌, ap, subst, refl, arith, ℕ, ℤ, pos, ◌+◌, ◌<◌, ◌≤◌, inl, inr, Bool, true, false, cond, ◌||◌, ◌==◌, nat_lt, if◌then◌else◌, List, [], ◌∷◌, length, Option, Some, None, Ok, Err}
use Rattle.std.specs.List.{list_all}
use Rattle.std.specs.Char.{is_ascii_alphabetic, is_ascii_alphanumeric, to_ascii_uppercase}
use Rattle.std.proofs.lemmas.Bool.{and_parts, and_from, ltb-true, ltb-false}
use Rattle.std.proofs.lemmas.Bool.Decides.{nat_tests}
use Rattle.std.proofs.lemmas.Option.{same_Some}
use Rattle.std.specs.Option.{option_and_then}
use Rattle.digits.specs.Digits.{is_digit}
use Rattle.cell_addr.specs.declared.axis.Axis.{Axis}
use Rattle.cell_addr.specs.declared.axis.Axis.TheVariants.{Rows, Cols}
use Rattle.cell_addr.specs.declared.place.TheConstants.{ROWS, COLS}
use Rattle.cell_addr.specs.Address.{column_of, row_of}
use Rattle.cell_addr.specs.Axis.{limit_of}
use Rattle.cell_addr.specs.Text.{capitals}
use Rattle.fix_num.specs.declared.error.NumError.TheVariants.{Range, NotANumber}
use Rattle.fix_num.specs.Number as numbers
use Rattle.fix_num.specs.Text.{has_minus, after_sign, is_unsigned, magnitude, number_of}
use Rattle.formula_tree.specs.declared.reference.Corner.{Corner}
use Rattle.formula_tree.specs.declared.address.Address.{Address}
use Rattle.formula_tree.specs.declared.address.End.{End}
use Rattle.formula_tree.specs.Token.{Token}
use Rattle.formula_tree.specs.Token as tok
use Rattle.formula_tree.specs.Term.{Term, number, Terms}
use Rattle.formula_tree.specs.Whole.{whole_term}
use Rattle.formula_tree.specs.Level.{level, atom_level}
use Rattle.formula_tree.specs.Run.{begins_with, begins_with_any, is_word, after_dollar, end_at, end_of_run}
use Rattle.formula_tree.specs.Grammar.{Leaf, a_number, a_text, a_truth, a_fault, a_name, a_corner, a_range, a_sheet_corner, a_sheet_range, a_whole, a_sheet_whole, Spells, lower, between, followed, before, leaf, inside, alone, called, SpellsAll, last, more, cell_on, area_on, end_of, whole_on}
use Rattle.formula_tree.specs.Proper.{IsProper, AreProper, IsCallWord, IsListed, SheetsAreListed, AllSheetsAreListed, AreNamed}
use Rattle.formula_tree.specs.Laws.{SpelledIsProper, SpelledIsListed}
use Rattle.formula_tree.proofs.FitTokens.{AreFit, are-fit}

-- a number that is read without a minus sign is proper
within-proper : (b : Bool) (n : ℕ) (m : ℤ) → nat_lt n 1000000000000000000 ≡ b → (if b then Ok (pos n) else Err Range) ≡ Ok m → IsProper (number m)
within-proper true n m e f = let same : pos n ≡ m = cc in subst (λ x. IsProper (number x)) same (ltb-true n 1000000000000000000 e, refl)
within-proper false n m e f = cc

number-proper : (b : Bool) (n : ℕ) (m : ℤ) → (if b then numbers.within (pos n) else Err NotANumber) ≡ Ok m → IsProper (number m)
number-proper true n m e = within-proper (nat_lt n 1000000000000000000) n m refl e
number-proper false n m e = cc

number_of-proper : (w : List ℕ) (m : ℤ) → has_minus w ≡ false → number_of w ≡ Ok m → IsProper (number m)
number_of-proper w m h e =
    number-proper (is_unsigned (after_sign w)) (magnitude (after_sign w)) m
    (ap (λ b. if is_unsigned (after_sign w) then numbers.within (numbers.signed b (magnitude (after_sign w))) else Err NotANumber) (sym h) ∙ e)

-- corners in order
pick-below : (b : Bool) (x y n : ℕ) → x < n → y < n → (if b then x else y) < n
pick-below true x y n h g = h
pick-below false x y n h g = g

pick-ordered : (b : Bool) (x y : ℕ) → nat_lt y x ≡ b → (if b then y else x) ≤ (if b then x else y)
pick-ordered true x y e = let h = ltb-true y x e in omega arith
pick-ordered false x y e = ltb-false y x e

proper-cell : (s : Option ℕ) (a : Address) → (a.row < ROWS) × (a.col < COLS) → IsProper (cell_on s a)
proper-cell None a h = tt
proper-cell (Some s) a h = h

proper-area : (s : Option ℕ) (a b : Address) → (a.row < ROWS) × (a.col < COLS) → (b.row < ROWS) × (b.col < COLS) → IsProper (area_on s a b)
proper-area None a b h g = tt
proper-area (Some s) a b h g = (
  (pick-below (nat_lt b.row a.row) b.row a.row ROWS g.0 h.0, pick-below (nat_lt b.col a.col) b.col a.col COLS g.1 h.1),
  (pick-below (nat_lt b.row a.row) a.row b.row ROWS h.0 g.0, pick-below (nat_lt b.col a.col) a.col b.col COLS h.1 g.1),
  (refl, pick-ordered (nat_lt b.row a.row) a.row b.row refl, pick-ordered (nat_lt b.col a.col) a.col b.col refl),
)

-- an end of a whole range lies within the limits
abbrev FitEnd : Option End → Type 0
FitEnd None = Unit {0}
FitEnd (Some a) = a.line < limit_of a.axis

fit-limit : (axis : Axis) (fixed : Bool) (line : ℕ) (b : Bool) → nat_lt line (limit_of axis) ≡ b → FitEnd (cond b (Some (record { axis = axis; line = line; fixed = fixed })) None)
fit-limit axis fixed line true e = ltb-true line (limit_of axis) e
fit-limit axis fixed line false e = tt

fit-end_at : (axis : Axis) (fixed : Bool) (r : Option ℕ) → FitEnd (option_and_then (end_at axis fixed (limit_of axis)) r)
fit-end_at axis fixed None = tt
fit-end_at axis fixed (Some line) = fit-limit axis fixed line (nat_lt line (limit_of axis)) refl

fit-end_after : (fixed b : Bool) (cs : List ℕ) → FitEnd (cond b (option_and_then (end_at Rows fixed ROWS) (row_of cs)) (option_and_then (end_at Cols fixed COLS) (column_of cs)))
fit-end_after fixed true cs = fit-end_at Rows fixed (row_of cs)
fit-end_after fixed false cs = fit-end_at Cols fixed (column_of cs)

fit-run : (w : List ℕ) → FitEnd (end_of_run ROWS w)
fit-run w = fit-end_after (begins_with 36 w) (begins_with_any is_digit (after_dollar w)) (after_dollar w)

fit-end_of : (x : Token) → FitEnd (end_of ROWS x)
fit-end_of (tok.Number w) = fit-run w
fit-end_of (tok.Name w) = fit-run w
fit-end_of (tok.Other w) = fit-run w
fit-end_of x = tt

end-inside : (x : Token) (a : End) → end_of ROWS x ≡ Some a → a.line < limit_of a.axis
end-inside x a e = let fit : FitEnd (Some a) = subst FitEnd e (fit-end_of x) in fit

-- a whole range that is inside is proper
proper-along : (axis : Axis) (sheet m n : ℕ) (f g : Bool) → m ≤ n → n < limit_of axis → IsProper (whole_term (record { sheet = sheet; axis = axis; first = m; last = n }) f g)
proper-along Rows sheet m n f g o l = ((omega arith, omega arith), (l, omega arith), (refl, o, omega arith), (refl, refl))
proper-along Cols sheet m n f g o l = ((omega arith, omega arith), (omega arith, l), (refl, omega arith, o), (refl, refl))

proper-by : (sheet : ℕ) (a b : End) (axis : Axis) (low : Bool) → nat_lt b.line a.line ≡ low → a.line < limit_of axis → b.line < limit_of axis
    → IsProper (cond low (whole_term (record { sheet = sheet; axis = axis; first = b.line; last = a.line }) b.fixed a.fixed)
    (whole_term (record { sheet = sheet; axis = axis; first = a.line; last = b.line }) a.fixed b.fixed))
proper-by sheet a b axis true e i j = let h = ltb-true b.line a.line e in proper-along axis sheet b.line a.line b.fixed a.fixed (omega arith) i
proper-by sheet a b axis false e i j = proper-along axis sheet a.line b.line a.fixed b.fixed (ltb-false b.line a.line e) j

proper-whole : (s : Option ℕ) (a b : End) → a.line < limit_of a.axis → b.line < limit_of b.axis → a.axis ≡ b.axis → IsProper (whole_on s a b)
proper-whole None a b i j e = tt
proper-whole (Some s) a b i j e = proper-by s a b a.axis (nat_lt b.line a.line) refl i (subst (λ x. b.line < limit_of x) (sym e) j)

level-by : (b : Bool) (t u : Term Corner) → level t ≡ atom_level → level u ≡ atom_level → level (cond b t u) ≡ atom_level
level-by true t u e f = e
level-by false t u e f = f

level-whole : (s : Option ℕ) (a b : End) → level (whole_on s a b) ≡ atom_level
level-whole None a b = refl
level-whole (Some s) a b = level-by (nat_lt b.line a.line) _ _ refl refl

level-cell : (s : Option ℕ) (a : Address) → level (cell_on s a) ≡ atom_level
level-cell None a = refl
level-cell (Some s) a = refl

level-area : (s : Option ℕ) (a b : Address) → level (area_on s a b) ≡ atom_level
level-area None a b = refl
level-area (Some s) a b = refl

-- a word's capitals are a word in capitals
start-raised : (c : ℕ) → (is_ascii_alphabetic c || c == 95) ≡ true → (is_ascii_alphabetic (to_ascii_uppercase c) || to_ascii_uppercase c == 95) ≡ true
start-raised c h = grind (arith, nat_tests)

byte-raised : (c : ℕ) → (is_ascii_alphanumeric c || (c == 95 || c == 46)) ≡ true → (is_ascii_alphanumeric (to_ascii_uppercase c) || (to_ascii_uppercase c == 95 || to_ascii_uppercase c == 46)) ≡ true
byte-raised c h = grind (arith, nat_tests)

raised-twice : (c : ℕ) → to_ascii_uppercase (to_ascii_uppercase c) ≡ to_ascii_uppercase c
raised-twice c = grind (arith, nat_tests)

capitals-twice : (w : List ℕ) → capitals (capitals w) ≡ capitals w
capitals-twice [] = refl
capitals-twice (c ∷ cs) = ap (λ x. x ∷ capitals (capitals cs)) (raised-twice c) ∙ ap (λ xs. to_ascii_uppercase c ∷ xs) (capitals-twice cs)

bytes-raised : (cs : List ℕ) → list_all (λ d. is_ascii_alphanumeric d || (d == 95 || d == 46)) cs ≡ true → list_all (λ d. is_ascii_alphanumeric d || (d == 95 || d == 46)) (capitals cs) ≡ true
bytes-raised [] h = refl
bytes-raised (c ∷ cs) h =
    let parts = and_parts (is_ascii_alphanumeric c || (c == 95 || c == 46)) (list_all (λ d. is_ascii_alphanumeric d || (d == 95 || d == 46)) cs) h in
    and_from _ _ (byte-raised c parts.0) (bytes-raised cs parts.1)

is_word-capitals : (w : List ℕ) → is_word w ≡ true → is_word (capitals w) ≡ true
is_word-capitals [] h = h
is_word-capitals (c ∷ cs) h =
    let parts = and_parts (is_ascii_alphabetic c || c == 95) (list_all (λ d. is_ascii_alphanumeric d || (d == 95 || d == 46)) cs) h in
    and_from _ _ (start-raised c parts.0) (bytes-raised cs parts.1)

call_word : (w : List ℕ) → is_word w ≡ true → IsCallWord (capitals w)
call_word w h = (is_word-capitals w h, capitals-twice w)

module _ (home : ℕ) (find : List ℕ → Option ℕ) where
  leaf-proper : {xs : List Token} {t : Term Corner} {zs : List Token} → Leaf home find xs t zs → AreFit xs → (level t ≡ atom_level) × IsProper t × AreFit zs
  leaf-proper (a_number {w = w} {m = m} e) f = (refl, number_of-proper w m f.0 e, f.1)
  leaf-proper a_text f = (refl, tt, f.1)
  leaf-proper a_truth f = (refl, tt, f.1)
  leaf-proper a_fault f = (refl, tt, f.1)
  leaf-proper a_name f = (refl, f.0, f.1)
  leaf-proper (a_corner {a = a}) f = (refl, proper-cell (Some home) a f.0, f.1)
  leaf-proper (a_range {a = a} {b = b}) f = (refl, proper-area (Some home) a b f.0 f.1.1.0, f.1.1.1)
  leaf-proper (a_sheet_corner {s = s} {a = a}) f = (level-cell (find s) a, proper-cell (find s) a f.1.0, f.1.1)
  leaf-proper (a_sheet_range {s = s} {a = a} {b = b}) f = (level-area (find s) a b, proper-area (find s) a b f.1.0 f.1.1.1.0, f.1.1.1.1)
  leaf-proper (a_whole {x = x} {y = y} {a = a} {b = b} e h same) f =
      (level-whole (Some home) a b, proper-whole (Some home) a b (end-inside x a e) (end-inside y b h) same, f.1.1.1)
  leaf-proper (a_sheet_whole {s = s} {x = x} {y = y} {a = a} {b = b} e h same) f =
      (level-whole (find s) a b, proper-whole (find s) a b (end-inside x a e) (end-inside y b h) same, f.1.1.1.1)

  mutual
    -- a tree that is spelt at a level is proper and of that level or a higher one
    proper : {k : ℕ} {xs : List Token} {t : Term Corner} {zs : List Token} → Spells home find k xs t zs → AreFit xs → (k ≤ level t) × IsProper t × AreFit zs
    proper (lower d) f = let p = proper d f in (omega (arith, p.0), p.1, p.2)
    proper (between o d e) f =
        let p = proper d f in
        let q = proper e p.2.1 in
        (omega arith, (p.0, q.0, p.1, q.1), q.2)
    proper (followed d) f = let p = proper d f in (omega arith, (p.0, p.1), p.2.1)
    proper (before s d) f = let p = proper d f.1 in (omega arith, (p.0, p.1), p.2)
    proper (leaf l) f = let p = leaf-proper l f in (omega (arith, p.0), p.1, p.2)
    proper (inside d) f = let p = proper d f.1 in (omega arith, p.1, p.2.1)
    proper (alone {w = w}) f = (omega arith, (call_word w f.0, tt), f.1.1.1)
    proper (called {w = w} ds) f = let p = proper_all ds f.1.1 in (omega arith, (call_word w f.0, p.0), p.1)

    proper_all : {xs : List Token} {ts : Terms Corner} {zs : List Token} → SpellsAll home find xs ts zs → AreFit xs → AreProper ts × AreFit zs
    proper_all (last d) f = let p = proper d f in ((p.1, tt), p.2.1)
    proper_all (more d ds) f =
        let p = proper d f in
        let q = proper_all ds p.2.1 in
        ((p.1, q.0), q.1)

  module _ (names : ℕ → Option (List ℕ)) (named : AreNamed names find) where
    listed-cell : (s : Option ℕ) (a : Address) → ((n : ℕ) → s ≡ Some n → IsListed home names find n) → SheetsAreListed home names find (cell_on s a)
    listed-cell None a h = tt
    listed-cell (Some n) a h = h n refl

    listed-area : (s : Option ℕ) (a b : Address) → ((n : ℕ) → s ≡ Some n → IsListed home names find n) → SheetsAreListed home names find (area_on s a b)
    listed-area None a b h = tt
    listed-area (Some n) a b h = h n refl

    listed-along : (axis : Axis) (sheet m n : ℕ) (f g : Bool) → IsListed home names find sheet
        → SheetsAreListed home names find (whole_term (record { sheet = sheet; axis = axis; first = m; last = n }) f g)
    listed-along Rows sheet m n f g h = h
    listed-along Cols sheet m n f g h = h

    listed-by : (sheet : ℕ) (axis : Axis) (low : Bool) (m n : ℕ) (f g : Bool) → IsListed home names find sheet
        → SheetsAreListed home names find (cond low (whole_term (record { sheet = sheet; axis = axis; first = n; last = m }) g f)
        (whole_term (record { sheet = sheet; axis = axis; first = m; last = n }) f g))
    listed-by sheet axis true m n f g h = listed-along axis sheet n m g f h
    listed-by sheet axis false m n f g h = listed-along axis sheet m n f g h

    listed-whole : (s : Option ℕ) (a b : End) → ((n : ℕ) → s ≡ Some n → IsListed home names find n) → SheetsAreListed home names find (whole_on s a b)
    listed-whole None a b h = tt
    listed-whole (Some n) a b h = listed-by n a.axis (nat_lt b.line a.line) a.line b.line a.fixed b.fixed (h n refl)

    leaf-listed : {xs : List Token} {t : Term Corner} {zs : List Token} → Leaf home find xs t zs → SheetsAreListed home names find t
    leaf-listed (a_number e) = tt
    leaf-listed a_text = tt
    leaf-listed a_truth = tt
    leaf-listed a_fault = tt
    leaf-listed a_name = tt
    leaf-listed a_corner = inl refl
    leaf-listed a_range = inl refl
    leaf-listed (a_sheet_corner {s = s} {a = a}) = listed-cell (find s) a (λ n e. inr (named s n e))
    leaf-listed (a_sheet_range {s = s} {a = a} {b = b}) = listed-area (find s) a b (λ n e. inr (named s n e))
    leaf-listed (a_whole {a = a} {b = b} e f g) = listed-whole (Some home) a b (λ n same. inl (sym (same_Some _ _ same)))
    leaf-listed (a_sheet_whole {s = s} {a = a} {b = b} e f g) = listed-whole (find s) a b (λ n same. inr (named s n same))

    mutual
      listed : {k : ℕ} {xs : List Token} {t : Term Corner} {zs : List Token} → Spells home find k xs t zs → SheetsAreListed home names find t
      listed (lower d) = listed d
      listed (between o d e) = (listed d, listed e)
      listed (followed d) = listed d
      listed (before s d) = listed d
      listed (leaf l) = leaf-listed l
      listed (inside d) = listed d
      listed alone = tt
      listed (called ds) = listed_all ds

      listed_all : {xs : List Token} {ts : Terms Corner} {zs : List Token} → SpellsAll home find xs ts zs → AllSheetsAreListed home names find ts
      listed_all (last d) = (listed d, tt)
      listed_all (more d ds) = (listed d, listed_all ds)

pub spelled-proper : SpelledIsProper
spelled-proper home find [] t d = absurd d
spelled-proper home find (c ∷ cs) t (tokens, (b, e, d)) = (proper home find d (are-fit (length cs + 1) cs tokens e)).1

pub spelled-listed : SpelledIsListed
spelled-listed home find names [] t n d = absurd d
spelled-listed home find names (c ∷ cs) t n (tokens, (b, e, d)) = listed home find names n d
