-- What the tokens spell, the reader reads. Serves the law that the reader is exact.
use Rattle.std.proofs.Common.{◌≡◌, ◌∙◌, ap, refl, arith, subst, ℕ, zero, suc, ◌+◌, ◌-◌, ◌<◌, ◌≤◌, Bool, true, false, cond, nat_lt, List, [], ◌∷◌, ◌++◌, length, Option, Some, None, append_assoc}
use Rattle.std.proofs.lemmas.Bool.{cond-true, lt-ltb, le-ltb}
use Rattle.std.specs.Option.{option_and_then, option_map}
use Rattle.cell_addr.specs.declared.place.TheConstants.{ROWS}
use Rattle.cell_addr.specs.Axis.{same_axis}
use Rattle.cell_addr.specs.Text.{capitals}
use Rattle.cell_addr.proofs.SamePlaces.{same_axis-self}
use Rattle.fix_num.specs.Text.{number_of}
use Rattle.formula_tree.specs.declared.reference.Corner.{Corner}
use Rattle.formula_tree.specs.declared.operator.Op.{Op}
use Rattle.formula_tree.specs.declared.operator.Op.TheVariants as op
use Rattle.formula_tree.specs.declared.operator.Sign.{Sign}
use Rattle.formula_tree.specs.declared.operator.Sign.TheVariants as sign
use Rattle.formula_tree.specs.declared.address.Address.{Address}
use Rattle.formula_tree.specs.declared.address.End.{End}
use Rattle.formula_tree.specs.Token.{Token}
use Rattle.formula_tree.specs.Token as tok
use Rattle.formula_tree.specs.Term.{Term, number, text, truth, fault, cell, area, whole, name, prefix, percent, binary, call, paren, Terms, no_terms, term, terms_of, depth_of, depth_of_all}
use Rattle.formula_tree.specs.Level.{level_of, percent_level, sign_level, op_of, sign_of}
use Rattle.formula_tree.specs.Grammar.{Leaf, a_number, a_text, a_truth, a_fault, a_name, a_corner, a_range, a_sheet_corner, a_sheet_range, a_whole, a_sheet_whole, Spells, lower, between, followed, before, leaf, inside, alone, called, SpellsAll, last, more, cell_on, area_on, end_of, whole_on}
use Rattle.formula_tree.specs.Reader.{Read, and_then, after, number_then, end_then, whole_range, range_or, sheet_range, on_sheet, first_at, first, climb, arguments, read}
use Rattle.formula_tree.proofs.ReaderSteps.{read_more, climb_more, arguments_more}

-- what may follow a tree of level k: nothing, a parenthesis, a comma, or an operator below k
abbrev pub Stops : ℕ → List Token → Type 0
Stops k [] = Unit {0}
Stops k (tok.Close ∷ zs) = Unit {0}
Stops k (tok.Comma ∷ zs) = Unit {0}
Stops k (tok.Operator o ∷ zs) = level_of o < k
Stops k (tok.Percent ∷ zs) = percent_level < k
Stops k (x ∷ zs) = ⊥

-- how many operators stand along the left edge of a tree
abbrev pub spine : Term Corner → ℕ
spine (binary o l r) = suc (spine l)
spine (percent t) = suc (spine t)
spine t = 0

-- the trees of the arguments
abbrev pub trees_in : Terms Corner → List (Term Corner)
trees_in no_terms = []
trees_in (term t ts) = t ∷ trees_in ts

pub terms_of-trees_in : (ts : Terms Corner) → terms_of (trees_in ts) ≡ ts
terms_of-trees_in no_terms = refl
terms_of-trees_in (term t ts) = ap (λ us. term t us) (terms_of-trees_in ts)

pub depth_of-positive : (t : Term Corner) → 0 < depth_of t
depth_of-positive (number m) = omega arith
depth_of-positive (text w) = omega arith
depth_of-positive (truth b) = omega arith
depth_of-positive (fault f) = omega arith
depth_of-positive (cell c) = omega arith
depth_of-positive (area c d) = omega arith
depth_of-positive (whole axis c d) = omega arith
depth_of-positive (name w) = omega arith
depth_of-positive (prefix s t) = omega arith
depth_of-positive (percent t) = omega arith
depth_of-positive (binary o l r) = omega arith
depth_of-positive (call w ts) = omega arith
depth_of-positive (paren t) = omega arith

spine-depth : (t : Term Corner) → spine t < depth_of t
spine-depth (number m) = omega arith
spine-depth (text w) = omega arith
spine-depth (truth b) = omega arith
spine-depth (fault f) = omega arith
spine-depth (cell c) = omega arith
spine-depth (area c d) = omega arith
spine-depth (whole axis c d) = omega arith
spine-depth (name w) = omega arith
spine-depth (prefix s t) = omega arith
spine-depth (percent t) = omega (arith, spine-depth t)
spine-depth (binary o l r) = omega (arith, spine-depth l)
spine-depth (call w ts) = omega arith
spine-depth (paren t) = omega arith

pub level_of-below : (o : Op) → level_of o < 5
level_of-below op.Add = omega arith
level_of-below op.Sub = omega arith
level_of-below op.Mul = omega arith
level_of-below op.Div = omega arith
level_of-below op.Power = omega arith
level_of-below op.Join = omega arith
level_of-below op.Equal = omega arith
level_of-below op.Unequal = omega arith
level_of-below op.Less = omega arith
level_of-below op.Greater = omega arith
level_of-below op.AtMost = omega arith
level_of-below op.AtLeast = omega arith

pub sign_of-op_of : (s : Sign) → sign_of (op_of s) ≡ Some s
sign_of-op_of sign.Plus = refl
sign_of-op_of sign.Minus = refl

-- each kind of front of what follows a tree
Stops-higher : (k j : ℕ) (zs : List Token) → k ≤ j → Stops k zs → Stops j zs
Stops-higher k j [] h s = tt
Stops-higher k j (tok.Close ∷ zs) h s = tt
Stops-higher k j (tok.Comma ∷ zs) h s = tt
Stops-higher k j (tok.Operator o ∷ zs) h s = omega arith
Stops-higher k j (tok.Percent ∷ zs) h s = omega arith
Stops-higher k j (x ∷ zs) h s = absurd s

Stops-sign : (k : ℕ) (zs : List Token) → Stops k zs → Stops sign_level zs
Stops-sign k [] s = tt
Stops-sign k (tok.Close ∷ zs) s = tt
Stops-sign k (tok.Comma ∷ zs) s = tt
Stops-sign k (tok.Operator o ∷ zs) s = omega (arith, level_of-below o)
Stops-sign k (tok.Percent ∷ zs) s = omega arith
Stops-sign k (x ∷ zs) s = absurd s

after_colon-stops : (k : ℕ) (zs : List Token) → Stops k zs → after tok.Colon zs ≡ None
after_colon-stops k [] s = refl
after_colon-stops k (tok.Close ∷ zs) s = refl
after_colon-stops k (tok.Comma ∷ zs) s = refl
after_colon-stops k (tok.Operator o ∷ zs) s = refl
after_colon-stops k (tok.Percent ∷ zs) s = refl
after_colon-stops k (x ∷ zs) s = absurd s

-- a token that is an end of a whole range is no closing parenthesis
end-not_close : (x : Token) (a : End) (tokens : List Token) → end_of ROWS x ≡ Some a → after tok.Close (x ∷ tokens) ≡ None
end-not_close tok.Close a tokens e = cc
end-not_close x a tokens e = refl

-- two ends of one axis are read as a whole range
range-read : (s : Option ℕ) (r : Option End) (y : Token) (a b : End) (zs : List Token) → r ≡ Some a → end_of ROWS y ≡ Some b → a.axis ≡ b.axis
    → whole_range s r (y ∷ zs) ≡ Some (whole_on s a b, zs)
range-read s r y a b zs e f g =
    let same : same_axis a.axis b.axis ≡ true = subst (λ x. same_axis a.axis x ≡ true) g (same_axis-self a.axis) in
    ap (λ o. whole_range s o (y ∷ zs)) e
    ∙ ap (λ o. option_and_then (end_then s a) (option_map (λ c. (c, zs)) o)) f
    ∙ cond-true (same_axis a.axis b.axis) (Some (whole_on s a b, zs)) None same

-- what the reader does at an end and a colon
first-end : (home : ℕ) (find : List ℕ → Option ℕ) (R : ℕ → List Token → Read) (x : Token) (a : End) (tokens : List Token) → end_of ROWS x ≡ Some a
    → first_at home find R x (tok.Colon ∷ tokens) ≡ whole_range (Some home) (end_of ROWS x) tokens
first-end home find R (tok.Number w) a tokens e = refl
first-end home find R (tok.Name w) a tokens e = refl
first-end home find R (tok.Other w) a tokens e = refl
first-end home find R x a tokens e = cc

sheet-end : (s : Option ℕ) (x : Token) (a : End) (tokens : List Token) → end_of ROWS x ≡ Some a → on_sheet s (x ∷ tok.Colon ∷ tokens) ≡ whole_range s (Some a) tokens
sheet-end s (tok.Number w) a tokens e = ap (λ o. sheet_range s (option_map (λ c. (c, tok.Colon ∷ tokens)) o)) e
sheet-end s (tok.Name w) a tokens e = ap (λ o. sheet_range s (option_map (λ c. (c, tok.Colon ∷ tokens)) o)) e
sheet-end s (tok.Other w) a tokens e = ap (λ o. sheet_range s (option_map (λ c. (c, tok.Colon ∷ tokens)) o)) e
sheet-end s x a tokens e = cc

-- where the tree stops, the climb ends
climb-stops : (R : ℕ → List Token → Read) (n k : ℕ) (t : Term Corner) (zs : List Token) → 0 < n → Stops k zs → climb R n k t zs ≡ Some (t, zs)
climb-stops R n k t [] h s = climb_more R n k t [] h
climb-stops R n k t (tok.Close ∷ zs) h s = climb_more R n k t (tok.Close ∷ zs) h
climb-stops R n k t (tok.Comma ∷ zs) h s = climb_more R n k t (tok.Comma ∷ zs) h
climb-stops R n k t (tok.Operator o ∷ zs) h s = climb_more R n k t (tok.Operator o ∷ zs) h ∙ rw (lt-ltb (level_of o) k s) refl
climb-stops R n k t (tok.Percent ∷ zs) h s = climb_more R n k t (tok.Percent ∷ zs) h ∙ rw (lt-ltb percent_level k s) refl
climb-stops R n k t (x ∷ zs) h s = absurd s

module _ (home : ℕ) (find : List ℕ → Option ℕ) where
  -- a spelling takes a token or more, and doesn't begin with a closing parenthesis
  leaf-shorter : {xs : List Token} {t : Term Corner} {zs : List Token} → Leaf home find xs t zs → length zs < length xs
  leaf-shorter (a_number e) = omega arith
  leaf-shorter a_text = omega arith
  leaf-shorter a_truth = omega arith
  leaf-shorter a_fault = omega arith
  leaf-shorter a_name = omega arith
  leaf-shorter a_corner = omega arith
  leaf-shorter a_range = omega arith
  leaf-shorter a_sheet_corner = omega arith
  leaf-shorter a_sheet_range = omega arith
  leaf-shorter (a_whole e f g) = omega arith
  leaf-shorter (a_sheet_whole e f g) = omega arith

  mutual
    pub shorter : {k : ℕ} {xs : List Token} {t : Term Corner} {zs : List Token} → Spells home find k xs t zs → length zs < length xs
    shorter (lower d) = shorter d
    shorter (between o d e) = omega (arith, shorter d, shorter e)
    shorter (followed d) = omega (arith, shorter d)
    shorter (before s d) = omega (arith, shorter d)
    shorter (leaf l) = leaf-shorter l
    shorter (inside d) = omega (arith, shorter d)
    shorter alone = omega arith
    shorter (called ds) = omega (arith, shorter_all ds)

    pub shorter_all : {xs : List Token} {ts : Terms Corner} {zs : List Token} → SpellsAll home find xs ts zs → length zs < length xs
    shorter_all (last d) = omega (arith, shorter d)
    shorter_all (more d ds) = omega (arith, shorter d, shorter_all ds)

  leaf-not_close : {xs : List Token} {t : Term Corner} {zs : List Token} → Leaf home find xs t zs → after tok.Close xs ≡ None
  leaf-not_close (a_number e) = refl
  leaf-not_close a_text = refl
  leaf-not_close a_truth = refl
  leaf-not_close a_fault = refl
  leaf-not_close a_name = refl
  leaf-not_close a_corner = refl
  leaf-not_close a_range = refl
  leaf-not_close a_sheet_corner = refl
  leaf-not_close a_sheet_range = refl
  leaf-not_close (a_whole {x = x} {y = y} {a = a} {zs = zs} e f g) = end-not_close x a (tok.Colon ∷ y ∷ zs) e
  leaf-not_close (a_sheet_whole e f g) = refl

  pub not_close : {k : ℕ} {xs : List Token} {t : Term Corner} {zs : List Token} → Spells home find k xs t zs → after tok.Close xs ≡ None
  not_close (lower d) = not_close d
  not_close (between o d e) = not_close d
  not_close (followed d) = not_close d
  not_close (before s d) = refl
  not_close (leaf l) = leaf-not_close l
  not_close (inside d) = refl
  not_close alone = refl
  not_close (called ds) = refl

  all-not_close : {xs : List Token} {ts : Terms Corner} {zs : List Token} → SpellsAll home find xs ts zs → after tok.Close xs ≡ None
  all-not_close (last d) = not_close d
  all-not_close (more d ds) = not_close d

  -- a leaf is read at once, and has no operator along its edge
  spine-cell_on : (s : Option ℕ) (a : Address) → spine (cell_on s a) ≡ 0
  spine-cell_on None a = refl
  spine-cell_on (Some s) a = refl

  spine-area_on : (s : Option ℕ) (a b : Address) → spine (area_on s a b) ≡ 0
  spine-area_on None a b = refl
  spine-area_on (Some s) a b = refl

  spine-by : (b : Bool) (t u : Term Corner) → spine t ≡ 0 → spine u ≡ 0 → spine (cond b t u) ≡ 0
  spine-by true t u e f = e
  spine-by false t u e f = f

  spine-whole_on : (s : Option ℕ) (a b : End) → spine (whole_on s a b) ≡ 0
  spine-whole_on None a b = refl
  spine-whole_on (Some s) a b = spine-by (nat_lt b.line a.line) _ _ refl refl

  leaf-spine : {xs : List Token} {t : Term Corner} {zs : List Token} → Leaf home find xs t zs → spine t ≡ 0
  leaf-spine (a_number e) = refl
  leaf-spine a_text = refl
  leaf-spine a_truth = refl
  leaf-spine a_fault = refl
  leaf-spine a_name = refl
  leaf-spine a_corner = refl
  leaf-spine a_range = refl
  leaf-spine (a_sheet_corner {s = s} {a = a}) = spine-cell_on (find s) a
  leaf-spine (a_sheet_range {s = s} {a = a} {b = b}) = spine-area_on (find s) a b
  leaf-spine (a_whole {a = a} {b = b} e f g) = spine-whole_on (Some home) a b
  leaf-spine (a_sheet_whole {s = s} {a = a} {b = b} e f g) = spine-whole_on (find s) a b

  leaf-first : {xs : List Token} {t : Term Corner} {zs : List Token} → Leaf home find xs t zs
      → (R : ℕ → List Token → Read) (k : ℕ) → Stops k zs → first home find R xs ≡ Some (t, zs)
  leaf-first (a_number {w = w} {zs = zs} e) R k s =
      ap (range_or (number_then (number_of w) zs) (Some home) (end_of ROWS (tok.Number w))) (after_colon-stops k zs s) ∙ ap (λ r. number_then r zs) e
  leaf-first a_text R k s = refl
  leaf-first a_truth R k s = refl
  leaf-first a_fault R k s = refl
  leaf-first (a_name {w = w} {zs = zs}) R k s = ap (range_or (Some (name w, zs)) (Some home) (end_of ROWS (tok.Name w))) (after_colon-stops k zs s)
  leaf-first (a_corner {a = a} {zs = zs}) R k s = rw (after_colon-stops k zs s) refl
  leaf-first a_range R k s = refl
  leaf-first (a_sheet_corner {s = w} {a = a} {zs = zs}) R k s = rw (after_colon-stops k zs s) refl
  leaf-first a_sheet_range R k s = refl
  leaf-first (a_whole {x = x} {y = y} {a = a} {b = b} {zs = zs} e f g) R k s =
      first-end home find R x a (y ∷ zs) e ∙ range-read (Some home) (end_of ROWS x) y a b zs e f g
  leaf-first (a_sheet_whole {s = w} {x = x} {y = y} {a = a} {b = b} {zs = zs} e f g) R k s =
      sheet-end (find w) x a (y ∷ zs) e ∙ range-read (find w) (Some a) y a b zs refl f g

  -- what a derivation gives at each fuel: the first tree of its left edge, and the climb up to t
  abbrev Climbs : ℕ → ℕ → List Token → Term Corner → List Token → Type 0
  Climbs i k xs t zs = (m c : ℕ) → c ≡ spine t + m → and_then (first home find (read home find i) xs) (climb (read home find i) c k) ≡ climb (read home find i) m k t zs

  read-climbs : (n k : ℕ) (xs : List Token) (t : Term Corner) (zs : List Token) → ((i : ℕ) → depth_of t ≤ suc i → Climbs i k xs t zs)
      → depth_of t ≤ n → Stops k zs → read home find n k xs ≡ Some (t, zs)
  read-climbs zero k xs t zs h d s = absurd (omega (arith, depth_of-positive t))
  read-climbs (suc i) k xs t zs h d s =
      let m : ℕ = suc i - spine t in
      let e : suc i ≡ spine t + m = omega (arith, spine-depth t) in
      let p : 0 < m = omega (arith, spine-depth t) in
      let r : suc i - 1 ≡ i = omega arith in
      read_more home find (suc i) k xs (omega arith)
      ∙ ap (λ j. and_then (first home find (read home find j) xs) (climb (read home find j) (suc i) k)) r
      ∙ h i d m (suc i) e
      ∙ climb-stops (read home find i) m k t zs p s

  climb-binary : (R : ℕ → List Token → Read) (o : Op) (l : Term Corner) (ys : List Token) (r : Term Corner) (zs : List Token) (j m : ℕ)
      → j ≤ level_of o → R (suc (level_of o)) ys ≡ Some (r, zs) → climb R (suc m) j l (tok.Operator o ∷ ys) ≡ climb R m j (binary o l r) zs
  climb-binary R o l ys r zs j m h e =
      let n : suc m - 1 ≡ m = omega arith in
      climb_more R (suc m) j l (tok.Operator o ∷ ys) (omega arith)
      ∙ rw (le-ltb (level_of o) j h, e) (ap (λ x. climb R x j (binary o l r) zs) n)

  climb-percent : (R : ℕ → List Token → Read) (t : Term Corner) (zs : List Token) (j m : ℕ)
      → j ≤ percent_level → climb R (suc m) j t (tok.Percent ∷ zs) ≡ climb R m j (percent t) zs
  climb-percent R t zs j m h =
      let n : suc m - 1 ≡ m = omega arith in
      climb_more R (suc m) j t (tok.Percent ∷ zs) (omega arith)
      ∙ rw (le-ltb percent_level j h) (ap (λ x. climb R x j (percent t) zs) n)

  first-signed : (R : ℕ → List Token → Read) (s : Sign) (xs : List Token) (t : Term Corner) (zs : List Token)
      → R sign_level xs ≡ Some (t, zs) → first home find R (tok.Operator (op_of s) ∷ xs) ≡ Some (prefix s t, zs)
  first-signed R s xs t zs e = rw (sign_of-op_of s, e) refl

  first-inside : (R : ℕ → List Token → Read) (xs : List Token) (t : Term Corner) (zs : List Token)
      → R 0 xs ≡ Some (t, tok.Close ∷ zs) → first home find R (tok.Open ∷ xs) ≡ Some (paren t, zs)
  first-inside R xs t zs e = rw e refl

  first-called : (R : ℕ → List Token → Read) (w : List ℕ) (xs : List Token) (ts : Terms Corner) (zs : List Token) → after tok.Close xs ≡ None
      → arguments R w (length xs) [] xs ≡ Some (call (capitals w) (terms_of (trees_in ts)), zs)
      → first home find R (tok.Word w ∷ tok.Open ∷ xs) ≡ Some (call (capitals w) ts, zs)
  first-called R w xs ts zs c e = rw (c, e, terms_of-trees_in ts) refl

  -- where the first tree is the whole one
  climbs-first : (i j : ℕ) (xs : List Token) (t : Term Corner) (zs : List Token)
      → first home find (read home find i) xs ≡ Some (t, zs) → spine t ≡ 0 → Climbs i j xs t zs
  climbs-first i j xs t zs e p m c h =
      let n : c ≡ m = omega arith in
      rw e (ap (λ x. climb (read home find i) x j t zs) n)

  arguments-last : (R : ℕ → List Token → Read) (w : List ℕ) (most : ℕ) (done : List (Term Corner)) (xs : List Token) (t : Term Corner) (zs : List Token)
      → 0 < most → R 0 xs ≡ Some (t, tok.Close ∷ zs) → arguments R w most done xs ≡ Some (call (capitals w) (terms_of (done ++ t ∷ [])), zs)
  arguments-last R w most done xs t zs p e = arguments_more R w most done xs p ∙ rw e refl

  arguments-next : (R : ℕ → List Token → Read) (w : List ℕ) (most : ℕ) (done : List (Term Corner)) (xs : List Token) (t : Term Corner) (ys : List Token)
      → 0 < most → R 0 xs ≡ Some (t, tok.Comma ∷ ys) → arguments R w most done xs ≡ arguments R w (most - 1) (done ++ t ∷ []) ys
  arguments-next R w most done xs t ys p e = arguments_more R w most done xs p ∙ rw e refl

  mutual
    complete : {k : ℕ} {xs : List Token} {t : Term Corner} {zs : List Token} → Spells home find k xs t zs
        → (i j : ℕ) → j ≤ k → depth_of t ≤ suc i → Stops (suc k) zs → Climbs i j xs t zs
    complete (lower {k = k} {zs = zs} d) i j h g s m c e = complete d i j (omega arith) g (Stops-higher (suc k) (suc (suc k)) zs (omega arith) s) m c e
    complete (between o {l = l} {ys = ys} {r = r} {zs = zs} d b) i j h g s m c e =
        complete d i j h (omega arith) (omega arith) (suc m) c (omega arith)
        ∙ climb-binary (read home find i) o l ys r zs j m h
        (read-climbs i (suc (level_of o)) ys r zs
        (λ n p. complete b n (suc (level_of o)) (omega arith) p (Stops-higher (suc (level_of o)) (suc (suc (level_of o))) zs (omega arith) s))
        (omega arith) s)
    complete (followed {t = t} {zs = zs} d) i j h g s m c e =
        complete d i j h (omega arith) (omega arith) (suc m) c (omega arith) ∙ climb-percent (read home find i) t zs j m h
    complete (before v {xs = xs} {t = t} {zs = zs} d) i j h g s m c e =
        climbs-first i j (tok.Operator (op_of v) ∷ xs) (prefix v t) zs
        (first-signed (read home find i) v xs t zs
        (read-climbs i sign_level xs t zs (λ n p. complete d n sign_level (omega arith) p s) (omega arith) (Stops-sign (suc sign_level) zs s)))
        refl m c e
    complete (leaf {xs = xs} {t = t} {zs = zs} l) i j h g s m c e =
        climbs-first i j xs t zs (leaf-first l (read home find i) 8 s) (leaf-spine l) m c e
    complete (inside {xs = xs} {t = t} {zs = zs} d) i j h g s m c e =
        climbs-first i j (tok.Open ∷ xs) (paren t) zs
        (first-inside (read home find i) xs t zs
        (read-climbs i 0 xs t (tok.Close ∷ zs) (λ n p. complete d n 0 (omega arith) p tt) (omega arith) tt))
        refl m c e
    complete (alone {w = w} {zs = zs}) i j h g s m c e =
        climbs-first i j (tok.Word w ∷ tok.Open ∷ tok.Close ∷ zs) (call (capitals w) no_terms) zs refl refl m c e
    complete (called {w = w} {xs = xs} {ts = ts} {zs = zs} ds) i j h g s m c e =
        climbs-first i j (tok.Word w ∷ tok.Open ∷ xs) (call (capitals w) ts) zs
        (first-called (read home find i) w xs ts zs (all-not_close ds) (complete_all ds i (omega arith) w (length xs) [] (omega arith)))
        refl m c e

    complete_all : {xs : List Token} {ts : Terms Corner} {zs : List Token} → SpellsAll home find xs ts zs
        → (i : ℕ) → depth_of_all ts ≤ i → (w : List ℕ) (most : ℕ) (done : List (Term Corner)) → length xs ≤ most
        → arguments (read home find i) w most done xs ≡ Some (call (capitals w) (terms_of (done ++ trees_in ts)), zs)
    complete_all (last {xs = xs} {t = t} {zs = zs} d) i g w most done h =
        arguments-last (read home find i) w most done xs t zs (omega (arith, shorter d))
        (read-climbs i 0 xs t (tok.Close ∷ zs) (λ n p. complete d n 0 (omega arith) p tt) (omega arith) tt)
    complete_all (more {xs = xs} {t = t} {ys = ys} {ts = ts} {zs = zs} d ds) i g w most done h =
        arguments-next (read home find i) w most done xs t ys (omega (arith, shorter d))
        (read-climbs i 0 xs t (tok.Comma ∷ ys) (λ n p. complete d n 0 (omega arith) p tt) (omega arith) tt)
        ∙ complete_all ds i (omega arith) w (most - 1) (done ++ t ∷ []) (omega (arith, shorter d))
        ∙ ap (λ us. Some (call (capitals w) (terms_of us), zs)) (append_assoc done (t ∷ []) (trees_in ts))

  -- what is spelt is read, by a reader of as many levels as the tree has
  pub read-spelt : {k : ℕ} {xs : List Token} {t : Term Corner} {zs : List Token} → Spells home find k xs t zs → (n : ℕ) → depth_of t ≤ n → Stops k zs
      → read home find n k xs ≡ Some (t, zs)
  read-spelt {k} {xs} {t} {zs} d n g s =
      read-climbs n k xs t zs (λ i p. complete d i k (omega arith) p (Stops-higher k (suc k) zs (omega arith) s)) g s
