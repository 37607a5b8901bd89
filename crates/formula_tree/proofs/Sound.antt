-- What the reader reads, the tokens spell. Serves the law that the reader is exact.
use Rattle.std.proofs.Common.{◌≡◌, sym, ◌∙◌, ap, refl, arith, subst, ℕ, ℤ, zero, suc, ◌+◌, ◌-◌, ◌<◌, ◌≤◌, Bool, true, false, cond, nat_lt, if◌then◌else◌, List, [], ◌∷◌, ◌++◌, length, Option, Some, None, Result, Ok, Err, append_assoc}
use Rattle.std.specs.Option.{option_and_then, option_map}
use Rattle.cell_addr.specs.declared.place.TheConstants.{ROWS}
use Rattle.cell_addr.specs.Axis.{same_axis}
use Rattle.cell_addr.proofs.SamePlaces.{same_axis-equal}
use Rattle.cell_addr.specs.Text.{capitals}
use Rattle.fix_num.specs.declared.error.NumError.{NumError}
use Rattle.fix_num.specs.Text.{number_of}
use Rattle.formula_tree.specs.declared.reference.Corner.{Corner}
use Rattle.formula_tree.specs.declared.operator.Op.{Op}
use Rattle.formula_tree.specs.declared.operator.Op.TheVariants as op
use Rattle.formula_tree.specs.declared.operator.Sign.{Sign}
use Rattle.formula_tree.specs.declared.operator.Sign.TheVariants as sign
use Rattle.formula_tree.specs.declared.address.Address.{Address}
use Rattle.formula_tree.specs.declared.address.End.{End}
use Rattle.formula_tree.specs.Token.{Token}
use Rattle.formula_tree.specs.Token as tok
use Rattle.formula_tree.specs.Term.{Term, name, prefix, percent, binary, call, Terms, no_terms, term, terms_of}
use Rattle.formula_tree.specs.Level.{level_of, percent_level, sign_level, op_of, sign_of}
use Rattle.formula_tree.specs.Grammar.{Leaf, a_number, a_text, a_truth, a_fault, a_name, a_corner, a_range, a_sheet_corner, a_sheet_range, a_whole, a_sheet_whole, Spells, lower, between, followed, before, leaf, inside, alone, called, SpellsAll, last, more, end_of, whole_on}
use Rattle.formula_tree.specs.Reader.{Read, and_then, after, number_then, reference, end_then, whole_range, range_or, sheet_range, on_sheet, signed, closed, first, climb, arguments, argument_then, call_then, call_front, read}
use Rattle.formula_tree.proofs.Complete.{trees_in, terms_of-trees_in, level_of-below}
use borrow.Author.Tests.{ltb-true}
use Rattle.std.proofs.lemmas.Bool.{ltb-false}

-- no operator of level k or higher stands in front
abbrev pub Halts : ℕ → List Token → Type 0
Halts k (tok.Operator o ∷ zs) = level_of o < k
Halts k (tok.Percent ∷ zs) = percent_level < k
Halts k zs = Unit {0}

-- each operator may follow `%`, a sign's operand or an atom
Halts-high : (k : ℕ) (zs : List Token) → percent_level < k → Halts k zs
Halts-high k [] h = tt
Halts-high k (tok.Operator o ∷ zs) h = omega (arith, level_of-below o)
Halts-high k (tok.Percent ∷ zs) h = h
Halts-high k (x ∷ zs) h = tt

-- the sign that an operator is written like
signed_as : (o : Op) (s : Sign) → sign_of o ≡ Some s → op_of s ≡ o
signed_as op.Add sign.Plus e = refl
signed_as op.Add sign.Minus e = cc
signed_as op.Sub sign.Plus e = cc
signed_as op.Sub sign.Minus e = refl
signed_as op.Mul s e = cc
signed_as op.Div s e = cc
signed_as op.Power s e = cc
signed_as op.Join s e = cc
signed_as op.Equal s e = cc
signed_as op.Unequal s e = cc
signed_as op.Less s e = cc
signed_as op.Greater s e = cc
signed_as op.AtMost s e = cc
signed_as op.AtLeast s e = cc

module _ (home : ℕ) (find : List ℕ → Option ℕ) where
  lower-by : (d k j : ℕ) {xs : List Token} {t : Term Corner} {zs : List Token} → j ≡ d + k → Spells home find j xs t zs → Spells home find k xs t zs
  lower-by zero k j {xs} {t} {zs} e s = let f : j ≡ k = omega arith in subst (λ n. Spells home find n xs t zs) f s
  lower-by (suc d) k j e s = lower (lower-by d (suc k) j (omega arith) s)

  -- what is spelt at a level is spelt at each one below
  pub lower-to : (k j : ℕ) {xs : List Token} {t : Term Corner} {zs : List Token} → k ≤ j → Spells home find j xs t zs → Spells home find k xs t zs
  lower-to k j h s = lower-by (j - k) k j (omega arith) s

  -- what was read is spelt at level k, and the reader went on as far as that level goes
  abbrev Reads : ℕ → List Token → Read → Type 0
  Reads k xs None = Unit {0}
  Reads k xs (Some r) = Spells home find k xs r.0 r.1 × Halts k r.1

  -- what was read is spelt at level k
  abbrev Spelt : ℕ → List Token → Read → Type 0
  Spelt k xs None = Unit {0}
  Spelt k xs (Some r) = Spells home find k xs r.0 r.1

  abbrev IsGood : (ℕ → List Token → Read) → Type 0
  IsGood R = (k : ℕ) → k ≤ sign_level → (xs : List Token) → Reads k xs (R k xs)

  -- an operator's right operand
  read-right : (k : ℕ) (xs : List Token) (o : Op) (l : Term Corner) (ys : List Token) (next : Term Corner → List Token → Read) (r : Read)
      → Spells home find (level_of o) xs l (tok.Operator o ∷ ys) → Reads (suc (level_of o)) ys r
      → ((t : Term Corner) (zs : List Token) → Spells home find (level_of o) xs t zs → Halts (suc (level_of o)) zs → Reads k xs (next t zs))
      → Reads k xs (and_then r (λ right zs. next (binary o l right) zs))
  read-right k xs o l ys next None d g h = tt
  read-right k xs o l ys next (Some r) d g h = h (binary o l r.0) r.1 (between o d g.0) g.1

  climb-good : (R : ℕ → List Token → Read) → IsGood R → (n k j : ℕ) (xs : List Token) (left : Term Corner) (zs : List Token) → k ≤ j
      → Spells home find j xs left zs → Halts (suc j) zs → Reads k xs (climb R n k left zs)
  unfolding climb
  climb-good R g zero k j xs left zs h d s = tt
  climb-good R g (suc n) k j xs left [] h d s = (lower-to k j h d, tt)
  climb-good R g (suc n) k j xs left (tok.Operator o ∷ zs) h d s =
      elim (nat_lt (level_of o) k) as (λ b. nat_lt (level_of o) k ≡ b
      → Reads k xs (if b then Some (left, tok.Operator o ∷ zs) else and_then (R (suc (level_of o)) zs) (λ right rest. climb R n k (binary o left right) rest))) [
        | true ↦ λ e. (lower-to k j h d, ltb-true (level_of o) k e)
        | false ↦ λ e.
            let below : k ≤ level_of o = ltb-false (level_of o) k e in
            read-right k xs o left zs (climb R n k) (R (suc (level_of o)) zs) (lower-to (level_of o) j (omega arith) d) (g (suc (level_of o)) (omega (arith, level_of-below o)) zs)
            (λ t rest p q. climb-good R g n k (level_of o) xs t rest below p q)
      ] refl
  climb-good R g (suc n) k j xs left (tok.Percent ∷ zs) h d s =
      elim (nat_lt percent_level k) as (λ b. nat_lt percent_level k ≡ b
      → Reads k xs (if b then Some (left, tok.Percent ∷ zs) else climb R n k (percent left) zs)) [
        | true ↦ λ e. (lower-to k j h d, ltb-true percent_level k e)
        | false ↦ λ e. climb-good R g n k percent_level xs (percent left) zs (ltb-false percent_level k e)
            (followed (lower-to percent_level j (omega arith) d)) (Halts-high (suc percent_level) zs (omega arith))
      ] refl
  climb-good R g (suc n) k j xs left (x ∷ zs) h d s = (lower-to k j h d, tt)

  -- the kinds of atoms
  atom : {xs : List Token} {t : Term Corner} {zs : List Token} → Leaf home find xs t zs → Spells home find sign_level xs t zs
  atom l = lower (leaf l)

  spelt-number : (w : List ℕ) (zs : List Token) (r : Result ℤ NumError) → number_of w ≡ r → Spelt sign_level (tok.Number w ∷ zs) (number_then r zs)
  spelt-number w zs (Ok m) e = atom (a_number e)
  spelt-number w zs (Err f) e = tt

  -- a whole range, behind what stands in front of its first end
  abbrev IsRange : (List Token → List Token) → Option ℕ → Type 0
  IsRange front sheet = (x y : Token) (a b : End) (zs : List Token) → end_of ROWS x ≡ Some a → end_of ROWS y ≡ Some b → a.axis ≡ b.axis
      → Leaf home find (front (x ∷ tok.Colon ∷ y ∷ zs)) (whole_on sheet a b) zs

  module _ (front : List Token → List Token) (sheet : Option ℕ) (make : IsRange front sheet) where
    spelt-axes : (x y : Token) (a b : End) (zs : List Token) (same : Bool) → end_of ROWS x ≡ Some a → end_of ROWS y ≡ Some b → same_axis a.axis b.axis ≡ same
        → Spelt sign_level (front (x ∷ tok.Colon ∷ y ∷ zs)) (cond same (Some (whole_on sheet a b, zs)) None)
    spelt-axes x y a b zs true e f g = atom (make x y a b zs e f (same_axis-equal a.axis b.axis g))
    spelt-axes x y a b zs false e f g = tt

    spelt-second : (x y : Token) (a : End) (zs : List Token) (r : Option End) → end_of ROWS x ≡ Some a → end_of ROWS y ≡ r
        → Spelt sign_level (front (x ∷ tok.Colon ∷ y ∷ zs)) (option_and_then (end_then sheet a) (option_map (λ b. (b, zs)) r))
    spelt-second x y a zs None e f = tt
    spelt-second x y a zs (Some b) e f = spelt-axes x y a b zs (same_axis a.axis b.axis) e f refl

    spelt-range : (x : Token) (zs : List Token) (r : Option End) → end_of ROWS x ≡ r → Spelt sign_level (front (x ∷ tok.Colon ∷ zs)) (whole_range sheet r zs)
    spelt-range x zs None e = tt
    spelt-range x [] (Some a) e = tt
    spelt-range x (y ∷ zs) (Some a) e = spelt-second x y a zs (end_of ROWS y) e refl

    -- where a colon follows, and else another tree
    spelt-or : (x : Token) (other : Read) (zs : List Token) (r : Option End) → end_of ROWS x ≡ r → Spelt sign_level (front (x ∷ zs)) other
        → Spelt sign_level (front (x ∷ zs)) (range_or other sheet r (after tok.Colon zs))
    spelt-or x other [] r e d = d
    spelt-or x other (tok.Colon ∷ zs) r e d = spelt-range x zs r e
    spelt-or x other (y ∷ zs) r e d = d

  own-range : IsRange (λ tokens. tokens) (Some home)
  own-range x y a b zs e f g = a_whole e f g

  sheet-range : (s : List ℕ) → IsRange (λ tokens. tok.Sheet s ∷ tokens) (find s)
  sheet-range s x y a b zs e f g = a_sheet_whole e f g

  spelt-own : (x : Token) (other : Read) (zs : List Token) → Spelt sign_level (x ∷ zs) other
      → Spelt sign_level (x ∷ zs) (range_or other (Some home) (end_of ROWS x) (after tok.Colon zs))
  spelt-own x other zs d = spelt-or (λ tokens. tokens) (Some home) own-range x other zs (end_of ROWS x) refl d

  spelt-reference : (a : Address) (zs : List Token) → Spelt sign_level (tok.Corner a ∷ zs) (reference (Some home) (a, zs))
  spelt-reference a [] = atom a_corner
  spelt-reference a (tok.Colon ∷ []) = tt
  spelt-reference a (tok.Colon ∷ tok.Corner b ∷ zs) = atom a_range
  spelt-reference a (tok.Colon ∷ x ∷ zs) = tt
  spelt-reference a (x ∷ zs) = atom a_corner

  spelt-on_sheet : (s : List ℕ) (a : Address) (zs : List Token) → Spelt sign_level (tok.Sheet s ∷ tok.Corner a ∷ zs) (reference (find s) (a, zs))
  spelt-on_sheet s a [] = atom a_sheet_corner
  spelt-on_sheet s a (tok.Colon ∷ []) = tt
  spelt-on_sheet s a (tok.Colon ∷ tok.Corner b ∷ zs) = atom a_sheet_range
  spelt-on_sheet s a (tok.Colon ∷ x ∷ zs) = tt
  spelt-on_sheet s a (x ∷ zs) = atom a_sheet_corner

  spelt-behind : (s : List ℕ) (x : Token) (zs : List Token) (r : Option End) → end_of ROWS x ≡ r
      → Spelt sign_level (tok.Sheet s ∷ x ∷ zs) (sheet_range (find s) (option_map (λ a. (a, zs)) r))
  spelt-behind s x zs None e = tt
  spelt-behind s x zs (Some a) e = spelt-or (λ tokens. tok.Sheet s ∷ tokens) (find s) (sheet-range s) x None zs (Some a) e tt

  spelt-sheet : (s : List ℕ) (zs : List Token) → Spelt sign_level (tok.Sheet s ∷ zs) (on_sheet (find s) zs)
  spelt-sheet s [] = tt
  spelt-sheet s (tok.Corner a ∷ zs) = spelt-on_sheet s a zs
  spelt-sheet s (x ∷ zs) = spelt-behind s x zs (end_of ROWS x) refl

  spelt-prefix : (s : Sign) (zs : List Token) (r : Read) → Reads sign_level zs r
      → Spelt sign_level (tok.Operator (op_of s) ∷ zs) (and_then r (λ t rest. Some (prefix s t, rest)))
  spelt-prefix s zs None g = tt
  spelt-prefix s zs (Some r) g = before s g.0

  spelt-signed : (R : ℕ → List Token → Read) → IsGood R → (o : Op) (s : Option Sign) (zs : List Token) → sign_of o ≡ s
      → Spelt sign_level (tok.Operator o ∷ zs) (signed R s zs)
  spelt-signed R g o None zs e = tt
  spelt-signed R g o (Some s) zs e =
      subst (λ p. Spelt sign_level (tok.Operator p ∷ zs) (signed R (Some s) zs)) (signed_as o s e)
      (spelt-prefix s zs (R sign_level zs) (g sign_level (omega arith) zs))

  spelt-closed : (xs : List Token) (t : Term Corner) (zs : List Token) → Spells home find 0 xs t zs → Spelt sign_level (tok.Open ∷ xs) (closed t zs)
  spelt-closed xs t [] d = tt
  spelt-closed xs t (tok.Close ∷ zs) d = lower (inside d)
  spelt-closed xs t (x ∷ zs) d = tt

  spelt-inside : (xs : List Token) (r : Read) → Reads 0 xs r → Spelt sign_level (tok.Open ∷ xs) (and_then r closed)
  spelt-inside xs None g = tt
  spelt-inside xs (Some r) g = spelt-closed xs r.0 r.1 g.0

  -- what was read as arguments after those done: a call of those and of more
  abbrev ReadsArguments : List ℕ → List (Term Corner) → List Token → Read → Type 0
  ReadsArguments w done xs None = Unit {0}
  ReadsArguments w done xs (Some r) = (ts : Terms Corner) × ((r.0 ≡ call (capitals w) (terms_of (done ++ trees_in ts))) × SpellsAll home find xs ts r.1)

  one-more : (w : List ℕ) (done : List (Term Corner)) (xs : List Token) (t : Term Corner) (zs : List Token) (r : Read) → Spells home find 0 xs t (tok.Comma ∷ zs)
      → ReadsArguments w (done ++ t ∷ []) zs r → ReadsArguments w done xs r
  one-more w done xs t zs None d g = tt
  one-more w done xs t zs (Some r) d (ts, (e, ds)) =
      (term t ts, (e ∙ ap (λ us. call (capitals w) (terms_of us)) (append_assoc done (t ∷ []) (trees_in ts)), more d ds))

  argument-good : (w : List ℕ) (next : List (Term Corner) → List Token → Read)
      → ((done : List (Term Corner)) (xs : List Token) → ReadsArguments w done xs (next done xs))
      → (done : List (Term Corner)) (xs : List Token) (t : Term Corner) (zs : List Token) → Spells home find 0 xs t zs
      → ReadsArguments w done xs (argument_then next w (done ++ t ∷ []) (after tok.Comma zs) (after tok.Close zs))
  argument-good w next g done xs t [] d = tt
  argument-good w next g done xs t (tok.Comma ∷ zs) d = one-more w done xs t zs (next (done ++ t ∷ []) zs) d (g (done ++ t ∷ []) zs)
  argument-good w next g done xs t (tok.Close ∷ zs) d = (term t no_terms, (refl, last d))
  argument-good w next g done xs t (x ∷ zs) d = tt

  after-argument : (w : List ℕ) (next : List (Term Corner) → List Token → Read)
      → ((done : List (Term Corner)) (xs : List Token) → ReadsArguments w done xs (next done xs))
      → (done : List (Term Corner)) (xs : List Token) (r : Read) → Reads 0 xs r
      → ReadsArguments w done xs (and_then r (λ t rest. argument_then next w (done ++ t ∷ []) (after tok.Comma rest) (after tok.Close rest)))
  after-argument w next g done xs None s = tt
  after-argument w next g done xs (Some r) s = argument-good w next g done xs r.0 r.1 s.0

  arguments-good : (R : ℕ → List Token → Read) → IsGood R → (w : List ℕ) (most : ℕ) (done : List (Term Corner)) (xs : List Token)
      → ReadsArguments w done xs (arguments R w most done xs)
  unfolding arguments
  arguments-good R g w zero done xs = tt
  arguments-good R g w (suc most) done xs =
      after-argument w (arguments R w most) (λ us ys. arguments-good R g w most us ys) done xs (R 0 xs) (g 0 (omega arith) xs)

  call-good : (w : List ℕ) (xs : List Token) (r : Read) → ReadsArguments w [] xs r → Spelt sign_level (tok.Word w ∷ tok.Open ∷ xs) r
  call-good w xs None g = tt
  call-good w xs (Some r) (ts, (e, ds)) =
      let f : call (capitals w) ts ≡ r.0 = ap (λ us. call (capitals w) us) (sym (terms_of-trees_in ts)) ∙ sym e in
      subst (λ t. Spells home find sign_level (tok.Word w ∷ tok.Open ∷ xs) t r.1) f (lower (called ds))

  spelt-call_then : (R : ℕ → List Token → Read) → IsGood R → (w : List ℕ) (xs : List Token)
      → Spelt sign_level (tok.Word w ∷ tok.Open ∷ xs) (call_then R w xs (after tok.Close xs))
  spelt-call_then R g w [] = call-good w [] (arguments R w 0 [] []) (arguments-good R g w 0 [] [])
  spelt-call_then R g w (tok.Close ∷ zs) = lower alone
  spelt-call_then R g w (x ∷ zs) = call-good w (x ∷ zs) (arguments R w (length (x ∷ zs)) [] (x ∷ zs)) (arguments-good R g w (length (x ∷ zs)) [] (x ∷ zs))

  spelt-call : (R : ℕ → List Token → Read) → IsGood R → (w : List ℕ) (xs : List Token) → Spelt sign_level (tok.Word w ∷ xs) (call_front R w xs)
  spelt-call R g w [] = tt
  spelt-call R g w (tok.Open ∷ xs) = spelt-call_then R g w xs
  spelt-call R g w (x ∷ xs) = tt

  first-good : (R : ℕ → List Token → Read) → IsGood R → (xs : List Token) → Spelt sign_level xs (first home find R xs)
  first-good R g [] = tt
  first-good R g (tok.Number w ∷ zs) = spelt-own (tok.Number w) (number_then (number_of w) zs) zs (spelt-number w zs (number_of w) refl)
  first-good R g (tok.Text w ∷ zs) = atom a_text
  first-good R g (tok.Truth b ∷ zs) = atom a_truth
  first-good R g (tok.Fault f ∷ zs) = atom a_fault
  first-good R g (tok.Sheet s ∷ zs) = spelt-sheet s zs
  first-good R g (tok.Corner a ∷ zs) = spelt-reference a zs
  first-good R g (tok.Name w ∷ zs) = spelt-own (tok.Name w) (Some (name w, zs)) zs (atom a_name)
  first-good R g (tok.Other w ∷ zs) = spelt-own (tok.Other w) None zs tt
  first-good R g (tok.Word w ∷ zs) = spelt-call R g w zs
  first-good R g (tok.Operator o ∷ zs) = spelt-signed R g o (sign_of o) zs refl
  first-good R g (tok.Open ∷ zs) = spelt-inside zs (R 0 zs) (g 0 (omega arith) zs)
  first-good R g (x ∷ zs) = tt

  read-from : (k : ℕ) (xs : List Token) (next : Term Corner → List Token → Read) (r : Read) → Spelt sign_level xs r
      → ((t : Term Corner) (zs : List Token) → Spells home find sign_level xs t zs → Reads k xs (next t zs)) → Reads k xs (and_then r next)
  read-from k xs next None d h = tt
  read-from k xs next (Some r) d h = h r.0 r.1 d

  -- each reader is good
  pub read-good : (n : ℕ) → IsGood (read home find n)
  unfolding read
  read-good zero k h xs = tt
  read-good (suc n) k h xs =
      read-from k xs (climb (read home find n) (suc n) k) (first home find (read home find n) xs) (first-good (read home find n) (read-good n) xs)
      (λ t zs d. climb-good (read home find n) (read-good n) (suc n) k sign_level xs t zs h d (Halts-high (suc sign_level) zs (omega arith)))

  spelt-of : (k : ℕ) (xs : List Token) (r : Read) (t : Term Corner) (zs : List Token) → Reads k xs r → r ≡ Some (t, zs) → Spells home find k xs t zs
  spelt-of k xs r t zs g e = let h : Reads k xs (Some (t, zs)) = subst (Reads k xs) e g in h.0

  -- what is read is spelt
  pub spelt-read : (n k : ℕ) (xs : List Token) (t : Term Corner) (zs : List Token) → k ≤ sign_level → read home find n k xs ≡ Some (t, zs) → Spells home find k xs t zs
  spelt-read n k xs t zs h e = spelt-of k xs (read home find n k xs) t zs (read-good n k h xs) e
