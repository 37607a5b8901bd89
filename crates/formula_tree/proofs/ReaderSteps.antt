-- The reader's recursions, one step at a time. Serves the laws of the reader, and the parser.
use Rattle.std.proofs.Common.{◌≡◌, ap, refl, arith, ℕ, zero, suc, ◌-◌, ◌<◌, List, Option, None}
use Rattle.formula_tree.specs.declared.reference.Corner.{Corner}
use Rattle.formula_tree.specs.Token.{Token}
use Rattle.formula_tree.specs.Term.{Term}
use Rattle.formula_tree.specs.Reader.{Read, and_then, first, climb, climb_step, arguments, arguments_step, read}

pub read_none : (home : ℕ) (find : List ℕ → Option ℕ) (k : ℕ) (tokens : List Token) → read home find 0 k tokens ≡ None
unfolding read
read_none home find k tokens = refl

pub read_more : (home : ℕ) (find : List ℕ → Option ℕ) (n k : ℕ) (tokens : List Token) → 0 < n
    → read home find n k tokens ≡ and_then (first home find (read home find (n - 1)) tokens) (climb (read home find (n - 1)) n k)
unfolding read
read_more home find zero k tokens h = absurd (omega arith)
read_more home find (suc n) k tokens h =
    let e : n ≡ suc n - 1 = omega arith in
    ap (λ i. and_then (first home find (read home find i) tokens) (climb (read home find i) (suc n) k)) e

pub climb_none : (R : ℕ → List Token → Read) (k : ℕ) (left : Term Corner) (tokens : List Token) → climb R 0 k left tokens ≡ None
unfolding climb
climb_none R k left tokens = refl

pub climb_more : (R : ℕ → List Token → Read) (n k : ℕ) (left : Term Corner) (tokens : List Token) → 0 < n
    → climb R n k left tokens ≡ climb_step R (climb R (n - 1) k) k left tokens
unfolding climb
climb_more R zero k left tokens h = absurd (omega arith)
climb_more R (suc n) k left tokens h =
    let e : n ≡ suc n - 1 = omega arith in
    ap (λ i. climb_step R (climb R i k) k left tokens) e

pub arguments_none : (R : ℕ → List Token → Read) (w : List ℕ) (done : List (Term Corner)) (tokens : List Token) → arguments R w 0 done tokens ≡ None
unfolding arguments
arguments_none R w done tokens = refl

pub arguments_more : (R : ℕ → List Token → Read) (w : List ℕ) (n : ℕ) (done : List (Term Corner)) (tokens : List Token) → 0 < n
    → arguments R w n done tokens ≡ arguments_step R (arguments R w (n - 1)) w done tokens
unfolding arguments
arguments_more R w zero done tokens h = absurd (omega arith)
arguments_more R w (suc n) done tokens h =
    let e : n ≡ suc n - 1 = omega arith in
    ap (λ i. arguments_step R (arguments R w i) w done tokens) e
