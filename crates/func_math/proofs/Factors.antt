-- Products factor after factor, and at once: for PRODUCT.
use Rattle.std.proofs.Common.{◌≡◌, ◌∙◌, sym, ap, refl, ℕ, ◌+◌, ◌<◌, ℤ, pos, false, List, [], ◌∷◌, ◌++◌, Option, Some, None, Result, Ok, Err, length, map, drop, get_or, unwrap_or, eqb}
use Rattle.std.specs.List.{flat_map}
use Rattle.std.proofs.lemmas.List.{drop_more}
use Rattle.fix_num.specs.declared.number.TheConstants.{ONE}
use Rattle.cell_value.specs.declared.area.Filled.{Filled}
use Rattle.cell_value.specs.declared.argument.Arg.{Arg}
use Rattle.cell_value.specs.declared.fault.FaultKind.{FaultKind}
use Rattle.cell_value.specs.declared.scalar.Scalar.{Scalar}
use Rattle.cell_value.specs.declared.scalar.Scalar.TheVariants.{Empty, Number, Text, Truth, Fault}
use Rattle.cell_value.specs.Filled.{spread}
use Rattle.func_args.proofs.Walk.{value_of, of_filled}
use Rattle.func_args.specs.Answers.{and_then}
use Rattle.func_args.specs.Lists.{listed}
use Rattle.func_math.specs.Products.{numbers_in, multiplied_by, product_of, product_value}
use Rattle.func_math.specs.internal.Factors.{multiplied, with_factor, with_factors}

-- a product so far
abbrev pub Product : Type 0
Product = Option (Result ℤ FaultKind)

-- further values after others
pub with_factors-append : (xs ys : List Scalar) (p : Product) → with_factors p (xs ++ ys) ≡ and_then (with_factors p xs) (λ q. with_factors q ys)
with_factors-append [] ys p = refl
with_factors-append (Number n ∷ xs) ys p = with_factors-append xs ys (with_factor p n)
with_factors-append (Fault k ∷ xs) ys p = refl
with_factors-append (Empty ∷ xs) ys p = with_factors-append xs ys p
with_factors-append (Text t ∷ xs) ys p = with_factors-append xs ys p
with_factors-append (Truth b ∷ xs) ys p = with_factors-append xs ys p

-- what further values make of each product
run : List Scalar → Product → Result Product FaultKind
run xs p = with_factors p xs

-- empty cells are no factors
skips : (xs : List Scalar) → run (Empty ∷ xs) ≡ run xs
unfolding run
skips xs = refl

follows : (x : Scalar) (xs ys : List Scalar) → run xs ≡ run ys → run (x ∷ xs) ≡ run (x ∷ ys)
unfolding run
follows (Number n) xs ys e = λ i p. e i (with_factor p n)
follows (Fault k) xs ys e = refl
follows Empty xs ys e = e
follows (Text t) xs ys e = e
follows (Truth b) xs ys e = e

pub with_factors-filled : (from size : ℕ) (cells : List Filled) (p : Product) → with_factors p (spread from size cells) ≡ with_factors p (map value_of cells)
unfolding run
with_factors-filled from size cells p = λ i. of_filled run skips follows from size cells i p

-- the product with further numbers
abbrev grown : Product → List ℤ → Product
grown p [] = p
grown p (n ∷ ns) = grown (with_factor p n) ns

one_more : (p : Product) (n : ℤ) (r : Result (List ℤ) FaultKind) → and_then r (λ ns. let q : Result Product FaultKind = Ok (grown (with_factor p n) ns) in q) ≡ and_then (and_then r (λ ns. let q : Result (List ℤ) FaultKind = Ok (n ∷ ns) in q)) (λ ns. Ok (grown p ns))
one_more p n (Ok ns) = refl
one_more p n (Err k) = refl

with_factors-numbers : (xs : List Scalar) (p : Product) → with_factors p xs ≡ and_then (numbers_in xs) (λ ns. Ok (grown p ns))
with_factors-numbers [] p = refl
with_factors-numbers (Number n ∷ xs) p = with_factors-numbers xs (with_factor p n) ∙ one_more p n (numbers_in xs)
with_factors-numbers (Fault k ∷ xs) p = refl
with_factors-numbers (Empty ∷ xs) p = with_factors-numbers xs p
with_factors-numbers (Text t ∷ xs) p = with_factors-numbers xs p
with_factors-numbers (Truth b ∷ xs) p = with_factors-numbers xs p

grown-Some : (p : Result ℤ FaultKind) (ns : List ℤ) → grown (Some p) ns ≡ Some (multiplied_by p ns)
grown-Some p [] = refl
grown-Some p (n ∷ ns) = grown-Some (multiplied p n) ns

-- the product of them all, of none 0
finished : (ns : List ℤ) → unwrap_or (grown None ns) (Ok (pos 0)) ≡ product_of ns
finished [] = refl
finished (n ∷ ns) = ap (λ p. unwrap_or p (Ok (pos 0))) (grown-Some (multiplied (Ok (pos ONE)) n) ns)

finished_all : (r : Result (List ℤ) FaultKind) → and_then (and_then r (λ ns. let q : Result Product FaultKind = Ok (grown None ns) in q)) (λ p. unwrap_or p (Ok (pos 0))) ≡ and_then r product_of
finished_all (Ok ns) = finished ns
finished_all (Err k) = refl

-- the product of a list of at least one argument
pub product_value-some : (args : List Arg) → eqb (length args) 0 ≡ false → product_value args ≡ and_then (with_factors None (flat_map listed args)) (λ p. unwrap_or p (Ok (pos 0)))
product_value-some [] h = cc
product_value-some (a ∷ args) h =
    let xs = flat_map listed (a ∷ args) in
    sym (ap (λ r. and_then r (λ p. unwrap_or p (Ok (pos 0)))) (with_factors-numbers xs None) ∙ finished_all (numbers_in xs))

-- one argument more, of which this is what it makes of the product so far
pub factors_more : (args : List Arg) (i : ℕ) (item : Arg) (p : Product) (r : Result Product FaultKind) → i < length args → item ≡ get_or args i item → r ≡ with_factors p (listed item)
    → with_factors p (flat_map listed (drop i args)) ≡ and_then r (λ q. with_factors q (flat_map listed (drop (i + 1) args)))
factors_more args i item p r h is e =
    ap (λ xs. with_factors p (flat_map listed xs)) (drop_more args i item h)
    ∙ with_factors-append (listed (get_or args i item)) (flat_map listed (drop (i + 1) args)) p
    ∙ ap (λ x. and_then (with_factors p (listed x)) (λ q. with_factors q (flat_map listed (drop (i + 1) args)))) (sym is)
    ∙ ap (λ x. and_then x (λ q. with_factors q (flat_map listed (drop (i + 1) args)))) (sym e)
