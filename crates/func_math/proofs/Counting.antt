-- Counts over the filled cells of an area, and over arguments: for COUNTA, COUNTBLANK and COUNTIF.
use Rattle.std.proofs.Common.{◌≡◌, ◌∙◌, sym, ap, refl, ℕ, ◌+◌, ◌<◌, ◌≤◌, Bool, true, false, not, cond, List, [], ◌∷◌, length, map, take, get_or, eqb, add-zero, zero-add, arith}
use Rattle.std.specs.List.{count_by, flat_map}
use Rattle.std.proofs.lemmas.List.{take_more, map-append, flat_map_more, length-map, take_all}
use Rattle.std.proofs.lemmas.List.Sums.{sum_by-append, count_by-le-length}
use Rattle.cell_value.specs.declared.area.Filled.{Filled}
use Rattle.cell_value.specs.declared.argument.Arg.{Arg}
use Rattle.cell_value.specs.declared.scalar.Scalar.{Scalar}
use Rattle.cell_value.specs.declared.scalar.Scalar.TheVariants.{Empty}
use Rattle.cell_value.specs.Scalar.{is_empty}
use Rattle.cell_value.specs.Filled.{are_filled, spread}
use Rattle.cell_value.proofs.Spread.{next}
use Rattle.func_args.proofs.Walk.{value_of, of_filled, count_by-cons, count-filled, none_empty}
use Rattle.func_args.specs.Answers.{counted}
use Rattle.func_math.specs.Counts.{all_values, values_in, counta}

-- the cells that aren't filled are those that are empty
pub blanks-filled : (size : ℕ) (cells : List Filled) → are_filled 0 size cells ≡ true → count_by is_empty (spread 0 size cells) + length cells ≡ size
blanks-filled size cells h = omega (arith, count-filled is_empty refl 0 size cells h, none_empty 0 size cells h)

-- how many cells pass a test: those of the filled ones, and all empty ones where those pass
pub count-spread : (p : Scalar → Bool) (size : ℕ) (cells : List Filled) → are_filled 0 size cells ≡ true
    → count_by p (map value_of cells) + cond (p Empty) (count_by is_empty (spread 0 size cells)) 0 ≡ count_by p (spread 0 size cells)
count-spread p size cells h = go (p Empty) refl
  where
    go : (b : Bool) → p Empty ≡ b → count_by p (map value_of cells) + cond (p Empty) (count_by is_empty (spread 0 size cells)) 0 ≡ count_by p (spread 0 size cells)
    go true e =
        let b = blanks-filled size cells h in
        let c = count-filled p e 0 size cells h in
        rw e (omega arith)
    go false e =
        rw e (add-zero (count_by p (map value_of cells)) ∙ sym (of_filled (count_by p) (λ xs. count_by-cons p Empty xs ∙ ap (λ b. cond b 1 0 + count_by p xs) e ∙ zero-add (count_by p xs))
        (λ x xs ys f. count_by-cons p x xs ∙ ap (λ n. cond (p x) 1 0 + n) f ∙ sym (count_by-cons p x ys)) 0 size cells))

-- one filled cell more
pub count_more : (p : Scalar → Bool) (cells : List Filled) (i : ℕ) (d : Filled) → i < length cells
    → count_by p (map value_of (take (i + 1) cells)) ≡ count_by p (map value_of (take i cells)) + cond (p (get_or cells i d).value) 1 0
count_more p cells i d h =
    ap (λ xs. count_by p (map value_of xs)) (take_more cells i d h)
    ∙ ap (count_by p) (map-append value_of (take i cells) (get_or cells i d ∷ []))
    ∙ sum_by-append (λ x. cond (p x) 1 0) (map value_of (take i cells)) ((get_or cells i d).value ∷ [])
    ∙ ap (λ n. count_by p (map value_of (take i cells)) + n) (zero-add (cond (p (get_or cells i d).value) 1 0))

-- no more pass than there are
pub count_all : (p : Scalar → Bool) (cells : List Filled) → count_by p (map value_of cells) ≤ length cells
count_all p cells = omega (arith, count_by-le-length p (map value_of cells), length-map cells value_of)

-- each filled cell has a value
all_full : (from size : ℕ) (cells : List Filled) → are_filled from size cells ≡ true → count_by (λ x. not (is_empty x)) (map value_of cells) ≡ length cells
all_full from size [] h = refl
all_full from size (cell ∷ rest) h =
    let n = next from size cell rest h in
    let r = all_full (cell.index + 1) size rest n.rest in
    let e : count_by (λ x. not (is_empty x)) (map value_of (cell ∷ rest)) ≡ 1 + count_by (λ x. not (is_empty x)) (map value_of rest) = count_by-cons (λ x. not (is_empty x)) cell.value (map value_of rest) ∙ ap (λ b. cond (not b) 1 0 + count_by (λ x. not (is_empty x)) (map value_of rest)) n.filled in
    omega arith

pub full-filled : (from size : ℕ) (cells : List Filled) → are_filled from size cells ≡ true → count_by (λ x. not (is_empty x)) (spread from size cells) ≡ length cells
full-filled from size cells h =
    of_filled (count_by (λ x. not (is_empty x))) (λ xs. count_by-cons (λ x. not (is_empty x)) Empty xs ∙ zero-add (count_by (λ x. not (is_empty x)) xs))
    (λ x xs ys f. count_by-cons (λ x. not (is_empty x)) x xs ∙ ap (λ n. cond (not (is_empty x)) 1 0 + n) f ∙ sym (count_by-cons (λ x. not (is_empty x)) x ys)) from size cells
    ∙ all_full from size cells h

-- one argument more
pub values_more : (args : List Arg) (i : ℕ) (d : Arg) → i < length args
    → count_by (λ x. not (is_empty x)) (flat_map all_values (take (i + 1) args)) ≡ count_by (λ x. not (is_empty x)) (flat_map all_values (take i args)) + values_in (get_or args i d)
values_more args i d h =
    ap (λ xs. count_by (λ x. not (is_empty x)) (flat_map all_values xs)) (take_more args i d h)
    ∙ ap (count_by (λ x. not (is_empty x))) (sym (flat_map_more all_values [] (take i args) (get_or args i d)))
    ∙ sum_by-append (λ x. cond (not (is_empty x)) 1 0) (flat_map all_values (take i args)) (all_values (get_or args i d))

-- a list of at least one argument
pub counta-some : (args : List Arg) → eqb (length args) 0 ≡ false → counta args ≡ counted (count_by (λ x. not (is_empty x)) (flat_map all_values args))
counta-some [] h = cc
counta-some (a ∷ args) h = refl

-- at the end of a walk over the filled cells: all empty ones count, where they pass
pub counted_passing : (p : Scalar → Bool) (size n b i : ℕ) (cells : List Filled) (values : List Scalar) → are_filled 0 size cells ≡ true → values ≡ spread 0 size cells
    → n ≡ count_by p (map value_of (take i cells)) → length cells ≤ i → p Empty ≡ true → b ≡ count_by is_empty values → n + b ≡ count_by p values
counted_passing p size n b i cells values h v e l t f =
    let all = take_all i cells l in
    let e' : n ≡ count_by p (map value_of cells) = e ∙ ap (λ xs. count_by p (map value_of xs)) all in
    let f' : b ≡ count_by is_empty (spread 0 size cells) = f ∙ ap (count_by is_empty) v in
    let s : count_by p (map value_of cells) + count_by is_empty (spread 0 size cells) ≡ count_by p (spread 0 size cells) =
    sym (ap (λ c. count_by p (map value_of cells) + cond c (count_by is_empty (spread 0 size cells)) 0) t) ∙ count-spread p size cells h in
    let v' = ap (count_by p) v in
    omega arith

pub counted_failing : (p : Scalar → Bool) (size n i : ℕ) (cells : List Filled) (values : List Scalar) → are_filled 0 size cells ≡ true → values ≡ spread 0 size cells
    → n ≡ count_by p (map value_of (take i cells)) → length cells ≤ i → p Empty ≡ false → n ≡ count_by p values
counted_failing p size n i cells values h v e l t =
    let all = take_all i cells l in
    let e' : n ≡ count_by p (map value_of cells) = e ∙ ap (λ xs. count_by p (map value_of xs)) all in
    let s : count_by p (map value_of cells) + 0 ≡ count_by p (spread 0 size cells) =
    sym (ap (λ c. count_by p (map value_of cells) + cond c (count_by is_empty (spread 0 size cells)) 0) t) ∙ count-spread p size cells h in
    let v' = ap (count_by p) v in
    omega arith
