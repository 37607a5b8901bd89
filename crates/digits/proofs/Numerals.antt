-- The number that digits spell: what a part of them, a further digit, and how many they are say of it.
-- Serves the bounded reading of digits, and the crates above that read numbers.
use Rattle.std.proofs.Common.{◌≡◌, ◌∙◌, ap, arith, refl, ℕ, suc, ◌+◌, ◌-◌, ◌*◌, ◌^◌, ◌<◌, ◌≤◌, min, true, List, [], ◌∷◌, ◌++◌, length, take, get_or}
use Rattle.std.specs.List.{list_all}
use Rattle.std.proofs.Math.Nat.{add-mul, mul_assoc, pow-suc, mul-le-mul_right}
use Rattle.std.proofs.lemmas.List.{take_more}
use Rattle.std.proofs.lemmas.Bool.{ltb-true, and_parts}
use Rattle.digits.specs.Digits.{value_from, value, is_digit}

split_by_one : (n d p q v w x : ℕ) → q ≡ p * 10 → w ≡ (10 * n + d) * p + v → x ≡ (10 * 0 + d) * p + v → w ≡ n * q + x
split_by_one n d p q v w x e a b = omega (arith, add-mul (10 * n) d p, mul_assoc 10 n p, ap (λ z. n * z) e, mul_assoc n p 10)

-- what stands before digits is moved by as many places as there are digits
pub value_from-split : (n : ℕ) (cs : List ℕ) → value_from n cs ≡ n * 10 ^ length cs + value cs
value_from-split n [] = omega arith
value_from-split n (c ∷ cs) =
    let a = value_from-split (10 * n + (c - 48)) cs in
    let b = value_from-split (10 * 0 + (c - 48)) cs in
    split_by_one n (c - 48) (10 ^ length cs) (10 ^ suc (length cs)) (value cs) _ _ (pow-suc 10 (length cs)) a b

pub value_from-append : (n : ℕ) (xs ys : List ℕ) → value_from n (xs ++ ys) ≡ value_from (value_from n xs) ys
value_from-append n [] ys = refl
value_from-append n (x ∷ xs) ys = value_from-append (10 * n + (x - 48)) xs ys

-- two runs of digits, one after the other
pub value-append : (xs ys : List ℕ) → value (xs ++ ys) ≡ value xs * 10 ^ length ys + value ys
value-append xs ys = value_from-append 0 xs ys ∙ value_from-split (value xs) ys

-- a further digit at the end
pub value_push : (cs : List ℕ) (c : ℕ) → value (cs ++ c ∷ []) ≡ 10 * value cs + (c - 48)
value_push cs c = value_from-append 0 cs (c ∷ [])

pub value_more : (cs : List ℕ) (i : ℕ) → i < length cs → value (take (i + 1) cs) ≡ 10 * value (take i cs) + (get_or cs i 0 - 48)
value_more cs i h = rw (take_more cs i 0 h, value_push) refl

-- a bounded reading goes on with the bound
min_step : (v m d : ℕ) → min (10 * min v m + d) m ≡ min (10 * v + d) m
min_step v m d = grind arith

pub value_at_most_more : (cs : List ℕ) (i m t : ℕ) → i < length cs → t ≡ min (value (take i cs)) m → min (10 * t + (get_or cs i 0 - 48)) m ≡ min (value (take (i + 1) cs)) m
value_at_most_more cs i m t h e = rw (e, value_more cs i h) (min_step (value (take i cs)) m (get_or cs i 0 - 48))

pub is_digit-bounds : (c : ℕ) → is_digit c ≡ true → (47 < c) × (c < 58)
is_digit-bounds c h = let p = and_parts _ _ h in (ltb-true 47 c p.0, ltb-true c 58 p.1)

below_step : (c : ℕ) (cs : List ℕ) → c - 48 ≤ 9 → value cs < 10 ^ length cs → value (c ∷ cs) < 10 ^ length (c ∷ cs)
below_step c cs d h =
    let e = value_from-split (10 * 0 + (c - 48)) cs in
    let p = pow-suc 10 (length cs) in
    let m : (10 * 0 + (c - 48)) * 10 ^ length cs ≤ 9 * 10 ^ length cs = mul-le-mul_right (10 ^ length cs) (omega arith) in
    omega (arith, e, p, m)

-- k digits spell less than 10 ^ k
pub value_below : (cs : List ℕ) → list_all is_digit cs ≡ true → value cs < 10 ^ length cs
value_below [] h = omega arith
value_below (c ∷ cs) h =
    let p = and_parts (is_digit c) (list_all is_digit cs) h in
    let b = is_digit-bounds c p.0 in
    below_step c cs (omega arith) (value_below cs p.1)
