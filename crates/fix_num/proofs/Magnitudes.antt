-- What decimals round to, and a whole part with decimals. Serves `from_text`.
use Rattle.std.proofs.Common.{◌≡◌, ◌∙◌, sym, ap, arith, refl, ℕ, zero, suc, ◌+◌, ◌-◌, ◌*◌, ◌/◌, ◌%◌, ◌^◌, ◌<◌, ◌≤◌, min, Bool, true, false, List, length, take, drop, unsigned_abs, Err, inl, inr}
use Rattle.std.specs.List.{list_all}
use Rattle.std.proofs.Math.Nat.{one-le-pow, mul-le-mul_left, pow-le-pow_right}
use Rattle.std.proofs.lemmas.Nat.{div-mul-add, div-add-mod', mod_below, pow-add}
use Rattle.std.proofs.lemmas.List.{take_all, take-append-drop, length-drop, length-take}
use Rattle.std.proofs.lemmas.List.Folds.{list_all-append}
use Rattle.std.proofs.lemmas.Bool.{cases_lt, and_parts, le-ltb}
use Rattle.digits.specs.Digits.{value, is_digit}
use Rattle.digits.proofs.Numerals.{value-append, value_below}
use Rattle.fix_num.specs.declared.error.NumError.TheVariants.{Range}
use Rattle.fix_num.specs.Number.{near, within, signed}
use Rattle.fix_num.specs.Text.{magnitude, whole, decimals, has_minus, after_sign, are_parts, is_unsigned, number_of}

-- few decimals: all of them count
near_few : (k v : ℕ) → k ≤ 7 → (v * 10 ^ (7 - k) + 5) / 10 ≡ near (1000000 * v) (10 ^ k)
near_few zero v h = omega arith
near_few (suc zero) v h = omega arith
near_few (suc (suc zero)) v h = omega arith
near_few (suc (suc (suc zero))) v h = omega arith
near_few (suc (suc (suc (suc zero)))) v h = omega arith
near_few (suc (suc (suc (suc (suc zero))))) v h = omega arith
near_few (suc (suc (suc (suc (suc (suc zero)))))) v h = omega arith
near_few (suc (suc (suc (suc (suc (suc (suc zero))))))) v h = omega arith
near_few (suc (suc (suc (suc (suc (suc (suc (suc k)))))))) v h = absurd (omega arith)

-- many decimals: what stands after the seventh doesn't count
near_many : (m v r : ℕ) → 0 < m → r < m → (v + 5) / 10 ≡ near (1000000 * (v * m + r)) (10000000 * m)
near_many m v r p h =
    let q = (v + 5) / 10 in
    let s = (v + 5) % 10 in
    let e : v + 5 ≡ 10 * q + s = omega arith in
    let b : m * s ≤ m * 9 = mul-le-mul_left m (omega arith) in
    let em : (v + 5) * m ≡ (10 * q + s) * m = ap (λ n. n * m) e in
    let n : 2 * (1000000 * (v * m + r)) + 10000000 * m ≡ q * (2 * (10000000 * m)) + 2000000 * (m * s + r) = omega arith in
    sym (ap (λ n. n / (2 * (10000000 * m))) n ∙ div-mul-add q (2 * (10000000 * m)) (2000000 * (m * s + r)) (omega arith))

list_all_parts : (cs : List ℕ) (n : ℕ) → list_all is_digit cs ≡ true → (list_all is_digit (take n cs) ≡ true) × (list_all is_digit (drop n cs) ≡ true)
list_all_parts cs n h = and_parts _ _ (sym (list_all-append is_digit (take n cs) (drop n cs)) ∙ ap (list_all is_digit) (take-append-drop n cs) ∙ h)

rounded_many : (cs : List ℕ) → list_all is_digit cs ≡ true → 7 ≤ length cs → (value (take 7 cs) + 5) / 10 ≡ near (1000000 * value cs) (10 ^ length cs)
rounded_many cs h k =
    let after = drop 7 cs in
    let n : length after + 7 ≡ length cs = omega (arith, length-drop 7 cs) in
    let p : 10 ^ length cs ≡ 10000000 * 10 ^ length after = sym (ap (λ x. 10 ^ x) n) ∙ pow-add 10 (length after) 7 ∙ omega arith in
    let v : value cs ≡ value (take 7 cs) * 10 ^ length after + value after = sym (ap value (take-append-drop 7 cs)) ∙ value-append (take 7 cs) after in
    near_many (10 ^ length after) (value (take 7 cs)) (value after) (one-le-pow (length after) 10 (omega arith)) (value_below after ((list_all_parts cs 7 h).1))
    ∙ ap (λ x. near (1000000 * x) (10000000 * 10 ^ length after)) (sym v)
    ∙ ap (λ x. near (1000000 * value cs) x) (sym p)

min_of_less : (v m : ℕ) → v < m → min v m ≡ v
min_of_less v m h = omega arith

value_of_few : (cs : List ℕ) → list_all is_digit cs ≡ true → length cs ≤ 7 → value cs < 10000000
value_of_few cs h k =
    let p : 10 ^ length cs ≤ 10 ^ 7 = pow-le-pow_right {n = 10} (omega arith) {i = length cs} {j = 7} k in
    omega (arith, value_below cs h, p)

small_few : (k v : ℕ) → k ≤ 7 → v < 10 ^ k → (v * 10 ^ (7 - k) + 5) / 10 ≤ 1000000
small_few zero v h b = omega arith
small_few (suc zero) v h b = omega arith
small_few (suc (suc zero)) v h b = omega arith
small_few (suc (suc (suc zero))) v h b = omega arith
small_few (suc (suc (suc (suc zero)))) v h b = omega arith
small_few (suc (suc (suc (suc (suc zero))))) v h b = omega arith
small_few (suc (suc (suc (suc (suc (suc zero)))))) v h b = omega arith
small_few (suc (suc (suc (suc (suc (suc (suc zero))))))) v h b = omega arith
small_few (suc (suc (suc (suc (suc (suc (suc (suc k)))))))) v h b = absurd (omega arith)

rounded_of_few : (cs : List ℕ) → list_all is_digit cs ≡ true → length cs ≤ 7
    → (min (value (take (min (length cs) 7) cs)) 10000000 * 10 ^ (7 - min (length cs) 7) + 5) / 10 ≡ near (1000000 * value cs) (10 ^ length cs)
rounded_of_few cs h few =
    let m : min (length cs) 7 ≡ length cs = omega arith in
    rw (m, take_all (length cs) cs (omega arith), min_of_less (value cs) 10000000 (value_of_few cs h few)) (near_few (length cs) (value cs) few)

one_of_power : (v : ℕ) → v * 10 ^ (7 - 7) + 5 ≡ v + 5
one_of_power v = omega arith

rounded_of_many : (cs : List ℕ) → list_all is_digit cs ≡ true → 7 < length cs
    → (min (value (take (min (length cs) 7) cs)) 10000000 * 10 ^ (7 - min (length cs) 7) + 5) / 10 ≡ near (1000000 * value cs) (10 ^ length cs)
rounded_of_many cs h more =
    let m : min (length cs) 7 ≡ 7 = omega arith in
    let n : length (take 7 cs) ≤ 7 = omega (arith, length-take 7 cs) in
    let enough : 7 ≤ length cs = omega arith in
    rw (m, min_of_less (value (take 7 cs)) 10000000 (value_of_few (take 7 cs) ((list_all_parts cs 7 h).0) n), one_of_power (value (take 7 cs))) (rounded_many cs h enough)

-- the first seven decimals, or as many as there are, decide the rounding
rounded_by_seven : (cs : List ℕ) → list_all is_digit cs ≡ true
    → (min (value (take (min (length cs) 7) cs)) 10000000 * 10 ^ (7 - min (length cs) 7) + 5) / 10 ≡ near (1000000 * value cs) (10 ^ length cs)
rounded_by_seven cs h = elim (cases_lt 7 (length cs)) [
  | inl more ↦ rounded_of_many cs h more
  | inr few ↦ rounded_of_few cs h few
]

length_kept : (cs : List ℕ) → length (take (min (length cs) 7) cs) ≡ min (length cs) 7
length_kept cs = length-take (min (length cs) 7) cs ∙ omega arith

kept_small : (ks : List ℕ) → list_all is_digit ks ≡ true → length ks ≤ 7 → (min (value ks) 10000000 * 10 ^ (7 - length ks) + 5) / 10 ≤ 1000000
kept_small ks h few = rw (min_of_less (value ks) 10000000 (value_of_few ks h few)) (small_few (length ks) (value ks) few (value_below ks h))

-- what `rounded` computes is the rounded number
pub rounded_is : (cs : List ℕ) (m v t : ℕ) → list_all is_digit cs ≡ true → m ≡ min (length cs) 7 → v ≡ min (value (take m cs)) 10000000 → t ≡ 10 ^ (7 - length (take m cs))
    → (v * t + 5) / 10 ≡ near (1000000 * value cs) (10 ^ length cs)
rounded_is cs m v t h e f g = rw (g, f, e, length_kept cs) (rounded_by_seven cs h)

-- and at most one
pub rounded_small : (cs : List ℕ) (m v t : ℕ) → list_all is_digit cs ≡ true → m ≡ min (length cs) 7 → v ≡ min (value (take m cs)) 10000000 → t ≡ 10 ^ (7 - length (take m cs))
    → (v * t + 5) / 10 ≤ 1000000
rounded_small cs m v t h e f g =
    let few : length (take m cs) ≤ 7 = omega (arith, length-take m cs) in
    rw (g, f) (kept_small (take m cs) ((list_all_parts cs m h).0) few)

-- ---- a whole part with decimals
sum_with_whole : (w p q x r : ℕ) → 2 * p + q ≡ x * (2 * q) + r → 2 * (w * q + p) + q ≡ (w + x) * (2 * q) + r
sum_with_whole w p q x r e = omega (arith, e)

-- a whole number and a part are rounded by the part
pub near_with_whole : (w p q : ℕ) → 0 < q → near (w * q + p) q ≡ w + near p q
near_with_whole w p q h =
    let twice : 0 < 2 * q = omega arith in
    let parts : 2 * p + q ≡ near p q * (2 * q) + (2 * p + q) % (2 * q) = sym (div-add-mod' (2 * p + q) (2 * q)) in
    ap (λ n. n / (2 * q)) (sum_with_whole w p q (near p q) ((2 * p + q) % (2 * q)) parts)
    ∙ div-mul-add (w + near p q) (2 * q) ((2 * p + q) % (2 * q)) (mod_below (2 * p + q) (2 * q) twice)

millions : (v t d : ℕ) → 1000000 * (v * t + d) ≡ 1000000 * v * t + 1000000 * d
millions v t d = omega arith

pub magnitude_of_parts : (cs : List ℕ) → magnitude cs ≡ 1000000 * value (whole cs) + near (1000000 * value (decimals cs)) (10 ^ length (decimals cs))
magnitude_of_parts cs =
    let v = value (whole cs) in
    let d = value (decimals cs) in
    let t = 10 ^ length (decimals cs) in
    ap (λ n. near (1000000 * n) t) (value-append (whole cs) (decimals cs))
    ∙ ap (λ n. near n t) (millions v t d)
    ∙ near_with_whole (1000000 * v) (1000000 * d) t (one-le-pow (length (decimals cs)) 10 (omega arith))

pub unsigned_abs-signed : (b : Bool) (n : ℕ) → unsigned_abs (signed b n) ≡ n
unsigned_abs-signed false n = refl
unsigned_abs-signed true zero = refl
unsigned_abs-signed true (suc n) = refl

within_far : (b : Bool) (n : ℕ) → 1000000000000000000 ≤ n → within (signed b n) ≡ Err Range
within_far b n h = rw (unsigned_abs-signed b n, le-ltb n 1000000000000000000 h) refl

-- a whole part of 10^12 or more is as good as 10^12
within_capped : (b : Bool) (v r : ℕ) → within (signed b (min v 1000000000000 * 1000000 + r)) ≡ within (signed b (1000000 * v + r))
within_capped b v r = elim (cases_lt v 1000000000000) [
  | inl less ↦ ap (λ n. within (signed b n)) (omega arith)
  | inr more ↦ within_far b (min v 1000000000000 * 1000000 + r) (omega arith) ∙ sym (within_far b (1000000 * v + r) (omega arith))
]

-- what `from_bytes` computes of a text in the form of a number is the number that it spells
pub number_of_parts : (text cs ws ds : List ℕ) (b : Bool) (w r : ℕ) → b ≡ has_minus text → cs ≡ after_sign text → ws ≡ whole cs → ds ≡ decimals cs → are_parts ws ds ≡ true
    → w ≡ min (value ws) 1000000000000 → r ≡ near (1000000 * value ds) (10 ^ length ds) → within (signed b (w * 1000000 + r)) ≡ number_of text
number_of_parts text cs ws ds b w r eb ec ew ed parts ev er =
    let number : is_unsigned (after_sign text) ≡ true = ap is_unsigned (sym ec) ∙ sym (ap (λ x. are_parts x (decimals cs)) ew) ∙ sym (ap (are_parts ws) ed) ∙ parts in
    rw number (rw (er, ev, ed, ew, ec, eb) (within_capped (has_minus text) (value (whole (after_sign text))) (near (1000000 * value (decimals (after_sign text))) (10 ^ length (decimals (after_sign text))))
    ∙ ap (λ n. within (signed (has_minus text) n)) (sym (magnitude_of_parts (after_sign text)))))
