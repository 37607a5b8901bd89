-- Numbers as whole numbers of millionths, and their arithmetic. Source: this project's own.
use Rattle.std.specs.Prelude.{ℕ, suc, zero, ◌+◌, ◌-◌, ◌*◌, ◌/◌, ◌%◌, ◌^◌, ◌<◌, ◌==◌, Bool, true, false, ◌&&◌, nat_lt, nat_le, if◌then◌else◌, ℤ, pos, negsuc, neg_ℤ, ◌*ℤ◌, unsigned_abs, Result, Ok, Err}
use Rattle.fix_num.specs.declared.error.NumError.{NumError}
use Rattle.fix_num.specs.declared.error.NumError.TheVariants.{Range, ZeroDivisor}
use Rattle.fix_num.specs.declared.number.TheConstants.{LIMIT, ONE}

-- the absolute value is below 10^18 millionths
abbrev pub IsInside : ℤ → Type 0
IsInside m = unsigned_abs m < LIMIT

-- the number where it is inside, or Range
abbrev pub within : ℤ → Result ℤ NumError
within m = if nat_lt (unsigned_abs m) LIMIT then Ok m else Err Range

-- the number is less than 0
abbrev pub is_negative : ℤ → Bool
is_negative (pos n) = false
is_negative (negsuc n) = true

-- the number of this absolute value, with a minus sign or without
abbrev pub signed : Bool → ℕ → ℤ
signed false n = pos n
signed true n = neg_ℤ (pos n)

-- the whole number nearest to p / q, of two as near the greater
abbrev pub near : ℕ → ℕ → ℕ
near p q = (2 * p + q) / (2 * q)

-- the whole number nearest to p / q, of two as near the one further from 0
abbrev pub nearest : ℤ → ℤ → ℤ
nearest p q = signed (is_negative (p *ℤ q)) (near (unsigned_abs p) (unsigned_abs q))

-- the product of two numbers, rounded to a millionth
abbrev pub product : ℤ → ℤ → Result ℤ NumError
product a b = within (nearest (a *ℤ b) (pos ONE))

-- the quotient of two numbers, rounded to a millionth
abbrev pub quotient : ℤ → ℤ → Result ℤ NumError
quotient a b = if unsigned_abs b == 0 then Err ZeroDivisor else within (nearest (a *ℤ pos ONE) b)

-- the first answer's number goes on to the second; an error stays
abbrev pub and_then : Result ℤ NumError → (ℤ → Result ℤ NumError) → Result ℤ NumError
and_then (Ok m) next = next m
and_then (Err e) next = Err e

-- p multiplied by a as often as this, each product rounded
unfoldable pub multiplied : ℤ → ℤ → ℕ → Result ℤ NumError
multiplied p a zero = Ok p
multiplied p a (suc k) = and_then (product p a) (λ q. multiplied q a k)

-- the number is whole, and its absolute value is at most 1,000
abbrev pub is_exponent : ℤ → Bool
is_exponent n = unsigned_abs n % ONE == 0 && nat_le (unsigned_abs n) 1000000000

-- 1 multiplied by a as often as n says; for a negative n 1 divided by the power of -n
abbrev pub power_of : ℤ → ℤ → Result ℤ NumError
power_of a n =
    if is_exponent n
    then (if is_negative n
    then and_then (multiplied (pos ONE) a (unsigned_abs n / ONE)) (λ p. quotient (pos ONE) p)
    else multiplied (pos ONE) a (unsigned_abs n / ONE))
    else Err Range

-- 10^(-places) in millionths, and one millionth from the sixth place on
abbrev pub unit : ℤ → ℕ
unit (pos places) = 10 ^ (6 - places)
unit (negsuc p) = 10 ^ (7 + p)

-- the multiple of 10^(-places) nearest to the number, of two as near the one further from 0
abbrev pub rounded_to : ℤ → ℤ → ℤ
rounded_to m places = signed (is_negative m) (near (unsigned_abs m) (unit places) * unit places)

-- the greatest whole number that is not above
abbrev pub floor_of : ℤ → ℤ
floor_of (pos n) = pos (n / ONE * ONE)
floor_of (negsuc n) = neg_ℤ (pos ((n / ONE + 1) * ONE))

-- the number without its decimals
abbrev pub trunc_of : ℤ → ℤ
trunc_of m = signed (is_negative m) (unsigned_abs m / ONE * ONE)
