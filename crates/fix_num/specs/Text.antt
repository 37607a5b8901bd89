-- The texts of numbers, as they are read and as they are printed. Source: this project's own.
use Rattle.std.specs.Prelude.{ℕ, suc, zero, ◌+◌, ◌*◌, ◌/◌, ◌%◌, ◌^◌, ◌==◌, Bool, false, ◌&&◌, ◌||◌, not, if◌then◌else◌, List, [], ◌∷◌, ◌++◌, length, ℤ, unsigned_abs, Result, Err}
use Rattle.std.specs.List.{list_all, before_first, after_first}
use Rattle.std.specs.Fmt.{decimal}
use Rattle.digits.specs.Digits.{is_digit, value}
use Rattle.fix_num.specs.declared.error.NumError.{NumError}
use Rattle.fix_num.specs.declared.error.NumError.TheVariants.{NotANumber}
use Rattle.fix_num.specs.Number.{within, is_negative, signed, near}
use Rattle.fix_num.specs.declared.number.TheConstants.{ONE}

-- the byte is a point
abbrev pub is_point : ℕ → Bool
is_point c = c == 46

-- what stands before the first point
abbrev pub whole : List ℕ → List ℕ
whole cs = before_first is_point cs

-- what stands after the first point
abbrev pub decimals : List ℕ → List ℕ
decimals cs = after_first is_point cs

-- the text begins with a minus sign
abbrev pub has_minus : List ℕ → Bool
has_minus [] = false
has_minus (c ∷ cs) = c == 45

-- the text after its plus or minus sign, if it has one
abbrev pub after_sign : List ℕ → List ℕ
after_sign [] = []
after_sign (c ∷ cs) = if (c == 45) || (c == 43) then cs else c ∷ cs

-- these bytes before a point and after it make a number: digits alone, and one at least
abbrev pub are_parts : List ℕ → List ℕ → Bool
are_parts ws ds = list_all is_digit ws && list_all is_digit ds && not (length ws == 0 && length ds == 0)

-- digits, digits and a point, digits and a point and digits, or a point and digits
abbrev pub is_unsigned : List ℕ → Bool
is_unsigned cs = are_parts (whole cs) (decimals cs)

-- all the digits over ten to the number of decimals, rounded to a millionth
abbrev pub magnitude : List ℕ → ℕ
magnitude cs = near (ONE * value (whole cs ++ decimals cs)) (10 ^ length (decimals cs))

-- the number that the text spells, NotANumber where it has another form, and Range where the number is outside
abbrev pub number_of : List ℕ → Result ℤ NumError
number_of text =
    if is_unsigned (after_sign text)
    then within (signed (has_minus text) (magnitude (after_sign text)))
    else Err NotANumber

-- the digits of rest / 10^places after a point, without zeros at the end
unfoldable pub decimals_of : ℕ → ℕ → List ℕ
decimals_of zero rest = []
decimals_of (suc places) rest = if rest == 0 then [] else (48 + rest / 10 ^ places) ∷ decimals_of places (rest % 10 ^ places)

-- a point and the decimals of so many millionths, or nothing where there are none
abbrev pub fraction_of : ℕ → List ℕ
fraction_of rest = if rest == 0 then [] else 46 ∷ decimals_of 6 rest

-- the whole part of so many millionths, and their decimals
abbrev pub unsigned_text : ℕ → List ℕ
unsigned_text n = decimal (n / ONE) ++ fraction_of (n % ONE)

-- the text of a number: a minus sign where it is negative, and the text of its absolute value
abbrev pub text_of : ℤ → List ℕ
text_of m = if is_negative m then 45 ∷ unsigned_text (unsigned_abs m) else unsigned_text (unsigned_abs m)
