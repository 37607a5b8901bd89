-- What rounding and the texts of numbers promise, in words of their own.
use Rattle.std.specs.Prelude.{◌≡◌, ◌≢◌, ℕ, ◌+◌, ◌-◌, ◌*◌, ◌%◌, ◌<◌, ◌≤◌, ◌⊎◌, true, List, ◌∷◌, ◌++◌, length, slice_index, ℤ, pos, negsuc, ◌+ℤ◌, ◌≤ℤ◌, ◌<ℤ◌, unsigned_abs, Ok}
use Rattle.std.specs.List.{list_all}
use Rattle.digits.specs.Digits.{is_digit}
use Rattle.fix_num.specs.Number.{IsInside, near, rounded_to, floor_of}
use Rattle.fix_num.specs.Text.{number_of, text_of}
use Rattle.fix_num.specs.declared.number.TheConstants.{ONE}

-- how far two numbers are apart
abbrev pub distance : ℕ → ℕ → ℕ
distance a b = (a - b) + (b - a)

-- no whole number k is nearer to p / q than near p q, and none that is as near is greater
abbrev pub NearIsNearest : Type 0
NearIsNearest = (p q k : ℕ) → 0 < q → (distance p (near p q * q) ≤ distance p (k * q)) × (distance p (k * q) ≡ distance p (near p q * q) → k ≤ near p q)

-- six places or more change nothing, and a number rounded below -12 places is 0
abbrev pub RoundsAtEnds : Type 0
RoundsAtEnds = (m places : ℤ) → IsInside m → (pos 6 ≤ℤ places → rounded_to m places ≡ m) × (places <ℤ negsuc 11 → rounded_to m places ≡ pos 0)

-- the floor is whole, not above the number, and less than one below it
abbrev pub FloorIsGreatest : Type 0
FloorIsGreatest = (m : ℤ) → (unsigned_abs (floor_of m) % ONE ≡ 0) × (floor_of m ≤ℤ m) × (m <ℤ (floor_of m +ℤ pos ONE))

-- the text of a number is read back as that number
abbrev pub TextReadsBack : Type 0
TextReadsBack = (m : ℤ) → IsInside m → number_of (text_of m) ≡ Ok m

-- digits, and no 0 in front of others
abbrev pub IsWholePart : List ℕ → Type 0
IsWholePart ds = (list_all is_digit ds ≡ true) × (0 < length ds) × (slice_index ds 0 ≡ 48 → length ds ≡ 1)

-- digits, and no 0 at the end
abbrev pub AreDecimals : List ℕ → Type 0
AreDecimals ds = (list_all is_digit ds ≡ true) × (0 < length ds) × (slice_index ds (length ds - 1) ≢ 48)

-- a whole part, or a whole part with a point and decimals
abbrev pub HasPlainForm : List ℕ → Type 0
HasPlainForm cs = (whole : List ℕ) × IsWholePart whole × ((cs ≡ whole) ⊎ ((decimals : List ℕ) × (cs ≡ whole ++ 46 ∷ decimals) × AreDecimals decimals))

-- a number that isn't negative has a text in plain form, and a negative one a minus sign before that of its absolute value
abbrev pub TextIsPlain : Type 0
TextIsPlain = (n : ℕ) → IsInside (pos n) → HasPlainForm (text_of (pos n)) × (0 < n → text_of (negsuc (n - 1)) ≡ 45 ∷ text_of (pos n))
