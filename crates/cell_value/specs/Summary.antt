-- What the numbers of many values come to. Source: this project's own.
use Rattle.std.specs.Prelude.{◌≡◌, ◌+◌, ◌*◌, ◌≤◌, ℤ, pos, ◌+ℤ◌, unsigned_abs, List, [], ◌∷◌, ◌++◌, Option, Some, None}
use Rattle.std.specs.Option.{option_or}
use Rattle.std.specs.Int.{int_min, int_max}
use Rattle.fix_num.specs.declared.number.TheConstants.{LIMIT}
use Rattle.cell_value.specs.declared.scalar.Scalar.{Scalar}
use Rattle.cell_value.specs.declared.scalar.Scalar.TheVariants.{Number, Fault}
use Rattle.cell_value.specs.declared.summary.Summary.{Summary}

-- the lesser of two numbers, of which either may be missing
abbrev pub lesser : Option ℤ → Option ℤ → Option ℤ
lesser (Some a) (Some b) = Some (int_min a b)
lesser (Some a) None = Some a
lesser None b = b

-- the greater of two numbers, of which either may be missing
abbrev pub greater : Option ℤ → Option ℤ → Option ℤ
greater (Some a) (Some b) = Some (int_max a b)
greater (Some a) None = Some a
greater None b = b

-- of no values
abbrev pub no_values : Summary
no_values = record { count = 0; sum = pos 0; least = None; greatest = None; fault = None }

-- of one value: numbers and faults count, and nothing else does
abbrev pub alone : Scalar → Summary
alone (Number n) = record { count = 1; sum = n; least = Some n; greatest = Some n; fault = None }
alone (Fault fault) = record { count = 0; sum = pos 0; least = None; greatest = None; fault = Some fault }
alone _ = no_values

-- of the values of both; the first one's fault comes first
abbrev pub joined : Summary → Summary → Summary
joined s t = record {
  count = s.count + t.count;
  sum = s.sum +ℤ t.sum;
  least = lesser s.least t.least;
  greatest = greater s.greatest t.greatest;
  fault = option_or s.fault t.fault;
}

-- of a list of values, as of a block's cells row by row
unfoldable pub summary_of : List Scalar → Summary
summary_of [] = no_values
summary_of (x ∷ xs) = joined (alone x) (summary_of xs)

-- the summary of two lists after each other is that of both
abbrev pub SummariesJoin : Type 0
SummariesJoin = (xs ys : List Scalar) → summary_of (xs ++ ys) ≡ joined (summary_of xs) (summary_of ys)

-- the sum is no further from 0 than so many of the greatest numbers
abbrev pub IsBounded : Summary → Type 0
IsBounded s = unsigned_abs s.sum ≤ s.count * LIMIT
