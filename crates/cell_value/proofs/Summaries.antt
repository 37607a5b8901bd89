-- The summary of two lists of values after each other is that of both.
use Rattle.std.proofs.Common.{◌≡◌, ◌∙◌, sym, ap, refl, ℤ, List, [], ◌∷◌, ◌++◌, Option, Some, None, arith, add_assoc, zero-add}
use Rattle.std.proofs.Math.IntN.{+ℤ_assoc, +ℤ_idl}
use Rattle.std.proofs.lemmas.Int.{ints, int_min_is, int_max_is}
use Rattle.std.specs.Option.{option_or}
use Rattle.std.specs.Int.{int_min, int_max}
use Rattle.cell_value.specs.declared.scalar.Scalar.{Scalar}
use Rattle.cell_value.specs.declared.fault.FaultKind.{FaultKind}
use Rattle.cell_value.specs.declared.summary.Summary.{Summary}
use Rattle.cell_value.specs.Summary.{summary_of, joined, alone, no_values, lesser, greater}

int_min_assoc : (a b c : ℤ) → int_min a (int_min b c) ≡ int_min (int_min a b) c
int_min_assoc a b c = omega (arith, ints, int_min_is a b, int_min_is b c, int_min_is a (int_min b c), int_min_is (int_min a b) c)

int_max_assoc : (a b c : ℤ) → int_max a (int_max b c) ≡ int_max (int_max a b) c
int_max_assoc a b c = omega (arith, ints, int_max_is a b, int_max_is b c, int_max_is a (int_max b c), int_max_is (int_max a b) c)

lesser_assoc : (a b c : Option ℤ) → lesser a (lesser b c) ≡ lesser (lesser a b) c
lesser_assoc None b c = refl
lesser_assoc (Some a) None c = refl
lesser_assoc (Some a) (Some b) None = refl
lesser_assoc (Some a) (Some b) (Some c) = ap Some (int_min_assoc a b c)

greater_assoc : (a b c : Option ℤ) → greater a (greater b c) ≡ greater (greater a b) c
greater_assoc None b c = refl
greater_assoc (Some a) None c = refl
greater_assoc (Some a) (Some b) None = refl
greater_assoc (Some a) (Some b) (Some c) = ap Some (int_max_assoc a b c)

option_or_assoc : (a b c : Option FaultKind) → option_or a (option_or b c) ≡ option_or (option_or a b) c
option_or_assoc None b c = refl
option_or_assoc (Some a) b c = refl

joined_assoc : (s t u : Summary) → joined s (joined t u) ≡ joined (joined s t) u
joined_assoc s t u = λ i. record {
  count = sym (add_assoc s.count t.count u.count) i;
  sum = sym (+ℤ_assoc s.sum t.sum u.sum) i;
  least = lesser_assoc s.least t.least u.least i;
  greatest = greater_assoc s.greatest t.greatest u.greatest i;
  fault = option_or_assoc s.fault t.fault u.fault i;
}

joined_none : (s : Summary) → s ≡ joined no_values s
joined_none s = λ i. record {
  count = sym (zero-add s.count) i;
  sum = sym (+ℤ_idl s.sum) i;
  least = s.least;
  greatest = s.greatest;
  fault = s.fault;
}

pub summary_of-append : (xs ys : List Scalar) → summary_of (xs ++ ys) ≡ joined (summary_of xs) (summary_of ys)
unfolding summary_of
summary_of-append [] ys = joined_none (summary_of ys)
summary_of-append (x ∷ xs) ys = ap (joined (alone x)) (summary_of-append xs ys) ∙ joined_assoc (alone x) (summary_of xs) (summary_of ys)
