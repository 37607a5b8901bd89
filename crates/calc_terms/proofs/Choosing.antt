-- What a function that chooses does is what its definition says. Serves `choose`.
use Rattle.std.proofs.Common.{◌≡◌, ◌∙◌, sym, ap, subst, refl, arith, ℕ, zero, suc, ◌-◌, ◌<◌, ◌⊎◌, inl, inr, ⊎_elim, Bool, true, false, cond, ◌||◌, ltb, eqb, eqb-true, ℤ, pos, negsuc, List, [], ◌∷◌, length, Result, Ok, Err}
use Rattle.std.proofs.lemmas.Bool.{ltb-true, ltb-false, lt-ltb, le-ltb, ne_eqb, or_cases}
use Rattle.std.proofs.lemmas.Option.{slice_get_past}
use Rattle.std.specs.Prelude.{slice_get}
use Rattle.cell_value.specs.declared.fault.FaultKind.{FaultKind}
use Rattle.cell_value.specs.declared.fault.FaultKind.TheVariants as fault
use Rattle.cell_value.specs.declared.scalar.Scalar.{Scalar}
use Rattle.cell_value.specs.declared.scalar.Scalar.TheVariants.{Truth, Fault}
use Rattle.cell_value.specs.Scalar.{to_number, to_truth}
use Rattle.func_args.specs.Answers.{then_value}
use Rattle.func_args.specs.Arguments.{whole_part}
use Rattle.func_logic.specs.Logic.{is_error, is_na}
use Rattle.calc_terms.specs.Choices.{at_position, choice_value, if_value, choose_value, unless, picked, value_or_fault, IsAmong, Decides}
use Rattle.calc_terms.specs.internal.Chosen.{by_number, by_position, by_truth, choose_choice, chosen, if_choice, unless_choice}
use Rattle.calc_terms.specs.declared.choice.Choice.TheVariants as choice
use Rattle.calc_terms.specs.declared.function.ChoiceFn.{ChoiceFn}
use Rattle.calc_terms.specs.declared.function.ChoiceFn.TheVariants.{If, IfError, IfNa, Choose}

-- IF
if_two : (x a : Scalar) (t : Result Bool FaultKind) → picked (by_truth t 2) (x ∷ a ∷ []) ≡ then_value t (λ holds. cond holds a (Truth false))
if_two x a (Ok true) = refl
if_two x a (Ok false) = refl
if_two x a (Err k) = refl

if_three : (x a b : Scalar) (t : Result Bool FaultKind) → picked (by_truth t 3) (x ∷ a ∷ b ∷ []) ≡ then_value t (λ holds. cond holds a b)
if_three x a b (Ok true) = refl
if_three x a b (Ok false) = refl
if_three x a b (Err k) = refl

if_picks : (x : Scalar) (rest : List Scalar) → picked (if_choice x (suc (length rest))) (x ∷ rest) ≡ if_value (x ∷ rest)
if_picks x [] = refl
if_picks x (a ∷ []) = if_two x a (to_truth x)
if_picks x (a ∷ b ∷ []) = if_three x a b (to_truth x)
if_picks x (a ∷ b ∷ c ∷ rest) =
    let two : eqb (suc (suc (suc (suc (length rest))))) 2 ≡ false = ne_eqb (suc (suc (suc (suc (length rest))))) 2 (λ e. omega arith) in
    let three : eqb (suc (suc (suc (suc (length rest))))) 3 ≡ false = ne_eqb (suc (suc (suc (suc (length rest))))) 3 (λ e. omega arith) in
    rw (two, three) refl

-- IFERROR and IFNA
unless_two : (x a : Scalar) (fails : Bool) → picked (unless_choice fails x 2) (x ∷ a ∷ []) ≡ cond fails a x
unless_two x a true = refl
unless_two x a false = refl

unless_picks : (fails : Scalar → Bool) (x : Scalar) (rest : List Scalar) → picked (unless_choice (fails x) x (suc (length rest))) (x ∷ rest) ≡ unless fails (x ∷ rest)
unless_picks fails x [] = refl
unless_picks fails x (a ∷ []) = unless_two x a (fails x)
unless_picks fails x (a ∷ b ∷ rest) =
    let two : eqb (suc (suc (suc (length rest)))) 2 ≡ false = ne_eqb (suc (suc (suc (length rest)))) 2 (λ e. omega arith) in
    rw two refl

-- CHOOSE
inside_picks : (x : Scalar) (ys : List Scalar) (m : ℕ) (b : Bool) → ltb (suc m) (suc (length ys)) ≡ b
    → picked (cond b (choice.At (suc m)) (choice.Value (Fault fault.Value))) (x ∷ ys) ≡ value_or_fault (slice_get ys m)
inside_picks x ys m true h = refl
inside_picks x ys m false h = ap value_or_fault (sym (slice_get_past ys m (let past = ltb-false (suc m) (suc (length ys)) h in omega arith)))

position_picks : (x : Scalar) (ys : List Scalar) (n : ℤ) → picked (by_position n (suc (length ys))) (x ∷ ys) ≡ at_position ys n
position_picks x ys (pos zero) = refl
position_picks x ys (negsuc m) = refl
position_picks x ys (pos (suc m)) =
    let first : ltb (suc m) 1 ≡ false = le-ltb (suc m) 1 (omega arith) in
    let before : suc m - 1 ≡ m = omega arith in
    rw (first, before) (inside_picks x ys m (ltb (suc m) (suc (length ys))) refl)

number_picks : (x : Scalar) (ys : List Scalar) (r : Result ℤ FaultKind) → picked (by_number r (suc (length ys))) (x ∷ ys) ≡ then_value r (λ n. at_position ys (whole_part n))
number_picks x ys (Ok n) = position_picks x ys (whole_part n)
number_picks x ys (Err k) = refl

choose_picks : (x : Scalar) (rest : List Scalar) → picked (choose_choice x (suc (length rest))) (x ∷ rest) ≡ choose_value (x ∷ rest)
choose_picks x [] = refl
choose_picks x (a ∷ rest) =
    let more : ltb 1 (suc (suc (length rest))) ≡ true = lt-ltb 1 (suc (suc (length rest))) (omega arith) in
    ap (λ b. picked (cond b (by_number (to_number x) (suc (suc (length rest)))) (choice.Value (Fault fault.Na))) (x ∷ a ∷ rest)) more
    ∙ number_picks x (a ∷ rest) (to_number x)

picks : (f : ChoiceFn) (x : Scalar) (rest : List Scalar) → picked (chosen f x (suc (length rest))) (x ∷ rest) ≡ choice_value f (x ∷ rest)
unfolding choice_value
picks If x rest = if_picks x rest
picks IfError x rest = unless_picks is_error x rest
picks IfNa x rest = unless_picks is_na x rest
picks Choose x rest = choose_picks x rest

pub decides : (f : ChoiceFn) (x : Scalar) (count : ℕ) → Decides f x count (chosen f x count)
decides f x count rest e = subst (λ n. picked (chosen f x n) (x ∷ rest) ≡ choice_value f (x ∷ rest)) e (picks f x rest)

-- what is chosen stands behind the first
truth_among : (t : Result Bool FaultKind) (count : ℕ) → (count ≡ 2) ⊎ (count ≡ 3) → IsAmong count (by_truth t count)
truth_among (Err k) count e = tt
truth_among (Ok true) count (inl e) = (omega arith, omega arith)
truth_among (Ok true) count (inr e) = (omega arith, omega arith)
truth_among (Ok false) count (inl e) = subst (λ n. IsAmong n (by_truth (Ok false) n)) (sym e) tt
truth_among (Ok false) count (inr e) = subst (λ n. IsAmong n (by_truth (Ok false) n)) (sym e) (omega arith, omega arith)

if_among : (t : Result Bool FaultKind) (count : ℕ) (b : Bool) → (eqb count 2 || eqb count 3) ≡ b → IsAmong count (cond b (by_truth t count) (choice.Value (Fault fault.Na)))
if_among t count false h = tt
if_among t count true h = ⊎_elim
    (λ e. truth_among t count (inl (eqb-true count 2 e)))
    (λ e. truth_among t count (inr (eqb-true count 3 e)))
    (or_cases (eqb count 2) (eqb count 3) h)

unless_among : (fails : Bool) (x : Scalar) (count : ℕ) (b : Bool) → eqb count 2 ≡ b → IsAmong count (cond b (cond fails (choice.At 1) (choice.Value x)) (choice.Value (Fault fault.Na)))
unless_among fails x count false h = tt
unless_among true x count true h = let two : count ≡ 2 = eqb-true count 2 h in (omega arith, omega arith)
unless_among false x count true h = tt

place_among : (m count : ℕ) (b : Bool) → ltb (suc m) count ≡ b → IsAmong count (cond b (choice.At (suc m)) (choice.Value (Fault fault.Value)))
place_among m count true h = let within : suc m < count = ltb-true (suc m) count h in (omega arith, within)
place_among m count false h = tt

position_among : (n : ℤ) (count : ℕ) → IsAmong count (by_position n count)
position_among (pos zero) count = tt
position_among (negsuc m) count = tt
position_among (pos (suc m)) count =
    let first : ltb (suc m) 1 ≡ false = le-ltb (suc m) 1 (omega arith) in
    rw first (place_among m count (ltb (suc m) count) refl)

choose_among : (r : Result ℤ FaultKind) (count : ℕ) (b : Bool) → IsAmong count (cond b (by_number r count) (choice.Value (Fault fault.Na)))
choose_among r count false = tt
choose_among (Ok n) count true = position_among (whole_part n) count
choose_among (Err k) count true = tt

pub among : (f : ChoiceFn) (x : Scalar) (count : ℕ) → IsAmong count (chosen f x count)
among If x count = if_among (to_truth x) count (eqb count 2 || eqb count 3) refl
among IfError x count = unless_among (is_error x) x count (eqb count 2) refl
among IfNa x count = unless_among (is_na x) x count (eqb count 2) refl
among Choose x count = choose_among (to_number x) count (ltb 1 count)
