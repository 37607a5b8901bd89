-- Texts one after another, and one text many times: for `concatenate_value`, `repeated` and `rept`.
use Rattle.std.proofs.Common.{◌≡◌, ◌∙◌, sym, ap, refl, ℕ, zero, suc, ◌+◌, ◌*◌, ◌/◌, ◌<◌, ◌≤◌, nat_le, false, cond, List, [], ◌∷◌, ◌++◌, Result, Ok, Err, length, drop, get_or, arith}
use Rattle.std.proofs.lemmas.List.{append_assoc, append-nil, at_drop_more, at_drop_all, length-append}
use Rattle.std.proofs.lemmas.Bool.Decides.{nat_tests}
use Rattle.std.proofs.Math.Nat.{div-lt_iff_lt-mul, zero-mul, suc-mul}
use Rattle.std.specs.List.{repeat}
use Rattle.cell_value.specs.declared.argument.Arg.{Arg}
use Rattle.cell_value.specs.declared.fault.FaultKind.{FaultKind}
use Rattle.cell_value.specs.declared.fault.FaultKind.TheVariants.{Value}
use Rattle.cell_value.specs.declared.scalar.Scalar.TheVariants.{Text, Fault}
use Rattle.cell_value.specs.declared.scalar.TheConstants.{MAX_MADE_TEXT}
use Rattle.cell_value.specs.Scalar.{made_text}
use Rattle.func_args.specs.Answers.{and_then}
use Rattle.func_text.specs.Arguments.{text}
use Rattle.func_text.specs.Join.{joined}

-- a text and then the answer's
abbrev pub with_rest : List ℕ → Result (List ℕ) FaultKind → Result (List ℕ) FaultKind
with_rest s (Ok rest) = Ok (s ++ rest)
with_rest s (Err fault) = Err fault

with_rest-append : (s t : List ℕ) (r : Result (List ℕ) FaultKind) → with_rest s (and_then r (λ rest. Ok (t ++ rest))) ≡ with_rest (s ++ t) r
with_rest-append s t (Ok rest) = ap Ok (sym (append_assoc s t rest))
with_rest-append s t (Err fault) = refl

pub with_rest-nil : (r : Result (List ℕ) FaultKind) → with_rest [] r ≡ r
with_rest-nil (Ok rest) = refl
with_rest-nil (Err fault) = refl

-- one text more
pub joined-step : (args : List Arg) (i : ℕ) (d : Arg) (s t : List ℕ) → i < length args → text (get_or args i d) ≡ Ok t
    → with_rest s (joined (drop i args)) ≡ with_rest (s ++ t) (joined (drop (i + 1) args))
joined-step args i d s t h e =
    let rest = joined (drop (i + 1) args) in
    at_drop_more (λ xs. with_rest s (joined xs)) args i d h
    ∙ ap (λ r. with_rest s (and_then r (λ t. and_then rest (λ rest. Ok (t ++ rest))))) e
    ∙ with_rest-append s t rest

-- a fault ends it
pub joined-fault : (args : List Arg) (i : ℕ) (d : Arg) (s : List ℕ) (fault : FaultKind) → i < length args → text (get_or args i d) ≡ Err fault
    → with_rest s (joined (drop i args)) ≡ Err fault
joined-fault args i d s fault h e =
    let rest = joined (drop (i + 1) args) in
    at_drop_more (λ xs. with_rest s (joined xs)) args i d h
    ∙ ap (λ r. with_rest s (and_then r (λ t. and_then rest (λ rest. Ok (t ++ rest))))) e

-- nothing is left
pub joined-all : (args : List Arg) (i : ℕ) (s : List ℕ) → length args ≤ i → with_rest s (joined (drop i args)) ≡ Ok s
joined-all args i s h = at_drop_all (λ xs. with_rest s (joined xs)) args i h ∙ ap Ok (append-nil s)

-- once more
pub repeat_more : (n : ℕ) (xs : List ℕ) → repeat (n + 1) xs ≡ repeat n xs ++ xs
repeat_more zero xs = append-nil xs
repeat_more (suc n) xs =
    let e : suc n + 1 ≡ suc (n + 1) = omega arith in
    ap (λ k. repeat k xs) e ∙ ap (λ ys. xs ++ ys) (repeat_more n xs) ∙ sym (append_assoc xs (repeat n xs) xs)

repeat-nil : (n : ℕ) → repeat {A = ℕ} n [] ≡ []
repeat-nil zero = refl
repeat-nil (suc n) = repeat-nil n

length-repeat : (n : ℕ) (xs : List ℕ) → length (repeat n xs) ≡ n * length xs
length-repeat zero xs = sym (zero-mul (length xs))
length-repeat (suc n) xs =
    let e : suc n * length xs ≡ n * length xs + length xs = suc-mul n (length xs) in
    let l = length-repeat n xs in
    let s = length-append xs (repeat n xs) in
    omega arith

-- a text of no characters stays that
pub rept_nil : (t : List ℕ) (n : ℕ) → length t ≡ 0 → made_text (repeat n t) ≡ Text []
rept_nil [] n h = ap made_text (repeat-nil n)
rept_nil (x ∷ t) n h = absurd (omega arith)

-- so many bytes are too many
pub made_long : (t : List ℕ) → MAX_MADE_TEXT < length t → made_text t ≡ Fault Value
made_long t h =
    let long : nat_le (length t) MAX_MADE_TEXT ≡ false = grind (arith, nat_tests) in
    ap (λ b. cond b (Text t) (Fault Value)) long

-- so many times are too many
pub rept_long : (t : List ℕ) (n : ℕ) → 0 < length t → MAX_MADE_TEXT / length t < n → made_text (repeat n t) ≡ Fault Value
rept_long t n l many =
    let size : MAX_MADE_TEXT < n * length t = (div-lt_iff_lt-mul l).0 many in
    let long : MAX_MADE_TEXT < length (repeat n t) = rw (length-repeat n t) size in
    made_long (repeat n t) long
