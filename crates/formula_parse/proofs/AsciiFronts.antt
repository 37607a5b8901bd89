-- The ASCII bytes that a text begins with: a text may be cut after them. Serves the lexer.
use Rattle.std.proofs.Common.{◌≡◌, sym, ◌∙◌, ap, subst, refl, arith, add-one, ℕ, zero, suc, ◌+◌, ◌≤◌, Bool, true, false, ◌&&◌, ◌==◌, eqb, cond, if◌then◌else◌, List, [], ◌∷◌, length, take, drop, Some, None}
use Rattle.std.specs.List.{list_all, prefix_len, find}
use Rattle.std.specs.Char.{is_ascii, to_ascii_lowercase}
use Rattle.std.specs.Str.{IsUtf8, IsCharBoundary}
use Rattle.std.proofs.lemmas.Str.{IsCharBoundary-start, IsCharBoundary-after_ascii}
use Rattle.std.proofs.lemmas.List.Sums.{prefix_len_passes, prefix_len-le-length}
use Rattle.std.proofs.lemmas.Bool.{and_parts, eqb-true, ltb-true}
use Rattle.std.proofs.lemmas.Bool.Decides.{nat_tests}
use Rattle.std.proofs.lemmas.Slice.Eq.{bytes_eq-Decides}
use Rattle.digits.specs.Digits.{is_digit}
use Rattle.cell_addr.specs.Text.{folded}
use Rattle.cell_value.specs.declared.fault.FaultKind.{FaultKind}
use Rattle.cell_value.specs.declared.fault.FaultKind.TheVariants as kinds
use Rattle.cell_value.specs.Fault.{fault_text, faults}
use Rattle.formula_tree.specs.declared.operator.Op.{Op}
use Rattle.formula_tree.specs.Token.{Token}
use Rattle.formula_tree.specs.Run.{is_blank, is_run_byte, begins_with, begins_with_any, after_while, ends_sheet_name}
use Rattle.formula_tree.specs.Tokens.{decimals_length, number_length, begins_with_fault, byte_token, pair_op}

-- a text may be cut after ASCII bytes
pub boundary : (cs : List ℕ) (n : ℕ) → IsUtf8 cs → n ≤ prefix_len is_ascii cs → IsCharBoundary cs n
boundary cs zero u h = IsCharBoundary-start cs u
boundary cs (suc n) u h =
    let g = prefix_len-le-length is_ascii cs in
    let low = ltb-true _ _ (prefix_len_passes is_ascii cs n 0 (omega arith)) in
    subst (λ (k : ℕ). IsCharBoundary cs k) (add-one n) (IsCharBoundary-after_ascii cs n u (omega arith) low)

-- bytes that pass a test pass a weaker one
weaker-by : (p q : ℕ → Bool) (b : Bool) (c : ℕ) (cs : List ℕ) → (b ≡ true → q c ≡ true) → prefix_len p cs ≤ prefix_len q cs → cond b (1 + prefix_len p cs) 0 ≤ prefix_len q (c ∷ cs)
weaker-by p q true c cs f h = rw (f refl) (omega arith)
weaker-by p q false c cs f h = omega arith

pub prefix_len-weaker : (p q : ℕ → Bool) → ((c : ℕ) → p c ≡ true → q c ≡ true) → (cs : List ℕ) → prefix_len p cs ≤ prefix_len q cs
prefix_len-weaker p q f [] = omega arith
prefix_len-weaker p q f (c ∷ cs) = weaker-by p q (p c) c cs (f c) (prefix_len-weaker p q f cs)

-- bytes that pass a test, and more of them after those
both-by : (q : ℕ → Bool) (a b : ℕ) (t : Bool) (cs : List ℕ) → (a ≤ prefix_len q cs → a + b ≤ prefix_len q cs) → suc a ≤ cond t (1 + prefix_len q cs) 0 → suc a + b ≤ cond t (1 + prefix_len q cs) 0
both-by q a b true cs f h = let g = f (omega arith) in omega arith
both-by q a b false cs f h = absurd (omega arith)

pub prefix_len-both : (q : ℕ → Bool) (a b : ℕ) (cs : List ℕ) → a ≤ prefix_len q cs → b ≤ prefix_len q (drop a cs) → a + b ≤ prefix_len q cs
prefix_len-both q zero b cs h g = omega arith
prefix_len-both q (suc a) b [] h g = absurd (omega arith)
prefix_len-both q (suc a) b (c ∷ cs) h g = both-by q a b (q c) cs (λ k. prefix_len-both q a b cs k g) h

-- the bytes of runs and numbers
pub run-ascii : (c : ℕ) → is_run_byte c ≡ true → is_ascii c ≡ true
run-ascii c h = grind (arith, nat_tests)

blank-ascii : (c : ℕ) → is_blank c ≡ true → is_ascii c ≡ true
blank-ascii c h = grind (arith, nat_tests)

pub ascii-blanks : (cs : List ℕ) → prefix_len is_blank cs ≤ prefix_len is_ascii cs
ascii-blanks cs = prefix_len-weaker is_blank is_ascii blank-ascii cs

digit-ascii : (c : ℕ) → is_digit c ≡ true → is_ascii c ≡ true
digit-ascii c h = grind (arith, nat_tests)

pub ascii-run : (cs : List ℕ) → prefix_len is_run_byte cs ≤ prefix_len is_ascii cs
ascii-run cs = prefix_len-weaker is_run_byte is_ascii run-ascii cs

ascii-digits : (cs : List ℕ) → prefix_len is_digit cs ≤ prefix_len is_ascii cs
ascii-digits cs = prefix_len-weaker is_digit is_ascii digit-ascii cs

decimals-by : (b : Bool) (c : ℕ) (cs : List ℕ) → (b ≡ true → is_ascii c ≡ true) → (if b then 1 + prefix_len is_digit cs else 0) ≤ prefix_len is_ascii (c ∷ cs)
decimals-by true c cs f = let h = ascii-digits cs in rw (f refl) (omega arith)
decimals-by false c cs f = omega arith

point-ascii : (c : ℕ) → eqb c 46 ≡ true → is_ascii c ≡ true
point-ascii c h = grind (arith, nat_tests)

ascii-decimals : (cs : List ℕ) → decimals_length cs ≤ prefix_len is_ascii cs
ascii-decimals [] = omega arith
ascii-decimals (c ∷ cs) = decimals-by (c == 46) c cs (point-ascii c)

pub ascii-number : (cs : List ℕ) → number_length cs ≤ prefix_len is_ascii cs
ascii-number cs = prefix_len-both is_ascii (prefix_len is_digit cs) (decimals_length (after_while is_digit cs)) cs (ascii-digits cs) (ascii-decimals (after_while is_digit cs))

-- the byte in front
pub byte-ascii : (q : ℕ) (cs : List ℕ) → is_ascii q ≡ true → begins_with q cs ≡ true → begins_with_any is_ascii cs ≡ true
byte-ascii q [] h g = cc
byte-ascii q (c ∷ cs) h g = ap is_ascii (eqb-true c q g) ∙ h

pub ascii-byte : (cs : List ℕ) → begins_with_any is_ascii cs ≡ true → 1 ≤ prefix_len is_ascii cs
ascii-byte [] h = cc
ascii-byte (c ∷ cs) h = rw h (omega arith)

pub sheet-ascii : (cs : List ℕ) → ends_sheet_name cs ≡ true → begins_with_any is_ascii cs ≡ true
sheet-ascii cs h = byte-ascii 33 cs refl (and_parts (begins_with 33 cs) _ h).0

-- a text that spells ASCII letters is ASCII
lowercase-ascii : (c x : ℕ) → is_ascii x ≡ true → to_ascii_lowercase c ≡ to_ascii_lowercase x → is_ascii c ≡ true
lowercase-ascii c x h e = grind (arith, nat_tests)

ascii-spelled : (word cs : List ℕ) → list_all is_ascii word ≡ true → folded (take (length word) cs) ≡ folded word → length word ≤ prefix_len is_ascii cs
ascii-spelled [] cs h e = omega arith
ascii-spelled (x ∷ xs) [] h e = cc
ascii-spelled (x ∷ xs) (c ∷ cs) h e =
    let parts = and_parts (is_ascii x) (list_all is_ascii xs) h in
    let first : to_ascii_lowercase c ≡ to_ascii_lowercase x = cc in
    let rest : folded (take (length xs) cs) ≡ folded xs = cc in
    let more = ascii-spelled xs cs parts.1 rest in
    rw (lowercase-ascii c x parts.0 first) (omega arith)

fault_text-ascii : (f : FaultKind) → list_all is_ascii (fault_text f) ≡ true
fault_text-ascii kinds.Div0 = refl
fault_text-ascii kinds.Name = refl
fault_text-ascii kinds.Value = refl
fault_text-ascii kinds.Num = refl
fault_text-ascii kinds.Na = refl
fault_text-ascii kinds.Cycle = refl
fault_text-ascii kinds.Ref = refl
fault_text-ascii kinds.Error = refl

-- what is found passes
found-by : {X : Type 0} (p : X → Bool) (b : Bool) (x y : X) (xs : List X) → p x ≡ b → (find p xs ≡ Some y → p y ≡ true) → cond b (Some x) (find p xs) ≡ Some y → p y ≡ true
found-by p true x y xs h f e = let same : x ≡ y = cc in ap p (sym same) ∙ h
found-by p false x y xs h f e = f e

found-passes : {X : Type 0} (p : X → Bool) (y : X) (xs : List X) → find p xs ≡ Some y → p y ≡ true
found-passes p y [] e = cc
found-passes p y (x ∷ xs) e = found-by p (p x) x y xs refl (found-passes p y xs) e

pub ascii-fault : (cs : List ℕ) (f : FaultKind) → find (begins_with_fault cs) faults ≡ Some f → length (fault_text f) ≤ prefix_len is_ascii cs
ascii-fault cs f e =
    ascii-spelled (fault_text f) cs (fault_text-ascii f) ((bytes_eq-Decides (folded (take (length (fault_text f)) cs)) (folded (fault_text f))).0 (found-passes (begins_with_fault cs) f faults e))

-- a byte that is a token by itself, or begins an operator of two
pub sign-ascii : (c : ℕ) (t : Token) → byte_token c ≡ Some t → is_ascii c ≡ true
sign-ascii c t e = grind (arith, nat_tests)

pair-by : (a b d : Bool) (c : ℕ) (cs : List ℕ) (x y z o : Op) → (a ≡ true → 2 ≤ prefix_len is_ascii (c ∷ cs)) → (b ≡ true → 2 ≤ prefix_len is_ascii (c ∷ cs)) → (d ≡ true → 2 ≤ prefix_len is_ascii (c ∷ cs))
    → (if a then Some x else if b then Some y else if d then Some z else None) ≡ Some o → 2 ≤ prefix_len is_ascii (c ∷ cs)
pair-by true b d c cs x y z o f g h e = f refl
pair-by false true d c cs x y z o f g h e = g refl
pair-by false false true c cs x y z o f g h e = h refl
pair-by false false false c cs x y z o f g h e = cc

two-ascii : (k q c : ℕ) (cs : List ℕ) → is_ascii k ≡ true → is_ascii q ≡ true → (c == k && begins_with q cs) ≡ true → 2 ≤ prefix_len is_ascii (c ∷ cs)
two-ascii k q c cs h g e =
    let parts = and_parts (c == k) (begins_with q cs) e in
    let first : is_ascii c ≡ true = ap is_ascii (eqb-true c k parts.0) ∙ h in
    let more = ascii-byte cs (byte-ascii q cs g parts.1) in
    rw first (omega arith)

pub ascii-pair : (c : ℕ) (cs : List ℕ) (o : Op) → pair_op c cs ≡ Some o → 2 ≤ prefix_len is_ascii (c ∷ cs)
ascii-pair c cs o e =
    pair-by (c == 60 && begins_with 62 cs) (c == 60 && begins_with 61 cs) (c == 62 && begins_with 61 cs) c cs _ _ _ o
    (two-ascii 60 62 c cs refl refl) (two-ascii 60 61 c cs refl refl) (two-ascii 62 61 c cs refl refl) e
