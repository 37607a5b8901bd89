-- The parts of a text round a byte, by the text's own bytes. Serves the reading of sheets' names.
use Rattle.std.proofs.Common.{◌≡◌, ◌∙◌, sym, ap, arith, refl, ℕ, suc, ◌<◌, Bool, true, false, cond, eqb, List, [], ◌∷◌, ◌++◌, length, get_or, Option, Some, None, MatchOption, Bor, option_map}
use Rattle.std.specs.Option.{option_copied}
use Rattle.std.proofs.lemmas.Bool.{eq-eqb, ne_eqb}
use Rattle.cell_addr.specs.Parts.{with_byte, split_once, strip_prefix}

-- no item of the list is this byte
abbrev pub Lacks : ℕ → List ℕ → Type 0
Lacks c xs = (i : ℕ) → i < length xs → get_or xs i 0 ≡ c → ⊥

first-lacks : (c x : ℕ) (xs : List ℕ) → Lacks c (x ∷ xs) → eqb x c ≡ false
first-lacks c x xs h = ne_eqb x c (h 0 (omega arith))

rest-lacks : (c x : ℕ) (xs : List ℕ) → Lacks c (x ∷ xs) → Lacks c xs
rest-lacks c x xs h = λ i l e. h (suc i) (omega arith) e

pub split_once-Lacks : (c : ℕ) (xs : List ℕ) → Lacks c xs → split_once c xs ≡ None
split_once-Lacks c [] h = refl
split_once-Lacks c (x ∷ xs) h =
    rw (first-lacks c x xs h, split_once-Lacks c xs (rest-lacks c x xs h)) refl

pub split_once-append : (c : ℕ) (xs ys : List ℕ) → Lacks c xs → split_once c (xs ++ (c ∷ ys)) ≡ Some (xs, ys)
split_once-append c [] ys h = rw (eq-eqb c c refl) refl
split_once-append c (x ∷ xs) ys h =
    rw (first-lacks c x xs h, split_once-append c xs ys (rest-lacks c x xs h)) refl

-- what std's `split_once` answers
pub split_once-is : (c : ℕ) (xs : List ℕ) (r : Option (Bor (List ℕ) × Bor (List ℕ))) → MatchOption r (Lacks c xs) (λ x. (xs ≡ x.0.now ++ (c ∷ x.1.now)) × Lacks c x.0.now)
    → option_map (λ p. (p.0.now, p.1.now)) r ≡ split_once c xs
split_once-is c xs None h = sym (split_once-Lacks c xs h)
split_once-is c xs (Some p) h = sym (ap (split_once c) h.0 ∙ split_once-append c p.0.now p.1.now h.1)

-- what std's `strip_prefix` answers
pub strip_prefix-is : (c : ℕ) (xs : List ℕ) (r : Option (Bor (List ℕ))) → MatchOption r ((rest : List ℕ) → xs ≡ c ∷ rest → ⊥) (λ x. xs ≡ c ∷ x.now) → option_copied r ≡ strip_prefix c xs
strip_prefix-is c [] None h = refl
strip_prefix-is c (d ∷ ds) None h = rw (ne_eqb d c (λ e. h ds (ap (λ x. x ∷ ds) e))) refl
strip_prefix-is c [] (Some x) h = cc
strip_prefix-is c (d ∷ ds) (Some x) h =
    let first : d ≡ c = cc in
    let rest : ds ≡ x.now = cc in
    rw (eq-eqb d c first) (ap (λ ys. Some ys) (sym rest))

with_byte-shorter : (d n : ℕ) (parts : Option (List ℕ × List ℕ)) (p : List ℕ × List ℕ) → ((q : List ℕ × List ℕ) → parts ≡ Some q → length q.1 < n) → with_byte d parts ≡ Some p → length p.1 < n
with_byte-shorter d n None p h e = cc
with_byte-shorter d n (Some q) p h e = let same : q.1 ≡ p.1 = cc in rw (← same) (h q refl)

split-shorter : (b : Bool) (d : ℕ) (ds : List ℕ) (parts : Option (List ℕ × List ℕ)) (p : List ℕ × List ℕ) → ((q : List ℕ × List ℕ) → parts ≡ Some q → length q.1 < length ds) → cond b (Some ([], ds)) (with_byte d parts) ≡ Some p → length p.1 < suc (length ds)
split-shorter true d ds parts p h e = let same : ds ≡ p.1 = cc in rw (← same) (omega arith)
split-shorter false d ds parts p h e = let l = with_byte-shorter d (length ds) parts p h e in omega arith

-- what follows the byte is shorter than the text
pub length-split_once : (c : ℕ) (xs : List ℕ) (p : List ℕ × List ℕ) → split_once c xs ≡ Some p → length p.1 < length xs
length-split_once c [] p e = cc
length-split_once c (x ∷ xs) p e = split-shorter (eqb x c) x xs (split_once c xs) p (length-split_once c xs) e

first-shorter : (b : Bool) (ds ys : List ℕ) → cond b (Some ds) None ≡ Some ys → length ys < suc (length ds)
first-shorter true ds ys e = let same : ds ≡ ys = cc in rw (← same) (omega arith)
first-shorter false ds ys e = cc

pub length-strip_prefix : (c : ℕ) (xs ys : List ℕ) → strip_prefix c xs ≡ Some ys → length ys < length xs
length-strip_prefix c [] ys e = cc
length-strip_prefix c (x ∷ xs) ys e = first-shorter (eqb x c) xs ys e
