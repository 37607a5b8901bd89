-- The part of a name behind its last slash. It serves the names of sheets.
use Rattle.std.proofs.Common.{◌≡◌, ◌≢◌, ◌∙◌, ap, refl, arith, ℕ, zero, suc, ◌+◌, ◌<◌, ◌||◌, Bool, true, false, cond, eqb, List, [], ◌∷◌, length, get_or, drop, add-one}
use Rattle.std.specs.List.{list_any}
use Rattle.std.proofs.lemmas.Bool.{ne_eqb, eq-eqb}
use Rattle.book_files.specs.Books.{behind_slashes}

no-slash : (bs : List ℕ) → ((i : ℕ) → i < length bs → get_or bs i 0 ≢ 47) → list_any (λ b. eqb b 47) bs ≡ false
no-slash [] h = refl
no-slash (b ∷ bs) h = ap (λ t. t || list_any (λ c. eqb c 47) bs) (ne_eqb b 47 (h 0 (omega arith))) ∙ no-slash bs (λ i l. h (suc i) (omega arith))

or-right : (a b : Bool) → b ≡ true → a || b ≡ true
or-right true b e = refl
or-right false b e = e

a-slash : (bs : List ℕ) (k : ℕ) → k < length bs → get_or bs k 0 ≡ 47 → list_any (λ b. eqb b 47) bs ≡ true
a-slash [] k l e = absurd (omega arith)
a-slash (b ∷ bs) zero l e = ap (λ t. t || list_any (λ c. eqb c 47) bs) (eq-eqb b 47 e)
a-slash (b ∷ bs) (suc k) l e = or-right (eqb b 47) (list_any (λ c. eqb c 47) bs) (a-slash bs k (omega arith) e)

-- a name without a slash is the whole part
pub behind-none : (bs : List ℕ) → ((i : ℕ) → i < length bs → get_or bs i 0 ≢ 47) → behind_slashes bs ≡ bs
behind-none [] h = refl
behind-none (b ∷ bs) h = ap (λ t. cond t (behind_slashes bs) (b ∷ bs)) (no-slash (b ∷ bs) h)

behind-at : (bs : List ℕ) (k : ℕ) → k < length bs → get_or bs k 0 ≡ 47 → ((i : ℕ) → k < i → i < length bs → get_or bs i 0 ≢ 47) → behind_slashes bs ≡ drop (suc k) bs
behind-at [] k l e h = absurd (omega arith)
behind-at (b ∷ bs) zero l e h = ap (λ t. cond t (behind_slashes bs) (b ∷ bs)) (a-slash (b ∷ bs) zero l e) ∙ behind-none bs (λ i m. h (suc i) (omega arith) (omega arith))
behind-at (b ∷ bs) (suc k) l e h =
    ap (λ t. cond t (behind_slashes bs) (b ∷ bs)) (a-slash (b ∷ bs) (suc k) l e)
    ∙ behind-at bs k (omega arith) e (λ i m n. h (suc i) (omega arith) (omega arith))

-- behind the last slash stands the part
pub behind-last : (bs : List ℕ) (k : ℕ) → k < length bs → get_or bs k 0 ≡ 47 → ((i : ℕ) → k < i → i < length bs → get_or bs i 0 ≢ 47) → behind_slashes bs ≡ drop (k + 1) bs
behind-last bs k l e h = rw add-one (behind-at bs k l e h)
