-- What a list of sheets holds, and what is found in it. Serves the laws of such lists.
use Rattle.std.proofs.Common.{◌≡◌, ◌∙◌, sym, ap, refl, arith, ℕ, zero, suc, ◌<◌, ◌≢◌, Bool, true, false, cond, eqb, List, [], ◌∷◌, length, get_or, Some}
use Rattle.std.specs.List.{Contains}
use Rattle.std.proofs.lemmas.Bool.{eq-eqb, ne_eqb, eqb-true, cond-true, cond-false, false_from_ne_true}
use Rattle.std.proofs.lemmas.Slice.Eq.{bytes_eq-Decides}
use Rattle.cell_addr.specs.Text.{folded}
use Rattle.cell_addr.specs.Sheets.{same_name, id_in, name_in, AreApart}

pub same_name-true : (a b : List ℕ) → folded a ≡ folded b → same_name a b ≡ true
same_name-true a b e = (bytes_eq-Decides (folded a) (folded b)).1 e

pub same_name-false : (a b : List ℕ) → folded a ≢ folded b → same_name a b ≡ false
same_name-false a b n = false_from_ne_true (same_name a b) (λ t. n ((bytes_eq-Decides (folded a) (folded b)).0 t))

pub folded-same_name : (a b : List ℕ) → same_name a b ≡ true → folded a ≡ folded b
folded-same_name a b t = (bytes_eq-Decides (folded a) (folded b)).0 t

rest-apart : (s : ℕ × List ℕ) (rest : List (ℕ × List ℕ)) → AreApart (s ∷ rest) → AreApart rest
rest-apart s rest h = λ i j d below inside. h (suc i) (suc j) d (omega arith) (omega arith)

first-apart : (s p : ℕ × List ℕ) (rest : List (ℕ × List ℕ)) (k : ℕ) → AreApart (s ∷ rest) → k < length rest → get_or rest k p ≡ p → (s.0 ≢ p.0) × (folded s.1 ≢ folded p.1)
first-apart s p rest k h inside e = rw e at (h 0 (suc k) p (omega arith) (omega arith))

-- the number of a listed sheet is found by its name in any case of the letters
pub id_in-listed : (sheets : List (ℕ × List ℕ)) (p : ℕ × List ℕ) (other : List ℕ) → AreApart sheets → Contains sheets p → folded other ≡ folded p.1 → id_in sheets other ≡ Some p.0
id_in-listed [] p other h (k, inside, e) f = absurd (omega arith)
id_in-listed (s ∷ rest) p other h (zero, inside, e) f =
    cond-true (same_name s.1 other) (Some s.0) (id_in rest other) (same_name-true s.1 other (ap (λ q. folded q.1) e ∙ sym f))
    ∙ ap (λ q. Some q.0) e
id_in-listed (s ∷ rest) p other h (suc k, inside, e) f =
    let below : k < length rest = omega arith in
    let apart = first-apart s p rest k h below e in
    cond-false (same_name s.1 other) (Some s.0) (id_in rest other) (same_name-false s.1 other (λ t. apart.1 (t ∙ f)))
    ∙ id_in-listed rest p other (rest-apart s rest h) (k, below, e) f

-- the name of a listed sheet is found by its number
pub name_in-listed : (sheets : List (ℕ × List ℕ)) (p : ℕ × List ℕ) → AreApart sheets → Contains sheets p → name_in sheets p.0 ≡ Some p.1
name_in-listed [] p h (k, inside, e) = absurd (omega arith)
name_in-listed (s ∷ rest) p h (zero, inside, e) =
    cond-true (eqb s.0 p.0) (Some s.1) (name_in rest p.0) (eq-eqb s.0 p.0 (ap (λ q. q.0) e)) ∙ ap (λ q. Some q.1) e
name_in-listed (s ∷ rest) p h (suc k, inside, e) =
    let below : k < length rest = omega arith in
    let apart = first-apart s p rest k h below e in
    cond-false (eqb s.0 p.0) (Some s.1) (name_in rest p.0) (ne_eqb s.0 p.0 apart.0)
    ∙ name_in-listed rest p (rest-apart s rest h) (k, below, e)

later : (s p : ℕ × List ℕ) (rest : List (ℕ × List ℕ)) → Contains rest p → Contains (s ∷ rest) p
later s p rest (k, inside, e) = (suc k, omega arith, e)

id-by : (b : Bool) (s : ℕ × List ℕ) (rest : List (ℕ × List ℕ)) (name : List ℕ) (id : ℕ) → same_name s.1 name ≡ b → cond b (Some s.0) (id_in rest name) ≡ Some id
    → (id_in rest name ≡ Some id → (m : List ℕ) × (Contains rest (id, m) × (folded m ≡ folded name))) → (m : List ℕ) × (Contains (s ∷ rest) (id, m) × (folded m ≡ folded name))
id-by true s rest name id t e more =
    let same : s.0 ≡ id = cc in
    (s.1, ((0, omega arith, ap (λ n. (n, s.1)) same), folded-same_name s.1 name t))
id-by false s rest name id t e more = let found = more e in (found.0, (later s (id, found.0) rest found.1.0, found.1.1))

-- a number that is found stands in the list, with the name in some case of its letters
pub listed-id_in : (sheets : List (ℕ × List ℕ)) (name : List ℕ) (id : ℕ) → id_in sheets name ≡ Some id → (m : List ℕ) × (Contains sheets (id, m) × (folded m ≡ folded name))
listed-id_in [] name id e = cc
listed-id_in (s ∷ rest) name id e = id-by (same_name s.1 name) s rest name id refl e (listed-id_in rest name id)

name-by : (b : Bool) (s : ℕ × List ℕ) (rest : List (ℕ × List ℕ)) (id : ℕ) (name : List ℕ) → eqb s.0 id ≡ b → cond b (Some s.1) (name_in rest id) ≡ Some name
    → (name_in rest id ≡ Some name → Contains rest (id, name)) → Contains (s ∷ rest) (id, name)
name-by true s rest id name t e more =
    let same : s.1 ≡ name = cc in
    let number = eqb-true s.0 id t in
    (0, omega arith, λ i. (number i, same i))
name-by false s rest id name t e more = later s (id, name) rest (more e)

-- a name that is found stands in the list, with the number
pub listed-name_in : (sheets : List (ℕ × List ℕ)) (id : ℕ) (name : List ℕ) → name_in sheets id ≡ Some name → Contains sheets (id, name)
listed-name_in [] id name e = cc
listed-name_in (s ∷ rest) id name e = name-by (eqb s.0 id) s rest id name refl e (listed-name_in rest id name)
