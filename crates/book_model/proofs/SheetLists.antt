-- Lists of sheets after one is added, renamed or dropped. Serves the laws of sessions.
use Rattle.std.proofs.Common.{◌≡◌, ◌≢◌, ◌∙◌, sym, ap, refl, arith, ℕ, zero, suc, ◌<◌, ◌+◌, Bool, true, false, cond, eqb, ◌==◌, not, ◌&&◌, ◌||◌, List, [], ◌∷◌, ◌++◌, length, get_or, map, filter}
use Rattle.std.specs.List.{All, list_any}
use Rattle.std.proofs.lemmas.Bool.{eqb-true, eq-eqb}
use Rattle.std.proofs.lemmas.List.Elements.{All-filter}
use Rattle.std.proofs.lemmas.List.Kept.{AllPairs-filter}
use Rattle.std.proofs.lemmas.List.Quantifiers.{all_pairs_push}
use Rattle.cell_addr.specs.Text.{folded}
use Rattle.cell_addr.specs.Sheets.{same_name, AreApart, AreSheets}
use Rattle.cell_addr.specs.declared.place.TheConstants.{NO_SHEET}
use Rattle.cell_addr.proofs.Listed.{same_name-true}
use Rattle.book_model.specs.Changes.{renamed_sheet}
use Rattle.book_model.proofs.KnownSheets.{has_id}
use Rattle.book_model.proofs.Counts.{length-map}

first-passes : (b c : Bool) → b || c ≡ false → (b ≡ false) × (c ≡ false)
first-passes true c h = cc
first-passes false c h = (refl, h)

-- no item passes a test that none of them passes
pub none_passes : {X : Type 0} (p : X → Bool) (xs : List X) → list_any p xs ≡ false → (k : ℕ) (d : X) → k < length xs → p (get_or xs k d) ≡ false
none_passes p [] h k d l = absurd (omega arith)
none_passes p (x ∷ xs) h zero d l = (first-passes (p x) (list_any p xs) h).0
none_passes p (x ∷ xs) h (suc k) d l = none_passes p xs (first-passes (p x) (list_any p xs) h).1 k d (omega arith)

get_or-map : {X Y : Type 0} (f : X → Y) (xs : List X) (i : ℕ) (d : Y) (e : X) → i < length xs → get_or (map f xs) i d ≡ f (get_or xs i e)
get_or-map f [] i d e l = absurd (omega arith)
get_or-map f (x ∷ xs) zero d e l = refl
get_or-map f (x ∷ xs) (suc i) d e l = get_or-map f xs i d e (omega arith)

or-more : (b c d : Bool) → (c ≡ true → d ≡ true) → b || c ≡ true → b || d ≡ true
or-more true c d h e = refl
or-more false c d h e = h e

any-append : {X : Type 0} (p : X → Bool) (xs ys : List X) → list_any p xs ≡ true → list_any p (xs ++ ys) ≡ true
any-append p [] ys h = cc
any-append p (x ∷ xs) ys h = or-more (p x) (list_any p xs) (list_any p (xs ++ ys)) (any-append p xs ys) h

-- a sheet of a list is one of the longer list
pub has-append : (id : ℕ) (sheets more : List (ℕ × List ℕ)) → has_id id sheets ≡ true → has_id id (sheets ++ more) ≡ true
has-append id sheets more h = any-append (λ s. s.0 == id) sheets more h

-- renaming a sheet leaves the numbers
renamed-id : (id : ℕ) (name : List ℕ) (s : ℕ × List ℕ) → (renamed_sheet id name s).0 ≡ s.0
renamed-id id name s = go (eqb s.0 id) refl
  where
    go : (b : Bool) → eqb s.0 id ≡ b → (cond b (id, name) s).0 ≡ s.0
    go true e = sym (eqb-true s.0 id e)
    go false e = refl

same-number : (k : ℕ) (s t : ℕ × List ℕ) (c : Bool) → t.0 ≡ s.0 → (s.0 == k) || c ≡ true → (t.0 == k) || c ≡ true
same-number k s t c e h = ap (λ n. (n == k) || c) e ∙ h

pub has-renamed : (id k : ℕ) (name : List ℕ) (sheets : List (ℕ × List ℕ)) → has_id k sheets ≡ true → has_id k (map (renamed_sheet id name) sheets) ≡ true
has-renamed id k name [] h = cc
has-renamed id k name (s ∷ sheets) h =
    same-number k s (renamed_sheet id name s) (has_id k (map (renamed_sheet id name) sheets)) (renamed-id id name s)
    (or-more (s.0 == k) (has_id k sheets) (has_id k (map (renamed_sheet id name) sheets)) (has-renamed id k name sheets) h)

left-one : (b c : Bool) (k dropped : ℕ) (s : ℕ × List ℕ) (rest : List (ℕ × List ℕ)) (more : Bool) → eqb s.0 k ≡ b → eqb s.0 dropped ≡ c → k ≢ dropped → (more ≡ true → has_id k rest ≡ true)
    → b || more ≡ true → has_id k (cond (not c) (s ∷ rest) rest) ≡ true
left-one true true k dropped s rest more e f n h o = absurd (n (sym (eqb-true s.0 k e) ∙ eqb-true s.0 dropped f))
left-one true false k dropped s rest more e f n h o = ap (λ b. b || has_id k rest) e
left-one false true k dropped s rest more e f n h o = h o
left-one false false k dropped s rest more e f n h o = ap (λ b. b || has_id k rest) e ∙ h o

-- a sheet that isn't dropped stays
pub has-left : (dropped k : ℕ) (sheets : List (ℕ × List ℕ)) → k ≢ dropped → has_id k sheets ≡ true → has_id k (filter (λ s. not (s.0 == dropped)) sheets) ≡ true
has-left dropped k [] n h = cc
has-left dropped k (s ∷ sheets) n h =
    left-one (eqb s.0 k) (eqb s.0 dropped) k dropped s (filter (λ s. not (s.0 == dropped)) sheets) (has_id k sheets) refl refl n (has-left dropped k sheets n) h

-- the sheets that stay are proper
pub sheets-left : (dropped : ℕ) (sheets : List (ℕ × List ℕ)) → AreSheets sheets → AreSheets (filter (λ s. not (s.0 == dropped)) sheets)
sheets-left dropped sheets h = (
  AllPairs-filter (λ s t. (s.0 ≢ t.0) × (folded s.1 ≢ folded t.1)) (λ s. not (s.0 == dropped)) sheets h.0,
  All-filter (λ s. not (s.0 == dropped)) (λ s. s.0 ≢ NO_SHEET) sheets h.1,
)

push-all : {X : Type 0} (P : X → Type 0) (xs : List X) (y : X) → All P xs → P y → All P (xs ++ y ∷ [])
push-all P [] y h n zero d l = n
push-all P [] y h n (suc k) d l = absurd (omega arith)
push-all P (x ∷ xs) y h n zero d l = h zero d (omega arith)
push-all P (x ∷ xs) y h n (suc k) d l = push-all P xs y (λ j e i. h (suc j) e (omega arith)) n k d (omega arith)

-- the sheets with a new one are proper, where neither its number nor its name stands in the list
pub sheets-with : (sheets : List (ℕ × List ℕ)) (id : ℕ) (name : List ℕ) → AreSheets sheets → All (λ s. s.0 < id) sheets → id < NO_SHEET → list_any (λ s. same_name s.1 name) sheets ≡ false → AreSheets (sheets ++ (id, name) ∷ [])
sheets-with sheets id name h below few free = (
  all_pairs_push (λ s t. (s.0 ≢ t.0) × (folded s.1 ≢ folded t.1)) sheets (id, name) h.0 (λ k d l.
      ((λ e. let lt = below k d l in absurd (omega (arith, e, lt))), (λ e. let t = same_name-true (get_or sheets k d).1 name e in let f = none_passes (λ s. same_name s.1 name) sheets free k d l in cc))),
  push-all (λ s. s.0 ≢ NO_SHEET) sheets (id, name) h.1 (λ e. absurd (omega (arith, e, few))),
)

pub numbers-with : (sheets : List (ℕ × List ℕ)) (id : ℕ) (name : List ℕ) → All (λ s. s.0 < id) sheets → All (λ s. s.0 < id + 1) (sheets ++ (id, name) ∷ [])
numbers-with sheets id name h = push-all (λ s. s.0 < id + 1) sheets (id, name) (λ k d l. let e = h k d l in omega (arith, e)) (omega arith)

free-name : (b : Bool) (s : ℕ × List ℕ) (id : ℕ) (name : List ℕ) → eqb s.0 id ≡ b → not b && same_name s.1 name ≡ false → s.0 ≢ id → folded s.1 ≢ folded name
free-name true s id name e f n = absurd (n (eqb-true s.0 id e))
free-name false s id name e f n = λ same. let t = same_name-true s.1 name same in cc

renamed-apart : (id : ℕ) (name : List ℕ) (s t : ℕ × List ℕ) → (s.0 ≢ t.0) × (folded s.1 ≢ folded t.1) → (s.0 ≢ id → folded s.1 ≢ folded name) → (t.0 ≢ id → folded t.1 ≢ folded name)
    → ((renamed_sheet id name s).0 ≢ (renamed_sheet id name t).0) × (folded (renamed_sheet id name s).1 ≢ folded (renamed_sheet id name t).1)
renamed-apart id name s t h sfree tfree = (
  (λ e. h.0 (sym (renamed-id id name s) ∙ e ∙ renamed-id id name t)),
  go (eqb s.0 id) (eqb t.0 id) refl refl,
)
  where
    go : (b c : Bool) → eqb s.0 id ≡ b → eqb t.0 id ≡ c → folded (cond b (id, name) s).1 ≢ folded (cond c (id, name) t).1
    go true true e f = λ same. h.0 (eqb-true s.0 id e ∙ sym (eqb-true t.0 id f))
    go true false e f = λ same. tfree (λ i. let y = eq-eqb t.0 id i in cc) (sym same)
    go false true e f = λ same. sfree (λ i. let y = eq-eqb s.0 id i in cc) same
    go false false e f = h.1

-- the sheets with one renamed are proper, where no other has the name
pub sheets-renamed : (sheets : List (ℕ × List ℕ)) (id : ℕ) (name : List ℕ) → AreSheets sheets → list_any (λ s. not (s.0 == id) && same_name s.1 name) sheets ≡ false → AreSheets (map (renamed_sheet id name) sheets)
sheets-renamed sheets id name h free = (pairs, known)
  where
    far : (k : ℕ) (d : ℕ × List ℕ) → k < length sheets → (get_or sheets k d).0 ≢ id → folded (get_or sheets k d).1 ≢ folded name
    far k d l = free-name (eqb (get_or sheets k d).0 id) (get_or sheets k d) id name refl (none_passes (λ s. not (s.0 == id) && same_name s.1 name) sheets free k d l)

    pairs : AreApart (map (renamed_sheet id name) sheets)
    pairs i j d below inside =
        let long = length-map (renamed_sheet id name) sheets in
        let small : j < length sheets = omega (arith, long, inside) in
        rw (get_or-map (renamed_sheet id name) sheets i d d (omega (arith, below, small)), get_or-map (renamed_sheet id name) sheets j d d small)
        (renamed-apart id name (get_or sheets i d) (get_or sheets j d) (h.0 i j d below small) (far i d (omega (arith, below, small))) (far j d small))

    known : All (λ s. s.0 ≢ NO_SHEET) (map (renamed_sheet id name) sheets)
    known k d l =
        let long = length-map (renamed_sheet id name) sheets in
        let small : k < length sheets = omega (arith, long, l) in
        rw (get_or-map (renamed_sheet id name) sheets k d d small, renamed-id id name (get_or sheets k d)) (h.1 k d small)

pub numbers-renamed : (sheets : List (ℕ × List ℕ)) (id n : ℕ) (name : List ℕ) → All (λ s. s.0 < n) sheets → All (λ s. s.0 < n) (map (renamed_sheet id name) sheets)
numbers-renamed sheets id n name h k d l =
    let long = length-map (renamed_sheet id name) sheets in
    let small : k < length sheets = omega (arith, long, l) in
    rw (get_or-map (renamed_sheet id name) sheets k d d small, renamed-id id name (get_or sheets k d)) (h k d small)
