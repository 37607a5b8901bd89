-- What is found in rows to which one is added. Serves the laws of words.
use Rattle.std.proofs.Common.{◌≡◌, ◌∙◌, ap, refl, ℕ, Bool, true, false, cond, ◌||◌, List, [], ◌∷◌, ◌++◌, Option, Some, None, option_map}
use Rattle.std.specs.Prelude.{find, slice_get, option_and_then}
use Rattle.std.specs.Str.{bytes_eq}
use Rattle.std.proofs.lemmas.Slice.Eq.{bytes_eq-Decides}
use Rattle.clap.specs.Walk.{Row, all_of, at_row, first_of, has_row, more_values}
use Rattle.clap.specs.declared.parser.matches.ValueSource.TheVariants.{CommandLine}

values_of : Row → List (List ℕ)
values_of r = r.values

-- rows without one of an id
none-cons : (b : Bool) (r : Row) (rest : Option Row) → option_map (λ (x : Row). x.values) (cond b (Some r) rest) ≡ None → (b ≡ false) × (option_map (λ (x : Row). x.values) rest ≡ None)
none-cons true r rest h = cc
none-cons false r rest h = (refl, h)

pub at_none : (id : List ℕ) (change : Row → List Row) (missing rows : List Row) → all_of id rows ≡ None → at_row id change missing rows ≡ rows ++ missing
at_none id change missing [] h = refl
at_none id change missing (r ∷ rows) h =
    let n = none-cons (bytes_eq r.id id) r (find (λ (x : Row). bytes_eq x.id id) rows) h in
    rw n.0 (ap (λ rs. r ∷ rs) (at_none id change missing rows n.1))

pub has_none : (id : List ℕ) (rows : List Row) → all_of id rows ≡ None → has_row id rows ≡ false
has_none id [] h = refl
has_none id (r ∷ rows) h =
    let n = none-cons (bytes_eq r.id id) r (find (λ (x : Row). bytes_eq x.id id) rows) h in
    rw n.0 (has_none id rows n.1)

-- another row behind them
skip : (b : Bool) (r : Row) (a c : Option Row) → option_map (λ (x : Row). x.values) a ≡ option_map (λ (x : Row). x.values) c → option_map (λ (x : Row). x.values) (cond b (Some r) a) ≡ option_map (λ (x : Row). x.values) (cond b (Some r) c)
skip true r a c h = refl
skip false r a c h = h

pub other_behind : (id : List ℕ) (rows : List Row) (new : Row) → bytes_eq new.id id ≡ false → all_of id (rows ++ new ∷ []) ≡ all_of id rows
other_behind id [] new other = rw other refl
other_behind id (r ∷ rows) new other = skip (bytes_eq r.id id) r (find (λ (x : Row). bytes_eq x.id id) (rows ++ new ∷ [])) (find (λ (x : Row). bytes_eq x.id id) rows) (other_behind id rows new other)

pub found_behind : (id : List ℕ) (rows : List Row) (new : Row) → bytes_eq new.id id ≡ true → all_of id rows ≡ None → all_of id (rows ++ new ∷ []) ≡ Some new.values
found_behind id [] new same h = rw same refl
found_behind id (r ∷ rows) new same h =
    let n = none-cons (bytes_eq r.id id) r (find (λ (x : Row). bytes_eq x.id id) rows) h in
    rw n.0 (found_behind id rows new same n.1)

-- the first value by all of them
pub first-all : (id : List ℕ) (rows : List Row) → first_of id rows ≡ option_and_then (λ vs. slice_get vs 0) (all_of id rows)
first-all id rows = by (find (λ (x : Row). bytes_eq x.id id) rows)
  where
    by : (o : Option Row) → option_and_then (λ (r : Row). slice_get r.values 0) o ≡ option_and_then (λ vs. slice_get vs 0) (option_map (λ (r : Row). r.values) o)
    by None = refl
    by (Some r) = refl

same_id : (a b x : List ℕ) → bytes_eq a b ≡ true → bytes_eq b x ≡ false → bytes_eq a x ≡ false
same_id a b x same other = ap (λ t. bytes_eq t x) ((bytes_eq-Decides a b).0 same) ∙ other

-- one more value in the row of an id
grown-at : (b : Bool) (id : List ℕ) (word : List ℕ) (missing : List Row) (r : Row) (rows : List Row) (vs : List (List ℕ)) → bytes_eq r.id id ≡ b → all_of id (r ∷ rows) ≡ Some vs
    → (all_of id rows ≡ Some vs → all_of id (at_row id (more_values CommandLine (word ∷ [])) missing rows) ≡ Some (vs ++ word ∷ [])) → all_of id (at_row id (more_values CommandLine (word ∷ [])) missing (r ∷ rows)) ≡ Some (vs ++ word ∷ [])
grown-at true id word missing r rows vs is h rest = let here : Some r.values ≡ Some vs = rw is at h in rw (is, is) (ap (λ o. option_map (λ xs. xs ++ word ∷ []) o) here)
grown-at false id word missing r rows vs is h rest = let behind : all_of id rows ≡ Some vs = rw is at h in rw (is, is) (rest behind)

pub grown : (id : List ℕ) (word : List ℕ) (missing rows : List Row) (vs : List (List ℕ)) → all_of id rows ≡ Some vs → all_of id (at_row id (more_values CommandLine (word ∷ [])) missing rows) ≡ Some (vs ++ word ∷ [])
grown id word missing [] vs h = cc
grown id word missing (r ∷ rows) vs h = grown-at (bytes_eq r.id id) id word missing r rows vs refl h (λ behind. grown id word missing rows vs behind)

kept-at : (b : Bool) (id x : List ℕ) (word : List ℕ) (missing : List Row) (r : Row) (rows : List Row) (vs : List (List ℕ)) → bytes_eq id x ≡ false → bytes_eq r.id id ≡ b → all_of id (r ∷ rows) ≡ Some vs
    → (all_of id rows ≡ Some vs → all_of x (at_row id (more_values CommandLine (word ∷ [])) missing rows) ≡ all_of x rows) → all_of x (at_row id (more_values CommandLine (word ∷ [])) missing (r ∷ rows)) ≡ all_of x (r ∷ rows)
kept-at true id x word missing r rows vs other is h rest = let not_x = same_id r.id id x is other in rw (is, not_x) refl
kept-at false id x word missing r rows vs other is h rest =
    let behind : all_of id rows ≡ Some vs = rw is at h in
    rw is (skip (bytes_eq r.id x) r (find (λ (y : Row). bytes_eq y.id x) (at_row id (more_values CommandLine (word ∷ [])) missing rows)) (find (λ (y : Row). bytes_eq y.id x) rows) (rest behind))

pub kept : (id x : List ℕ) (word : List ℕ) (missing rows : List Row) (vs : List (List ℕ)) → bytes_eq id x ≡ false → all_of id rows ≡ Some vs → all_of x (at_row id (more_values CommandLine (word ∷ [])) missing rows) ≡ all_of x rows
kept id x word missing [] vs other h = cc
kept id x word missing (r ∷ rows) vs other h = kept-at (bytes_eq r.id id) id x word missing r rows vs other refl h (λ behind. kept id x word missing rows vs other behind)

pub has_some : (id : List ℕ) (rows : List Row) (vs : List (List ℕ)) → all_of id rows ≡ Some vs → has_row id rows ≡ true
has_some id [] vs h = cc
has_some id (r ∷ rows) vs h = by_test (bytes_eq r.id id) refl (λ behind. has_some id rows vs behind)
  where
    by_test : (b : Bool) → bytes_eq r.id id ≡ b → (all_of id rows ≡ Some vs → has_row id rows ≡ true) → bytes_eq r.id id || has_row id rows ≡ true
    by_test true is rest = rw is refl
    by_test false is rest = let behind : all_of id rows ≡ Some vs = rw is at h in rw is (rest behind)
