-- What a parse found, by rows and by entries. It serves the readers of values.
use Rattle.std.proofs.Common.{◌≡◌, ◌∙◌, sym, ap, refl, ℕ, Bool, true, false, cond, List, [], ◌∷◌, map, Option, Some, None}
use Rattle.std.specs.Prelude.{option_map, option_and_then, slice_get, find}
use Rattle.std.specs.Str.{bytes_eq}
use Rattle.std.specs.Borrow.{Bor}
use Rattle.clap.specs.Facts.{Entry}
use Rattle.clap.specs.Matches.{first_value, matched_of, raw_values}
use Rattle.clap.specs.Walk.{Row, all_of, first_of, row_of, rows_of, texts}
use Rattle.clap.specs.declared.parser.matches.Found.{Found}

step : (b : Bool) (e : Entry) (rows : Option Row) (entries : Option Entry) → rows ≡ option_map row_of entries → cond b (Some (row_of e)) rows ≡ option_map row_of (cond b (Some e) entries)
step true e rows entries same = refl
step false e rows entries same = same

find-row : (es : List Entry) (id : List ℕ) → find (λ (r : Row). bytes_eq r.id id) (map row_of es) ≡ option_map row_of (find (λ (e : Entry). bytes_eq e.0.now id) es)
find-row [] id = refl
find-row (e ∷ es) id = step (bytes_eq e.0.now id) e (find (λ (r : Row). bytes_eq r.id id) (map row_of es)) (find (λ (e : Entry). bytes_eq e.0.now id) es) (find-row es id)

first-text : (vals : List (Bor (List ℕ))) → slice_get (texts vals) 0 ≡ option_map (λ s. s.now) (slice_get vals 0)
first-text [] = refl
first-text (v ∷ vals) = refl

first-at : (o : Option Entry) → option_and_then (λ (r : Row). slice_get r.values 0) (option_map row_of o) ≡ option_and_then (λ a. option_map (λ s. s.now) (slice_get a.vals.items 0)) (option_map (λ (e : Entry). e.1) o)
first-at None = refl
first-at (Some e) = first-text e.1.vals.items

all-at : (o : Option Entry) → option_map (λ (r : Row). r.values) (option_map row_of o) ≡ option_map raw_values (option_map (λ (e : Entry). e.1) o)
all-at None = refl
all-at (Some e) = refl

-- the first value of an id
pub first-value : (f : Found) (id : List ℕ) → first_value f id ≡ first_of id (rows_of f)
first-value f id = sym (ap (option_and_then (λ (r : Row). slice_get r.values 0)) (find-row f.entries.items id) ∙ first-at (find (λ (e : Entry). bytes_eq e.0.now id) f.entries.items))

-- all values of an id
pub all-values : (f : Found) (id : List ℕ) → option_map raw_values (matched_of f id) ≡ all_of id (rows_of f)
all-values f id = sym (ap (option_map (λ (r : Row). r.values)) (find-row f.entries.items id) ∙ all-at (find (λ (e : Entry). bytes_eq e.0.now id) f.entries.items))
