-- What tables of runs say of one number: look-ups in parts of a table, and tables behind one another.
use Rattle.std.proofs.Common.{◌≡◌, ◌∙◌, sym, ap, refl, ℕ, ◌+◌, ◌-◌, ◌<◌, ◌≤◌, Bool, true, false, cond, ◌&&◌, List, [], ◌∷◌, ◌++◌, Option, Some, None, option_map, nat_le, nat_lt, arith, subst}
use Rattle.std.proofs.lemmas.Bool.{and_parts}
use Rattle.std.proofs.lemmas.Option.{same_Some}
use Rattle.std.proofs.lemmas.Bool.Decides.{nat_tests}
use Rattle.stable_lines.specs.Runs.{holds, image}
use Rattle.stable_lines.specs.declared.run.Run.{Run}
use Rattle.stable_lines.specs.internal.Tables.{IsFound, are_fit, fits, is_table, run_with}

pub both : (a b : Bool) → a ≡ true → b ≡ true → (a && b) ≡ true
both true b e h = h
both false b e h = cc

-- a table in parts, and put together
pub table_parts : (low : ℕ) (r : Run) (rs : List Run) → is_table low (r ∷ rs) ≡ true → (low ≤ r.from) × (fits r ≡ true) × (is_table (r.from + r.count) rs ≡ true)
table_parts low r rs h =
    let a = and_parts (nat_le low r.from) (fits r && is_table (r.from + r.count) rs) h in
    let b = and_parts (fits r) (is_table (r.from + r.count) rs) a.1 in
    let first : nat_le low r.from ≡ true = a.0 in (grind (arith, nat_tests), b.0, b.1)

pub table_whole : (low : ℕ) (r : Run) (rs : List Run) → low ≤ r.from → fits r ≡ true → is_table (r.from + r.count) rs ≡ true → is_table low (r ∷ rs) ≡ true
table_whole low r rs first fit rest =
    let start : nat_le low r.from ≡ true = grind (arith, nat_tests) in
    both (nat_le low r.from) (fits r && is_table (r.from + r.count) rs) start (both (fits r) (is_table (r.from + r.count) rs) fit rest)

pub fits_sums : (r : Run) → fits r ≡ true → (r.from + r.count < 18446744073709551616) × (r.to + r.count < 18446744073709551616)
fits_sums r h =
    let a = and_parts (nat_lt (r.from + r.count) 18446744073709551616) (nat_lt (r.to + r.count) 18446744073709551616) h in
    let from : nat_lt (r.from + r.count) 18446744073709551616 ≡ true = a.0 in
    let to : nat_lt (r.to + r.count) 18446744073709551616 ≡ true = a.1 in (grind (arith, nat_tests), grind (arith, nat_tests))

pub sums_fit : (r : Run) → r.from + r.count < 18446744073709551616 → r.to + r.count < 18446744073709551616 → fits r ≡ true
sums_fit r from to =
    let a : nat_lt (r.from + r.count) 18446744073709551616 ≡ true = grind (arith, nat_tests) in
    let b : nat_lt (r.to + r.count) 18446744073709551616 ≡ true = grind (arith, nat_tests) in
    both (nat_lt (r.from + r.count) 18446744073709551616) (nat_lt (r.to + r.count) 18446744073709551616) a b

-- a table that begins later begins no earlier than that
pub table_later : (low lower : ℕ) (rs : List Run) → lower ≤ low → is_table low rs ≡ true → is_table lower rs ≡ true
table_later low lower [] le h = refl
table_later low lower (r ∷ rs) le h = let w = table_parts low r rs h in table_whole lower r rs (omega arith) w.1 w.2

pub table_fits : (low : ℕ) (rs : List Run) → is_table low rs ≡ true → are_fit rs ≡ true
table_fits low [] h = refl
table_fits low (r ∷ rs) h = let w = table_parts low r rs h in both (fits r) (are_fit rs) w.1 (table_fits (r.from + r.count) rs w.2)

-- the test of a run
pub held : (r : Run) (x : ℕ) → r.from ≤ x → x < r.from + r.count → holds r x ≡ true
held r x low high = grind (arith, nat_tests)

pub not_reached : (r : Run) (x : ℕ) → x < r.from → holds r x ≡ false
not_reached r x low = grind (arith, nat_tests)

pub passed : (r : Run) (x : ℕ) → r.from + r.count ≤ x → holds r x ≡ false
passed r x high = grind (arith, nat_tests)

pub held_within : (r : Run) (x : ℕ) → holds r x ≡ true → (r.from ≤ x) × (x < r.from + r.count)
held_within r x h =
    let a = and_parts (nat_le r.from x) (nat_lt x (r.from + r.count)) h in
    let low : nat_le r.from x ≡ true = a.0 in
    let high : nat_lt x (r.from + r.count) ≡ true = a.1 in (grind (arith, nat_tests), grind (arith, nat_tests))

-- nothing is before the table's beginning
pub run_below : (low : ℕ) (rs : List Run) (x : ℕ) → is_table low rs ≡ true → x < low → run_with rs x ≡ None
run_below low [] x h lt = refl
run_below low (r ∷ rs) x h lt =
    let w = table_parts low r rs h in
    let none : holds r x ≡ false = not_reached r x (omega arith) in
    rw none (run_below (r.from + r.count) rs x w.2 (omega arith))

taken : (b : Bool) (r : Run) (x : ℕ) (others : Option Run) (images : Option ℕ) → images ≡ option_map (λ s. s.to + (x - s.from)) others
    → cond b (Some (r.to + (x - r.from))) images ≡ option_map (λ (s : Run). s.to + (x - s.from)) (cond b (Some r) others)
taken true r x others images h = refl
taken false r x others images h = h

-- the image is that by the run which has the number
pub image-run_with : (rs : List Run) (x : ℕ) → image rs x ≡ option_map (λ r. r.to + (x - r.from)) (run_with rs x)
image-run_with [] x = refl
image-run_with (r ∷ rs) x = taken (holds r x) r x (run_with rs x) (image rs x) (image-run_with rs x)

pub image_below : (low : ℕ) (rs : List Run) (x : ℕ) → is_table low rs ≡ true → x < low → image rs x ≡ None
image_below low rs x h lt = image-run_with rs x ∙ ap (option_map (λ r. r.to + (x - r.from))) (run_below low rs x h lt)

-- the run in the middle of a table tells where to look on
pub begins_late : (low : ℕ) (front : List Run) (r : Run) (behind : List Run) → is_table low (front ++ (r ∷ behind)) ≡ true → low ≤ r.from
begins_late low [] r behind h = (table_parts low r behind h).0
begins_late low (f ∷ front) r behind h =
    let w = table_parts low f (front ++ (r ∷ behind)) h in
    let rest = begins_late (f.from + f.count) front r behind w.2 in omega arith

pub run_before : (low : ℕ) (front : List Run) (r : Run) (behind : List Run) (x : ℕ) → is_table low (front ++ (r ∷ behind)) ≡ true → x < r.from
    → run_with (front ++ (r ∷ behind)) x ≡ run_with front x
run_before low [] r behind x h lt =
    let w = table_parts low r behind h in
    let none : holds r x ≡ false = not_reached r x lt in
    rw none (run_below (r.from + r.count) behind x w.2 (omega arith))
run_before low (f ∷ front) r behind x h lt =
    let w = table_parts low f (front ++ (r ∷ behind)) h in
    ap (λ z. cond (holds f x) (Some f) z) (run_before (f.from + f.count) front r behind x w.2 lt)

pub run_from_there : (low : ℕ) (front : List Run) (r : Run) (behind : List Run) (x : ℕ) → is_table low (front ++ (r ∷ behind)) ≡ true → r.from ≤ x
    → run_with (front ++ (r ∷ behind)) x ≡ run_with (r ∷ behind) x
run_from_there low [] r behind x h le = refl
run_from_there low (f ∷ front) r behind x h le =
    let w = table_parts low f (front ++ (r ∷ behind)) h in
    let late = begins_late (f.from + f.count) front r behind w.2 in
    let none : holds f x ≡ false = passed f x (omega arith) in
    rw none (run_from_there (f.from + f.count) front r behind x w.2 le)

pub run_there : (low : ℕ) (front : List Run) (r : Run) (behind : List Run) (x : ℕ) → is_table low (front ++ (r ∷ behind)) ≡ true → r.from ≤ x → x < r.from + r.count
    → run_with (front ++ (r ∷ behind)) x ≡ Some r
run_there low front r behind x h le lt =
    run_from_there low front r behind x h le ∙ ap (λ b. cond b (Some r) (run_with behind x)) (held r x le lt)

pub run_behind : (low : ℕ) (front : List Run) (r : Run) (behind : List Run) (x : ℕ) → is_table low (front ++ (r ∷ behind)) ≡ true → r.from + r.count ≤ x
    → run_with (front ++ (r ∷ behind)) x ≡ run_with behind x
run_behind low front r behind x h le =
    run_from_there low front r behind x h (omega arith) ∙ ap (λ b. cond b (Some r) (run_with behind x)) (passed r x le)

pub front_table : (low : ℕ) (front behind : List Run) → is_table low (front ++ behind) ≡ true → is_table low front ≡ true
front_table low [] behind h = refl
front_table low (f ∷ front) behind h =
    let w = table_parts low f (front ++ behind) h in table_whole low f front w.0 w.1 (front_table (f.from + f.count) front behind w.2)

pub behind_table : (low : ℕ) (front : List Run) (r : Run) (behind : List Run) → is_table low (front ++ (r ∷ behind)) ≡ true → is_table (r.from + r.count) behind ≡ true
behind_table low [] r behind h = (table_parts low r behind h).2
behind_table low (f ∷ front) r behind h = behind_table (f.from + f.count) front r behind (table_parts low f (front ++ (r ∷ behind)) h).2

pub middle_fits : (low : ℕ) (front : List Run) (r : Run) (behind : List Run) → is_table low (front ++ (r ∷ behind)) ≡ true → fits r ≡ true
middle_fits low [] r behind h = (table_parts low r behind h).1
middle_fits low (f ∷ front) r behind h = middle_fits (f.from + f.count) front r behind (table_parts low f (front ++ (r ∷ behind)) h).2

found_first : (f r : Run) (x : ℕ) (b : Bool) (others : Option Run) → holds f x ≡ b → fits f ≡ true → (others ≡ Some r → IsFound r x) → cond b (Some f) others ≡ Some r → IsFound r x
found_first f r x true others e fit k h =
    let same : f ≡ r = same_Some f r h in
    let w = held_within f x e in subst (λ z. IsFound z x) same (w.0, w.1, (fits_sums f fit).0, (fits_sums f fit).1)
found_first f r x false others e fit k h = k h

-- the run that has a number
pub found_run : (low : ℕ) (rs : List Run) (x : ℕ) (r : Run) → is_table low rs ≡ true → run_with rs x ≡ Some r → IsFound r x
found_run low [] x r h e = cc
found_run low (f ∷ rs) x r h e =
    let w = table_parts low f rs h in found_first f r x (holds f x) (run_with rs x) refl w.1 (found_run (f.from + f.count) rs x r w.2) e

-- the images of one list of runs, then of another
first_image : (b : Bool) (v : ℕ) (r s : Option ℕ) (y : ℕ) → (r ≡ Some y → s ≡ Some y) → cond b (Some v) r ≡ Some y → cond b (Some v) s ≡ Some y
first_image true v r s y k h = h
first_image false v r s y k h = k h

pub image_front : (first second : List Run) (x y : ℕ) → image first x ≡ Some y → image (first ++ second) x ≡ Some y
image_front [] second x y h = cc
image_front (a ∷ first) second x y h = first_image (holds a x) (a.to + (x - a.from)) (image first x) (image (first ++ second) x) y (image_front first second x y) h

second_image : (b : Bool) (v : ℕ) (r s t : Option ℕ) → (r ≡ None → s ≡ t) → cond b (Some v) r ≡ None → cond b (Some v) s ≡ t
second_image true v r s t k h = cc
second_image false v r s t k h = k h

pub image_behind : (first second : List Run) (x : ℕ) → image first x ≡ None → image (first ++ second) x ≡ image second x
image_behind [] second x h = refl
image_behind (a ∷ first) second x h = second_image (holds a x) (a.to + (x - a.from)) (image first x) (image (first ++ second) x) (image second x) (image_behind first second x) h

-- a run that has a number has each number between its ends
late_first : (f r : Run) (x low : ℕ) (b : Bool) (others : Option Run) → holds f x ≡ b → low ≤ f.from → (others ≡ Some r → f.from + f.count ≤ r.from) → cond b (Some f) others ≡ Some r → low ≤ r.from
late_first f r x low true others e le k h = let same : f ≡ r = same_Some f r h in subst (λ z. low ≤ z.from) same le
late_first f r x low false others e le k h = let rest = k h in omega arith

pub found_late : (low : ℕ) (rs : List Run) (x : ℕ) (r : Run) → is_table low rs ≡ true → run_with rs x ≡ Some r → low ≤ r.from
found_late low [] x r h e = cc
found_late low (f ∷ rs) x r h e =
    let w = table_parts low f rs h in late_first f r x low (holds f x) (run_with rs x) refl w.0 (found_late (f.from + f.count) rs x r w.2) e

same_first : (f r : Run) (x y : ℕ) (b : Bool) (rs : List Run) → holds f x ≡ b → is_table (f.from + f.count) rs ≡ true → (run_with rs x ≡ Some r → run_with rs y ≡ Some r) → r.from ≤ y → y < r.from + r.count
    → cond b (Some f) (run_with rs x) ≡ Some r → cond (holds f y) (Some f) (run_with rs y) ≡ Some r
same_first f r x y true rs e table k low high h =
    let same : r ≡ f = sym (same_Some f r h) in
    let there : holds f y ≡ true = subst (λ z. holds z y ≡ true) same (held r y low high) in rw there h
same_first f r x y false rs e table k low high h =
    let late = found_late (f.from + f.count) rs x r table h in
    let past : holds f y ≡ false = passed f y (omega arith) in rw past (k h)

pub same_run : (low : ℕ) (rs : List Run) (x y : ℕ) (r : Run) → is_table low rs ≡ true → r.from ≤ y → y < r.from + r.count → run_with rs x ≡ Some r → run_with rs y ≡ Some r
same_run low [] x y r h le lt e = cc
same_run low (f ∷ rs) x y r h le lt e =
    let w = table_parts low f rs h in same_first f r x y (holds f x) rs refl w.2 (same_run (f.from + f.count) rs x y r w.2 le lt) le lt e

pub image_in_run : (rs : List Run) (x y : ℕ) (r : Run) → is_table 0 rs ≡ true → r.from ≤ y → y < r.from + r.count → run_with rs x ≡ Some r → image rs y ≡ Some (r.to + (y - r.from))
image_in_run rs x y r h le lt e = image-run_with rs y ∙ ap (option_map (λ s. s.to + (y - s.from))) (same_run 0 rs x y r h le lt e)
