-- Tables read one after the other: what they say of a number, and that they are tables. Serves edits of lines.
use Rattle.std.proofs.Common.{◌≡◌, ◌∙◌, sym, ap, refl, ℕ, ◌+◌, ◌-◌, ◌<◌, ◌≤◌, Bool, true, false, cond, ◌&&◌, List, [], ◌∷◌, ◌++◌, Option, Some, None, option_and_then, nat_le, nat_lt, arith}
use Rattle.std.specs.List.{cons_option}
use Rattle.std.proofs.lemmas.Bool.{and_parts}
use Rattle.std.proofs.lemmas.Bool.Decides.{nat_tests}
use Rattle.stable_lines.specs.Runs.{holds, image}
use Rattle.stable_lines.specs.declared.run.Run.{Run}
use Rattle.stable_lines.specs.internal.Tables.{after_run, composed, end_by, fits, is_table, joint_start, joint_end}
use Rattle.stable_lines.proofs.TableLemmas.{both, table_parts, table_whole, table_later, fits_sums, sums_fit, held_within, image_below, image_front, image_behind}

-- where the first run takes a number
abbrev pub landing : Run → ℕ → ℕ
landing r x = r.to + (x - r.from)

-- the part of the second run that the first leads to, where there is one
abbrev pub joint : Run → Run → Run
joint r s = record {
  from = r.from + (joint_start r s - r.to);
  to = s.to + (joint_start r s - s.from);
  count = joint_end r s - joint_start r s;
}

joint_holds : (r s : Run) (x : ℕ) → joint_start r s < joint_end r s → holds (joint r s) x ≡ (holds r x && holds s (landing r x))
joint_holds r s x lt = grind (arith, nat_tests)

joint_apart : (r s : Run) (x : ℕ) → joint_end r s ≤ joint_start r s → (holds r x && holds s (landing r x)) ≡ false
joint_apart r s x le = grind (arith, nat_tests)

joint_lands : (r s : Run) (x : ℕ) → joint_start r s < joint_end r s → (holds r x && holds s (landing r x)) ≡ true → landing (joint r s) x ≡ landing s (landing r x)
joint_lands r s x lt h = grind (arith, nat_tests)

same_value : (b : Bool) (v w : ℕ) (others : Option ℕ) → (b ≡ true → v ≡ w) → cond b (Some v) others ≡ cond b (Some w) others
same_value true v w others h = ap (λ z. Some z) (h refl)
same_value false v w others h = refl

step : (r s : Run) (rest : List Run) (x : ℕ) (b : Bool) → nat_lt (joint_start r s) (joint_end r s) ≡ b
    → image (cons_option (cond b (Some (joint r s)) None) rest) x ≡ cond (holds r x && holds s (landing r x)) (Some (landing s (landing r x))) (image rest x)
step r s rest x true e =
    let lt : joint_start r s < joint_end r s = grind (arith, nat_tests) in
    ap (λ b. cond b (Some (landing (joint r s) x)) (image rest x)) (joint_holds r s x lt)
    ∙ same_value (holds r x && holds s (landing r x)) _ _ (image rest x) (joint_lands r s x lt)
step r s rest x false e =
    let le : joint_end r s ≤ joint_start r s = grind (arith, nat_tests) in
    sym (ap (λ b. cond b (Some (landing s (landing r x))) (image rest x)) (joint_apart r s x le))

nested : (a b : Bool) (v : ℕ) (others : Option ℕ) → cond (a && b) (Some v) (cond a others None) ≡ cond a (cond b (Some v) others) None
nested true true v others = refl
nested true false v others = refl
nested false b v others = refl

none_either : (b : Bool) → None ≡ cond {A = Option ℕ} b None None
none_either true = refl
none_either false = refl

pub image-after_run : (r : Run) (ss : List Run) (x : ℕ) → image (after_run r ss) x ≡ cond (holds r x) (image ss (landing r x)) None
image-after_run r [] x = none_either (holds r x)
image-after_run r (s ∷ ss) x =
    step r s (after_run r ss) x (nat_lt (joint_start r s) (joint_end r s)) refl
    ∙ ap (cond (holds r x && holds s (landing r x)) (Some (landing s (landing r x)))) (image-after_run r ss x)
    ∙ nested (holds r x) (holds s (landing r x)) (landing s (landing r x)) (image ss (landing r x))

within : (r : Run) (x : ℕ) → holds r x ≡ true → x < r.from + r.count
within r x h = (held_within r x h).1

landed : (r : Run) (rs ss : List Run) (x : ℕ) (z : Option ℕ) → image ss (landing r x) ≡ z → image (after_run r ss) x ≡ image ss (landing r x) → image (composed rs ss) x ≡ None
    → image (after_run r ss ++ composed rs ss) x ≡ image ss (landing r x)
landed r rs ss x None e first rest = image_behind (after_run r ss) (composed rs ss) x (first ∙ e) ∙ rest ∙ sym e
landed r rs ss x (Some y) e first rest = image_front (after_run r ss) (composed rs ss) x y (first ∙ e) ∙ sym e

-- a table read before another leads where the other leads from where it leads
one_run : (r : Run) (rs ss : List Run) (x : ℕ) (b : Bool) → holds r x ≡ b → is_table (r.from + r.count) rs ≡ true
    → image (composed rs ss) x ≡ option_and_then (image ss) (image rs x)
    → image (after_run r ss ++ composed rs ss) x ≡ option_and_then (image ss) (cond b (Some (landing r x)) (image rs x))
one_run r rs ss x true e table h =
    landed r rs ss x (image ss (landing r x)) refl (image-after_run r ss x ∙ ap (λ b. cond b (image ss (landing r x)) None) e)
    (h ∙ ap (option_and_then (image ss)) (image_below (r.from + r.count) rs x table (within r x e)))
one_run r rs ss x false e table h =
    image_behind (after_run r ss) (composed rs ss) x (image-after_run r ss x ∙ ap (λ b. cond b (image ss (landing r x)) None) e) ∙ h

pub image-composed : (low : ℕ) (rs ss : List Run) (x : ℕ) → is_table low rs ≡ true → image (composed rs ss) x ≡ option_and_then (image ss) (image rs x)
image-composed low [] ss x table = refl
image-composed low (r ∷ rs) ss x table =
    let w = table_parts low r rs table in one_run r rs ss x (holds r x) refl w.2 (image-composed (r.from + r.count) rs ss x w.2)

-- where the runs of a list end
pub ends_later : (end later : ℕ) (rs : List Run) → end ≤ later → end_by end rs ≡ true → end_by later rs ≡ true
ends_later end later [] le h = refl
ends_later end later (r ∷ rs) le h =
    let u = and_parts (nat_le (r.from + r.count) end) (end_by end rs) h in
    let ends : nat_le (r.from + r.count) end ≡ true = u.0 in
    let first : nat_le (r.from + r.count) later ≡ true = grind (arith, nat_tests) in
    both (nat_le (r.from + r.count) later) (end_by later rs) first (ends_later end later rs le u.1)

pub ends_append : (end : ℕ) (first second : List Run) → end_by end first ≡ true → end_by end second ≡ true → end_by end (first ++ second) ≡ true
ends_append end [] second a b = b
ends_append end (r ∷ first) second a b =
    let u = and_parts (nat_le (r.from + r.count) end) (end_by end first) a in
    both (nat_le (r.from + r.count) end) (end_by end (first ++ second)) u.0 (ends_append end first second u.1 b)

pub table_append : (low end : ℕ) (first second : List Run) → low ≤ end → is_table low first ≡ true → end_by end first ≡ true → is_table end second ≡ true → is_table low (first ++ second) ≡ true
table_append low end [] second le a e b = table_later end low second le b
table_append low end (r ∷ first) second le a e b =
    let w = table_parts low r first a in
    let u = and_parts (nat_le (r.from + r.count) end) (end_by end first) e in
    let ends : nat_le (r.from + r.count) end ≡ true = u.0 in
    table_whole low r (first ++ second) w.0 w.1 (table_append (r.from + r.count) end first second (grind (arith, nat_tests)) w.2 u.1 b)

joint_in : (r s : Run) → joint_start r s < joint_end r s → (joint r s).from + (joint r s).count ≤ r.from + r.count
joint_in r s lt = omega arith

after_ends_step : (r s : Run) (rest : List Run) (b : Bool) → nat_lt (joint_start r s) (joint_end r s) ≡ b → end_by (r.from + r.count) rest ≡ true
    → end_by (r.from + r.count) (cons_option (cond b (Some (joint r s)) None) rest) ≡ true
after_ends_step r s rest true e h =
    let lt : joint_start r s < joint_end r s = grind (arith, nat_tests) in
    let le = joint_in r s lt in
    let first : nat_le ((joint r s).from + (joint r s).count) (r.from + r.count) ≡ true = grind (arith, nat_tests) in
    both (nat_le ((joint r s).from + (joint r s).count) (r.from + r.count)) (end_by (r.from + r.count) rest) first h
after_ends_step r s rest false e h = h

after_ends : (r : Run) (ss : List Run) → end_by (r.from + r.count) (after_run r ss) ≡ true
after_ends r [] = refl
after_ends r (s ∷ ss) = after_ends_step r s (after_run r ss) (nat_lt (joint_start r s) (joint_end r s)) refl (after_ends r ss)

joint_fits : (r s : Run) → joint_start r s < joint_end r s → fits r ≡ true → fits s ≡ true → fits (joint r s) ≡ true
joint_fits r s lt a b =
    let u = fits_sums r a in
    let v = fits_sums s b in sums_fit (joint r s) (omega arith) (omega arith)

joint_late : (m : ℕ) (r s : Run) → joint_start r s < joint_end r s → m ≤ s.from → r.from + (m - r.to) ≤ (joint r s).from
joint_late m r s lt le = omega arith

joint_early : (r s : Run) → joint_start r s < joint_end r s → (joint r s).from + (joint r s).count ≤ r.from + (s.from + s.count - r.to)
joint_early r s lt = omega arith

after_step : (m : ℕ) (r s : Run) (rest : List Run) (b : Bool) → nat_lt (joint_start r s) (joint_end r s) ≡ b → m ≤ s.from → fits r ≡ true → fits s ≡ true
    → is_table (r.from + (s.from + s.count - r.to)) rest ≡ true → is_table (r.from + (m - r.to)) (cons_option (cond b (Some (joint r s)) None) rest) ≡ true
after_step m r s rest true e le fr fs h =
    let lt : joint_start r s < joint_end r s = grind (arith, nat_tests) in
    table_whole (r.from + (m - r.to)) (joint r s) rest (joint_late m r s lt le) (joint_fits r s lt fr fs)
    (table_later (r.from + (s.from + s.count - r.to)) ((joint r s).from + (joint r s).count) rest (joint_early r s lt) h)
after_step m r s rest false e le fr fs h = table_later (r.from + (s.from + s.count - r.to)) (r.from + (m - r.to)) rest (omega arith) h

after_table : (m : ℕ) (r : Run) (ss : List Run) → fits r ≡ true → is_table m ss ≡ true → is_table (r.from + (m - r.to)) (after_run r ss) ≡ true
after_table m r [] fit h = refl
after_table m r (s ∷ ss) fit h =
    let w = table_parts m s ss h in
    after_step m r s (after_run r ss) (nat_lt (joint_start r s) (joint_end r s)) refl w.0 fit w.1 (after_table (s.from + s.count) r ss fit w.2)

pub composed_table : (low : ℕ) (rs ss : List Run) → is_table low rs ≡ true → is_table 0 ss ≡ true → is_table low (composed rs ss) ≡ true
composed_table low [] ss a b = refl
composed_table low (r ∷ rs) ss a b =
    let w = table_parts low r rs a in
    table_append low (r.from + r.count) (after_run r ss) (composed rs ss) (omega arith)
    (table_later (r.from + (0 - r.to)) low (after_run r ss) (omega arith) (after_table 0 r ss w.1 b)) (after_ends r ss) (composed_table (r.from + r.count) rs ss w.2 b)

pub composed_ends : (end : ℕ) (rs ss : List Run) → end_by end rs ≡ true → end_by end (composed rs ss) ≡ true
composed_ends end [] ss h = refl
composed_ends end (r ∷ rs) ss h =
    let u = and_parts (nat_le (r.from + r.count) end) (end_by end rs) h in
    let ends : nat_le (r.from + r.count) end ≡ true = u.0 in
    ends_append end (after_run r ss) (composed rs ss) (ends_later (r.from + r.count) end (after_run r ss) (grind (arith, nat_tests)) (after_ends r ss)) (composed_ends end rs ss u.1)
