-- Runs that another run doesn't lead to: those that end before it leads there, and those that begin behind. Serves the search in a
-- table that another is read before.
use Rattle.std.proofs.Common.{◌≡◌, ◌∙◌, sym, refl, ℕ, ◌+◌, ◌≤◌, zero, suc, Bool, true, false, cond, List, [], ◌∷◌, ◌++◌, Some, None, nat_lt, ◌<◌, length, drop, get_or, append-nil, arith}
use Rattle.std.specs.List.{cons_option}
use Rattle.std.proofs.lemmas.Bool.Decides.{nat_tests}
use Rattle.stable_lines.specs.declared.run.Run.{Run}
use Rattle.stable_lines.specs.internal.Tables.{after_run, fits, is_table, joint_end, joint_start}
use Rattle.stable_lines.proofs.Compositions.{joint}
use Rattle.stable_lines.proofs.TableLemmas.{begins_late, table_parts}

-- nothing comes of a run that the first doesn't lead to
apart : (r s : Run) (rest : List Run) (b : Bool) → nat_lt (joint_start r s) (joint_end r s) ≡ b → joint_end r s ≤ joint_start r s → cons_option (cond b (Some (joint r s)) None) rest ≡ rest
apart r s rest true e le = absurd (grind (arith, nat_tests))
apart r s rest false e le = refl

-- nothing comes of a table that begins where the run leads no more
pub none_behind : (low : ℕ) (r : Run) (ss : List Run) → is_table low ss ≡ true → r.to + r.count ≤ low → after_run r ss ≡ []
none_behind low r [] h le = refl
none_behind low r (s ∷ ss) h le =
    let w = table_parts low s ss h in
    apart r s (after_run r ss) (nat_lt (joint_start r s) (joint_end r s)) refl (omega arith) ∙ none_behind (s.from + s.count) r ss w.2 (omega arith)

left : (low : ℕ) (r : Run) (front : List Run) (s : Run) (behind : List Run) → is_table low (front ++ (s ∷ behind)) ≡ true → s.from + s.count ≤ r.to
    → after_run r (front ++ (s ∷ behind)) ≡ after_run r behind
left low r [] s behind h le = apart r s (after_run r behind) (nat_lt (joint_start r s) (joint_end r s)) refl (omega arith)
left low r (f ∷ front) s behind h le =
    let w = table_parts low f (front ++ (s ∷ behind)) h in
    let late = begins_late (f.from + f.count) front s behind w.2 in
    apart r f (after_run r (front ++ (s ∷ behind))) (nat_lt (joint_start r f) (joint_end r f)) refl (omega arith) ∙ left (f.from + f.count) r front s behind w.2 le

-- nor of the runs up to one that ends where the first begins to lead
pub none_before : (low : ℕ) (r : Run) (front : List Run) (s : Run) (behind : List Run) → is_table low (front ++ (s ∷ behind)) ≡ true → s.from + s.count ≤ r.to
    → after_run r behind ≡ after_run r (front ++ (s ∷ behind))
none_before low r front s behind h le = sym (left low r front s behind h le)

-- nothing comes of a table from a run on that begins where the first leads no more
none_onward : (i low : ℕ) (r : Run) (ss : List Run) (d : Run) → is_table low ss ≡ true → i < length ss → r.to + r.count ≤ (get_or ss i d).from → after_run r (drop i ss) ≡ []
none_onward i low r [] d h inside le = absurd (omega (arith, inside))
none_onward zero low r (s ∷ ss) d h inside le =
    let w = table_parts low s ss h in
    apart r s (after_run r ss) (nat_lt (joint_start r s) (joint_end r s)) refl (omega (arith, le)) ∙ none_behind (s.from + s.count) r ss w.2 (omega (arith, le))
none_onward (suc i) low r (s ∷ ss) d h inside le = none_onward i (s.from + s.count) r ss d (table_parts low s ss h).2 (omega (arith, inside)) le

pub none_from : (i : ℕ) (r : Run) (ss : List Run) (d : Run) (made : List Run) → is_table 0 ss ≡ true → i < length ss → r.to + r.count ≤ (get_or ss i d).from → made ++ after_run r (drop i ss) ≡ made
none_from i r ss d made h inside le = rw (none_onward i 0 r ss d h inside le) (append-nil made)

item_onward : (i low : ℕ) (ss : List Run) (d : Run) → is_table low ss ≡ true → i < length ss → fits (get_or ss i d) ≡ true
item_onward i low [] d h inside = absurd (omega (arith, inside))
item_onward zero low (s ∷ ss) d h inside = (table_parts low s ss h).1
item_onward (suc i) low (s ∷ ss) d h inside = item_onward i (s.from + s.count) ss d (table_parts low s ss h).2 (omega (arith, inside))

-- each run of a table fits
pub item_fits : (i : ℕ) (ss : List Run) (d : Run) → is_table 0 ss ≡ true → i < length ss → fits (get_or ss i d) ≡ true
item_fits i ss d h inside = item_onward i 0 ss d h inside
