-- Tables: runs in order, none overlapping, whose sums fit 64 bits; and how two tables are read one after the other.
use Rattle.std.specs.Prelude.{ℕ, ◌+◌, ◌-◌, ◌<◌, ◌≤◌, Bool, true, ◌&&◌, nat_le, nat_lt, max, min, if◌then◌else◌, List, [], ◌∷◌, ◌++◌, Option, Some, None, filter_map}
use Rattle.std.specs.List.{list_all}
use Rattle.stable_lines.specs.Runs.{holds}
use Rattle.stable_lines.specs.declared.run.Run.{Run}

-- the sums of a run fit 64 bits
abbrev pub fits : Run → Bool
fits r = nat_lt (r.from + r.count) 18446744073709551616 && nat_lt (r.to + r.count) 18446744073709551616

-- each run begins where the one before has ended, or behind it, and the first at `low` or behind it
abbrev pub is_table : ℕ → List Run → Bool
is_table low [] = true
is_table low (r ∷ rs) = nat_le low r.from && (fits r && is_table (r.from + r.count) rs)

-- each run ends at `end` or before it
abbrev pub end_by : ℕ → List Run → Bool
end_by end [] = true
end_by end (r ∷ rs) = nat_le (r.from + r.count) end && end_by end rs

-- the first run that has the number
abbrev pub run_with : List Run → ℕ → Option Run
run_with [] x = None
run_with (r ∷ rs) x = if holds r x then Some r else run_with rs x

-- the run has the number, and its sums fit 64 bits
abbrev pub IsFound : Run → ℕ → Type 0
IsFound r x = (r.from ≤ x) × (x < r.from + r.count) × (r.from + r.count < 18446744073709551616) × (r.to + r.count < 18446744073709551616)

-- the number where the first run leads to the second, and where it ends to do so
abbrev pub joint_start : Run → Run → ℕ
joint_start r s = max r.to s.from

abbrev pub joint_end : Run → Run → ℕ
joint_end r s = min (r.to + r.count) (s.from + s.count)

-- the part of the second run that the first leads to, by the numbers of the first
abbrev pub part : Run → Run → Option Run
part r s =
    if nat_lt (joint_start r s) (joint_end r s)
    then Some (record {
      from = r.from + (joint_start r s - r.to);
      to = s.to + (joint_start r s - s.from);
      count = joint_end r s - joint_start r s;
    })
    else None

-- a run, read before a table
abbrev pub after_run : Run → List Run → List Run
after_run r ss = filter_map (part r) ss

-- a table, read before another
abbrev pub composed : List Run → List Run → List Run
composed [] ss = []
composed (r ∷ rs) ss = after_run r ss ++ composed rs ss

-- the sums of each run fit 64 bits
abbrev pub are_fit : List Run → Bool
are_fit rs = list_all fits rs
