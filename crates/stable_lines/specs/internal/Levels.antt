-- Tables in levels: a near one over farther ones, of which each is read where the one before it leads.
use Rattle.std.specs.Prelude.{◌≡◌, ℕ, ◌+◌, ◌<◌, ◌≤◌, List, [], ◌∷◌, Option, Some, map, option_and_then}
use Rattle.stable_lines.specs.Runs.{Leveled, image}
use Rattle.stable_lines.specs.declared.level.Level.{Level}
use Rattle.stable_lines.specs.declared.run.Run.{Run}
use Rattle.stable_lines.specs.internal.Tables.{composed}

-- the runs of a level
abbrev pub runs_of : Level → List Run
runs_of l = l.runs.value.items

-- those of each
abbrev pub all_runs : List Level → List (List Run)
all_runs ls = map runs_of ls

-- where tables lead, one after the other
abbrev pub through : List (List Run) → ℕ → Option ℕ
through [] x = Some x
through (t ∷ ts) x = option_and_then (through ts) (image t x)

-- where they lead from the last to the first
abbrev pub back_through : List (List Run) → ℕ → Option ℕ
back_through [] x = Some x
back_through (t ∷ ts) x = option_and_then (image t) (back_through ts x)

-- the one table that the near one and the others behind it come to
abbrev pub joined : List Run → List (List Run) → List Run
joined near [] = near
joined near (t ∷ ts) = composed near (joined t ts)

-- the same from the last to the near one
abbrev pub joined_back : List Run → List (List Run) → List Run
joined_back near [] = near
joined_back near (t ∷ ts) = composed (joined_back t ts) near

-- it leads where they lead
abbrev pub IsRead : Leveled → Type 0
IsRead l = (x : ℕ) → image l.items x ≡ option_and_then (through l.far) (image l.near x)

abbrev pub IsReadBack : Leveled → Type 0
IsReadBack l = (x : ℕ) → image l.items x ≡ option_and_then (image l.near) (back_through l.far x)

-- the same levels
abbrev pub AreSameLevels : Leveled → Leveled → Type 0
AreSameLevels l m = (m.items ≡ l.items) × (m.near ≡ l.near) × (m.far ≡ l.far)

-- the run goes on with a part of it where tables lead
abbrev pub IsLed : List (List Run) → Run → Run → Type 0
IsLed ts r led = (led.from ≡ r.from) × (0 < led.count) × (led.count ≤ r.count) × ((i : ℕ) → i < led.count → through ts (r.to + i) ≡ Some (led.to + i))
