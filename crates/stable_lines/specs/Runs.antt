-- Runs of numbers that stand for others in a row. Source: this project's own.
use Rattle.std.specs.Prelude.{◌≡◌, ℕ, ◌+◌, ◌-◌, ◌↔◌, Bool, ◌&&◌, nat_le, nat_lt, if◌then◌else◌, List, [], ◌∷◌, Option, Some, None}
use Rattle.stable_lines.specs.declared.run.Run.{Run}

-- a table in levels: the runs that all of them come to, those of the near level, and those of the farther ones
pub record Leveled : Type 0 where
  pub items : List Run
  pub near : List Run
  pub far : List (List Run)

-- the number is one of those that the run takes
abbrev pub holds : Run → ℕ → Bool
holds r x = nat_le r.from x && nat_lt x (r.from + r.count)

-- where the first run that has the number takes it
abbrev pub image : List Run → ℕ → Option ℕ
image [] x = None
image (r ∷ rs) x = if holds r x then Some (r.to + (x - r.from)) else image rs x

-- two rules that lead to and fro
abbrev pub AreInverse : (ℕ → Option ℕ) → (ℕ → Option ℕ) → Type 0
AreInverse f g = (x y : ℕ) → (f x ≡ Some y) ↔ (g y ≡ Some x)
