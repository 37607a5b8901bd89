-- What comes in the place of something. Source: this project's own.
use Rattle.std.specs.Prelude.{◌≡◌, ◌≢◌, Option, MatchOption}

-- None where something stays as it is, and else what it becomes, which is another one
abbrev pub Becomes : {A X : Type 0} → (A → X) → Option A → X → X → Type 0
Becomes seen_as result before after = MatchOption result (after ≡ before) (λ x. (seen_as x ≡ after) × (after ≢ before))
