-- Levels that are read one after the other, and as one table. Serves look-ups and the composing of levels.
use Rattle.std.proofs.Common.{◌≡◌, ◌∙◌, sym, ap, refl, ℕ, true, List, [], ◌∷◌, Option, Some, None, option_and_then}
use Rattle.stable_lines.specs.Runs.{image}
use Rattle.stable_lines.specs.declared.level.Level.{Level}
use Rattle.stable_lines.specs.declared.run.Run.{Run}
use Rattle.stable_lines.specs.internal.Levels.{all_runs, back_through, joined, joined_back, runs_of, through}
use Rattle.stable_lines.specs.internal.Tables.{composed, is_table}
use Rattle.stable_lines.proofs.Compositions.{composed_table, image-composed}

-- one rule after another
pub then_then : (f g : ℕ → Option ℕ) (r : Option ℕ) → option_and_then f (option_and_then g r) ≡ option_and_then (λ y. option_and_then f (g y)) r
then_then f g None = refl
then_then f g (Some y) = refl

pub then_same : (f g : ℕ → Option ℕ) (r : Option ℕ) → ((y : ℕ) → f y ≡ g y) → option_and_then f r ≡ option_and_then g r
then_same f g None h = refl
then_same f g (Some y) h = h y

then_some : (r : Option ℕ) → option_and_then Some r ≡ r
then_some None = refl
then_some (Some y) = refl

-- levels as one table lead where they lead one after the other
pub joined_leads : (near : Level) (far : List Level) (x : ℕ) → image (joined (runs_of near) (all_runs far)) x ≡ option_and_then (through (all_runs far)) (image (runs_of near) x)
joined_leads near [] x = sym (then_some (image (runs_of near) x))
joined_leads near (l ∷ ls) x =
    image-composed 0 (runs_of near) (joined (runs_of l) (all_runs ls)) x near.in_order
    ∙ then_same (image (joined (runs_of l) (all_runs ls))) (through (runs_of l ∷ all_runs ls)) (image (runs_of near) x) (joined_leads l ls)

joined_back_table : (near : Level) (far : List Level) → is_table 0 (joined_back (runs_of near) (all_runs far)) ≡ true
joined_back_table near [] = near.in_order
joined_back_table near (l ∷ ls) = composed_table 0 (joined_back (runs_of l) (all_runs ls)) (runs_of near) (joined_back_table l ls) near.in_order

pub joined_back_leads : (near : Level) (far : List Level) (x : ℕ) → image (joined_back (runs_of near) (all_runs far)) x ≡ option_and_then (image (runs_of near)) (back_through (all_runs far) x)
joined_back_leads near [] x = refl
joined_back_leads near (l ∷ ls) x =
    image-composed 0 (joined_back (runs_of l) (all_runs ls)) (runs_of near) x (joined_back_table l ls)
    ∙ ap (option_and_then (image (runs_of near))) (joined_back_leads l ls x)

-- a table composed with the nearest level leads on as both do
pub merged_leads : (table nearest : List Run) (far : List (List Run)) (x : ℕ) → is_table 0 table ≡ true
    → option_and_then (through far) (image (composed table nearest) x) ≡ option_and_then (through (nearest ∷ far)) (image table x)
merged_leads table nearest far x h =
    ap (option_and_then (through far)) (image-composed 0 table nearest x h) ∙ then_then (through far) (image nearest) (image table x)

pub merged_leads_back : (table nearest : List Run) (far : List (List Run)) (x : ℕ) → is_table 0 nearest ≡ true
    → option_and_then (image (composed nearest table)) (back_through far x) ≡ option_and_then (image table) (back_through (nearest ∷ far) x)
merged_leads_back table nearest far x h =
    then_same (image (composed nearest table)) (λ y. option_and_then (image table) (image nearest y)) (back_through far x) (λ y. image-composed 0 nearest table y h)
    ∙ sym (then_then (image table) (image nearest) (back_through far x))
