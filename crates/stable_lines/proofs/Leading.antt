-- Runs that levels lead on: as far as each level has the numbers in one run. Serves walks over lines that follow one another.
use Rattle.std.proofs.Common.{◌≡◌, ◌∙◌, sym, ap, ℕ, ◌+◌, ◌-◌, ◌<◌, min, true, List, ◌∷◌, Option, Some, None, option_and_then, option_map, IfSome, arith}
use Rattle.stable_lines.specs.Runs.{image}
use Rattle.stable_lines.specs.declared.run.Run.{Run}
use Rattle.stable_lines.specs.internal.Levels.{IsLed, through}
use Rattle.stable_lines.specs.internal.Tables.{IsFound, is_table, run_with}
use Rattle.stable_lines.proofs.TableLemmas.{image_in_run, image-run_with}

-- where the level has no run for the first number, it leads nowhere
pub led_nowhere : (level : List Run) (far : List (List Run)) (x : ℕ) → run_with level x ≡ None → through (level ∷ far) x ≡ None
led_nowhere level far x e = ap (option_and_then (through far)) (image-run_with level x ∙ ap (option_map (λ r. r.to + (x - r.from))) e)

module _ (level : List Run) (far : List (List Run)) (run next part : Run) (table : is_table 0 level ≡ true) (there : run_with level run.to ≡ Some next) (found : IsFound next run.to)
    (start : part.from ≡ run.from) (to : part.to ≡ next.to + (run.to - next.from)) (count : part.count ≡ min (next.count - (run.to - next.from)) run.count) where
  on_run : (i : ℕ) → i < part.count → image level (run.to + i) ≡ Some (part.to + i)
  on_run i lt =
      let low = found.0 in
      let sum : next.to + (run.to + i - next.from) ≡ part.to + i = omega arith in
      image_in_run level run.to (run.to + i) next table (omega arith) (omega arith) there ∙ ap (λ z. Some z) sum

  first_on : image level run.to ≡ Some part.to
  first_on = image-run_with level run.to ∙ ap (option_map (λ r. r.to + (run.to - r.from))) there ∙ ap (λ z. Some z) (sym to)

  -- the levels behind it lead the part on as all do the run
  pub part_leads : through (level ∷ far) run.to ≡ through far part.to
  part_leads = ap (option_and_then (through far)) first_on

  pub part_led : (led : Run) → IsLed far part led → IsLed (level ∷ far) run led
  part_led led h = (
    h.0 ∙ start,
    h.1,
    (let a = h.2 in omega arith),
    λ i lt. ap (option_and_then (through far)) (on_run i (let a = h.2 in omega arith)) ∙ h.3 i lt,
  )

-- what is known of a run, where there is one
pub if_some_weaker : {X : Type 0} (r : Option X) (P Q : X → Type 0) → ((x : X) → P x → Q x) → IfSome r P → IfSome r Q
if_some_weaker None P Q k h = h
if_some_weaker (Some x) P Q k h = k x h
