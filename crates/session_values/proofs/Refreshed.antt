-- What a refresh costs. Serves the refresh and those that call it.
use Rattle.std.proofs.Common.{◌≡◌, subst, refl, arith, ⊎_elim, false, true, ℕ, ℤ, List, [], ◌∷◌, Option, Some, None}
use Rattle.std.proofs.lemmas.Bool.{false≢true}
use Rattle.custom_fn.specs.declared.rule.Rule.{Rule}
use Rattle.book_values.specs.Workbook.{Workbook}
use Rattle.dep_graph.specs.Nodes.{has}
use Rattle.dep_graph.specs.declared.node.Node.{Node}
use Rattle.dep_graph.proofs.Places.{has_first}
use Rattle.kept_values.specs.Values.{TakesSteps, marks_in}
use Rattle.kept_values.specs.declared.values.Values.{Values}
use Rattle.kept_values.proofs.Unmarked as unmarked
use Rattle.session_values.specs.Refreshed.{IsUnmarked, TakesStepsIn}
use Rattle.session_values.specs.Touched.{AreTouched}

-- where nothing was kept, it doesn't matter what is worked out
pub any_steps : (b : Workbook) (words : List (List ℕ)) (customs : List (List ℕ × Rule)) (today : ℤ) (marks : List Node) (old new : ℕ) → TakesSteps b words customs today marks old new → TakesStepsIn b words customs today None old new
any_steps b words customs today marks old new (nodes, once, reach, within) = (nodes, once, within)

-- no step is a step of nothing
pub no_steps : (b : Workbook) (words : List (List ℕ)) (customs : List (List ℕ × Rule)) (today : ℤ) (values : Option Values) (n : ℕ) → TakesStepsIn b words customs today values n n
no_steps b words customs today None n = ([], (λ i j d below inside. absurd (omega (arith, inside))), omega arith)
no_steps b words customs today (Some v) n = unmarked.no_steps b words customs today (marks_in v) n

-- a list that has no node is empty
none_there : (nodes : List Node) → ((a : Node) → has a nodes ≡ true → ⊥) → nodes ≡ []
none_there [] none = refl
none_there (a ∷ nodes) none = absurd (none a (has_first a nodes))

-- where no more is marked, nothing is still
pub unmarked_still : (old new : Option Values) → AreTouched (λ p. false) old new → IsUnmarked old → IsUnmarked new
unmarked_still None new touched unmarked = absurd unmarked
unmarked_still (Some v) None touched unmarked = absurd touched
unmarked_still (Some v) (Some w) touched unmarked =
    none_there (marks_in w) (λ a h. ⊎_elim
    (λ (before : has a (marks_in v) ≡ true). false≢true (subst (λ (ns : List Node). has a ns ≡ true) unmarked before))
    (λ (p, is, there). false≢true there)
    (touched.only a h))
