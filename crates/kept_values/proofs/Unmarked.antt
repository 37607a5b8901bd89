-- Values without marks. Serves what refreshes them.
use Rattle.std.proofs.Common.{◌≡◌, ◌==◌, ◌∙◌, sym, refl, subst, arith, Bool, true, ℕ, ℤ, List, [], ◌∷◌, length}
use Rattle.std.specs.Prelude.{IsTrue}
use Rattle.std.proofs.lemmas.Bool.Decides.{nat_tests}
use Rattle.std.proofs.lemmas.Bool.{false≢true}
use Rattle.custom_fn.specs.declared.rule.Rule.{Rule}
use Rattle.book_values.specs.Workbook.{Workbook}
use Rattle.dep_graph.specs.Nodes.{has}
use Rattle.dep_graph.specs.declared.node.Node.{Node}
use Rattle.recalc_core.specs.Kept.{AreRight, Kept}
use Rattle.marked_values.specs.Marks.{FitsMarks}
use Rattle.kept_values.specs.Values.{TakesSteps}

none_listed : {X : Type 0} (xs : List X) → (length xs == 0) ≡ true → xs ≡ []
none_listed [] e = refl
none_listed (x ∷ xs) e = absurd (grind (arith, nat_tests))

-- there are no marks where a list of them is told to be empty
pub none_marked : (items marks : List Node) (empty : Bool) → items ≡ marks → empty ≡ (length items == 0) → empty ≡ true → marks ≡ []
none_marked items marks empty same told is = sym same ∙ none_listed items (sym told ∙ is)

module _ (b : Workbook) (words : List (List ℕ)) (customs : List (List ℕ × Rule)) (today : ℤ) where
  -- where nothing is marked, all that is kept is right
  pub unmarked_right : (marks : List Node) (kept : Kept) → marks ≡ [] → FitsMarks b words customs today marks kept → AreRight b words customs today kept
  unmarked_right marks kept none fit a = fit a (λ x at (m, y, marked, is, which). false≢true (subst (λ (ms : List Node). IsTrue (has m ms)) none marked))

  -- no step is a step of nothing
  pub no_steps : (marks : List Node) (n : ℕ) → TakesSteps b words customs today marks n n
  no_steps marks n = ([], (λ i j d below inside. absurd (omega (arith, inside))), (λ a x h is. absurd (false≢true h)), omega arith)
