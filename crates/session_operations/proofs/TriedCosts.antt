-- What a formula that is tried costs. Serves the call that tries it.
use Rattle.std.proofs.Common.{◌≡◌, arith, sym, subst, ℕ, ℤ, ◌+◌, ◌≤◌, List, Option, Some}
use Rattle.custom_fn.specs.declared.rule.Rule.{Rule}
use Rattle.formula_tree.specs.Term.{Term}
use Rattle.formula_tree.specs.declared.reference.Corner.{Corner}
use Rattle.recalc_core.specs.Steps.{formula_cost}
use Rattle.book_model.specs.Content.{tree_given}
use Rattle.book_values.specs.Workbook.{Workbook}
use Rattle.session_values.specs.Following.{book_of, words_in}
use Rattle.session_values.proofs.Refreshed.{no_steps}
use Rattle.session_operations.specs.Kept.{TriesOutIn, WorksOutIn, tried_cost}
use Rattle.session_operations.specs.Seen.{state_of}
use Rattle.session_operations.specs.declared.parts.Parts.{Parts}

module _ (customs : List (List ℕ × Rule)) (today : ℤ) (p : Parts) (sheet : ℕ) (text : List ℕ) where
  -- where nothing was worked out
  pub tried_nothing : (n : ℕ) → TriesOutIn customs today p sheet text n n
  tried_nothing n = (n, no_steps (book_of p.session) (words_in p.session) customs today p.values.values n, omega arith)

  -- where the formula wasn't
  pub tried_values : (old new : ℕ) → WorksOutIn customs today p old new → TriesOutIn customs today p sheet text old new
  tried_values old new worked = (new, worked, omega arith)

  -- where it was
  pub tried_all : (b : Workbook) (t : Term Corner) (old middle new : ℕ) → WorksOutIn customs today p old middle → b ≡ book_of p.session
      → tree_given (state_of p).book.sheets sheet text ≡ Some t → new ≤ middle + formula_cost b customs today sheet t → TriesOutIn customs today p sheet text old new
  tried_all b t old middle new worked same given most = (
    middle,
    worked,
    subst (λ (o : Option (Term Corner)). new ≤ middle + tried_cost (book_of p.session) customs today sheet o) (sym given)
        (subst (λ (c : Workbook). new ≤ middle + formula_cost c customs today sheet t) same most),
  )
