use Rattle.std.proofs.Common.{◌≡◌, ℕ, ℤ, List, take}
use Rattle.custom_fn.specs.declared.rule.Rule.{Rule}
use Rattle.kept_book.specs.Numbered.{Numbered}
use Rattle.kept_steps.specs.declared.session.Session.{Session}
use Rattle.session_operations.specs.Following.{AreShowing, book_of}
use Rattle.session_questions.specs.internal.ShownCells.{AreHeld, shown_each}
use Rattle.session_questions.proofs.shown_cells.shown_each.Given as goal

-- the cells gone by are listed with what they show
abbrev pub invariant-cells : goal.invariant-cells
invariant-cells l =
    (session : Session) (customs : List (List ℕ × Rule)) (today : ℤ) (stands : Numbered) → AreShowing customs today session l.values.values → AreHeld stands (book_of session) l.cells
    → l.list.items ≡ shown_each (book_of session) customs today (take l.at-index l.cells)
