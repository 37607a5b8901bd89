-- How far values were taken along the changes of a step.
use Rattle.std.specs.Prelude.{ℕ, ℤ, List, Option}
use Rattle.custom_fn.specs.declared.rule.Rule.{Rule}
use Rattle.book_model.specs.Answers.{valued}
use Rattle.book_model.specs.Workbook.{Workbook}
use Rattle.kept_book.specs.Change.{Change}
use Rattle.kept_book.specs.Frame.{Line, Words}
use Rattle.kept_steps.specs.Parts.{Turns}
use Rattle.kept_steps.specs.declared.session.Session.{Session}
use Rattle.kept_values.specs.declared.values.Values.{Values}
use Rattle.session_values.specs.Following.{FollowsIn}
use Rattle.session_values.specs.Parts.{MarksPartsForth}

-- what followed the workbook after all changes follows one after those that are left
abbrev pub IsBackTo : Line → Words → List Change → List Change → Option Values → Option Values → Type 0
IsBackTo line words cs left old new =
    (b d : Workbook) (customs : List (List ℕ × Rule)) (today : ℤ) → Turns line words cs b d → FollowsIn (valued d) words customs today old
    → (e : Workbook) × Turns line words left b e × FollowsIn (valued e) words customs today new

-- what followed the workbook before all changes follows one before those that are left
abbrev pub IsForthTo : Line → Words → List Change → List Change → Option Values → Option Values → Type 0
IsForthTo line words cs left old new =
    (b d : Workbook) (customs : List (List ℕ × Rule)) (today : ℤ) → Turns line words cs b d → FollowsIn (valued b) words customs today old
    → (e : Workbook) × Turns line words left e d × FollowsIn (valued e) words customs today new

-- where the changes that are left leave these marks, all changes do
abbrev pub IsLeftForth : Session → List Change → List Change → Option Values → Option Values → Type 0
IsLeftForth s cs left old now = (new : Option Values) → MarksPartsForth s left now new → MarksPartsForth s cs old new
