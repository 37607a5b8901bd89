-- What is kept of values follows the workbook of a session. Source: this project's own.
use Rattle.std.specs.Prelude.{◌≡◌, Bool, ℕ, ℤ, List, Option, Some, None, ⊤}
use Rattle.std.specs.FinMap as fin
use Rattle.cell_addr.specs.declared.place.Place.{Place}
use Rattle.cell_value.specs.declared.fault.FaultKind.TheVariants as fault
use Rattle.cell_value.specs.declared.scalar.Scalar.{Scalar}
use Rattle.cell_value.specs.declared.scalar.Scalar.TheVariants as scalar
use Rattle.custom_fn.specs.declared.rule.Rule.{Rule}
use Rattle.name_table.specs.Named.{words_of}
use Rattle.book_model.specs.Answers.{valued}
use Rattle.book_values.specs.Names.{Key}
use Rattle.book_values.specs.Values.{value_of}
use Rattle.book_values.specs.Workbook.{Workbook, name}
use Rattle.kept_book.specs.Kept.{IsMore}
use Rattle.kept_steps.specs.Reads.{Reads}
use Rattle.kept_steps.specs.Session.{state_of}
use Rattle.kept_steps.specs.declared.session.Session.{Session}
use Rattle.recalc_core.specs.Kept.{AreRight}
use Rattle.recalc_core.specs.Nodes.{AreNumbered}
use Rattle.kept_values.specs.Values.{Follows, kept_in}
use Rattle.kept_values.specs.declared.values.Values.{Values}
use Rattle.session_values.specs.Touched.{AreTouchedAtMost, IsMarkedIn}

-- the workbook of a session, that has values
abbrev pub book_of : Session → Workbook
book_of s = valued (state_of s).book

-- the words of its names, by their numbers
abbrev pub words_in : Session → List (List ℕ)
words_in s = words_of s.book.names

-- where anything is kept, it follows the workbook with its words
abbrev pub FollowsIn : Workbook → List (List ℕ) → List (List ℕ × Rule) → ℤ → Option Values → Type 0
FollowsIn b words customs today None = ⊤
FollowsIn b words customs today (Some v) = Follows b words customs today v

-- it follows the session
abbrev pub AreFollowing : List (List ℕ × Rule) → ℤ → Session → Option Values → Type 0
AreFollowing customs today s values = FollowsIn (book_of s) (words_in s) customs today values

-- something is kept, and it is right of every place and every name
abbrev pub ShowsIn : Workbook → List (List ℕ) → List (List ℕ × Rule) → ℤ → Option Values → Type 0
ShowsIn b words customs today None = ⊥
ShowsIn b words customs today (Some v) = AreRight b words customs today (kept_in v)

abbrev pub AreShowing : List (List ℕ × Rule) → ℤ → Session → Option Values → Type 0
AreShowing customs today s values = ShowsIn (book_of s) (words_in s) customs today values

-- what a name shows, if there is one; where there is none, `#NAME?`
abbrev pub name_shown : Workbook → List (List ℕ × Rule) → ℤ → Option Key → Scalar
name_shown b customs today (Some key) = value_of b customs today (name key)
name_shown b customs today None = scalar.Fault fault.Name

-- after a change of the workbook that leaves the names, and each cell that isn't marked, what is kept follows still
abbrev pub CellsFollow : Type 0
CellsFollow =
    (b c : Workbook) (words more : List (List ℕ)) (customs : List (List ℕ × Rule)) (today : ℤ) (places : Place → Bool) (old new : Option Values) →
    AreNumbered words b.names → AreNumbered more c.names → IsMore words more → AreTouchedAtMost places old new → b.names ≡ c.names →
    ((q : Place) → (IsMarkedIn new q → ⊥) → fin.get b.cells q ≡ fin.get c.cells q) →
    FollowsIn b words customs today old → FollowsIn c more customs today new

-- what reads of a session leave it follows still
abbrev pub ReadsFollow : Type 0
ReadsFollow = (s t : Session) (customs : List (List ℕ × Rule)) (today : ℤ) (values : Option Values) → Reads s t → AreFollowing customs today s values → AreFollowing customs today t values
