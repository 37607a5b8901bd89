-- What holds of sessions.
use Rattle.std.specs.Prelude.{◌≡◌, ◌≤◌, ℕ, ℤ, Bool, List, Option, None, Some, All}
use Rattle.std.specs.List.{find}
use Rattle.std.specs.FinMap as map
use Rattle.custom_fn.specs.declared.rule.Rule.{Rule}
use Rattle.fix_num.specs.Number.{IsInside}
use Rattle.fix_num.specs.Text.{text_of}
use Rattle.cell_addr.specs.declared.place.Place.{Place}
use Rattle.cell_addr.specs.Place.{same_place}
use Rattle.cell_value.specs.Scalar.{truth_text}
use Rattle.book_values.specs.Book.{Content}
use Rattle.book_model.specs.Answers.{dependents_of, precedents_of}
use Rattle.book_model.specs.Changes.{HaveDistinctPlaces, with_contents}
use Rattle.book_model.specs.Content.{content_given, content_of, text_given}
use Rattle.book_model.specs.Operation.{Operation}
use Rattle.book_model.specs.Workbook.{State, Workbook}
use Rattle.book_model.specs.Refusals.{cause}
use Rattle.book_model.specs.Session.{next}
use Rattle.book_model.specs.Given.{GivenSheet, session_given, CanBegin}
use Rattle.book_model.specs.Sound.{IsLinkInside, IsSound}
use Rattle.book_model.specs.declared.content.ContentText.TheVariants as said
use Rattle.book_model.specs.declared.limits.TheConstants.{MAX_UNDO}
use Rattle.book_model.specs.declared.refusal.Refusal.{Refusal}

-- a session that begins with given sheets is sound, and operations lead from one sound session to another
abbrev pub SessionsAreSound : Type 0
SessionsAreSound = ((limit : ℕ) (customs : List (List ℕ × Rule)) (today : ℤ) (books : List GivenSheet) → limit ≤ MAX_UNDO → CanBegin books → IsSound (session_given limit customs today books))
    × ((op : Operation) (d : State) → IsSound d → IsSound (next op d))

-- a refused operation leaves the session
abbrev pub RefusalsChangeNothing : Type 0
RefusalsChangeNothing = (op : Operation) (d : State) (r : Refusal) → cause op d ≡ Some r → next op d ≡ d

-- what a formula of a sound session needs, and what needs a cell, stands within the limits of a sheet
abbrev pub LinksAreInside : Type 0
LinksAreInside = (d : State) (at : Place) → IsSound d → All IsLinkInside (precedents_of d at) × All IsLinkInside (dependents_of d at)

-- the text of a number says the number, that of a truth value the truth value, and the text that gives a text says that text
abbrev pub GivenTextsSayIt : Type 0
GivenTextsSayIt = ((m : ℤ) → IsInside m → content_of (text_of m) ≡ said.Number m)
    × ((b : Bool) → content_of (truth_text b) ≡ said.Truth b)
    × ((w : List ℕ) → content_of (text_given w) ≡ said.Text w)

-- what a cell holds then: what the text of its entry gives, or what it held where it has none
abbrev pub written_at : Option (Place × List ℕ) → Place → Workbook → Option Content
written_at None at b = map.get b.cells at
written_at (Some e) at b = content_given b.sheets at.sheet (content_of e.1)

-- cells that are given what texts say, each of them once, hold just that, in whatever order; every other cell holds what it held
abbrev pub WrittenCellsSayIt : Type 0
WrittenCellsSayIt = (given : List (Place × List ℕ)) (b : Workbook) (at : Place) → HaveDistinctPlaces given
    → map.get (with_contents given b).cells at ≡ written_at (find (λ e. same_place at e.0) given) at b
