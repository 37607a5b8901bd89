-- What the steps of a session rest on: the operations of the line, the standings of formulas along it, and the words of
-- names. Source: this project's own.
use Rattle.std.specs.Prelude.{◌≡◌, ℕ, ◌<◌, ◌≤◌, Some}
use Rattle.lazy_store.specs.Standing.{Standing}
use Rattle.name_table.specs.Named.{words_of}
use Rattle.book_model.specs.Workbook.{Workbook}
use Rattle.kept_book.specs.Frame.{At, Frame, Line, Stands, Words, book_at}
use Rattle.kept_book.specs.Kept.{IsMore, at_of, line_of}
use Rattle.kept_book.specs.declared.book.Book.{Book}

pub record Timeline : Type 0 where
  pub line : Line
  pub at : At
  pub words : Words

abbrev pub timeline_of : Book → Timeline
timeline_of b = record { line = line_of b; at = at_of b; words = words_of b.names }

-- the workbook that a frame shows
abbrev pub book_in : Timeline → Frame → Workbook
book_in t f = book_at t.at t.words f

-- the formulas of a frame stand at their cells and names
abbrev pub StandIn : Timeline → Frame → Type 0
StandIn t f = Stands t.at t.words f

-- between two positions the second timeline tells of these formulas what the first one does, and it knows each word
pub record Agree (among : ℕ → Type 0) (low high : ℕ) (t u : Timeline) : Type 0 where
  pub line : (j : ℕ) → low ≤ j → j < high → u.line j ≡ t.line j
  pub at : (id j : ℕ) (x : Standing) → among id → low ≤ j → j ≤ high → t.at id j ≡ Some x → u.at id j ≡ Some x
  pub words : IsMore t.words u.words
