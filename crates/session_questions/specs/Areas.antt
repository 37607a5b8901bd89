-- What is asked of cells, of areas and of names: what kind of content a cell has, which places are filled, how far a sheet is used,
-- and which names there are. Source: this project's own.
use Rattle.std.specs.Prelude.{◌≡◌, ◌==◌, ℕ, Bool, List, [], ◌∷◌, filter, map, Option, Some, None, option_map, IsSome}
use Rattle.std.specs.FinMap as fin
use Rattle.cell_addr.specs.Place.{Covers, covers}
use Rattle.cell_addr.specs.Text.{capitals}
use Rattle.cell_addr.specs.declared.place.Block.{Block}
use Rattle.cell_addr.specs.declared.place.Place.{Place}
use Rattle.cell_value.specs.declared.scalar.Scalar.{Scalar}
use Rattle.book_values.specs.Book.{Content, number, truth, text, formula, unreadable}
use Rattle.book_values.specs.Names.{Key}
use Rattle.value_network.specs.Network.{cyclic}
use Rattle.book_values.specs.Values.{network}
use Rattle.book_values.specs.Workbook.{place, scope_sheet}
use Rattle.book_model.specs.Answers.{by_capitals, value_of, valued}
use Rattle.book_model.specs.Content.{tree_shown}
use Rattle.book_model.specs.Refusals.{at_block, first_cause, is_suspended}
use Rattle.book_model.specs.Workbook.{State, Workbook}
use Rattle.book_model.specs.declared.refusal.Refusal.{Refusal}
use Rattle.book_model.specs.declared.refusal.Refusal.TheVariants.{Suspended}
use Rattle.session_questions.specs.declared.areas.Kind.{Kind}
use Rattle.session_questions.specs.declared.areas.Kind.TheVariants as kind
use Rattle.session_questions.specs.declared.listing.NameEntry.{NameEntry}

-- what kind of content a cell has
abbrev pub kind_of : Option Content → Kind
kind_of None = kind.Empty
kind_of (Some (number m)) = kind.Number
kind_of (Some (truth b)) = kind.Truth
kind_of (Some (text w)) = kind.Text
kind_of (Some (formula t)) = kind.Formula
kind_of (Some (unreadable w)) = kind.Unreadable

-- the filled places that pass a test, each once, by sheet, row and column
abbrev pub filled_where : (Place → Bool) → Workbook → List Place
filled_where test b = fin.keys (fin.retain_keys b.cells test)

-- those of a block, row by row, and those of a sheet
abbrev pub filled_in_block : Block → Workbook → List Place
filled_in_block area b = filled_where (covers area) b

abbrev pub filled_on_sheet : ℕ → Workbook → List Place
filled_on_sheet sheet b = filled_where (λ p. p.sheet == sheet) b

-- why the values of a block are refused, if they are
abbrev pub values_cause : Block → State → Option Refusal
values_cause area d = first_cause ((is_suspended d, Suspended) ∷ at_block d area)

-- the filled places of a block with what they show, row by row
abbrev pub values_in_block : Block → State → List (Place × Scalar)
values_in_block area d = map (λ p. (p, value_of d p)) (filled_in_block area d.book)

-- the least block that covers all places of a kind: at each of its four edges there is one
pub record IsLeastOver (Holds : Place → Type 0) (area : Block) : Type 0 where
  pub all : (p : Place) → Holds p → Covers area p
  pub top : (p : Place) × Holds p × (p.row ≡ area.top)
  pub left : (p : Place) × Holds p × (p.col ≡ area.left)
  pub bottom : (p : Place) × Holds p × (p.row ≡ area.bottom)
  pub right : (p : Place) × Holds p × (p.col ≡ area.right)

-- a filled place of a sheet
abbrev pub IsFilledOn : ℕ → Workbook → Place → Type 0
IsFilledOn sheet b p = (p.sheet ≡ sheet) × IsSome (fin.get b.cells p)

-- how far a sheet is used: the least block over its filled places; none, where it has no filled place
abbrev pub IsUsedArea : ℕ → Workbook → Option Block → Type 0
IsUsedArea sheet b None = filled_on_sheet sheet b ≡ []
IsUsedArea sheet b (Some area) = IsLeastOver (IsFilledOn sheet b) area

-- the filled places of a sheet that are on a cycle: their needs lead back to them
abbrev pub cyclic_on_sheet : ℕ → State → List Place
cyclic_on_sheet sheet d = filter (λ p. cyclic (network (valued d.book) d.customs d.today) (place p)) (filled_on_sheet sheet d.book)

-- a name as it is listed, its word in capitals
abbrev pub entry_of : Key → NameEntry
entry_of key = record { scope = key.scope; name = capitals key.word }

-- all names: those of the whole workbook, then those of each sheet by its number, and within a scope by the bytes in capitals
abbrev pub entries_of : Workbook → List NameEntry
entries_of b = map (λ e. entry_of e.0) (by_capitals (fin.entries b.names))

-- the canonical text of a name's expression, if there is such a name
abbrev pub name_text_of : Workbook → Key → Option (List ℕ)
name_text_of b key = option_map (tree_shown b.sheets (scope_sheet key.scope)) (fin.get b.names key)
