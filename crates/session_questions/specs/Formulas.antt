-- What is asked of the text of a formula, which no cell holds: its canonical text, the names that it uses, and where it goes wrong. Source: this project's own.
use Rattle.std.specs.Prelude.{ℕ, nat_lt, not, List, [], ◌∷◌, length, map, Option, option_map, MatchOption}
use Rattle.cell_addr.specs.Sheets.{same_name}
use Rattle.cell_addr.specs.Text.{capitals}
use Rattle.formula_parse.specs.Fronts.{GoesWrongAt, IsFormula}
use Rattle.formula_parse.specs.declared.wrong.TextSpan.{TextSpan}
use Rattle.formula_tree.specs.Links.{names_in, once}
use Rattle.formula_tree.specs.Term.{Term}
use Rattle.formula_tree.specs.declared.reference.Corner.{Corner}
use Rattle.book_model.specs.Content.{tree_given, tree_shown}
use Rattle.book_model.specs.Refusals.{first_cause, of_tried_text}
use Rattle.book_model.specs.Workbook.{Workbook, has_sheet}
use Rattle.book_model.specs.declared.limits.TheConstants.{MAX_TEXT}
use Rattle.book_model.specs.declared.refusal.Refusal.{Refusal}
use Rattle.book_model.specs.declared.refusal.Refusal.TheVariants.{NoSheet, TextLimit}

-- the tree that a text spells in the cells of a sheet of the workbook, if it spells one
abbrev pub tree_on : Workbook → ℕ → List ℕ → Option (Term Corner)
tree_on b sheet text = tree_given b.sheets sheet text

-- why the formula of a text isn't read on a sheet, if it isn't
abbrev pub text_cause : Workbook → ℕ → List ℕ → Option Refusal
text_cause b sheet text = first_cause ((not (has_sheet b sheet), NoSheet) ∷ of_tried_text text (tree_on b sheet text))

-- its canonical text: the one that a cell of the sheet shows which is given the text
abbrev pub normal_text_of : Workbook → ℕ → List ℕ → Option (List ℕ)
normal_text_of b sheet text = option_map (tree_shown b.sheets sheet) (tree_on b sheet text)

-- the words of a tree's names, in capitals, each once, in the order of first occurrence
abbrev pub words_used : Term Corner → List (List ℕ)
words_used t = map capitals (once same_name (names_in t))

-- and those of the formula of a text
abbrev pub names_used_of : Workbook → ℕ → List ℕ → Option (List (List ℕ))
names_used_of b sheet text = option_map words_used (tree_on b sheet text)

-- why it isn't told where the text of a formula on a sheet goes wrong
abbrev pub untold_cause : Workbook → ℕ → List ℕ → Option Refusal
untold_cause b sheet text = first_cause ((not (has_sheet b sheet), NoSheet) ∷ (nat_lt MAX_TEXT (length text), TextLimit) ∷ [])

-- what is told: the part of the text at which it goes wrong, or that it is a formula
abbrev pub TellsWrong : List ℕ → Option TextSpan → Type 0
TellsWrong text found = MatchOption found (IsFormula text) (GoesWrongAt text)
