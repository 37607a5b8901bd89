-- What the text given to a cell says, and the text that says what a cell holds. Source: this project's own.
use Rattle.std.specs.Prelude.{◌==◌, if◌then◌else◌, ℤ, Bool, false, List, [], ◌∷◌, ℕ, Option, Some, None, Result, Ok, Err, bytes_eq}
use Rattle.std.specs.Option.{unwrap_or}
use Rattle.cell_addr.specs.Parts.{strip_prefix}
use Rattle.cell_addr.specs.Sheets.{id_in, name_in}
use Rattle.cell_value.specs.Scalar.{read_truth, truth_text}
use Rattle.cell_value.specs.declared.fault.FaultKind.{FaultKind}
use Rattle.book_values.specs.Book.{Content}
use Rattle.book_values.specs.Book as content
use Rattle.fix_num.specs.Text.{number_of, text_of}
use Rattle.fix_num.specs.declared.error.NumError.{NumError}
use Rattle.formula_tree.specs.Canonical.{formula_text}
use Rattle.formula_tree.specs.Reader.{tree_of_text}
use Rattle.formula_tree.specs.Term.{Term}
use Rattle.formula_tree.specs.declared.reference.Corner.{Corner}
use Rattle.book_model.specs.declared.content.ContentText.{ContentText}
use Rattle.book_model.specs.declared.content.ContentText.TheVariants as said

-- a text that is no truth value either: the text after an apostrophe, or itself
abbrev pub text_content : List ℕ → ContentText
text_content text = said.Text (unwrap_or (strip_prefix 39 text) text)

-- a text that is no formula and no number: a truth value in any case, or a text
abbrev pub word_content : Result Bool FaultKind → List ℕ → ContentText
word_content (Ok truth) text = said.Truth truth
word_content (Err fault) text = text_content text

-- a text that is no formula: the number that it spells, or a word
abbrev pub plain_content : Result ℤ NumError → List ℕ → ContentText
plain_content (Ok m) text = said.Number m
plain_content (Err e) text = word_content (read_truth text) text

-- a text of no characters clears, one that begins with `=` is a formula
abbrev pub content_of : List ℕ → ContentText
content_of [] = said.Clear
content_of (c ∷ cs) = if c == 61 then said.Formula (c ∷ cs) else plain_content (number_of (c ∷ cs)) (c ∷ cs)

-- the tree that a text spells on a sheet of the list, if it has one
abbrev pub tree_given : List (ℕ × List ℕ) → ℕ → List ℕ → Option (Term Corner)
tree_given sheets sheet text = tree_of_text sheet (id_in sheets) text

-- the content of a formula's text: its tree, or the text where it has none
abbrev pub formula_content : Option (Term Corner) → List ℕ → Content
formula_content (Some tree) text = content.formula tree
formula_content None text = content.unreadable text

-- the content that a text gives to a cell of a sheet, if any
abbrev pub content_given : List (ℕ × List ℕ) → ℕ → ContentText → Option Content
content_given sheets sheet said.Clear = None
content_given sheets sheet (said.Number m) = Some (content.number m)
content_given sheets sheet (said.Truth b) = Some (content.truth b)
content_given sheets sheet (said.Text w) = Some (content.text w)
content_given sheets sheet (said.Formula w) = Some (formula_content (tree_given sheets sheet w) w)

-- the canonical text of a formula in a cell of a sheet
abbrev pub tree_shown : List (ℕ × List ℕ) → ℕ → Term Corner → List ℕ
tree_shown sheets sheet tree = formula_text sheet (name_in sheets) tree

-- the text of a cell's formula: its canonical text, or the kept text of an unreadable one; no other cell has one
abbrev pub formula_shown : List (ℕ × List ℕ) → ℕ → Option Content → Option (List ℕ)
formula_shown sheets sheet (Some (content.formula t)) = Some (tree_shown sheets sheet t)
formula_shown sheets sheet (Some (content.unreadable w)) = Some w
formula_shown sheets sheet _ = None

-- a text that is given to a cell is kept as this text
abbrev pub is_kept : ContentText → List ℕ → Bool
is_kept (said.Text kept) text = bytes_eq kept text
is_kept _ text = false

-- the text that gives a text to a cell: an apostrophe stands in front exactly where the text by itself
-- would give something else
abbrev pub text_given : List ℕ → List ℕ
text_given text = if is_kept (content_of text) text then text else 39 ∷ text

-- the text that gives a cell its content
abbrev pub content_shown : List (ℕ × List ℕ) → ℕ → Option Content → List ℕ
content_shown sheets sheet None = []
content_shown sheets sheet (Some (content.number m)) = text_of m
content_shown sheets sheet (Some (content.truth b)) = truth_text b
content_shown sheets sheet (Some (content.text w)) = text_given w
content_shown sheets sheet (Some (content.formula t)) = tree_shown sheets sheet t
content_shown sheets sheet (Some (content.unreadable w)) = w
