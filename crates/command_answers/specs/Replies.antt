-- The line that answers each command, and the session after it. Source: this project's own.
use Rattle.std.specs.Prelude.{ℕ, ◌++◌, Bool, List, [], ◌∷◌, Option, Some, None, is_some, codes}
use Rattle.std.specs.Option.{unwrap_or}
use Rattle.std.specs.Fmt.{decimal}
use Rattle.cell_addr.specs.declared.place.Block.{Block}
use Rattle.cell_addr.specs.Address.{place_letters}
use Rattle.cell_addr.specs.Sheets.{name_in}
use Rattle.cell_addr.specs.Whole.{whole_block}
use Rattle.cell_value.specs.Scalar.{shown_text}
use Rattle.formula_tree.specs.declared.link.Link.{Link}
use Rattle.formula_tree.specs.declared.link.Link.TheVariants as links
use Rattle.book_model.specs.Workbook.{Workbook, State}
use Rattle.book_model.specs.Operation.{Operation}
use Rattle.book_model.specs.Operation as op
use Rattle.book_model.specs.Refusals.{cause}
use Rattle.book_model.specs.RefusalNames.{refusal_name, refusal_number}
use Rattle.book_model.specs.Session.{next}
use Rattle.book_model.specs.Answers.{value_of, formula_of, content_text, precedents_of, dependents_of, name_value_of, tried_value}
use Rattle.book_model.specs.declared.refusal.Refusal.{Refusal}
use Rattle.script_lang.specs.Lines.{line_of}
use Rattle.script_lang.specs.declared.commands.Command.{Command}
use Rattle.script_lang.specs.declared.error.ScriptError.{ScriptError}
use Rattle.script_lang.specs.declared.error.ScriptError.TheVariants.{UnknownCommand, FieldCount, BadField, NoMemory}
use Rattle.command_answers.specs.Asked.{operation_of}

-- the text of a cell's formula, or `none`
abbrev pub formula_text : Option (List ℕ) → List ℕ
formula_text text = unwrap_or text (codes "none")

-- a sheet's name, as it is and with `!`; 33 is `!`
abbrev pub sheet_mark : Workbook → ℕ → List ℕ
sheet_mark b sheet = unwrap_or (name_in b.sheets sheet) [] ++ 33 ∷ []

-- a block with its sheet's name; 58 is `:`
abbrev pub area_text : Workbook → Block → List ℕ
area_text b a = (sheet_mark b a.sheet ++ place_letters a.top a.left) ++ (58 ∷ place_letters a.bottom a.right)

-- a cell, a block or a name with its sheet's name, and a whole range as its block; a name of the whole workbook has none
abbrev pub link_text : Workbook → Link → List ℕ
link_text b (links.Cell p) = sheet_mark b p.sheet ++ place_letters p.row p.col
link_text b (links.Area a) = area_text b a
link_text b (links.Whole w) = area_text b (whole_block w)
link_text b (links.Name None word) = word
link_text b (links.Name (Some sheet) word) = sheet_mark b sheet ++ word

-- links parted by one blank each; 32 is the blank
abbrev pub links_text : Workbook → List Link → List ℕ
links_text b [] = []
links_text b (l ∷ []) = link_text b l
links_text b (l ∷ ls) = link_text b l ++ (32 ∷ links_text b ls)

-- the answer to an operation that is accepted
abbrev pub answer : Operation → State → List ℕ
answer (op.value at) d = shown_text (value_of d at)
answer (op.formula at) d = formula_text (formula_of d at)
answer (op.content at) d = content_text d at
answer (op.precedents at) d = links_text d.book (precedents_of d at)
answer (op.dependents at) d = links_text d.book (dependents_of d at)
answer (op.name_value name sheet) d = shown_text (name_value_of d name sheet)
answer (op.try_formula sheet text) d = shown_text (tried_value d sheet text)
answer (op.add_sheet name) d = codes "ok " ++ decimal d.next_sheet
answer _ d = codes "ok"

-- the text of a refusal: its number and its name
abbrev pub refused_text : Refusal → List ℕ
refused_text r = (codes "refused " ++ decimal (refusal_number r) ++ codes " ") ++ refusal_name r

abbrev pub answer_unless : Option Refusal → List ℕ → List ℕ
answer_unless None text = text
answer_unless (Some r) text = refused_text r

-- the line that answers an operation
abbrev pub line_answering : Operation → State → List ℕ
line_answering op d = line_of (answer_unless (cause op d) (answer op d))

-- why what a command asks for isn't done, the line that answers it, and the session after it; what asks for nothing is
-- answered `ok`
abbrev pub refusal_of : Option Operation → State → Option Refusal
refusal_of None d = None
refusal_of (Some op) d = cause op d

abbrev pub line_asked : Option Operation → State → List ℕ
line_asked None d = line_of (codes "ok")
line_asked (Some op) d = line_answering op d

abbrev pub state_asked : Option Operation → State → State
state_asked None d = d
state_asked (Some op) d = next op d

-- of a command: its refusal, its line and the session after it
abbrev pub refused_for : Command → State → Option Refusal
refused_for c d = refusal_of (operation_of d.book c) d

abbrev pub reply : Command → State → List ℕ
reply c d = line_asked (operation_of d.book c) d

abbrev pub next_state : Command → State → State
next_state c d = state_asked (operation_of d.book c) d

-- the command is refused in the session
abbrev pub is_refused : State → Command → Bool
is_refused d c = is_some (refused_for c d)

-- why a record is no command
abbrev pub cause_text : ScriptError → List ℕ
cause_text UnknownCommand = codes "unknown command"
cause_text FieldCount = codes "field count"
cause_text (BadField j) = codes "bad field " ++ decimal j
cause_text NoMemory = codes "out of memory"

-- what answers a record that is no command; records are counted from 1
abbrev pub record_text : ℕ → ScriptError → List ℕ
record_text k e = (codes "record " ++ decimal k ++ codes ": ") ++ cause_text e
