-- Words that are items, one after the other. Serves the laws of words.
use Rattle.std.proofs.Common.{◌≡◌, ◌∙◌, ap, refl, ℕ, Bool, true, false, List, [], ◌∷◌, ◌++◌, Option, Some, None}
use Rattle.std.specs.Prelude.{codes}
use Rattle.std.proofs.lemmas.List.{append-nil}
use Rattle.clap.specs.Faults.{settle_fault, turn_fault}
use Rattle.clap.specs.Walk.{Row, Waiting, idle, positional, option, all_of, at_row, has_row, more_values, reading_by, settled_rows, walked, without}
use Rattle.clap.specs.declared.parser.matches.ValueSource.TheVariants.{CommandLine}
use Rattle.command_words.specs.Items.{OptionName, undo_limit, script, generate, name_text, value_of, with_value}
use Rattle.command_words.specs.Words.{Given, option_rule}
use Rattle.command_words.proofs.Walks.{IsFree, IsOther, Pending, rules, shape, walk_at}
use Rattle.command_words.proofs.RowLists.{at_none, found_behind, other_behind}

pub turn-joined : (name : OptionName) (text : List ℕ) (rows : List Row) (pending : Pending) (waiting : Waiting) → IsFree waiting → settle_fault rules false (record { rows = rows; pending = pending; skip = 0 }) ≡ []
    → has_row (name_text name) (settled_rows rules pending rows) ≡ false → turn_fault shape [] (walk_at rows pending waiting false) (codes "--" ++ name_text name ++ codes "=" ++ text) ≡ []
turn-joined undo_limit text rows pending idle free fine new = rw (fine, new) refl
turn-joined undo_limit text rows pending (option id) free fine new = absurd free
turn-joined undo_limit text rows pending positional free fine new = rw (fine, new) refl
turn-joined script text rows pending idle free fine new = rw (fine, new) refl
turn-joined script text rows pending (option id) free fine new = absurd free
turn-joined script text rows pending positional free fine new = rw (fine, new) refl
turn-joined generate text rows pending idle free fine new = rw (fine, new) refl
turn-joined generate text rows pending (option id) free fine new = absurd free
turn-joined generate text rows pending positional free fine new = rw (fine, new) refl

pub walked-joined : (name : OptionName) (text : List ℕ) (rows : List Row) (pending : Pending) (waiting : Waiting) → IsFree waiting
    → walked rules [] (walk_at rows pending waiting false) (codes "--" ++ name_text name ++ codes "=" ++ text) ≡ walk_at (settled_rows rules (Some (name_text name, text ∷ [])) (settled_rows rules pending rows)) None idle false
unfolding walked
walked-joined undo_limit text rows pending idle free = refl
walked-joined undo_limit text rows pending (option id) free = absurd free
walked-joined undo_limit text rows pending positional free = refl
walked-joined script text rows pending idle free = refl
walked-joined script text rows pending (option id) free = absurd free
walked-joined script text rows pending positional free = refl
walked-joined generate text rows pending idle free = refl
walked-joined generate text rows pending (option id) free = absurd free
walked-joined generate text rows pending positional free = refl

-- the row of an option, and its rows after the value
abbrev pub option_row : OptionName → List ℕ → Row
option_row name text = record { id = name_text name; values = text ∷ []; count = None; source = Some CommandLine; reading = reading_by (option_rule (name_text name)) }

pub set_row : (id : List ℕ) (row : Row) (rows : List Row) (text : List ℕ) → all_of id rows ≡ None → at_row id (more_values CommandLine (text ∷ [])) (row ∷ []) (without id rows) ≡ rows ++ row ∷ []
set_row id row rows text none =
    let same : without id rows ≡ rows = at_none id (λ _. []) [] rows none ∙ append-nil rows in
    ap (at_row id (more_values CommandLine (text ∷ [])) (row ∷ [])) same ∙ at_none id (more_values CommandLine (text ∷ [])) (row ∷ []) rows none

pub set-option : (name : OptionName) (text : List ℕ) (rows : List Row) → all_of (name_text name) rows ≡ None → settled_rows rules (Some (name_text name, text ∷ [])) rows ≡ rows ++ option_row name text ∷ []
set-option undo_limit text rows none = set_row (name_text undo_limit) (option_row undo_limit text) rows text none
set-option script text rows none = set_row (name_text script) (option_row script text) rows text none
set-option generate text rows none = set_row (name_text generate) (option_row generate text) rows text none

-- what is found of the books
abbrev pub found_books : List (List ℕ) → Option (List (List ℕ))
found_books [] = None
found_books (b ∷ bs) = Some (b ∷ bs)

abbrev pub found_value : Option (List ℕ) → Option (List (List ℕ))
found_value None = None
found_value (Some text) = Some (text ∷ [])

abbrev pub found_flag : Bool → Option (List (List ℕ))
found_flag true = Some (codes "true" ∷ [])
found_flag false = None

-- rows in which this is found
pub record Finds (rows : List Row) (g : Given) : Type 0 where
  pub undo : all_of (codes "undo-limit") rows ≡ found_value g.undo_limit
  pub flag : all_of (codes "strict") rows ≡ found_flag g.strict
  pub file : all_of (codes "script") rows ≡ found_value g.script
  pub size : all_of (codes "generate") rows ≡ found_value g.generate
  pub others : all_of (codes "book") rows ≡ found_books g.books

pub finds-option : (name : OptionName) (text : List ℕ) (rows : List Row) (g : Given) → Finds rows g → all_of (name_text name) rows ≡ None → Finds (rows ++ option_row name text ∷ []) (with_value name text g)
finds-option undo_limit text rows g f none = record {
  undo = found_behind (codes "undo-limit") rows (option_row undo_limit text) refl none;
  flag = other_behind (codes "strict") rows (option_row undo_limit text) refl ∙ f.flag;
  file = other_behind (codes "script") rows (option_row undo_limit text) refl ∙ f.file;
  size = other_behind (codes "generate") rows (option_row undo_limit text) refl ∙ f.size;
  others = other_behind (codes "book") rows (option_row undo_limit text) refl ∙ f.others;
}
finds-option script text rows g f none = record {
  undo = other_behind (codes "undo-limit") rows (option_row script text) refl ∙ f.undo;
  flag = other_behind (codes "strict") rows (option_row script text) refl ∙ f.flag;
  file = found_behind (codes "script") rows (option_row script text) refl none;
  size = other_behind (codes "generate") rows (option_row script text) refl ∙ f.size;
  others = other_behind (codes "book") rows (option_row script text) refl ∙ f.others;
}
finds-option generate text rows g f none = record {
  undo = other_behind (codes "undo-limit") rows (option_row generate text) refl ∙ f.undo;
  flag = other_behind (codes "strict") rows (option_row generate text) refl ∙ f.flag;
  file = other_behind (codes "script") rows (option_row generate text) refl ∙ f.file;
  size = found_behind (codes "generate") rows (option_row generate text) refl none;
  others = other_behind (codes "book") rows (option_row generate text) refl ∙ f.others;
}

-- an option's value by its name
pub found_as : (name : OptionName) (rows : List Row) (g : Given) → Finds rows g → all_of (name_text name) rows ≡ found_value (value_of name g)
found_as undo_limit rows g f = f.undo
found_as script rows g f = f.file
found_as generate rows g f = f.size

-- an option that isn't given has no row
pub no_row : (name : OptionName) (rows : List Row) (g : Given) → Finds rows g → value_of name g ≡ None → all_of (name_text name) rows ≡ None
no_row name rows g f new = found_as name rows g f ∙ ap found_value new

-- `--NAME`, and the value in the next word
pub turn-name : (name : OptionName) (rows : List Row) (pending : Pending) (waiting : Waiting) → IsFree waiting → settle_fault rules false (record { rows = rows; pending = pending; skip = 0 }) ≡ []
    → turn_fault shape [] (walk_at rows pending waiting false) (codes "--" ++ name_text name) ≡ []
turn-name undo_limit rows pending idle free fine = rw fine refl
turn-name undo_limit rows pending (option id) free fine = absurd free
turn-name undo_limit rows pending positional free fine = rw fine refl
turn-name script rows pending idle free fine = rw fine refl
turn-name script rows pending (option id) free fine = absurd free
turn-name script rows pending positional free fine = rw fine refl
turn-name generate rows pending idle free fine = rw fine refl
turn-name generate rows pending (option id) free fine = absurd free
turn-name generate rows pending positional free fine = rw fine refl

pub walked-name : (name : OptionName) (rows : List Row) (pending : Pending) (waiting : Waiting) → IsFree waiting
    → walked rules [] (walk_at rows pending waiting false) (codes "--" ++ name_text name) ≡ walk_at (settled_rows rules pending rows) (Some (name_text name, [])) (option (name_text name)) false
unfolding walked
walked-name undo_limit rows pending idle free = refl
walked-name undo_limit rows pending (option id) free = absurd free
walked-name undo_limit rows pending positional free = refl
walked-name script rows pending idle free = refl
walked-name script rows pending (option id) free = absurd free
walked-name script rows pending positional free = refl
walked-name generate rows pending idle free = refl
walked-name generate rows pending (option id) free = absurd free
walked-name generate rows pending positional free = refl

pub turn-value : (name : OptionName) (rows : List Row) (word : List ℕ) → IsOther word → turn_fault shape [] (walk_at rows (Some (name_text name, [])) (option (name_text name)) false) word ≡ []
turn-value undo_limit rows word other = let p : Pending = Some (name_text undo_limit, []) in rw (other.goes (option (name_text undo_limit)) rows p, other.fine (option (name_text undo_limit)) rows p) refl
turn-value script rows word other = let p : Pending = Some (name_text script, []) in rw (other.goes (option (name_text script)) rows p, other.fine (option (name_text script)) rows p) refl
turn-value generate rows word other = let p : Pending = Some (name_text generate, []) in rw (other.goes (option (name_text generate)) rows p, other.fine (option (name_text generate)) rows p) refl

pub walked-value : (name : OptionName) (rows : List Row) (word : List ℕ) → IsOther word
    → walked rules [] (walk_at rows (Some (name_text name, [])) (option (name_text name)) false) word ≡ walk_at rows (Some (name_text name, word ∷ [])) idle false
unfolding walked
walked-value undo_limit rows word other = rw (other.goes (option (name_text undo_limit)) rows (Some (name_text undo_limit, []))) refl
walked-value script rows word other = rw (other.goes (option (name_text script)) rows (Some (name_text script, []))) refl
walked-value generate rows word other = rw (other.goes (option (name_text generate)) rows (Some (name_text generate, []))) refl
