-- The words of the command line, and what they say. Source: this project's own; that words are options, values, flags
-- and the others is what the crate `clap` makes of them for a simple command. Items.antt has laws that say, item by
-- item, which words say something, and what.
use Rattle.std.specs.Prelude.{◌≡◌, ◌≤◌, IfSome, ◌==◌, ◌&&◌, ◌||◌, if◌then◌else◌, not, nat_lt, nat_le, ℕ, Bool, true, false, List, [], ◌∷◌, length, Option, Some, None, is_none, option_map, unwrap_or, bytes_eq, codes, Result, Ok, Err, ⊤}
use Rattle.std.specs.List.{list_all}
use Rattle.clap.specs.Words.{App, Row, Rule, all_of, fault_of, first_of, matches_of, new_app, new_rule, with_rule}
use Rattle.clap.specs.declared.builder.action.ArgAction.TheVariants.{Set, SetTrue, Append}
use Rattle.digits.specs.Digits.{is_digit, value}
use Rattle.command_words.specs.declared.error.WordsError.{WordsError}
use Rattle.command_words.specs.declared.error.WordsError.TheVariants.{Usage, NoMemory}
use Rattle.command_words.specs.declared.said.TheConstants.{DEFAULT_UNDO, UNDO_DIGITS, MAX_UNDO, GENERATE_DIGITS, MAX_GENERATE}
use Rattle.command_words.specs.declared.said.Words.{Words}

-- an option of this name, which has one value
abbrev pub option_rule : List ℕ → Rule
option_rule name = record (new_rule name) { long = Some name; action = Some Set }

-- a flag of this name
abbrev pub flag_rule : List ℕ → Rule
flag_rule name = record (new_rule name) { long = Some name; action = Some SetTrue }

-- the words that are neither options nor values
abbrev pub other_rule : List ℕ → Rule
other_rule name = record (new_rule name) { action = Some Append }

-- a command without rules, whose words begin behind its name, and which has no word for help or a version
abbrev pub bare_app : List ℕ → App
bare_app name = record (new_app name) { top = record (new_app name).top { no_binary_name = true; disable_help_flag = true; disable_version_flag = true } }

-- the command: `sheetrun [--undo-limit N] [--strict] [--script FILE] [--generate N] [BOOK.csv ...]`
abbrev pub sheet_app : App
sheet_app =
    with_rule
    (with_rule
    (with_rule
    (with_rule
    (with_rule (bare_app (codes "sheetrun"))
    (option_rule (codes "undo-limit")))
    (flag_rule (codes "strict")))
    (option_rule (codes "script")))
    (option_rule (codes "generate")))
    (other_rule (codes "book"))

-- the byte of `-`
abbrev pub dash : ℕ
dash = 45

abbrev pub begins_with_dash : List ℕ → Bool
begins_with_dash [] = false
begins_with_dash (c ∷ cs) = c == dash

-- the value of an option isn't empty and doesn't begin with a dash
abbrev pub is_value : List ℕ → Bool
is_value text = nat_lt 0 (length text) && not (begins_with_dash text)

-- a number between two others, of at most so many digits
abbrev pub is_number : ℕ → ℕ → ℕ → List ℕ → Bool
is_number digits least most text =
    ((nat_lt 0 (length text) && nat_le (length text) digits) && list_all is_digit text)
    && (nat_le least (value text) && nat_le (value text) most)

-- what is there passes a test
abbrev pub passes : (List ℕ → Bool) → Option (List ℕ) → Bool
passes test None = true
passes test (Some text) = test text

-- the values of the three options, where they are there, whether the flag is, and the other words in order
pub record Given : Type 0 where
  pub undo_limit : Option (List ℕ)
  pub strict : Bool
  pub script : Option (List ℕ)
  pub generate : Option (List ℕ)
  pub books : List (List ℕ)

-- a flag is set where its value is `true`
abbrev pub is_true : Option (List ℕ) → Bool
is_true None = false
is_true (Some text) = bytes_eq text (codes "true")

-- what was found
abbrev pub given_of : List Row → Given
given_of rows = record {
  undo_limit = first_of (codes "undo-limit") rows;
  strict = is_true (first_of (codes "strict") rows);
  script = first_of (codes "script") rows;
  generate = first_of (codes "generate") rows;
  books = unwrap_or (all_of (codes "book") rows) [];
}

-- a generated list of commands stands with neither a script nor a book
abbrev pub stands_alone : Given → Bool
stands_alone g = is_none g.generate || (is_none g.script && (length g.books == 0))

-- what was found is accepted: numbers in their ranges, no value and no other word that begins with a dash
abbrev pub is_accepted : Given → Bool
is_accepted g =
    (((passes (is_number UNDO_DIGITS 0 MAX_UNDO) g.undo_limit
    && passes is_value g.script)
    && passes (is_number GENERATE_DIGITS 1 MAX_GENERATE) g.generate)
    && list_all (λ book. not (begins_with_dash book)) g.books)
    && stands_alone g

-- what accepted words say
pub record Said : Type 0 where
  pub undo_limit : ℕ
  pub strict : Bool
  pub script : Option (List ℕ)
  pub generate : Option ℕ
  pub books : List (List ℕ)

abbrev pub said_by : Given → Said
said_by g = record {
  undo_limit = unwrap_or (option_map value g.undo_limit) DEFAULT_UNDO;
  strict = g.strict;
  script = g.script;
  generate = option_map value g.generate;
  books = g.books;
}

-- what was found says, where it is accepted
abbrev pub said_of : Given → Option Said
said_of g = if is_accepted g then Some (said_by g) else None

-- what the words say; none where they aren't accepted
abbrev pub meaning : List (List ℕ) → Option Said
meaning words = if length (fault_of sheet_app words) == 0 then said_of (given_of (matches_of sheet_app words)) else None

-- numbers in their ranges
abbrev pub IsInRange : Said → Type 0
IsInRange s = (s.undo_limit ≤ MAX_UNDO) × IfSome s.generate (λ n. (1 ≤ n) × (n ≤ MAX_GENERATE))

-- what read words say
abbrev pub seen : Words → Said
seen w = record { undo_limit = w.undo_limit; strict = w.strict; script = w.script; generate = w.generate; books = w.books.items }

-- a reading answers what the words mean, or that they mean nothing; want of memory is free
abbrev pub Answers : Result Words WordsError → Option Said → Type 0
Answers (Ok words) said = said ≡ Some (seen words)
Answers (Err Usage) said = said ≡ None
Answers (Err NoMemory) said = ⊤
