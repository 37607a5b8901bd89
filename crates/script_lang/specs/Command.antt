-- What a record of a script says. Source: this project's own.
use Rattle.std.specs.Prelude.{◌≡◌, ◌==◌, ◌+◌, if◌then◌else◌, ℕ, List, length, drop, Option, Some, None, Result, Ok, Err, option_and_then, ⊤}
use Rattle.csv.specs.Records.{field_at}
use Rattle.script_lang.specs.declared.commands.Command.{Command}
use Rattle.script_lang.specs.declared.commands.Command.TheVariants.{Set, AddName, ChangeName, RemoveName, NameValue, Try, Version}
use Rattle.script_lang.specs.declared.commands.Version as Version
use Rattle.script_lang.specs.declared.commands.Version.TheVariants as versions
use Rattle.formula_parse.specs.Migrated.{migrated, migrated_name}
use Rattle.script_lang.specs.Words.{line, word_named}
use Rattle.script_lang.specs.Arguments.{and_said, no_arguments, read_from}
use Rattle.script_lang.specs.declared.arguments.Arguments.{Arguments}
use Rattle.script_lang.specs.declared.error.ScriptError.{ScriptError}
use Rattle.script_lang.specs.declared.error.ScriptError.TheVariants.{UnknownCommand, FieldCount, NoMemory}
use Rattle.script_lang.specs.declared.word.Word.{Word}
use Rattle.script_lang.specs.declared.word.Word.TheVariants as word

-- the command of a word and its arguments
abbrev pub command_with : Word → Arguments → Command
command_with w a = (line w).2 a

-- a script's version is said by its first record alone
abbrev pub word_at : ℕ → Word → Option Word
word_at k word.Version = if k == 1 then Some word.Version else None
word_at k w = Some w

-- the word that the first field of the record of this number spells; records are counted from 1
abbrev pub word_in : ℕ → List (List ℕ) → Option Word
word_in k fields = option_and_then (word_at k) (option_and_then word_named (field_at fields 0))

-- the command of a word: the number of fields is tested first, and then each field in order
abbrev pub command_after : Option Word → List (List ℕ) → Result Command ScriptError
command_after None fields = Err UnknownCommand
command_after (Some w) fields = if length fields == length (line w).1 + 1
    then and_said (read_from 1 (line w).1 (drop 1 fields) no_arguments) (λ a. Ok (command_with w a))
    else Err FieldCount

-- the command that the fields of the record of this number say, or the cause why they say none
abbrev pub command_of : ℕ → List (List ℕ) → Result Command ScriptError
command_of k fields = command_after (word_in k fields) fields

-- a command as it is meant today: in a script of version 1, names that are addresses now are names still
abbrev pub migrated_command : Command → Command
migrated_command (Set at text) = Set at (migrated text)
migrated_command (AddName name scope text) = AddName (migrated_name name) scope (migrated text)
migrated_command (ChangeName name scope text) = ChangeName (migrated_name name) scope (migrated text)
migrated_command (RemoveName name scope) = RemoveName (migrated_name name) scope
migrated_command (NameValue name sheet) = NameValue (migrated_name name) sheet
migrated_command (Try sheet text) = Try sheet (migrated text)
migrated_command c = c

abbrev pub of_version : Version.Version → Command → Command
of_version versions.One c = migrated_command c
of_version versions.Two c = c

-- the command that a record of a script of this version says
abbrev pub command_in : Version.Version → ℕ → List (List ℕ) → Result Command ScriptError
command_in version k fields = and_said (command_of k fields) (λ c. Ok (of_version version c))

-- the version of a script behind a command
abbrev pub version_after : Version.Version → Command → Version.Version
version_after before (Version version) = version
version_after before c = before

-- what a reading answers where this is said: that, or its cause. Want of memory is free.
abbrev pub Says : {X : Type 0} → Result X ScriptError → Result X ScriptError → Type 0
Says (Ok x) said = said ≡ Ok x
Says (Err NoMemory) said = ⊤
Says (Err e) said = said ≡ Err e
