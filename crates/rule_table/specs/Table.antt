-- The custom functions that a table tells. Source: this project's own.
use Rattle.std.specs.Prelude.{◌≡◌, ◌-◌, ◌&&◌, ◌||◌, ◌++◌, nat_le, if◌then◌else◌, ℕ, ℤ, Bool, true, false, List, [], ◌∷◌, length, take, drop, Option, None, Some, is_some, Result, Ok, Err, ⊤}
use Rattle.std.specs.Str.{is_utf8}
use Rattle.cell_addr.specs.Word.{is_word}
use Rattle.custom_fn.specs.Pairs.{are_bands, are_tiers}
use Rattle.custom_fn.specs.Registry.{custom_named}
use Rattle.custom_fn.specs.Word.{is_function_word}
use Rattle.custom_fn.specs.declared.rule.Rule.{Rule}
use Rattle.custom_fn.specs.declared.rule.Rule.TheVariants.{Bands, Tiers}
use Rattle.fix_num.specs.Number.{within}
use Rattle.fix_num.specs.declared.error.NumError.{NumError}
use Rattle.rule_table.specs.declared.table.TableError.{TableError}
use Rattle.rule_table.specs.declared.table.TableError.TheVariants.{NoMemory, BadTable}
use Rattle.rule_table.specs.declared.table.RulePair.{RulePair}
use Rattle.rule_table.specs.declared.table.RuleRow.{RuleRow}
use Rattle.rule_table.specs.declared.table.RuleTable.{RuleTable}

-- what is told goes on to the next; what is missing stays missing
abbrev pub and_then : {X Y : Type 0} → Option X → (X → Option Y) → Option Y
and_then None next = None
and_then (Some x) next = next x

-- so many items from one of them on, where the list has them
abbrev pub part_told : {X : Type 0} → List X → ℕ → ℕ → Option (List X)
part_told items start count = if nat_le start (length items) && nat_le count (length items - start) then Some (take count (drop start items)) else None

-- the number, where it is inside the limits
abbrev pub told_within : Result ℤ NumError → Option ℤ
told_within (Ok number) = Some number
told_within (Err _) = None

abbrev pub number_told : ℤ → Option ℤ
number_told millionths = told_within (within millionths)

-- the numbers of a pair, where both are inside
abbrev pub pair_told : RulePair → Option (ℤ × ℤ)
pair_told pair = and_then (number_told pair.from) (λ from. and_then (number_told pair.gives) (λ gives. Some (from, gives)))

-- the numbers of pairs behind these
abbrev pub numbers_told : List (ℤ × ℤ) → List RulePair → Option (List (ℤ × ℤ))
numbers_told numbers [] = Some numbers
numbers_told numbers (pair ∷ pairs) = and_then (pair_told pair) (λ number. numbers_told (numbers ++ number ∷ []) pairs)

-- the rule of numbers, where they are tiers or bands
abbrev pub rule_made : Bool → List (ℤ × ℤ) → Option Rule
rule_made true numbers = if are_tiers numbers then Some (Tiers numbers) else None
rule_made false numbers = if are_bands numbers then Some (Bands numbers) else None

-- the rule of a row
abbrev pub rule_told : List RulePair → RuleRow → Option Rule
rule_told pairs row = and_then (part_told pairs row.pairs_start row.pairs_count) (λ part. and_then (numbers_told [] part) (rule_made row.has_tiers))

-- the word of a row, where it is a text of the form of a function's word
abbrev pub word_told : List ℕ → RuleRow → Option (List ℕ)
word_told words row = and_then (part_told words row.word_start row.word_length) (λ word. if is_word word && is_utf8 word then Some word else None)

-- the word and the rule of a row
abbrev pub row_told : List ℕ → List RulePair → RuleRow → Option (List ℕ × Rule)
row_told words pairs row = and_then (word_told words row) (λ word. and_then (rule_told pairs row) (λ rule. Some (word, rule)))

-- a function after the others, where none of them and none of every workbook has its word
abbrev pub added : List (List ℕ × Rule) → List ℕ × Rule → Option (List (List ℕ × Rule))
added rules named = if is_function_word named.0 || is_some (custom_named named.0 rules) then None else Some (rules ++ named ∷ [])

abbrev pub row_added : List (List ℕ × Rule) → Option (List ℕ × Rule) → Option (List (List ℕ × Rule))
row_added rules named = and_then named (added rules)

-- the functions of rows after these
abbrev pub rows_told : List ℕ → List RulePair → List (List ℕ × Rule) → List RuleRow → Option (List (List ℕ × Rule))
rows_told words pairs rules [] = Some rules
rows_told words pairs rules (row ∷ rows) = and_then (row_added rules (row_told words pairs row)) (λ more. rows_told words pairs more rows)

-- the functions of a table
abbrev pub rules_told : RuleTable → Option (List (List ℕ × Rule))
rules_told table = rows_told table.words.now table.pairs.now [] table.rows.now

-- what is read is what is told, and nothing but a bad table and want of memory keeps it from being read
abbrev pub IsReadAs : {X Y : Type 0} → Option Y → (X → Y) → Result X TableError → Type 0
IsReadAs told seen (Ok x) = told ≡ Some (seen x)
IsReadAs told seen (Err BadTable) = told ≡ None
IsReadAs told seen (Err NoMemory) = ⊤
