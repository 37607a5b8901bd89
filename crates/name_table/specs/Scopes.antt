-- Named expressions by scope and word, and which of them a word finds. Source: this project's own; that a sheet's own name
-- comes before that of the whole workbook is HyperFormula's.
use Rattle.std.specs.Prelude.{ℕ, List, map, filter, Option, Some, None, option_map, nat_eq}
use Rattle.std.specs.Option.{option_cmp, option_eq, option_or}
use Rattle.std.specs.FinMap as fin
use Rattle.std.specs.Ordering.{nat_cmp, ordering_then}
use Rattle.std.specs.declared.cmp.Ordering.{Ordering}
use Rattle.name_table.specs.declared.key.NameKey.{NameKey}

abbrev pub key_of : Option ℕ → ℕ → NameKey
key_of scope word = record { scope = scope; word = word }

-- those of the whole workbook first, then sheet by sheet, and within a scope by the words' numbers, as the derived order has it
abbrev pub key_cmp : NameKey → NameKey → Ordering
key_cmp a b = ordering_then (option_cmp nat_cmp a.scope b.scope) (nat_cmp a.word b.word)

-- named expressions: each has a holder
abbrev pub NameMap : Type 0
NameMap = fin.FinMap key_cmp ℕ

-- the names where this one has this holder, or there is none
abbrev pub with_holder : NameKey → Option ℕ → NameMap → NameMap
with_holder key None names = fin.remove names key
with_holder key (Some holder) names = fin.insert names key holder

-- the holder of a scope's own name, with the scope
abbrev pub found_in : NameMap → ℕ → Option ℕ → Option (Option ℕ × ℕ)
found_in names word scope = option_map (λ holder. (scope, holder)) (fin.get names (key_of scope word))

-- the name that a word finds on a sheet: the sheet's own, else that of the whole workbook
abbrev pub found : NameMap → ℕ → ℕ → Option (Option ℕ × ℕ)
found names word sheet = option_or (found_in names word (Some sheet)) (found_in names word None)

-- word and holder of each name of a scope, by the words' numbers
abbrev pub in_scope : Option ℕ → NameMap → List (ℕ × ℕ)
in_scope scope names = map (λ e. (e.0.word, e.1)) (filter (λ e. option_eq nat_eq e.0.scope scope) (fin.entries names))
