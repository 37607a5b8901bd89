-- TRIM as it is worked out, character after character.
use Rattle.std.specs.Prelude.{ℕ, true, false, if◌then◌else◌, List, ◌∷◌}
use Rattle.func_text.specs.Trim.{has_word, kept}
use Rattle.func_text.specs.declared.trim.Reached.{Reached}
use Rattle.func_text.specs.declared.trim.Reached.TheVariants.{Start, Word, Gap}
use Rattle.func_text.specs.declared.trim.TheConstants.{SPACE}

-- where the walk stands after a space
abbrev pub after_space : Reached → Reached
after_space Start = Start
after_space Word = Gap
after_space Gap = Gap

-- what stays of the characters from here
abbrev pub kept_after : Reached → List ℕ → List ℕ
kept_after Start cs = kept false cs
kept_after Word cs = kept true cs
kept_after Gap cs = if has_word cs then SPACE ∷ kept false cs else kept false cs
