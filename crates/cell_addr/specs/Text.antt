-- Texts as lists of bytes, and their ASCII letters in one case.
use Rattle.std.specs.Prelude.{ℕ, List, map}
use Rattle.std.specs.Char.{to_ascii_lowercase, to_ascii_uppercase}

-- the text with each ASCII capital made small: texts that differ only in case fold to the same bytes
abbrev pub folded : List ℕ → List ℕ
folded bytes = map to_ascii_lowercase bytes

-- the text with each small ASCII letter made a capital
abbrev pub capitals : List ℕ → List ℕ
capitals bytes = map to_ascii_uppercase bytes
