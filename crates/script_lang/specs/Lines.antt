-- How a text stands in a line that is printed. Source: this project's own.
use Rattle.std.specs.Prelude.{ℕ, ◌==◌, ◌++◌, if◌then◌else◌, List, [], ◌∷◌}

-- a byte of a line: a backslash, a line feed and a carriage return are written as two
abbrev pub escaped_byte : ℕ → List ℕ
escaped_byte c = if c == 92 then 92 ∷ 92 ∷ []
    else (if c == 10 then 92 ∷ 110 ∷ []
    else (if c == 13 then 92 ∷ 114 ∷ [] else c ∷ []))

-- a text as it stands in a line
abbrev pub escaped : List ℕ → List ℕ
escaped [] = []
escaped (c ∷ cs) = escaped_byte c ++ escaped cs

-- the line of a text
abbrev pub line_of : List ℕ → List ℕ
line_of text = escaped text ++ 10 ∷ []
