-- The form of names and of functions' words. Source: this project's own.
use Rattle.std.specs.Prelude.{ℕ, Bool, false, ◌&&◌, ◌||◌, ◌==◌, List, [], ◌∷◌}
use Rattle.std.specs.List.{list_all}
use Rattle.std.specs.Char.{is_ascii_alphabetic, is_ascii_alphanumeric}

-- a letter or `_`, which is 95, followed by letters, digits, `_` and `.`, which is 46
abbrev pub is_word : List ℕ → Bool
is_word [] = false
is_word (c ∷ cs) = (is_ascii_alphabetic c || c == 95) && list_all (λ d. is_ascii_alphanumeric d || (d == 95 || d == 46)) cs
