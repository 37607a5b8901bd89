-- The piece that a text begins with. Serves the migration of texts.
use Rattle.std.specs.Prelude.{ℕ, List, [], ◌∷◌, Option, None}
use Rattle.formula_parse.specs.Migrated.{after_piece}

-- what follows it; an empty text begins with none
abbrev pub piece_rest : List ℕ → Option (List ℕ)
piece_rest [] = None
piece_rest (c ∷ cs) = after_piece c cs
