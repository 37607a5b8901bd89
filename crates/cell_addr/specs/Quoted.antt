-- Texts between quotes, in which a quote is written twice. Source: OpenFormula's quoted texts and sheet
-- names.
use Rattle.std.specs.Prelude.{ℕ, if◌then◌else◌, ◌==◌, List, [], ◌∷◌, Option, Some, None}
use Rattle.cell_addr.specs.Parts.{with_byte}

-- a content as it is written between quotes: each quote q of its own twice
abbrev pub doubled : ℕ → List ℕ → List ℕ
doubled q [] = []
doubled q (c ∷ cs) = if c == q then q ∷ q ∷ doubled q cs else c ∷ doubled q cs

-- of a text after an opening quote q: the content up to the closing one, where two are one of the content,
-- and what follows the closing one; nothing where none closes the content
abbrev pub quoted : ℕ → List ℕ → Option (List ℕ × List ℕ)
quoted q [] = None
quoted q (c ∷ []) = if c == q then Some ([], []) else None
quoted q (c ∷ d ∷ cs) = if c == q
    then (if d == q then with_byte q (quoted q cs) else Some ([], d ∷ cs))
    else with_byte c (quoted q (d ∷ cs))
