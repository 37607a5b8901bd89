-- Keys that are texts: the text of each, and what a hasher is fed of it. Source: this project's own.
use Rattle.std.specs.Prelude.{ℕ, Bool, true, false, List}
use Rattle.std.specs.List.{flat_map}
use Rattle.std.specs.Hash as fed
use Rattle.folded_key.specs.declared.key.FoldedKey.{FoldedKey}
use Rattle.folded_key.specs.declared.key.FoldedKey.TheVariants.{Own, Asked}

-- the text of a key
abbrev pub text_of : FoldedKey → List ℕ
text_of (Own text) = text
text_of (Asked text) = text.now

-- the key owns its text, as those of a table's entries do
abbrev pub is_own : FoldedKey → Bool
is_own (Own text) = true
is_own (Asked text) = false

-- what a hasher is fed of a text: each byte by itself
abbrev pub fed_text : List ℕ → List (List ℕ)
fed_text = flat_map fed.u8
