-- The keys under which words are looked up.
use Rattle.std.specs.Prelude.{IsTrue, List, All}
use Rattle.folded_key.specs.Key.{is_own}
use Rattle.folded_key.specs.declared.key.FoldedKey.{FoldedKey}

-- each key owns its text
abbrev pub AreOwn : List FoldedKey → Type 0
AreOwn keys = All (λ key. IsTrue (is_own key)) keys
