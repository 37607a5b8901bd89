-- What holds of every formula: the reader and the grammar agree, a text has one tree at most, which is
-- proper, the canonical text of a proper tree spells it, and formulas with one text have one tree.
use Rattle.std.specs.Prelude.{◌≡◌, ℕ, ◌≤◌, ◌↔◌, Bool, true, false, if◌then◌else◌, List, [], ◌∷◌, ◌++◌, Option, Some, None}
use Rattle.std.specs.List.{list_any}
use Rattle.std.specs.Option.{option_map}
use Rattle.cell_addr.specs.declared.axis.Axis.{Axis}
use Rattle.cell_addr.specs.Whole.{IsWholeInside, whole_block}
use Rattle.formula_tree.specs.declared.reference.Corner.{Corner}
use Rattle.formula_tree.specs.Token.{Token}
use Rattle.formula_tree.specs.Term.{Term, whole, depth_of}
use Rattle.formula_tree.specs.Grammar.{SpellsTokens, SpellsText}
use Rattle.formula_tree.specs.Canonical.{formula_text}
use Rattle.formula_tree.specs.Links.{once, AreApart}
use Rattle.formula_tree.specs.Reference.{block_of, sheet_of}
use Rattle.formula_tree.specs.Run.{is_blank}
use Rattle.formula_tree.specs.Whole.{fixed_along, whole_between, whole_term}
use Rattle.formula_tree.specs.StandsFor.{ArePlacesInside, at_home, from_home}
use Rattle.formula_tree.specs.Tokens.{token_at, tokens_of}
use Rattle.formula_tree.specs.declared.reference.Home.{Home}
use Rattle.formula_tree.specs.Proper.{IsProper, SheetsAreListed, AreNamed}
use Rattle.formula_tree.specs.Reader.{tree_of, tree_of_text, max_levels}

-- the reader answers a tree exactly where the tokens spell it and it has no more levels than it may
abbrev pub ReaderIsExact : Type 0
ReaderIsExact = (home : ℕ) (find : List ℕ → Option ℕ) (tokens : List Token) (t : Term Corner)
    → (tree_of home find tokens ≡ Some t) ↔ (SpellsTokens home find tokens t × (depth_of t ≤ max_levels))

-- and so does the reader of texts
abbrev pub TextReaderIsExact : Type 0
TextReaderIsExact = (home : ℕ) (find : List ℕ → Option ℕ) (text : List ℕ) (t : Term Corner)
    → (tree_of_text home find text ≡ Some t) ↔ (SpellsText home find text t × (depth_of t ≤ max_levels))

-- no text spells two trees
abbrev pub OneTree : Type 0
OneTree = (home : ℕ) (find : List ℕ → Option ℕ) (text : List ℕ) (t u : Term Corner) → SpellsText home find text t → SpellsText home find text u → t ≡ u

-- the canonical text of a proper tree whose sheets are listed spells that tree
abbrev pub CanonicalSpells : Type 0
CanonicalSpells = (home : ℕ) (find : List ℕ → Option ℕ) (names : ℕ → Option (List ℕ)) (t : Term Corner) → IsProper t → SheetsAreListed home names find t
    → SpellsText home find (formula_text home names t) t

-- a text's tree is proper
abbrev pub SpelledIsProper : Type 0
SpelledIsProper = (home : ℕ) (find : List ℕ → Option ℕ) (text : List ℕ) (t : Term Corner) → SpellsText home find text t → IsProper t

-- and its sheets are listed
abbrev pub SpelledIsListed : Type 0
SpelledIsListed = (home : ℕ) (find : List ℕ → Option ℕ) (names : ℕ → Option (List ℕ)) (text : List ℕ) (t : Term Corner) → AreNamed names find → SpellsText home find text t
    → SheetsAreListed home names find t

-- the tokens of a text, from its front: each token in front of those of what follows it, and blanks mean
-- nothing
pub record TokensFollow : Type 0 where
  pub none : tokens_of [] ≡ Some []
  pub blank : (c : ℕ) (cs : List ℕ) → is_blank c ≡ true → tokens_of (c ∷ cs) ≡ tokens_of cs
  pub token : (c : ℕ) (cs : List ℕ) (token : Token) (rest : List ℕ) → is_blank c ≡ false → token_at c cs ≡ Some (token, rest)
      → tokens_of (c ∷ cs) ≡ option_map (λ tokens. token ∷ tokens) (tokens_of rest)
  pub other : (c : ℕ) (cs : List ℕ) → is_blank c ≡ false → token_at c cs ≡ None → tokens_of (c ∷ cs) ≡ None

-- formulas at one home have the same text exactly where they have the same tree as seen from there
abbrev pub SameTextSameTree : Type 0
SameTextSameTree = (home : Home) (find : List ℕ → Option ℕ) (names : ℕ → Option (List ℕ)) (t u : Term Corner)
    → IsProper t → SheetsAreListed (sheet_of home) names find t → IsProper u → SheetsAreListed (sheet_of home) names find u
    → (formula_text (sheet_of home) names t ≡ formula_text (sheet_of home) names u) ↔ (from_home home t ≡ from_home home u)

-- seen from a home and placed there again, a tree whose places lie within the limits is itself
abbrev pub ComesBack : Type 0
ComesBack = (home : Home) (t : Term Corner) → ArePlacesInside t → at_home home (from_home home t) ≡ t

-- a proper whole range lies within the limits, and its corners are the first and the last cell of its block, with a `$`
-- at the lines across
abbrev pub WholesAreTheirCorners : Type 0
WholesAreTheirCorners = (axis : Axis) (c d : Corner) → IsProper (whole axis c d)
    → IsWholeInside (whole_between axis c d) × (whole_block (whole_between axis c d) ≡ block_of c d)
    × (whole_term (whole_between axis c d) (fixed_along axis c) (fixed_along axis d) ≡ whole axis c d)

-- each item once, in the order of first occurrence: of a list and one more item, the items of the list,
-- and then the new one where none of the list is the same
pub record ListsOnce {X : Type 0} (same : X → X → Bool) : Type 0 where
  pub none : once same [] ≡ []
  pub more : (xs : List X) (x : X) → once same (xs ++ x ∷ []) ≡ (if list_any (same x) xs then once same xs else once same xs ++ x ∷ [])
  -- what is the same as an item of the list is the same as one that is listed
  pub members : (xs : List X) (x : X) → list_any (same x) (once same xs) ≡ list_any (same x) xs
  -- no two that are listed are the same
  pub apart : (xs : List X) → AreApart same (once same xs)
