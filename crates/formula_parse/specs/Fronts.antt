-- Where a formula's text goes wrong: at the first of its tokens at which no formula goes on. Fronts are lists of
-- tokens that formulas begin with. Which they are is the same for all homes and lists of sheets.
use Rattle.std.specs.Prelude.{◌≡◌, ℕ, ◌+◌, ◌<◌, ◌≤◌, true, false, List, [], ◌∷◌, ◌++◌, length, Option, Some, None}
use Rattle.formula_tree.specs.declared.reference.Corner.{Corner}
use Rattle.formula_tree.specs.Token.{Token}
use Rattle.formula_tree.specs.Term.{Term, depth_of}
use Rattle.formula_tree.specs.Run.{is_blank, begins_with}
use Rattle.formula_tree.specs.Tokens.{token_at}
use Rattle.formula_tree.specs.Grammar.{SpellsTokens, SpellsText}
use Rattle.formula_tree.specs.Reader.{max_levels}
use Rattle.formula_parse.specs.declared.wrong.TextSpan.{TextSpan}

-- for each home and list of sheets the text spells a tree of no more levels than it may have
abbrev pub IsFormula : List ℕ → Type 0
IsFormula text = (home : ℕ) (find : List ℕ → Option ℕ) → (t : Term Corner) × (SpellsText home find text t × (depth_of t ≤ max_levels))

-- for each home and list of sheets more tokens behind these make them spell such a tree
abbrev pub IsFront : List Token → Type 0
IsFront tokens = (home : ℕ) (find : List ℕ → Option ℕ) → (more : List Token) × ((t : Term Corner) × (SpellsTokens home find (tokens ++ more) t × (depth_of t ≤ max_levels)))

-- for no home and list of sheets do more tokens behind these make them spell such a tree
abbrev pub IsNoFront : List Token → Type 0
IsNoFront tokens = (home : ℕ) (find : List ℕ → Option ℕ) (more : List Token) (t : Term Corner) → SpellsTokens home find (tokens ++ more) t → max_levels < depth_of t

-- for no home and list of sheets do the tokens themselves spell such a tree
abbrev pub IsNotWhole : List Token → Type 0
IsNotWhole tokens = (home : ℕ) (find : List ℕ → Option ℕ) (t : Term Corner) → SpellsTokens home find tokens t → max_levels < depth_of t

-- a text is these tokens, with blanks in front of them or without, and then the rest
pub data TokensThen : List ℕ → List Token → List ℕ → Type 0 where
  all_rest : {text : List ℕ} → TokensThen text [] text
  a_blank : {c : ℕ} {text : List ℕ} {tokens : List Token} {rest : List ℕ} → is_blank c ≡ true → TokensThen text tokens rest → TokensThen (c ∷ text) tokens rest
  a_token : {c : ℕ} {text : List ℕ} {x : Token} {behind : List ℕ} {tokens : List Token} {rest : List ℕ} → is_blank c ≡ false → token_at c text ≡ Some (x, behind)
      → TokensThen behind tokens rest → TokensThen (c ∷ text) (x ∷ tokens) rest

-- what follows `=` goes wrong at the first token of a rest of it, which so much follows; none is in an empty rest
pub data GoesWrongBefore (text : List ℕ) : List ℕ → List ℕ → Type 0 where
  -- at a token behind a front that is none with it
  at_token : {before : List Token} {c : ℕ} {cs : List ℕ} {x : Token} {behind : List ℕ} → TokensThen text before (c ∷ cs) → is_blank c ≡ false → token_at c cs ≡ Some (x, behind)
      → IsFront before → IsNoFront (before ++ x ∷ []) → GoesWrongBefore text (c ∷ cs) behind
  -- where no token begins, and up to the end
  at_no_token : {before : List Token} {c : ℕ} {cs : List ℕ} → TokensThen text before (c ∷ cs) → is_blank c ≡ false → token_at c cs ≡ None
      → IsFront before → GoesWrongBefore text (c ∷ cs) []
  -- at the end, behind a front that is no formula
  at_end : {before : List Token} → TokensThen text before [] → IsFront before → IsNotWhole before → GoesWrongBefore text [] []

-- a text goes wrong at this part of it: as a whole, where it doesn't begin with `=`, and else at a token behind that
pub data GoesWrongAt (text : List ℕ) (span : TextSpan) : Type 0 where
  as_a_whole : begins_with 61 text ≡ false → span.at ≡ 0 → span.length ≡ length text → GoesWrongAt text span
  behind_equals : {formula rest behind : List ℕ} → text ≡ 61 ∷ formula → GoesWrongBefore formula rest behind
      → span.at + length rest ≡ length text → span.length + length behind ≡ length rest → GoesWrongAt text span
