-- Texts and their trees. Serves the reading of texts.
use Rattle.std.proofs.Common.{◌≡◌, ◌∙◌, sym, ap, refl, arith, ltb, ℕ, ◌<◌, ◌≤◌, ◌==◌, Bool, true, false, nat_le, if◌then◌else◌, List, [], ◌∷◌, Option, Some, None}
use Rattle.std.specs.Option.{option_and_then}
use Rattle.std.proofs.lemmas.Bool.{ltb-false, leb-true, le-leb}
use Rattle.cell_addr.specs.Parts.{strip_prefix}
use borrow.Author.Tests.{ltb-true}
use Rattle.formula_tree.specs.declared.reference.Corner.{Corner}
use Rattle.formula_tree.specs.Token.{Token}
use Rattle.formula_tree.specs.Term.{Term, depth_of}
use Rattle.formula_tree.specs.Tokens.{tokens_of}
use Rattle.formula_tree.specs.Grammar.{SpellsText}
use Rattle.formula_tree.specs.Reader.{read, tree_of, tree_of_text, max_levels}
use Rattle.formula_tree.proofs.Exact.{text_reader-exact}
use Rattle.formula_parse.specs.internal.Stream.{stream}
use Rattle.formula_parse.proofs.Streams.{Streams, text-streams}
use Rattle.formula_parse.proofs.SpeltTokens.{other-unread}

-- the tree of a text is that of the tokens that are read after its `=`
tree-by : (home : ℕ) (find : List ℕ → Option ℕ) (tokens : Option (List Token)) (read : List Token) → Streams tokens read → option_and_then (tree_of home find) tokens ≡ tree_of home find read
tree-by home find None read s = sym (other-unread home find read s)
tree-by home find (Some tokens) read s = ap (tree_of home find) (sym s)

text-by : (home : ℕ) (find : List ℕ → Option ℕ) (b : Bool) (c : ℕ) (cs rest : List ℕ) → (c == 61) ≡ b → Some rest ≡ (if b then Some cs else None)
    → tree_of_text home find (c ∷ cs) ≡ tree_of home find (stream rest)
text-by home find true c cs rest e f =
    let same : rest ≡ cs = cc in
    rw (e, same) (tree-by home find (tokens_of cs) (stream cs) (text-streams cs))
text-by home find false c cs rest e f = absurd (cc)

pub text-tree : (home : ℕ) (find : List ℕ → Option ℕ) (text rest : List ℕ) → Some rest ≡ strip_prefix 61 text → tree_of_text home find text ≡ tree_of home find (stream rest)
text-tree home find [] rest e = absurd (cc)
text-tree home find (c ∷ cs) rest e = text-by home find (c == 61) c cs rest refl e

-- and a text that doesn't begin with `=` has none
none-by : (home : ℕ) (find : List ℕ → Option ℕ) (b : Bool) (c : ℕ) (cs : List ℕ) → (c == 61) ≡ b → None ≡ (if b then Some cs else None) → tree_of_text home find (c ∷ cs) ≡ None
none-by home find true c cs e f = absurd (cc)
none-by home find false c cs e f = rw e refl

pub text-none : (home : ℕ) (find : List ℕ → Option ℕ) (text : List ℕ) → None ≡ strip_prefix 61 text → tree_of_text home find text ≡ None
text-none home find [] e = refl
text-none home find (c ∷ cs) e = none-by home find (c == 61) c cs refl e

-- a tree that is read is whole where nothing follows it and it has no more levels than it may
pub whole : (home : ℕ) (find : List ℕ → Option ℕ) (tokens rest : List Token) (t : Term Corner) → Some (t, rest) ≡ read home find max_levels 0 tokens → rest ≡ [] → depth_of t ≤ max_levels
    → Some t ≡ tree_of home find tokens
whole home find tokens rest t e none h = rw (sym e, none, le-leb (depth_of t) max_levels h) refl

pub unread : (home : ℕ) (find : List ℕ → Option ℕ) (tokens : List Token) → None ≡ read home find max_levels 0 tokens → None ≡ tree_of home find tokens
unread home find tokens e = rw (sym e) refl

pub followed : (home : ℕ) (find : List ℕ → Option ℕ) (tokens rest : List Token) (token : Token) (t : Term Corner) → Some (t, token ∷ rest) ≡ read home find max_levels 0 tokens → None ≡ tree_of home find tokens
followed home find tokens rest token t e = rw (sym e) refl

deep-by : (home : ℕ) (find : List ℕ → Option ℕ) (tokens : List Token) (t : Term Corner) (b : Bool) → Some (t, []) ≡ read home find max_levels 0 tokens → nat_le (depth_of t) max_levels ≡ b → max_levels < depth_of t
    → None ≡ tree_of home find tokens
deep-by home find tokens t true e f h = let low = leb-true (depth_of t) max_levels f in absurd (omega (arith, low))
deep-by home find tokens t false e f h = rw (sym e, f) refl

pub deep : (home : ℕ) (find : List ℕ → Option ℕ) (tokens rest : List Token) (t : Term Corner) → Some (t, rest) ≡ read home find max_levels 0 tokens → rest ≡ [] → max_levels < depth_of t
    → None ≡ tree_of home find tokens
deep home find tokens rest t e none h = deep-by home find tokens t (nat_le (depth_of t) max_levels) (ap (λ zs. Some (t, zs)) (sym none) ∙ e) refl h

-- a text that isn't read spells only trees of more levels
pub unread-deep : (home : ℕ) (find : List ℕ → Option ℕ) (text : List ℕ) → tree_of_text home find text ≡ None
    → (t : Term Corner) → SpellsText home find text t → max_levels < depth_of t
unread-deep home find text none t spelt =
    elim (ltb max_levels (depth_of t)) as (λ b. ltb max_levels (depth_of t) ≡ b → max_levels < depth_of t) [
      | true ↦ λ e. ltb-true max_levels (depth_of t) e
      | false ↦ λ e. let read : tree_of_text home find text ≡ Some t = (text_reader-exact home find text t).1 (spelt, ltb-false max_levels (depth_of t) e) in cc
    ] refl
