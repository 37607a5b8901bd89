-- The reader and the grammar agree. Serves the laws `reader_is_exact` and `no_text_spells_two`.
use Rattle.std.proofs.Common.{◌≡◌, sym, ◌∙◌, ap, refl, arith, subst, ℕ, ◌+◌, ◌≤◌, Bool, true, false, nat_le, ◌==◌, if◌then◌else◌, List, [], ◌∷◌, Option, Some, None}
use Rattle.std.specs.Option.{option_and_then}
use Rattle.std.proofs.lemmas.Bool.{leb-true, le-leb, eqb-true, eq-eqb}
use Rattle.formula_tree.specs.declared.reference.Corner.{Corner}
use Rattle.formula_tree.specs.Token.{Token}
use Rattle.formula_tree.specs.Term.{Term, depth_of}
use Rattle.formula_tree.specs.Grammar.{SpellsTokens, SpellsText}
use Rattle.formula_tree.specs.Tokens.{tokens_of}
use Rattle.formula_tree.specs.Reader.{Read, and_then, read, whole_then, max_levels, tree_of, tree_of_text}
use Rattle.formula_tree.specs.Laws.{ReaderIsExact, TextReaderIsExact, OneTree}
use Rattle.formula_tree.proofs.Complete.{read-spelt}
use Rattle.formula_tree.proofs.Sound.{spelt-read}

-- a whole tree is one that nothing follows, and that has no more levels than it may
whole-at : (u t : Term Corner) → whole_then u [] ≡ Some t → (◌≡◌ {A = List Token} [] []) × (u ≡ t) × (depth_of t ≤ max_levels)
whole-at u t e =
    elim (nat_le (depth_of u) max_levels) as (λ b. nat_le (depth_of u) max_levels ≡ b → (if b then Some u else None) ≡ Some t → (◌≡◌ {A = List Token} [] []) × (u ≡ t) × (depth_of t ≤ max_levels)) [
      | true ↦ λ h f. let same : u ≡ t = cc in (refl, same, subst (λ v. depth_of v ≤ max_levels) same (leb-true (depth_of u) max_levels h))
      | false ↦ λ h f. cc
    ] refl e

whole-is : (u t : Term Corner) (rest : List Token) → whole_then u rest ≡ Some t → (rest ≡ []) × (u ≡ t) × (depth_of t ≤ max_levels)
whole-is u t [] e = whole-at u t e
whole-is u t (x ∷ rest) e = cc

tree-of-read : (t : Term Corner) (r : Read) → and_then r whole_then ≡ Some t → (r ≡ Some (t, [])) × (depth_of t ≤ max_levels)
tree-of-read t None e = cc
tree-of-read t (Some r) e =
    let w : (r.1 ≡ []) × (r.0 ≡ t) × (depth_of t ≤ max_levels) = whole-is r.0 t r.1 e in
    let same : r ≡ (t, []) = λ i. (w.1 i, w.0 i) in
    (ap (λ p. Some p) same, w.2)

pub reader-exact : ReaderIsExact
reader-exact home find tokens t = (
  λ e.
      let p : (read home find max_levels 0 tokens ≡ Some (t, [])) × (depth_of t ≤ max_levels) = tree-of-read t (read home find max_levels 0 tokens) e in
      (spelt-read home find max_levels 0 tokens t [] (omega arith) p.0, p.1),
  λ p.
      let e : read home find max_levels 0 tokens ≡ Some (t, []) = read-spelt home find p.0 max_levels p.1 tt in
      rw (e, le-leb (depth_of t) max_levels p.1) refl,
)

-- a text, by its first byte and by the tokens after it
read-text : (home : ℕ) (find : List ℕ → Option ℕ) (c : ℕ) (cs : List ℕ) (t : Term Corner) (b : Bool) (r : Option (List Token)) → (c == 61) ≡ b → tokens_of cs ≡ r
    → (if b then option_and_then (tree_of home find) r else None) ≡ Some t → SpellsText home find (c ∷ cs) t × (depth_of t ≤ max_levels)
read-text home find c cs t false r e f h = cc
read-text home find c cs t true None e f h = cc
read-text home find c cs t true (Some tokens) e f h =
    let p = (reader-exact home find tokens t).0 h in
    ((tokens, (eqb-true c 61 e, f, p.0)), p.1)

text-read : (home : ℕ) (find : List ℕ → Option ℕ) (c : ℕ) (cs : List ℕ) (t : Term Corner) → SpellsText home find (c ∷ cs) t → depth_of t ≤ max_levels
    → tree_of_text home find (c ∷ cs) ≡ Some t
text-read home find c cs t (tokens, (e, f, d)) h =
    let read : tree_of home find tokens ≡ Some t = (reader-exact home find tokens t).1 (d, h) in
    rw (eq-eqb c 61 e, f) read

pub text_reader-exact : TextReaderIsExact
text_reader-exact home find [] t = (λ e. cc, λ p. absurd p.0)
text_reader-exact home find (c ∷ cs) t = (λ e. read-text home find c cs t (c == 61) (tokens_of cs) refl refl e, λ p. text-read home find c cs t p.0 p.1)

-- tokens spell one tree at most
pub one-spelt : (home : ℕ) (find : List ℕ → Option ℕ) (tokens : List Token) (t u : Term Corner) → SpellsTokens home find tokens t → SpellsTokens home find tokens u → t ≡ u
one-spelt home find tokens t u d e =
    let n : ℕ = depth_of t + depth_of u in
    let a : read home find n 0 tokens ≡ Some (t, []) = read-spelt home find d n (omega arith) tt in
    let b : read home find n 0 tokens ≡ Some (u, []) = read-spelt home find e n (omega arith) tt in
    let same : ◌≡◌ {A = Read} (Some (t, [])) (Some (u, [])) = sym a ∙ b in
    let pair : ◌≡◌ {A = Term Corner × List Token} (t, []) (u, []) = cc in
    ap (λ p. p.0) pair

pub one-tree : OneTree
one-tree home find [] t u d e = absurd d
one-tree home find (c ∷ cs) t u (xs, (b, f, d)) (ys, (b', g, e)) =
    let same : xs ≡ ys = cc in
    one-spelt home find ys t u (subst (λ zs. SpellsTokens home find zs t) same d) e
