-- Quotes doubled, piece by piece. Serves the writing of contents between quotes.
use Rattle.std.proofs.Common.{◌≡◌, ◌∙◌, sym, ap, append_assoc, refl, ℕ, Bool, true, false, cond, eqb, List, [], ◌∷◌, ◌++◌, Option, Some, None}
use Rattle.cell_addr.specs.Parts.{with_byte, split_once}
use Rattle.cell_addr.specs.Quoted.{doubled}
use Rattle.formula_tree.specs.Canonical.{between_quotes}

-- a content without the quote stays as it is
none-by : (b : Bool) (q c : ℕ) (cs : List ℕ) (parts : Option (List ℕ × List ℕ)) → (parts ≡ None → doubled q cs ≡ cs) → cond b (Some ([], cs)) (with_byte c parts) ≡ None
    → cond b (q ∷ q ∷ doubled q cs) (c ∷ doubled q cs) ≡ c ∷ cs
none-by true q c cs parts h e = cc
none-by false q c cs None h e = ap (λ xs. c ∷ xs) (h refl)
none-by false q c cs (Some p) h e = cc

pub doubled-none : (q : ℕ) (xs : List ℕ) → split_once q xs ≡ None → doubled q xs ≡ xs
doubled-none q [] e = refl
doubled-none q (c ∷ cs) e = none-by (eqb c q) q c cs (split_once q cs) (doubled-none q cs) e

-- a content with the quote is its first piece, two quotes, and what follows
some-by : (b : Bool) (q c : ℕ) (cs piece after : List ℕ) (parts : Option (List ℕ × List ℕ))
    → ((p b : List ℕ) → parts ≡ Some (p, b) → doubled q cs ≡ p ++ (q ∷ q ∷ doubled q b)) → cond b (Some ([], cs)) (with_byte c parts) ≡ Some (piece, after)
    → cond b (q ∷ q ∷ doubled q cs) (c ∷ doubled q cs) ≡ piece ++ (q ∷ q ∷ doubled q after)
some-by true q c cs piece after parts h e =
    let same : ◌≡◌ {A = List ℕ × List ℕ} ([], cs) (piece, after) = cc in
    rw (← ap (λ x. x.0) same, ← ap (λ x. x.1) same) refl
some-by false q c cs piece after None h e = cc
some-by false q c cs piece after (Some r) h e =
    let same : ◌≡◌ {A = List ℕ × List ℕ} (c ∷ r.0, r.1) (piece, after) = cc in
    rw (← ap (λ x. x.0) same, ← ap (λ x. x.1) same) (ap (λ xs. c ∷ xs) (h r.0 r.1 refl))

pub doubled-some : (q : ℕ) (xs piece after : List ℕ) → split_once q xs ≡ Some (piece, after) → doubled q xs ≡ piece ++ (q ∷ q ∷ doubled q after)
doubled-some q [] piece after e = cc
doubled-some q (c ∷ cs) piece after e = some-by (eqb c q) q c cs piece after (split_once q cs) (doubled-some q cs) e

-- one piece more is written, and two quotes
pub piece-written : (q : ℕ) (content rest piece after start out one two three cs : List ℕ) → split_once q rest ≡ Some (piece, after)
    → one ≡ out ++ piece → two ≡ one ++ q ∷ [] → three ≡ two ++ q ∷ [] → out ++ (doubled q rest ++ cs) ≡ start ++ (doubled q content ++ cs)
    → three ++ (doubled q after ++ cs) ≡ start ++ (doubled q content ++ cs)
piece-written q content rest piece after start out one two three cs e a b c before =
    let more : List ℕ = doubled q after ++ cs in
    let whole : doubled q rest ++ cs ≡ piece ++ (q ∷ q ∷ more) = ap (λ xs. xs ++ cs) (doubled-some q rest piece after e) ∙ append_assoc piece (q ∷ q ∷ doubled q after) cs in
    ap (λ xs. xs ++ more) (c ∙ ap (λ xs. xs ++ q ∷ []) (b ∙ ap (λ xs. xs ++ q ∷ []) a))
    ∙ append_assoc ((out ++ piece) ++ q ∷ []) (q ∷ []) more
    ∙ append_assoc (out ++ piece) (q ∷ []) (q ∷ more)
    ∙ append_assoc out piece (q ∷ q ∷ more)
    ∙ ap (λ xs. out ++ xs) (sym whole)
    ∙ before

-- the last piece is written, and the closing quote
pub last-written : (q : ℕ) (content rest old start out one two cs : List ℕ) → split_once q rest ≡ None
    → start ≡ old ++ q ∷ [] → one ≡ out ++ rest → two ≡ one ++ q ∷ [] → out ++ (doubled q rest ++ (q ∷ cs)) ≡ start ++ (doubled q content ++ (q ∷ cs))
    → two ++ cs ≡ old ++ between_quotes q content cs
last-written q content rest old start out one two cs e s a b before =
    ap (λ xs. xs ++ cs) (b ∙ ap (λ xs. xs ++ q ∷ []) a)
    ∙ append_assoc (out ++ rest) (q ∷ []) cs
    ∙ append_assoc out rest (q ∷ cs)
    ∙ ap (λ xs. out ++ (xs ++ (q ∷ cs))) (sym (doubled-none q rest e))
    ∙ before
    ∙ ap (λ xs. xs ++ (doubled q content ++ (q ∷ cs))) s
    ∙ append_assoc old (q ∷ []) (doubled q content ++ (q ∷ cs))
