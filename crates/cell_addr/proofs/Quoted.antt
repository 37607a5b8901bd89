-- Texts between quotes, piece by piece. Serves the reading of them, and the law that what is written
-- between quotes is read back.
use Rattle.std.proofs.Common.{◌≡◌, ◌∙◌, sym, ap, refl, ℕ, Bool, true, false, cond, eqb, eq-eqb, List, [], ◌∷◌, ◌++◌, Option, Some, None, option_map, append_assoc}
use Rattle.std.proofs.lemmas.List.{append-nil}
use Rattle.std.proofs.lemmas.Bool.{eqb-true, cond-true, cond-false}
use Rattle.cell_addr.specs.Parts.{with_byte, split_once, strip_prefix}
use Rattle.cell_addr.specs.Quoted.{doubled, quoted}

-- bytes more in front of a content that was read
abbrev pub with_bytes : List ℕ → Option (List ℕ × List ℕ) → Option (List ℕ × List ℕ)
with_bytes xs parts = option_map (λ p. (xs ++ p.0, p.1)) parts

pub with_bytes-nil : (parts : Option (List ℕ × List ℕ)) → parts ≡ with_bytes [] parts
with_bytes-nil None = refl
with_bytes-nil (Some p) = refl

pub with_bytes-with_bytes : (xs ys : List ℕ) (parts : Option (List ℕ × List ℕ)) → with_bytes xs (with_bytes ys parts) ≡ with_bytes (xs ++ ys) parts
with_bytes-with_bytes xs ys None = refl
with_bytes-with_bytes xs ys (Some p) = ap (λ zs. Some (zs, p.1)) (sym (append_assoc xs ys p.0))

with_byte-with_bytes : (x : ℕ) (xs : List ℕ) (parts : Option (List ℕ × List ℕ)) → with_byte x (with_bytes xs parts) ≡ with_bytes (x ∷ xs) parts
with_byte-with_bytes x xs None = refl
with_byte-with_bytes x xs (Some p) = refl

-- a byte that is no quote belongs to the content
quoted-other : (q c : ℕ) (cs : List ℕ) → eqb c q ≡ false → quoted q (c ∷ cs) ≡ with_byte c (quoted q cs)
quoted-other q c [] h = rw h refl
quoted-other q c (d ∷ ds) h = rw h refl

-- a quote closes the content, unless another follows
abbrev by_next : ℕ → List ℕ → Option (List ℕ) → Option (List ℕ × List ℕ)
by_next q cs None = Some ([], cs)
by_next q cs (Some more) = with_bytes (q ∷ []) (quoted q more)

next-by : (q : ℕ) (b : Bool) (d : ℕ) (ds : List ℕ) → cond b (with_byte q (quoted q ds)) (Some ([], d ∷ ds)) ≡ by_next q (d ∷ ds) (cond b (Some ds) None)
next-by q true d ds = refl
next-by q false d ds = refl

quoted-quote : (q : ℕ) (cs : List ℕ) → quoted q (q ∷ cs) ≡ by_next q cs (strip_prefix q cs)
quoted-quote q [] = rw (eq-eqb q q refl) refl
quoted-quote q (d ∷ ds) = rw (eq-eqb q q refl) (next-by q (eqb d q) d ds)

-- the content up to the first quote, and on from there
abbrev by_parts : ℕ → Option (List ℕ × List ℕ) → Option (List ℕ × List ℕ)
by_parts q None = None
by_parts q (Some (piece, after)) = with_bytes piece (quoted q (q ∷ after))

by_parts-with_byte : (q x : ℕ) (parts : Option (List ℕ × List ℕ)) → with_byte x (by_parts q parts) ≡ by_parts q (with_byte x parts)
by_parts-with_byte q x None = refl
by_parts-with_byte q x (Some (piece, after)) = with_byte-with_bytes x piece (quoted q (q ∷ after))

parts-by : (q : ℕ) (b : Bool) (x : ℕ) (xs : List ℕ) → eqb x q ≡ b → quoted q xs ≡ by_parts q (split_once q xs)
    → quoted q (x ∷ xs) ≡ by_parts q (cond b (Some ([], xs)) (with_byte x (split_once q xs)))
parts-by q true x xs e h = ap (λ c. quoted q (c ∷ xs)) (eqb-true x q e) ∙ with_bytes-nil (quoted q (q ∷ xs))
parts-by q false x xs e h = quoted-other q x xs e ∙ ap (with_byte x) h ∙ by_parts-with_byte q x (split_once q xs)

quoted-by_parts : (q : ℕ) (xs : List ℕ) → quoted q xs ≡ by_parts q (split_once q xs)
quoted-by_parts q [] = refl
quoted-by_parts q (x ∷ xs) = parts-by q (eqb x q) x xs refl (quoted-by_parts q xs)

-- no quote, no closed content
pub quoted-unclosed : (q : ℕ) (xs : List ℕ) → None ≡ split_once q xs → quoted q xs ≡ None
quoted-unclosed q xs e = quoted-by_parts q xs ∙ ap (by_parts q) (sym e)

-- a quote alone closes the content
pub quoted-closed : (q : ℕ) (xs piece after : List ℕ) → Some (piece, after) ≡ split_once q xs → None ≡ strip_prefix q after → quoted q xs ≡ Some (piece, after)
quoted-closed q xs piece after e f =
    quoted-by_parts q xs ∙ ap (by_parts q) (sym e)
    ∙ ap (with_bytes piece) (quoted-quote q after ∙ ap (by_next q after) (sym f))
    ∙ ap (λ ys. Some (ys, after)) (append-nil piece)

-- two quotes are one of the content, which goes on
pub quoted_more : (q : ℕ) (xs piece after more : List ℕ) → Some (piece, after) ≡ split_once q xs → Some more ≡ strip_prefix q after → quoted q xs ≡ with_bytes (piece ++ q ∷ []) (quoted q more)
quoted_more q xs piece after more e f =
    quoted-by_parts q xs ∙ ap (by_parts q) (sym e)
    ∙ ap (with_bytes piece) (quoted-quote q after ∙ ap (by_next q after) (sym f))
    ∙ with_bytes-with_bytes piece (q ∷ []) (quoted q more)

-- what follows the content, through bytes in front of it
pub rest-with_bytes : (xs : List ℕ) (parts : Option (List ℕ × List ℕ)) → option_map (λ p. p.1) (with_bytes xs parts) ≡ option_map (λ p. p.1) parts
rest-with_bytes xs None = refl
rest-with_bytes xs (Some p) = refl

-- a doubled content and a closing quote are read back
doubled-by : (q : ℕ) (b : Bool) (c : ℕ) (cs rest : List ℕ) → eqb c q ≡ b → quoted q (doubled q cs ++ (q ∷ rest)) ≡ Some (cs, rest)
    → quoted q (cond b (q ∷ q ∷ doubled q cs) (c ∷ doubled q cs) ++ (q ∷ rest)) ≡ Some (c ∷ cs, rest)
doubled-by q true c cs rest e h =
    quoted-quote q (q ∷ doubled q cs ++ (q ∷ rest)) ∙ ap (by_next q (q ∷ doubled q cs ++ (q ∷ rest))) (cond-true (eqb q q) (Some (doubled q cs ++ (q ∷ rest))) None (eq-eqb q q refl))
    ∙ ap (with_bytes (q ∷ [])) h ∙ ap (λ x. Some (x ∷ cs, rest)) (sym (eqb-true c q e))
doubled-by q false c cs rest e h = quoted-other q c (doubled q cs ++ (q ∷ rest)) e ∙ ap (with_byte c) h

pub quoted-doubled : (q : ℕ) (content rest : List ℕ) → strip_prefix q rest ≡ None → quoted q (doubled q content ++ (q ∷ rest)) ≡ Some (content, rest)
quoted-doubled q [] rest h = quoted-quote q rest ∙ ap (by_next q rest) h
quoted-doubled q (c ∷ cs) rest h = doubled-by q (eqb c q) c cs rest refl (quoted-doubled q cs rest h)

-- a content that was read between quotes was written there, each quote of its own twice
abbrev pub IsWritten : ℕ → List ℕ → List ℕ → List ℕ → Type 0
IsWritten q text content rest = (text ≡ doubled q content ++ (q ∷ rest)) × (strip_prefix q rest ≡ None)

same_parts : (x y : List ℕ × List ℕ) → Some x ≡ Some y → (x.0 ≡ y.0) × (x.1 ≡ y.1)
same_parts x y e = let same : x ≡ y = cc in (ap (λ p. p.0) same, ap (λ p. p.1) same)

-- an empty content, and what stands after its closing quote
abbrev closed_at : List ℕ → Option (List ℕ × List ℕ)
closed_at rest = Some ([], rest)

written-by : (q : ℕ) (b : Bool) (c : ℕ) (cs content rest : List ℕ) (parts : Option (List ℕ × List ℕ)) → eqb c q ≡ b → with_byte c parts ≡ Some (content, rest)
    → ((n r : List ℕ) → parts ≡ Some (n, r) → IsWritten q cs n r) → (ys : List ℕ) → ys ≡ cond b (q ∷ q ∷ cs) (c ∷ cs) → IsWritten q ys content rest
written-by q b c cs content rest None e f h ys w = cc
written-by q true c cs content rest (Some (n, r)) e f h ys w =
    let parts = same_parts (c ∷ n, r) (content, rest) f in
    let first : c ∷ n ≡ content = parts.0 in
    let after : r ≡ rest = parts.1 in
    let more = h n r refl in
    let same : doubled q (c ∷ n) ≡ q ∷ q ∷ doubled q n = cond-true (eqb c q) _ _ e in (
      w ∙ ap (λ xs. q ∷ q ∷ xs) more.0 ∙ ap (λ xs. xs ++ (q ∷ r)) (sym same) ∙ ap (λ xs. doubled q xs ++ (q ∷ r)) first ∙ ap (λ xs. doubled q content ++ (q ∷ xs)) after,
      rw (← after) more.1,
    )
written-by q false c cs content rest (Some (n, r)) e f h ys w =
    let parts = same_parts (c ∷ n, r) (content, rest) f in
    let first : c ∷ n ≡ content = parts.0 in
    let after : r ≡ rest = parts.1 in
    let more = h n r refl in
    let same : doubled q (c ∷ n) ≡ c ∷ doubled q n = cond-false (eqb c q) _ _ e in (
      w ∙ ap (λ xs. c ∷ xs) more.0 ∙ ap (λ xs. xs ++ (q ∷ r)) (sym same) ∙ ap (λ xs. doubled q xs ++ (q ∷ r)) first ∙ ap (λ xs. doubled q content ++ (q ∷ xs)) after,
      rw (← after) more.1,
    )

written_one : (q : ℕ) (b : Bool) (c : ℕ) (content rest : List ℕ) → eqb c q ≡ b → cond b (closed_at []) None ≡ Some (content, rest) → IsWritten q (c ∷ []) content rest
written_one q true c content rest e f =
    let parts = same_parts ([], []) (content, rest) f in
    let none : [] ≡ content = parts.0 in
    let after : [] ≡ rest = parts.1 in
    (ap (λ x. x ∷ []) (eqb-true c q e) ∙ ap (λ xs. doubled q xs ++ (q ∷ [])) none ∙ ap (λ xs. doubled q content ++ (q ∷ xs)) after, rw (← after) refl)
written_one q false c content rest e f = cc

written_closed : (q : ℕ) (c d : ℕ) (cs content rest : List ℕ) → eqb c q ≡ true → eqb d q ≡ false → closed_at (d ∷ cs) ≡ Some (content, rest) → IsWritten q (c ∷ d ∷ cs) content rest
written_closed q c d cs content rest e g f =
    let parts = same_parts ([], d ∷ cs) (content, rest) f in
    let none : [] ≡ content = parts.0 in
    let after : d ∷ cs ≡ rest = parts.1 in (
      ap (λ x. x ∷ d ∷ cs) (eqb-true c q e) ∙ ap (λ xs. doubled q xs ++ (q ∷ d ∷ cs)) none ∙ ap (λ xs. doubled q content ++ (q ∷ xs)) after,
      rw (← after) (cond-false (eqb d q) (Some cs) None g),
    )

written_more : (q : ℕ) (a b : Bool) (c d : ℕ) (cs content rest : List ℕ) → eqb c q ≡ a → eqb d q ≡ b → cond a (cond b (with_byte q (quoted q cs)) (closed_at (d ∷ cs))) (with_byte c (quoted q (d ∷ cs))) ≡ Some (content, rest)
    → ((n r : List ℕ) → quoted q cs ≡ Some (n, r) → IsWritten q cs n r) → ((n r : List ℕ) → quoted q (d ∷ cs) ≡ Some (n, r) → IsWritten q (d ∷ cs) n r) → IsWritten q (c ∷ d ∷ cs) content rest
written_more q true true c d cs content rest e g f h k =
    written-by q true q cs content rest (quoted q cs) (eq-eqb q q refl) f h (c ∷ d ∷ cs) (ap (λ x. x ∷ d ∷ cs) (eqb-true c q e) ∙ ap (λ x. q ∷ x ∷ cs) (eqb-true d q g))
written_more q true false c d cs content rest e g f h k = written_closed q c d cs content rest e g f
written_more q false b c d cs content rest e g f h k = written-by q false c (d ∷ cs) content rest (quoted q (d ∷ cs)) e f k (c ∷ d ∷ cs) refl

pub quoted-written : (q : ℕ) (text content rest : List ℕ) → quoted q text ≡ Some (content, rest) → IsWritten q text content rest
quoted-written q [] content rest f = cc
quoted-written q (c ∷ []) content rest f = written_one q (eqb c q) c content rest refl f
quoted-written q (c ∷ d ∷ cs) content rest f =
    written_more q (eqb c q) (eqb d q) c d cs content rest refl refl f (λ n r e. quoted-written q cs n r e) (λ n r e. quoted-written q (d ∷ cs) n r e)
