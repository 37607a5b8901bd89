-- The pieces of a text, one at a time, with no count of steps: what stands in front of the rest is a piece as it is
-- written. Serves the migration of texts.
use Rattle.std.proofs.Common.{◌≡◌, sym, ◌∙◌, ap, refl, arith, ℕ, zero, suc, ◌+◌, ◌-◌, ◌<◌, ◌≤◌, Bool, true, false, ◌==◌, ◌||◌, cond, List, [], ◌∷◌, ◌++◌, length, take, drop, Option, Some, None, option_map, length-append, append_assoc}
use Rattle.std.specs.List.{prefix_len, find}
use Rattle.std.proofs.lemmas.Bool.{eqb-true}
use Rattle.std.proofs.lemmas.List.{append-nil, take-append-drop}
use Rattle.std.proofs.Math.Seq.{take-append_seam}
use Rattle.digits.specs.Digits.{is_digit}
use Rattle.cell_addr.specs.Parts.{with_byte}
use Rattle.cell_addr.specs.Quoted.{quoted}
use Rattle.cell_value.specs.declared.fault.FaultKind.{FaultKind}
use Rattle.cell_value.specs.Fault.{fault_text, faults}
use Rattle.formula_tree.specs.declared.operator.Op.{Op}
use Rattle.formula_tree.specs.Token.{Token}
use Rattle.formula_tree.specs.Run.{after_while, begins_run, begins_with, is_blank, is_run_byte}
use Rattle.formula_tree.specs.Tokens.{begins_number, begins_with_fault, byte_token, fault_token, number_length, pair_op, sign_token}
use Rattle.formula_tree.proofs.TokenSteps.{fault_text-some, number_length-by, run-goes_on}
use Rattle.std.specs.Str.{IsUtf8, IsCharBoundary}
use Rattle.std.proofs.lemmas.Str.{IsCharBoundary-at_seam}
use Rattle.formula_parse.specs.internal.Pieces.{piece_rest}
use Rattle.formula_parse.specs.Migrated.{after_piece, migrated_in, migrated_pieces, migrated_step, piece_before, piece_migrated}

-- the text is one byte or more, and then the rest
abbrev pub Seam : List ℕ → List ℕ → Type 0
Seam cs rest = (w : List ℕ) × (cs ≡ w ++ rest) × (0 < length w)

abbrev pub SeamIf : List ℕ → Option (List ℕ) → Type 0
SeamIf cs None = Unit {0}
SeamIf cs (Some rest) = Seam cs rest

some-take : (n c : ℕ) (cs : List ℕ) → 0 < n → 0 < length (take n (c ∷ cs))
some-take zero c cs some = absurd (omega arith)
some-take (suc n) c cs some = omega arith

seam-drop : (n c : ℕ) (cs : List ℕ) → 0 < n → Seam (c ∷ cs) (drop n (c ∷ cs))
seam-drop n c cs some = (take n (c ∷ cs), sym (take-append-drop n (c ∷ cs)), some-take n c cs some)

seam-byte : (c : ℕ) (cs : List ℕ) → Seam (c ∷ cs) cs
seam-byte c cs = (c ∷ [], refl, omega arith)

seam-longer : (c : ℕ) (cs rest : List ℕ) → Seam cs rest → Seam (c ∷ cs) rest
seam-longer c cs rest (w, is, some) = (c ∷ w, ap (λ xs. c ∷ xs) is, omega arith)

seam-cond : (cs : List ℕ) (b : Bool) (x y : Option (List ℕ)) → (b ≡ true → SeamIf cs x) → (b ≡ false → SeamIf cs y) → SeamIf cs (cond b x y)
seam-cond cs true x y h g = h refl
seam-cond cs false x y h g = g refl

run-some : (c : ℕ) (cs : List ℕ) → begins_run c ≡ true → 0 < prefix_len is_run_byte (c ∷ cs)
run-some c cs h = rw (run-goes_on c h) (omega arith)

-- what follows the content between quotes
parts-byte : (cs : List ℕ) (c d : ℕ) (parts : Option (List ℕ × List ℕ)) → SeamIf cs (option_map (λ p. p.1) parts) → SeamIf (c ∷ cs) (option_map (λ p. p.1) (with_byte d parts))
parts-byte cs c d None s = tt
parts-byte cs c d (Some p) s = seam-longer c cs p.1 s

parts-two : (cs : List ℕ) (c d e : ℕ) (parts : Option (List ℕ × List ℕ)) → SeamIf cs (option_map (λ p. p.1) parts) → SeamIf (c ∷ d ∷ cs) (option_map (λ p. p.1) (with_byte e parts))
parts-two cs c d e None s = tt
parts-two cs c d e (Some p) s = seam-longer c (d ∷ cs) p.1 (seam-longer d cs p.1 s)

parts-cond : (cs : List ℕ) (b : Bool) (x y : Option (List ℕ × List ℕ)) → SeamIf cs (option_map (λ p. p.1) x) → SeamIf cs (option_map (λ p. p.1) y) → SeamIf cs (option_map (λ p. p.1) (cond b x y))
parts-cond cs true x y h g = h
parts-cond cs false x y h g = g

quoted-seam : (q : ℕ) (cs : List ℕ) → SeamIf cs (option_map (λ p. p.1) (quoted q cs))
quoted-seam q [] = tt
quoted-seam q (c ∷ []) = parts-cond (c ∷ []) (c == q) (Some ([], [])) None (seam-byte c []) tt
quoted-seam q (c ∷ d ∷ cs) =
    parts-cond (c ∷ d ∷ cs) (c == q) _ _
    (parts-cond (c ∷ d ∷ cs) (d == q) (with_byte q (quoted q cs)) (Some ([], d ∷ cs)) (parts-two cs c d q (quoted q cs) (quoted-seam q cs)) (seam-byte c (d ∷ cs)))
    (parts-byte (d ∷ cs) c c (quoted q (d ∷ cs)) (quoted-seam q (d ∷ cs)))

behind-quote : (c : ℕ) (cs : List ℕ) (rest : Option (List ℕ)) → SeamIf cs rest → SeamIf (c ∷ cs) rest
behind-quote c cs None s = tt
behind-quote c cs (Some rest) s = seam-longer c cs rest s

fault-seam : (c : ℕ) (cs : List ℕ) (f : Option FaultKind) → SeamIf (c ∷ cs) (option_map (λ fault. drop (length (fault_text fault)) (c ∷ cs)) f)
fault-seam c cs None = tt
fault-seam c cs (Some f) = let some = fault_text-some f in seam-drop (length (fault_text f)) c cs (omega (arith, some))

byte-seam : (c : ℕ) (cs : List ℕ) (t : Option Token) → SeamIf (c ∷ cs) (option_map (λ (front : Token × List ℕ). front.1) (option_map (λ token. (token, cs)) t))
byte-seam c cs None = tt
byte-seam c cs (Some t) = seam-byte c cs

sign-seam : (c : ℕ) (cs : List ℕ) (o : Option Op) → SeamIf (c ∷ cs) (option_map (λ (front : Token × List ℕ). front.1) (sign_token o c cs))
sign-seam c [] (Some o) = seam-byte c []
sign-seam c (d ∷ cs) (Some o) = seam-drop 2 c (d ∷ cs) (omega arith)
sign-seam c cs None = byte-seam c cs (byte_token c)

-- what follows a piece
pub piece-seam : (c : ℕ) (cs : List ℕ) → SeamIf (c ∷ cs) (after_piece c cs)
piece-seam c cs =
    seam-cond (c ∷ cs) (is_blank c || c == 33) (Some cs) _ (λ _. seam-byte c cs) (λ _.
    seam-cond (c ∷ cs) (begins_run c) (Some (after_while is_run_byte (c ∷ cs))) _ (λ h. seam-drop (prefix_len is_run_byte (c ∷ cs)) c cs (run-some c cs h)) (λ _.
    seam-cond (c ∷ cs) (begins_number (c ∷ cs)) (Some (drop (number_length (c ∷ cs)) (c ∷ cs))) _
    (λ h. seam-drop (number_length (c ∷ cs)) c cs (let some = number_length-by c cs (is_digit c) (c == 46) refl refl h in omega (arith, some))) (λ _.
    seam-cond (c ∷ cs) (c == 34) _ _ (λ _. behind-quote c cs _ (quoted-seam 34 cs)) (λ _.
    seam-cond (c ∷ cs) (c == 39) _ _ (λ _. behind-quote c cs _ (quoted-seam 39 cs)) (λ _.
    seam-cond (c ∷ cs) (c == 35) _ _ (λ _. fault-seam c cs (find (begins_with_fault (c ∷ cs)) faults)) (λ _. sign-seam c cs (pair_op c cs)))))))

seam-shorter : (cs rest : List ℕ) → Seam cs rest → length rest < length cs
seam-shorter cs rest (w, is, some) = let l = ap length is ∙ length-append w rest in omega (arith, l)

pub piece-shorter : (c : ℕ) (cs rest : List ℕ) → after_piece c cs ≡ Some rest → length rest < length (c ∷ cs)
piece-shorter c cs rest e = let s : SeamIf (c ∷ cs) (Some rest) = rw e at (piece-seam c cs) in seam-shorter (c ∷ cs) rest s

-- the piece as it is written
pub piece-written : (c : ℕ) (cs rest w : List ℕ) → c ∷ cs ≡ w ++ rest → take (length (c ∷ cs) - length rest) (c ∷ cs) ≡ w
piece-written c cs rest w is =
    let l = ap length is ∙ length-append w rest in
    let n : length (c ∷ cs) - length rest ≡ length w = omega (arith, l) in
    ap (λ k. take k (c ∷ cs)) n ∙ ap (take (length w)) is ∙ take-append_seam w rest

-- two ways of going on that agree on shorter texts
step-by : (c : ℕ) (cs : List ℕ) (rest : Option (List ℕ)) (f g : List ℕ → Option (List ℕ)) → after_piece c cs ≡ rest → ((ds : List ℕ) → length ds ≤ length cs → f ds ≡ g ds)
    → piece_migrated (c ∷ cs) rest f ≡ piece_migrated (c ∷ cs) rest g
step-by c cs None f g e h = refl
step-by c cs (Some rest) f g e h =
    let short = piece-shorter c cs rest e in
    ap (option_map (λ more. piece_before (c ∷ cs) rest ++ more)) (h rest (omega (arith, short)))

step-agree : (c : ℕ) (cs : List ℕ) (f g : List ℕ → Option (List ℕ)) → ((ds : List ℕ) → length ds ≤ length cs → f ds ≡ g ds) → migrated_step f (c ∷ cs) ≡ migrated_step g (c ∷ cs)
step-agree c cs f g h = step-by c cs (after_piece c cs) f g refl h

enough : (n m : ℕ) (cs : List ℕ) → length cs < n → length cs < m → migrated_in n cs ≡ migrated_in m cs
unfolding migrated_in
enough zero m cs h g = absurd (omega arith)
enough (suc n) zero cs h g = absurd (omega arith)
enough (suc n) (suc m) [] h g = refl
enough (suc n) (suc m) (c ∷ cs) h g = step-agree c cs (migrated_in n) (migrated_in m) (λ ds k. enough n m ds (omega arith) (omega arith))

pub migrated-none : migrated_pieces [] ≡ Some []
unfolding migrated_in
migrated-none = refl

-- a text by its first piece
pub migrated-step : (c : ℕ) (cs : List ℕ) → migrated_pieces (c ∷ cs) ≡ piece_migrated (c ∷ cs) (after_piece c cs) migrated_pieces
unfolding migrated_in
migrated-step c cs =
    let e : length (c ∷ cs) + 1 ≡ suc (length (c ∷ cs)) = omega arith in
    ap (λ n. migrated_in n (c ∷ cs)) e
    ∙ step-agree c cs (migrated_in (length (c ∷ cs))) migrated_pieces (λ ds k. enough (length (c ∷ cs)) (length ds + 1) ds (omega arith) (omega arith))

-- a text may be cut in front of the rest
pub rest-shorter : (cs rest : List ℕ) → piece_rest cs ≡ Some rest → length rest < length cs
rest-shorter [] rest e = cc
rest-shorter (c ∷ cs) rest e = piece-shorter c cs rest e

pub rest-boundary : (cs rest : List ℕ) → piece_rest cs ≡ Some rest → IsUtf8 rest → IsCharBoundary cs (length cs - length rest)
rest-boundary [] rest e u = cc
rest-boundary (c ∷ cs) rest e u =
    let s : SeamIf (c ∷ cs) (Some rest) = rw e at (piece-seam c cs) in
    let l = ap length s.1 ∙ length-append s.0 rest in
    let n : length s.0 ≡ length (c ∷ cs) - length rest = omega (arith, l) in
    rw n at (IsCharBoundary-at_seam (c ∷ cs) s.0 rest s.1 u)

-- what was changed so far, and then what is left
abbrev pub Completes : List ℕ → List ℕ → Option (List ℕ) → Type 0
Completes new rest whole = option_map (λ more. new ++ more) (migrated_pieces rest) ≡ whole

option-append : (new piece : List ℕ) (r : Option (List ℕ)) → option_map (λ more. (new ++ piece) ++ more) r ≡ option_map (λ more. new ++ more) (option_map (λ more. piece ++ more) r)
option-append new piece None = refl
option-append new piece (Some more) = ap (λ x. Some x) (append_assoc new piece more)

pub goes_on : (new later rest after : List ℕ) (whole : Option (List ℕ)) → piece_rest rest ≡ Some after → later ≡ new ++ piece_before rest after → Completes new rest whole → Completes later after whole
goes_on new later [] after whole e l done = cc
goes_on new later (c ∷ cs) after whole e l done =
    let step : migrated_pieces (c ∷ cs) ≡ option_map (λ more. piece_before (c ∷ cs) after ++ more) (migrated_pieces after) =
    migrated-step c cs ∙ ap (λ r. piece_migrated (c ∷ cs) r migrated_pieces) e in
    ap (λ x. option_map (λ more. x ++ more) (migrated_pieces after)) l
    ∙ option-append new (piece_before (c ∷ cs) after) (migrated_pieces after)
    ∙ ap (option_map (λ more. new ++ more)) (sym step) ∙ done

pub ends : (new rest : List ℕ) (whole : Option (List ℕ)) → rest ≡ [] → Completes new rest whole → Some new ≡ whole
ends new rest whole e done =
    let none : migrated_pieces rest ≡ Some [] = ap migrated_pieces e ∙ migrated-none in
    ap (λ x. Some x) (sym (append-nil new)) ∙ ap (option_map (λ more. new ++ more)) (sym none) ∙ done

pub stops : (new rest : List ℕ) (whole : Option (List ℕ)) → (rest ≡ [] → ⊥) → piece_rest rest ≡ None → Completes new rest whole → None ≡ whole
stops new [] whole some e done = absurd (some refl)
stops new (c ∷ cs) whole some e done =
    let none : migrated_pieces (c ∷ cs) ≡ None = migrated-step c cs ∙ ap (λ r. piece_migrated (c ∷ cs) r migrated_pieces) e in
    ap (option_map (λ more. new ++ more)) (sym none) ∙ done

-- an empty text has no bytes
pub none-left : (rest : List ℕ) → true ≡ (length rest == 0) → rest ≡ []
none-left [] e = refl
none-left (c ∷ cs) e = let zero = eqb-true (length (c ∷ cs)) 0 (sym e) in absurd (omega (arith, zero))

pub some-left : (rest : List ℕ) → false ≡ (length rest == 0) → rest ≡ [] → ⊥
some-left [] e h = cc
some-left (c ∷ cs) e h = cc

pub some-front : {X : Type 0} (x y : X) → Some x ≡ Some y → x ≡ y
some-front x y e = cc

-- a fault that the text begins with is its first piece
fault-by : (c : ℕ) (cs : List ℕ) (f : Option FaultKind) (token : Token) (rest : List ℕ) → option_map (fault_token (c ∷ cs)) f ≡ Some (token, rest)
    → Some rest ≡ option_map (λ fault. drop (length (fault_text fault)) (c ∷ cs)) f
fault-by c cs None token rest e = cc
fault-by c cs (Some f) token rest e = let same = some-front _ _ e in ap (λ (front : Token × List ℕ). Some front.1) (sym same)

pub fault-piece : (cs : List ℕ) (token : Token) (rest : List ℕ) → begins_with 35 cs ≡ true → Some (token, rest) ≡ option_map (fault_token cs) (find (begins_with_fault cs) faults) → Some rest ≡ piece_rest cs
fault-piece [] token rest h e = cc
fault-piece (c ∷ cs) token rest h e =
    let is : c ≡ 35 = eqb-true c 35 h in
    let found : option_map (fault_token (35 ∷ cs)) (find (begins_with_fault (35 ∷ cs)) faults) ≡ Some (token, rest) =
    ap (λ x. option_map (fault_token (x ∷ cs)) (find (begins_with_fault (x ∷ cs)) faults)) (sym is) ∙ sym e in
    fault-by 35 cs (find (begins_with_fault (35 ∷ cs)) faults) token rest found ∙ ap (λ x. piece_rest (x ∷ cs)) (sym is)
