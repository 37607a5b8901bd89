-- Cells are told one after the other exactly where they are such as can be written. Serves the reader of their rows.
use Rattle.std.proofs.Common.{◌≡◌, ◌≢◌, ◌∙◌, sym, ap, subst, refl, arith, ℕ, zero, suc, Bool, true, false, cond, ◌&&◌, List, [], ◌∷◌, ◌++◌, map, Option, None, Some}
use Rattle.std.specs.Prelude.{⊤, All, AllPairs}
use Rattle.std.specs.Prelude.{option_and_then, IfOk, IfSome, MatchOption, IsUtf8, Result, Ok, Err}
use Rattle.std.specs.Str.{is_utf8}
use Rattle.std.proofs.lemmas.Str.{IsUtf8-from_is_utf8, is_utf8-from_IsUtf8}
use Rattle.std.specs.Ordering.{is_lt}
use Rattle.std.specs.declared.cmp.Ordering.{Ordering}
use Rattle.std.specs.declared.cmp.Ordering.TheVariants.{Less, Equal, Greater}
use Rattle.std.proofs.lemmas.Cmp.{tied_itself}
use Rattle.std.proofs.lemmas.List.Kept.{AllPairs-cons}
use Rattle.cell_addr.specs.Order.{place_cmp}
use Rattle.cell_addr.specs.declared.place.Place.{Place}
use Rattle.cell_addr.proofs.Places.{place_cmp-IsTotalOrder}
use Rattle.engine_face.specs.Written.{AreWritten, has_bytes, has_text, written_cell, written_place, written_text}
use Rattle.engine_face.specs.internal.Rising.{cells_told, is_behind, text_told}
use Rattle.engine_face.specs.declared.writing.WrittenRow.{WrittenRow}

abbrev Each : (WrittenRow → Type 0) → List WrittenRow → Type 0
Each P [] = ⊤
Each P (r ∷ rs) = P r × Each P rs

each-all : (P : WrittenRow → Type 0) (rs : List WrittenRow) → Each P rs → All P rs
each-all P [] h k d l = absurd (omega arith)
each-all P (r ∷ rs) h zero d l = h.0
each-all P (r ∷ rs) h (suc k) d l = each-all P rs h.1 k d (omega arith)

all-each : (P : WrittenRow → Type 0) (rs : List WrittenRow) → All P rs → Each P rs
all-each P [] h = tt
all-each P (r ∷ rs) h = (h 0 r (omega arith), all-each P rs (λ k d l. h (suc k) d (omega arith)))

each-map : (P Q : WrittenRow → Type 0) (rs : List WrittenRow) → ((r : WrittenRow) → P r → Q r) → Each P rs → Each Q rs
each-map P Q [] f h = tt
each-map P Q (r ∷ rs) f h = (f r h.0, each-map P Q rs f h.1)

-- one row stands behind another
abbrev IsBefore : WrittenRow → WrittenRow → Type 0
IsBefore a b = place_cmp (written_place a) (written_place b) ≡ Less

-- each has a text and stands behind the one before it
abbrev Follow : List ℕ → Option Place → List WrittenRow → Type 0
Follow texts last [] = ⊤
Follow texts last (r ∷ rs) = ((has_text texts r && is_behind last (written_place r)) ≡ true) × Follow texts (Some (written_place r)) rs

both-first : (a b : Bool) → (a && b) ≡ true → a ≡ true
both-first true b h = refl
both-first false b h = h

both-second : (a b : Bool) → (a && b) ≡ true → b ≡ true
both-second true b h = h
both-second false b h = cc

both-true : (a b : Bool) → a ≡ true → b ≡ true → (a && b) ≡ true
both-true true b p q = q
both-true false b p q = p

less-is : (o : Ordering) → is_lt o ≡ true → o ≡ Less
less-is Less h = refl
less-is Equal h = cc
less-is Greater h = cc

have-texts : (texts : List ℕ) (last : Option Place) (rs : List WrittenRow) → Follow texts last rs → Each (λ r. has_text texts r ≡ true) rs
have-texts texts last [] h = tt
have-texts texts last (r ∷ rs) h = (both-first (has_text texts r) (is_behind last (written_place r)) h.0, have-texts texts (Some (written_place r)) rs h.1)

behind-all : (texts : List ℕ) (r : WrittenRow) (rs : List WrittenRow) → Follow texts (Some (written_place r)) rs → Each (IsBefore r) rs
behind-all texts r [] h = tt
behind-all texts r (s ∷ rs) h =
    let here = less-is (place_cmp (written_place r) (written_place s)) (both-second (has_text texts s) (is_behind (Some (written_place r)) (written_place s)) h.0) in
    (here, each-map (IsBefore s) (IsBefore r) rs (λ t below. place_cmp-IsTotalOrder.trans (written_place r) (written_place s) (written_place t) here below) (behind-all texts s rs h.1))

in-order : (texts : List ℕ) (last : Option Place) (rs : List WrittenRow) → Follow texts last rs → AllPairs IsBefore rs
in-order texts last [] h i j d below l = absurd (omega arith)
in-order texts last (r ∷ rs) h zero zero d below l = absurd (omega arith)
in-order texts last (r ∷ rs) h (suc i) zero d below l = absurd (omega arith)
in-order texts last (r ∷ rs) h zero (suc j) d below l = each-all (IsBefore r) rs (behind-all texts r rs h.1) j d (omega arith)
in-order texts last (r ∷ rs) h (suc i) (suc j) d below l = in-order texts (Some (written_place r)) rs h.1 i j d (omega arith) (omega arith)

-- such cells follow each other
less-lt : (o : Ordering) → o ≡ Less → is_lt o ≡ true
less-lt o h = ap is_lt h

follow : (texts : List ℕ) (r : WrittenRow) (rs : List WrittenRow) → Each (λ s. has_text texts s ≡ true) rs → AllPairs IsBefore (r ∷ rs) → Follow texts (Some (written_place r)) rs
follow texts r [] all pairs = tt
follow texts r (s ∷ rs) all pairs = (
  both-true (has_text texts s) (is_behind (Some (written_place r)) (written_place s)) all.0 (less-lt (place_cmp (written_place r) (written_place s)) (pairs 0 1 r (omega arith) (omega arith))),
  follow texts s rs all.1 (λ i j d below l. pairs (suc i) (suc j) d (omega arith) (omega arith)),
)

follow-first : (texts : List ℕ) (rs : List WrittenRow) → AreWritten texts rs → Follow texts None rs
follow-first texts [] are = tt
follow-first texts (r ∷ rs) are =
    let each = all-each (λ s. has_text texts s ≡ true) (r ∷ rs) are.0 in
    (both-true (has_text texts r) true each.0 refl, follow texts r rs each.1 are.1)

-- what is told are the cells of the rows
abbrev IsTold : List ℕ → Option Place → List (Place × List ℕ) → List WrittenRow → Option (List (Place × List ℕ)) → Type 0
IsTold texts last cells rows None = Follow texts last rows → ⊥
IsTold texts last cells rows (Some told) = Follow texts last rows × (told ≡ cells ++ map (written_cell texts) rows)

append-none : (cells : List (Place × List ℕ)) → cells ≡ cells ++ []
append-none [] = refl
append-none (c ∷ cells) = ap (λ (l : List (Place × List ℕ)). c ∷ l) (append-none cells)

append-one : (cells : List (Place × List ℕ)) (c : Place × List ℕ) (rest : List (Place × List ℕ)) → (cells ++ c ∷ []) ++ rest ≡ cells ++ (c ∷ rest)
append-one [] c rest = refl
append-one (x ∷ cells) c rest = ap (λ (l : List (Place × List ℕ)). x ∷ l) (append-one cells c rest)

-- the text of a row, where it has one
abbrev HasTold : List ℕ → WrittenRow → Option (List ℕ) → Type 0
HasTold texts r None = has_text texts r ≡ false
HasTold texts r (Some text) = (has_text texts r ≡ true) × (text ≡ written_text texts r)

utf8-told : (texts : List ℕ) (r : WrittenRow) (b : Bool) → is_utf8 (written_text texts r) ≡ b → has_bytes texts r ≡ true → HasTold texts r (cond b (Some (written_text texts r)) None)
utf8-told texts r true u h = (both-true (has_bytes texts r) (is_utf8 (written_text texts r)) h u, refl)
utf8-told texts r false u h = ap (λ (a : Bool). a && is_utf8 (written_text texts r)) h ∙ u

bytes-told : (texts : List ℕ) (r : WrittenRow) (a : Bool) → has_bytes texts r ≡ a → HasTold texts r (option_and_then (λ bytes. cond (is_utf8 bytes) (Some bytes) None) (cond a (Some (written_text texts r)) None))
bytes-told texts r true h = utf8-told texts r (is_utf8 (written_text texts r)) refl h
bytes-told texts r false h = ap (λ (a : Bool). a && is_utf8 (written_text texts r)) h

text-told : (texts : List ℕ) (r : WrittenRow) → HasTold texts r (text_told texts r)
text-told texts r = bytes-told texts r (has_bytes texts r) refl

abbrev Next : List ℕ → Option Place → List (Place × List ℕ) → WrittenRow → List WrittenRow → List ℕ → Option (List (Place × List ℕ))
Next texts last cells r rs text = cond (is_behind last (written_place r)) (cells_told texts (Some (written_place r)) (cells ++ (written_place r, text) ∷ []) rs) None

more-told : (texts : List ℕ) (last : Option Place) (cells : List (Place × List ℕ)) (r : WrittenRow) (rs : List WrittenRow) (text : List ℕ) (told : Option (List (Place × List ℕ)))
    → (has_text texts r && is_behind last (written_place r)) ≡ true → text ≡ written_text texts r → IsTold texts (Some (written_place r)) (cells ++ (written_place r, text) ∷ []) rs told → IsTold texts last cells (r ∷ rs) told
more-told texts last cells r rs text None here same h = λ follow. h follow.1
more-told texts last cells r rs text (Some told) here same h =
    ((here, h.0), h.1 ∙ append-one cells (written_place r, text) (map (written_cell texts) rs) ∙ ap (λ (w : List ℕ). cells ++ ((written_place r, w) ∷ map (written_cell texts) rs)) same)

behind-or : (texts : List ℕ) (last : Option Place) (cells : List (Place × List ℕ)) (r : WrittenRow) (rs : List WrittenRow) (text : List ℕ) (b : Bool) (told : Option (List (Place × List ℕ)))
    → is_behind last (written_place r) ≡ b → has_text texts r ≡ true → text ≡ written_text texts r → IsTold texts (Some (written_place r)) (cells ++ (written_place r, text) ∷ []) rs told → IsTold texts last cells (r ∷ rs) (cond b told None)
behind-or texts last cells r rs text true told behind has same h = more-told texts last cells r rs text told (both-true (has_text texts r) (is_behind last (written_place r)) has behind) same h
behind-or texts last cells r rs text false told behind has same h = λ follow. let no = sym behind ∙ both-second (has_text texts r) (is_behind last (written_place r)) follow.0 in cc

text-or : (texts : List ℕ) (last : Option Place) (cells : List (Place × List ℕ)) (r : WrittenRow) (rs : List WrittenRow) (text : Option (List ℕ)) → HasTold texts r text
    → ((w : List ℕ) → IsTold texts (Some (written_place r)) (cells ++ (written_place r, w) ∷ []) rs (cells_told texts (Some (written_place r)) (cells ++ (written_place r, w) ∷ []) rs))
    → IsTold texts last cells (r ∷ rs) (option_and_then (Next texts last cells r rs) text)
text-or texts last cells r rs None h more = λ follow. let no = sym h ∙ both-first (has_text texts r) (is_behind last (written_place r)) follow.0 in cc
text-or texts last cells r rs (Some text) h more =
    behind-or texts last cells r rs text (is_behind last (written_place r)) (cells_told texts (Some (written_place r)) (cells ++ (written_place r, text) ∷ []) rs) refl h.0 h.1 (more text)

told-is : (texts : List ℕ) (last : Option Place) (cells : List (Place × List ℕ)) (rows : List WrittenRow) → IsTold texts last cells rows (cells_told texts last cells rows)
told-is texts last cells [] = (tt, append-none cells)
told-is texts last cells (r ∷ rs) = text-or texts last cells r rs (text_told texts r) (text-told texts r) (λ w. told-is texts (Some (written_place r)) (cells ++ (written_place r, w) ∷ []) rs)

-- all cells of the rows are told, or they can't be written
abbrev pub AreTold : List ℕ → List WrittenRow → Option (List (Place × List ℕ)) → Type 0
AreTold texts rows None = AreWritten texts rows → ⊥
AreTold texts rows (Some cells) = AreWritten texts rows × (cells ≡ map (written_cell texts) rows)

written-of : (texts : List ℕ) (rows : List WrittenRow) (told : Option (List (Place × List ℕ))) → IsTold texts None [] rows told → AreTold texts rows told
written-of texts rows None h = λ are. h (follow-first texts rows are)
written-of texts rows (Some cells) h = ((each-all (λ r. has_text texts r ≡ true) rows (have-texts texts None rows h.0), in-order texts None rows h.0), h.1)

pub are-told : (texts : List ℕ) (rows : List WrittenRow) (told : Option (List (Place × List ℕ))) → told ≡ cells_told texts None [] rows → AreTold texts rows told
are-told texts rows told same = subst (AreTold texts rows) (sym same) (written-of texts rows (cells_told texts None [] rows) (told-is texts None [] rows))

-- bytes are read as a text exactly where they are UTF-8
read-or : (bytes : List ℕ) (b : Bool) (read : Option (List ℕ)) → is_utf8 bytes ≡ b → IfSome read (λ text. text ≡ bytes) → MatchOption read (¬ (IsUtf8 bytes)) (λ _. IsUtf8 bytes) → read ≡ cond b (Some bytes) None
read-or bytes true None u same is = absurd (is (IsUtf8-from_is_utf8 bytes u))
read-or bytes true (Some text) u same is = ap (λ (t : List ℕ). Some t) same
read-or bytes false None u same is = refl
read-or bytes false (Some text) u same is = let yes = sym u ∙ is_utf8-from_IsUtf8 bytes is in cc

-- so it is with what a call read of them
pub read_so : {E : Type 0} (bytes : List ℕ) (told : Option (List ℕ)) (end : Result (Option (List ℕ)) E) → IfOk end (λ read. IfSome read (λ text. text ≡ bytes)) → IfOk end (λ read. MatchOption read (¬ (IsUtf8 bytes)) (λ _. IsUtf8 bytes))
    → Some bytes ≡ told → IfOk end (λ text. text ≡ option_and_then (λ b. cond (is_utf8 b) (Some b) None) told)
read_so bytes told (Ok read) same is some = read-or bytes (is_utf8 bytes) read refl same is ∙ ap (λ (o : Option (List ℕ)). option_and_then (λ b. cond (is_utf8 b) (Some b) None) o) some
read_so bytes told (Err e) same is some = tt

-- the places of such cells are distinct
no-tie : (p q : Place) → place_cmp p q ≡ Less → p ≢ q
no-tie p q h same = let tied = sym h ∙ ap (place_cmp p) (sym same) ∙ tied_itself place_cmp-IsTotalOrder p in cc

each-cell : (P : Place × List ℕ → Type 0) (texts : List ℕ) (rs : List WrittenRow) → Each (λ r. P (written_cell texts r)) rs → All P (map (written_cell texts) rs)
each-cell P texts [] h k d l = absurd (omega arith)
each-cell P texts (r ∷ rs) h zero d l = h.0
each-cell P texts (r ∷ rs) h (suc k) d l = each-cell P texts rs h.1 k d (omega arith)

apart : (texts : List ℕ) (last : Option Place) (rs : List WrittenRow) → Follow texts last rs → AllPairs (λ (e f : Place × List ℕ). e.0 ≢ f.0) (map (written_cell texts) rs)
apart texts last [] h = λ i j d below l. absurd (omega arith)
apart texts last (r ∷ rs) h =
    AllPairs-cons (λ (e f : Place × List ℕ). e.0 ≢ f.0) (written_cell texts r) (map (written_cell texts) rs)
    (each-cell (λ f. written_place r ≢ f.0) texts rs (each-map (IsBefore r) (λ s. written_place r ≢ written_place s) rs (λ s below. no-tie (written_place r) (written_place s) below) (behind-all texts r rs h.1)))
    (apart texts (Some (written_place r)) rs h.1)

pub are-apart : (texts : List ℕ) (rows : List WrittenRow) → AreWritten texts rows → AllPairs (λ (e f : Place × List ℕ). e.0 ≢ f.0) (map (written_cell texts) rows)
are-apart texts rows are = apart texts None rows (follow-first texts rows are)
