-- Cells that are written one after the other hold what their own texts say, where each is written once. Serves the laws of sessions.
use Rattle.std.proofs.Common.{◌≡◌, ◌≢◌, ◌∙◌, sym, ap, refl, arith, ℕ, suc, Bool, true, false, cond, List, [], ◌∷◌, Option, Some, None}
use Rattle.std.specs.Prelude.{All}
use Rattle.std.specs.List.{find}
use Rattle.std.specs.FinMap as map
use Rattle.std.specs.FinMap.{get-insert, get-remove}
use Rattle.std.specs.Ordering.{eq_by_cmp, is_eq}
use Rattle.std.proofs.lemmas.Cmp.{tied_itself}
use Rattle.cell_addr.specs.declared.place.Place.{Place}
use Rattle.cell_addr.specs.Order.{place_cmp}
use Rattle.cell_addr.specs.Place.{same_place}
use Rattle.cell_addr.proofs.Places.{place_cmp-IsTotalOrder}
use Rattle.cell_addr.proofs.SamePlaces.{same_place-equal, same_place-self}
use Rattle.book_values.specs.Book.{Book as Contents, Content}
use Rattle.book_model.specs.Changes.{HaveDistinctPlaces, all_placed, placed}
use Rattle.book_model.specs.Content.{content_given, content_of}
use Rattle.book_model.specs.Laws.{written_at}
use Rattle.book_model.specs.Workbook.{Workbook}
use Rattle.book_model.proofs.Contents.{is_at}

-- the test of the map's order is that of places
tied : (p q : Place) → p ≡ q → eq_by_cmp place_cmp q p ≡ true
tied p q same = ap is_eq (ap (λ r. place_cmp q r) same ∙ tied_itself place_cmp-IsTotalOrder q)

same-test : (p q : Place) (a b : Bool) → same_place p q ≡ a → eq_by_cmp place_cmp p q ≡ b → b ≡ a
same-test p q true true s e = refl
same-test p q false false s e = refl
same-test p q true false s e = let no = sym e ∙ tied q p (sym (same_place-equal p q s)) in cc
same-test p q false true s e = let no = sym s ∙ ap (same_place p) (is_at q p e) ∙ same_place-self p in cc

-- what a place holds after one is changed
placed-at : (at place : Place) (c : Option Content) (cells : Contents) → map.get (placed place c cells) at ≡ cond (same_place at place) c (map.get cells at)
placed-at at place None cells =
    get-remove place_cmp-IsTotalOrder cells place at ∙ ap (λ (b : Bool). cond b None (map.get cells at)) (same-test at place (same_place at place) (eq_by_cmp place_cmp at place) refl refl)
placed-at at place (Some c) cells =
    get-insert place_cmp-IsTotalOrder cells place c at ∙ ap (λ (b : Bool). cond b (Some c) (map.get cells at)) (same-test at place (same_place at place) (eq_by_cmp place_cmp at place) refl refl)

-- what the entry of a place gives, or else this
abbrev GivenOr : Workbook → Place → Option (Place × List ℕ) → Option Content → Option Content
GivenOr b at None old = old
GivenOr b at (Some e) old = content_given b.sheets at.sheet (content_of e.1)

none-or : (at : Place) (f : Place × List ℕ) (b : Bool) (rest : Option (Place × List ℕ)) → same_place at f.0 ≡ b → at ≢ f.0 → rest ≡ None → cond b (Some f) rest ≡ None
none-or at f true rest s apart none = absurd (apart (same_place-equal at f.0 s))
none-or at f false rest s apart none = none

-- a place that is apart from those of all entries has no entry
apart-none : (at : Place) (es : List (Place × List ℕ)) → All (λ f. at ≢ f.0) es → find (λ f. same_place at f.0) es ≡ None
apart-none at [] h = refl
apart-none at (f ∷ es) h = none-or at f (same_place at f.0) (find (λ g. same_place at g.0) es) refl (h 0 f (omega arith)) (apart-none at es (λ k d l. h (suc k) d (omega arith)))

others : (e : Place × List ℕ) (es : List (Place × List ℕ)) → HaveDistinctPlaces (e ∷ es) → All (λ f. e.0 ≢ f.0) es
others e es distinct k d l = distinct 0 (suc k) d (omega arith) (omega arith)

later : (e : Place × List ℕ) (es : List (Place × List ℕ)) → HaveDistinctPlaces (e ∷ es) → HaveDistinctPlaces es
later e es distinct i j d below l = distinct (suc i) (suc j) d (omega arith) (omega arith)

first-or : (b : Workbook) (at : Place) (e : Place × List ℕ) (test : Bool) (found : Option (Place × List ℕ)) (old : Option Content) → same_place at e.0 ≡ test → (test ≡ true → found ≡ None)
    → GivenOr b at found (cond test (content_given b.sheets e.0.sheet (content_of e.1)) old) ≡ GivenOr b at (cond test (Some e) found) old
first-or b at e false found old s none = refl
first-or b at e true found old s none =
    ap (λ (f : Option (Place × List ℕ)). GivenOr b at f (content_given b.sheets e.0.sheet (content_of e.1))) (none refl)
    ∙ ap (λ (p : Place). content_given b.sheets p.sheet (content_of e.1)) (sym (same_place-equal at e.0 s))

placed-all : (b : Workbook) (at : Place) (given : List (Place × List ℕ)) (cells : Contents) → HaveDistinctPlaces given
    → map.get (all_placed b.sheets given cells) at ≡ GivenOr b at (find (λ e. same_place at e.0) given) (map.get cells at)
placed-all b at [] cells distinct = refl
placed-all b at (e ∷ es) cells distinct =
    let c = content_given b.sheets e.0.sheet (content_of e.1) in
    placed-all b at es (placed e.0 c cells) (later e es distinct)
    ∙ ap (GivenOr b at (find (λ f. same_place at f.0) es)) (placed-at at e.0 c cells)
    ∙ first-or b at e (same_place at e.0) (find (λ f. same_place at f.0) es) (map.get cells at) refl
    (λ s. apart-none at es (λ k d l same. others e es distinct k d l (sym (same_place-equal at e.0 s) ∙ same)))

held : (b : Workbook) (at : Place) (found : Option (Place × List ℕ)) → GivenOr b at found (map.get b.cells at) ≡ written_at found at b
held b at None = refl
held b at (Some e) = refl

pub all_written : (b : Workbook) (at : Place) (given : List (Place × List ℕ)) → HaveDistinctPlaces given
    → map.get (all_placed b.sheets given b.cells) at ≡ written_at (find (λ e. same_place at e.0) given) at b
all_written b at given distinct = placed-all b at given b.cells distinct ∙ held b at (find (λ e. same_place at e.0) given)
