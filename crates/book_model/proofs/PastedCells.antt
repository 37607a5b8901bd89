-- What stands at a place after a copy was pasted. Serves the laws of sessions, and the engine.
use Rattle.std.proofs.Common.{◌≡◌, ◌∙◌, sym, ap, subst, refl, arith, ℕ, Bool, true, false, cond, not, List, [], ◌∷◌, ◌++◌, Option, Some, None, option_map}
use Rattle.std.specs.Prelude.{is_some}
use Rattle.std.specs.List.{filter_map}
use Rattle.std.specs.Cmp.{eq_by_cmp_equiv}
use Rattle.std.specs.Ordering.{eq_by_cmp}
use Rattle.std.specs.FinMap as fin
use Rattle.std.specs.FinMap.{find, get-entries, get-from_entries, get-retain_keys}
use Rattle.cell_addr.proofs.Places.{place_cmp-IsTotalOrder, place_cmp-IsAntisymmetric}
use Rattle.cell_addr.specs.Order.{place_cmp}
use Rattle.cell_addr.specs.Place.{Covers, IsBlockInside, IsInside, covers}
use Rattle.cell_addr.specs.Sheets.{name_in}
use Rattle.cell_addr.specs.declared.place.Block.{Block}
use Rattle.cell_addr.specs.declared.place.Place.{Place}
use Rattle.book_values.specs.Book.{Book as Contents, Content, number, truth, text, formula, unreadable}
use Rattle.formula_tree.specs.declared.reference.Home.TheVariants as homes
use Rattle.shift_core.proofs.CellMoves.{Covers-from_covers, carried_covered, carried_returns, covers-from_Covers, returned_covered, returned_goes}
use Rattle.shift_core.specs.Carried.{carried_place, destination, first_place}
use Rattle.tree_rewrite.proofs.Pastes.{pasted-proper, pasted-sheet}
use Rattle.book_model.specs.Changes.{entry_pasted, pasted_content, with_copy}
use Rattle.book_model.specs.Sound.{IsCellOf, IsContentOf, IsProperContent}
use Rattle.book_model.specs.Workbook.{Workbook, has_sheet}
use Rattle.book_model.proofs.Contents.{is_at}
use Rattle.book_model.proofs.KnownSheets.{has-named}

-- the first of two options that is there
abbrev pub either : {X : Type 0} → Option X → Option X → Option X
either (Some x) r = Some x
either None r = r

find-onto : (q : Place) (es fs : List (Place × Content)) → find place_cmp q (es ++ fs) ≡ either (find place_cmp q es) (find place_cmp q fs)
find-onto q [] fs = refl
find-onto q (e ∷ es) fs = go (eq_by_cmp place_cmp q e.0) (find-onto q es fs)
  where
    go : (b : Bool) → find place_cmp q (es ++ fs) ≡ either (find place_cmp q es) (find place_cmp q fs)
        → cond b (Some e.1) (find place_cmp q (es ++ fs)) ≡ either (cond b (Some e.1) (find place_cmp q es)) (find place_cmp q fs)
    go true h = refl
    go false h = h

-- a place is itself
at-itself : (p : Place) → eq_by_cmp place_cmp p p ≡ true
at-itself p = (eq_by_cmp_equiv place_cmp-IsTotalOrder).refl p

not-covered : (area : Block) (at q : Place) → covers (destination area at) q ≡ false → (p : Place) → covers area p ≡ true → eq_by_cmp place_cmp q (carried_place area at p) ≡ true → ⊥
not-covered area at q out p held same =
    let t = covers-from_Covers (destination area at) (carried_place area at p) (carried_covered area at p (Covers-from_covers area p held)) in
    let u = ap (covers (destination area at)) (is_at (carried_place area at p) q same) in
    absurd (cc)

other-carried : (area : Block) (at q p : Place) → covers (destination area at) q ≡ true → p ≡ carried_place (destination area at) (first_place area) q → carried_place area at p ≡ q
other-carried area at q p h e = ap (carried_place area at) e ∙ returned_goes area at q (Covers-from_covers (destination area at) q h)

-- where a place of the destination takes its content from
abbrev pub source_of : Block → Place → Place → Place
source_of area at q = carried_place (destination area at) (first_place area) q

-- what a copied cell gives at a place
abbrev pub given_at : List (ℕ × List ℕ) → Block → Place → Place → Option Content → Option Content
given_at sheets area at q r = cond (covers (destination area at) q) (option_map (pasted_content sheets (source_of area at q) q) r) None

step : (sheets : List (ℕ × List ℕ)) (area : Block) (at q : Place) (e : Place × Content) (rest : List (Place × Content)) (r : Option Content) (held out here there : Bool) → IsBlockInside area
    → covers area e.0 ≡ held → covers (destination area at) q ≡ out → eq_by_cmp place_cmp q (carried_place area at e.0) ≡ here → eq_by_cmp place_cmp (source_of area at q) e.0 ≡ there
    → find place_cmp q rest ≡ cond out (option_map (pasted_content sheets (source_of area at q) q) r) None
    → cond held (cond here (Some (pasted_content sheets e.0 (carried_place area at e.0) e.1)) (find place_cmp q rest)) (find place_cmp q rest)
    ≡ cond out (option_map (pasted_content sheets (source_of area at q) q) (cond there (Some e.1) r)) None
step sheets area at q e rest r false true here true inside i o h t more =
    let same : e.0 ≡ source_of area at q = is_at e.0 (source_of area at q) t in
    let c = covers-from_Covers area (source_of area at q) (returned_covered area at q inside (Covers-from_covers (destination area at) q o)) in
    let d = ap (covers area) same in
    absurd (cc)
step sheets area at q e rest r false true here false inside i o h t more = more
step sheets area at q e rest r false false here there inside i o h t more = more
step sheets area at q e rest r true false true there inside i o h t more = absurd (not-covered area at q o e.0 i h)
step sheets area at q e rest r true false false there inside i o h t more = more
step sheets area at q e rest r true true true true inside i o h t more =
    let to : carried_place area at e.0 ≡ q = is_at (carried_place area at e.0) q h in
    let from : e.0 ≡ source_of area at q = is_at e.0 (source_of area at q) t in
    ap (λ p. Some (pasted_content sheets p (carried_place area at e.0) e.1)) from ∙ ap (λ p. Some (pasted_content sheets (source_of area at q) p e.1)) to
step sheets area at q e rest r true true true false inside i o h t more =
    let to : carried_place area at e.0 ≡ q = is_at (carried_place area at e.0) q h in
    let from : source_of area at q ≡ e.0 = ap (source_of area at) (sym to) ∙ carried_returns area at e.0 (Covers-from_covers area e.0 i) in
    let same : eq_by_cmp place_cmp (source_of area at q) e.0 ≡ true = subst (λ p. eq_by_cmp place_cmp p e.0 ≡ true) (sym from) (at-itself e.0) in
    absurd (cc)
step sheets area at q e rest r true true false true inside i o h t more =
    let from : e.0 ≡ source_of area at q = is_at e.0 (source_of area at q) t in
    let to : q ≡ carried_place area at e.0 = sym (other-carried area at q e.0 o from) in
    let same : eq_by_cmp place_cmp q (carried_place area at e.0) ≡ true = subst (λ p. eq_by_cmp place_cmp q p ≡ true) to (at-itself q) in
    absurd (cc)
step sheets area at q e rest r true true false false inside i o h t more = more

-- entries that come to the destination, by one
unfolded : (sheets : List (ℕ × List ℕ)) (area : Block) (at q : Place) (e : Place × Content) (es : List (Place × Content)) (held : Bool) → covers area e.0 ≡ held
    → find place_cmp q (filter_map (entry_pasted sheets area at) (e ∷ es))
    ≡ cond held (cond (eq_by_cmp place_cmp q (carried_place area at e.0)) (Some (pasted_content sheets e.0 (carried_place area at e.0) e.1)) (find place_cmp q (filter_map (entry_pasted sheets area at) es))) (find place_cmp q (filter_map (entry_pasted sheets area at) es))
unfolded sheets area at q e es true i = rw i refl
unfolded sheets area at q e es false i = rw i refl

find-pasted : (sheets : List (ℕ × List ℕ)) (area : Block) (at q : Place) (es : List (Place × Content)) → IsBlockInside area
    → find place_cmp q (filter_map (entry_pasted sheets area at) es) ≡ given_at sheets area at q (find place_cmp (source_of area at q) es)
find-pasted sheets area at q [] inside = nothing (covers (destination area at) q)
  where
    nothing : (b : Bool) → None ≡ cond b (option_map (pasted_content sheets (source_of area at q) q) None) None
    nothing true = refl
    nothing false = refl
find-pasted sheets area at q (e ∷ es) inside =
    unfolded sheets area at q e es (covers area e.0) refl
    ∙ step sheets area at q e (filter_map (entry_pasted sheets area at) es) (find place_cmp (source_of area at q) es) (covers area e.0) (covers (destination area at) q)
    (eq_by_cmp place_cmp q (carried_place area at e.0)) (eq_by_cmp place_cmp (source_of area at q) e.0) inside refl refl refl refl (find-pasted sheets area at q es inside)

chosen : (c : Bool) (r old : Option Content) → either (cond c r None) (cond (not c) old None) ≡ cond c r old
chosen true (Some x) old = refl
chosen true None old = refl
chosen false r old = refl

-- entries that come to the destination, over the cells outside of it
pub over-kept : (area : Block) (at : Place) (b : Workbook) (es : List (Place × Content)) (q : Place) → IsBlockInside area
    → either (find place_cmp q (filter_map (entry_pasted b.sheets area at) es)) (fin.get (fin.retain_keys b.cells (λ p. not (covers (destination area at) p))) q)
    ≡ cond (covers (destination area at) q) (option_map (pasted_content b.sheets (source_of area at q) q) (find place_cmp (source_of area at q) es)) (fin.get b.cells q)
over-kept area at b es q inside =
    ap (λ r. either r (fin.get kept q)) (find-pasted b.sheets area at q es inside)
    ∙ ap (λ r. either (given_at b.sheets area at q (find place_cmp (source_of area at q) es)) r) left
    ∙ chosen (covers (destination area at) q) (option_map (pasted_content b.sheets (source_of area at q) q) (find place_cmp (source_of area at q) es)) (fin.get b.cells q)
  where
    kept : Contents
    kept = fin.retain_keys b.cells (λ p. not (covers (destination area at) p))

    left : fin.get kept q ≡ cond (not (covers (destination area at) q)) (fin.get b.cells q) None
    left = get-retain_keys b.cells (λ p. not (covers (destination area at) p)) q (λ p t. ap (λ x. not (covers (destination area at) x)) (sym (place_cmp-IsAntisymmetric q p t)))

-- what stands at a place after a copy was pasted: in the destination what it took from the copy, and else what stood there
pub get-pasted : (area : Block) (cells : Contents) (at : Place) (b : Workbook) (q : Place) → IsBlockInside area
    → fin.get (with_copy area cells at b).cells q
    ≡ cond (covers (destination area at) q) (option_map (pasted_content b.sheets (source_of area at q) q) (fin.get cells (source_of area at q))) (fin.get b.cells q)
get-pasted area cells at b q inside =
    get-from_entries place_cmp-IsTotalOrder (filter_map (entry_pasted b.sheets area at) (fin.entries cells) ++ fin.entries kept) q
    ∙ find-onto q (filter_map (entry_pasted b.sheets area at) (fin.entries cells)) (fin.entries kept)
    ∙ ap (either (find place_cmp q (filter_map (entry_pasted b.sheets area at) (fin.entries cells)))) (sym (get-entries kept q))
    ∙ over-kept area at b (fin.entries cells) q inside
    ∙ ap (λ r. cond (covers (destination area at) q) (option_map (pasted_content b.sheets (source_of area at q) q) r) (fin.get b.cells q)) (sym (get-entries cells (source_of area at q)))
  where
    kept : Contents
    kept = fin.retain_keys b.cells (λ p. not (covers (destination area at) p))

named-of : (r : Option (List ℕ)) → is_some r ≡ true → (w : List ℕ) × (r ≡ Some w)
named-of None h = cc
named-of (Some w) h = (w, refl)

-- a content that is pasted is one of the book
pasted-content_of : (b : Workbook) (from to : Place) (x : Content) → IsProperContent x → IsContentOf b (pasted_content b.sheets from to x)
pasted-content_of b from to (number m) i = tt
pasted-content_of b from to (truth q) i = tt
pasted-content_of b from to (text w) i = tt
pasted-content_of b from to (unreadable w) i = tt
pasted-content_of b from to (formula t) i = (
  pasted-proper b.sheets (homes.Cell from) (homes.Cell to) t i,
  λ sheet h. let w = named-of (name_in b.sheets sheet) (pasted-sheet b.sheets (homes.Cell from) (homes.Cell to) t sheet h) in has-named b.sheets sheet w.0 w.1,
)

inside-block : (c : Block) (q : Place) → IsBlockInside c → Covers c q → IsInside q
inside-block c q i h = (omega (arith, i.1, h.2), omega (arith, i.3, h.4))

came-of : (h : Content → Content) (r : Option Content) (c : Content) → option_map h r ≡ Some c → (x : Content) × (r ≡ Some x) × (h x ≡ c)
came-of h None c e = cc
came-of h (Some x) c e = (x, refl, cc)

-- each cell of a book after a copy was pasted is a cell of the book
pub pasted-cells : (b : Workbook) (area : Block) (cells : Contents) (at : Place) → IsBlockInside area → IsBlockInside (destination area at) → has_sheet b at.sheet ≡ true
    → ((p : Place) (x : Content) → fin.get cells p ≡ Some x → IsProperContent x) → ((p : Place) (x : Content) → fin.get b.cells p ≡ Some x → IsCellOf b p x)
    → (q : Place) (c : Content) → fin.get (with_copy area cells at b).cells q ≡ Some c → IsCellOf b q c
pasted-cells b area cells at inside there known proper old q c e = go (covers (destination area at) q) refl (sym (get-pasted area cells at b q inside) ∙ e)
  where
    go : (d : Bool) → covers (destination area at) q ≡ d
        → cond d (option_map (pasted_content b.sheets (source_of area at q) q) (fin.get cells (source_of area at q))) (fin.get b.cells q) ≡ Some c → IsCellOf b q c
    go true h f =
        let x = came-of (pasted_content b.sheets (source_of area at q) q) (fin.get cells (source_of area at q)) c f in
        let k = Covers-from_covers (destination area at) q h in (
          inside-block (destination area at) q there k,
          subst (λ s. has_sheet b s ≡ true) k.0 known,
          subst (IsContentOf b) x.2 (pasted-content_of b (source_of area at q) q x.0 (proper (source_of area at q) x.0 x.1)),
        )
    go false h f = old q c f

-- what a copy of cells holds was held by them
pub copied-from : (area : Block) (cells : Contents) (p : Place) (c : Content) → fin.get (fin.retain_keys cells (covers area)) p ≡ Some c → fin.get cells p ≡ Some c
copied-from area cells p c e = go (covers area p) (sym (get-retain_keys cells (covers area) p (λ q t. ap (covers area) (sym (place_cmp-IsAntisymmetric p q t)))) ∙ e)
  where
    go : (b : Bool) → cond b (fin.get cells p) None ≡ Some c → fin.get cells p ≡ Some c
    go true h = h
    go false h = cc

-- a content of a book is proper
pub content-proper : (b : Workbook) (c : Content) → IsContentOf b c → IsProperContent c
content-proper b (number m) i = tt
content-proper b (truth q) i = tt
content-proper b (text w) i = tt
content-proper b (unreadable w) i = tt
content-proper b (formula t) i = i.0
