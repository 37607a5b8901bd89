-- Cells that are given contents together: what is replaced, and the contents then. Serves the call that gives many cells what texts
-- say.
use Rattle.std.proofs.Common.{◌≡◌, ◌≢◌, ◌∙◌, sym, ap, subst, refl, arith, ℕ, suc, ◌+◌, ◌<◌, ◌||◌, Bool, true, false, cond, List, [], ◌∷◌, ◌++◌, length, get_or, take, map, Option, Some, None, option_map, is_some, IsSome}
use Rattle.std.proofs.lemmas.List.{take_more}
use Rattle.std.proofs.lemmas.List.Elements.{All-cons, All-head, All-tail, filter_map-append}
use Rattle.std.specs.FinMap as fin
use Rattle.std.specs.FinMap.{find, get-insert, get-remove}
use Rattle.std.specs.FinMap.Entries.{is_some-find}
use Rattle.std.specs.List.{All, cons_option, filter_map}
use Rattle.std.specs.Ordering.{eq_by_cmp}
use Rattle.cell_addr.proofs.Places.{place_cmp-IsTotalOrder}
use Rattle.cell_addr.specs.Order.{place_cmp}
use Rattle.cell_addr.specs.Place.{IsInside}
use Rattle.cell_addr.specs.declared.place.Place.{Place}
use Rattle.book_values.specs.Book.{Book as Contents, Content}
use Rattle.clip_board.specs.declared.clip.CopyItem.{CopyItem}
use Rattle.grid_store.proofs.Exchanges.{get-without_places}
use Rattle.grid_store.specs.Grid.{without_places}
use Rattle.grid_store.specs.declared.cell.Cell.{Cell}
use Rattle.grid_store.specs.internal.Exchange.{is_among}
use Rattle.shift_core.specs.Maps.{PlaceMap}
use Rattle.book_model.proofs.Contents.{is_at}
use Rattle.book_model.proofs.PastedCells.{either}
use Rattle.book_model.specs.Changes.{HaveDistinctPlaces, all_placed, placed}
use Rattle.book_model.specs.Content.{content_given, content_of}
use Rattle.kept_book.specs.Change.{places_of}
use Rattle.kept_book.specs.Copied.{entry_copied}
use Rattle.kept_book.specs.Numbered.{Numbered}
use Rattle.kept_book.specs.Stored.{content_of as content_stored, contents_of}
use Rattle.kept_book.specs.internal.Cells.{entry_given, listed_at, stood_at, with_given}
use Rattle.kept_book.specs.internal.Writing.{AreReplaced}
use Rattle.kept_book.proofs.Contents.{get-contents, same_contents}
use Rattle.kept_book.proofs.PastedBooks.{get-given}

-- the places that are given texts
abbrev pub asked : List (Place × List ℕ) → List Place
asked cells = map (λ e. e.0) cells

none-either : {X : Type 0} (b : Bool) → cond {A = Option X} b None None ≡ None
none-either true = refl
none-either false = refl

-- what stood at the places
found-stood : (m : PlaceMap Cell) (cells : List (Place × List ℕ)) (q : Place) → find place_cmp q (filter_map (stood_at m) cells) ≡ cond (is_among (asked cells) q) (fin.get m q) None
found-stood m [] q = refl
found-stood m (e ∷ es) q = go (eq_by_cmp place_cmp q e.0) (fin.get m e.0) refl refl (found-stood m es q)
  where
    go : (b : Bool) (r : Option Cell) → eq_by_cmp place_cmp q e.0 ≡ b → fin.get m e.0 ≡ r
        → find place_cmp q (filter_map (stood_at m) es) ≡ cond (is_among (asked es) q) (fin.get m q) None
        → find place_cmp q (cons_option (option_map (λ c. (e.0, c)) r) (filter_map (stood_at m) es)) ≡ cond (b || is_among (asked es) q) (fin.get m q) None
    go true None t g h =
        let same : fin.get m q ≡ None = ap (fin.get m) (sym (is_at e.0 q t)) ∙ g in
        h ∙ ap (λ r. cond (is_among (asked es) q) r None) same ∙ none-either (is_among (asked es) q) ∙ sym same
    go true (Some c) t g h =
        let same : fin.get m q ≡ Some c = ap (fin.get m) (sym (is_at e.0 q t)) ∙ g in
        ap (λ b. cond b (Some c) (find place_cmp q (filter_map (stood_at m) es))) t ∙ sym same
    go false None t g h = h
    go false (Some c) t g h = ap (λ b. cond b (Some c) (find place_cmp q (filter_map (stood_at m) es))) t ∙ h

-- it is what is replaced where these places are given something
pub all-replaced : (m : PlaceMap Cell) (cells : List (Place × List ℕ)) (items : List (Place × CopyItem)) → ((q : Place) → is_among (map (λ e. e.0) items) q ≡ true → is_among (asked cells) q ≡ true)
    → AreReplaced m (filter_map (stood_at m) cells) (map (λ e. e.0) items)
all-replaced m cells items inside = record {
  listed = λ q some. found-stood m cells q ∙ go q (is_among (asked cells) q) (subst IsSome (found-stood m cells q) some);
  there = λ q among. found-stood m cells q ∙ ap (λ b. cond b (fin.get m q) None) (inside q among);
}
  where
    go : (q : Place) (b : Bool) → IsSome (cond b (fin.get m q) None) → cond b (fin.get m q) None ≡ fin.get m q
    go q true some = refl
    go q false some = cc

-- what is given comes to places that are given texts
among-given : (sheets : List (ℕ × List ℕ)) (cells : List (Place × List ℕ)) (q : Place) → is_among (map (λ e. e.0) (filter_map (entry_given sheets) cells)) q ≡ true → is_among (asked cells) q ≡ true
among-given sheets [] q h = cc
among-given sheets (e ∷ es) q h = go (content_given sheets e.0.sheet (content_of e.1)) (eq_by_cmp place_cmp q e.0) refl (among-given sheets es q) h
  where
    go : (r : Option Content) (b : Bool) → eq_by_cmp place_cmp q e.0 ≡ b → (is_among (map (λ f. f.0) (filter_map (entry_given sheets) es)) q ≡ true → is_among (asked es) q ≡ true)
        → is_among (map (λ f. f.0) (cons_option (option_map (λ x. (e.0, x)) r) (filter_map (entry_given sheets) es))) q ≡ true → (b || is_among (asked es) q) ≡ true
    go r true t more h = refl
    go None false t more h = more h
    go (Some x) false t more h = more (sym (ap (λ c. c || is_among (map (λ f. f.0) (filter_map (entry_given sheets) es)) q) t) ∙ h)

copied-places : (items : List (Place × CopyItem)) → map (λ e. e.0) (map entry_copied items) ≡ map (λ e. e.0) items
copied-places [] = refl
copied-places (x ∷ items) = ap (λ l. x.0 ∷ l) (copied-places items)

pub given-places : (sheets : List (ℕ × List ℕ)) (cells : List (Place × List ℕ)) (items : List (Place × CopyItem)) → map entry_copied items ≡ filter_map (entry_given sheets) cells
    → map (λ e. e.0) items ≡ map (λ e. e.0) (filter_map (entry_given sheets) cells)
given-places sheets cells items same = sym (copied-places items) ∙ ap (map (λ e. e.0)) same

pub items-asked : (sheets : List (ℕ × List ℕ)) (cells : List (Place × List ℕ)) (items : List (Place × CopyItem)) → map entry_copied items ≡ filter_map (entry_given sheets) cells
    → (q : Place) → is_among (map (λ e. e.0) items) q ≡ true → is_among (asked cells) q ≡ true
items-asked sheets cells items same q among = among-given sheets cells q (sym (ap (λ ps. is_among ps q) (given-places sheets cells items same)) ∙ among)

all-cells : (P : Place → Type 0) (at : Place) (r : Option Cell) (es : List (Place × Cell)) → P at → All (λ e. P e.0) es → All (λ e. P e.0) (cons_option (option_map (λ c. (at, c)) r) es)
all-cells P at None es here more = more
all-cells P at (Some c) es here more = All-cons (λ e. P e.0) (at, c) es here more

-- it lies within the limits where the places do
pub stood-inside : (m : PlaceMap Cell) (cells : List (Place × List ℕ)) → All (λ e. IsInside e.0) cells → All (λ e. IsInside e.0) (filter_map (stood_at m) cells)
stood-inside m [] inside = λ k d l. absurd (omega arith)
stood-inside m (e ∷ es) inside =
    all-cells IsInside e.0 (fin.get m e.0) (filter_map (stood_at m) es) (All-head (λ f. IsInside f.0) e es inside) (stood-inside m es (All-tail (λ f. IsInside f.0) e es inside))

-- the content that a place is given, or that it is emptied
abbrev said_at : List (ℕ × List ℕ) → Place × List ℕ → Place × Option Content
said_at sheets e = (e.0, content_given sheets e.0.sheet (content_of e.1))

-- what is found of it, where it gives something
abbrev given-of : Option (Option Content) → Option Content
given-of (Some (Some x)) = Some x
given-of (Some None) = None
given-of None = None

-- the content then, from the one before
abbrev pub after-said : Option (Option Content) → Option Content → Option Content
after-said (Some r) old = r
after-said None old = old

first-apart : (e : Place × List ℕ) (es : List (Place × List ℕ)) → HaveDistinctPlaces (e ∷ es) → All (λ f. e.0 ≢ f.0) es
first-apart e es apart k d l = apart 0 (suc k) d (omega arith) (omega arith)

rest-apart : (e : Place × List ℕ) (es : List (Place × List ℕ)) → HaveDistinctPlaces (e ∷ es) → HaveDistinctPlaces es
rest-apart e es apart i j d l within = apart (suc i) (suc j) d (omega arith) (omega arith)

-- a place that is none of these isn't found
not-said : (sheets : List (ℕ × List ℕ)) (at q : Place) (es : List (Place × List ℕ)) → at ≡ q → All (λ f. at ≢ f.0) es → find place_cmp q (map (said_at sheets) es) ≡ None
not-said sheets at q [] same apart = refl
not-said sheets at q (f ∷ fs) same apart = go (eq_by_cmp place_cmp q f.0) refl (not-said sheets at q fs same (All-tail (λ g. at ≢ g.0) f fs apart))
  where
    go : (b : Bool) → eq_by_cmp place_cmp q f.0 ≡ b → find place_cmp q (map (said_at sheets) fs) ≡ None
        → cond b (Some (content_given sheets f.0.sheet (content_of f.1))) (find place_cmp q (map (said_at sheets) fs)) ≡ None
    go true t more = absurd (All-head (λ g. at ≢ g.0) f fs apart (same ∙ sym (is_at f.0 q t)))
    go false t more = more

found-given : (sheets : List (ℕ × List ℕ)) (cells : List (Place × List ℕ)) (q : Place) → HaveDistinctPlaces cells → find place_cmp q (filter_map (entry_given sheets) cells) ≡ given-of (find place_cmp q (map (said_at sheets) cells))
found-given sheets [] q apart = refl
found-given sheets (e ∷ es) q apart = go (content_given sheets e.0.sheet (content_of e.1)) (eq_by_cmp place_cmp q e.0) refl (found-given sheets es q (rest-apart e es apart))
  where
    go : (r : Option Content) (b : Bool) → eq_by_cmp place_cmp q e.0 ≡ b → find place_cmp q (filter_map (entry_given sheets) es) ≡ given-of (find place_cmp q (map (said_at sheets) es))
        → find place_cmp q (cons_option (option_map (λ x. (e.0, x)) r) (filter_map (entry_given sheets) es)) ≡ given-of (cond b (Some r) (find place_cmp q (map (said_at sheets) es)))
    go None true t more = more ∙ ap given-of (not-said sheets e.0 q es (is_at e.0 q t) (first-apart e es apart))
    go (Some x) true t more = ap (λ c. cond c (Some x) (find place_cmp q (filter_map (entry_given sheets) es))) t
    go None false t more = more
    go (Some x) false t more = ap (λ c. cond c (Some x) (find place_cmp q (filter_map (entry_given sheets) es))) t ∙ more

get-placed : (at q : Place) (r : Option Content) (m : Contents) → fin.get (placed at r m) q ≡ cond (eq_by_cmp place_cmp q at) r (fin.get m q)
get-placed at q None m = get-remove place_cmp-IsTotalOrder m at q
get-placed at q (Some x) m = get-insert place_cmp-IsTotalOrder m at x q

-- the contents after texts were given one after the other
pub get-all-placed : (sheets : List (ℕ × List ℕ)) (cells : List (Place × List ℕ)) (m : Contents) (q : Place) → HaveDistinctPlaces cells → fin.get (all_placed sheets cells m) q ≡ after-said (find place_cmp q (map (said_at sheets) cells)) (fin.get m q)
get-all-placed sheets [] m q apart = refl
get-all-placed sheets (e ∷ es) m q apart =
    get-all-placed sheets es (placed e.0 r m) q (rest-apart e es apart) ∙ ap (after-said (find place_cmp q (map (said_at sheets) es))) (get-placed e.0 q r m)
    ∙ go (eq_by_cmp place_cmp q e.0) refl
  where
    r : Option Content
    r = content_given sheets e.0.sheet (content_of e.1)

    go : (b : Bool) → eq_by_cmp place_cmp q e.0 ≡ b
        → after-said (find place_cmp q (map (said_at sheets) es)) (cond b r (fin.get m q)) ≡ after-said (cond b (Some r) (find place_cmp q (map (said_at sheets) es))) (fin.get m q)
    go true t = ap (λ o. after-said o r) (not-said sheets e.0 q es (is_at e.0 q t) (first-apart e es apart))
    go false t = refl

asked-said : (sheets : List (ℕ × List ℕ)) (cells : List (Place × List ℕ)) (q : Place) → is_among (asked cells) q ≡ is_some (find place_cmp q (map (said_at sheets) cells))
asked-said sheets [] q = refl
asked-said sheets (e ∷ es) q = go (eq_by_cmp place_cmp q e.0) (asked-said sheets es q)
  where
    go : (b : Bool) → is_among (asked es) q ≡ is_some (find place_cmp q (map (said_at sheets) es))
        → (b || is_among (asked es) q) ≡ is_some (cond b (Some (content_given sheets e.0.sheet (content_of e.1))) (find place_cmp q (map (said_at sheets) es)))
    go true h = refl
    go false h = h

merged : (o : Option (Option Content)) (x : Option Content) → either (given-of o) (cond (is_some o) None x) ≡ after-said o x
merged None x = refl
merged (Some None) x = refl
merged (Some (Some y)) x = refl

-- what was given over the contents from before, where what stood at the places is gone, is what texts give one after the other
pub given-together : (one : Numbered) (m : PlaceMap Cell) (sheets : List (ℕ × List ℕ)) (cells : List (Place × List ℕ)) → HaveDistinctPlaces cells
    → with_given (filter_map (entry_given sheets) cells) (without_places (places_of (filter_map (stood_at m) cells)) (contents_of one m)) ≡ all_placed sheets cells (contents_of one m)
given-together one m sheets cells apart = same_contents _ _ (λ q.
    get-given (filter_map (entry_given sheets) cells) (without_places (places_of (filter_map (stood_at m) cells)) (contents_of one m)) q
    ∙ (λ i. either (found-given sheets cells q apart i) (emptied q i)) ∙ merged (find place_cmp q (map (said_at sheets) cells)) (fin.get (contents_of one m) q)
    ∙ sym (get-all-placed sheets cells (contents_of one m) q apart))
  where
    gone : (b : Bool) (r : Option Cell) (x : Option Content) → x ≡ option_map (content_stored one) r → cond (is_some (cond b r None)) None x ≡ cond b None x
    gone true None x e = e
    gone true (Some c) x e = refl
    gone false r x e = refl

    emptied : (q : Place) → fin.get (without_places (places_of (filter_map (stood_at m) cells)) (contents_of one m)) q
        ≡ cond (is_some (find place_cmp q (map (said_at sheets) cells))) None (fin.get (contents_of one m) q)
    emptied q =
        get-without_places (places_of (filter_map (stood_at m) cells)) (contents_of one m) q
        ∙ ap (λ b. cond b None (fin.get (contents_of one m) q)) (sym (is_some-find place_cmp q (filter_map (stood_at m) cells)) ∙ ap is_some (found-stood m cells q))
        ∙ gone (is_among (asked cells) q) (fin.get m q) (fin.get (contents_of one m) q) (get-contents one m q)
        ∙ ap (λ b. cond b None (fin.get (contents_of one m) q)) (asked-said sheets cells q)

-- one text more
pub more-given : (sheets : List (ℕ × List ℕ)) (cells : List (Place × List ℕ)) (i : ℕ) (e : Place × List ℕ) (w : List ℕ) (old new : List (Place × CopyItem)) → i < length cells → e ≡ get_or cells i e → w ≡ e.1
    → map entry_copied old ≡ filter_map (entry_given sheets) (take i cells) → map entry_copied new ≡ map entry_copied old ++ cons_option (entry_given sheets (e.0, w)) []
    → map entry_copied new ≡ filter_map (entry_given sheets) (take (i + 1) cells)
more-given sheets cells i e w old new inside is same so push =
    let f = entry_given sheets in
    push ∙ ap (λ l. l ++ cons_option (f (e.0, w)) []) so ∙ ap (λ x. filter_map f (take i cells) ++ cons_option (f (e.0, x)) []) same
    ∙ sym (filter_map-append f (take i cells) (e ∷ [])) ∙ ap (filter_map f) (sym (take_more cells i e inside ∙ ap (λ y. take i cells ++ y ∷ []) (sym is)))

listed-one : (at : Place) (r : Option Cell) → listed_at at r ≡ cons_option (option_map (λ c. (at, c)) r) []
listed-one at None = refl
listed-one at (Some c) = refl

-- one cell more that stood at a place
pub more-stood : (m : PlaceMap Cell) (cells : List (Place × List ℕ)) (i : ℕ) (e : Place × List ℕ) (old new : List (Place × Cell)) → i < length cells → e ≡ get_or cells i e
    → old ≡ filter_map (stood_at m) (take i cells) → new ≡ old ++ listed_at e.0 (fin.get m e.0) → new ≡ filter_map (stood_at m) (take (i + 1) cells)
more-stood m cells i e old new inside is so push =
    let f : Place × List ℕ → Option (Place × Cell) = stood_at m in
    push ∙ ap (λ l. l ++ listed_at e.0 (fin.get m e.0)) so ∙ ap (λ l. filter_map f (take i cells) ++ l) (listed-one e.0 (fin.get m e.0))
    ∙ sym (filter_map-append f (take i cells) (e ∷ [])) ∙ ap (filter_map f) (sym (take_more cells i e inside ∙ ap (λ y. take i cells ++ y ∷ []) (sym is)))
