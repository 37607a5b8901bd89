-- A session that begins with given sheets is sound. Serves the laws of sessions.
use Rattle.std.proofs.Common.{◌≡◌, ◌≢◌, ◌∙◌, sym, ap, subst, refl, arith, ℕ, ℤ, zero, suc, ◌≤◌, ◌<◌, ◌+◌, ◌||◌, Bool, true, false, cond, eqb, List, [], ◌∷◌, ◌++◌, length, get_or, Option, Some, None, option_map}
use Rattle.std.specs.Prelude.{⊤}
use Rattle.std.specs.List.{All, AllPairs, filter_map, cons_option}
use Rattle.std.proofs.lemmas.Bool.{eq-eqb}
use Rattle.std.proofs.lemmas.List.Elements.{All-head, All-tail}
use Rattle.std.proofs.lemmas.Option.{same_Some}
use Rattle.std.specs.FinMap as fin
use Rattle.std.specs.FinMap.{find, get-from_entries}
use Rattle.std.specs.Ordering.{eq_by_cmp}
use Rattle.cell_addr.specs.Order.{place_cmp}
use Rattle.cell_addr.specs.Sheets.{AreSheets, AreApart}
use Rattle.cell_addr.specs.Text.{folded}
use Rattle.cell_addr.specs.declared.place.Place.{Place}
use Rattle.cell_addr.specs.declared.place.TheConstants.{NO_SHEET}
use Rattle.cell_addr.proofs.Places.{place_cmp-IsTotalOrder}
use Rattle.book_values.specs.Book.{Content}
use Rattle.custom_fn.specs.declared.rule.Rule.{Rule}
use Rattle.book_model.specs.Names.{key_cmp}
use Rattle.book_model.specs.Workbook.{Workbook, has_sheet}
use Rattle.book_model.specs.Content.{content_given, content_of}
use Rattle.book_model.specs.Given.{GivenSheet, numbered, place_on, given_entry, given_entries, workbook_given, session_given, IsGivenCell, IsGivenSheet, CanBegin}
use Rattle.book_model.specs.declared.limits.TheConstants.{MAX_UNDO}
use Rattle.book_model.specs.Sound.{IsSound, IsSoundBook, IsCellOf}
use Rattle.book_model.specs.declared.given.BookCell.{BookCell}
use Rattle.book_model.proofs.Contents.{given_is, is_at}
use Rattle.book_model.proofs.KnownSheets.{has_id}

get_or-numbered : (n : ℕ) (books : List GivenSheet) (i : ℕ) (d : ℕ × List ℕ) (e : GivenSheet) → i < length books → get_or (numbered n books) i d ≡ (n + i, (get_or books i e).name)
get_or-numbered n [] i d e l = absurd (omega arith)
get_or-numbered n (b ∷ books) zero d e l = let same : n ≡ n + 0 = omega arith in λ i. (same i, b.name)
get_or-numbered n (b ∷ books) (suc i) d e l =
    let same : (n + 1) + i ≡ n + suc i = omega arith in
    get_or-numbered (n + 1) books i d e (omega arith) ∙ (λ j. (same j, (get_or books i e).name))

length-numbered : (n : ℕ) (books : List GivenSheet) → length (numbered n books) ≡ length books
length-numbered n [] = refl
length-numbered n (b ∷ books) = ap suc (length-numbered (n + 1) books)

has-or : (b c : Bool) → (b ≡ false → c ≡ true) → b || c ≡ true
has-or true c h = refl
has-or false c h = h refl

has-numbered : (n : ℕ) (books : List GivenSheet) (k : ℕ) → n ≤ k → k < n + length books → has_id k (numbered n books) ≡ true
has-numbered n [] k low high = absurd (omega arith)
has-numbered n (b ∷ books) k low high = has-or (eqb n k) (has_id k (numbered (n + 1) books)) (λ other. has-numbered (n + 1) books k (above n k low other) (omega arith))
  where
    above : (n k : ℕ) → n ≤ k → eqb n k ≡ false → n + 1 ≤ k
    above n k low other = let apart : n ≢ k = (λ same. let t = eq-eqb n k same in cc) in omega (arith, low, apart)

apart : (books : List GivenSheet) → AllPairs (λ s t. folded s.name ≢ folded t.name) books → AreApart (numbered 0 books)
apart [] h i j d below inside = absurd (omega arith)
apart (b ∷ books) h i j d below inside =
    let long = length-numbered 0 (b ∷ books) in
    let last : j < length (b ∷ books) = omega (arith, long, inside) in
    let first : i < length (b ∷ books) = omega (arith, below, last) in
    rw (get_or-numbered 0 (b ∷ books) i d b first, get_or-numbered 0 (b ∷ books) j d b last)
    ((λ same. absurd (omega (arith, same, below))), h i j b below last)

all-numbered : (P : ℕ → Type 0) (books : List GivenSheet) → ((k : ℕ) → k < length books → P k) → All (λ s. P s.0) (numbered 0 books)
all-numbered P [] h k d l = absurd (omega arith)
all-numbered P (b ∷ books) h k d l =
    let long = length-numbered 0 (b ∷ books) in
    let inside : k < length (b ∷ books) = omega (arith, long, l) in
    let same : k ≡ 0 + k = omega arith in
    rw (get_or-numbered 0 (b ∷ books) k d b inside) (subst P same (h k inside))

-- each entry of a list passes a test
abbrev pub EachEntry : (Place → Content → Type 0) → List (Place × Content) → Type 0
EachEntry P [] = ⊤
EachEntry P (e ∷ es) = P e.0 e.1 × EachEntry P es

each-append : (P : Place → Content → Type 0) (es fs : List (Place × Content)) → EachEntry P es → EachEntry P fs → EachEntry P (es ++ fs)
each-append P [] fs h i = i
each-append P (e ∷ es) fs h i = (h.0, each-append P es fs h.1 i)

each-option : (P : Place → Content → Type 0) (r : Option (Place × Content)) (es : List (Place × Content)) → ((e : Place × Content) → r ≡ Some e → P e.0 e.1) → EachEntry P es → EachEntry P (cons_option r es)
each-option P None es h i = i
each-option P (Some e) es h i = (h e refl, i)

found-or : (P : Place → Content → Type 0) (b : Bool) (p : Place) (e : Place × Content) (r : Option Content) (c : Content) → eq_by_cmp place_cmp p e.0 ≡ b → cond b (Some e.1) r ≡ Some c → P e.0 e.1 → (r ≡ Some c → P p c) → P p c
found-or P true p e r c t is here more = subst (λ q. P q c) (is_at e.0 p t) (subst (P e.0) (same_Some e.1 c is) here)
found-or P false p e r c t is here more = more is

-- so does what is found in the list
found-each : (P : Place → Content → Type 0) (es : List (Place × Content)) (p : Place) (c : Content) → EachEntry P es → find place_cmp p es ≡ Some c → P p c
found-each P [] p c h is = cc
found-each P (e ∷ es) p c h is = found-or P (eq_by_cmp place_cmp p e.0) p e (find place_cmp p es) c refl is h.0 (found-each P es p c h.1)

mapped-entry : (sheet : ℕ) (c : BookCell) (r : Option Content) (e : Place × Content) → option_map (λ x. (place_on sheet c, x)) r ≡ Some e → (r ≡ Some e.1) × (place_on sheet c ≡ e.0)
mapped-entry sheet c None e is = cc
mapped-entry sheet c (Some x) e is = let same : (place_on sheet c, x) ≡ e = same_Some _ _ is in (ap (λ y. Some y.1) same, ap (λ y. y.0) same)

given_cell : (b : Workbook) (sheet : ℕ) (c : BookCell) → AreSheets b.sheets → has_sheet b sheet ≡ true → IsGivenCell c → (e : Place × Content) → given_entry b.sheets sheet c ≡ Some e → IsCellOf b e.0 e.1
given_cell b sheet c are here h e is =
    let m = mapped-entry sheet c (content_given b.sheets sheet (content_of c.text)) e is in
    subst (λ p. IsCellOf b p e.1) m.1 ((h.0, h.1), here, given_is b sheet (content_of c.text) e.1 are here m.0)

given_sheet : (b : Workbook) (sheet : ℕ) (cells : List BookCell) → AreSheets b.sheets → has_sheet b sheet ≡ true → All IsGivenCell cells → EachEntry (IsCellOf b) (filter_map (given_entry b.sheets sheet) cells)
given_sheet b sheet [] are here h = tt
given_sheet b sheet (c ∷ cells) are here h =
    each-option (IsCellOf b) (given_entry b.sheets sheet c) (filter_map (given_entry b.sheets sheet) cells) (given_cell b sheet c are here (All-head IsGivenCell c cells h)) (given_sheet b sheet cells are here (All-tail IsGivenCell c cells h))

given_sheets : (b : Workbook) (n : ℕ) (books : List GivenSheet) → AreSheets b.sheets → ((k : ℕ) → n ≤ k → k < n + length books → has_sheet b k ≡ true) → All IsGivenSheet books → EachEntry (IsCellOf b) (given_entries b.sheets n books)
given_sheets b n [] are known h = tt
given_sheets b n (s ∷ books) are known h =
    each-append (IsCellOf b) (filter_map (given_entry b.sheets n) s.cells) (given_entries b.sheets (n + 1) books)
    (given_sheet b n s.cells are (known n (omega arith) (omega arith)) (All-head IsGivenSheet s books h).1)
    (given_sheets b (n + 1) books are (λ k low high. known k (omega arith) (omega arith)) (All-tail IsGivenSheet s books h))

given_book : (books : List GivenSheet) → CanBegin books → IsSoundBook (length books) (workbook_given books)
given_book books can =
    let few = can.2 in
    let are : AreSheets (numbered 0 books) = (apart books can.1, all-numbered (λ k. k ≢ NO_SHEET) books (λ k l same. absurd (omega (arith, few, l, same)))) in
    record {
      sheets = are;
      numbers = all-numbered (λ k. k < length books) books (λ k l. l);
      cells = λ p c is. found-each (IsCellOf (workbook_given books)) (given_entries (numbered 0 books) 0 books) p c
          (given_sheets (workbook_given books) 0 books are (λ k low high. has-numbered 0 books k low high) can.0)
          (sym (get-from_entries place_cmp-IsTotalOrder (given_entries (numbered 0 books) 0 books) p) ∙ is);
      count = can.3;
      names = λ key t e. let none = sym (fin.get-empty key_cmp key) ∙ e in cc;
    }

pub none_kept : (n : ℕ) → All (IsSoundBook n) []
none_kept n k d l = absurd (omega (arith, l))

pub given_sound : (limit : ℕ) (customs : List (List ℕ × Rule)) (today : ℤ) (books : List GivenSheet) → limit ≤ MAX_UNDO → CanBegin books → IsSound (session_given limit customs today books)
given_sound limit customs today books most can = record {
  book = given_book books can;
  undo = none_kept (length books);
  redo = none_kept (length books);
  batch = tt;
  clip = tt;
  few = can.2;
  cleared = tt;
  steps = omega arith;
  limit = most;
}
