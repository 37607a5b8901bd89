-- How many cells are filled, and when a text fills one more. Serves the limit on filled cells.
use Rattle.std.proofs.Common.{◌≡◌, ◌∙◌, sym, ap, refl, arith, ℕ, ℤ, ◌≤◌, ◌+◌, ◌==◌, ◌&&◌, nat_lt, Bool, true, false, cond, List, [], ◌∷◌, length, Option, Some, None, is_some, is_none, option_map, Result, Ok, Err, not, ◌-◌, Bor, option_copied}
use Rattle.std.specs.Prelude.{nat_le}
use Rattle.std.proofs.lemmas.Bool.Decides.{nat_tests}
use Rattle.std.specs.FinMap as fin
use Rattle.std.specs.FinMap.{get-entries, len-entries, len-insert, len-remove, contains_key}
use Rattle.cell_addr.specs.declared.place.Place.{Place}
use Rattle.cell_addr.proofs.Places.{place_cmp-IsTotalOrder, place_cmp-IsAntisymmetric}
use Rattle.cell_value.specs.Scalar.{read_truth}
use Rattle.cell_value.specs.declared.fault.FaultKind.{FaultKind}
use Rattle.book_values.specs.Book.{Book as Contents, Content}
use Rattle.fix_num.specs.Text.{number_of}
use Rattle.fix_num.specs.declared.error.NumError.{NumError}
use Rattle.grid_store.specs.declared.cell.Cell.{Cell}
use Rattle.shift_core.specs.Maps.{PlaceMap}
use Rattle.book_model.specs.Changes.{placed}
use Rattle.book_model.specs.Content.{content_given, content_of as content_said, plain_content, word_content}
use Rattle.book_model.specs.declared.content.ContentText.{ContentText}
use Rattle.book_model.specs.declared.content.ContentText.TheVariants as said
use Rattle.book_model.proofs.Counts.{len-part}
use Rattle.kept_book.specs.Numbered.{Numbered}
use Rattle.kept_book.specs.Stored.{content_of, contents_of}
use Rattle.kept_book.proofs.Contents.{get-contents}

none_mapped : {X Y : Type 0} (h : X → Y) (r : Option X) → option_map h r ≡ None → r ≡ None
none_mapped h None e = refl
none_mapped h (Some x) e = cc

equal : (n m : ℕ) → n ≤ m → m ≤ n → n ≡ m
equal n m a b = omega (arith, a, b)

-- there are as many contents as filled cells
pub len-contents : (stands : Numbered) (cells : PlaceMap Cell) → fin.len (contents_of stands cells) ≡ fin.len cells
len-contents stands cells =
    let a = len-part place_cmp-IsTotalOrder place_cmp-IsAntisymmetric (fin.entries cells) (contents_of stands cells) (λ q none.
    get-contents stands cells q ∙ ap (option_map (content_of stands)) (get-entries cells q ∙ none)) in
    let b = len-part place_cmp-IsTotalOrder place_cmp-IsAntisymmetric (fin.entries (contents_of stands cells)) cells (λ q none.
    none_mapped (content_of stands) (fin.get cells q) (sym (get-contents stands cells q) ∙ get-entries (contents_of stands cells) q ∙ none)) in
    let c = len-entries cells in
    let d = len-entries (contents_of stands cells) in
    equal (fin.len (contents_of stands cells)) (fin.len cells) (omega (arith, a, c)) (omega (arith, b, d))

-- what a text gives, where it gives something
abbrev Gives : List (ℕ × List ℕ) → ℕ → ContentText → Type 0
Gives sheets sheet g = (x : Content) × (content_given sheets sheet g ≡ Some x)

word_gives : (sheets : List (ℕ × List ℕ)) (sheet : ℕ) (r : Result Bool FaultKind) (w : List ℕ) → Gives sheets sheet (word_content r w)
word_gives sheets sheet (Ok b) w = (_, refl)
word_gives sheets sheet (Err f) w = (_, refl)

plain_gives : (sheets : List (ℕ × List ℕ)) (sheet : ℕ) (r : Result ℤ NumError) (w : List ℕ) → Gives sheets sheet (plain_content r w)
plain_gives sheets sheet (Ok m) w = (_, refl)
plain_gives sheets sheet (Err e) w = word_gives sheets sheet (read_truth w) w

first_gives : (sheets : List (ℕ × List ℕ)) (sheet : ℕ) (b : Bool) (w : List ℕ) → Gives sheets sheet (cond b (said.Formula w) (plain_content (number_of w) w))
first_gives sheets sheet true w = (_, refl)
first_gives sheets sheet false w = plain_gives sheets sheet (number_of w) w

-- a text of some characters gives something
pub text_gives : (sheets : List (ℕ × List ℕ)) (sheet : ℕ) (w : List ℕ) → (length w == 0) ≡ false → (x : Content) × (content_given sheets sheet (content_said w) ≡ Some x)
text_gives sheets sheet [] some = absurd (grind (arith, nat_tests))
text_gives sheets sheet (c ∷ cs) some = first_gives sheets sheet (c == 61) (c ∷ cs)

pub no_text : (w : List ℕ) → (length w == 0) ≡ true → w ≡ []
no_text [] e = refl
no_text (c ∷ cs) e = absurd (grind (arith, nat_tests))

-- one more cell is filled past the limit exactly where the limit is reached and the cell was empty
one_more : (r : Option Content) (n most : ℕ) → n ≤ most → nat_lt most (cond (is_some r) n (n + 1)) ≡ is_none r && nat_le most n
one_more None n most h = grind (arith, nat_tests)
one_more (Some x) n most h = grind (arith, nat_tests)

pub overfilled : (m : Contents) (at : Place) (g : Option Content) (x : Content) (most : ℕ) → fin.len m ≤ most → g ≡ Some x → nat_lt most (fin.len (placed at g m)) ≡ is_none (fin.get m at) && nat_le most (fin.len m)
overfilled m at g x most few is =
    ap (λ r. nat_lt most (fin.len (placed at r m))) is ∙ ap (nat_lt most) (len-insert place_cmp-IsTotalOrder m at x) ∙ one_more (fin.get m at) (fin.len m) most few

-- no content is at a place whose cell is empty
pub none_there : (stands : Numbered) (cells : PlaceMap Cell) (at : Place) (r : Option (Bor Cell)) (b : Bool) → option_copied r ≡ fin.get cells at → is_some r ≡ not b → is_none (fin.get (contents_of stands cells) at) ≡ b
none_there stands cells at r b same e = ap is_none (get-contents stands cells at ∙ ap (option_map (content_of stands)) (sym same)) ∙ go r b e
  where
    go : (r : Option (Bor Cell)) (b : Bool) → is_some r ≡ not b → is_none (option_map (content_of stands) (option_copied r)) ≡ b
    go None true e = refl
    go None false e = cc
    go (Some x) true e = cc
    go (Some x) false e = refl

less : (b : Bool) (n most : ℕ) → n ≤ most → nat_lt most (cond b (n - 1) n) ≡ false
less true n most h = grind (arith, nat_tests)
less false n most h = grind (arith, nat_tests)

-- an emptied cell keeps the limit
pub emptied_fits : (m : Contents) (at : Place) (most : ℕ) → fin.len m ≤ most → nat_lt most (fin.len (fin.remove m at)) ≡ false
emptied_fits m at most few = ap (nat_lt most) (len-remove place_cmp-IsTotalOrder m at) ∙ less (contains_key m at) (fin.len m) most few
