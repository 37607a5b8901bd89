-- Items of which what they give is accepted. Serves the laws of words.
use Rattle.std.proofs.Common.{◌≡◌, ◌∙◌, sym, ap, refl, arith, ℕ, ◌&&◌, Bool, true, false, List, [], ◌∷◌, ◌++◌, length, nat_le, nat_lt, Some, None}
use Rattle.std.specs.Prelude.{All, fold, not}
use Rattle.std.specs.List.{list_all}
use Rattle.std.proofs.lemmas.Bool.{and_parts}
use Rattle.std.proofs.lemmas.Bool.Decides.{nat_tests}
use Rattle.std.proofs.lemmas.List.Elements.{All-cons, All-nil}
use Rattle.std.proofs.lemmas.List.Folds.{list_all-append}
use Rattle.digits.specs.Digits.{is_digit, value}
use Rattle.command_words.specs.Items.{AreNew, IsItem, IsNew, Item, OptionName, undo_limit, script, generate, apart, joined, strict, book, value_of, with_books, with_item, with_value}
use Rattle.command_words.specs.Words.{Given, begins_with_dash, is_accepted, is_number, is_value, passes}
use Rattle.command_words.proofs.ProperWords.{not_so}

-- numbers and names of files begin with no dash
number_plain : (digits least most : ℕ) (text : List ℕ) → is_number digits least most text ≡ true → begins_with_dash text ≡ false
number_plain digits least most [] h = refl
number_plain digits least most (c ∷ cs) h =
    let form = and_parts ((nat_lt 0 (length (c ∷ cs)) && nat_le (length (c ∷ cs)) digits) && list_all is_digit (c ∷ cs)) (nat_le least (value (c ∷ cs)) && nat_le (value (c ∷ cs)) most) h in
    let all = and_parts (nat_lt 0 (length (c ∷ cs)) && nat_le (length (c ∷ cs)) digits) (list_all is_digit (c ∷ cs)) form.0 in
    let first = and_parts (is_digit c) (list_all is_digit cs) all.1 in
    let above : nat_lt 47 c ≡ true = (and_parts (nat_lt 47 c) (nat_lt c 58) first.0).0 in
    grind (arith, nat_tests, above)

value_plain : (text : List ℕ) → is_value text ≡ true → begins_with_dash text ≡ false
value_plain text h = not_so (begins_with_dash text) (and_parts (nat_lt 0 (length text)) (not (begins_with_dash text)) h).1

-- so do the values of accepted options
option_plain : (name : OptionName) (text : List ℕ) (g : Given) → is_accepted g ≡ true → value_of name g ≡ Some text → begins_with_dash text ≡ false
option_plain undo_limit text g h is =
    let stands = and_parts _ _ h in
    let books = and_parts _ _ stands.0 in
    let generate = and_parts _ _ books.0 in
    let script = and_parts _ _ generate.0 in
    number_plain 4 0 1000 text (sym (ap (passes (is_number 4 0 1000)) is) ∙ script.0)
option_plain script text g h is =
    let stands = and_parts _ _ h in
    let books = and_parts _ _ stands.0 in
    let generate = and_parts _ _ books.0 in
    let script = and_parts _ _ generate.0 in
    value_plain text (sym (ap (passes is_value) is) ∙ script.1)
option_plain generate text g h is =
    let stands = and_parts _ _ h in
    let books = and_parts _ _ stands.0 in
    let generate = and_parts _ _ books.0 in
    number_plain 5 1 10000 text (sym (ap (passes (is_number 5 1 10000)) is) ∙ generate.1)

abbrev plain : List ℕ → Bool
plain word = not (begins_with_dash word)

books_plain : (g : Given) → is_accepted g ≡ true → list_all plain g.books ≡ true
books_plain g h =
    let stands = and_parts _ _ h in
    (and_parts _ _ stands.0).1

-- what is given stays, where each option stands once
value_kept : (name other : OptionName) (text value : List ℕ) (g : Given) → value_of other g ≡ None → value_of name g ≡ Some text → value_of name (with_value other value g) ≡ Some text
value_kept undo_limit undo_limit text value g new is = cc
value_kept undo_limit script text value g new is = is
value_kept undo_limit generate text value g new is = is
value_kept script undo_limit text value g new is = is
value_kept script script text value g new is = cc
value_kept script generate text value g new is = is
value_kept generate undo_limit text value g new is = is
value_kept generate script text value g new is = is
value_kept generate generate text value g new is = cc

value_beside_flag : (name : OptionName) (g : Given) → value_of name (record g { strict = true }) ≡ value_of name g
value_beside_flag undo_limit g = refl
value_beside_flag script g = refl
value_beside_flag generate g = refl

value_beside_books : (name : OptionName) (books : List (List ℕ)) (g : Given) → value_of name (with_books books g) ≡ value_of name g
value_beside_books undo_limit books g = refl
value_beside_books script books g = refl
value_beside_books generate books g = refl

value_stays : (name : OptionName) (text : List ℕ) (item : Item) (g : Given) → IsNew g item → value_of name g ≡ Some text → value_of name (with_item g item) ≡ Some text
value_stays name text (apart other value) g new is = value_kept name other text value g new is
value_stays name text (joined other value) g new is = value_kept name other text value g new is
value_stays name text strict g new is = value_beside_flag name g ∙ is
value_stays name text (book word) g new is = value_beside_books name (word ∷ []) g ∙ is

values_stay : (name : OptionName) (text : List ℕ) (items : List Item) (g : Given) → AreNew g items → value_of name g ≡ Some text → value_of name (fold with_item g items) ≡ Some text
values_stay name text [] g new is = is
values_stay name text (item ∷ items) g new is = values_stay name text items (with_item g item) new.1 (value_stays name text item g new.0 is)

value_set : (name : OptionName) (text : List ℕ) (g : Given) → value_of name (with_value name text g) ≡ Some text
value_set undo_limit text g = refl
value_set script text g = refl
value_set generate text g = refl

plain_front : (front back : List (List ℕ)) → list_all plain (front ++ back) ≡ true → list_all plain front ≡ true
plain_front front back h = (and_parts (list_all plain front) (list_all plain back) (sym (list_all-append plain front back) ∙ h)).0

books_beside : (name : OptionName) (value : List ℕ) (g : Given) → (with_value name value g).books ≡ g.books
books_beside undo_limit value g = refl
books_beside script value g = refl
books_beside generate value g = refl

book_before : (item : Item) (g : Given) → list_all plain (with_item g item).books ≡ true → list_all plain g.books ≡ true
book_before (apart name value) g h = ap (list_all plain) (sym (books_beside name value g)) ∙ h
book_before (joined name value) g h = ap (list_all plain) (sym (books_beside name value g)) ∙ h
book_before strict g h = h
book_before (book word) g h = plain_front g.books (word ∷ []) h

books_before : (items : List Item) (g : Given) → list_all plain (fold with_item g items).books ≡ true → list_all plain g.books ≡ true
books_before [] g h = h
books_before (item ∷ items) g h = book_before item g (books_before items (with_item g item) h)

last_plain : (books : List (List ℕ)) (word : List ℕ) → list_all plain (books ++ word ∷ []) ≡ true → begins_with_dash word ≡ false
last_plain books word h =
    let both = and_parts (list_all plain books) (list_all plain (word ∷ [])) (sym (list_all-append plain books (word ∷ [])) ∙ h) in
    not_so (begins_with_dash word) (and_parts (plain word) true both.1).0

item_plain : (item : Item) (items : List Item) (behind : List (List ℕ)) (g : Given) → AreNew g (item ∷ items) → is_accepted (with_books behind (fold with_item g (item ∷ items))) ≡ true → IsItem item
item_plain (apart name text) items behind g new h =
    let stays = values_stay name text items (with_value name text g) new.1 (value_set name text g) in
    option_plain name text (with_books behind (fold with_item (with_value name text g) items)) h (value_beside_books name behind (fold with_item (with_value name text g) items) ∙ stays)
item_plain (joined name text) items behind g new h = tt
item_plain strict items behind g new h = tt
item_plain (book word) items behind g new h =
    let last = fold with_item (with_books (word ∷ []) g) items in
    last_plain g.books word (books_before items (with_books (word ∷ []) g) (plain_front last.books behind (books_plain (with_books behind last) h)))

-- what is accepted is given by items whose values and books begin with no dash
pub accepted_items : (items : List Item) (behind : List (List ℕ)) (g : Given) → AreNew g items → is_accepted (with_books behind (fold with_item g items)) ≡ true → All IsItem items
accepted_items [] behind g new h = All-nil IsItem
accepted_items (item ∷ items) behind g new h = All-cons IsItem item items (item_plain item items behind g new h) (accepted_items items behind (with_item g item) new.1 h)
