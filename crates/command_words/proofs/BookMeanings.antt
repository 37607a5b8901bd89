-- What words mean that are all books. Serves the laws of words.
use Rattle.std.proofs.Common.{◌≡◌, ◌∙◌, sym, ap, refl, arith, ℕ, zero, suc, ◌<◌, ◌&&◌, Bool, true, false, cond, List, [], ◌∷◌, ◌++◌, length, get_or, map, Option, Some, None, append_assoc}
use Rattle.std.specs.Prelude.{All, Any, codes, flat_map, fold, not}
use Rattle.std.specs.List.{list_all}
use Rattle.std.proofs.lemmas.List.{append-nil}
use Rattle.std.proofs.lemmas.List.Elements.{All-cons, All-head, All-nil, All-tail}
use Rattle.std.proofs.lemmas.List.Folds.{list_all-append}
use Rattle.command_words.specs.Items.{AreNew, IsItem, book, given_by, nothing_given, with_books, with_item, words_behind, words_of}
use Rattle.command_words.specs.Laws.{books_said}
use Rattle.command_words.specs.Words.{Given, begins_with_dash, meaning, said_of}
use Rattle.command_words.proofs.ItemMeanings.{given_mean}

-- words that begin with no dash are the items that are books
book_items : (words : List (List ℕ)) → All (λ word. begins_with_dash word ≡ false) words → All IsItem (map book words)
book_items [] plain = All-nil IsItem
book_items (word ∷ words) plain = All-cons IsItem (book word) (map book words) (All-head (λ w. begins_with_dash w ≡ false) word words plain) (book_items words (All-tail (λ w. begins_with_dash w ≡ false) word words plain))

book_new : (words : List (List ℕ)) (g : Given) → AreNew g (map book words)
book_new [] g = tt
book_new (word ∷ words) g = (tt, book_new words (with_books (word ∷ []) g))

book_spell : (words : List (List ℕ)) → words ≡ flat_map words_of (map book words)
book_spell [] = refl
book_spell (word ∷ words) = ap (λ ws. word ∷ ws) (book_spell words)

book_give : (words : List (List ℕ)) (g : Given) → with_books words g ≡ fold with_item g (map book words)
book_give [] g = ap (λ bs. record g { books = bs }) (append-nil g.books)
book_give (word ∷ words) g = ap (λ bs. record g { books = bs }) (sym (append_assoc g.books (word ∷ []) words)) ∙ book_give words (with_books (word ∷ []) g)

-- what is given by books alone
abbrev given_books : List (List ℕ) → Given
given_books books = with_books books nothing_given

books_mean : (front : List (List ℕ)) (behind : Option (List (List ℕ))) → All (λ word. begins_with_dash word ≡ false) front → meaning (front ++ words_behind behind) ≡ said_of (given_by (map book front) behind)
books_mean front behind plain = given_mean (front ++ words_behind behind) (given_by (map book front) behind) (record {
  items = map book front;
  behind = behind;
  are_items = book_items front plain;
  are_new = book_new front nothing_given;
  spell = ap (λ ws. ws ++ words_behind behind) (book_spell front);
  give = refl;
})

said-books : (books : List (List ℕ)) (plain : Bool) → list_all (λ book. not (begins_with_dash book)) books ≡ plain → said_of (given_books books) ≡ cond plain (Some (books_said books)) None
said-books books true is = rw is refl
said-books books false is = rw is refl

-- no word begins with a dash
none_dashes : (words : List (List ℕ)) → All (λ word. begins_with_dash word ≡ false) words → list_all (λ book. not (begins_with_dash book)) words ≡ true
none_dashes [] all = refl
none_dashes (word ∷ words) all =
    rw (All-head (λ w. begins_with_dash w ≡ false) word words all) (none_dashes words (All-tail (λ w. begins_with_dash w ≡ false) word words all))

nor_false : (b : Bool) → b && false ≡ false
nor_false true = refl
nor_false false = refl

-- one word does
one_dashes : (words : List (List ℕ)) (k : ℕ) (word : List ℕ) → k < length words → get_or words k word ≡ word → begins_with_dash word ≡ true → list_all (λ book. not (begins_with_dash book)) words ≡ false
one_dashes [] k word inside is dashes = absurd (omega arith)
one_dashes (w ∷ words) zero word inside is dashes = rw (ap begins_with_dash is ∙ dashes) refl
one_dashes (w ∷ words) (suc k) word inside is dashes = rw (one_dashes words k word (omega arith) is dashes) (nor_false (not (begins_with_dash w)))

-- words without a dash in front
pub plain_words : (front : List (List ℕ)) → All (λ word. begins_with_dash word ≡ false) front → meaning front ≡ Some (books_said front)
plain_words front plain =
    ap meaning (sym (append-nil front))
    ∙ books_mean front None plain
    ∙ ap (λ (g : Given). said_of (with_books [] g)) (sym (book_give front nothing_given))
    ∙ ap (λ bs. said_of (given_books bs)) (append-nil front)
    ∙ said-books front true (none_dashes front plain)

-- words behind `--`
behind_dashes : (front back : List (List ℕ)) → All (λ word. begins_with_dash word ≡ false) front → meaning (front ++ codes "--" ∷ back) ≡ said_of (given_books (front ++ back))
behind_dashes front back plain = books_mean front (Some back) plain ∙ ap (λ (g : Given). said_of (with_books back g)) (sym (book_give front nothing_given))

pub plain_behind : (front back : List (List ℕ)) → All (λ word. begins_with_dash word ≡ false) front → All (λ word. begins_with_dash word ≡ false) back → meaning (front ++ codes "--" ∷ back) ≡ Some (books_said (front ++ back))
plain_behind front back plain all =
    behind_dashes front back plain
    ∙ said-books (front ++ back) true (list_all-append (λ book. not (begins_with_dash book)) front back ∙ rw (none_dashes front plain) (none_dashes back all))

pub dash_behind : (front back : List (List ℕ)) → All (λ word. begins_with_dash word ≡ false) front → Any (λ word. begins_with_dash word ≡ true) back → meaning (front ++ codes "--" ∷ back) ≡ None
dash_behind front back plain (k, word, inside, is, dashes) =
    behind_dashes front back plain
    ∙ said-books (front ++ back) false (list_all-append (λ book. not (begins_with_dash book)) front back ∙ rw (none_dashes front plain) (one_dashes back k word inside is dashes))
