-- What words mean that are items. Serves the laws of words.
use Rattle.std.proofs.Common.{◌≡◌, ◌∙◌, sym, ap, subst, refl, ℕ, Bool, true, false, cond, ◌||◌, List, [], ◌∷◌, ◌++◌, Option, Some, None, append_assoc}
use Rattle.std.specs.Prelude.{⊤, All, codes, drop, flat_map, fold, slice_get, option_and_then, unwrap_or}
use Rattle.std.proofs.lemmas.List.{append-nil}
use Rattle.std.proofs.lemmas.List.Elements.{All-cons, All-head, All-nil, All-tail}
use Rattle.clap.specs.Faults.{default_fault, defaults_fault, settle_fault, turn_fault, walk_fault}
use Rattle.clap.specs.Kinds.{Kinds, or_else}
use Rattle.clap.specs.Walk.{Row, Rule, Waiting, Walk, idle, positional, option, all_of, arg_by_id, at_row, finished, has_row, more_values, nothing_held, reading_by, settled_rows, walk_from, walked, with_default, with_values}
use Rattle.clap.specs.Words.{fault_of, matches_of}
use Rattle.clap.specs.declared.parser.matches.ValueSource.TheVariants.{CommandLine, DefaultValue}
use Rattle.command_words.specs.Items.{AreNew, Give, IsItem, IsNew, Item, OptionName, undo_limit, script, generate, apart, joined, strict, book, given_by, name_text, nothing_given, value_of, with_books, with_item, with_value, words_behind, words_of}
use Rattle.command_words.specs.Words.{Given, flag_rule, given_of, is_true, meaning, other_rule, said_of, sheet_app}
use Rattle.command_words.proofs.Walks.{IsFree, IsOther, Leads, Pending, dashes-lead, held_at, leads-on, leads-one, plain_other, rules, shape, turn-behind, turn-free, walk_at, walked-behind, walked-free}
use Rattle.command_words.proofs.WordEnds.{both_none, end_of, ended_fault, meant}
use Rattle.command_words.proofs.ItemWalks.{Finds, finds-option, found_books, found_flag, found_value, no_row, set-option, set_row, turn-joined, turn-name, turn-value, walked-joined, walked-name, walked-value}
use Rattle.command_words.proofs.RowLists.{at_none, first-all, found_behind, grown, has_none, has_some, kept, other_behind}

abbrev flag_row : List ℕ → Row
flag_row text = record { id = codes "strict"; values = text ∷ []; count = None; source = Some CommandLine; reading = reading_by (unwrap_or (arg_by_id rules (codes "strict")) (flag_rule (codes "strict"))) }

turn-strict : (rows : List Row) (pending : Pending) (waiting : Waiting) → IsFree waiting → settle_fault rules false (held_at rows pending) ≡ []
    → has_row (codes "strict") (settled_rows rules pending rows) ≡ false → turn_fault shape [] (walk_at rows pending waiting false) (codes "--strict") ≡ []
turn-strict rows pending idle free fine new = rw (fine, new) refl
turn-strict rows pending (option id) free fine new = absurd free
turn-strict rows pending positional free fine new = rw (fine, new) refl

walked-strict : (rows : List Row) (pending : Pending) (waiting : Waiting) → IsFree waiting
    → walked rules [] (walk_at rows pending waiting false) (codes "--strict") ≡ walk_at (settled_rows rules (Some (codes "strict", [])) (settled_rows rules pending rows)) None idle false
unfolding walked
walked-strict rows pending idle free = refl
walked-strict rows pending (option id) free = absurd free
walked-strict rows pending positional free = refl

set-strict : (rows : List Row) → all_of (codes "strict") rows ≡ None → settled_rows rules (Some (codes "strict", [])) rows ≡ rows ++ flag_row (codes "true") ∷ []
set-strict rows none = set_row (codes "strict") (flag_row (codes "true")) rows (codes "true") none

finds-strict : (rows : List Row) (g : Given) → Finds rows g → all_of (codes "strict") rows ≡ None → Finds (rows ++ flag_row (codes "true") ∷ []) (record g { strict = true })
finds-strict rows g f none = record {
  undo = other_behind (codes "undo-limit") rows (flag_row (codes "true")) refl ∙ f.undo;
  flag = found_behind (codes "strict") rows (flag_row (codes "true")) refl none;
  file = other_behind (codes "script") rows (flag_row (codes "true")) refl ∙ f.file;
  size = other_behind (codes "generate") rows (flag_row (codes "true")) refl ∙ f.size;
  others = other_behind (codes "book") rows (flag_row (codes "true")) refl ∙ f.others;
}

abbrev book_row : List ℕ → Row
book_row word = record { id = codes "book"; values = word ∷ []; count = None; source = Some CommandLine; reading = reading_by (other_rule (codes "book")) }

with_book : List ℕ → List Row → List Row
with_book word rows = at_row (codes "book") (more_values CommandLine (word ∷ [])) (book_row word ∷ []) rows

finds-book : (rows : List Row) (g : Given) (word : List ℕ) (books : List (List ℕ)) → g.books ≡ books → Finds rows g → Finds (settled_rows rules (Some (codes "book", word ∷ [])) rows) (record g { books = g.books ++ word ∷ [] })
finds-book rows g word [] is f =
    let none : all_of (codes "book") rows ≡ None = f.others ∙ ap found_books is in
    let same : settled_rows rules (Some (codes "book", word ∷ [])) rows ≡ rows ++ book_row word ∷ [] = at_none (codes "book") (more_values CommandLine (word ∷ [])) (book_row word ∷ []) rows none in
    record {
      undo = ap (all_of (codes "undo-limit")) same ∙ other_behind (codes "undo-limit") rows (book_row word) refl ∙ f.undo;
      flag = ap (all_of (codes "strict")) same ∙ other_behind (codes "strict") rows (book_row word) refl ∙ f.flag;
      file = ap (all_of (codes "script")) same ∙ other_behind (codes "script") rows (book_row word) refl ∙ f.file;
      size = ap (all_of (codes "generate")) same ∙ other_behind (codes "generate") rows (book_row word) refl ∙ f.size;
      others = ap (all_of (codes "book")) same ∙ found_behind (codes "book") rows (book_row word) refl none ∙ ap (λ bs. found_books (bs ++ word ∷ [])) (sym is);
    }
finds-book rows g word (b ∷ bs) is f =
    let some : all_of (codes "book") rows ≡ Some (b ∷ bs) = f.others ∙ ap found_books is in
    record {
      undo = kept (codes "book") (codes "undo-limit") word (book_row word ∷ []) rows (b ∷ bs) refl some ∙ f.undo;
      flag = kept (codes "book") (codes "strict") word (book_row word ∷ []) rows (b ∷ bs) refl some ∙ f.flag;
      file = kept (codes "book") (codes "script") word (book_row word ∷ []) rows (b ∷ bs) refl some ∙ f.file;
      size = kept (codes "book") (codes "generate") word (book_row word ∷ []) rows (b ∷ bs) refl some ∙ f.size;
      others = grown (codes "book") word (book_row word ∷ []) rows (b ∷ bs) some ∙ ap (λ xs. found_books (xs ++ word ∷ [])) (sym is);
    }

-- a walk over items that were all accepted
pub record HasItems (rows : List Row) (pending : Pending) (waiting : Waiting) (g : Given) : Type 0 where
  pub free : IsFree waiting
  pub fine : settle_fault rules false (held_at rows pending) ≡ []
  pub finds : Finds (settled_rows rules pending rows) g

pub nothing-yet : HasItems [] None idle nothing_given
nothing-yet = record { free = tt; fine = refl; finds = record { undo = refl; flag = refl; file = refl; size = refl; others = refl } }

-- an item whose words are taken for it
abbrev pub IsTaken : Item → Type 0
IsTaken (apart name value) = IsOther value
IsTaken (joined name value) = ⊤
IsTaken strict = ⊤
IsTaken (book word) = IsOther word

item_taken : (item : Item) → IsItem item → IsTaken item
item_taken (apart name value) is = plain_other value is
item_taken (joined name value) is = tt
item_taken strict is = tt
item_taken (book word) is = plain_other word is

pub items_taken : (items : List Item) → All IsItem items → All IsTaken items
items_taken [] are = All-nil IsTaken
items_taken (item ∷ items) are = All-cons IsTaken item items (item_taken item (All-head IsItem item items are)) (items_taken items (All-tail IsItem item items are))

-- where a walk over items goes on
abbrev pub GoesOn : Walk → List (List ℕ) → Bool → List (List ℕ) → Given → Type 0
GoesOn w words behind left g = (rows : List Row) × (pending : Pending) × (waiting : Waiting) × (Leads w words (walk_at rows pending waiting behind) left × HasItems rows pending waiting g)

fine-option : (name : OptionName) (text : List ℕ) (rows : List Row) → has_row (name_text name) rows ≡ false → settle_fault rules false (held_at rows (Some (name_text name, text ∷ []))) ≡ []
fine-option undo_limit text rows new = rw new refl
fine-option script text rows new = rw new refl
fine-option generate text rows new = rw new refl

-- an option that has its value
pub has-option : (name : OptionName) (text : List ℕ) (rows : List Row) (g : Given) → Finds rows g → value_of name g ≡ None → HasItems rows (Some (name_text name, text ∷ [])) idle (with_value name text g)
has-option name text rows g finds new =
    let none = no_row name rows g finds new in
    record {
      free = tt;
      fine = fine-option name text rows (has_none (name_text name) rows none);
      finds = subst (λ rs. Finds rs (with_value name text g)) (sym (set-option name text rows none)) (finds-option name text rows g finds none);
    }

pub apart-leads : (name : OptionName) (text : List ℕ) (left : List (List ℕ)) (rows : List Row) (pending : Pending) (waiting : Waiting) → IsFree waiting → settle_fault rules false (held_at rows pending) ≡ [] → IsOther text
    → Leads (walk_at rows pending waiting false) (words_of (apart name text) ++ left) (walk_at (settled_rows rules pending rows) (Some (name_text name, text ∷ [])) idle false) left
apart-leads name text left rows pending waiting free fine other =
    let settled = settled_rows rules pending rows in
    let one = leads-one (walk_at rows pending waiting false) (walk_at settled (Some (name_text name, [])) (option (name_text name)) false) (codes "--" ++ name_text name) (text ∷ left) (turn-name name rows pending waiting free fine) (walked-name name rows pending waiting free) in
    let two = leads-one (walk_at settled (Some (name_text name, [])) (option (name_text name)) false) (walk_at settled (Some (name_text name, text ∷ [])) idle false) text left (turn-value name settled text other) (walked-value name settled text other) in
    (one.0 ∙ two.0, one.1 ∙ two.1)

-- one more book
has-book : (word : List ℕ) (rows : List Row) (g : Given) → Finds rows g → HasItems rows (Some (codes "book", word ∷ [])) positional (with_books (word ∷ []) g)
has-book word rows g finds = record { free = tt; fine = refl; finds = finds-book rows g word g.books refl finds }

pub item-leads : (item : Item) (left : List (List ℕ)) (rows : List Row) (pending : Pending) (waiting : Waiting) (g : Given) → HasItems rows pending waiting g → IsTaken item → IsNew g item
    → GoesOn (walk_at rows pending waiting false) (words_of item ++ left) false left (with_item g item)
item-leads (apart name text) left rows pending waiting g has is new =
    let settled = settled_rows rules pending rows in (
      settled,
      Some (name_text name, text ∷ []),
      idle,
      (apart-leads name text left rows pending waiting has.free has.fine is, has-option name text settled g has.finds new),
    )
item-leads (joined name text) left rows pending waiting g has is new =
    let settled = settled_rows rules pending rows in
    let none = no_row name settled g has.finds new in
    let after = settled_rows rules (Some (name_text name, text ∷ [])) settled in (
      after,
      None,
      idle,
      (
        leads-one (walk_at rows pending waiting false) (walk_at after None idle false) (codes "--" ++ name_text name ++ codes "=" ++ text) left (turn-joined name text rows pending waiting has.free has.fine (has_none (name_text name) settled none)) (walked-joined name text rows pending waiting has.free),
        record {
          free = tt;
          fine = refl;
          finds = subst (λ rs. Finds rs (with_value name text g)) (sym (set-option name text settled none)) (finds-option name text settled g has.finds none);
        },
      ),
    )
item-leads strict left rows pending waiting g has is new =
    let settled = settled_rows rules pending rows in
    let none : all_of (codes "strict") settled ≡ None = has.finds.flag ∙ ap found_flag new in
    let after = settled_rows rules (Some (codes "strict", [])) settled in (
      after,
      None,
      idle,
      (
        leads-one (walk_at rows pending waiting false) (walk_at after None idle false) (codes "--strict") left (turn-strict rows pending waiting has.free has.fine (has_none (codes "strict") settled none)) (walked-strict rows pending waiting has.free),
        record {
          free = tt;
          fine = refl;
          finds = subst (λ rs. Finds rs (record g { strict = true })) (sym (set-strict settled none)) (finds-strict settled g has.finds none);
        },
      ),
    )
item-leads (book word) left rows pending waiting g has is new =
    let settled = settled_rows rules pending rows in (
      settled,
      Some (codes "book", word ∷ []),
      positional,
      (
        leads-one (walk_at rows pending waiting false) (walk_at settled (Some (codes "book", word ∷ [])) positional false) word left (turn-free rows pending waiting word has.free is ∙ has.fine) (walked-free rows pending waiting word has.free is),
        has-book word settled g has.finds,
      ),
    )

items-lead : (items : List Item) (left : List (List ℕ)) (rows : List Row) (pending : Pending) (waiting : Waiting) (g : Given) → HasItems rows pending waiting g → All IsTaken items → AreNew g items
    → GoesOn (walk_at rows pending waiting false) (flat_map words_of items ++ left) false left (fold with_item g items)
items-lead [] left rows pending waiting g has are new = (rows, pending, waiting, ((refl, refl), has))
items-lead (item ∷ items) left rows pending waiting g has are new =
    let more = flat_map words_of items ++ left in
    let one = item-leads item more rows pending waiting g has (All-head IsTaken item items are) new.0 in
    let rest = items-lead items left one.0 one.1 one.2 (with_item g item) one.3.1 (All-tail IsTaken item items are) new.1 in
    let both = leads-on (walk_at rows pending waiting false) (walk_at one.0 one.1 one.2 false) (walk_at rest.0 rest.1 rest.2 false) (words_of item ++ more) more left one.3.0 rest.3.0 in
    (rest.0, rest.1, rest.2, (subst (λ ws. Leads (walk_at rows pending waiting false) ws (walk_at rest.0 rest.1 rest.2 false) left) (sym (append_assoc (words_of item) (flat_map words_of items) left)) both, rest.3.1))

-- books behind `--`
books-lead : (books : List (List ℕ)) (rows : List Row) (pending : Pending) (waiting : Waiting) (g : Given) → HasItems rows pending waiting g → GoesOn (walk_at rows pending waiting true) books true [] (with_books books g)
books-lead [] rows pending waiting g has = (rows, pending, waiting, ((refl, refl), rw (append-nil g.books) has))
books-lead (word ∷ books) rows pending waiting g has =
    let settled = settled_rows rules pending rows in
    let one = leads-one (walk_at rows pending waiting true) (walk_at settled (Some (codes "book", word ∷ [])) positional true) word books (turn-behind rows pending waiting word ∙ has.fine) (walked-behind rows pending waiting word) in
    let rest = books-lead books settled (Some (codes "book", word ∷ [])) positional (with_books (word ∷ []) g) (has-book word settled g has.finds) in
    let both = leads-on (walk_at rows pending waiting true) (walk_at settled (Some (codes "book", word ∷ [])) positional true) (walk_at rest.0 rest.1 rest.2 true) (word ∷ books) books [] one rest.3.0 in
    (rest.0, rest.1, rest.2, (both, subst (λ bs. HasItems rest.0 rest.1 rest.2 (record g { books = bs })) (append_assoc g.books (word ∷ []) books) rest.3.1))

-- no default of an argument is at fault
abbrev Fine : List Rule → Type 0
Fine [] = ⊤
Fine (r ∷ rs) = ((rows : List Row) → default_fault rows r ≡ []) × Fine rs

fine-none : (rs : List Rule) → Fine rs → (rows : List Row) → defaults_fault rows rs ≡ []
unfolding defaults_fault
fine-none [] fine rows = refl
fine-none (r ∷ rs) fine rows = ap (λ k. or_else k (defaults_fault (with_default rows r) rs)) (fine.0 rows) ∙ fine-none rs fine.1 (with_default rows r)

none_either : (b c : Bool) → cond {A = Kinds} (b || c) [] [] ≡ []
none_either true c = refl
none_either false true = refl
none_either false false = refl

rules-fine : Fine rules
rules-fine = (
  (λ rows. none_either (has_row (codes "undo-limit") rows) true),
  (
    (λ rows. none_either (has_row (codes "strict") rows) false),
    (
      (λ rows. none_either (has_row (codes "script") rows) true),
      (
        (λ rows. none_either (has_row (codes "generate") rows) true),
        ((λ rows. none_either (has_row (codes "book") rows) true), tt),
      ),
    ),
  ),
)

same_rows : (b : Bool) (rows : List Row) → cond b rows rows ≡ rows
same_rows true rows = refl
same_rows false rows = refl

-- a flag that isn't set has a row by default
abbrev default_row : Row
default_row = record (flag_row (codes "false")) { source = Some DefaultValue }

abbrev flagged : List Row → List Row
flagged rows = cond (has_row (codes "strict") rows) rows (with_values (codes "strict") default_row.reading DefaultValue (codes "false" ∷ []) rows)

with-defaults : (rows : List Row) → fold with_default rows rules ≡ flagged rows
with-defaults rows =
    ap (λ x. fold with_default x (drop 1 rules)) (same_rows (has_row (codes "undo-limit") rows) rows)
    ∙ ap (λ x. fold with_default x (drop 3 rules)) (same_rows (has_row (codes "script") (flagged rows)) (flagged rows))
    ∙ ap (λ x. fold with_default x (drop 4 rules)) (same_rows (has_row (codes "generate") (flagged rows)) (flagged rows))
    ∙ same_rows (has_row (codes "book") (flagged rows)) (flagged rows)

first_value : (o : Option (List ℕ)) → option_and_then (λ vs. slice_get vs 0) (found_value o) ≡ o
first_value None = refl
first_value (Some text) = refl

all_books : (books : List (List ℕ)) → unwrap_or (found_books books) [] ≡ books
all_books [] = refl
all_books (b ∷ bs) = refl

-- what was found is given
given-by : (rows : List Row) (g : Given) (text : List ℕ) → all_of (codes "undo-limit") rows ≡ found_value g.undo_limit → all_of (codes "strict") rows ≡ Some (text ∷ []) → is_true (Some text) ≡ g.strict
    → all_of (codes "script") rows ≡ found_value g.script → all_of (codes "generate") rows ≡ found_value g.generate → all_of (codes "book") rows ≡ found_books g.books → given_of rows ≡ g
given-by rows g text undo flag set file size others =
    let limit = first-all (codes "undo-limit") rows ∙ ap (option_and_then (λ vs. slice_get vs 0)) undo ∙ first_value g.undo_limit in
    let told = ap is_true (first-all (codes "strict") rows ∙ ap (option_and_then (λ vs. slice_get vs 0)) flag) ∙ set in
    let name = first-all (codes "script") rows ∙ ap (option_and_then (λ vs. slice_get vs 0)) file ∙ first_value g.script in
    let list = first-all (codes "generate") rows ∙ ap (option_and_then (λ vs. slice_get vs 0)) size ∙ first_value g.generate in
    let books = ap (λ o. unwrap_or o []) others ∙ all_books g.books in
    λ i. record { undo_limit = limit i; strict = told i; script = name i; generate = list i; books = books i }

given-flagged : (rows : List Row) (g : Given) (b : Bool) → g.strict ≡ b → Finds rows g → given_of (flagged rows) ≡ g
given-flagged rows g true is f =
    let some : all_of (codes "strict") rows ≡ Some (codes "true" ∷ []) = f.flag ∙ ap found_flag is in
    let same : flagged rows ≡ rows = ap (λ b. cond b rows (with_values (codes "strict") default_row.reading DefaultValue (codes "false" ∷ []) rows)) (has_some (codes "strict") rows (codes "true" ∷ []) some) in
    ap given_of same ∙ given-by rows g (codes "true") f.undo some (sym is) f.file f.size f.others
given-flagged rows g false is f =
    let none : all_of (codes "strict") rows ≡ None = f.flag ∙ ap found_flag is in
    let same : flagged rows ≡ rows ++ default_row ∷ [] =
    ap (λ b. cond b rows (with_values (codes "strict") default_row.reading DefaultValue (codes "false" ∷ []) rows)) (has_none (codes "strict") rows none)
    ∙ at_none (codes "strict") (more_values DefaultValue (codes "false" ∷ [])) (default_row ∷ []) rows none in
    ap given_of same
    ∙ given-by (rows ++ default_row ∷ []) g (codes "false") (other_behind (codes "undo-limit") rows default_row refl ∙ f.undo) (found_behind (codes "strict") rows default_row refl none) (sym is)
    (other_behind (codes "script") rows default_row refl ∙ f.file) (other_behind (codes "generate") rows default_row refl ∙ f.size) (other_behind (codes "book") rows default_row refl ∙ f.others)

ends : (words : List (List ℕ)) (g : Given) (behind : Bool) → GoesOn (walk_at [] None idle false) words behind [] g → meaning words ≡ said_of g
unfolding walk_fault
ends words g behind (rows, pending, waiting, (leads, has)) =
    let settled = settled_rows rules pending rows in
    let faultless : fault_of sheet_app words ≡ [] =
    end_of words
    ∙ ap (λ k. ended_fault k (fold (walked rules []) (walk_from nothing_held) words)) leads.0
    ∙ ap (ended_fault []) leads.1
    ∙ both_none (settle_fault rules false (held_at rows pending)) (defaults_fault settled rules) has.fine (fine-none rules rules-fine settled) in
    let given : given_of (matches_of sheet_app words) ≡ g =
    ap (λ (w : Walk). given_of (finished rules w.held)) leads.1
    ∙ ap given_of (with-defaults settled)
    ∙ given-flagged settled g g.strict refl has.finds in
    meant words g faultless given

-- words that are taken for items say what the items give
pub taken_mean : (items : List Item) (behind : Option (List (List ℕ))) → All IsTaken items → AreNew nothing_given items → meaning (flat_map words_of items ++ words_behind behind) ≡ said_of (given_by items behind)
taken_mean items None are new =
    let r = items-lead items [] [] None idle nothing_given nothing-yet are new in
    let g : Given = fold with_item nothing_given items in
    ends (flat_map words_of items ++ []) (with_books [] g) false (rw (append-nil g.books) r)
taken_mean items (Some books) are new =
    let words = flat_map words_of items ++ codes "--" ∷ books in
    let a = items-lead items (codes "--" ∷ books) [] None idle nothing_given nothing-yet are new in
    let g : Given = fold with_item nothing_given items in
    let c = books-lead books a.0 a.1 a.2 g a.3.1 in
    let start = walk_at [] None idle false in
    let b = leads-on start (walk_at a.0 a.1 a.2 false) (walk_at a.0 a.1 a.2 true) words (codes "--" ∷ books) books a.3.0 (dashes-lead a.0 a.1 a.2 books) in
    ends words (with_books books g) true (c.0, c.1, c.2, (leads-on start (walk_at a.0 a.1 a.2 true) (walk_at c.0 c.1 c.2 true) words books [] b c.3.0, c.3.1))

pub given_mean : (words : List (List ℕ)) (g : Given) → Give words g → meaning words ≡ said_of g
given_mean words g gives = ap meaning gives.spell ∙ taken_mean gives.items gives.behind (items_taken gives.items gives.are_items) gives.are_new ∙ ap said_of (sym gives.give)
