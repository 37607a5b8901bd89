-- Words without a fault are items. Serves the laws of words.
use Rattle.std.proofs.Common.{◌≡◌, ◌∙◌, sym, ap, subst, refl, ℕ, ◌&&◌, Bool, true, false, cond, List, [], ◌∷◌, ◌++◌, Option, Some, None, append_assoc}
use Rattle.std.specs.Prelude.{All, codes, flat_map}
use Rattle.std.proofs.lemmas.List.{append-nil}
use Rattle.std.proofs.lemmas.List.Elements.{All-cons, All-head, All-nil, All-tail}
use Rattle.clap.specs.Faults.{long_fault, other_fault, repeat_fault, settle_fault, turn_fault}
use Rattle.clap.specs.Kinds.{Kinds}
use Rattle.clap.specs.Lexer.{name_and_value}
use Rattle.clap.specs.Walk.{Row, Waiting, Walk, arg_by_long, has_row, idle, option, settled_rows}
use Rattle.clap.specs.declared.error.kind.ErrorKind.TheVariants as kind
use Rattle.command_words.specs.Items.{AreNew, IsNew, Item, OptionName, undo_limit, script, generate, apart, joined, strict, book, name_text, value_of, with_item, with_value, words_behind, words_of}
use Rattle.command_words.specs.Words.{Given}
use Rattle.command_words.proofs.Faultless.{Faultless, after_turn, both_empty, end_settles, first_turn, led_on, named_settles, named_turn, other_at, settles_behind, settles_free, word_fine}
use Rattle.command_words.proofs.ItemMeanings.{HasItems, IsTaken, apart-leads, has-option, item-leads}
use Rattle.command_words.proofs.ItemWalks.{Finds, found_as, found_flag, found_value, walked-name, walked-value}
use Rattle.command_words.proofs.NamedWords.{Named, an_option, the_flag, unknown, behind_name, named_as, spelled}
use Rattle.command_words.proofs.RowLists.{has_some}
use Rattle.command_words.proofs.Walks.{IsOther, Pending, held_at, rules, shape, walk_at, walked-dashes}
use Rattle.command_words.proofs.WordLooks.{Look, other, dashes, named, refused, IsRefused, look}

-- ---- an option or a flag is used without a fault where it is new

repeat_new : (id : List ℕ) (rows : List Row) → repeat_fault false id rows ≡ [] → has_row id rows ≡ false
repeat_new id rows f = by (has_row id rows) f
  where
    by : (b : Bool) → cond {A = Kinds} (b && true) (kind.ArgumentConflict ∷ []) [] ≡ [] → b ≡ false
    by true g = cc
    by false g = refl

-- an option with the value that waits for its use
pending_new : (name : OptionName) (text : List ℕ) (rows : List Row) → settle_fault rules false (held_at rows (Some (name_text name, text ∷ []))) ≡ [] → has_row (name_text name) rows ≡ false
pending_new undo_limit text rows f = repeat_new (name_text undo_limit) rows (both_empty (repeat_fault false (name_text undo_limit) rows) [] f).0
pending_new script text rows f = repeat_new (name_text script) rows (both_empty (repeat_fault false (name_text script) rows) [] f).0
pending_new generate text rows f = repeat_new (name_text generate) rows (both_empty (repeat_fault false (name_text generate) rows) [] f).0

-- an option with its value behind `=`
joined_new : (name : OptionName) (text : List ℕ) (rows : List Row) (pending : Pending) → other_fault shape None (codes "--" ++ name_text name ++ codes "=" ++ text) (held_at rows pending) ≡ [] → has_row (name_text name) (settled_rows rules pending rows) ≡ false
joined_new undo_limit text rows pending f =
    let settled = settled_rows rules pending rows in
    repeat_new (name_text undo_limit) settled (both_empty (repeat_fault false (name_text undo_limit) settled) [] (both_empty (settle_fault rules false (held_at rows pending)) _ f).1).0
joined_new script text rows pending f =
    let settled = settled_rows rules pending rows in
    repeat_new (name_text script) settled (both_empty (repeat_fault false (name_text script) settled) [] (both_empty (settle_fault rules false (held_at rows pending)) _ f).1).0
joined_new generate text rows pending f =
    let settled = settled_rows rules pending rows in
    repeat_new (name_text generate) settled (both_empty (repeat_fault false (name_text generate) settled) [] (both_empty (settle_fault rules false (held_at rows pending)) _ f).1).0

strict_new : (rows : List Row) (pending : Pending) → other_fault shape None (codes "--strict") (held_at rows pending) ≡ [] → has_row (codes "strict") (settled_rows rules pending rows) ≡ false
strict_new rows pending f =
    let settled = settled_rows rules pending rows in
    repeat_new (codes "strict") settled (both_empty (repeat_fault false (codes "strict") settled) [] (both_empty (settle_fault rules false (held_at rows pending)) _ f).1).0

-- what has no row isn't given
not_given : (name : OptionName) (rows : List Row) (g : Given) → Finds rows g → has_row (name_text name) rows ≡ false → value_of name g ≡ None
not_given name rows g finds none = by (value_of name g) refl
  where
    by : (o : Option (List ℕ)) → value_of name g ≡ o → value_of name g ≡ None
    by None is = is
    by (Some text) is = let some = has_some (name_text name) rows (text ∷ []) (found_as name rows g finds ∙ ap found_value is) in cc

not_set : (rows : List Row) (g : Given) → Finds rows g → has_row (codes "strict") rows ≡ false → g.strict ≡ false
not_set rows g finds none = by g.strict refl
  where
    by : (b : Bool) → g.strict ≡ b → g.strict ≡ false
    by false is = is
    by true is = let some = has_some (codes "strict") rows (codes "true" ∷ []) (finds.flag ∙ ap found_flag is) in cc

-- the fault of a first word by itself
own_fault : (rows : List Row) (pending : Pending) (waiting : Waiting) (word : List ℕ) (rest : List (List ℕ)) → Faultless (walk_at rows pending waiting false) (word ∷ rest) → other_fault shape None word (held_at rows pending) ≡ []
own_fault rows pending waiting word rest f = sym (other_at waiting word (held_at rows pending)) ∙ word_fine rows pending waiting word (first_turn (walk_at rows pending waiting false) word rest f)

-- an item in front of words without a fault is new
item_new : (item : Item) (rest : List (List ℕ)) (rows : List Row) (pending : Pending) (waiting : Waiting) (g : Given) → HasItems rows pending waiting g → IsTaken item → Faultless (walk_at rows pending waiting false) (words_of item ++ rest) → IsNew g item
item_new (apart name text) rest rows pending waiting g has is f =
    let settled = settled_rows rules pending rows in
    let left = led_on (walk_at rows pending waiting false) (walk_at settled (Some (name_text name, text ∷ [])) idle false) (words_of (apart name text) ++ rest) rest (apart-leads name text rest rows pending waiting has.free has.fine is) f in
    not_given name settled g has.finds (pending_new name text settled (settles_free rest settled (Some (name_text name, text ∷ [])) idle tt left))
item_new (joined name text) rest rows pending waiting g has is f =
    not_given name (settled_rows rules pending rows) g has.finds (joined_new name text rows pending (own_fault rows pending waiting (codes "--" ++ name_text name ++ codes "=" ++ text) rest f))
item_new strict rest rows pending waiting g has is f =
    not_set (settled_rows rules pending rows) g has.finds (strict_new rows pending (own_fault rows pending waiting (codes "--strict") rest f))
item_new (book word) rest rows pending waiting g has is f = tt

-- so each is in its turn
pub items_new : (items : List Item) (rest : List (List ℕ)) (rows : List Row) (pending : Pending) (waiting : Waiting) (g : Given) → HasItems rows pending waiting g → All IsTaken items → Faultless (walk_at rows pending waiting false) (flat_map words_of items ++ rest) → AreNew g items
items_new [] rest rows pending waiting g has are f = tt
items_new (item ∷ items) rest rows pending waiting g has are f =
    let left = flat_map words_of items ++ rest in
    let here = subst (λ ws. Faultless (walk_at rows pending waiting false) ws) (append_assoc (words_of item) (flat_map words_of items) rest) f in
    let is = All-head IsTaken item items are in
    let new = item_new item left rows pending waiting g has is here in
    let on = item-leads item left rows pending waiting g has is new in
    (new, items_new items rest on.0 on.1 on.2 (with_item g item) on.3.1 (All-tail IsTaken item items are) (led_on (walk_at rows pending waiting false) (walk_at on.0 on.1 on.2 false) (words_of item ++ left) left on.3.0 here))

-- ---- words, one after the other

-- the words are items that are new
pub record Reads (g : Given) (words : List (List ℕ)) : Type 0 where
  pub items : List Item
  pub behind : Option (List (List ℕ))
  pub are : All IsTaken items
  pub new : AreNew g items
  pub spell : words ≡ flat_map words_of items ++ words_behind behind

-- the first of the words is an option's value
record ReadsValue (name : OptionName) (g : Given) (words : List (List ℕ)) : Type 0 where
  text : List ℕ
  left : List (List ℕ)
  spell : words ≡ text ∷ left
  is : IsOther text
  new : value_of name g ≡ None
  reads : Reads (with_value name text g) left

abbrev ReadsOn : List (List ℕ) → Type 0
ReadsOn words = (rows : List Row) (pending : Pending) (waiting : Waiting) (g : Given) → HasItems rows pending waiting g → Faultless (walk_at rows pending waiting false) words → Reads g words

abbrev asked : OptionName → List Row → Bool → Walk
asked name rows behind = walk_at rows (Some (name_text name, [])) (option (name_text name)) behind

abbrev ReadsNext : List (List ℕ) → Type 0
ReadsNext words = (name : OptionName) (rows : List Row) (g : Given) → Finds rows g → Faultless (asked name rows false) words → ReadsValue name g words

-- an option without a value is at fault
no_value : (name : OptionName) (rows : List Row) → settle_fault rules false (held_at rows (Some (name_text name, []))) ≡ [] → ⊥
no_value undo_limit rows f = cc
no_value script rows f = cc
no_value generate rows f = cc

refusal : (word : List ℕ) (rows : List Row) (pending : Pending) (waiting : Waiting) (rest : List (List ℕ)) → IsRefused word → Faultless (walk_at rows pending waiting false) (word ∷ rest) → ⊥
refusal word rows pending waiting rest is f =
    let fine = word_fine rows pending waiting word (first_turn (walk_at rows pending waiting false) word rest f) in
    let fails = is waiting rows pending in
    cc

value_read : (word : List ℕ) (rest : List (List ℕ)) → ReadsOn rest → ReadsNext (word ∷ rest)
value_read word rest reads name rows g finds f = by (look word)
  where
    by : Look word → ReadsValue name g (word ∷ rest)
    by (other is) =
        let left = after_turn (asked name rows false) (walk_at rows (Some (name_text name, word ∷ [])) idle false) word rest (walked-value name rows word is) f in
        let new = not_given name rows g finds (pending_new name word rows (settles_free rest rows (Some (name_text name, word ∷ [])) idle tt left)) in
        record { text = word; left = rest; spell = refl; is = is; new = new; reads = reads rows (Some (name_text name, word ∷ [])) idle (with_value name word g) (has-option name word rows g finds new) left }
    by (dashes is) =
        let here = subst (λ w. Faultless (asked name rows false) (w ∷ rest)) is f in
        let left = after_turn (asked name rows false) (asked name rows true) (codes "--") rest (walked-dashes rows (Some (name_text name, [])) (option (name_text name))) here in
        absurd (no_value name rows (settles_behind rest rows (Some (name_text name, [])) (option (name_text name)) left))
    by (named x xs is) =
        let here = subst (λ w. turn_fault shape [] (asked name rows false) w ≡ []) is (first_turn (asked name rows false) word rest f) in
        absurd (no_value name rows (named_settles rows (Some (name_text name, [])) (option (name_text name)) x xs here))
    by (refused is) = absurd (refusal word rows (Some (name_text name, [])) (option (name_text name)) rest is f)

spell_more : (item : Item) (items : List Item) (behind : Option (List (List ℕ))) (rest : List (List ℕ)) → rest ≡ flat_map words_of items ++ words_behind behind → words_of item ++ rest ≡ flat_map words_of (item ∷ items) ++ words_behind behind
spell_more item items behind rest spell = ap (λ ws. words_of item ++ ws) spell ∙ sym (append_assoc (words_of item) (flat_map words_of items) (words_behind behind))

item_read : (item : Item) (rest : List (List ℕ)) (rows : List Row) (pending : Pending) (waiting : Waiting) (g : Given) → ReadsOn rest → HasItems rows pending waiting g → IsTaken item → Faultless (walk_at rows pending waiting false) (words_of item ++ rest) → Reads g (words_of item ++ rest)
item_read item rest rows pending waiting g reads has is f =
    let new = item_new item rest rows pending waiting g has is f in
    let on = item-leads item rest rows pending waiting g has is new in
    let left = led_on (walk_at rows pending waiting false) (walk_at on.0 on.1 on.2 false) (words_of item ++ rest) rest on.3.0 f in
    let more = reads on.0 on.1 on.2 (with_item g item) on.3.1 left in
    record {
      items = item ∷ more.items;
      behind = more.behind;
      are = All-cons IsTaken item more.items is more.are;
      new = (new, more.new);
      spell = spell_more item more.items more.behind rest more.spell;
    }

-- an option whose value is the next word
option_read : (name : OptionName) (rest : List (List ℕ)) (rows : List Row) (pending : Pending) (waiting : Waiting) (g : Given) → ReadsNext rest → HasItems rows pending waiting g → Faultless (walk_at rows pending waiting false) ((codes "--" ++ name_text name) ∷ rest) → Reads g ((codes "--" ++ name_text name) ∷ rest)
option_read name rest rows pending waiting g next has f =
    let settled = settled_rows rules pending rows in
    let left = after_turn (walk_at rows pending waiting false) (asked name settled false) (codes "--" ++ name_text name) rest (walked-name name rows pending waiting has.free) f in
    let met = next name settled g has.finds left in
    record {
      items = apart name met.text ∷ met.reads.items;
      behind = met.reads.behind;
      are = All-cons IsTaken (apart name met.text) met.reads.items met.is met.reads.are;
      new = (met.new, met.reads.new);
      spell = ap (λ ws. (codes "--" ++ name_text name) ∷ ws) (met.spell ∙ ap (λ ws. met.text ∷ ws) met.reads.spell);
    }

abbrev dashed : ℕ → List ℕ → List ℕ
dashed x xs = 45 ∷ 45 ∷ x ∷ xs

-- how a word with a name and a value is spelled
spelled_as : (x : ℕ) (xs name : List ℕ) (value : Option (List ℕ)) → (name_and_value (x ∷ xs)).0 ≡ name → (name_and_value (x ∷ xs)).1 ≡ value → dashed x xs ≡ codes "--" ++ name ++ behind_name value
spelled_as x xs name value is_name is_value =
    ap (λ t. 45 ∷ 45 ∷ t) (spelled (x ∷ xs) ∙ ap (λ o. (name_and_value (x ∷ xs)).0 ++ behind_name o) is_value ∙ ap (λ n. n ++ behind_name value) is_name)

joined_as : (name : OptionName) (text : List ℕ) → codes "--" ++ name_text name ++ behind_name (Some text) ≡ codes "--" ++ name_text name ++ codes "=" ++ text
joined_as undo_limit text = refl
joined_as script text = refl
joined_as generate text = refl

named_read : (x : ℕ) (xs : List ℕ) (value : Option (List ℕ)) (rest : List (List ℕ)) (rows : List Row) (pending : Pending) (waiting : Waiting) (g : Given) → ReadsOn rest → ReadsNext rest → HasItems rows pending waiting g
    → Faultless (walk_at rows pending waiting false) (dashed x xs ∷ rest) → Named (name_and_value (x ∷ xs)).0 → (name_and_value (x ∷ xs)).1 ≡ value → Reads g (dashed x xs ∷ rest)
named_read x xs (Some text) rest rows pending waiting g reads next has f (an_option name is) valued =
    let spell = spelled_as x xs (name_text name) (Some text) is valued ∙ joined_as name text in
    let here = subst (λ w. Faultless (walk_at rows pending waiting false) (w ∷ rest)) spell f in
    subst (λ w. Reads g (w ∷ rest)) (sym spell) (item_read (joined name text) rest rows pending waiting g reads has tt here)
named_read x xs None rest rows pending waiting g reads next has f (an_option name is) valued =
    let spell = spelled_as x xs (name_text name) None is valued ∙ ap (λ n. codes "--" ++ n) (append-nil (name_text name)) in
    let here = subst (λ w. Faultless (walk_at rows pending waiting false) (w ∷ rest)) spell f in
    subst (λ w. Reads g (w ∷ rest)) (sym spell) (option_read name rest rows pending waiting g next has here)
named_read x xs (Some text) rest rows pending waiting g reads next has f (the_flag is) valued =
    let turn = named_turn rows pending waiting x xs (first_turn (walk_at rows pending waiting false) (dashed x xs) rest f) in
    let fault : long_fault rules false (arg_by_long rules (codes "strict")) (Some text) (held_at rows pending) ≡ [] =
    ap (λ v. long_fault rules false (arg_by_long rules (codes "strict")) v (held_at rows pending)) (sym valued)
    ∙ ap (λ n. long_fault rules false (arg_by_long rules n) (name_and_value (x ∷ xs)).1 (held_at rows pending)) (sym is)
    ∙ turn in
    cc
named_read x xs None rest rows pending waiting g reads next has f (the_flag is) valued =
    let spell : dashed x xs ≡ codes "--strict" = spelled_as x xs (codes "strict") None is valued in
    let here = subst (λ w. Faultless (walk_at rows pending waiting false) (w ∷ rest)) spell f in
    subst (λ w. Reads g (w ∷ rest)) (sym spell) (item_read strict rest rows pending waiting g reads has tt here)
named_read x xs value rest rows pending waiting g reads next has f (unknown none) valued =
    let turn = named_turn rows pending waiting x xs (first_turn (walk_at rows pending waiting false) (dashed x xs) rest f) in
    let fault : long_fault rules false None (name_and_value (x ∷ xs)).1 (held_at rows pending) ≡ [] =
    ap (λ a. long_fault rules false a (name_and_value (x ∷ xs)).1 (held_at rows pending)) (sym none) ∙ turn in
    cc

word_read : (word : List ℕ) (rest : List (List ℕ)) → ReadsOn rest → ReadsNext rest → ReadsOn (word ∷ rest)
word_read word rest reads next rows pending waiting g has f = by (look word)
  where
    by : Look word → Reads g (word ∷ rest)
    by (other is) = item_read (book word) rest rows pending waiting g reads has is f
    by (dashes is) = record { items = []; behind = Some rest; are = All-nil IsTaken; new = tt; spell = ap (λ w. w ∷ rest) is }
    by (named x xs is) =
        let here = subst (λ w. Faultless (walk_at rows pending waiting false) (w ∷ rest)) is f in
        subst (λ w. Reads g (w ∷ rest)) (sym is) (named_read x xs (name_and_value (x ∷ xs)).1 rest rows pending waiting g reads next has here (named_as (name_and_value (x ∷ xs)).0) refl)
    by (refused is) = absurd (refusal word rows pending waiting rest is f)

words_read : (words : List (List ℕ)) → ReadsOn words × ReadsNext words
words_read [] = (
  (λ rows pending waiting g has f. record { items = []; behind = None; are = All-nil IsTaken; new = tt; spell = refl }),
  (λ name rows g finds f. absurd (no_value name rows (end_settles rows (Some (name_text name, [])) (option (name_text name)) false f))),
)
words_read (word ∷ rest) = let more = words_read rest in (word_read word rest more.0 more.1, value_read word rest more.0)

pub reads : (words : List (List ℕ)) (rows : List Row) (pending : Pending) (waiting : Waiting) (g : Given) → HasItems rows pending waiting g → Faultless (walk_at rows pending waiting false) words → Reads g words
reads words rows pending waiting g has f = (words_read words).0 rows pending waiting g has f
