-- The words of the command line by items: options with their values, the flag, and books. Source: this project's own.
use Rattle.std.specs.Prelude.{◌≡◌, false, ℕ, List, [], ◌∷◌, ◌++◌, None, Some, Option, All, codes, flat_map, fold, true, unwrap_or, ⊤}
use Rattle.command_words.specs.Words.{Given, Said, begins_with_dash, meaning, said_of}

pub data OptionName : Type 0 where
  undo_limit : OptionName
  script : OptionName
  generate : OptionName

-- an option and its value in a word of its own, or behind `=`; the flag; a book
pub data Item : Type 0 where
  apart : OptionName → List ℕ → Item
  joined : OptionName → List ℕ → Item
  strict : Item
  book : List ℕ → Item

abbrev pub name_text : OptionName → List ℕ
name_text undo_limit = codes "undo-limit"
name_text script = codes "script"
name_text generate = codes "generate"

abbrev pub words_of : Item → List (List ℕ)
words_of (apart name value) = (codes "--" ++ name_text name) ∷ value ∷ []
words_of (joined name value) = (codes "--" ++ name_text name ++ codes "=" ++ value) ∷ []
words_of strict = codes "--strict" ∷ []
words_of (book word) = word ∷ []

-- a value in a word of its own and a book begin with no dash
abbrev pub IsItem : Item → Type 0
IsItem (apart name value) = begins_with_dash value ≡ false
IsItem (joined name value) = ⊤
IsItem strict = ⊤
IsItem (book word) = begins_with_dash word ≡ false

abbrev pub nothing_given : Given
nothing_given = record { undo_limit = None; strict = false; script = None; generate = None; books = [] }

abbrev pub value_of : OptionName → Given → Option (List ℕ)
value_of undo_limit g = g.undo_limit
value_of script g = g.script
value_of generate g = g.generate

abbrev pub with_value : OptionName → List ℕ → Given → Given
with_value undo_limit value g = record g { undo_limit = Some value }
with_value script value g = record g { script = Some value }
with_value generate value g = record g { generate = Some value }

abbrev pub with_books : List (List ℕ) → Given → Given
with_books books g = record g { books = g.books ++ books }

-- what is given after one more item
abbrev pub with_item : Given → Item → Given
with_item g (apart name value) = with_value name value g
with_item g (joined name value) = with_value name value g
with_item g strict = record g { strict = true }
with_item g (book word) = with_books (word ∷ []) g

-- the item's option or flag isn't given yet
abbrev pub IsNew : Given → Item → Type 0
IsNew g (apart name value) = value_of name g ≡ None
IsNew g (joined name value) = value_of name g ≡ None
IsNew g strict = g.strict ≡ false
IsNew g (book word) = ⊤

-- each option and the flag stand once at most
abbrev pub AreNew : Given → List Item → Type 0
AreNew g [] = ⊤
AreNew g (item ∷ items) = IsNew g item × AreNew (with_item g item) items

-- the words behind items: none, or `--` and books
abbrev pub words_behind : Option (List (List ℕ)) → List (List ℕ)
words_behind None = []
words_behind (Some books) = codes "--" ∷ books

-- what items give, and the books behind them
abbrev pub given_by : List Item → Option (List (List ℕ)) → Given
given_by items behind = with_books (unwrap_or behind []) (fold with_item nothing_given items)

-- the words are items, of which no option and no flag stands twice, with `--` and books behind them or without
pub record Give (words : List (List ℕ)) (g : Given) : Type 0 where
  pub items : List Item
  pub behind : Option (List (List ℕ))
  pub are_items : All IsItem items
  pub are_new : AreNew nothing_given items
  pub spell : words ≡ flat_map words_of items ++ words_behind behind
  pub give : g ≡ given_by items behind

-- words that give something say it, where it is accepted
abbrev pub ItemsAreRead : Type 0
ItemsAreRead = (words : List (List ℕ)) (g : Given) → Give words g → meaning words ≡ said_of g

-- all words that mean something are such items
abbrev pub MeaningsAreItems : Type 0
MeaningsAreItems = (words : List (List ℕ)) (s : Said) → meaning words ≡ Some s → (g : Given) × Give words g × (said_of g ≡ Some s)

-- items of which one gives an option or the flag a second time mean nothing, whatever stands behind them
abbrev pub OptionsStandOnce : Type 0
OptionsStandOnce = (items : List Item) (behind : Option (List (List ℕ))) → All IsItem items → (AreNew nothing_given items → ⊥) → meaning (flat_map words_of items ++ words_behind behind) ≡ None
