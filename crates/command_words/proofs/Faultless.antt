-- Walks without a fault, from their first word on. Serves the laws of words.
use Rattle.std.proofs.Common.{◌≡◌, ◌∙◌, sym, ap, subst, refl, ℕ, Bool, true, false, cond, List, [], ◌∷◌, Option, Some, None}
use Rattle.std.specs.Prelude.{codes, fold}
use Rattle.clap.specs.Faults.{long_fault, option_fault, other_fault, react_fault, settle_fault, turn_fault, walk_fault, word_fault}
use Rattle.clap.specs.Kinds.{Kinds, or_else}
use Rattle.clap.specs.Lexer.{name_and_value}
use Rattle.clap.specs.Walk.{Held, Row, Rule, Waiting, Walk, arg_by_long, idle, option, positional, takes_values, walked}
use Rattle.clap.specs.declared.error.kind.ErrorKind.TheVariants as kind
use Rattle.command_words.proofs.Walks.{IsFree, Leads, Pending, held_at, rules, shape, turn-behind, turn-free, walk_at, walked-dashes}
use Rattle.command_words.proofs.WordEnds.{ended_fault}
use Rattle.command_words.proofs.WordLooks.{Look, other, dashes, named, refused, look}

pub both_empty : (a b : Kinds) → or_else a b ≡ [] → (a ≡ []) × (b ≡ [])
both_empty [] b h = (refl, h)
both_empty (k ∷ ks) b h = cc

-- no word is at fault, nor is the end
pub record Faultless (w : Walk) (words : List (List ℕ)) : Type 0 where
  pub turns : walk_fault shape [] w words ≡ []
  pub ends : ended_fault [] (fold (walked rules []) w words) ≡ []

pub first_turn : (w : Walk) (word : List ℕ) (rest : List (List ℕ)) → Faultless w (word ∷ rest) → turn_fault shape [] w word ≡ []
unfolding walk_fault
first_turn w word rest f = (both_empty (turn_fault shape [] w word) (walk_fault shape [] (walked rules [] w word) rest) f.turns).0

pub after_turn : (w v : Walk) (word : List ℕ) (rest : List (List ℕ)) → walked rules [] w word ≡ v → Faultless w (word ∷ rest) → Faultless v rest
unfolding walk_fault
after_turn w v word rest is f = subst (λ x. Faultless x rest) is (record {
  turns = (both_empty (turn_fault shape [] w word) (walk_fault shape [] (walked rules [] w word) rest) f.turns).1;
  ends = f.ends;
})

pub led_on : (w v : Walk) (words left : List (List ℕ)) → Leads w words v left → Faultless w words → Faultless v left
led_on w v words left leads f = record { turns = sym leads.0 ∙ f.turns; ends = ap (ended_fault []) (sym leads.1) ∙ f.ends }

-- what is pending at the end can be used
pub end_settles : (rows : List Row) (pending : Pending) (waiting : Waiting) (behind : Bool) → Faultless (walk_at rows pending waiting behind) [] → settle_fault rules false (held_at rows pending) ≡ []
end_settles rows pending waiting behind f = (both_empty (settle_fault rules false (held_at rows pending)) _ f.ends).0

pub settles_behind : (words : List (List ℕ)) (rows : List Row) (pending : Pending) (waiting : Waiting) → Faultless (walk_at rows pending waiting true) words → settle_fault rules false (held_at rows pending) ≡ []
settles_behind [] rows pending waiting f = end_settles rows pending waiting true f
settles_behind (word ∷ rest) rows pending waiting f = sym (turn-behind rows pending waiting word) ∙ first_turn (walk_at rows pending waiting true) word rest f

-- an option or a flag by its name
long_settles : (c : List Rule) (a : Option Rule) (value : Option (List ℕ)) (h : Held) → long_fault c false a value h ≡ [] → settle_fault c false h ≡ []
long_settles c None value h f = cc
long_settles c (Some a) None h f = by (takes_values a) f
  where
    by : (b : Bool) → cond b (option_fault c false a None h) (react_fault c false a [] h) ≡ [] → settle_fault c false h ≡ []
    by true g = g
    by false g = (both_empty (settle_fault c false h) _ g).0
long_settles c (Some a) (Some value) h f = by (takes_values a) f
  where
    by : (b : Bool) → cond b (option_fault c false a (Some value) h) (kind.TooManyValues ∷ []) ≡ [] → settle_fault c false h ≡ []
    by true g = (both_empty (settle_fault c false h) _ g).0
    by false g = cc

-- a word's own fault comes first
pub word_fine : (rows : List Row) (pending : Pending) (waiting : Waiting) (word : List ℕ) → turn_fault shape [] (walk_at rows pending waiting false) word ≡ [] → word_fault shape [] false waiting word (held_at rows pending) ≡ []
word_fine rows pending waiting word f = (both_empty (word_fault shape [] false waiting word (held_at rows pending)) _ f).0

-- where nothing is a subcommand, what waits makes no difference to it
pub other_at : (waiting : Waiting) (word : List ℕ) (h : Held) → word_fault shape [] false waiting word h ≡ other_fault shape None word h
other_at idle word h = refl
other_at (option id) word h = refl
other_at positional word h = refl

pub named_turn : (rows : List Row) (pending : Pending) (waiting : Waiting) (x : ℕ) (xs : List ℕ) → turn_fault shape [] (walk_at rows pending waiting false) (45 ∷ 45 ∷ x ∷ xs) ≡ []
    → long_fault rules false (arg_by_long rules (name_and_value (x ∷ xs)).0) (name_and_value (x ∷ xs)).1 (held_at rows pending) ≡ []
named_turn rows pending waiting x xs f = sym (other_at waiting (45 ∷ 45 ∷ x ∷ xs) (held_at rows pending)) ∙ word_fine rows pending waiting (45 ∷ 45 ∷ x ∷ xs) f

pub named_settles : (rows : List Row) (pending : Pending) (waiting : Waiting) (x : ℕ) (xs : List ℕ) → turn_fault shape [] (walk_at rows pending waiting false) (45 ∷ 45 ∷ x ∷ xs) ≡ [] → settle_fault rules false (held_at rows pending) ≡ []
named_settles rows pending waiting x xs f =
    long_settles rules (arg_by_long rules (name_and_value (x ∷ xs)).0) (name_and_value (x ∷ xs)).1 (held_at rows pending) (named_turn rows pending waiting x xs f)

-- what is pending is used later, so it can be, where no option waits for its value
pub settles_free : (words : List (List ℕ)) (rows : List Row) (pending : Pending) (waiting : Waiting) → IsFree waiting → Faultless (walk_at rows pending waiting false) words → settle_fault rules false (held_at rows pending) ≡ []
settles_free [] rows pending waiting free f = end_settles rows pending waiting false f
settles_free (word ∷ rest) rows pending waiting free f = by (look word)
  where
    by : Look word → settle_fault rules false (held_at rows pending) ≡ []
    by (other is) = sym (turn-free rows pending waiting word free is) ∙ first_turn (walk_at rows pending waiting false) word rest f
    by (dashes is) =
        let here = subst (λ w. Faultless (walk_at rows pending waiting false) (w ∷ rest)) is f in
        settles_behind rest rows pending waiting (after_turn (walk_at rows pending waiting false) (walk_at rows pending waiting true) (codes "--") rest (walked-dashes rows pending waiting) here)
    by (named x xs is) = named_settles rows pending waiting x xs (subst (λ w. turn_fault shape [] (walk_at rows pending waiting false) w ≡ []) is (first_turn (walk_at rows pending waiting false) word rest f))
    by (refused is) =
        let fine = word_fine rows pending waiting word (first_turn (walk_at rows pending waiting false) word rest f) in
        let fails = is waiting rows pending in
        cc
