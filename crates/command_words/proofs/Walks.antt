-- One word of a walk over words. Serves the laws of words.
use Rattle.std.proofs.Common.{◌≡◌, ◌∙◌, ap, refl, ℕ, ◌&&◌, Bool, true, false, cond, List, [], ◌∷◌, Option, Some, None}
use Rattle.std.specs.Prelude.{⊤, codes, fold}
use Rattle.std.specs.Str.{bytes_eq}
use Rattle.clap.specs.Words.{Row, Rule, Shape, built}
use Rattle.clap.specs.Walk.{Held, Walk, Waiting, idle, positional, option, plain_word, pushed, settled, settled_rows, walked, word_met}
use Rattle.clap.specs.Faults.{settle_fault, turn_fault, walk_fault, word_fault}
use Rattle.clap.specs.Kinds.{or_else}
use Rattle.command_words.specs.Words.{begins_with_dash, sheet_app}

-- the command's arguments
abbrev pub shape : Shape
shape = (built sheet_app).top

abbrev pub rules : List Rule
rules = shape.rules

-- an argument, and the values that it has so far
abbrev pub Pending : Type 0
Pending = Option (List ℕ × List (List ℕ))

-- what is held between two words
abbrev pub held_at : List Row → Pending → Held
held_at rows pending = record { rows = rows; pending = pending; skip = 0 }

-- a walk between two words
abbrev pub walk_at : List Row → Pending → Waiting → Bool → Walk
walk_at rows pending waiting behind = record { held = held_at rows pending; waiting = waiting; position = 1; is_trailing = behind; stopped = None }

-- no option waits for its value
abbrev pub IsFree : Waiting → Type 0
IsFree idle = ⊤
IsFree (option id) = ⊥
IsFree positional = ⊤

-- a word that is no option, no flag and no `--`: what waits for a word takes it
pub record IsOther (word : List ℕ) : Type 0 where
  pub fine : (waiting : Waiting) (rows : List Row) (pending : Pending) → word_fault shape [] false waiting word (held_at rows pending) ≡ []
  pub goes : (waiting : Waiting) (rows : List Row) (pending : Pending) → word_met rules [] false waiting 1 word (held_at rows pending) ≡ plain_word rules waiting word (held_at rows pending)

plain-fine : (word : List ℕ) → begins_with_dash word ≡ false → (waiting : Waiting) (rows : List Row) (pending : Pending) → word_fault shape [] false waiting word (held_at rows pending) ≡ []
plain-fine [] plain idle rows pending = refl
plain-fine [] plain (option id) rows pending = refl
plain-fine [] plain positional rows pending = refl
plain-fine (c ∷ cs) plain idle rows pending = rw (plain, plain) refl
plain-fine (c ∷ cs) plain (option id) rows pending = rw (plain, plain) refl
plain-fine (c ∷ cs) plain positional rows pending = rw (plain, plain) refl

plain-goes : (word : List ℕ) → begins_with_dash word ≡ false → (waiting : Waiting) (rows : List Row) (pending : Pending) → word_met rules [] false waiting 1 word (held_at rows pending) ≡ plain_word rules waiting word (held_at rows pending)
plain-goes [] plain idle rows pending = refl
plain-goes [] plain (option id) rows pending = refl
plain-goes [] plain positional rows pending = refl
plain-goes (c ∷ cs) plain idle rows pending = rw (plain, plain) refl
plain-goes (c ∷ cs) plain (option id) rows pending = rw (plain, plain) refl
plain-goes (c ∷ cs) plain positional rows pending = rw (plain, plain) refl

pub plain_other : (word : List ℕ) → begins_with_dash word ≡ false → IsOther word
plain_other word plain = record { fine = plain-fine word plain; goes = plain-goes word plain }

second : {X : Type 0} (b : Bool) (x y : X) → cond (b && false) x y ≡ y
second true x y = refl
second false x y = refl

abbrev with_book : List ℕ → Bool → Held → Walk
with_book word behind held = record { held = pushed (codes "book") word held; waiting = positional; position = 1; is_trailing = behind; stopped = None }

-- behind `--`, each word is a book
pub walked-behind : (rows : List Row) (pending : Pending) (waiting : Waiting) (word : List ℕ)
    → walked rules [] (walk_at rows pending waiting true) word ≡ walk_at (settled_rows rules pending rows) (Some (codes "book", word ∷ [])) positional true
unfolding walked
walked-behind rows None waiting word = refl
walked-behind rows (Some p) waiting word = ap (with_book word true) (second (bytes_eq p.0 (codes "book")) (held_at rows (Some p)) (settled rules (held_at rows (Some p))))

pub turn-behind : (rows : List Row) (pending : Pending) (waiting : Waiting) (word : List ℕ) → turn_fault shape [] (walk_at rows pending waiting true) word ≡ settle_fault rules false (held_at rows pending)
turn-behind rows None waiting word = refl
turn-behind rows (Some p) waiting word = second (bytes_eq p.0 (codes "book")) [] (settle_fault rules false (held_at rows (Some p)))

-- before it, each other word that no option waits for
pub walked-free : (rows : List Row) (pending : Pending) (waiting : Waiting) (word : List ℕ) → IsFree waiting → IsOther word
    → walked rules [] (walk_at rows pending waiting false) word ≡ walk_at (settled_rows rules pending rows) (Some (codes "book", word ∷ [])) positional false
unfolding walked
walked-free rows pending (option id) word free other = absurd free
walked-free rows None idle word free other = rw (other.goes idle rows None) refl
walked-free rows (Some p) idle word free other =
    rw (other.goes idle rows (Some p)) (ap (with_book word false) (second (bytes_eq p.0 (codes "book")) (held_at rows (Some p)) (settled rules (held_at rows (Some p)))))
walked-free rows None positional word free other = rw (other.goes positional rows None) refl
walked-free rows (Some p) positional word free other =
    rw (other.goes positional rows (Some p)) (ap (with_book word false) (second (bytes_eq p.0 (codes "book")) (held_at rows (Some p)) (settled rules (held_at rows (Some p)))))

pub turn-free : (rows : List Row) (pending : Pending) (waiting : Waiting) (word : List ℕ) → IsFree waiting → IsOther word
    → turn_fault shape [] (walk_at rows pending waiting false) word ≡ settle_fault rules false (held_at rows pending)
turn-free rows pending (option id) word free other = absurd free
turn-free rows None idle word free other = rw (other.goes idle rows None, other.fine idle rows None) refl
turn-free rows (Some p) idle word free other =
    rw (other.goes idle rows (Some p), other.fine idle rows (Some p)) (second (bytes_eq p.0 (codes "book")) [] (settle_fault rules false (held_at rows (Some p))))
turn-free rows None positional word free other = rw (other.goes positional rows None, other.fine positional rows None) refl
turn-free rows (Some p) positional word free other =
    rw (other.goes positional rows (Some p), other.fine positional rows (Some p)) (second (bytes_eq p.0 (codes "book")) [] (settle_fault rules false (held_at rows (Some p))))

-- the word `--`
turn-dashes : (rows : List Row) (pending : Pending) (waiting : Waiting) → turn_fault shape [] (walk_at rows pending waiting false) (codes "--") ≡ []
turn-dashes rows pending idle = refl
turn-dashes rows pending (option id) = refl
turn-dashes rows pending positional = refl

pub walked-dashes : (rows : List Row) (pending : Pending) (waiting : Waiting) → walked rules [] (walk_at rows pending waiting false) (codes "--") ≡ walk_at rows pending waiting true
unfolding walked
walked-dashes rows pending idle = refl
walked-dashes rows pending (option id) = refl
walked-dashes rows pending positional = refl

-- a walk that has no fault, from one place to another
abbrev pub Leads : Walk → List (List ℕ) → Walk → List (List ℕ) → Type 0
Leads w words v rest = (walk_fault shape [] w words ≡ walk_fault shape [] v rest) × (fold (walked rules []) w words ≡ fold (walked rules []) v rest)

pub leads-one : (w v : Walk) (word : List ℕ) (rest : List (List ℕ)) → turn_fault shape [] w word ≡ [] → walked rules [] w word ≡ v → Leads w (word ∷ rest) v rest
unfolding walk_fault
leads-one w v word rest fine is = (
  ap (λ k. or_else k (walk_fault shape [] (walked rules [] w word) rest)) fine ∙ ap (λ x. walk_fault shape [] x rest) is,
  ap (λ x. fold (walked rules []) x rest) is,
)

pub leads-on : (w v x : Walk) (words rest left : List (List ℕ)) → Leads w words v rest → Leads v rest x left → Leads w words x left
leads-on w v x words rest left a b = (a.0 ∙ b.0, a.1 ∙ b.1)

pub dashes-lead : (rows : List Row) (pending : Pending) (waiting : Waiting) (rest : List (List ℕ)) → Leads (walk_at rows pending waiting false) (codes "--" ∷ rest) (walk_at rows pending waiting true) rest
dashes-lead rows pending waiting rest = leads-one (walk_at rows pending waiting false) (walk_at rows pending waiting true) (codes "--") rest (turn-dashes rows pending waiting) (walked-dashes rows pending waiting)
