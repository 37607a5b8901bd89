-- What a store stands for: a line, which of its formulas are live, and the standing of each at each position of the
-- line. Source: this project's own.
use Rattle.std.specs.Prelude.{◌≡◌, ◌≢◌, ◌⊎◌, ℕ, ◌+◌, ◌-◌, ◌<◌, ◌≤◌, max, min, nat_le, if◌then◌else◌, Bool, true, Option, Some, None, option_map, option_and_then, unwrap_or}
use Rattle.std.specs.HashMap as hash
use Rattle.std.specs.List.{sum_by}
use Rattle.formula_tree.specs.Term.{Term}
use Rattle.formula_tree.specs.declared.reference.Home.{Home}
use Rattle.formula_tree.specs.declared.reference.Ref.{Ref}
use Rattle.shift_core.specs.declared.shift.Shift.{Shift}
use Rattle.lazy_store.specs.Holders.{kept_under}
use Rattle.lazy_store.specs.Kept.{Kept, Lags, at}
use Rattle.lazy_store.specs.Standing.{Standing, after}
use Rattle.lazy_store.specs.declared.lazy.Lazy.{Lazy}

-- what the store keeps under the id
abbrev pub kept_in : Lazy → ℕ → Option Kept
kept_in store = kept_under store.holders

-- the standing of a formula at a position of the line
abbrev pub at_in : Lazy → ℕ → ℕ → Option Standing
at_in store id k = option_and_then (λ h. at store.line h k) (kept_in store id)

-- whether a formula is live, where the store has one under the id
abbrev pub live_in : Lazy → ℕ → Option Bool
live_in store id = option_map (λ h. h.live) (kept_in store id)

-- how many formulas and operations are sure to be added without memory
abbrev pub spare_in : Lazy → ℕ
spare_in store = min store.line.spare (hash.spare store.holders)

-- each formula but one is kept as it was
abbrev pub KeepsOthers : ℕ → Lazy → Lazy → Type 0
KeepsOthers id old new = (other : ℕ) → other ≢ id → kept_in new other ≡ kept_in old other

-- each formula is kept as it was
abbrev pub KeepsAll : Lazy → Lazy → Type 0
KeepsAll old new = (id : ℕ) → kept_in new id ≡ kept_in old id

-- the same formulas are live, and each has the standings that it had, at every position
pub record StandsAsBefore (old new : Lazy) : Type 0 where
  pub live : (id : ℕ) → live_in new id ≡ live_in old id
  pub at : (id k : ℕ) → at_in new id k ≡ at_in old id k

-- no formula is kept as of a position beyond this one
abbrev pub AreBehind : ℕ → Lazy → Type 0
AreBehind k store = (id : ℕ) (h : Kept) → kept_in store id ≡ Some h → h.position ≤ k

-- each formula that is kept as of a position beyond this one is live and has a standing here
abbrev pub CanComeBack : ℕ → Lazy → Type 0
CanComeBack k store = (id : ℕ) (h : Kept) → kept_in store id ≡ Some h → k < h.position → (h.live ≡ true) × (at store.line h k ≢ None)

-- each formula that is kept as of a position before this one has a standing here
abbrev pub CanGoOn : ℕ → Lazy → Type 0
CanGoOn k store = (id : ℕ) (h : Kept) → kept_in store id ≡ Some h → h.position < k → at store.line h k ≢ None

-- after one more operation at the cursor, in place of those beyond it, the same formulas are live; each has the standings
-- that it had up to the cursor, the one behind the operation by that, and none further on
pub record StandsOneOn (s : Shift) (old new : Lazy) : Type 0 where
  pub live : (id : ℕ) → live_in new id ≡ live_in old id
  pub before : (id k : ℕ) → k ≤ old.line.cursor → at_in new id k ≡ at_in old id k
  pub next : (id : ℕ) → at_in new id (old.line.cursor + 1) ≡ option_and_then (after s) (at_in old id old.line.cursor)
  pub beyond : (id k : ℕ) → old.line.cursor + 1 < k → at_in new id k ≡ None

-- the formulas that are kept as of a position up to this one are kept as they were
abbrev pub KeepsBehind : ℕ → Lazy → Lazy → Type 0
KeepsBehind k old new = (id : ℕ) (h : Kept) → kept_in old id ≡ Some h → h.position ≤ k → kept_in new id ≡ Some h

-- the same formulas are live, and each has the standings that it had from the position on
pub record StandsFrom (k : ℕ) (old new : Lazy) : Type 0 where
  pub live : (id : ℕ) → live_in new id ≡ live_in old id
  pub at : (id j : ℕ) → k ≤ j → at_in new id j ≡ at_in old id j

-- as of which position a formula is kept
abbrev pub position_in : Lazy → ℕ → Option ℕ
position_in store id = option_map (λ h. h.position) (kept_in store id)

-- each formula that is kept as of a position beyond this one comes back to it, and no other one moves
abbrev pub ComeBackTo : ℕ → Lazy → Lazy → Type 0
ComeBackTo k old new = (id : ℕ) → position_in new id ≡ option_map (min k) (position_in old id)

-- the position as of which a formula is kept once those born up to this one are back at it
abbrev pub back_at : ℕ → Kept → ℕ
back_at k h = if nat_le h.birth k then min k h.position else h.position

-- each formula that was born up to this position and is kept as of one beyond it comes back to it, and no other one moves
abbrev pub ReturnTo : ℕ → Lazy → Lazy → Type 0
ReturnTo k old new = (id : ℕ) → position_in new id ≡ option_map (back_at k) (kept_in old id)

-- each formula that is kept as of a position beyond this one was born beyond it
abbrev pub AreReturned : ℕ → Lazy → Type 0
AreReturned k store = (id : ℕ) (h : Kept) → kept_in store id ≡ Some h → k < h.position → k < h.birth

-- the formulas that were born beyond the position are kept as they were
abbrev pub KeepsBornBeyond : ℕ → Lazy → Lazy → Type 0
KeepsBornBeyond k old new = (id : ℕ) (h : Kept) → kept_in old id ≡ Some h → k < h.birth → kept_in new id ≡ Some h

-- what is kept of a formula that was born up to the position; nothing of another one
abbrev pub if_born_by : ℕ → Kept → Option Kept
if_born_by k h = if nat_le h.birth k then Some h else None

-- each formula has the standings that it had up to the position
abbrev pub StandsUpTo : ℕ → Lazy → Lazy → Type 0
StandsUpTo k old new = (id j : ℕ) → j ≤ k → at_in new id j ≡ at_in old id j

-- each formula that is kept as of a position before this one goes on to it, and no other one moves
abbrev pub GoOnTo : ℕ → Lazy → Lazy → Type 0
GoOnTo k old new = (id : ℕ) → position_in new id ≡ option_map (max k) (position_in old id)

-- as of which position a formula is kept, and its home and tree as of that
abbrev pub stored_in : Lazy → ℕ → Option (ℕ × (Home × Term Ref))
stored_in store id = option_map (λ h. (h.position, (h.home, h.tree))) (kept_in store id)

-- the formulas that are kept as of the position or a later one stay so
abbrev pub KeepsFrom : ℕ → Lazy → Lazy → Type 0
KeepsFrom k old new = (id : ℕ) (h : Kept) → kept_in old id ≡ Some h → k ≤ h.position → stored_in new id ≡ stored_in old id

-- only formulas that lag behind the position may be kept otherwise than before
abbrev pub MovesLagging : ℕ → Lazy → Lazy → Type 0
MovesLagging k old new = (id : ℕ) (h : Kept) → kept_in old id ≡ Some h → ¬ Lags old.line k h → kept_in new id ≡ Some h

-- each formula is kept as it was, or as of the position
abbrev pub StayOrComeTo : ℕ → Lazy → Lazy → Type 0
StayOrComeTo k old new = (id : ℕ) (h : Kept) → kept_in new id ≡ Some h → (kept_in old id ≡ Some h) ⊎ (h.position ≡ k)

-- over how many operations a formula went on, and all together
abbrev pub gone_on : Lazy → Lazy → ℕ → ℕ
gone_on old new id = unwrap_or (position_in new id) 0 - unwrap_or (position_in old id) 0

abbrev pub all_gone_on : Lazy → Lazy → ℕ
all_gone_on old new = sum_by (gone_on old new) (hash.keys old.holders)

-- all formulas together went on over so many operations at most, and each that lags behind the cursor still has more before it
-- than are left of these
pub record GoOnWithin (budget : ℕ) (old new : Lazy) : Type 0 where
  pub most : all_gone_on old new ≤ budget
  pub left : (id : ℕ) (h : Kept) → kept_in new id ≡ Some h → Lags new.line new.line.cursor h → budget < all_gone_on old new + (new.line.cursor - h.position)

-- no formula lags behind the cursor
abbrev pub AreCaughtUp : Lazy → Type 0
AreCaughtUp store = (id : ℕ) (h : Kept) → kept_in store id ≡ Some h → ¬ Lags store.line store.line.cursor h
