-- What a store keeps of a formula, and the standing that the formula has by it at each position of the line.
-- Source: this project's own.
use Rattle.std.specs.Prelude.{◌≡◌, ◌≢◌, ℕ, zero, suc, ◌+◌, ◌-◌, ◌<◌, ◌≤◌, max, nat_lt, if◌then◌else◌, Bool, true, Option, Some, None, MatchOption, option_and_then, unwrap_or}
use Rattle.formula_tree.specs.StandsFor.{at_home}
use Rattle.formula_tree.specs.Term.{Term}
use Rattle.formula_tree.specs.declared.reference.Home.{Home}
use Rattle.formula_tree.specs.declared.reference.Ref.{Ref}
use Rattle.shift_core.specs.Sound.{IsSound}
use Rattle.shift_core.specs.declared.shift.Shift.{Shift}
use Rattle.shift_line.specs.Track.{Track, last, shift_at}
use Rattle.lazy_store.specs.Standing.{Standing, IsFit, IsSavedOver, after, before}

-- home and tree as of one position, the tree as seen from the home; the trees from before losing operations, by the
-- positions of these; and whether the formula is one of the workbook or was removed
pub record Kept : Type 0 where
  pub birth : ℕ
  pub position : ℕ
  pub home : Home
  pub tree : Term Ref
  pub saved : ℕ → Option (Term Ref)
  pub live : Bool

-- a formula at the home, with the tree that is seen so from there
abbrev pub standing_at : Home → Term Ref → Standing
standing_at home t = record { home = home; tree = at_home home t }

-- the formula at the position as of which it is kept
abbrev pub standing : Kept → Standing
standing h = standing_at h.home h.tree

-- a formula that comes to a line at this position
abbrev pub fresh : ℕ → Home → Term Ref → Kept
fresh position home tree = record { birth = position; position = position; home = home; tree = tree; saved = λ _. None; live = true }

-- the same, but for whether it is one of the workbook's
abbrev pub with_live : Bool → Kept → Kept
with_live live h = record h { live = live }

-- the standing after the operation at the position, and before it; none where the line has no operation there
abbrev pub over : Track → ℕ → Standing → Option Standing
over line k x = option_and_then (λ s. after s x) (shift_at line k)

abbrev pub back_over : Track → (ℕ → Option (Term Ref)) → ℕ → Standing → Option Standing
back_over line saved k x = option_and_then (λ s. before s (saved k) x) (shift_at line k)

-- the standing so many operations later than the position k, where it is x
abbrev pub later : Track → ℕ → Standing → ℕ → Option Standing
later line k x zero = Some x
later line k x (suc n) = option_and_then (over line (k + n)) (later line k x n)

-- and so many earlier
abbrev pub earlier : Track → (ℕ → Option (Term Ref)) → ℕ → Standing → ℕ → Option Standing
earlier line saved k x zero = Some x
earlier line saved k x (suc n) = option_and_then (back_over line saved (k - suc n)) (earlier line saved k x n)

-- the earliest position of a formula that the line still tells: its birth, or the line's first
abbrev pub lowest : Track → Kept → ℕ
lowest line h = max line.first h.birth

-- the formula at a position of the line
abbrev pub at : Track → Kept → ℕ → Option Standing
at line h k =
    if nat_lt k h.position then (if nat_lt k (lowest line h) then None else earlier line h.saved h.position (standing h) (h.position - k))
    else later line h.position (standing h) (k - h.position)

-- its standings at all positions; a formula without one at a position has there the one that is kept
abbrev pub history : Track → Kept → ℕ → Standing
history line h k = unwrap_or (at line h k) (standing h)

-- each operation of the line can be done
abbrev pub IsSoundLine : Track → Type 0
IsSoundLine line = (k : ℕ) (s : Shift) → shift_at line k ≡ Some s → IsSound s

-- at a position where a formula has this standing a tree is saved exactly where the operation there loses the tree
abbrev pub IsSavedAt : Track → ℕ → Standing → Option (Term Ref) → Type 0
IsSavedAt line k x saved = MatchOption (shift_at line k) ⊥ (λ s. IsSavedOver s x saved)

-- from the position `low` to `high` the formula has standings f, one after the other by the operations of the line; it is
-- kept as of one of them, and behind that one what the operations lose is saved, and nothing else
pub record IsAlong (line : Track) (low high : ℕ) (f : ℕ → Standing) (h : Kept) : Type 0 where
  pub runs : (k : ℕ) → low ≤ k → k < high → over line k (f k) ≡ Some (f (k + 1))
  pub fits : (k : ℕ) → low ≤ k → k ≤ high → IsFit (f k)
  pub from : low ≤ h.position
  pub to : h.position ≤ high
  pub here : standing h ≡ f h.position
  pub saved : (k : ℕ) → low ≤ k → k < h.position → IsSavedAt line k (f k) (h.saved k)
  pub below : (k : ℕ) → k < low → h.saved k ≡ None
  pub above : (k : ℕ) → h.position ≤ k → h.saved k ≡ None

-- from its earliest position to the one as of which it is kept the formula goes along the line with its own standings
pub record IsCoherent (line : Track) (h : Kept) : Type 0 where
  pub along : IsAlong line (lowest line h) h.position (history line h) h
  pub within : h.position ≤ last line

-- a live formula that is kept as of a position before this one, where it has a standing
pub record Lags (line : Track) (k : ℕ) (h : Kept) : Type 0 where
  pub live : h.live ≡ true
  pub before : h.position < k
  pub there : at line h k ≢ None
