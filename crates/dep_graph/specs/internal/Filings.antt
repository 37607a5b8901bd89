-- Filings and the nodes that were filed, as lists.
use Rattle.std.specs.BTreeMap as tree
use Rattle.std.specs.Ordering.{nat_cmp}
use Rattle.std.specs.Prelude.{◌≡◌, ◌==◌, ◌⊎◌, ℕ, Bool, true, false, Option, Some, None, is_some, length, nat_le, slice_get, slice_index_or, unwrap_or}
use Rattle.std.specs.Option.{option_map}
use Rattle.std.specs.declared.alloc.Global.{Global}
use Rattle.std.specs.declared.vec.Vec.{Vec}
use Rattle.dep_graph.specs.declared.serving.Serving.{Serving}

-- the first of the filings that serve a node
abbrev pub filing_of : Vec (Option ℕ) Global → ℕ → Option ℕ
filing_of current n = slice_index_or current.items n None

-- the node that was filed
abbrev pub owner_at : Vec ℕ Global → ℕ → Option ℕ
owner_at owners f = slice_get owners.items f

-- the filing may serve its node
abbrev pub serves_at : Vec Bool Global → ℕ → Bool
serves_at serves f = slice_index_or serves.items f false

-- the filing isn't before the first
abbrev pub is_since : ℕ → Option ℕ → Bool
is_since f (Some first) = nat_le first f
is_since f None = false

-- the filings that serve from this one on
abbrev pub since : ℕ → Serving
since f = record { first = f; last = f }

-- the filing is the last of these
abbrev pub is_last : Option Serving → ℕ → Bool
is_last (Some all) f = f == all.last
is_last None f = false

-- the node is one of few that get filings, or none
abbrev pub is_given : tree.BTreeMap ℕ (Option Serving) → ℕ → Bool
is_given filings n = is_some (tree.get nat_cmp filings n)

-- the filings of a node where few have others than the present ones, or none
abbrev pub filing_then : tree.BTreeMap ℕ (Option Serving) → Vec (Option ℕ) Global → ℕ → Option Serving
filing_then filings current n = unwrap_or (tree.get nat_cmp filings n) (option_map since (filing_of current n))

-- the last filings of few nodes may serve, beside those that might
pub record AreLastServed (filings : tree.BTreeMap ℕ (Option Serving)) (old new : Vec Bool Global) : Type 0 where
  pub count : length new.items ≡ length old.items
  pub grows : (f : ℕ) → serves_at old f ≡ true → serves_at new f ≡ true
  pub only : (f : ℕ) → serves_at new f ≡ true → (serves_at old f ≡ true) ⊎ ((n : ℕ) × (all : Serving) × (tree.get nat_cmp filings n ≡ Some (Some all)) × (f ≡ all.last))
  pub last : (n : ℕ) (all : Serving) → tree.get nat_cmp filings n ≡ Some (Some all) → serves_at new all.last ≡ true
