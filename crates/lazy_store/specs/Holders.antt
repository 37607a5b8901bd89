-- The formulas of a table of holders. Source: this project's own.
use Rattle.std.specs.Prelude.{◌≡◌, ◌++◌, ℕ, nat_eq, List, Option, Some, option_map}
use Rattle.std.specs.BTreeMap as tree
use Rattle.std.specs.HashMap as hash
use Rattle.std.specs.HashMap.{HashMap}
use Rattle.std.specs.Ordering.{nat_cmp}
use Rattle.formula_tree.specs.Relative.{relative}
use Rattle.formula_tree.specs.Term.{Term}
use Rattle.formula_tree.specs.declared.reference.Ref.{Ref}
use Rattle.shift_line.specs.Track.{Track}
use Rattle.lazy_store.specs.Kept.{Kept, IsCoherent}
use Rattle.lazy_store.specs.declared.holder.Holder.{Holder}

-- what is kept in a holder
abbrev pub kept_of : Holder → Kept
kept_of h = record {
  birth = h.birth;
  position = h.position;
  home = h.home;
  tree = relative h.tree.value;
  saved = λ k. option_map (λ t. relative t.value) (tree.get nat_cmp h.saved k);
  live = h.live;
}

-- the first trees are a front of the second ones
abbrev pub IsFront : List (Term Ref) → List (Term Ref) → Type 0
IsFront old new = (more : List (Term Ref)) × (new ≡ old ++ more)

module _ {S : Type 0} where
  -- what is kept under the id
  abbrev pub kept_under : HashMap ℕ Holder S → ℕ → Option Kept
  kept_under holders id = option_map kept_of (hash.get nat_eq holders id)

  -- every formula goes along the line
  abbrev pub AreCoherent : Track → HashMap ℕ Holder S → Type 0
  AreCoherent line holders = (id : ℕ) (h : Holder) → hash.get nat_eq holders id ≡ Some h → IsCoherent line (kept_of h)
