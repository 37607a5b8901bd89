-- The trees that a pool holds. Source: this project's own.
use Rattle.std.specs.Prelude.{◌≡◌, ◌⊎◌, List, [], ◌∷◌, ◌++◌, map, Contains}
use Rattle.formula_tree.specs.Term.{Term}
use Rattle.formula_tree.specs.Relative.{relative}
use Rattle.formula_tree.specs.declared.pool.Pool.{Pool}
use Rattle.formula_tree.specs.declared.reference.Ref.{Ref}

-- the trees of the pool, in the order in which they were added
abbrev pub held : Pool → List (Term Ref)
held pool = map (λ e. relative e.tree.value) pool.trees.keys

-- the pool holds the tree too: as before where it held it, and else as its last one
abbrev pub HoldsToo : List (Term Ref) → Term Ref → List (Term Ref) → Type 0
HoldsToo old t new = (Contains old t × (new ≡ old)) ⊎ ((¬ Contains old t) × (new ≡ old ++ t ∷ []))

-- no two of the trees are equal
abbrev pub AreDistinct : List (Term Ref) → Type 0
AreDistinct [] = Unit {0}
AreDistinct (t ∷ ts) = (¬ Contains ts t) × AreDistinct ts

-- the first trees are part of the second ones, in the same order
pub data IsPart : List (Term Ref) → List (Term Ref) → Type 0 where
  no_trees : IsPart [] []
  kept : {t : Term Ref} {ts us : List (Term Ref)} → IsPart ts us → IsPart (t ∷ ts) (t ∷ us)
  left_out : {t : Term Ref} {ts us : List (Term Ref)} → IsPart ts us → IsPart ts (t ∷ us)
