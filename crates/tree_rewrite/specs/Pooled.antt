-- The pool after one tree came in the place of another. Source: this project's own.
use Rattle.std.specs.Prelude.{◌≡◌, ◌≢◌, ◌⊎◌, List}
use Rattle.formula_tree.specs.Pooled.{HoldsToo}
use Rattle.formula_tree.specs.Term.{Term}
use Rattle.formula_tree.specs.declared.reference.Ref.{Ref}

-- where the tree stays as it was, so does the pool; else the pool holds the new tree too
abbrev pub HoldsChanged : List (Term Ref) → Term Ref → Term Ref → List (Term Ref) → Type 0
HoldsChanged held_before before after held_after =
    ((after ≡ before) × (held_after ≡ held_before)) ⊎ ((after ≢ before) × HoldsToo held_before after held_after)
