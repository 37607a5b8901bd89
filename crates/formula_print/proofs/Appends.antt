-- One piece written after another. Serves the writing of trees.
use Rattle.std.proofs.Common.{◌≡◌, ◌∙◌, ap, append_assoc, ℕ, List, ◌++◌}
use Rattle.formula_print.specs.internal.Appends.{AppendsText}

pub appends-bytes : (old new bytes : List ℕ) → new ≡ old ++ bytes → AppendsText old new (λ rest. bytes ++ rest)
appends-bytes old new bytes e rest = ap (λ xs. xs ++ rest) e ∙ append_assoc old bytes rest

pub appends-then : (old mid new : List ℕ) (f g : List ℕ → List ℕ) → AppendsText old mid f → AppendsText mid new g → AppendsText old new (λ rest. f (g rest))
appends-then old mid new f g a b rest = b rest ∙ a (g rest)
