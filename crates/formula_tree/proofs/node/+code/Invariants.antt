use Rattle.std.proofs.Common.{◌≡◌, ℕ, List, drop}
use Rattle.formula_tree.specs.Relative.{relative_list}
use Rattle.formula_tree.specs.internal.Code.{state_after, code_all}
use Rattle.formula_tree.proofs.RelativeNodes.{relatives}
use Rattle.formula_tree.proofs.node.+code.Given as goal

-- the codes of the arguments that are left, fed after those so far, are those of all
abbrev pub invariant-TreeList::feed-arguments : goal.invariant-TreeList::feed-arguments
invariant-TreeList::feed-arguments g l = (rest : List ℕ)
    → state_after g.H.Hasher.write l.state (code_all (relatives (drop l.argument-index l.argument-items)) rest)
    ≡ state_after g.H.Hasher.write l.initial.state (code_all (relative_list l.self) rest)
