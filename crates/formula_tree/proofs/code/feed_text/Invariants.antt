use Rattle.std.proofs.Common.{◌≡◌, ℕ, List, ◌++◌, drop}
use Rattle.formula_tree.specs.internal.Code.{state_after}
use Rattle.formula_tree.proofs.code.feed_text.Given as goal

-- the bytes that are left, fed after those so far, are all bytes
abbrev pub invariant-bytes : goal.invariant-bytes
invariant-bytes g l = (rest : List ℕ)
    → state_after g.H.Hasher.write l.state (drop l.byte-index l.bytes ++ rest) ≡ state_after g.H.Hasher.write l.initial.state (l.bytes ++ rest)
