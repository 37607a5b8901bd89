use Rattle.std.proofs.Common.{◌≡◌, fold, drop}
use Rattle.cell_addr.specs.Text.{folded}
use Rattle.folded_key.specs.Key.{fed_text}
use Rattle.folded_key.proofs.key.feed.Given as goal

-- the bytes that are left, fed after those so far, are all bytes
abbrev pub invariant-bytes : goal.invariant-bytes
invariant-bytes g l = fold g.H.Hasher.write l.state (fed_text (folded (drop l.byte-index l.byte-items))) ≡ fold g.H.Hasher.write l.initial.state (fed_text (folded l.byte-items))
