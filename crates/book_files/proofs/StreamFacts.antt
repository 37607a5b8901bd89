-- One call after another: what they did to the bytes that a stream tells. It serves the loops that read and write.
use Rattle.std.proofs.Common.{◌+◌, ◌∙◌, ℕ, List, ◌++◌, take, drop, Option, Some, None, sym, ap, append_assoc}
use Rattle.std.proofs.Math.Seq.{take-add}
use Rattle.std.specs.Io.KnownBytes.{Appends, Consumes}

-- a write after another
pub appends-more : (old now new : Option (List ℕ)) (bs cs : List ℕ) → Appends old now bs → Appends now new cs → Appends old new (bs ++ cs)
appends-more None now new bs cs a b = tt
appends-more (Some xs) None new bs cs a b = absurd a
appends-more (Some xs) (Some ys) None bs cs a b = b
appends-more (Some xs) (Some ys) (Some zs) bs cs a b = b ∙ ap (λ t. t ++ cs) a ∙ append_assoc xs bs cs

-- the next n bytes were written, after those up to a place
pub appends-take : (old now new : Option (List ℕ)) (at n : ℕ) (bs : List ℕ) → Appends old now (take at bs) → Appends now new (take n (drop at bs)) → Appends old new (take (at + n) bs)
appends-take old now new at n bs a b = rw (take-add at n bs) (appends-more old now new (take at bs) (take n (drop at bs)) a b)

-- a read after another
pub consumes-more : (old now new : Option (List ℕ)) (bs cs : List ℕ) → Consumes old now bs → Consumes now new cs → Consumes old new (bs ++ cs)
consumes-more None now new bs cs a b = tt
consumes-more (Some xs) None new bs cs a b = absurd a
consumes-more (Some xs) (Some ys) None bs cs a b = b
consumes-more (Some xs) (Some ys) (Some zs) bs cs a b = a ∙ ap (λ t. bs ++ t) b ∙ sym (append_assoc bs cs zs)
