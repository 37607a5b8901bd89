-- What calls do to the streams around a program, and what a stream in memory holds.
use Rattle.std.specs.Prelude.{◌≡◌, ◌≤◌, ◌+◌, ◌-◌, ◌^◌, ℕ, min, List, ◌++◌, length, take, drop, Result, Ok, Err}
use Rattle.std.specs.declared.option.Option.{Option}
use Rattle.std.specs.Io.KnownBytes.{Appends, Consumes}
use Rattle.book_files.specs.declared.error.WriteError.{WriteError}
use Rattle.book_files.specs.declared.error.WriteError.TheVariants as write

-- a count after one more, which stops at the greatest u64
abbrev pub counted : ℕ → ℕ
counted n = min (n + 1) (2 ^ 64 - 1)

-- a count rose: it is greater than before, or stands at the greatest u64
abbrev pub Rose : ℕ → ℕ → Type 0
Rose before now = counted before ≤ now

-- a count of faults after a call: one more where the call failed
abbrev pub faults_after : {T E : Type 0} → ℕ → Result T E → ℕ
faults_after n (Ok x) = n
faults_after n (Err e) = counted n

-- known bytes grow by a part of bs, from its front
abbrev pub AppendsPart : Option (List ℕ) → Option (List ℕ) → List ℕ → Type 0
AppendsPart old new bs = (n : ℕ) × Appends old new (take n bs)

-- known bytes begin with n bytes, and lose them
abbrev pub Loses : Option (List ℕ) → Option (List ℕ) → ℕ → Type 0
Loses old new n = (bs : List ℕ) × Consumes old new bs × (length bs ≡ n)

-- known bytes begin with at most n bytes, and lose them
abbrev pub LosesAtMost : Option (List ℕ) → Option (List ℕ) → ℕ → Type 0
LosesAtMost old new n = (bs : List ℕ) × Consumes old new bs × (length bs ≤ n)

-- a stream of the system and its faults, up to the greatest u64
pub record Counted (S : Type 0) : Type 0 where
  pub stream : S
  pub faults : ℕ

-- a stream in memory: its bytes, the numbers of the calls that fail, and how many calls and faults there were
pub record MemStream : Type 0 where
  pub bytes : List ℕ
  pub fails : List ℕ
  pub calls : ℕ
  pub faults : ℕ

-- a stream in memory of which no call was made
abbrev pub fresh : List ℕ → List ℕ → MemStream
fresh bytes fails = record { bytes = bytes; fails = fails; calls = 0; faults = 0 }

-- the number of a stream's next call, from 1
abbrev pub next_call : MemStream → ℕ
next_call s = counted s.calls

-- a stream after a call that did no harm, and left it with these bytes
abbrev pub called : MemStream → List ℕ → MemStream
called s bytes = record s { bytes = bytes; calls = counted s.calls }

-- a stream after a call that failed
abbrev pub failed : MemStream → MemStream
failed s = record s { calls = counted s.calls; faults = counted s.faults }

-- a stream after a write of bs, by what the write answered
abbrev pub after_write : {T : Type 0} → MemStream → List ℕ → Result T WriteError → MemStream
after_write s bs (Ok x) = called s (s.bytes ++ bs)
after_write s bs (Err write.Failed) = failed s
after_write s bs (Err write.NoMemory) = called s s.bytes

-- a stream after a read, by how many bytes the read gave
abbrev pub after_read : {E : Type 0} → MemStream → Result ℕ E → MemStream
after_read s (Ok n) = called s (drop n s.bytes)
after_read s (Err e) = failed s
