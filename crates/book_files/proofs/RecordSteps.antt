-- The records of a text, one step at a time: those left are the next one and those left after it. It serves the reader of records.
use Rattle.std.proofs.Common.{Bor, ◌≡◌, ◌≤◌, ◌∙◌, sym, ap, refl, arith, ℕ, zero, suc, ◌+◌, ◌<◌, ◌⊎◌, inl, inr, Bool, true, false, cond, List, [], ◌∷◌, ◌++◌, length, Option, Some, None, add-one}
use Rattle.csv.specs.declared.parser.Config.{Config}
use Rattle.csv.specs.declared.parser.State.{State}
use Rattle.csv.specs.declared.parser.State.TheVariants as st
use Rattle.csv.specs.Machine.{Read, next_record, step, is_end, ends_at_end, fields_after, field_after}
use Rattle.std.specs.Prelude.{IsSome}
use Rattle.csv.specs.Reading.{ReadRecord, Reached, default_config, records_from, records_next}
use Rattle.csv.proofs.ReadFacts.{rows-end, rows-more}
use Rattle.book_files.specs.internal.Records.{BytesReader, Fields, IsPlain, bytes_left, records_after, records_left}

-- a record leaves fewer bytes, or it was the last of none
abbrev pub Shrinks : List ℕ → Read → Type 0
Shrinks bytes p = (length p.2 < length bytes) ⊎ ((p.1 ≡ st.StartRecord) × (p.2 ≡ []))

at-end : (fields : List (List ℕ)) (b : Bool) (p : Read) → cond b (Some (fields, st.StartRecord, [])) None ≡ Some p → Shrinks [] p
at-end fields true p e = inr (cc, cc)
at-end fields false p e = cc

longer : (c : ℕ) (rest : List ℕ) (p : Read) → Shrinks rest p → Shrinks (c ∷ rest) p
longer c rest p (inl h) = inl (omega arith)
longer c rest p (inr h) = inr h

at-byte : (b : Bool) (fields : List (List ℕ)) (s : State) (c : ℕ) (rest : List ℕ) (more : Option Read) (p : Read)
    → cond b (Some (fields, s, rest)) more ≡ Some p → (more ≡ Some p → Shrinks rest p) → Shrinks (c ∷ rest) p
at-byte true fields s c rest more p e f =
    let same : rest ≡ p.2 = cc in
    let size : length rest ≡ length p.2 = ap length same in
    inl (omega arith)
at-byte false fields s c rest more p e f = longer c rest p (f e)

shrinks : (cfg : Config) (s : State) (fields : List (List ℕ)) (field bytes : List ℕ) (p : Read) → next_record cfg s fields field bytes ≡ Some p → Shrinks bytes p
unfolding next_record
shrinks cfg s fields field [] p e = at-end (fields ++ (field ∷ [])) (ends_at_end s) p e
shrinks cfg s fields field (c ∷ rest) p e =
    at-byte (is_end (step cfg s c).1) (fields_after (step cfg s c).1 fields field) (step cfg s c).0 c rest _ p e
    (shrinks cfg (step cfg s c).0 (fields_after (step cfg s c).1 fields field) (field_after (step cfg s c).1 c field) rest p)

-- no bytes at a record's start are no record
none-left : (cfg : Config) (n : ℕ) → records_from cfg n st.StartRecord [] ≡ []
unfolding next_record records_from
none-left cfg zero = refl
none-left cfg (suc n) = refl

-- more turns than bytes make no difference
same-rest : (cfg : Config) (n m : ℕ) (bytes : List ℕ) (p : Read) → Shrinks bytes p → length bytes ≤ n → length bytes ≤ m
    → (length p.2 < n → length p.2 < m → records_from cfg n p.1 p.2 ≡ records_from cfg m p.1 p.2) → records_from cfg n p.1 p.2 ≡ records_from cfg m p.1 p.2
same-rest cfg n m bytes p (inl h) a b same = same (omega arith) (omega arith)
same-rest cfg n m bytes p (inr h) a b same = rw (h.0, h.1) (none-left cfg n ∙ sym (none-left cfg m))

same-next : (cfg : Config) (n m : ℕ) (bytes : List ℕ) (r : Option Read) → ((p : Read) → r ≡ Some p → Shrinks bytes p) → length bytes ≤ n → length bytes ≤ m
    → ((p : Read) → length p.2 < n → length p.2 < m → records_from cfg n p.1 p.2 ≡ records_from cfg m p.1 p.2)
    → records_next (records_from cfg n) r ≡ records_next (records_from cfg m) r
same-next cfg n m bytes None shorter a b same = refl
same-next cfg n m bytes (Some p) shorter a b same = ap (λ t. p.0 ∷ t) (same-rest cfg n m bytes p (shorter p refl) a b (same p))

enough : (cfg : Config) (n m : ℕ) (s : State) (bytes : List ℕ) → length bytes < n → length bytes < m → records_from cfg n s bytes ≡ records_from cfg m s bytes
unfolding records_from
enough cfg zero m s bytes a b = absurd (omega arith)
enough cfg (suc n) zero s bytes a b = absurd (omega arith)
enough cfg (suc n) (suc m) s bytes a b =
    same-next cfg n m bytes (next_record cfg s [] [] bytes) (shrinks cfg s [] [] bytes) (omega arith) (omega arith) (λ p. enough cfg n m p.1 p.2)

-- the records from a state on are the next one, and those from the state after it on
pub records_after-next : (s : State) (bytes : List ℕ) → records_after s bytes ≡ records_next records_after (next_record default_config s [] [] bytes)
unfolding records_from
records_after-next s bytes = rw add-one (next (next_record default_config s [] [] bytes) (shrinks default_config s [] [] bytes))
  where
    rest : (p : Read) → Shrinks bytes p → records_from default_config (length bytes) p.1 p.2 ≡ records_after p.1 p.2
    rest p (inl h) = enough default_config (length bytes) (length p.2 + 1) p.1 p.2 h (omega arith)
    rest p (inr h) = rw (h.0, h.1) (none-left default_config (length bytes) ∙ sym (none-left default_config 1))

    next : (r : Option Read) → ((p : Read) → r ≡ Some p → Shrinks bytes p) → records_next (records_from default_config (length bytes)) r ≡ records_next records_after r
    next None shorter = refl
    next (Some p) shorter = ap (λ t. p.0 ∷ t) (rest p (shorter p refl))

-- where one record takes a state and bytes to another, it is the first of the records, and the rest are those from there on
first-record : (s after : State) (bytes rest : List ℕ) (fields : Fields) → Reached default_config s bytes (fields ∷ []) after rest → records_after s bytes ≡ fields ∷ records_after after rest
unfolding Reached
first-record s after bytes rest fields (p, is, first, same) = rw (records_after-next s bytes, is, first, same.0, same.1) refl

-- a read that found a record took the first of those that were left
pub read-found : (a b : BytesReader) (fields : Fields) → IsPlain a → ReadRecord (λ (s : Bor (List ℕ)). Some s.now) a b true fields → records_left false a ≡ fields ∷ records_left false b
unfolding Reached
read-found a b fields plain r = go (bytes_left a) refl plain.told
  where
    go : (o : Option (List ℕ)) → bytes_left a ≡ o → IsSome o → records_left false a ≡ fields ∷ records_left false b
    go None e told = cc
    go (Some bytes) e told =
        let (z, left, reached) = rows-more (λ (s : Bor (List ℕ)). Some s.now) a b fields default_config a.state bytes bytes [] plain.config e (refl, refl) r in
        rw (e, left) (first-record a.state b.state bytes z fields reached)

-- a read that found none was at the end
pub read-end : (a b : BytesReader) (fields : Fields) → IsPlain a → ReadRecord (λ (s : Bor (List ℕ)). Some s.now) a b false fields → records_left false a ≡ []
read-end a b fields plain r = go (bytes_left a) refl plain.told
  where
    go : (o : Option (List ℕ)) → bytes_left a ≡ o → IsSome o → records_left false a ≡ []
    go None e told = cc
    go (Some bytes) e told =
        let none = rows-end (λ (s : Bor (List ℕ)). Some s.now) a b fields default_config bytes plain.config e r in
        rw (e, records_after-next a.state bytes, none) refl
