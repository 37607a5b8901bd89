-- A text with one more occurrence replaced, and the rest still to come: for `replaced`.
use Rattle.std.proofs.Common.{◌≡◌, ◌∙◌, sym, ap, subst, refl, ℕ, ◌+◌, ◌<◌, ◌≤◌, ◌==◌, Bool, true, false, cond, List, [], ◌∷◌, ◌++◌, Option, Some, None, length, take, drop, encode_utf8_all, arith}
use Rattle.std.specs.Prelude.{IsUtf8, chars}
use Rattle.std.specs.Str.Pattern.{FindsText}
use Rattle.std.proofs.lemmas.List.{append_assoc, length-append}
use Rattle.std.proofs.lemmas.Str.{chars-nil, encodes-append, encodes-chars}
use Rattle.cell_value.specs.declared.fault.FaultKind.TheVariants.{Value}
use Rattle.cell_value.specs.declared.scalar.Scalar.TheVariants.{Fault}
use Rattle.cell_value.specs.declared.scalar.TheConstants.{MAX_MADE_TEXT}
use Rattle.cell_value.specs.Scalar.{made_text}
use Rattle.func_text.specs.Arguments.{made}
use Rattle.func_text.specs.Laws.{replaced_from}
use Rattle.func_text.specs.Substitute.{replaced, replaced_all, stands_for}
use Rattle.func_text.proofs.FromTheLeft.{from_the_left}
use Rattle.func_text.proofs.Joining.{made_long}
use Rattle.func_text.proofs.Occurrences.{occurs_nowhere, occurs_first, chars_before, chars_behind, before_bytes}

some_chars : (cs : List ℕ) → 0 < length (encode_utf8_all cs) → 0 < length cs
some_chars [] h = h
some_chars (c ∷ cs) h = omega arith

-- what stands for an occurrence, by characters and by bytes
stands_bytes : (which : Option ℕ) (old new : List ℕ) (number : ℕ) → IsUtf8 old → IsUtf8 new
    → encode_utf8_all (stands_for which (chars old) (chars new) number) ≡ stands_for which old new number
stands_bytes None old new number uo un = encodes-chars new un
stands_bytes (Some meant) old new number uo un = chosen (meant == number)
  where
    chosen : (b : Bool) → encode_utf8_all (cond b (chars new) (chars old)) ≡ cond b new old
    chosen true = encodes-chars new un
    chosen false = encodes-chars old uo

-- of a text of no characters none is replaced
pub replaced_all-none : (which : Option ℕ) (old new text : List ℕ) → length old ≡ 0 → IsUtf8 text → made (replaced_all which (chars old) new (chars text)) ≡ made_text text
replaced_all-none which [] new text h u = ap (λ cs. made (replaced_all which cs new (chars text))) chars-nil ∙ ap made_text (encodes-chars text u)
replaced_all-none which (c ∷ old) new text h u = absurd (omega arith)

pub replaced_all-some : (which : Option ℕ) (old new cs : List ℕ) → IsUtf8 old → 0 < length old → replaced which (chars old) new 1 0 cs ≡ replaced_all which (chars old) new cs
replaced_all-some which old new cs u h = some (chars old) (some_chars (chars old) (subst (λ xs. 0 < length xs) (sym (encodes-chars old u)) h))
  where
    some : (os : List ℕ) → 0 < length os → replaced which os new 1 0 cs ≡ replaced_all which os new cs
    some [] l = absurd (omega arith)
    some (o ∷ os) l = refl

module _ (which : Option ℕ) (old new : List ℕ) (uo : IsUtf8 old) (un : IsUtf8 new) (some : 0 < length old) where
  -- the bytes of what is left, with its occurrences replaced
  abbrev pub left_bytes : ℕ → List ℕ → List ℕ
  left_bytes number rest = encode_utf8_all (replaced which (chars old) (chars new) number 0 (chars rest))

  some_old : 0 < length (chars old)
  some_old = some_chars (chars old) (subst (λ xs. 0 < length xs) (sym (encodes-chars old uo)) some)

  -- without an occurrence all stays
  pub left_all : (number : ℕ) (rest : List ℕ) → IsUtf8 rest → FindsText old rest None → left_bytes number rest ≡ rest
  left_all number rest ur none =
      ap encode_utf8_all (from_the_left which (chars old) (chars new) (chars rest) number some_old ∙ ap (replaced_from which (chars old) (chars new) number (chars rest)) (occurs_nowhere old rest uo ur none))
      ∙ encodes-chars rest ur

  -- what is before the first occurrence stays, what stands for it follows, and then the rest
  pub left_step : (number : ℕ) (rest : List ℕ) (i j : ℕ) → IsUtf8 rest → FindsText old rest (Some (i, j)) → i ≤ length rest
      → left_bytes number rest ≡ take i rest ++ (stands_for which old new number ++ left_bytes (number + 1) (drop j rest))
  left_step number rest i j ur found fits =
      let cs = chars rest in
      let before = chars (take i rest) in
      let stands = stands_for which (chars old) (chars new) number in
      let more = λ (xs : List ℕ). replaced which (chars old) (chars new) (number + 1) 0 xs in
      ap encode_utf8_all (
      from_the_left which (chars old) (chars new) cs number some_old
      ∙ ap (replaced_from which (chars old) (chars new) number cs) (occurs_first old rest uo ur i j found fits)
      ∙ ap (λ xs. xs ++ (stands ++ more (drop (length before + length (chars old)) cs))) (chars_before old rest uo ur i j found fits)
      ∙ ap (λ xs. before ++ (stands ++ more xs)) (chars_behind old rest uo ur i j found fits)
      )
      ∙ encodes-append before (stands ++ more (chars (drop j rest)))
      ∙ ap (λ xs. xs ++ encode_utf8_all (stands ++ more (chars (drop j rest)))) (before_bytes old rest uo ur i j found fits)
      ∙ ap (λ xs. take i rest ++ xs) (encodes-append stands (more (chars (drop j rest))))
      ∙ ap (λ xs. take i rest ++ (xs ++ encode_utf8_all (more (chars (drop j rest))))) (stands_bytes which old new number uo un)

  -- the walk over one occurrence
  pub walk_step : (number : ℕ) (kept rest mid next before stands after whole : List ℕ) (i j : ℕ) → IsUtf8 rest → FindsText old rest (Some (i, j)) → i ≤ length rest
      → before ≡ take i rest → after ≡ drop j rest → stands ≡ stands_for which old new number → mid ≡ kept ++ before → next ≡ mid ++ stands
      → kept ++ left_bytes number rest ≡ whole → next ++ left_bytes (number + 1) after ≡ whole
  walk_step number kept rest mid next before stands after whole i j ur found fits b a s m n k =
      let more = left_bytes (number + 1) (drop j rest) in
      let instead = stands_for which old new number in
      ap (λ xs. next ++ left_bytes (number + 1) xs) a
      ∙ ap (λ xs. xs ++ more) (n ∙ ap (λ xs. xs ++ stands) (m ∙ ap (λ xs. kept ++ xs) b) ∙ ap (λ xs. (kept ++ take i rest) ++ xs) s)
      ∙ append_assoc (kept ++ take i rest) instead more
      ∙ append_assoc kept (take i rest) (instead ++ more)
      ∙ sym (ap (λ xs. kept ++ xs) (left_step number rest i j ur found fits))
      ∙ k

-- more bytes than a made text may have
pub made_too_long : (first rest : List ℕ) (whole : List ℕ) → first ++ rest ≡ encode_utf8_all whole → MAX_MADE_TEXT < length first → made whole ≡ Fault Value
made_too_long first rest whole e h =
    let all = ap length (sym e) ∙ length-append first rest in
    made_long (encode_utf8_all whole) (omega arith)

-- what is kept and the rest, where all of it stays, as a value
pub made_all : (text next rest kept left whole : List ℕ) → text ≡ next → next ≡ kept ++ rest → left ≡ rest → kept ++ left ≡ encode_utf8_all whole → made_text text ≡ made whole
made_all text next rest kept left whole t n l k = ap made_text (t ∙ n ∙ ap (λ xs. kept ++ xs) (sym l) ∙ k)
