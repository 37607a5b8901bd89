-- What SUBSTITUTE's and TRIM's walks through a text amount to.
use Rattle.std.specs.Prelude.{◌≡◌, ◌≢◌, ◌<◌, ℕ, ◌+◌, ◌-◌, ◌==◌, Bool, true, false, List, [], ◌++◌, Option, Some, None, drop, filter, length, slice_index, take}
use Rattle.std.specs.List.{slice_split}
use Rattle.func_text.specs.Find.{first_place}
use Rattle.func_text.specs.Substitute.{replaced, stands_for}
use Rattle.func_text.specs.Trim.{trimmed}
use Rattle.func_text.specs.declared.trim.TheConstants.{SPACE}

-- where the first occurrence begins at this place, what is before it stays, what stands for it follows,
-- and then the rest, of which the next occurrence is the next in number; without one all stays
abbrev pub replaced_from : Option ℕ → List ℕ → List ℕ → ℕ → List ℕ → Option ℕ → List ℕ
replaced_from which old new number cs (Some at) = take at cs ++ (stands_for which old new number ++ replaced which old new (number + 1) 0 (drop (at + length old) cs))
replaced_from which old new number cs None = cs

-- occurrences are replaced from the left, one after another
abbrev pub ReplacedFromTheLeft : Type 0
ReplacedFromTheLeft =
    (which : Option ℕ) (old new cs : List ℕ) (number : ℕ) → 0 < length old
    → replaced which old new number 0 cs ≡ replaced_from which old new number cs (first_place old cs)

-- there are characters
abbrev pub is_some_text : List ℕ → Bool
is_some_text [] = false
is_some_text _ = true

-- the words of a text: what stands between spaces, in order
abbrev pub words : List ℕ → List (List ℕ)
words cs = filter is_some_text (slice_split (λ c. c == SPACE) cs)

-- a text without a space at either end, and without two of them side by side, that has the words of another
pub record IsTrimmed (cs out : List ℕ) : Type 0 where
  pub first : slice_index out 0 ≢ SPACE
  pub last : slice_index out (length out - 1) ≢ SPACE
  pub apart : (i : ℕ) → slice_index out i ≡ SPACE → slice_index out (i + 1) ≢ SPACE
  pub same_words : words out ≡ words cs

-- so is what TRIM leaves
abbrev pub TrimsToWords : Type 0
TrimsToWords = (cs : List ℕ) → IsTrimmed cs (trimmed cs)
