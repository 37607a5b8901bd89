-- Bytes that are UTF-8 by a test, or not. Serves the reading of words.
use Rattle.std.proofs.Common.{◌≡◌, refl, ℕ, Bool, true, false, List}
use Rattle.std.specs.Str.{IsUtf8, is_utf8}
use Rattle.std.proofs.lemmas.Str.{IsUtf8-from_is_utf8, is_utf8-from_IsUtf8}

decided : (b : Bool) → ¬ (b ≡ true) → b ≡ false
decided true h = absurd (h refl)
decided false h = refl

pub passes : (bytes : List ℕ) → IsUtf8 bytes → is_utf8 bytes ≡ true
passes = is_utf8-from_IsUtf8

pub fails : (bytes : List ℕ) → ¬ (IsUtf8 bytes) → is_utf8 bytes ≡ false
fails bytes h = decided (is_utf8 bytes) (λ e. h (IsUtf8-from_is_utf8 bytes e))
