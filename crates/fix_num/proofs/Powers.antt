-- Repeated multiplication, one product at a time. Serves `multiplied`.
use Rattle.std.proofs.Common.{◌≡◌, arith, refl, ℕ, suc, ◌+◌, ◌-◌, ◌<◌, ℤ, Ok, Err}
use Rattle.fix_num.specs.declared.error.NumError.{NumError}
use Rattle.fix_num.specs.Number.{product, and_then, multiplied}

pub multiplied-zero : (p a : ℤ) (n i : ℕ) → n - i ≡ 0 → multiplied p a (n - i) ≡ Ok p
unfolding multiplied
multiplied-zero p a n i h = rw h refl

multiplied-suc : (p a : ℤ) (k : ℕ) → multiplied p a (suc k) ≡ and_then (product p a) (λ q. multiplied q a k)
unfolding multiplied
multiplied-suc p a k = refl

one_less : (n i : ℕ) → i < n → n - i ≡ suc (n - (i + 1))
one_less n i h = omega arith

pub multiplied-more : (p a q : ℤ) (n i : ℕ) → i < n → Ok q ≡ product p a → multiplied p a (n - i) ≡ multiplied q a (n - (i + 1))
multiplied-more p a q n i h e = rw (one_less n i h, multiplied-suc p a (n - (i + 1)), ← e) refl

pub multiplied-stops : (p a : ℤ) (e : NumError) (n i : ℕ) → i < n → Err e ≡ product p a → multiplied p a (n - i) ≡ Err e
multiplied-stops p a e n i h f = rw (one_less n i h, multiplied-suc p a (n - (i + 1)), ← f) refl
