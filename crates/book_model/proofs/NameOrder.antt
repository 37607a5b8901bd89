-- The order of names is total, and equal names alone tie. Serves the map of names.
use Rattle.std.proofs.Common.{◌≡◌, ap, ℕ, Option, Some, None}
use Rattle.std.specs.Cmp.{IsTotalOrder, nat_cmp_total}
use Rattle.std.specs.Cmp.Lexicographic.{nat_list_cmp_total, options_total, slice_cmp}
use Rattle.std.specs.FinMap.{IsAntisymmetric, nat_cmp-IsAntisymmetric, slice_cmp-IsAntisymmetric}
use Rattle.std.specs.Option.{option_cmp}
use Rattle.std.specs.Ordering.{nat_cmp, ordering_then}
use Rattle.std.specs.declared.cmp.Ordering.{Ordering}
use Rattle.std.specs.declared.cmp.Ordering.TheVariants.{Less, Equal, Greater}
use Rattle.std.proofs.Common.{refl}
use Rattle.std.proofs.lemmas.Cmp.{then_total, on_total}
use Rattle.book_values.specs.Names.{Key}
use Rattle.book_model.specs.Names.{key_cmp}

pub key_cmp-IsTotalOrder : IsTotalOrder key_cmp
key_cmp-IsTotalOrder = then_total (on_total (λ (k : Key). k.scope) (options_total nat_cmp_total)) (on_total (λ (k : Key). k.word) nat_list_cmp_total)

first-equal : (a b : Ordering) → ordering_then a b ≡ Equal → a ≡ Equal
first-equal Less b e = cc
first-equal Equal b e = refl
first-equal Greater b e = cc

second-equal : (a b : Ordering) → ordering_then a b ≡ Equal → b ≡ Equal
second-equal Less b e = cc
second-equal Equal b e = e
second-equal Greater b e = cc

scopes-equal : (a b : Option ℕ) → option_cmp nat_cmp a b ≡ Equal → a ≡ b
scopes-equal None None e = refl
scopes-equal None (Some y) e = cc
scopes-equal (Some x) None e = cc
scopes-equal (Some x) (Some y) e = ap Some (nat_cmp-IsAntisymmetric x y e)

pub key_cmp-IsAntisymmetric : IsAntisymmetric key_cmp
key_cmp-IsAntisymmetric x y e =
    let scope = scopes-equal x.scope y.scope (first-equal _ (slice_cmp nat_cmp x.word y.word) e) in
    let word = slice_cmp-IsAntisymmetric nat_cmp-IsAntisymmetric x.word y.word (second-equal (option_cmp nat_cmp x.scope y.scope) _ e) in
    λ i. record { scope = scope i; word = word i }
