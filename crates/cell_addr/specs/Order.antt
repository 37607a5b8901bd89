-- The order of places, and the code by which a map of places can stand for a struct's value.
use Rattle.std.specs.Prelude.{ℕ, refl}
use Rattle.std.specs.declared.cmp.Ordering.{Ordering}
use Rattle.std.specs.Ordering.{nat_cmp, ordering_then}
use Rattle.std.specs.Coded.{Coded, code_by, coded×, coded_ℕ}
use Rattle.cell_addr.specs.declared.place.Place.{Place}

-- by sheet, then by row, then by column, as the derived order compares places
abbrev pub place_cmp : Place → Place → Ordering
place_cmp a b = ordering_then (nat_cmp a.sheet b.sheet) (ordering_then (nat_cmp a.row b.row) (nat_cmp a.col b.col))

-- a place is stored as its sheet, its row and its column
abbrev pub place_code : Coded Place
place_code = code_by (ℕ × (ℕ × ℕ)) (coded× coded_ℕ (coded× coded_ℕ coded_ℕ)) (λ p. (p.sheet, (p.row, p.col))) (λ c. record { sheet = c.0; row = c.1.0; col = c.1.1 }) (λ _. refl)
