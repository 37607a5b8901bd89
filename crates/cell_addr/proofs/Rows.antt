-- The numbers of rows' digits. Serves the reading of rows.
use Rattle.std.proofs.Common.{◌≡◌, arith, ℕ, ◌^◌, ◌≤◌, true, nat_le, List, length}
use Rattle.std.specs.List.{list_all}
use Rattle.std.proofs.lemmas.Bool.{and_parts, leb-true}
use Rattle.std.proofs.Math.Nat.{pow-le-pow_right}
use Rattle.digits.specs.Digits.{is_digit, value}
use Rattle.digits.proofs.Numerals.{value_below}
use Rattle.cell_addr.specs.Address.{is_row}

-- the seven digits of a row spell at most 9,999,999
pub value_of_row : (cs : List ℕ) → is_row cs ≡ true → value cs ≤ 9999999
value_of_row cs h =
    let p = and_parts _ _ h in
    let few = leb-true (length cs) 7 (and_parts (nat_le 1 (length cs)) (nat_le (length cs) 7) p.0).1 in
    let below = value_below cs (and_parts _ (list_all is_digit cs) p.1).1 in
    let most : 10 ^ length cs ≤ 10 ^ 7 = pow-le-pow_right {n = 10} (omega arith) {i = length cs} {j = 7} few in
    omega (arith, below, most)
