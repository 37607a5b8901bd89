-- Addresses in order lie within the limits where they did before. Serves pasted blocks.
use Rattle.std.proofs.Common.{◌≡◌, ℕ, refl, Bool, true, false, cond, ◌&&◌, Some, None}
use Rattle.std.specs.Prelude.{nat_lt}
use Rattle.formula_tree.specs.Grammar.{last_of}
use Rattle.formula_tree.specs.declared.address.Address.{Address}
use Rattle.cell_addr.specs.declared.place.TheConstants.{ROWS, COLS}
use Rattle.tree_rewrite.specs.Pasted.{is_inside}

parts : (a b : Bool) → (a && b) ≡ true → (a ≡ true) × (b ≡ true)
parts true b h = (refl, h)
parts false b h = absurd (cc)

chosen : (b : Bool) (x y n : ℕ) → nat_lt x n ≡ true → nat_lt y n ≡ true → nat_lt (cond b x y) n ≡ true
chosen true x y n h k = h
chosen false x y n h k = k

conjoined : (a b : Bool) → a ≡ true → b ≡ true → (a && b) ≡ true
conjoined a b h k = rw (h, k) refl

pub last-inside : (a b : Address) → (is_inside a && is_inside b) ≡ true → is_inside (last_of a b) ≡ true
last-inside a b h =
    let both = parts (is_inside a) (is_inside b) h in
    let i = parts (nat_lt a.row ROWS) (nat_lt a.col COLS) both.0 in
    let j = parts (nat_lt b.row ROWS) (nat_lt b.col COLS) both.1 in
    conjoined _ _ (chosen (nat_lt b.row a.row) a.row b.row ROWS i.0 j.0) (chosen (nat_lt b.col a.col) a.col b.col COLS i.1 j.1)

-- a sheet that is there, where all fits
pub fits-there : (b fits : Bool) (n m : ℕ) → cond (b && fits) (Some n) None ≡ Some m → fits ≡ true
fits-there true true n m h = refl
fits-there true false n m h = cc
fits-there false fits n m h = cc
