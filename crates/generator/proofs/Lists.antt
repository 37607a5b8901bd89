-- Lists that grow by the commands of one number after the other. It serves the generator.
use Rattle.std.proofs.Common.{◌≡◌, ap, refl, arith, ℕ, zero, suc, ◌+◌, ◌*◌, ◌/◌, List, [], ◌∷◌, ◌++◌, length, length-append, add-one}
use Rattle.script_lang.specs.declared.commands.Command.{Command}
use Rattle.generator.specs.Generated.{edit_commands, for_each, row_commands}

pub none : (f : ℕ → List Command) → for_each f 0 ≡ []
unfolding for_each
none f = refl

one : (f : ℕ → List Command) (n : ℕ) → for_each f (suc n) ≡ for_each f n ++ f (suc n)
unfolding for_each
one f n = refl

-- the commands up to a number, and those of the next
pub one_more : (f : ℕ → List Command) (n : ℕ) → for_each f (n + 1) ≡ for_each f n ++ f (n + 1)
one_more f n = rw add-one (one f n)

-- where each number has so many commands
long : (f : ℕ → List Command) (k n : ℕ) → ((i : ℕ) → length (f i) ≡ k) → length (for_each f n) ≡ k * n
unfolding for_each
long f k zero h = omega arith
long f k (suc n) h =
    let before = long f k n h in
    let size = length-append (for_each f n) (f (suc n)) in
    let here = h (suc n) in
    omega (arith, before, size, here)

-- a list of rows, edits and two commands more has so many
pub counted : (n j : ℕ) (items once twice : List Command) (a b : Command) → items ≡ for_each row_commands n ++ for_each (edit_commands n) j → j ≡ n / 100 → once ≡ items ++ a ∷ [] → twice ≡ once ++ b ∷ []
    → length twice ≡ 2 * n + 6 * (n / 100) + 2
counted n j items once twice a b is end first second =
    let rows = long row_commands 2 n (λ i. refl) in
    let edits = long (edit_commands n) 6 j (λ i. refl) in
    omega (arith, end, rows, edits, ap length is, length-append (for_each row_commands n) (for_each (edit_commands n) j), ap length first, length-append items (a ∷ []), ap length second, length-append once (b ∷ []))
