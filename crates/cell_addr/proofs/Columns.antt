-- The numbers of columns' letters. Serves the reading and the printing of columns.
use Rattle.std.proofs.Common.{◌≡◌, refl, ℕ, ◌+◌, ◌*◌, ◌<◌, List, [], ◌∷◌, ◌++◌, length, take, get_or}
use Rattle.std.proofs.lemmas.List.{take_more}
use Rattle.cell_addr.specs.Address.{letter_number, letters_number_from, letters_number}

pub letters_number_from-append : (n : ℕ) (xs ys : List ℕ) → letters_number_from n (xs ++ ys) ≡ letters_number_from (letters_number_from n xs) ys
letters_number_from-append n [] ys = refl
letters_number_from-append n (x ∷ xs) ys = letters_number_from-append (26 * n + letter_number x) xs ys

pub letters_number_more : (cs : List ℕ) (i : ℕ) → i < length cs → letters_number (take (i + 1) cs) ≡ 26 * letters_number (take i cs) + letter_number (get_or cs i 0)
letters_number_more cs i h = rw (take_more cs i 0 h) (letters_number_from-append 0 (take i cs) (get_or cs i 0 ∷ []))
