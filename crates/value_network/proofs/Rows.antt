-- A row is a network without cycles, and working it out in order gives its values.
use Rattle.std.proofs.Common.{◌≡◌, ℕ, ◌+◌, ◌<◌, ◌%◌, ◌^◌, ◌||◌, Bool, true, false, List, [], ◌∷◌, ◌++◌, map, length, nat_eq, nat_lt, if◌then◌else◌, sym, refl, ap, ap₂, ◌∙◌, subst, ⊎_elim, zero-add}
use Rattle.std.specs.Prelude.{slice_index}
use Rattle.std.proofs.lemmas.List.{get_or_past}
use Rattle.std.specs.List.{range_with_len}
use Rattle.std.proofs.lemmas.Bool.{cases_lt, and_parts, and_from, or_left, or_right, false≢true, eqb-true, eq-eqb, ltb-true}
use Rattle.std.proofs.lemmas.List.FromFn.{length-range_with_len, get_or-range_with_len, get_or-map-range_with_len, length-map-range_with_len, map-range_with_len_more}
use Rattle.value_network.specs.declared.row.Slot.{Slot}
use Rattle.value_network.specs.declared.row.Slot.TheVariants.{Number, Sum}
use Rattle.value_network.specs.Network.{IsNetwork, at_once}
use Rattle.value_network.specs.Laws.{HasNoCycle, CoversCycles}
use Rattle.value_network.specs.Row.{number_before, number_of, mentions, slot_at, row_network, row_value}
use Rattle.value_network.proofs.ListTests.{any_from}
use Rattle.value_network.proofs.Orders.{no_cycle_by_rank, led_lower}
use Rattle.value_network.proofs.Stuck.{no_cycle_covers}
use Rattle.value_network.proofs.Values.{works_in_place}

-- a slot that a sum mentions stands before it
mentions_before : (home : ℕ) (slot : Slot) (place : ℕ) → mentions home slot place ≡ true → place < home
mentions_before home (Number n) place h = absurd (false≢true h)
mentions_before home (Sum left right) place h = ltb-true place home (and_parts (nat_lt place home) (nat_eq place left || nat_eq place right) h).0

-- past the end there is no sum
mentions_within : (row : List Slot) (home place : ℕ) → mentions home (slot_at row home) place ≡ true → home < length row
mentions_within row home place h = ⊎_elim
    (λ within. within)
    (λ past. absurd (false≢true (ap (λ slot. mentions home slot place) (sym (get_or_past row home (Number 0) past)) ∙ h)))
    (cases_lt home (length row))

-- what a slot adds rests on its number alone
number_before_reads : (v w : ℕ → ℕ) (home place : ℕ) → (nat_lt place home ≡ true → v place ≡ w place) → number_before v home place ≡ number_before w home place
number_before_reads v w home place alike = go (nat_lt place home) refl
  where
    go : (b : Bool) → nat_lt place home ≡ b → (if b then v place else 0) ≡ (if b then w place else 0)
    go true e = alike e
    go false e = refl

-- what a slot works out rests on the slots that it mentions
number_of_reads : (home : ℕ) (slot : Slot) (v w : ℕ → ℕ) → ((place : ℕ) → mentions home slot place ≡ true → v place ≡ w place) → number_of v home slot ≡ number_of w home slot
number_of_reads home (Number n) v w alike = refl
number_of_reads home (Sum left right) v w alike = ap₂ (λ x y. (x + y) % 2 ^ 32)
    (number_before_reads v w home left (λ e. alike left (and_from (nat_lt left home) (nat_eq left left || nat_eq left right) e (or_left (nat_eq left left) (nat_eq left right) (eq-eqb left left refl)))))
    (number_before_reads v w home right (λ e. alike right (and_from (nat_lt right home) (nat_eq right left || nat_eq right right) e (or_right (nat_eq right left) (nat_eq right right) (eq-eqb right right refl)))))

pub row_is_network : (row : List Slot) → IsNetwork (row_network row)
row_is_network row = record {
  same_equal = λ a b h. eqb-true a b h;
  same_self = λ a. eq-eqb a a refl;
  needs_formula = λ a b h. let within = mentions_within row a b h in any_from (nat_eq a) (range_with_len 0 (length row)) a (a, subst (λ n. a < n) (sym (length-range_with_len 0 (length row))) within, get_or-range_with_len 0 (length row) a a within ∙ zero-add a) (eq-eqb a a refl);
  reads_needs = λ a v w alike. number_of_reads a (slot_at row a) v w (λ place h. alike place (at_once h));
}

-- sums look back alone, so no slot is on a cycle
pub row_has_no_cycle : (row : List Slot) → HasNoCycle (row_network row)
row_has_no_cycle row = no_cycle_by_rank (row_network row) (λ a. a) (λ a b h. mentions_before a (slot_at row a) b h)

covers : (row : List Slot) → CoversCycles (row_network row) (λ _. false)
covers row = no_cycle_covers (row_network row) (λ _. false) (row_has_no_cycle row)

-- over the values of the slots before it a slot works out its own
pub number_in_order : (row : List Slot) (home : ℕ) (numbers : List ℕ) → numbers ≡ map (row_value row) (range_with_len 0 home) → number_of (λ place. slice_index numbers place) home (slot_at row home) ≡ row_value row home
number_in_order row home numbers done = works_in_place (row_network row) (row_is_network row) (λ _. false) (covers row) home (λ place. slice_index numbers place) refl
    (λ place led. ap (λ xs. slice_index xs place) done ∙ get_or-map-range_with_len (row_value row) 0 home place place 0 (led_lower (row_network row) (λ a. a) (λ a b h. mentions_before a (slot_at row a) b h) led) (zero-add place))

-- one value more in order
pub numbers_more : (row : List Slot) (home : ℕ) (numbers : List ℕ) (number : ℕ) → numbers ≡ map (row_value row) (range_with_len 0 home) → number ≡ number_of (λ place. slice_index numbers place) (length numbers) (slot_at row home) → numbers ++ number ∷ [] ≡ map (row_value row) (range_with_len 0 (home + 1))
numbers_more row home numbers number done is = ap₂ (λ xs x. xs ++ x ∷ []) done (is ∙ ap (λ n. number_of (λ place. slice_index numbers place) n (slot_at row home)) placed ∙ number_in_order row home numbers done) ∙ sym (map-range_with_len_more (row_value row) 0 home home (zero-add home))
  where
    placed : length numbers ≡ home
    placed = ap length done ∙ length-map-range_with_len (row_value row) 0 home
