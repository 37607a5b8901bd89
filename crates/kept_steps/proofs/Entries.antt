-- What a map of names has under the key of each entry. Serves the books of frames.
use Rattle.std.proofs.Common.{◌≡◌, ◌∙◌, ap, refl, Bool, true, false, cond, ◌&&◌, List, [], ◌∷◌, Option, Some}
use Rattle.std.specs.Prelude.{T}
use Rattle.std.specs.Cmp.{IsTotalOrder, tied_itself}
use Rattle.std.specs.FinMap as fin
use Rattle.std.specs.FinMap.{FinMap, entries_sorted, find, get-entries, is_sorted}
use Rattle.std.specs.FinMap.Entries.{below_all}
use Rattle.std.specs.List.{AllByRecursion, cons_option, filter_map}
use Rattle.std.specs.Ordering.{eq_by_cmp, is_eq, is_lt, ordering_reverse}
use Rattle.std.specs.declared.cmp.Ordering.{Ordering}
use Rattle.std.specs.declared.cmp.Ordering.TheVariants.{Less, Equal, Greater}

first_of : (a b : Bool) → T (a && b) → T a
first_of true b h = tt
first_of false b h = h

second_of : (a b : Bool) → T (a && b) → T b
second_of true b h = h
second_of false b h = absurd h

less-is : (r : Ordering) → T (is_lt r) → is_eq (ordering_reverse r) ≡ false
less-is Less h = refl
less-is Equal h = absurd h
less-is Greater h = absurd h

module _ {K X : Type 0} {R : K → K → Ordering} (o : IsTotalOrder R) where
  -- entries of a list behind one entry more
  behind : (e : K × X) (all es : List (K × X)) → T (below_all R e.0 es) → AllByRecursion (λ x. find R x.0 all ≡ Some x.1) es → AllByRecursion (λ x. find R x.0 (e ∷ all) ≡ Some x.1) es
  behind e all [] below h = tt
  behind e all (x ∷ es) below h =
      let other : eq_by_cmp R x.0 e.0 ≡ false = ap is_eq (o.antisymm x.0 e.0) ∙ less-is (R e.0 x.0) (first_of _ _ below) in
      (ap (λ b. cond b (Some e.1) (find R x.0 all)) other ∙ h.0, behind e all es (second_of _ _ below) h.1)

  found_each : (es : List (K × X)) → T (is_sorted R es) → AllByRecursion (λ x. find R x.0 es ≡ Some x.1) es
  found_each [] s = tt
  found_each (e ∷ es) s =
      let here : eq_by_cmp R e.0 e.0 ≡ true = ap is_eq (tied_itself o e.0) in
      (ap (λ b. cond b (Some e.1) (find R e.0 es)) here, behind e es es (first_of _ _ s) (found_each es (second_of _ _ s)))

  -- what holds of a key with the value under it holds of each entry
  spread : (P : K × X → Type 0) (all es : List (K × X)) → ((k : K) (x : X) → find R k all ≡ Some x → P (k, x)) → AllByRecursion (λ x. find R x.0 all ≡ Some x.1) es → AllByRecursion P es
  spread P all [] h each = tt
  spread P all (e ∷ es) h each = (h e.0 e.1 each.0, spread P all es h each.1)

  pub each_entry : (P : K × X → Type 0) (m : FinMap R X) → ((k : K) (x : X) → fin.get m k ≡ Some x → P (k, x)) → AllByRecursion P (fin.entries m)
  each_entry P m h = spread P (fin.entries m) (fin.entries m) (λ k x e. h k x (get-entries m k ∙ e)) (found_each (fin.entries m) (entries_sorted m))

-- a list is carried to the same by functions that do the same to each of it
pub filter_map_same : {X Y : Type 0} (f g : X → Option Y) (xs : List X) → AllByRecursion (λ x. f x ≡ g x) xs → filter_map f xs ≡ filter_map g xs
filter_map_same f g [] h = refl
filter_map_same f g (x ∷ xs) h = (λ i. cons_option (h.0 i) (filter_map_same f g xs h.1 i))
