-- The function that is found under a name. Serves the registry of custom functions, whose functions stand under their
-- names.
use Rattle.std.proofs.Common.{◌≡◌, ◌∙◌, sym, ap, refl, ℕ, Bool, true, false, cond, List, [], ◌∷◌, map, Option, Some, None, is_some, option_map}
use Rattle.std.specs.Prelude.{find, All}
use Rattle.std.specs.Map.{lookup, values_of}
use Rattle.std.specs.Cmp.Lexicographic.{nat_list_eq_equiv}
use Rattle.std.proofs.lemmas.List.Elements.{All-head, All-tail}
use Rattle.cell_addr.specs.Text.{folded}
use Rattle.cell_addr.specs.Sheets.{same_name}

turned : (a b : List ℕ) → same_name a b ≡ same_name b a
turned a b = nat_list_eq_equiv.symm (folded a) (folded b)

map-by : {X Y : Type 0} (a b : Bool) (f : X → Y) (x : X) (r : Option X) (s : Option Y) → a ≡ b → s ≡ option_map f r → cond a (Some (f x)) s ≡ option_map f (cond b (Some x) r)
map-by a true f x r s p e = ap (λ c. cond c (Some (f x)) s) p
map-by a false f x r s p e = ap (λ c. cond c (Some (f x)) s) p ∙ e

module _ {K C R : Type 0} (text : K → List ℕ) (name : C → List ℕ) (rule : C → R) (q : List ℕ) where
  -- what is found among the names and rules is the name and the rule of what stands under the name
  pub found-under : (es : List (K × C)) → All (λ e. text e.0 ≡ name e.1) es
      → find (λ (c : List ℕ × R). same_name c.0 q) (map (λ c. (name c, rule c)) (values_of es)) ≡ option_map (λ c. (name c, rule c)) (lookup (λ k. same_name q (text k)) es)
  found-under [] h = refl
  found-under (e ∷ es) h =
      map-by (same_name (name e.1) q) (same_name q (text e.0)) (λ c. (name c, rule c)) e.1 (lookup (λ k. same_name q (text k)) es) (find (λ (c : List ℕ × R). same_name c.0 q) (map (λ c. (name c, rule c)) (values_of es)))
      (turned (name e.1) q ∙ ap (same_name q) (sym (All-head (λ e. text e.0 ≡ name e.1) e es h)))
      (found-under es (All-tail (λ e. text e.0 ≡ name e.1) e es h))

pub none-mapped : {X Y : Type 0} (f : X → Y) (o : Option X) → option_map f o ≡ None → o ≡ None
none-mapped f None h = refl
none-mapped f (Some x) h = cc

pub missing : {X : Type 0} (o : Option X) → is_some o ≡ false → o ≡ None
missing None h = refl
missing (Some x) h = cc
