-- What a list of entries has at a key once each entry is carried to another key, or dropped. Serves the laws on moved maps.
use Rattle.std.proofs.Common.{◌≡◌, ◌∙◌, sym, ap, refl, ◌↔◌, Bool, true, false, cond, List, [], ◌∷◌, Option, Some, None, option_map, subst, IsSome}
use Rattle.std.specs.List.{cons_option}
use Rattle.std.specs.List.{filter_map, AllByRecursion}
use Rattle.std.specs.declared.cmp.Ordering.{Ordering}
use Rattle.std.specs.declared.cmp.Ordering.TheVariants.{Less, Equal, Greater}
use Rattle.std.specs.Ordering.{is_eq, eq_by_cmp}
use Rattle.std.specs.Cmp.{IsTotalOrder, tied_itself}
use Rattle.std.specs.FinMap.{find, IsAntisymmetric}
use Rattle.std.proofs.lemmas.Option.{same_Some}

-- an entry at the key that its own key is carried to; none where it is carried to none
abbrev pub carried_entry : {K P X : Type 0} → (K → Option P) → K × X → Option (P × X)
carried_entry f e = option_map (λ q. (q, e.1)) (f e.0)

is_eq-Equal : (r : Ordering) → is_eq r ≡ true → r ≡ Equal
is_eq-Equal Less h = cc
is_eq-Equal Equal h = refl
is_eq-Equal Greater h = cc

-- tests that decide facts which say the same are one
pub same_test : {A B : Type 0} (a b : Bool) → (a ≡ true) ↔ A → (b ≡ true) ↔ B → A ↔ B → a ≡ b
same_test true true f g h = refl
same_test true false f g h = sym (g.1 (h.0 (f.0 refl)))
same_test false true f g h = f.1 (h.1 (g.0 refl))
same_test false false f g h = refl

pub eq_by_cmp-decides : {K : Type 0} {R : K → K → Ordering} → IsTotalOrder R → IsAntisymmetric R → (x y : K) → (eq_by_cmp R x y ≡ true) ↔ (x ≡ y)
eq_by_cmp-decides {R = R} o only x y = (λ t. only x y (is_eq-Equal (R x y) t), λ e. ap (λ z. eq_by_cmp R x z) (sym e) ∙ ap is_eq (tied_itself o x))

module _ {K P X : Type 0} {R : K → K → Ordering} {S : P → P → Ordering} (o : IsTotalOrder R) (only : IsAntisymmetric R) (t : IsTotalOrder S) (alone : IsAntisymmetric S) where
  -- the first entry is carried to q exactly where its key is k
  step : (q : P) (k : K) (e : K × X) (r : Option P) (rest : List (P × X)) (others : Option X) → (r ≡ Some q) ↔ (k ≡ e.0) → find S q rest ≡ others
      → find S q (cons_option (option_map (λ p. (p, e.1)) r) rest) ≡ cond (eq_by_cmp R k e.0) (Some e.1) others
  step q k e None rest others w h =
      let none : eq_by_cmp R k e.0 ≡ false = same_test (eq_by_cmp R k e.0) false (eq_by_cmp-decides o only k e.0) ((λ b. cc), (λ b. cc)) (w.1, w.0) in rw none h
  step q k e (Some p) rest others w h =
      let one : eq_by_cmp S q p ≡ eq_by_cmp R k e.0 =
      same_test (eq_by_cmp S q p) (eq_by_cmp R k e.0) (eq_by_cmp-decides t alone q p) (eq_by_cmp-decides o only k e.0)
      ((λ same. w.0 (ap (λ x. Some x) (sym same))), (λ here. sym (same_Some _ _ (w.1 here)))) in
      rw (one, h) refl

  pub find-carried : (f : K → Option P) (q : P) (k : K) (es : List (K × X)) → AllByRecursion (λ e. (f e.0 ≡ Some q) ↔ (k ≡ e.0)) es
      → find S q (filter_map (carried_entry f) es) ≡ find R k es
  find-carried f q k [] w = refl
  find-carried f q k (e ∷ es) w = step q k e (f e.0) (filter_map (carried_entry f) es) (find R k es) w.0 (find-carried f q k es w.1)

module _ {P X : Type 0} {S : P → P → Ordering} (t : IsTotalOrder S) (alone : IsAntisymmetric S) where
  missed : (q : P) (x : X) (r : Option P) (rest : List (P × X)) → (r ≡ Some q → ⊥) → find S q rest ≡ None → find S q (cons_option (option_map (λ p. (p, x)) r) rest) ≡ None
  missed q x None rest w h = h
  missed q x (Some p) rest w h =
      let none : eq_by_cmp S q p ≡ false = same_test (eq_by_cmp S q p) false (eq_by_cmp-decides t alone q p) ((λ b. cc), (λ b. absurd b)) ((λ same. absurd (w (ap (λ z. Some z) (sym same)))), (λ bad. absurd bad)) in rw none h

  arrived : (Q : P → Type 0) (q p : P) (x : X) (rest : Option X) (b : Bool) → eq_by_cmp S q p ≡ b → Q p → (IsSome rest → Q q) → IsSome (cond b (Some x) rest) → Q q
  arrived Q q p x rest true e here others h = subst Q (sym ((eq_by_cmp-decides t alone q p).0 e)) here
  arrived Q q p x rest false e here others h = others h

  somewhere : (Q : P → Type 0) (q : P) (x : X) (r : Option P) (rest : List (P × X)) → ((y : P) → r ≡ Some y → Q y) → (IsSome (find S q rest) → Q q)
      → IsSome (find S q (cons_option (option_map (λ p. (p, x)) r) rest)) → Q q
  somewhere Q q x None rest here others h = others h
  somewhere Q q x (Some p) rest here others h = arrived Q q p x (find S q rest) (eq_by_cmp S q p) refl (here p refl) others h

module _ {K P X : Type 0} {S : P → P → Ordering} (t : IsTotalOrder S) (alone : IsAntisymmetric S) where
  -- nothing is found where no entry is carried to
  pub find-carried_nowhere : (f : K → Option P) (q : P) (es : List (K × X)) → AllByRecursion (λ e. f e.0 ≡ Some q → ⊥) es → find S q (filter_map (carried_entry f) es) ≡ None
  find-carried_nowhere f q [] w = refl
  find-carried_nowhere f q (e ∷ es) w = missed t alone q e.1 (f e.0) (filter_map (carried_entry f) es) w.0 (find-carried_nowhere f q es w.1)

  -- what holds of each key that an entry is carried to holds where something is found
  pub find-carried_somewhere : (f : K → Option P) (Q : P → Type 0) (es : List (K × X)) → AllByRecursion (λ e. (y : P) → f e.0 ≡ Some y → Q y) es
      → (q : P) → IsSome (find S q (filter_map (carried_entry f) es)) → Q q
  find-carried_somewhere f Q [] w q h = cc
  find-carried_somewhere f Q (e ∷ es) w q h = somewhere t alone Q q e.1 (f e.0) (filter_map (carried_entry f) es) w.0 (find-carried_somewhere f Q es w.1 q) h
