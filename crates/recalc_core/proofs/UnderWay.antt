-- Kept values become right, one node after another. Serves recalculation.
use Rattle.std.proofs.Common.{◌≡◌, ◌∙◌, sym, ap, refl, subst, ℕ, ℤ, ◌+◌, ◌<◌, ◌≤◌, Bool, true, false, cond, ◌||◌, List, length, take, get_or, Option, Some, None, ◌⊎◌, inl, inr, ⊎_elim, Result, Ok, Err, OnOk}
use Rattle.std.specs.declared.alloc.AllocError.{AllocError}
use Rattle.std.proofs.lemmas.Bool.{false≢true, or_cases, or_right}
use Rattle.std.proofs.lemmas.List.{take_all}
use Rattle.std.proofs.lemmas.List.Folds.{list_any_at, list_any_more}
use Rattle.cell_value.specs.declared.scalar.Scalar.{Scalar}
use Rattle.custom_fn.specs.declared.rule.Rule.{Rule}
use Rattle.formula_tree.specs.Reference.{sheet_of}
use Rattle.formula_tree.specs.Relative.{relative}
use Rattle.formula_tree.specs.StandsFor.{at_home}
use Rattle.formula_tree.specs.declared.node.Node as term
use Rattle.formula_tree.specs.declared.reference.Home.{Home}
use Rattle.std.specs.declared.alloc.Global.{Global}
use Rattle.std.specs.declared.rc.Rc.{Rc}
use Rattle.book_values.specs.Workbook as book
use Rattle.book_values.specs.Workbook.{Workbook, home_of, tree_at}
use Rattle.dep_graph.specs.Nodes.{has, same_node}
use Rattle.dep_graph.specs.declared.node.Node.{Node}
use Rattle.dep_graph.specs.internal.Hashed.{own_node, same_nodes}
use Rattle.recalc_core.specs.Given.{HasGivenAt, IsGiven}
use Rattle.recalc_core.specs.Kept.{AreRight, IsRight, Kept, expected_at}
use Rattle.recalc_core.specs.Nodes.{node_at}
use Rattle.recalc_core.specs.Steps.{cost_of, node_cost, tree_cost}
use Rattle.recalc_core.specs.declared.trees.NodeContent.{NodeContent}
use Rattle.recalc_core.specs.declared.trees.NodeContent.TheVariants as given
use Rattle.recalc_core.specs.internal.KeptTables.{IsPut}
use Rattle.recalc_core.specs.internal.UnderWay.{AreCycles, DifferWithin, DiffersAt, IsMeaning, IsPlan, IsReady, IsUnderWay, IsWithinCost, ShowsCycle}
use Rattle.recalc_core.proofs.Worked.{meaning_expected, nothing_expected, ready_within, value_expected}

on_ok : {P Q : Type 0} (r : Result (Unit {0}) AllocError) → (P → Q) → OnOk r P → OnOk r Q
on_ok (Ok u) as_good h = as_good h
on_ok (Err e) as_good h = tt

module _ (b : Workbook) (words : List (List ℕ)) (customs : List (List ℕ × Rule)) (today : ℤ) where
  abbrev Right : Kept → Node → Type 0
  Right kept a = IsRight b words customs today kept a

  -- what is put of a node is right where it is what should be kept
  put_right : (a : Node) (value : Option Scalar) (old new : Kept) → IsPut a value old new → expected_at b customs today (node_at words a) ≡ value → Right new a
  put_right a value old new put should plain = put a ∙ ap (λ t. cond t value (old a)) (own_node a) ∙ sym should

  given_value : (s : Scalar) (o : Option book.Node) → HasGivenAt b o (given.Value s) → expected_at b customs today o ≡ Some s
  given_value s (Some x) has_it = value_expected b customs today x s has_it
  given_value s None has_it = absurd (apart has_it)
    where
      apart : given.Value s ≡ given.Nothing → ⊥
      apart e = cc

  given_nothing : (o : Option book.Node) → HasGivenAt b o given.Nothing → expected_at b customs today o ≡ None
  given_nothing (Some x) has_it = nothing_expected b customs today x has_it
  given_nothing None has_it = refl

  given_formula : (a : Node) (tree : Rc term.Node Global) (home : Home) (s : Scalar) (kept : Kept) (o : Option book.Node) → IsReady b words customs today kept a → node_at words a ≡ o → HasGivenAt b o (given.Formula tree home)
      → IsMeaning b words customs today kept home (at_home home (relative tree.value)) s → expected_at b customs today o ≡ Some s
  given_formula a tree home s kept (Some x) ready at (same, tree_is) means =
      meaning_expected b customs today words kept a x (at_home home (relative tree.value)) s ready at tree_is (subst (λ h. IsMeaning b words customs today kept h (at_home home (relative tree.value)) s) same means)
  given_formula a tree home s kept None ready at has_it means = absurd (apart has_it)
    where
      apart : given.Formula tree home ≡ given.Nothing → ⊥
      apart e = cc

  pub value_right : (a : Node) (s : Scalar) (has_it : NodeContent) (old new : Kept) (r : Result (Unit {0}) AllocError) → IsGiven b words a has_it → has_it ≡ given.Value s → OnOk r (IsPut a (Some s) old new) → OnOk r (Right new a)
  value_right a s has_it old new r here is put = on_ok r (λ p. put_right a (Some s) old new p (given_value s (node_at words a) (subst (IsGiven b words a) is here))) put

  pub nothing_right : (a : Node) (has_it : NodeContent) (old new : Kept) (r : Result (Unit {0}) AllocError) → IsGiven b words a has_it → has_it ≡ given.Nothing → OnOk r (IsPut a None old new) → OnOk r (Right new a)
  nothing_right a has_it old new r here is put = on_ok r (λ p. put_right a None old new p (given_nothing (node_at words a) (subst (IsGiven b words a) is here))) put

  pub formula_right : (a : Node) (tree : Rc term.Node Global) (home : Home) (s : Scalar) (has_it : NodeContent) (kept old new : Kept) (r : Result (Unit {0}) AllocError) → IsReady b words customs today kept a
      → IsGiven b words a has_it → has_it ≡ given.Formula tree home → IsMeaning b words customs today kept home (at_home home (relative tree.value)) s → OnOk r (IsPut a (Some s) old new) → OnOk r (Right new a)
  formula_right a tree home s has_it kept old new r ready here is means put =
      on_ok r (λ p. put_right a (Some s) old new p (given_formula a tree home s kept (node_at words a) ready refl (subst (IsGiven b words a) is here) means)) put

  -- and took no more than the node costs
  given_within : (a : Node) (tree : Rc term.Node Global) (home : Home) (kept : Kept) (old new : ℕ) (o : Option book.Node) → IsReady b words customs today kept a → node_at words a ≡ o → HasGivenAt b o (given.Formula tree home)
      → IsWithinCost b words today kept home (at_home home (relative tree.value)) old new → new ≤ old + cost_of b customs today o
  given_within a tree home kept old new (Some x) ready at (same, tree_is) most =
      subst (λ o. new ≤ old + tree_cost b customs today (sheet_of (home_of x)) o) (sym tree_is)
      (ready_within b customs today words kept a x (at_home home (relative tree.value)) old new ready at tree_is (subst (λ h. IsWithinCost b words today kept h (at_home home (relative tree.value)) old new) same most))
  given_within a tree home kept old new None ready at has_it most = absurd (apart has_it)
    where
      apart : given.Formula tree home ≡ given.Nothing → ⊥
      apart e = cc

  pub formula_within : (a : Node) (tree : Rc term.Node Global) (home : Home) (has_it : NodeContent) (kept : Kept) (old new : ℕ) → IsReady b words customs today kept a → IsGiven b words a has_it → has_it ≡ given.Formula tree home
      → IsWithinCost b words today kept home (at_home home (relative tree.value)) old new → new ≤ old + node_cost b words customs today a
  formula_within a tree home has_it kept old new ready here is most = given_within a tree home kept old new (node_at words a) ready refl (subst (IsGiven b words a) is here) most

  -- ---- the loop over the order

  right_still : (a : Node) (old new : Kept) → new a ≡ old a → Right old a → Right new a
  right_still a old new same right plain = same ∙ right plain

  pub next_ready : (order : List Node) (i : ℕ) (a : Node) (kept : Kept) → IsPlan b words customs today order → IsUnderWay b words customs today order i kept → i < length order → a ≡ get_or order i a → IsReady b words customs today kept a
  next_ready order i a kept plan way low is x at =
      let (good, sorted) = plan i a x low is at in
      (good, λ z c leads to. ⊎_elim (λ (out : has c order ≡ false). way.others c out) (λ (before : has c (take i order) ≡ true). way.done c before) (sorted z c leads to))

  pub in_order : (order : List Node) (i : ℕ) (a : Node) → i < length order → a ≡ get_or order i a → has a order ≡ true
  in_order order i a low is = list_any_at (same_node a) order i a low (ap (same_node a) (sym is) ∙ own_node a)

  -- one of the first nodes and one more is one of the first, or that one
  front_or_last : (order : List Node) (i : ℕ) (a c : Node) → i < length order → a ≡ get_or order i a → has c (take (i + 1) order) ≡ true → (has c (take i order) ≡ true) ⊎ (c ≡ a)
  front_or_last order i a c low is h = ⊎_elim
      (λ (before : has c (take i order) ≡ true). inl before)
      (λ (last : same_node c (get_or order i a) ≡ true). inr (same_nodes c (get_or order i a) last ∙ sym is))
      (or_cases (has c (take i order)) (same_node c (get_or order i a)) (sym (list_any_more (same_node c) order i a low) ∙ h))

  -- one node more is right
  pub way_on : (order : List Node) (i : ℕ) (a : Node) (old new : Kept) → IsUnderWay b words customs today order i old → i < length order → a ≡ get_or order i a → DiffersAt a old new → Right new a → IsUnderWay b words customs today order (i + 1) new
  way_on order i a old new way low is differs right = record {
    done = λ c h. done c (front_or_last order i a c low is h);
    others = λ c out. others c out (same_node a c) refl;
  }
    where
      apart_or : (c : Node) (t : Bool) → same_node a c ≡ t → Right old c → Right new c
      apart_or c true e before = subst (Right new) (same_nodes a c e) right
      apart_or c false e before = right_still c old new (differs c e) before

      done : (c : Node) → (has c (take i order) ≡ true) ⊎ (c ≡ a) → Right new c
      done c (inl before) = apart_or c (same_node a c) refl (way.done c before)
      done c (inr same) = subst (Right new) (sym same) right

      others : (c : Node) → has c order ≡ false → (t : Bool) → same_node a c ≡ t → Right new c
      others c out true e = subst (Right new) (same_nodes a c e) right
      others c out false e = right_still c old new (differs c e) (way.others c out)

  pub all_right : (order : List Node) (i : ℕ) (kept : Kept) → length order ≤ i → IsUnderWay b words customs today order i kept → AreRight b words customs today kept
  all_right order i kept past way a = by (has a order) refl
    where
      by : (t : Bool) → has a order ≡ t → Right kept a
      by true e = way.done a (ap (has a) (take_all i order past) ∙ e)
      by false e = way.others a e

-- ---- lists of nodes as sets

pub set_more : (nodes : List Node) (i : ℕ) (d a : Node) (old new : Bool) → i < length nodes → old ≡ has a (take i nodes) → new ≡ cond (same_node (get_or nodes i d) a) true old → new ≡ has a (take (i + 1) nodes)
set_more nodes i d a old new low was is = by (same_node (get_or nodes i d) a) refl
  where
    whole : has a (take (i + 1) nodes) ≡ (has a (take i nodes) || same_node a (get_or nodes i d))
    whole = list_any_more (same_node a) nodes i d low

    by : (t : Bool) → same_node (get_or nodes i d) a ≡ t → new ≡ has a (take (i + 1) nodes)
    by true e =
        is ∙ ap (λ t. cond t true old) e
        ∙ sym (whole ∙ or_right (has a (take i nodes)) (same_node a (get_or nodes i d)) (ap (same_node a) (same_nodes (get_or nodes i d) a e) ∙ own_node a))
    by false e =
        is ∙ ap (λ t. cond t true old) e ∙ was
        ∙ sym (whole ∙ ap (λ t. has a (take i nodes) || t) (other (same_node a (get_or nodes i d)) refl) ∙ or_none (has a (take i nodes)))
      where
        other : (t : Bool) → same_node a (get_or nodes i d) ≡ t → same_node a (get_or nodes i d) ≡ false
        other true s = absurd (false≢true (sym e ∙ ap (λ n. same_node n a) (sym (same_nodes a (get_or nodes i d) s)) ∙ own_node a))
        other false s = s

        or_none : (t : Bool) → (t || false) ≡ t
        or_none true = refl
        or_none false = refl

-- ---- the loop over those on a cycle

-- one node more shows the cycle
pub cycles_on : (nodes order : List Node) (i : ℕ) (a : Node) (old new : Kept) → i < length nodes → a ≡ get_or nodes i a → AreCycles (take i nodes) order old → DiffersAt a old new → ShowsCycle new a → AreCycles (take (i + 1) nodes) order new
cycles_on nodes order i a old new low is cycles differs shows c h out = by (same_node a c) refl
  where
    by : (t : Bool) → same_node a c ≡ t → ShowsCycle new c
    by true e = subst (ShowsCycle new) (same_nodes a c e) shows
    by false e = λ no_range. differs c e ∙ cycles c (before (or_cases (has c (take i nodes)) (same_node c (get_or nodes i a)) (sym (list_any_more (same_node c) nodes i a low) ∙ h))) out no_range
      where
        before : (has c (take i nodes) ≡ true) ⊎ (same_node c (get_or nodes i a) ≡ true) → has c (take i nodes) ≡ true
        before (inl front) = front
        before (inr last) = absurd (false≢true (sym e ∙ ap (λ n. same_node n c) is ∙ ap (λ n. same_node n c) (sym (same_nodes c (get_or nodes i a) last)) ∙ own_node c))

-- one that is in the order is left
pub cycles_skip : (nodes order : List Node) (i : ℕ) (a : Node) (kept : Kept) → i < length nodes → a ≡ get_or nodes i a → has a order ≡ true → AreCycles (take i nodes) order kept → AreCycles (take (i + 1) nodes) order kept
cycles_skip nodes order i a kept low is here cycles c h out =
    cycles c (before (or_cases (has c (take i nodes)) (same_node c (get_or nodes i a)) (sym (list_any_more (same_node c) nodes i a low) ∙ h))) out
  where
    before : (has c (take i nodes) ≡ true) ⊎ (same_node c (get_or nodes i a) ≡ true) → has c (take i nodes) ≡ true
    before (inl front) = front
    before (inr last) = absurd (false≢true (sym out ∙ ap (λ n. has n order) (same_nodes c (get_or nodes i a) last ∙ sym is) ∙ here))

pub within_more : (nodes : List Node) (i : ℕ) (a : Node) (start old new : Kept) → i < length nodes → a ≡ get_or nodes i a → DifferWithin nodes start old → DiffersAt a old new → DifferWithin nodes start new
within_more nodes i a start old new low is within differs c out = by (same_node a c) refl
  where
    by : (t : Bool) → same_node a c ≡ t → new c ≡ start c
    by true e = absurd (false≢true (sym out ∙ ap (λ n. has n nodes) (sym (same_nodes a c e)) ∙ list_any_at (same_node a) nodes i a low (ap (same_node a) (sym is) ∙ own_node a)))
    by false e = differs c e ∙ within c out
