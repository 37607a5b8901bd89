-- Nodes whose formulas pass a test, noted one after another. Serves what notes them.
use Rattle.std.proofs.Common.{◌≡◌, ◌∙◌, sym, ap, refl, subst, ℕ, ◌+◌, ◌<◌, Bool, true, false, List, [], ◌∷◌, ◌++◌, length, take, get_or, Some, is_some, ◌⊎◌, inl, inr, ⊎_elim}
use Rattle.std.specs.Prelude.{IsTrue}
use Rattle.std.proofs.lemmas.Bool.{false≢true, or_left}
use Rattle.std.proofs.lemmas.List.{take_more}
use Rattle.formula_tree.specs.Relative.{relative}
use Rattle.formula_tree.specs.StandsFor.{at_home}
use Rattle.formula_tree.specs.declared.reference.Home.{Home}
use Rattle.formula_tree.specs.declared.node.Node.{Node as TreeNode}
use Rattle.std.specs.declared.alloc.Global.{Global}
use Rattle.std.specs.declared.rc.Rc.{Rc}
use Rattle.book_values.specs.Workbook as book
use Rattle.book_values.specs.Workbook.{Workbook, home_of, tree_at}
use Rattle.formula_tree.specs.Term.{Term}
use Rattle.formula_tree.specs.declared.reference.Corner.{Corner}
use Rattle.dep_graph.specs.Nodes.{has, same_node}
use Rattle.dep_graph.specs.declared.node.Node.{Node}
use Rattle.dep_graph.proofs.Places.{has-append_cases, has-append_left, has-append_right, has_one}
use Rattle.recalc_core.specs.Given.{HasGivenAt, IsGiven}
use Rattle.recalc_core.specs.Laws.{AreKnown}
use Rattle.recalc_core.specs.Nodes.{node_at}
use Rattle.recalc_core.specs.declared.trees.NodeContent.{NodeContent}
use Rattle.recalc_core.specs.declared.trees.NodeContent.TheVariants.{Formula}
use Rattle.recalc_core.proofs.Bridge.{same_some}
use Rattle.kept_values.specs.Values.{AddsNoted, AreNoted}
use Rattle.kept_values.specs.internal.Noting.{AreNotedAmong, IsNoted}
use Rattle.kept_values.proofs.LinkedAnew.{in_front}

-- ---- what was noted, and by what it grew

pub adds_none : (before : Node → Bool) → AddsNoted [] before before
adds_none before = record { stay = λ a h. h; only = λ a h. inl h }

pub adds_on : (nodes : List Node) (i : ℕ) (d : Node) (before now new : Node → Bool) → i < length nodes → AddsNoted (take i nodes) before now → ((a : Node) → now a ≡ true → new a ≡ true)
    → ((a : Node) → new a ≡ true → (now a ≡ true) ⊎ (same_node a (get_or nodes i d) ≡ true)) → AddsNoted (take (i + 1) nodes) before new
adds_on nodes i d before now new low so_far stay here = record {
  stay = λ a h. stay a (so_far.stay a h);
  only = λ a h. ⊎_elim
      (λ (was : now a ≡ true). ⊎_elim (λ (first : before a ≡ true). inl first) (λ (front : has a (take i nodes) ≡ true). inr (among a (has-append_left a (take i nodes) (get_or nodes i d ∷ []) front))) (so_far.only a was))
      (λ (same : same_node a (get_or nodes i d) ≡ true). inr (among a (has-append_right a (take i nodes) (get_or nodes i d ∷ []) (or_left (same_node a (get_or nodes i d)) false same))))
      (here a h);
}
  where
    among : (a : Node) → has a (take i nodes ++ get_or nodes i d ∷ []) ≡ true → has a (take (i + 1) nodes) ≡ true
    among a is = subst (λ ns. has a ns ≡ true) (sym (take_more nodes i d low)) is

-- the first of some nodes are some of them
pub all_added : (nodes : List Node) (i : ℕ) (before noted : Node → Bool) → AddsNoted (take i nodes) before noted → AddsNoted nodes before noted
all_added nodes i before noted so_far = record {
  stay = so_far.stay;
  only = λ a h. ⊎_elim (λ (first : before a ≡ true). inl first) (λ (front : has a (take i nodes) ≡ true). inr (in_front a nodes i front)) (so_far.only a h);
}

pub adds_front : (nodes : List Node) (i : ℕ) (d : Node) (before now new : Node → Bool) → i < length nodes → AddsNoted (take i nodes) before now → ((a : Node) → now a ≡ true → new a ≡ true)
    → ((a : Node) → new a ≡ true → (now a ≡ true) ⊎ (same_node a (get_or nodes i d) ≡ true)) → AddsNoted nodes before new
adds_front nodes i d before now new low so_far stay here = all_added nodes (i + 1) before new (adds_on nodes i d before now new low so_far stay here)

module _ (test : book.Node → Term Corner → Bool) (b : Workbook) (words : List (List ℕ)) where
  -- ---- what the workbook asks to be noted

  -- a formula that is given is noted, where it passes
  pub formula_noted : (noted : Node → Bool) (a : Node) (tree : Rc TreeNode Global) (home : Home) (given : NodeContent) → IsGiven b words a given → given ≡ Formula tree home → ((x : book.Node) → home ≡ home_of x → test x (at_home home (relative tree.value)) ≡ true → noted a ≡ true) → IsNoted test b words noted a
  formula_noted noted a tree home given has_it same there x t at is passes =
      let has_tree = subst (λ o. HasGivenAt b o (Formula tree home)) at (subst (IsGiven b words a) same has_it) in
      there x has_tree.0 (ap (test x) (same_some (at_home home (relative tree.value)) t (sym has_tree.1 ∙ is)) ∙ passes)

  pub none_noted : (noted : Node → Bool) → AreNotedAmong test b words [] noted
  none_noted noted a h x t at is passes = absurd (false≢true h)

  -- one node more is noted, where its formula passes
  pub noted_on : (nodes : List Node) (i : ℕ) (d : Node) (now new : Node → Bool) → i < length nodes → ((a : Node) → now a ≡ true → new a ≡ true) → IsNoted test b words new (get_or nodes i d)
      → AreNotedAmong test b words (take i nodes) now → AreNotedAmong test b words (take (i + 1) nodes) new
  noted_on nodes i d now new low stay here so_far a h x t at is passes = ⊎_elim
      (λ (front : has a (take i nodes) ≡ true). stay a (so_far a front x t at is passes))
      (λ (last : has a (get_or nodes i d ∷ []) ≡ true). subst (IsNoted test b words new) (sym (has_one a (get_or nodes i d) last)) here x t at is passes)
      (has-append_cases a (take i nodes) (get_or nodes i d ∷ []) (subst (λ ns. has a ns ≡ true) (take_more nodes i d low) h))

  -- where only nodes were noted that were to be, as much is noted as before
  pub more_noted : (left nodes : List Node) (before noted : Node → Bool) → AreKnown words left → nodes ≡ left → AreNoted test b words left before → AddsNoted nodes before noted → AreNoted test b words left noted
  more_noted left nodes before noted known same was more = record {
    all = λ a x t free at is passes. more.stay a (was.all a x t free at is passes);
    known = λ a h. ⊎_elim
        (λ (first : before a ≡ true). was.known a first)
        (λ (new : has a nodes ≡ true). let (x, at) = known a (subst (λ ns. IsTrue (has a ns)) same new) in ap is_some at)
        (more.only a h);
  }

  -- once these are noted, all are
  pub all_noted : (left nodes after : List Node) (before noted : Node → Bool) → AreKnown words left → nodes ≡ left → AreNoted test b words left before → AddsNoted nodes before noted → AreNotedAmong test b words nodes noted
      → AreNoted test b words after noted
  all_noted left nodes after before noted known same was more among = record {
    all = λ a x t free at is passes. by a x t at is passes (has a left) refl;
    known = (more_noted left nodes before noted known same was more).known;
  }
    where
      by : (a : Node) (x : book.Node) (t : Term Corner) → node_at words a ≡ Some x → tree_at b x ≡ Some t → test x t ≡ true → (m : Bool) → has a left ≡ m → noted a ≡ true
      by a x t at is passes true e = among a (subst (λ ns. IsTrue (has a ns)) (sym same) e) x t at is passes
      by a x t at is passes false e = more.stay a (was.all a x t e at is passes)
