-- What is gathered before an operation, and before one is taken back. Serves what takes values along.
use Rattle.std.proofs.Common.{◌≡◌, ◌∙◌, sym, ap, ℕ, ℤ, true, false, ◌||◌, List, ◌++◌, Some, ◌⊎◌, inl, inr, ⊎_elim}
use Rattle.std.specs.Prelude.{IsTrue}
use Rattle.std.proofs.lemmas.Bool.{cases_Bool, false≢true}
use Rattle.std.proofs.lemmas.List.Folds.{list_any-append}
use Rattle.custom_fn.specs.declared.rule.Rule.{Rule}
use Rattle.formula_tree.specs.Term.{Term}
use Rattle.formula_tree.specs.declared.reference.Corner.{Corner}
use Rattle.shift_core.specs.declared.shift.Shift.{Shift}
use Rattle.book_values.specs.Workbook as book
use Rattle.book_values.specs.Workbook.{Workbook, tree_at}
use Rattle.dep_graph.specs.Nodes.{has, same_node}
use Rattle.dep_graph.specs.declared.node.Node.{Node}
use Rattle.dep_graph.specs.declared.node.Node.TheVariants.{Cell}
use Rattle.dep_graph.proofs.Places.{has-append_cases, has-append_left, has-append_right}
use Rattle.recalc_core.specs.Kept.{Kept}
use Rattle.recalc_core.specs.Laws.{AreKnown}
use Rattle.recalc_core.specs.Nodes.{node_at}
use Rattle.marked_values.specs.Gathered.{AreTakenAlong}
use Rattle.marked_values.specs.Shifts.{asks_place}
use Rattle.kept_values.specs.Values.{asks_in, links_in}
use Rattle.kept_values.specs.declared.values.Values.{Values}
use Rattle.kept_values.specs.internal.TakenAlong.{HasGathered}
use Rattle.kept_values.proofs.Following.{AreAmong, FollowsBut, there}

-- nodes that were marked one list after another
also : (a : Node) (xs ys zs : List Node) → has a xs ≡ has a ys → has a (xs ++ zs) ≡ has a (ys ++ zs)
also a xs ys zs same = list_any-append (same_node a) xs zs ∙ ap (λ t. t || has a zs) same ∙ sym (list_any-append (same_node a) ys zs)

pub all_gathered : (old one two three touched bent asking : List Node) → ((a : Node) → has a one ≡ has a (old ++ touched)) → ((a : Node) → has a two ≡ has a (one ++ bent))
    → ((a : Node) → has a three ≡ has a (two ++ asking)) → (a : Node) → has a three ≡ has a (((old ++ touched) ++ bent) ++ asking)
all_gathered old one two three touched bent asking first second third a =
    third a ∙ also a two ((old ++ touched) ++ bent) asking (second a ∙ also a one (old ++ touched) bent (first a))

-- what was gathered was there, touched or bent, or asks where a reference is
pub gathered_cases : (v : Values) (old mid touched bent : List Node) → HasGathered touched bent v old mid → (a : Node) → IsTrue (has a mid) → IsTrue (has a old) ⊎ (IsTrue (has a touched) ⊎ (IsTrue (has a bent) ⊎ (asks_in v a ≡ true)))
gathered_cases v old mid touched bent gathered a h = ⊎_elim
    (λ (front : has a ((old ++ touched) ++ bent) ≡ true). ⊎_elim
    (λ (first : has a (old ++ touched) ≡ true). ⊎_elim (λ (was : has a old ≡ true). inl was) (λ (is : has a touched ≡ true). inr (inl is)) (has-append_cases a old touched first))
    (λ (is : has a bent ≡ true). inr (inr (inl is)))
    (has-append_cases a (old ++ touched) bent front))
    (λ (asks : has a v.noted.asking.keys ≡ true). inr (inr (inr asks)))
    (has-append_cases a ((old ++ touched) ++ bent) v.noted.asking.keys (sym (gathered a) ∙ h))

-- with the same nodes after them, some are among others still
pub among_after : (few many more : List Node) → AreAmong few many → AreAmong (few ++ more) (many ++ more)
among_after few many more among a h = ⊎_elim
    (λ (front : has a few ≡ true). has-append_left a many more (among a front))
    (λ (back : has a more ≡ true). has-append_right a many more back)
    (has-append_cases a few more h)

-- so they are where the same was gathered to both
pub among_gathered : (v : Values) (few many few_then many_then touched bent : List Node) → HasGathered touched bent v few few_then → HasGathered touched bent v many many_then → AreAmong few many → AreAmong few_then many_then
among_gathered v few many few_then many_then touched bent one two among a h =
    two a
    ∙ among_after ((few ++ touched) ++ bent) ((many ++ touched) ++ bent) v.noted.asking.keys
    (among_after (few ++ touched) (many ++ touched) bent (among_after few many touched among)) a (sym (one a) ∙ h)

-- what an operation takes of one list it takes of another one with the same nodes and more
pub fewer_taken : (s : Shift) (some all more : List Node) → ((a : Node) → IsTrue (has a some) → IsTrue (has a all)) → AreTakenAlong s all more → AreTakenAlong s some more
fewer_taken s some all more wider taken = record {
  along = λ a after h goes. taken.along a after (wider a h) goes;
  stay = λ p moved h. taken.stay p moved (wider (Cell p) h);
}

-- and the marks with what has them
pub with_marks : (s : Shift) (marks all more : List Node) → ((a : Node) → IsTrue (has a marks) → IsTrue (has a all)) → AreTakenAlong s all more → AreTakenAlong s (marks ++ all) more
with_marks s marks all more wider taken =
    fewer_taken s (marks ++ all) all more (λ a h. ⊎_elim (λ (mark : has a marks ≡ true). wider a mark) (λ (is : has a all ≡ true). is) (has-append_cases a marks all h)) taken

module _ (b : Workbook) (words : List (List ℕ)) (customs : List (List ℕ × Rule)) (today : ℤ) (v : Values) (old mid touched bent : List Node) (kept : Kept) (touched_known : AreKnown words touched)
    (follows : FollowsBut b words customs today v old kept) (linked : (a : Node) → IsTrue (has a bent) → (d : Node) × IsTrue (has d (links_in v a))) (gathered : HasGathered touched bent v old mid) where
  pub of_old : (a : Node) → IsTrue (has a old) → IsTrue (has a mid)
  of_old a h = gathered a ∙ has-append_left a ((old ++ touched) ++ bent) v.noted.asking.keys (has-append_left a (old ++ touched) bent (has-append_left a old touched h))

  pub of_touched : (a : Node) → IsTrue (has a touched) → IsTrue (has a mid)
  of_touched a h = gathered a ∙ has-append_left a ((old ++ touched) ++ bent) v.noted.asking.keys (has-append_left a (old ++ touched) bent (has-append_right a old touched h))

  pub of_bent : (a : Node) → IsTrue (has a bent) → IsTrue (has a mid)
  of_bent a h = gathered a ∙ has-append_left a ((old ++ touched) ++ bent) v.noted.asking.keys (has-append_right a (old ++ touched) bent h)

  of_asking : (a : Node) → IsTrue (has a v.noted.asking.keys) → IsTrue (has a mid)
  of_asking a h = gathered a ∙ has-append_right a ((old ++ touched) ++ bent) v.noted.asking.keys h

  -- each node whose formula asks is among them
  pub all_asking : (a : Node) (x : book.Node) (t : Term Corner) → node_at words a ≡ Some x → tree_at b x ≡ Some t → asks_place t ≡ true → IsTrue (has a mid)
  all_asking a x t at is asks = ⊎_elim
      (λ (was : has a old ≡ true). of_old a was)
      (λ (out : has a old ≡ false). of_asking a (follows.asks.all a x t out at is asks))
      (cases_Bool (has a old))

  bent_known : AreKnown words bent
  bent_known a h = by (cases_Bool (has a old))
    where
      by : (has a old ≡ true) ⊎ (has a old ≡ false) → (x : book.Node) × (node_at words a ≡ Some x)
      by (inl was) = follows.follow.known a was
      by (inr out) =
          let (d, link) = linked a h in
          let (x, t, at, is, to) = (follows.follow.linked.exact a d (λ was. false≢true (sym out ∙ was))).0 link in
          (x, at)

  pub all_known : AreKnown words mid
  all_known a h = by (gathered_cases v old mid touched bent gathered a h)
    where
      by : IsTrue (has a old) ⊎ (IsTrue (has a touched) ⊎ (IsTrue (has a bent) ⊎ (asks_in v a ≡ true))) → (x : book.Node) × (node_at words a ≡ Some x)
      by (inl was) = follows.follow.known a was
      by (inr (inl is)) = touched_known a is
      by (inr (inr (inl is))) = bent_known a is
      by (inr (inr (inr asks))) = there (node_at words a) (follows.asks.known a asks)
