-- Nodes that are linked anew, one after another, and what follows the workbook once they are. Serves what refreshes values.
use Rattle.std.proofs.Common.{◌≡◌, ◌∙◌, sym, ap, refl, subst, ℕ, ℤ, pos, ◌+◌, ◌<◌, ◌≤◌, true, false, ◌||◌, List, [], ◌∷◌, ◌++◌, length, take, drop, get_or, Some, Result, Ok, Err, inl, inr, ⊎_elim, take-append-drop}
use Rattle.std.specs.Prelude.{IsTrue, OnErr, OnOk}
use Rattle.std.proofs.lemmas.List.{append_assoc, drop_all, drop_more, take_more}
use Rattle.std.proofs.lemmas.List.Folds.{list_any-append}
use Rattle.custom_fn.specs.declared.rule.Rule.{Rule}
use Rattle.book_values.specs.Workbook as book
use Rattle.book_values.specs.Workbook.{Workbook}
use Rattle.dep_graph.specs.Graph.{AreSame}
use Rattle.dep_graph.specs.Laws.{AreLinksInside}
use Rattle.dep_graph.specs.Needs.{Links, Reaches}
use Rattle.dep_graph.specs.Nodes.{has, same_node}
use Rattle.dep_graph.specs.declared.node.Node.{Node}
use Rattle.dep_graph.proofs.Places.{has-append_cases, has-append_left, has-append_right, has_at}
use Rattle.recalc_core.specs.Kept.{AreRight, IsFit, Kept}
use Rattle.recalc_core.specs.Laws.{AreKnown}
use Rattle.recalc_core.specs.Links.{AreLinksOf}
use Rattle.recalc_core.specs.Nodes.{node_at}
use Rattle.recalc_core.specs.Steps as plain
use Rattle.recalc_core.proofs.Bridge.{chains_agree}
use Rattle.marked_values.specs.Marks.{AreLinksBut, Follow, IsBookInside, ReachesMark}
use Rattle.kept_values.specs.Values.{AreMarked, TakesSteps}
use Rattle.kept_values.specs.internal.Linking.{IsLinkedAnew}
use Rattle.marked_values.proofs.Fitting.{fits_follow, right_follow}
use Rattle.marked_values.proofs.Linked.{anew_inside, link_anew}

-- the front and the rest of a list are of it
pub in_front : (a : Node) (nodes : List Node) (i : ℕ) → IsTrue (has a (take i nodes)) → IsTrue (has a nodes)
in_front a nodes i h = subst (λ ns. IsTrue (has a ns)) (take-append-drop i nodes) (has-append_left a (take i nodes) (drop i nodes) h)

in_rest : (a : Node) (nodes : List Node) (i : ℕ) → IsTrue (has a (drop i nodes)) → IsTrue (has a nodes)
in_rest a nodes i h = subst (λ ns. IsTrue (has a ns)) (take-append-drop i nodes) (has-append_right a (take i nodes) (drop i nodes) h)

-- one node more is marked
pub marked_on : (nodes old now new : List Node) (i : ℕ) (d : Node) → i < length nodes → ((c : Node) → has c now ≡ has c (old ++ take i nodes)) → ((c : Node) → has c new ≡ has c (now ++ get_or nodes i d ∷ []))
    → (c : Node) → has c new ≡ has c (old ++ take (i + 1) nodes)
marked_on nodes old now new i d low before here c =
    here c ∙ list_any-append (same_node c) now (get_or nodes i d ∷ []) ∙ ap (λ t. t || has c (get_or nodes i d ∷ [])) (before c)
    ∙ sym (list_any-append (same_node c) (old ++ take i nodes) (get_or nodes i d ∷ [])) ∙ ap (has c) (append_assoc old (take i nodes) (get_or nodes i d ∷ []))
    ∙ ap (λ ns. has c (old ++ ns)) (sym (take_more nodes i d low))

-- the first of some nodes were marked
pub marked_front : (nodes old now new : List Node) (i : ℕ) → ((c : Node) → has c now ≡ has c (old ++ take i nodes)) → new ≡ now → AreMarked nodes old new
marked_front nodes old now new i marked is = record {
  stay = λ a h. subst (λ ns. IsTrue (has a ns)) (sym is) (marked a ∙ has-append_left a old (take i nodes) h);
  only = λ a h. ⊎_elim (λ (before : has a old ≡ true). inl before) (λ (here : has a (take i nodes) ≡ true). inr (in_front a nodes i here))
      (has-append_cases a old (take i nodes) (sym (marked a) ∙ subst (λ ns. IsTrue (has a ns)) is h));
}

-- values that are right on success, and fit the marks for want of memory
abbrev pub AreRightOn : {X E : Type 0} → Result X E → Workbook → List (List ℕ) → List (List ℕ × Rule) → ℤ → Kept → Type 0
AreRightOn r b words customs today kept = OnOk r (AreRight b words customs today kept)

abbrev pub IsFitOn : {X E : Type 0} → Result X E → Workbook → List (List ℕ) → List (List ℕ × Rule) → ℤ → Links → List Node → Kept → Type 0
IsFitOn r b words customs today links marks kept = OnErr r (IsFit b words customs today links marks kept)

module _ (b : Workbook) (words : List (List ℕ)) where
  -- with more marks fewer links are asked for
  but_more : (marks more : List Node) (links : Links) → ((a : Node) → IsTrue (has a marks) → IsTrue (has a more)) → AreLinksBut b words marks links → AreLinksBut b words more links
  but_more marks more links wider but = record { numbered = but.numbered; exact = λ a c free. but.exact a c (λ h. free (wider a h)) }

  -- the links so far are those of all but the nodes
  pub but_all : (nodes : List Node) (i : ℕ) (old new : Links) → AreLinksBut b words (drop i nodes) old → AreSame old new → AreLinksBut b words nodes new
  but_all nodes i old new but same =
      let one : new ≡ old = λ j x. same x j in
      subst (AreLinksBut b words nodes) (sym one) (but_more (drop i nodes) nodes old (λ a h. in_rest a nodes i h) but)

  pub inside_same : (old new : Links) → AreLinksInside old → AreSame old new → AreLinksInside new
  inside_same old new inside same = let one : new ≡ old = λ j x. same x j in subst AreLinksInside (sym one) inside

  -- once all are linked, the links are those of the workbook
  pub all_linked : (nodes : List Node) (i : ℕ) (links : Links) → length nodes ≤ i → AreLinksBut b words (drop i nodes) links → AreLinksOf b words links
  all_linked nodes i links done but =
      let none : drop i nodes ≡ [] = drop_all i nodes done in
      record { numbered = but.numbered; exact = λ a c. but.exact a c (λ h. nothing (subst (λ ns. IsTrue (has a ns)) none h)) }
    where
      nothing : false ≡ true → ⊥
      nothing h = cc

  -- one more is linked
  pub link_on : (nodes : List Node) (i : ℕ) (d : Node) (old new : Links) → i < length nodes → AreKnown words nodes → IsLinkedAnew b words (get_or nodes i d) old new
      → AreLinksBut b words (drop i nodes) old → AreLinksBut b words (drop (i + 1) nodes) new
  link_on nodes i d old new low known anew but =
      let a = get_or nodes i d in
      let (x, at) = known a (has_at nodes i d low) in
      let (needs, exact, linked) = anew x at in
      link_anew b words a x needs (drop (i + 1) nodes) old new (subst (λ ns. AreLinksBut b words ns old) (drop_more nodes i d low) but) at exact linked

  pub inside_on : (nodes : List Node) (i : ℕ) (d : Node) (old new : Links) → i < length nodes → AreKnown words nodes → IsBookInside b → IsLinkedAnew b words (get_or nodes i d) old new
      → AreLinksInside old → AreLinksInside new
  inside_on nodes i d old new low known inside anew links =
      let a = get_or nodes i d in
      let (x, at) = known a (has_at nodes i d low) in
      let (needs, exact, linked) = anew x at in
      anew_inside b words a x needs old new inside links at exact linked

  module _ (customs : List (List ℕ × Rule)) (today : ℤ) where
    -- of these nodes the links are others, and nothing else changed
    pub linked_but : (old new : Links) (nodes items : List Node) (kept : Kept) → Follow b words customs today old nodes kept → AreLinksBut b words items new → AreLinksInside new → items ≡ nodes
        → Follow b words customs today new nodes kept
    linked_but old new nodes items kept follow but inside same =
        record { linked = subst (λ ns. AreLinksBut b words ns new) same but; inside = inside; known = follow.known; fit = follow.fit }

    -- after a recalculation, whether it ended or wanted memory
    pub recalculated : {E : Type 0} (r : Result Unit E) (links : Links) (old new : List Node) (kept : Kept) → AreLinksOf b words links → AreLinksInside links → AreKnown words old
        → OnOk r (AreRight b words customs today kept) → OnOk r (new ≡ []) → OnErr r (new ≡ old) → OnErr r (IsFit b words customs today links new kept) → Follow b words customs today links new kept
    recalculated (Ok u) links old new kept exact inside known right none same fit =
        subst (λ ms. Follow b words customs today links ms kept) (sym none) (right_follow b words customs today links kept exact inside right)
    recalculated (Err e) links old new kept exact inside known right none same fit =
        fits_follow b words customs today links new kept exact inside (subst (AreKnown words) (sym same) known) fit

  -- what reaches a mark in the graph does in the workbook
  reaches : (links : Links) (marks : List Node) (a : Node) (x : book.Node) → AreLinksOf b words links → AreKnown words marks → Reaches links marks a → node_at words a ≡ Some x → ReachesMark b words marks x
  reaches links marks a x exact known (inl marked) at = (a, x, marked, at, inl refl)
  reaches links marks a x exact known (inr (m, marked, chain)) at =
      let (y, there) = known m marked in
      (m, y, marked, there, inr ((chains_agree b words links [] (pos 0) a m x y exact at there).0 chain))

  pub steps_taken : (customs : List (List ℕ × Rule)) (today : ℤ) (links : Links) (marks : List Node) (old new : ℕ) → AreLinksOf b words links → AreKnown words marks → plain.TakesSteps b words customs today links marks old new
      → TakesSteps b words customs today marks old new
  steps_taken customs today links marks old new exact known (nodes, once, each, most) = (nodes, once, λ a x h at. reaches links marks a x exact known (each a h) at, most)
