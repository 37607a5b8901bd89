-- What follows fits by the graph, and what fits by the graph follows. Serves the laws.
use Rattle.std.proofs.Common.{◌≡◌, ◌∙◌, sym, ap, refl, subst, ℕ, ℤ, pos, List, [], Option, Some, None, inl, inr}
use Rattle.std.specs.Prelude.{IsTrue}
use Rattle.std.proofs.lemmas.Bool.{false≢true}
use Rattle.custom_fn.specs.declared.rule.Rule.{Rule}
use Rattle.book_values.specs.Workbook as book
use Rattle.book_values.specs.Workbook.{Workbook}
use Rattle.dep_graph.specs.Laws.{IsNoRange}
use Rattle.dep_graph.specs.Needs.{Links, Reaches}
use Rattle.dep_graph.specs.Nodes.{has}
use Rattle.dep_graph.specs.declared.node.Node.{Node}
use Rattle.recalc_core.specs.Kept.{IsFit, Kept, expected_at}
use Rattle.recalc_core.specs.Links.{AreLinksOf}
use Rattle.recalc_core.specs.Nodes.{node_at}
use Rattle.recalc_core.proofs.Bridge.{chains_agree}
use Rattle.recalc_core.proofs.Changes.{nothing_kept}
use Rattle.recalc_core.proofs.Linking.{one_node}
use Rattle.marked_values.specs.Changes.{FitsFollow, FollowFits, LinkedAnewFits, MoreMarksFollow, RightFollow}
use Rattle.marked_values.specs.Marks.{FitsMarks, ReachesMark}

pub more_marks : MoreMarksFollow
more_marks b words customs today links marks more kept follow wider known = record {
  linked = record { numbered = follow.linked.numbered; exact = λ a c out. follow.linked.exact a c (λ marked. out (wider a marked)) };
  inside = follow.inside;
  known = known;
  fit = λ a apart. follow.fit a (λ x at reach. apart x at (reach.0, reach.1, wider reach.0 reach.2, reach.3, reach.4));
}

-- by the links of the workbook, what fits the marks by its needs fits them by the graph
module _ (b : Workbook) (words : List (List ℕ)) (customs : List (List ℕ × Rule)) (today : ℤ) (links : Links) (marks : List Node) (kept : Kept) (good : AreLinksOf b words links) where
  none_reached : (a : Node) (x : book.Node) → ¬ Reaches links marks a → node_at words a ≡ Some x → ¬ ReachesMark b words marks x
  none_reached a x apart at (m, y, marked, to, inl same) =
      apart (inl (subst (λ n. IsTrue (has n marks)) (one_node words m a y good.numbered.once to (at ∙ ap Some same)) marked))
  none_reached a x apart at (m, y, marked, to, inr leads) =
      apart (inr (m, marked, (chains_agree b words links [] (pos 0) a m x y good at to).1 leads))

  by_graph : FitsMarks b words customs today marks kept → IsFit b words customs today links marks kept
  by_graph fit a apart = fit a (λ x at. none_reached a x apart at)

pub follow_fits : FollowFits
follow_fits b words customs today links marks kept follow good = by_graph b words customs today links marks kept good follow.fit

pub linked_anew_fits : LinkedAnewFits
linked_anew_fits b words customs today old new marks kept follow all = (good, by_graph b words customs today new marks kept good follow.fit)
  where
    good : AreLinksOf b words new
    good = record { numbered = all.numbered; exact = λ a c. all.exact a c (λ marked. false≢true marked) }

pub fits_follow : FitsFollow
fits_follow b words customs today links marks kept good inside known fit = record {
  linked = record { numbered = good.numbered; exact = λ a c out. good.exact a c };
  inside = inside;
  known = known;
  fit = λ a apart plain. by a apart plain (node_at words a) refl;
}
  where
    none : (a : Node) (x : book.Node) → node_at words a ≡ Some x → ¬ ReachesMark b words marks x → ¬ Reaches links marks a
    none a x at apart (inl mark) = apart (a, x, mark, at, inl refl)
    none a x at apart (inr (m, mark, chain)) =
        let (y, to) = known m mark in
        apart (m, y, mark, to, inr ((chains_agree b words links [] (pos 0) a m x y good at to).0 chain))

    by : (a : Node) → ((x : book.Node) → node_at words a ≡ Some x → ¬ ReachesMark b words marks x) → IsNoRange a → (o : Option book.Node) → node_at words a ≡ o → kept a ≡ expected_at b customs today (node_at words a)
    by a apart plain None at = nothing_kept b words links customs today marks kept good known fit a plain at ∙ sym (ap (expected_at b customs today) at)
    by a apart plain (Some x) at = fit a (none a x at (apart x at)) plain

pub right_follow : RightFollow
right_follow b words customs today links kept good inside right = record {
  linked = record { numbered = good.numbered; exact = λ a c out. good.exact a c };
  inside = inside;
  known = λ a marked. absurd (false≢true marked);
  fit = λ a apart. right a;
}
