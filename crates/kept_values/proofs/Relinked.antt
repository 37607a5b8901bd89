-- Values of which nodes were linked anew, or worked out, follow still. Serves what links and refreshes values.
use Rattle.std.proofs.Common.{◌≡◌, ◌∙◌, sym, ap, refl, subst, ℕ, ℤ, Bool, List, [], is_some, inl}
use Rattle.std.specs.Prelude.{IsTrue}
use Rattle.std.proofs.lemmas.Bool.{false≢true}
use Rattle.custom_fn.specs.declared.rule.Rule.{Rule}
use Rattle.book_values.specs.Workbook.{Workbook}
use Rattle.dep_graph.specs.Laws.{AreLinksInside}
use Rattle.dep_graph.specs.Nodes.{has}
use Rattle.dep_graph.specs.declared.node.Node.{Node}
use Rattle.recalc_core.specs.Kept.{Kept}
use Rattle.recalc_core.specs.Laws.{AreKnown}
use Rattle.recalc_core.specs.Links.{AreLinksOf}
use Rattle.recalc_core.specs.Nodes.{AreNumbered}
use Rattle.recalc_core.specs.Recalc as recalc
use Rattle.recalc_core.specs.declared.recalc.Recalc.{Recalc}
use Rattle.marked_values.specs.Marks.{AreLinksBut, FitsMarks, Follow}
use Rattle.marked_values.specs.Shifts.{asks_place}
use Rattle.marked_values.proofs.Fitting.{right_follow}
use Rattle.restored_values.specs.Suspects.{has_lost}
use Rattle.kept_values.specs.Values.{AddsNoted, Follows, asks_in, kept_in, links_in, loses_in, marks_in, seeks_at, seeks_in, unlinked_in}
use Rattle.kept_values.specs.declared.values.Values.{Values}
use Rattle.kept_values.specs.internal.Noting.{AreNotedAmong}
use Rattle.kept_values.proofs.Following.{AreAmong, FollowsBut, all_right, from_follow, marked_follow, unlinked_follow}
use Rattle.kept_values.proofs.LinkedAnew.{linked_but}
use Rattle.kept_values.proofs.Noted.{all_noted, more_noted}

module _ (b : Workbook) (words : List (List ℕ)) (customs : List (List ℕ × Rule)) (today : ℤ) (v : Values) (numbered : AreNumbered words b.names) (follows : Follows b words customs today v) where
  unlinked : FollowsBut b words customs today v (unlinked_in v) (all_right b words customs today)
  unlinked = unlinked_follow b words customs today v numbered follows

  marked : FollowsBut b words customs today v (marks_in v) (kept_in v)
  marked = marked_follow b words customs today v numbered follows

  -- ---- nodes are linked anew

  -- only of these nodes links and notes are others
  pub record AreAnew (w : Values) (nodes : List Node) : Type 0 where
    pub nodes_are : nodes ≡ unlinked_in v
    pub inside : AreLinksInside (links_in w)
    pub asks : AddsNoted nodes (asks_in v) (asks_in w)
    pub loses : AddsNoted nodes (loses_in v) (loses_in w)
    pub seeks : (word : List ℕ) → AddsNoted nodes (seeks_in v word) (seeks_in w word)
    pub marks : marks_in w ≡ marks_in v
    pub kept : kept_in w ≡ kept_in v

  module _ (w : Values) (nodes : List Node) (anew : AreAnew w nodes) where
    with_marks : (kept : Kept) → FollowsBut b words customs today w (unlinked_in w) kept → AreAmong (unlinked_in w) (marks_in v) → Follows b words customs today w
    with_marks kept but among = from_follow b words customs today w kept but (subst (λ ms. AreAmong (unlinked_in w) ms) (sym anew.marks) among) (subst (AreKnown words) (sym anew.marks) marked.follow.known)
        (subst (λ ms. FitsMarks b words customs today ms (kept_in w)) (sym anew.marks) (subst (λ k. FitsMarks b words customs today (marks_in v) k) (sym anew.kept) follows.fit))

    -- for want of memory some are linked
    pub some_linked : unlinked_in w ≡ unlinked_in v → AreLinksBut b words nodes (links_in w) → Follows b words customs today w
    some_linked same but =
        with_marks (all_right b words customs today)
        (subst (λ ns. FollowsBut b words customs today w ns (all_right b words customs today)) (sym same) (record {
          follow = linked_but b words customs today (links_in v) (links_in w) (unlinked_in v) nodes (all_right b words customs today) unlinked.follow but anew.inside anew.nodes_are;
          asks = more_noted (λ x. asks_place) b words (unlinked_in v) nodes (asks_in v) (asks_in w) unlinked.follow.known anew.nodes_are follows.asks anew.asks;
          loses = more_noted (λ x. has_lost) b words (unlinked_in v) nodes (loses_in v) (loses_in w) unlinked.follow.known anew.nodes_are follows.loses anew.loses;
          seeks = λ word. more_noted (seeks_at b word) b words (unlinked_in v) nodes (seeks_in v word) (seeks_in w word) unlinked.follow.known anew.nodes_are (follows.seeks word) (anew.seeks word);
        }))
        (subst (λ ns. AreAmong ns (marks_in v)) (sym same) follows.among)

    -- once all are, nothing is to be linked
    pub all_linked_anew : unlinked_in w ≡ [] → AreLinksOf b words (links_in w) → AreNotedAmong (λ x. asks_place) b words nodes (asks_in w) → AreNotedAmong (λ x. has_lost) b words nodes (loses_in w)
        → ((word : List ℕ) → AreNotedAmong (seeks_at b word) b words nodes (seeks_in w word)) → Follows b words customs today w
    all_linked_anew none good asks loses seeks =
        with_marks (all_right b words customs today)
        (subst (λ ns. FollowsBut b words customs today w ns (all_right b words customs today)) (sym none) (record {
          follow = right_follow b words customs today (links_in w) (all_right b words customs today) good anew.inside (λ a plain. refl);
          asks = all_noted (λ x. asks_place) b words (unlinked_in v) nodes [] (asks_in v) (asks_in w) unlinked.follow.known anew.nodes_are follows.asks anew.asks asks;
          loses = all_noted (λ x. has_lost) b words (unlinked_in v) nodes [] (loses_in v) (loses_in w) unlinked.follow.known anew.nodes_are follows.loses anew.loses loses;
          seeks = λ word. all_noted (seeks_at b word) b words (unlinked_in v) nodes [] (seeks_in v word) (seeks_in w word) unlinked.follow.known anew.nodes_are (follows.seeks word) (anew.seeks word) (seeks word);
        }))
        (subst (λ ns. AreAmong ns (marks_in v)) (sym none) (λ a h. absurd (false≢true h)))

  -- ---- nothing is to be linked

  module _ (none : unlinked_in v ≡ []) where
    apart : (a : Node) → IsTrue (has a (unlinked_in v)) → ⊥
    apart a h = false≢true (sym (ap (has a) none) ∙ h)

    pub links_exact : AreLinksOf b words (links_in v)
    links_exact = record { numbered = numbered; exact = λ a c. unlinked.follow.linked.exact a c (apart a) }

    -- after a recalculation
    pub worked_out : (r : Recalc) → Follow b words customs today (links_in v) (recalc.marks_in r) (recalc.kept_in r) → Follows b words customs today (record { alloc = v.alloc; graph = v.graph; noted = v.noted; unlinked = v.unlinked; recalc = r })
    worked_out r follow = record {
      linked = follows.linked;
      inside = follows.inside;
      asks = follows.asks;
      loses = follows.loses;
      seeks = follows.seeks;
      among = λ a h. absurd (apart a h);
      known = λ a h. ap is_some (follow.known a h).1;
      fit = follow.fit;
    }

-- where nothing more was noted
pub adds_same : (nodes : List Node) (noted : Node → Bool) → AddsNoted nodes noted noted
adds_same nodes noted = record { stay = λ a h. h; only = λ a h. inl h }
