-- Which nodes to mark where one name is added, changed or removed, by a graph of links. Serves the laws.
use Rattle.std.proofs.Common.{◌≡◌, ◌∙◌, sym, ap, refl, subst, ℕ, ℤ, Bool, true, false, ◌&&◌, List, [], ◌++◌, Some, None, is_some, inl, inr, ⊎_elim}
use Rattle.std.specs.Prelude.{IsTrue, pos}
use Rattle.std.proofs.lemmas.Bool.{cases_Bool, false≢true}
use Rattle.custom_fn.specs.declared.rule.Rule.{Rule}
use Rattle.formula_tree.specs.Reference.{sheet_of}
use Rattle.formula_tree.specs.Term.{Term}
use Rattle.formula_tree.specs.declared.reference.Corner.{Corner}
use Rattle.book_values.specs.Names.{Key, found, key_of, tree_in}
use Rattle.book_values.specs.Workbook as book
use Rattle.book_values.specs.Workbook.{Workbook, home_of, mentions_node, tree_at}
use Rattle.dep_graph.specs.Needs.{Links}
use Rattle.dep_graph.specs.Nodes.{has}
use Rattle.dep_graph.specs.declared.node.Node.{Node}
use Rattle.dep_graph.specs.declared.node.Node.TheVariants.{Cell, Name, Range, Whole}
use Rattle.dep_graph.proofs.Places.{has-append_cases}
use Rattle.recalc_core.specs.Edits.{DifferInName}
use Rattle.recalc_core.specs.Kept.{Kept}
use Rattle.recalc_core.specs.Laws.{AreKnown, KeepNumbers}
use Rattle.recalc_core.specs.Links.{IsLinkAt, IsLinkOf}
use Rattle.recalc_core.specs.Nodes.{AreNumbered, node_at}
use Rattle.recalc_core.proofs.Bridge.{found_stands, mentioned_stands, none_some, same_some}
use Rattle.recalc_core.proofs.Linking.{one_node}
use Rattle.recalc_core.proofs.Worked.{tree_stands}
use Rattle.marked_values.specs.Changes.{LeavesAlone}
use Rattle.marked_values.specs.Marks.{Follow}
use Rattle.marked_values.specs.NameMarks.{AddedFollow, AddedLeavesAlone, ChangedFollow, ChangedLeavesToNeeds, HaveFinders, HaveLinked, LinkedOrMarked, RemovedFollow, RemovedLeavesAlone}
use Rattle.marked_values.specs.Rebound.{HaveRebound, LeavesToNeeds, same_found}
use Rattle.marked_values.proofs.Reaching.{known_before}
use Rattle.marked_values.proofs.Fitting.{more_marks}
use Rattle.marked_values.proofs.Changed.{alone_leaves_to_needs, needs_follow}
use Rattle.marked_values.proofs.Finding.{added_is_found, changed_is_found_alike, found_scope, mentions_found, removed_was_found, same_found-self}
use Rattle.marked_values.proofs.Rebound.{name_leaves_to_needs, rebound_leaves_alone}

-- ---- by what formulas are linked to

-- a formula that mentions a name is linked to its node
linked_at : (b : Workbook) (words : List (List ℕ)) (a n : Node) (x : book.Node) (t : Term Corner) (k : Key) → node_at words a ≡ Some x → tree_at b x ≡ Some t → node_at words n ≡ Some (book.name k)
    → mentions_node b.names (sheet_of (home_of x)) t (book.name k) ≡ true → IsLinkAt b words a n
linked_at b words a (Name scope word) x t k at is to m = (x, t, at, is, (k, to, m))
linked_at b words a (Range block) x t k at is to m = absurd (none_some (book.name k) to)
linked_at b words a (Whole w) x t k at is to m = absurd (none_some (book.name k) to)
linked_at b words a (Cell p) x t k at is to m = absurd (apart (same_some (book.place p) (book.name k) to))
  where
    apart : book.place p ≡ book.name k → ⊥
    apart e = cc

module _ (b c : Workbook) (words : List (List ℕ)) (n : Node) (key : Key) (changed : List Node) (differ : DifferInName b c key) (numbered : AreNumbered words b.names) (to : node_at words n ≡ Some (book.name key)) where
  only_node : IsTrue (has n changed) → (a : Node) → node_at words a ≡ Some (book.name key) → IsTrue (has a changed)
  only_node there a at = subst (λ m. IsTrue (has m changed)) (one_node words n a (book.name key) numbered.once to at) there

  not_same : (word : List ℕ) (sheet : ℕ) → same_found (found b.names word sheet) (found c.names word sheet) ≡ false → found b.names word sheet ≡ found c.names word sheet → ⊥
  not_same word sheet other same = false≢true (sym other ∙ ap (same_found (found b.names word sheet)) (sym same) ∙ same_found-self (found b.names word sheet))

  removed_rebound : is_some (tree_in c.names key) ≡ false → HaveLinked b words n changed → HaveRebound b c words key changed
  removed_rebound gone have = record {
    itself = only_node have.itself;
    users = λ a x t at is uses other. ⊎_elim
        (λ (same : found b.names key.word (sheet_of (home_of x)) ≡ found c.names key.word (sheet_of (home_of x))). absurd (not_same key.word (sheet_of (home_of x)) other same))
        (λ (was : found b.names key.word (sheet_of (home_of x)) ≡ Some key). have.linked a (linked_at b words a n x t key at is to (mentions_found b.names (sheet_of (home_of x)) t key.word key uses was)))
        (removed_was_found b c key key.word (sheet_of (home_of x)) differ gone);
  }

  added_rebound : is_some (tree_in b.names key) ≡ false → HaveFinders b words n key changed → HaveRebound b c words key changed
  added_rebound fresh have = record {
    itself = only_node have.itself;
    users = λ a x t at is uses other. ⊎_elim
        (λ (same : found b.names key.word (sheet_of (home_of x)) ≡ found c.names key.word (sheet_of (home_of x))). absurd (not_same key.word (sheet_of (home_of x)) other same))
        (λ (now, way). ⊎_elim
        (λ (none : found b.names key.word (sheet_of (home_of x)) ≡ None). have.finding a x t at is uses none (found_scope c.names key.word (sheet_of (home_of x)) key now))
        (λ (was, own).
        let (m, to) = numbered.all (key_of None key.word) (found_stands b.names key.word (sheet_of (home_of x)) (key_of None key.word) was) in
        have.hidden a m x at own to (linked_at b words a m x t (key_of None key.word) at is to (mentions_found b.names (sheet_of (home_of x)) t key.word (key_of None key.word) uses was)))
        way)
        (added_is_found b c key key.word (sheet_of (home_of x)) differ fresh);
  }

  changed_rebound : is_some (tree_in b.names key) ≡ true → is_some (tree_in c.names key) ≡ true → IsTrue (has n changed) → HaveRebound b c words key changed
  changed_rebound had has_it there = record {
    itself = only_node there;
    users = λ a x t at is uses other. absurd (not_same key.word (sheet_of (home_of x)) other (changed_is_found_alike b c key key.word (sheet_of (home_of x)) differ had has_it));
  }

not_both : (s t : Bool) → t ≡ false → (s && t) ≡ false
not_both true t h = h
not_both false t h = refl

pub removed_leaves_alone : RemovedLeavesAlone
removed_leaves_alone b c words n key changed differ gone numbered to have =
    rebound_leaves_alone b c words key changed differ (not_both (is_some (tree_in b.names key)) (is_some (tree_in c.names key)) gone) (removed_rebound b c words n key changed differ numbered to gone have)

pub added_leaves_alone : AddedLeavesAlone
added_leaves_alone b c words n key changed differ fresh numbered to have =
    rebound_leaves_alone b c words key changed differ (ap (λ s. s && is_some (tree_in c.names key)) fresh) (added_rebound b c words n key changed differ numbered to fresh have)

pub changed_leaves_to_needs : ChangedLeavesToNeeds
changed_leaves_to_needs b c words n key changed differ had has_it numbered to there =
    name_leaves_to_needs b c words key changed differ (changed_rebound b c words n key changed differ numbered to had has_it there)

-- ---- by the links of the graph

-- what is linked to a node was linked to it before, where words only got more
module _ (b : Workbook) (words more : List (List ℕ)) (numbered : AreNumbered words b.names) (numbers : KeepNumbers words more) (now : AreNumbered more b.names) where
  linked_before : (a n : Node) → IsLinkAt b more a n → IsLinkAt b words a n
  linked_before a n (x, t, at, is, link) = (x, t, known_before b words more numbered numbers now.once a x at (tree_stands b [] (pos 0) x t is), is, by n link)
    where
      by : (n : Node) → IsLinkOf more b.names (sheet_of (home_of x)) t n → IsLinkOf words b.names (sheet_of (home_of x)) t n
      by (Cell p) h = h
      by (Range block) h = h
      by (Whole w) h = h
      by (Name scope word) (key, to, m) = (key, known_before b words more numbered numbers now.once (Name scope word) (book.name key) to (mentioned_stands b.names (sheet_of (home_of x)) t key m), m)

pub linked_or_marked : LinkedOrMarked
linked_or_marked b words more links marks a n linked numbers now is = ⊎_elim
    (λ (marked : has a marks ≡ true). inl marked)
    (λ (not_marked : has a marks ≡ false). inr ((linked.exact a n (λ h. false≢true (sym not_marked ∙ h))).1 (linked_before b words more linked.numbered numbers now a n is)))
    (cases_Bool (has a marks))

-- the names of a workbook keep their nodes where words only get more
pub numbers_kept : (b c : Workbook) (words more : List (List ℕ)) → AreNumbered words b.names → KeepNumbers words more → AreNumbered more c.names → AreNumbered more b.names
numbers_kept b c words more numbered numbers now = record {
  once = now.once;
  all = λ key there. let (a, at) = numbered.all key there in (a, numbers a (book.name key) at);
}

module _ (b c : Workbook) (words more : List (List ℕ)) (customs : List (List ℕ × Rule)) (today : ℤ) (links : Links) (marks after : List Node) (kept : Kept) (n : Node) (key : Key)
    (before : Follow b words customs today links marks kept) (numbers : KeepNumbers words more) (now : AreNumbered more c.names) (differ : DifferInName b c key)
    (at : node_at more n ≡ Some (book.name key)) (stay : (a : Node) → IsTrue (has a marks) → IsTrue (has a after)) (known : AreKnown more after) where
  numbered : AreNumbered more b.names
  numbered = numbers_kept b c words more before.linked.numbered numbers now

  joined : (a : Node) → IsTrue (has a (marks ++ after)) → IsTrue (has a after)
  joined a h = ⊎_elim (λ (old : has a marks ≡ true). stay a old) (λ (new : has a after ≡ true). new) (has-append_cases a marks after h)

  to_needs : LeavesToNeeds b c more after → Follow c more customs today links after kept
  to_needs leaves = more_marks c more customs today links (marks ++ after) after kept (needs_follow b c words more customs today links marks after kept before numbers now leaves known) joined known

  alone : LeavesAlone b c more after → Follow c more customs today links after kept
  alone leaves = to_needs (alone_leaves_to_needs b c more after leaves)

  by_graph : (a m : Node) → IsLinkAt b more a m → (IsTrue (has m (links a)) → IsTrue (has a after)) → IsTrue (has a after)
  by_graph a m is linked = ⊎_elim (λ (old : IsTrue (has a marks)). stay a old) linked (linked_or_marked b words more links marks a m before.linked numbers numbered is)

pub removed_follow : RemovedFollow
removed_follow b c words more customs today links marks after kept n key before numbers now differ gone at are known =
    alone b c words more customs today links marks after kept n key before numbers now differ at are.stay known
    (removed_leaves_alone b c more n key after differ gone (numbers_kept b c words more before.linked.numbered numbers now) at (record {
      itself = are.itself;
      linked = λ a is. by_graph b c words more customs today links marks after kept n key before numbers now differ at are.stay known a n is (are.users a);
    }))

pub added_follow : AddedFollow
added_follow b c words more customs today links marks after kept n key before numbers now differ fresh at are known =
    alone b c words more customs today links marks after kept n key before numbers now differ at are.stay known
    (added_leaves_alone b c more n key after differ fresh (numbers_kept b c words more before.linked.numbered numbers now) at (record {
      itself = are.itself;
      finding = are.finding;
      hidden = λ a m x to own whole is. by_graph b c words more customs today links marks after kept n key before numbers now differ at are.stay known a m is (are.hidden a m x to own whole);
    }))

pub changed_follow : ChangedFollow
changed_follow b c words more customs today links marks after kept n key before numbers now differ had has_it at stay there known =
    to_needs b c words more customs today links marks after kept n key before numbers now differ at stay known
    (changed_leaves_to_needs b c more n key after differ had has_it (numbers_kept b c words more before.linked.numbered numbers now) at there)
