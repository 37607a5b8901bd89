-- What reaches a mark by the needs of a workbook, and what is kept where it reaches none. Serves the laws.
use Rattle.std.proofs.Common.{◌≡◌, ◌≢◌, ◌∙◌, sym, ap, refl, subst, ℕ, ℤ, true, List, Option, Some, None, inl, inr}
use Rattle.std.specs.Prelude.{AllPairs, IsTrue, slice_get}
use Rattle.std.proofs.lemmas.Bool.{false≢true}
use Rattle.custom_fn.specs.declared.rule.Rule.{Rule}
use Rattle.formula_tree.specs.Reference.{sheet_of}
use Rattle.formula_tree.specs.Term.{Term}
use Rattle.formula_tree.specs.declared.reference.Corner.{Corner}
use Rattle.value_network.specs.Network.{LeadsTo, after, at_once}
use Rattle.book_values.specs.Names.{Key}
use Rattle.book_values.specs.Values.{network}
use Rattle.book_values.specs.Workbook as book
use Rattle.book_values.specs.Workbook.{Workbook, home_of, needs, tree_at, tree_needs}
use Rattle.dep_graph.specs.Laws.{IsNoRange}
use Rattle.dep_graph.specs.Nodes.{has}
use Rattle.dep_graph.specs.declared.node.Node.{Node}
use Rattle.dep_graph.specs.declared.node.Node.TheVariants.{Cell, Name, Range, Whole}
use Rattle.recalc_core.specs.Kept.{Kept, expected_at, stands}
use Rattle.recalc_core.specs.Laws.{KeepNumbers}
use Rattle.recalc_core.specs.Nodes.{AreNumbered, node_at}
use Rattle.recalc_core.proofs.Bridge.{mentioned_stands, name_only, none_some}
use Rattle.recalc_core.proofs.Linking.{one_node}
use Rattle.marked_values.specs.Marks.{FitsMarks, Leads, ReachesMark}

-- needs rest on neither custom functions nor the day
pub leads_bare : (b : Workbook) (customs : List (List ℕ × Rule)) (today : ℤ) {x y : book.Node} → LeadsTo (network b customs today) x y → Leads b x y
leads_bare b customs today (at_once need) = at_once need
leads_bare b customs today (after need rest) = after need (leads_bare b customs today rest)

-- each node that is needed is one of the graph's
pub needed_known : (b : Workbook) (words : List (List ℕ)) (x z : book.Node) → AreNumbered words b.names → needs b x z ≡ true → (a : Node) × (node_at words a ≡ Some z)
needed_known b words x (book.place p) numbered h = (Cell p, refl)
needed_known b words x (book.name key) numbered h = by (tree_at b x) h
  where
    by : (o : Option (Term Corner)) → tree_needs b.names (sheet_of (home_of x)) o (book.name key) ≡ true → (a : Node) × (node_at words a ≡ Some (book.name key))
    by None n = absurd (false≢true n)
    by (Some t) n = numbered.all key (mentioned_stands b.names (sheet_of (home_of x)) t key n)

module _ (b : Workbook) (words more : List (List ℕ)) (numbered : AreNumbered words b.names) (numbers : KeepNumbers words more) (once : AllPairs (λ v w. v ≢ w) more) where
  -- where more words have got their numbers, a node that stands was known before
  pub known_before : (a : Node) (x : book.Node) → node_at more a ≡ Some x → stands b x ≡ true → node_at words a ≡ Some x
  known_before (Cell p) x at there = at
  known_before (Range block) x at there = absurd (none_some x at)
  known_before (Whole w) x at there = absurd (none_some x at)
  known_before (Name scope word) (book.place p) at there = absurd (apart (name_only scope (slice_get more word) (book.place p) at))
    where
      apart : (key : Key) × (book.place p ≡ book.name key) → ⊥
      apart (key, e) = cc
  known_before (Name scope word) (book.name key) at there =
      let (d, to) = numbered.all key there in
      let same = one_node more d (Name scope word) (book.name key) once (numbers d (book.name key) to) at in
      subst (λ n. node_at words n ≡ Some (book.name key)) same to

module _ (b : Workbook) (words : List (List ℕ)) (marks : List Node) where
  -- a marked node reaches its mark
  pub marked_reaches : (a : Node) (x : book.Node) → node_at words a ≡ Some x → IsTrue (has a marks) → ReachesMark b words marks x
  marked_reaches a x at marked = (a, x, marked, at, inl refl)

  -- what needs a node that reaches a mark reaches it too
  pub need_reaches : (x y : book.Node) → needs b x y ≡ true → ReachesMark b words marks y → ReachesMark b words marks x
  need_reaches x y need (m, z, marked, at, inl same) = (m, z, marked, at, inr (at_once (subst (λ w. needs b x w ≡ true) same need)))
  need_reaches x y need (m, z, marked, at, inr leads) = (m, z, marked, at, inr (after need leads))

  -- nothing is kept of what is neither a place nor a known name
  pub unknown_bare : (customs : List (List ℕ × Rule)) (today : ℤ) (kept : Kept) (a : Node) → FitsMarks b words customs today marks kept → IsNoRange a → node_at words a ≡ None → kept a ≡ None
  unknown_bare customs today kept a fit plain none =
      fit a (λ x at reach. absurd (none_some x (sym none ∙ at))) plain ∙ ap (expected_at b customs today) none
