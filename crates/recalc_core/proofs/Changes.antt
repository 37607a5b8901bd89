-- Changes of a workbook leave the kept values of all nodes that do alike and reach none that doesn't. Serves the law.
use Rattle.std.proofs.Common.{◌≡◌, ◌∙◌, sym, ap, refl, ℕ, ℤ, Bool, true, false, cond, List, ◌++◌, Option, Some, None, is_some, inl, inr}
use Rattle.std.specs.Prelude.{IsTrue}
use Rattle.std.proofs.lemmas.Bool.{or_left, or_right}
use Rattle.std.proofs.lemmas.List.Folds.{list_any-append}
use Rattle.cell_value.specs.declared.scalar.Scalar.{Scalar}
use Rattle.custom_fn.specs.declared.rule.Rule.{Rule}
use Rattle.value_network.proofs.Alike.{NeedAlike, cyclic_alike, values_alike}
use Rattle.value_network.specs.Network.{LeadsTo, Network, after, at_once, cyclic}
use Rattle.book_values.proofs.Networks.{is_network}
use Rattle.book_values.specs.Names.{Key, tree_in}
use Rattle.book_values.specs.Values.{network, value_of}
use Rattle.book_values.specs.Workbook as book
use Rattle.book_values.specs.Workbook.{Workbook, needs}
use Rattle.dep_graph.specs.Laws.{IsNoRange}
use Rattle.dep_graph.specs.Needs.{Chain, Links, Reaches}
use Rattle.dep_graph.specs.Nodes.{has, same_node}
use Rattle.dep_graph.specs.declared.node.Node.{Node}
use Rattle.dep_graph.specs.declared.node.Node.TheVariants.{Cell, Name, Range, Whole}
use Rattle.recalc_core.specs.Kept.{IsFit, Kept, expected, expected_at, stands}
use Rattle.recalc_core.specs.Laws.{AreKnown, ChangesKeepFit, DoAlike, DoesAlike, KeepNumbers}
use Rattle.recalc_core.specs.Links.{AreLinksOf}
use Rattle.recalc_core.specs.Nodes.{node_at}
use Rattle.recalc_core.proofs.Bridge.{chains_agree, join, name_only, need_way, needed_node, none_some, same_some, unlinked}
use Rattle.recalc_core.proofs.Linking.{one_node}

-- what leads to a node that reaches a mark reaches it too
pub reaches_on : (b : Workbook) (words : List (List ℕ)) (links : Links) (good : AreLinksOf b words links) (marks : List Node) (a c : Node) → Chain links a c → Reaches links marks c → Reaches links marks a
reaches_on b words links good marks a c chain (inl mark) = inr (c, mark, chain)
reaches_on b words links good marks a c chain (inr (m, mark, rest)) = inr (m, mark, join b words links good chain rest)

-- nothing is kept of what is neither a place nor a known name
pub nothing_kept : (b : Workbook) (words : List (List ℕ)) (links : Links) (customs : List (List ℕ × Rule)) (today : ℤ) (marks : List Node) (kept : Kept) → AreLinksOf b words links → AreKnown words marks
    → IsFit b words customs today links marks kept → (a : Node) → IsNoRange a → node_at words a ≡ None → kept a ≡ None
nothing_kept b words links customs today marks kept good known fit a plain none = fit a never plain ∙ ap (expected_at b customs today) none
  where
    never : ¬ Reaches links marks a
    never (inl mark) = let (y, to) = known a mark in none_some y (sym none ∙ to)
    never (inr (m, mark, chain)) = unlinked b words links good a plain none chain

module _ (b c : Workbook) (words more : List (List ℕ)) (old new : Links) (customs : List (List ℕ × Rule)) (today : ℤ) (marks changed : List Node) (kept : Kept)
    (before : AreLinksOf b words old) (now : AreLinksOf c more new) (numbers : KeepNumbers words more) (known : AreKnown words marks) (alike : DoAlike b c more changed) (fit : IsFit b words customs today old marks kept) where
  abbrev one : Network book.Node Scalar
  one = network b customs today

  abbrev two : Network book.Node Scalar
  two = network c customs today

  abbrev all : List Node
  all = marks ++ changed

  mark_of : (a : Node) → IsTrue (has a marks) → IsTrue (has a all)
  mark_of a h = list_any-append (same_node a) marks changed ∙ or_left (has a marks) (has a changed) h

  change_of : (a : Node) → IsTrue (has a changed) → IsTrue (has a all)
  change_of a h = list_any-append (same_node a) marks changed ∙ or_right (has a marks) (has a changed) h

  -- the places and names that reach no mark now
  abbrev Inside : book.Node → Type 0
  Inside x = (a : Node) × (node_at more a ≡ Some x) × (¬ Reaches new all a)

  inside_alike : (x : book.Node) → Inside x → DoesAlike b c x
  inside_alike x (a, at, apart) = alike a x at (λ h. apart (inl (change_of a h)))

  closed : (x y : book.Node) → Inside x → needs c x y ≡ true → Inside y
  closed x y (a, at, apart) need =
      let (d, to) = needed_node c more new now x y need in
      (d, to, λ reach. apart (reaches_on c more new now all a d (need_way c more new now x y a d at to need) reach))

  both_need : NeedAlike one two Inside
  both_need = record {
    needs_same = λ x y inside. (inside_alike x inside).needs y;
    closed = λ x y inside need. closed x y inside (sym ((inside_alike x inside).needs y) ∙ need);
  }

  value_same : (x : book.Node) → Inside x → value_of b customs today x ≡ value_of c customs today x
  value_same x inside = values_alike one two Inside (is_network b customs today) (is_network c customs today) (cyclic one) (cyclic two) (λ y h. h) (λ y h. h) both_need refl
      (λ y here. cyclic_alike one two Inside (is_network b customs today) (is_network c customs today) both_need y here) (λ y shown here. (inside_alike y here).works customs today shown) x inside

  expected_same : (x : book.Node) → Inside x → expected b customs today x ≡ expected c customs today x
  expected_same x inside = λ i. cond ((inside_alike x inside).stands i) (Some (value_same x inside i)) None

  leads_over : {x y : book.Node} → LeadsTo one x y → Inside x → LeadsTo two x y
  leads_over (at_once {a = x} {b = y} need) inside = at_once (sym ((inside_alike x inside).needs y) ∙ need)
  leads_over (after {a = x} {b = y} need rest) inside =
      let here = sym ((inside_alike x inside).needs y) ∙ need in
      after here (leads_over rest (closed x y inside here))

  -- what reaches no mark now reached none before
  none_before : (a : Node) (x : book.Node) → node_at words a ≡ Some x → ¬ Reaches new all a → ¬ Reaches old marks a
  none_before a x at apart (inl mark) = apart (inl (mark_of a mark))
  none_before a x at apart (inr (m, mark, chain)) =
      let (y, to) = known m mark in
      let leads = leads_over ((chains_agree b words old customs today a m x y before at to).0 chain) (a, numbers a x at, apart) in
      apart (inr (m, mark_of m mark, (chains_agree c more new customs today a m x y now (numbers a x at) (numbers m y to)).1 leads))

  -- a name that is known only now has no formula
  new_name : (a : Node) (x : book.Node) → node_at more a ≡ Some x → node_at words a ≡ None → stands b x ≡ false
  new_name (Cell p) x at none = absurd (none_some (book.place p) (sym none))
  new_name (Range block) x at none = absurd (none_some x at)
  new_name (Whole w) x at none = absurd (none_some x at)
  new_name (Name scope word) (book.place p) at none = absurd (apart (name_only scope _ (book.place p) at))
    where
      apart : (key : Key) × (book.place p ≡ book.name key) → ⊥
      apart (key, e) = cc
  new_name (Name scope word) (book.name key) at none = by (is_some (tree_in b.names key)) refl
    where
      by : (t : Bool) → is_some (tree_in b.names key) ≡ t → is_some (tree_in b.names key) ≡ false
      by false e = e
      by true e =
          let (d, to) = before.numbered.all key e in
          let same = one_node more d (Name scope word) (book.name key) now.numbered.once (numbers d (book.name key) to) at in
          absurd (none_some (book.name key) (sym none ∙ ap (node_at words) (sym same) ∙ to))

  pub still_fit : IsFit c more customs today new all kept
  still_fit a apart plain = by (node_at more a) refl
    where
      was : (x : book.Node) → node_at more a ≡ Some x → (o : Option book.Node) → node_at words a ≡ o → kept a ≡ expected c customs today x
      was x at (Some y) from =
          let same : y ≡ x = same_some y x (sym (numbers a y from) ∙ at) in
          fit a (none_before a y from apart) plain ∙ ap (expected_at b customs today) from ∙ ap (expected b customs today) same ∙ expected_same x (a, at, apart)
      was x at None none =
          nothing_kept b words old customs today marks kept before known fit a plain none
          ∙ sym (ap (λ t. cond t (Some (value_of c customs today x)) None) (sym ((inside_alike x (a, at, apart)).stands) ∙ new_name a x at none))

      by : (o : Option book.Node) → node_at more a ≡ o → kept a ≡ expected_at c customs today o
      by (Some x) at = was x at (node_at words a) refl
      by None none = nothing_kept b words old customs today marks kept before known fit a plain (unknown (node_at words a) refl)
        where
          unknown : (o : Option book.Node) → node_at words a ≡ o → node_at words a ≡ None
          unknown None e = e
          unknown (Some x) e = absurd (none_some x (sym none ∙ numbers a x e))

pub changes_keep_fit : ChangesKeepFit
changes_keep_fit b c words more old new customs today marks changed kept before now numbers known alike fit =
    still_fit b c words more old new customs today marks changed kept before now numbers known alike fit
