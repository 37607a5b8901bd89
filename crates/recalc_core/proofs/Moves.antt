-- Kept values come along where nodes move, and fit the marks that come along. Serves the law.
use Rattle.std.proofs.Common.{◌≡◌, ◌∙◌, sym, ap, refl, subst, ℕ, ℤ, true, false, cond, List, Option, Some, None, is_some, option_map, option_and_then, ◌⊎◌, inl, inr, ⊎_elim}
use Rattle.std.specs.Prelude.{IsTrue, unwrap_or}
use Rattle.std.specs.Cmp.{both_ways}
use Rattle.std.specs.FinMap as map
use Rattle.std.proofs.lemmas.Bool.{false≢true}
use Rattle.cell_value.specs.declared.fault.FaultKind.TheVariants as fault
use Rattle.cell_value.specs.declared.scalar.Scalar.{Scalar}
use Rattle.cell_value.specs.declared.scalar.Scalar.TheVariants as scalar
use Rattle.custom_fn.specs.declared.rule.Rule.{Rule}
use Rattle.value_network.proofs.Values.{unique_on}
use Rattle.value_network.specs.Network.{LeadsTo, Network, after, at_once, cyclic, round}
use Rattle.calc_terms.specs.World.{World}
use Rattle.book_values.specs.Book.{Content}
use Rattle.formula_tree.specs.Term.{Term}
use Rattle.formula_tree.specs.declared.reference.Corner.{Corner}
use Rattle.book_values.proofs.Networks.{cycles_return, is_network, values_unfold}
use Rattle.book_values.specs.Names.{tree_in}
use Rattle.book_values.specs.Values.{content_value, name_value, network, value_of, worked_out, world_of}
use Rattle.book_values.specs.Workbook as book
use Rattle.book_values.specs.Workbook.{Workbook, home_of, needs, tree_at}
use Rattle.dep_graph.specs.Laws.{IsNoRange}
use Rattle.dep_graph.specs.Needs.{Links, Reaches}
use Rattle.dep_graph.specs.Nodes.{has}
use Rattle.dep_graph.specs.declared.node.Node.{Node}
use Rattle.recalc_core.specs.Kept.{IsFit, Kept, expected, expected_at, stands}
use Rattle.recalc_core.specs.Laws.{AreKnown}
use Rattle.recalc_core.specs.Links.{AreLinksOf}
use Rattle.recalc_core.specs.Moves.{AreCarried, Back, DoesAsBefore, From, IsCarried, IsWayBack, MarksFollow, MovesKeepFit, bare_value, carried, carried_kept}
use Rattle.recalc_core.specs.Nodes.{node_at}
use Rattle.recalc_core.proofs.Bridge.{chains_agree, need_way, needed_node, none_some, same_some}
use Rattle.recalc_core.proofs.Changes.{nothing_kept, reaches_on}
use Rattle.recalc_core.proofs.Linking.{one_node}
use Rattle.recalc_core.proofs.Worked.{free, leads_none, no_range}

-- what the workbook hasn't got works out nothing
bare_works : (c : Workbook) (customs : List (List ℕ × Rule)) (w : World) (x : book.Node) → stands c x ≡ false → worked_out c w customs x ≡ bare_value x
bare_works c customs w (book.place p) h = by (map.get c.cells p) refl
  where
    by : (o : Option Content) → map.get c.cells p ≡ o → content_value w customs (home_of (book.place p)) (map.get c.cells p) ≡ scalar.Empty
    by None e = ap (content_value w customs (home_of (book.place p))) e
    by (Some t) e = absurd (false≢true (sym h ∙ ap is_some e))
bare_works c customs w (book.name key) h = by (tree_in c.names key) refl
  where
    by : (o : Option (Term Corner)) → tree_in c.names key ≡ o → name_value w customs (home_of (book.name key)) (tree_in c.names key) ≡ scalar.Fault fault.Name
    by None e = ap (name_value w customs (home_of (book.name key))) e
    by (Some t) e = absurd (false≢true (sym h ∙ ap is_some e))

module _ (b c : Workbook) (words : List (List ℕ)) (old new : Links) (customs : List (List ℕ × Rule)) (today : ℤ) (marks more : List Node) (kept : Kept) (back : Back) (from : From)
    (before : AreLinksOf b words old) (now : AreLinksOf c words new) (way : IsWayBack words back from) (known : AreKnown words marks) (follow : MarksFollow from marks more) (come : AreCarried b c words back more)
    (fit : IsFit b words customs today old marks kept) where
  abbrev one : Network book.Node Scalar
  one = network b customs today

  abbrev two : Network book.Node Scalar
  two = network c customs today

  -- the places and names that reach no mark now
  abbrev Inside : book.Node → Type 0
  Inside x = (a : Node) × (node_at words a ≡ Some x) × (¬ Reaches new more a)

  inside_carried : (x : book.Node) → Inside x → IsCarried b c back x
  inside_carried x (a, at, apart) = come a x at (λ h. apart (inl h))

  closed : (x y : book.Node) → Inside x → needs c x y ≡ true → Inside y
  closed x y (a, at, apart) need =
      let (d, to) = needed_node c words new now x y need in
      (d, to, λ reach. apart (reaches_on c words new now more a d (need_way c words new now x y a d at to need) reach))

  -- one that was somewhere does as it did there
  does : (x y : book.Node) → Inside x → back x ≡ Some y → DoesAsBefore b c back x y
  does x y inside is = by (inside_carried x inside)
    where
      by : IsCarried b c back x → DoesAsBefore b c back x y
      by (inl (z, at, alike)) = subst (DoesAsBefore b c back x) (same_some z y (sym at ∙ is)) alike
      by (inr (none, out, no_tree)) = absurd (none_some y (sym none ∙ is))

  -- and one that was nowhere needs nothing
  needs_none : (x z : book.Node) → Inside x → back x ≡ None → LeadsTo two x z → ⊥
  needs_none x z inside none leads = by (inside_carried x inside)
    where
      by : IsCarried b c back x → ⊥
      by (inl (y, at, alike)) = none_some y (sym none ∙ at)
      by (inr (same, out, no_tree)) = leads_none c customs today leads no_tree

  -- where needs lead now, they led before
  leads_there : {x z : book.Node} → LeadsTo two x z → (y : book.Node) → Inside x → back x ≡ Some y → (back z ≡ None) ⊎ ((w : book.Node) × (back z ≡ Some w) × LeadsTo one y w)
  leads_there (at_once {a = x} {b = z} need) y inside is = by ((does x y inside is).there z need)
    where
      by : (back z ≡ None) ⊎ ((w : book.Node) × (back z ≡ Some w) × (needs b y w ≡ true)) → (back z ≡ None) ⊎ ((w : book.Node) × (back z ≡ Some w) × LeadsTo one y w)
      by (inl none) = inl none
      by (inr (w, at, here)) = inr (w, at, at_once here)
  leads_there (after {a = x} {b = m} {c = z} need rest) y inside is = by ((does x y inside is).there m need) (λ v on. leads_there rest v (closed x m inside need) on)
    where
      by : (back m ≡ None) ⊎ ((w : book.Node) × (back m ≡ Some w) × (needs b y w ≡ true)) → ((v : book.Node) → back m ≡ Some v → (back z ≡ None) ⊎ ((w : book.Node) × (back z ≡ Some w) × LeadsTo one v w))
          → (back z ≡ None) ⊎ ((w : book.Node) × (back z ≡ Some w) × LeadsTo one y w)
      by (inl none) on = absurd (needs_none m z (closed x m inside need) none rest)
      by (inr (v, at, here)) on = ⊎_elim (λ (none : back z ≡ None). inl none) (λ (led : (w : book.Node) × (back z ≡ Some w) × LeadsTo one v w). let (w, to, leads) = led in inr (w, to, after here leads)) (on v at)

  -- and where they led before, they lead now
  leads_forth : {y w : book.Node} → LeadsTo one y w → (x : book.Node) → Inside x → back x ≡ Some y → (z : book.Node) × (back z ≡ Some w) × LeadsTo two x z × Inside z
  leads_forth (at_once {a = y} {b = w} need) x inside is =
      let (z, at, here) = (does x y inside is).forth w need in
      (z, at, at_once here, closed x z inside here)
  leads_forth (after {a = y} {b = v} {c = w} need rest) x inside is =
      let (m, at, here) = (does x y inside is).forth v need in
      let (z, to, leads, there) = leads_forth rest m (closed x m inside here) at in
      (z, to, after here leads, there)

  cyclic_same : (x y : book.Node) → Inside x → back x ≡ Some y → cyclic two x ≡ cyclic one y
  cyclic_same x y inside is = both_ways (cyclic two x) (cyclic one y)
      (λ h. (cycles_return b customs today y).1 (was (leads_there ((cycles_return c customs today x).0 h) y inside is)))
      (λ h. (cycles_return c customs today x).1 (again (leads_forth ((cycles_return b customs today y).0 h) x inside is)))
    where
      was : (back x ≡ None) ⊎ ((w : book.Node) × (back x ≡ Some w) × LeadsTo one y w) → LeadsTo one y y
      was (inl none) = absurd (none_some y (sym none ∙ is))
      was (inr (w, at, leads)) = subst (LeadsTo one y) (same_some w y (sym at ∙ is)) leads

      again : (z : book.Node) × (back z ≡ Some y) × LeadsTo two x z × Inside z → LeadsTo two x x
      again (z, at, leads, there) = subst (LeadsTo two x) (way.once z x y at is) leads

  abbrev shown : book.Node → Scalar
  shown = carried back (value_of b customs today)

  carried_at : (x y : book.Node) → back x ≡ Some y → shown x ≡ value_of b customs today y
  carried_at x y is = ap (λ o. unwrap_or (option_map (value_of b customs today) o) (bare_value x)) is

  -- the values that come along unfold
  shown_unfolds : (x : book.Node) → Inside x → shown x ≡ round two (cyclic two) shown x
  shown_unfolds x inside = by (inside_carried x inside)
    where
      by : IsCarried b c back x → shown x ≡ round two (cyclic two) shown x
      by (inl (y, is, alike)) =
          carried_at x y is ∙ values_unfold b customs today y
          ∙ (λ i. cond (sym (cyclic_same x y inside is) i) (scalar.Fault fault.Cycle) (sym (alike.works customs today (value_of b customs today)) i))
      by (inr (none, out, no_tree)) =
          ap (λ o. unwrap_or (option_map (value_of b customs today) o) (bare_value x)) none
          ∙ sym (bare_works c customs (world_of c.names today shown) x out)
          ∙ sym (ap (λ t. cond t (scalar.Fault fault.Cycle) (worked_out c (world_of c.names today shown) customs x)) (free c customs today x no_tree))

  value_comes : (x : book.Node) → Inside x → shown x ≡ value_of c customs today x
  value_comes x inside = unique_on two (is_network c customs today) (cyclic two) (λ y h. h) Inside shown closed shown_unfolds x inside

  expected_comes : (x y : book.Node) → Inside x → back x ≡ Some y → expected b customs today y ≡ expected c customs today x
  expected_comes x y inside is = λ i. cond (sym ((does x y inside is).stands) i) (Some ((sym (carried_at x y is) ∙ value_comes x inside) i)) None

  -- a node that reaches no mark now was one that reached none
  none_before : (a last : Node) (x y : book.Node) → IsNoRange a → node_at words a ≡ Some x → from a ≡ Some last → node_at words last ≡ Some y → back x ≡ Some y → ¬ Reaches new more a → ¬ Reaches old marks last
  none_before a last x y plain at was to is apart (inl mark) = apart (inl (follow a last plain was mark))
  none_before a last x y plain at was to is apart (inr (m, mark, chain)) =
      let (w, marked) = known m mark in
      let (z, came, leads, (d, here, free_of)) = leads_forth ((chains_agree b words old customs today last m y w before to marked).0 chain) x (a, at, apart) is in
      marked_then d z w (no_range_at d z here) here came m mark marked free_of
    where
      no_range_at : (d : Node) (z : book.Node) → node_at words d ≡ Some z → IsNoRange d
      no_range_at d z e = no_range words d z e

      marked_then : (d : Node) (z w : book.Node) → IsNoRange d → node_at words d ≡ Some z → back z ≡ Some w → (m : Node) → IsTrue (has m marks) → node_at words m ≡ Some w → ¬ Reaches new more d → ⊥
      marked_then d z w no_block here came m mark marked free_of = by (from d) refl
        where
          by : (o : Option Node) → from d ≡ o → ⊥
          by None e = none_some w (sym (ap (option_and_then (node_at words)) e) ∙ way.same d no_block ∙ ap (option_and_then back) here ∙ came)
          by (Some e) was_e =
              let at_e : node_at words e ≡ Some w = sym (ap (option_and_then (node_at words)) was_e) ∙ way.same d no_block ∙ ap (option_and_then back) here ∙ came in
              let same : e ≡ m = one_node words e m w now.numbered.once at_e marked in
              free_of (inl (follow d e no_block was_e (subst (λ n. IsTrue (has n marks)) (sym same) mark)))

  pub comes_fit : IsFit c words customs today new more (carried_kept from kept)
  comes_fit a apart plain = by (node_at words a) refl (from a) refl
    where
      gone : (o : Option book.Node) → node_at words a ≡ o → (f : Option Node) → from a ≡ f → option_and_then back o ≡ None → option_and_then kept (from a) ≡ None
      gone o at None was none = ap (option_and_then kept) was
      gone o at (Some last) was none =
          ap (option_and_then kept) was
          ∙ nothing_kept b words old customs today marks kept before known fit last (way.plain a last plain was)
          (sym (ap (option_and_then (node_at words)) was) ∙ way.same a plain ∙ ap (option_and_then back) at ∙ none)

      came : (x y : book.Node) → node_at words a ≡ Some x → back x ≡ Some y → (f : Option Node) → from a ≡ f → option_and_then kept (from a) ≡ expected c customs today x
      came x y at is None was = absurd (none_some y (sym (ap (option_and_then (node_at words)) was) ∙ way.same a plain ∙ ap (option_and_then back) at ∙ is))
      came x y at is (Some last) was =
          let to : node_at words last ≡ Some y = sym (ap (option_and_then (node_at words)) was) ∙ way.same a plain ∙ ap (option_and_then back) at ∙ is in
          ap (option_and_then kept) was
          ∙ fit last (none_before a last x y plain at was to is apart) (way.plain a last plain was)
          ∙ ap (expected_at b customs today) to ∙ expected_comes x y (a, at, apart) is

      carried_or : (x : book.Node) → node_at words a ≡ Some x → (f : Option Node) → from a ≡ f → IsCarried b c back x → option_and_then kept (from a) ≡ expected c customs today x
      carried_or x at f was (inl (y, is, alike)) = came x y at is f was
      carried_or x at f was (inr (none, out, no_tree)) = gone (Some x) at f was none ∙ sym (ap (λ t. cond t (Some (value_of c customs today x)) None) out)

      by : (o : Option book.Node) → node_at words a ≡ o → (f : Option Node) → from a ≡ f → option_and_then kept (from a) ≡ expected_at c customs today o
      by None at f was = gone None at f was refl
      by (Some x) at f was = carried_or x at f was (come a x at (λ h. apart (inl h)))

pub moves_keep_fit : MovesKeepFit
moves_keep_fit b c words old new customs today marks more kept back from before now way known follow come fit =
    comes_fit b c words old new customs today marks more kept back from before now way known follow come fit
