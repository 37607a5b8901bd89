-- Needs lead from node to node in the graph exactly where they do in the workbook. Serves the laws on links, and
-- recalculation.
use Rattle.std.proofs.Common.{◌≡◌, ◌∙◌, sym, ap, refl, subst, ℕ, ℤ, Bool, true, false, cond, List, [], ◌∷◌, Option, Some, None, is_some, ◌⊎◌, inl, inr, ⊎_elim}
use Rattle.std.specs.Prelude.{IsTrue, slice_get}
use Rattle.std.specs.List.{list_any}
use Rattle.std.proofs.lemmas.Bool.{false≢true, or_cases, or_left, or_right}
use Rattle.cell_addr.proofs.SamePlaces.{same_block-decides, same_block-equal, same_place-equal, same_place-self, same_whole-decides}
use Rattle.cell_addr.specs.Place.{covers, same_place}
use Rattle.cell_addr.specs.declared.place.Block.{Block}
use Rattle.cell_addr.specs.declared.place.Place.{Place}
use Rattle.cell_addr.specs.Whole.{whole_block}
use Rattle.cell_addr.specs.declared.whole.Whole as ranges
use Rattle.cell_value.specs.declared.scalar.Scalar.{Scalar}
use Rattle.custom_fn.specs.declared.rule.Rule.{Rule}
use Rattle.formula_tree.specs.Links.{links_in, names_in, same_link}
use Rattle.formula_tree.specs.Reference.{sheet_of}
use Rattle.formula_tree.specs.Term.{Term}
use Rattle.formula_tree.specs.declared.link.Link.{Link}
use Rattle.formula_tree.specs.declared.link.Link.TheVariants as links
use Rattle.formula_tree.specs.declared.reference.Corner.{Corner}
use Rattle.value_network.specs.Network.{LeadsTo, Network, after, at_once}
use Rattle.calc_terms.proofs.LinkedPlaces.{mentions-links}
use Rattle.calc_terms.specs.Laws.{is_link_to}
use Rattle.calc_terms.specs.Needs.{mentions}
use Rattle.book_values.proofs.Keys.{same_key-equal}
use Rattle.book_values.proofs.Networks.{cycles_return}
use Rattle.book_values.specs.Names.{Key, Names, found, is_found, key_of, tree_in}
use Rattle.book_values.specs.Values.{network}
use Rattle.book_values.specs.Workbook as book
use Rattle.book_values.specs.Workbook.{Workbook, home_of, mentions_node, needs, tree_at, tree_needs}
use Rattle.dep_graph.specs.Laws.{IsNoRange}
use Rattle.dep_graph.specs.Needs.{Chain, Links, Needs, OnCycle}
use Rattle.dep_graph.specs.Needs as graph
use Rattle.dep_graph.specs.Nodes.{covers_node, has}
use Rattle.dep_graph.specs.declared.node.Node.{Node}
use Rattle.dep_graph.specs.declared.node.Node.TheVariants.{Cell, Name, Range, Whole}
use Rattle.recalc_core.specs.Laws.{ChainsAreNeeds, CyclesAgree}
use Rattle.recalc_core.specs.Links.{AreLinksOf, IsLinkOf}
use Rattle.recalc_core.specs.Nodes.{name_at, node_at, scope_at}

-- ---- lists and options

-- a test that one of a list's items passes, where another test is as good
pub any_as : {X : Type 0} (p q : X → Bool) (xs : List X) → ((x : X) → p x ≡ true → q x ≡ true) → list_any p xs ≡ true → list_any q xs ≡ true
any_as p q [] as_good h = absurd (false≢true h)
any_as p q (x ∷ xs) as_good h = ⊎_elim
    (λ (here : p x ≡ true). or_left (q x) (list_any q xs) (as_good x here))
    (λ (later : list_any p xs ≡ true). or_right (q x) (list_any q xs) (any_as p q xs as_good later))
    (or_cases (p x) (list_any p xs) h)

-- an item that passes
pub any_item : {X : Type 0} (p : X → Bool) (xs : List X) → list_any p xs ≡ true → (x : X) × (p x ≡ true)
any_item p [] h = absurd (false≢true h)
any_item p (x ∷ xs) h = ⊎_elim
    (λ (here : p x ≡ true). (x, here))
    (λ (later : list_any p xs ≡ true). any_item p xs later)
    (or_cases (p x) (list_any p xs) h)

pub same_some : {X : Type 0} (x y : X) → Some x ≡ Some y → x ≡ y
same_some x y e = cc

pub none_some : {X : Type 0} (x : X) → None ≡ Some x → ⊥
none_some x e = cc

-- ---- links to places

-- a link to the cell leads to it
cell_leads : (p : Place) (l : Link) → same_link (links.Cell p) l ≡ true → is_link_to p l ≡ true
cell_leads p (links.Cell q) h = subst (λ r. same_place q r ≡ true) (sym (same_place-equal p q h)) (same_place-self q)
cell_leads p (links.Area b) h = absurd (false≢true h)
cell_leads p (links.Whole w) h = absurd (false≢true h)
cell_leads p (links.Name scope word) h = absurd (false≢true h)

-- and a link to a block leads to each cell that it covers
area_leads : (b : Block) (p : Place) → covers b p ≡ true → (l : Link) → same_link (links.Area b) l ≡ true → is_link_to p l ≡ true
area_leads b p covered (links.Cell q) h = absurd (false≢true h)
area_leads b p covered (links.Area c) h = subst (λ d. covers d p ≡ true) (same_block-equal b c h) covered
area_leads b p covered (links.Whole w) h = absurd (false≢true h)
area_leads b p covered (links.Name scope word) h = absurd (false≢true h)

-- so does a link to a whole range
whole_leads : (v : ranges.Whole) (p : Place) → covers (whole_block v) p ≡ true → (l : Link) → same_link (links.Whole v) l ≡ true → is_link_to p l ≡ true
whole_leads v p covered (links.Cell q) h = absurd (false≢true h)
whole_leads v p covered (links.Area b) h = absurd (false≢true h)
whole_leads v p covered (links.Whole w) h = subst (λ u. covers (whole_block u) p ≡ true) ((same_whole-decides v w).0 h) covered
whole_leads v p covered (links.Name scope word) h = absurd (false≢true h)

pub refers_cell : (t : Term Corner) (p : Place) → list_any (same_link (links.Cell p)) (links_in t) ≡ true → mentions t p ≡ true
refers_cell t p h = mentions-links t p ∙ any_as (same_link (links.Cell p)) (is_link_to p) (links_in t) (cell_leads p) h

pub refers_block : (t : Term Corner) (b : Block) (p : Place) → covers b p ≡ true → list_any (same_link (links.Area b)) (links_in t) ≡ true → mentions t p ≡ true
refers_block t b p covered h = mentions-links t p ∙ any_as (same_link (links.Area b)) (is_link_to p) (links_in t) (area_leads b p covered) h

pub refers_whole : (t : Term Corner) (w : ranges.Whole) (p : Place) → covers (whole_block w) p ≡ true → list_any (same_link (links.Whole w)) (links_in t) ≡ true → mentions t p ≡ true
refers_whole t w p covered h = mentions-links t p ∙ any_as (same_link (links.Whole w)) (is_link_to p) (links_in t) (whole_leads w p covered) h

-- the list has a link to the cell, or one to a block or a whole range that covers it
abbrev pub HasWay : Place → List Link → Type 0
HasWay p ls =
    (list_any (same_link (links.Cell p)) ls ≡ true)
    ⊎ ((b : Block) × (covers b p ≡ true) × (list_any (same_link (links.Area b)) ls ≡ true))
    ⊎ ((w : ranges.Whole) × (covers (whole_block w) p ≡ true) × (list_any (same_link (links.Whole w)) ls ≡ true))

later_way : (p : Place) (l : Link) (ls : List Link) → HasWay p ls → HasWay p (l ∷ ls)
later_way p l ls (inl h) = inl (or_right (same_link (links.Cell p) l) (list_any (same_link (links.Cell p)) ls) h)
later_way p l ls (inr (inl (b, covered, h))) = inr (inl (b, covered, or_right (same_link (links.Area b) l) (list_any (same_link (links.Area b)) ls) h))
later_way p l ls (inr (inr (w, covered, h))) = inr (inr (w, covered, or_right (same_link (links.Whole w) l) (list_any (same_link (links.Whole w)) ls) h))

first_way : (p : Place) (l : Link) (ls : List Link) → is_link_to p l ≡ true → HasWay p (l ∷ ls)
first_way p (links.Cell q) ls h =
    inl (or_left (same_place p q) (list_any (same_link (links.Cell p)) ls) (subst (λ r. same_place r q ≡ true) (same_place-equal q p h) (same_place-self q)))
first_way p (links.Area b) ls h = inr (inl (b, h, or_left (same_link (links.Area b) (links.Area b)) (list_any (same_link (links.Area b)) ls) (same_block-self b)))
  where
    same_block-self : (c : Block) → same_link (links.Area c) (links.Area c) ≡ true
    same_block-self c = (same_block-decides c c).1 refl
first_way p (links.Whole w) ls h = inr (inr (w, h, or_left (same_link (links.Whole w) (links.Whole w)) (list_any (same_link (links.Whole w)) ls) ((same_whole-decides w w).1 refl)))
first_way p (links.Name scope word) ls h = absurd (false≢true h)

pub way_to : (p : Place) (ls : List Link) → list_any (is_link_to p) ls ≡ true → HasWay p ls
way_to p [] h = absurd (false≢true h)
way_to p (l ∷ ls) h = ⊎_elim
    (λ (here : is_link_to p l ≡ true). first_way p l ls here)
    (λ (later : list_any (is_link_to p) ls ≡ true). later_way p l ls (way_to p ls later))
    (or_cases (is_link_to p l) (list_any (is_link_to p) ls) h)

-- ---- names

-- what a word finds is there
pub found_stands : (names : Names) (word : List ℕ) (sheet : ℕ) (key : Key) → found names word sheet ≡ Some key → is_some (tree_in names key) ≡ true
found_stands names word sheet key e = own (is_some (tree_in names (key_of (Some sheet) word))) refl
  where
    other : (t : Bool) → is_some (tree_in names (key_of None word)) ≡ t → cond t (Some (key_of None word)) None ≡ Some key → is_some (tree_in names key) ≡ true
    other true is h = ap (λ k. is_some (tree_in names k)) (sym (same_some (key_of None word) key h)) ∙ is
    other false is h = absurd (none_some key h)

    own : (t : Bool) → is_some (tree_in names (key_of (Some sheet) word)) ≡ t → is_some (tree_in names key) ≡ true
    own true is =
        let h : Some (key_of (Some sheet) word) ≡ Some key =
        sym (ap (λ t. cond t (Some (key_of (Some sheet) word)) (cond (is_some (tree_in names (key_of None word))) (Some (key_of None word)) None)) is) ∙ e in
        ap (λ k. is_some (tree_in names k)) (sym (same_some (key_of (Some sheet) word) key h)) ∙ is
    own false is =
        let h : cond (is_some (tree_in names (key_of None word))) (Some (key_of None word)) None ≡ Some key =
        sym (ap (λ t. cond t (Some (key_of (Some sheet) word)) (cond (is_some (tree_in names (key_of None word))) (Some (key_of None word)) None)) is) ∙ e in
        other (is_some (tree_in names (key_of None word))) refl h

-- a name that a tree mentions is there
pub mentioned_stands : (names : Names) (sheet : ℕ) (t : Term Corner) (key : Key) → mentions_node names sheet t (book.name key) ≡ true → is_some (tree_in names key) ≡ true
mentioned_stands names sheet t key h =
    let (word, is) = any_item (λ w. is_found (found names w sheet) key) (names_in t) h in
    by word (found names word sheet) refl is
  where
    by : (word : List ℕ) (o : Option Key) → found names word sheet ≡ o → is_found o key ≡ true → is_some (tree_in names key) ≡ true
    by word None e is = absurd (false≢true is)
    by word (Some known) e is = found_stands names word sheet key (e ∙ ap Some (same_key-equal known key is))

-- ---- nodes

-- a name node is a name
pub name_only : (scope : ℕ) (o : Option (List ℕ)) (x : book.Node) → name_at scope o ≡ Some x → (key : Key) × (x ≡ book.name key)
name_only scope None x e = absurd (none_some x e)
name_only scope (Some word) x e = (record { scope = scope_at scope; word = word }, sym (same_some (book.name (record { scope = scope_at scope; word = word })) x e))

module _ (b : Workbook) (words : List (List ℕ)) (graph_links : Links) (good : AreLinksOf b words graph_links) where
  -- x needs each cell that the block covers
  abbrev NeedsAll : book.Node → Block → Type 0
  NeedsAll x block = (p : Place) → covers block p ≡ true → needs b x (book.place p) ≡ true

  -- a chain of the graph goes on from the node as needs do from x: it is x, or a range, whole or not, of which x needs
  -- each cell
  abbrev Begins : book.Node → Node → Type 0
  Begins x (Cell p) = node_at words (Cell p) ≡ Some x
  Begins x (Name scope word) = node_at words (Name scope word) ≡ Some x
  Begins x (Range block) = NeedsAll x block
  Begins x (Whole w) = NeedsAll x (whole_block w)

  begins : (x : book.Node) (a : Node) → node_at words a ≡ Some x → Begins x a
  begins x (Cell p) h = h
  begins x (Name scope word) h = h
  begins x (Range block) h = absurd (none_some x h)
  begins x (Whole w) h = absurd (none_some x h)

  -- a step of the graph is a need of x, or leads to a range, whole or not, of which x needs each cell
  abbrev Step : book.Node → Node → Type 0
  Step x c = ((z : book.Node) × (node_at words c ≡ Some z) × (needs b x z ≡ true)) ⊎ ((node_at words c ≡ None) × Begins x c)

  node_need : (x y : book.Node) (t : Term Corner) → tree_at b x ≡ Some t → mentions_node b.names (sheet_of (home_of x)) t y ≡ true → needs b x y ≡ true
  node_need x y t is h = ap (λ o. tree_needs b.names (sheet_of (home_of x)) o y) is ∙ h

  link_step : (x : book.Node) (t : Term Corner) (c : Node) → tree_at b x ≡ Some t → IsLinkOf words b.names (sheet_of (home_of x)) t c → Step x c
  link_step x t (Cell p) is h = inl (book.place p, refl, node_need x (book.place p) t is (refers_cell t p h))
  link_step x t (Name scope word) is (key, at, h) = inl (book.name key, at, node_need x (book.name key) t is h)
  link_step x t (Range block) is h = inr (refl, λ p covered. node_need x (book.place p) t is (refers_block t block p covered h))
  link_step x t (Whole w) is h = inr (refl, λ p covered. node_need x (book.place p) t is (refers_whole t w p covered h))

  linked_step : (x : book.Node) (a c : Node) → node_at words a ≡ Some x → IsTrue (has c (graph_links a)) → Step x c
  linked_step x a c at h =
      let (x2, t, at2, is, link) = (good.exact a c).0 h in
      let same : x2 ≡ x = same_some x2 x (sym at2 ∙ at) in
      link_step x t c (ap (tree_at b) (sym same) ∙ is) (subst (λ y. IsLinkOf words b.names (sheet_of (home_of y)) t c) same link)

  cell_step : (x : book.Node) (block : Block) (c : Node) → NeedsAll x block → covers_node (Range block) c ≡ true → Step x c
  cell_step x block (Cell p) all h = inl (book.place p, refl, all p h)
  cell_step x block (Name scope word) all h = absurd (false≢true h)
  cell_step x block (Range other) all h = absurd (false≢true h)
  cell_step x block (Whole other) all h = absurd (false≢true h)

  -- a whole range covers what its block does
  as_block : (w : ranges.Whole) (c : Node) → covers_node (Whole w) c ≡ covers_node (Range (whole_block w)) c
  as_block w (Cell p) = refl
  as_block w (Name scope word) = refl
  as_block w (Range other) = refl
  as_block w (Whole other) = refl

  step : (x : book.Node) (a c : Node) → Begins x a → Needs graph_links a c → Step x c
  step x (Cell p) c at (inl h) = linked_step x (Cell p) c at h
  step x (Cell p) c at (inr h) = absurd (false≢true h.0)
  step x (Name scope word) c at (inl h) = linked_step x (Name scope word) c at h
  step x (Name scope word) c at (inr h) = absurd (false≢true h.0)
  step x (Range block) c all (inl h) = let (x2, t, at2, is, link) = (good.exact (Range block) c).0 h in absurd (none_some x2 at2)
  step x (Range block) c all (inr h) = cell_step x block c all h.0
  step x (Whole w) c all (inl h) = let (x2, t, at2, is, link) = (good.exact (Whole w) c).0 h in absurd (none_some x2 at2)
  step x (Whole w) c all (inr h) = cell_step x (whole_block w) c all (sym (as_block w c) ∙ h.0)

  -- each node that is needed is one of the graph's
  pub needed_node : (x z : book.Node) → needs b x z ≡ true → (c : Node) × (node_at words c ≡ Some z)
  needed_node x (book.place p) h = (Cell p, refl)
  needed_node x (book.name key) h = by (tree_at b x) h
    where
      by : (o : Option (Term Corner)) → tree_needs b.names (sheet_of (home_of x)) o (book.name key) ≡ true → (c : Node) × (node_at words c ≡ Some (book.name key))
      by None n = absurd (false≢true n)
      by (Some t) n = good.numbered.all key (mentioned_stands b.names (sheet_of (home_of x)) t key n)

  -- a node that is neither a place nor a known name needs nothing
  needs_nothing : (a m : Node) → IsNoRange a → node_at words a ≡ None → Needs graph_links a m → ⊥
  needs_nothing a m plain none (inl h) = let (x, t, at, is, link) = (good.exact a m).0 h in none_some x (sym none ∙ at)
  needs_nothing (Cell p) m plain none (inr h) = false≢true h.0
  needs_nothing (Name scope word) m plain none (inr h) = false≢true h.0
  needs_nothing (Range block) m plain none (inr h) = plain
  needs_nothing (Whole w) m plain none (inr h) = plain

  pub unlinked : (a : Node) → IsNoRange a → node_at words a ≡ None → {c : Node} → Chain graph_links a c → ⊥
  unlinked a plain none (graph.at_once {b = m} need) = needs_nothing a m plain none need
  unlinked a plain none (graph.after {b = m} need rest) = needs_nothing a m plain none need

  -- ---- from needs to the graph

  pub join : {x y z : Node} → Chain graph_links x y → Chain graph_links y z → Chain graph_links x z
  join (graph.at_once need) second = graph.after need second
  join (graph.after need first) second = graph.after need (join first second)

  place_way : (x : book.Node) (a : Node) (t : Term Corner) (p : Place) → node_at words a ≡ Some x → tree_at b x ≡ Some t → HasWay p (links_in t) → Chain graph_links a (Cell p)
  place_way x a t p at is (inl h) = graph.at_once (inl ((good.exact a (Cell p)).1 (x, t, at, is, h)))
  place_way x a t p at is (inr (inl (block, covered, h))) =
      let linked : IsTrue (has (Range block) (graph_links a)) = (good.exact a (Range block)).1 (x, t, at, is, h) in
      graph.after {b = Range block} (inl linked) (graph.at_once (inr (covered, (a, linked))))
  place_way x a t p at is (inr (inr (w, covered, h))) =
      let linked : IsTrue (has (Whole w) (graph_links a)) = (good.exact a (Whole w)).1 (x, t, at, is, h) in
      graph.after {b = Whole w} (inl linked) (graph.at_once (inr (covered, (a, linked))))

  tree_way : (x y : book.Node) (a c : Node) (t : Term Corner) → node_at words a ≡ Some x → node_at words c ≡ Some y → tree_at b x ≡ Some t
      → mentions_node b.names (sheet_of (home_of x)) t y ≡ true → Chain graph_links a c
  tree_way x y a (Cell p) t at to is h =
      let same : book.place p ≡ y = same_some (book.place p) y to in
      place_way x a t p at is (way_to p (links_in t) (sym (mentions-links t p) ∙ ap (mentions_node b.names (sheet_of (home_of x)) t) same ∙ h))
  tree_way x y a (Name scope word) t at to is h =
      let (key, named) = name_only scope (slice_get words word) y to in
      graph.at_once (inl ((good.exact a (Name scope word)).1
      (x, t, at, is, (key, to ∙ ap Some named, ap (mentions_node b.names (sheet_of (home_of x)) t) (sym named) ∙ h))))
  tree_way x y a (Range block) t at to is h = absurd (none_some y to)
  tree_way x y a (Whole w) t at to is h = absurd (none_some y to)

  pub need_way : (x y : book.Node) (a c : Node) → node_at words a ≡ Some x → node_at words c ≡ Some y → needs b x y ≡ true → Chain graph_links a c
  need_way x y a c at to h = by (tree_at b x) refl
    where
      by : (o : Option (Term Corner)) → tree_at b x ≡ o → Chain graph_links a c
      by None is = absurd (false≢true (sym (ap (λ o. tree_needs b.names (sheet_of (home_of x)) o y) is) ∙ h))
      by (Some t) is = tree_way x y a c t at to is (sym (ap (λ o. tree_needs b.names (sheet_of (home_of x)) o y) is) ∙ h)

  module _ (customs : List (List ℕ × Rule)) (today : ℤ) where
    abbrev net : Network book.Node Scalar
    net = network b customs today

    forth_last : (x y : book.Node) (c : Node) → node_at words c ≡ Some y → Step x c → LeadsTo net x y
    forth_last x y c to (inl (z, at, need)) = at_once (ap (needs b x) (same_some y z (sym to ∙ at)) ∙ need)
    forth_last x y c to (inr (none, begin)) = absurd (none_some y (sym none ∙ to))

    forth_on : (x y : book.Node) (m : Node) → ((z : book.Node) → Begins z m → LeadsTo net z y) → Step x m → LeadsTo net x y
    forth_on x y m later (inl (z, at, need)) = after need (later z (begins z m at))
    forth_on x y m later (inr (none, begin)) = later x begin

    forth : {a c : Node} → Chain graph_links a c → (x y : book.Node) → Begins x a → node_at words c ≡ Some y → LeadsTo net x y
    forth (graph.at_once {a = a} {b = c} need) x y begin to = forth_last x y c to (step x a c begin need)
    forth (graph.after {a = a} {b = m} need rest) x y begin to = forth_on x y m (λ z start. forth rest z y start to) (step x a m begin need)

    pub back : {x y : book.Node} → LeadsTo net x y → (a c : Node) → node_at words a ≡ Some x → node_at words c ≡ Some y → Chain graph_links a c
    back (at_once {a = x} {b = y} need) a c at to = need_way x y a c at to need
    back (after {a = x} {b = z} {c = y} need rest) a c at to =
        let (m, by) = needed_node x z need in
        join (need_way x z a m at by need) (back rest m c by to)

pub chains_agree : ChainsAreNeeds
chains_agree b words graph_links customs today a c x y good at to = (
  λ chain. forth b words graph_links good customs today chain x y (begins b words graph_links good x a at) to,
  λ leads. back b words graph_links good customs today leads a c at to,
)

pub cycles_are_same : CyclesAgree
cycles_are_same b words graph_links customs today a x good at =
    let ways = chains_agree b words graph_links customs today a a x x good at at in
    let returns = cycles_return b customs today x in
    (λ chain. returns.1 (ways.0 chain), λ is. ways.1 (returns.0 is))
