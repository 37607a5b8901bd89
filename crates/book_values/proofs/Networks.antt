-- The places and names of a workbook are a network, so their values unfold, and nothing else does. Serves the laws.
use Rattle.std.proofs.Common.{◌≡◌, ◌∙◌, sym, ap, refl, ℕ, ℤ, true, List, map, Option, Some, None, option_map, option_and_then}
use Rattle.std.specs.FinMap.{entries, get, get-entries}
use Rattle.std.specs.List.{list_any}
use Rattle.std.proofs.lemmas.Bool.{false≢true, or_left, or_right}
use Rattle.std.proofs.lemmas.List.Folds.{list_any-append}
use Rattle.cell_addr.specs.Place.{same_place}
use Rattle.cell_addr.specs.declared.place.Place.{Place}
use Rattle.cell_value.specs.declared.scalar.Scalar.{Scalar}
use Rattle.book_values.specs.Book.{Content, formulas_of}
use Rattle.book_values.specs.Book as content
use Rattle.custom_fn.specs.declared.rule.Rule.{Rule}
use Rattle.formula_tree.specs.Links.{names_in}
use Rattle.formula_tree.specs.Reference.{sheet_of}
use Rattle.formula_tree.specs.Term.{Term}
use Rattle.formula_tree.specs.declared.reference.Corner.{Corner}
use Rattle.value_network.proofs.FollowedNeeds as followed
use Rattle.value_network.proofs.Values as network_values
use Rattle.value_network.specs.Network.{IsNetwork, LeadsTo, Network, after, at_once, cyclic, has}
use Rattle.calc_terms.proofs.Reading.{reads_needs}
use Rattle.calc_terms.specs.Laws.{NameAlike}
use Rattle.calc_terms.specs.Meaning.{meaning}
use Rattle.calc_terms.specs.Needs.{mentions_name}
use Rattle.book_values.specs.Laws.{CyclesReturn, NothingElseUnfolds, ValuesUnfold}
use Rattle.book_values.specs.Names.{Key, found, is_found, tree_in}
use Rattle.book_values.specs.Values.{content_value, name_value, named_as, network, world_of}
use Rattle.book_values.specs.Workbook.{Node, Workbook, content_tree, home_of, needs, tree_at, tree_needs}
use Rattle.book_values.specs.Workbook as nodes
use Rattle.book_values.proofs.Keys.{any_mapped, name_listed, place_listed, same_key-self, same_node-equal, same_node-self, word_passes}

module _ (b : Workbook) (customs : List (List ℕ × Rule)) (today : ℤ) where
  abbrev net : Network Node Scalar
  net = network b customs today

  -- only a node with a tree needs others
  listed_place : (p : Place) (o : Option Content) (c : Node) → get b.cells p ≡ o → tree_needs b.names (sheet_of (home_of (nodes.place p))) (content_tree o) c ≡ true → has net (nodes.place p) net.formulas ≡ true
  listed_place p None c is h = absurd (false≢true h)
  listed_place p (Some (content.number m)) c is h = absurd (false≢true h)
  listed_place p (Some (content.truth t)) c is h = absurd (false≢true h)
  listed_place p (Some (content.text t)) c is h = absurd (false≢true h)
  listed_place p (Some (content.unreadable t)) c is h = absurd (false≢true h)
  listed_place p (Some (content.formula t)) c is h =
      list_any-append (net.same (nodes.place p)) (map nodes.place (formulas_of b.cells)) (map (λ e. nodes.name e.0) b.names)
      ∙ or_left (list_any (net.same (nodes.place p)) (map nodes.place (formulas_of b.cells))) (list_any (net.same (nodes.place p)) (map (λ e. nodes.name e.0) b.names))
      (any_mapped (same_place p) (net.same (nodes.place p)) nodes.place (formulas_of b.cells) (λ q. refl)
      (place_listed (entries b.cells) p (content.formula t) (sym (get-entries b.cells p) ∙ is) refl))

  listed_name : (key : Key) (o : Option (Term Corner)) (c : Node) → tree_in b.names key ≡ o → tree_needs b.names (sheet_of (home_of (nodes.name key))) o c ≡ true → has net (nodes.name key) net.formulas ≡ true
  listed_name key None c is h = absurd (false≢true h)
  listed_name key (Some t) c is h =
      list_any-append (net.same (nodes.name key)) (map nodes.place (formulas_of b.cells)) (map (λ e. nodes.name e.0) b.names)
      ∙ or_right (list_any (net.same (nodes.name key)) (map nodes.place (formulas_of b.cells))) (list_any (net.same (nodes.name key)) (map (λ e. nodes.name e.0) b.names)) (name_listed b.names key t is)

  listed : (a c : Node) → needs b a c ≡ true → has net a net.formulas ≡ true
  listed (nodes.place p) c h = listed_place p (get b.cells p) c refl h
  listed (nodes.name key) c h = listed_name key (tree_in b.names key) c refl h

  -- a node's tree means the same where all that following its needs comes to shows the same
  module _ (v w : Node → Scalar) (a : Node) (alike : (c : Node) → LeadsTo net a c → v c ≡ w c) where
    module _ (t : Term Corner) (is : tree_at b a ≡ Some t) where
      need : (c : Node) → tree_needs b.names (sheet_of (home_of a)) (Some t) c ≡ true → net.needs a c ≡ true
      need c h = ap (λ o. tree_needs b.names (sheet_of (home_of a)) o c) is ∙ h

      name_shows : (key : Key) (o : Option (Term Corner)) → tree_in b.names key ≡ o → net.needs a (nodes.name key) ≡ true
          → NameAlike (world_of b.names today v) (world_of b.names today w) (option_map (λ u. record { value = v (nodes.name key); tree = u }) o) (option_map (λ u. record { value = w (nodes.name key); tree = u }) o)
      name_shows key None at h = tt
      name_shows key (Some u) at h = (
        alike (nodes.name key) (at_once h),
        refl,
        λ p m. alike (nodes.place p) (after h (at_once (ap (λ o. tree_needs b.names (sheet_of (home_of (nodes.name key))) o (nodes.place p)) at ∙ m))),
      )

      word_shows : (word : List ℕ) (o : Option Key) → found b.names word (sheet_of (home_of a)) ≡ o → mentions_name t word ≡ true
          → NameAlike (world_of b.names today v) (world_of b.names today w) (option_and_then (named_as b.names v) o) (option_and_then (named_as b.names w) o)
      word_shows word None at h = tt
      word_shows word (Some key) at h = name_shows key (tree_in b.names key) refl
          (need (nodes.name key) (word_passes word (λ x. is_found (found b.names x (sheet_of (home_of a))) key) (names_in t) (ap (λ o. is_found o key) at ∙ same_key-self key) h))

      tree_reads : meaning (world_of b.names today v) customs (home_of a) t ≡ meaning (world_of b.names today w) customs (home_of a) t
      tree_reads = reads_needs (world_of b.names today v) (world_of b.names today w) customs (home_of a) t (record {
        today = refl;
        shown = λ p h. alike (nodes.place p) (at_once (need (nodes.place p) h));
        named = λ word h. word_shows word (found b.names word (sheet_of (home_of a))) refl h;
      })

  place_reads : (v w : Node → Scalar) (p : Place) → ((c : Node) → LeadsTo net (nodes.place p) c → v c ≡ w c) → (o : Option Content) → get b.cells p ≡ o
      → content_value (world_of b.names today v) customs (home_of (nodes.place p)) o ≡ content_value (world_of b.names today w) customs (home_of (nodes.place p)) o
  place_reads v w p alike None is = refl
  place_reads v w p alike (Some (content.number m)) is = refl
  place_reads v w p alike (Some (content.truth t)) is = refl
  place_reads v w p alike (Some (content.text t)) is = refl
  place_reads v w p alike (Some (content.unreadable t)) is = refl
  place_reads v w p alike (Some (content.formula t)) is = tree_reads v w (nodes.place p) alike t (ap content_tree is)

  name_reads : (v w : Node → Scalar) (key : Key) → ((c : Node) → LeadsTo net (nodes.name key) c → v c ≡ w c) → (o : Option (Term Corner)) → tree_in b.names key ≡ o
      → name_value (world_of b.names today v) customs (home_of (nodes.name key)) o ≡ name_value (world_of b.names today w) customs (home_of (nodes.name key)) o
  name_reads v w key alike None is = refl
  name_reads v w key alike (Some t) is = tree_reads v w (nodes.name key) alike t is

  own_reads : (a : Node) (v w : Node → Scalar) → ((c : Node) → LeadsTo net a c → v c ≡ w c) → net.own v a ≡ net.own w a
  own_reads (nodes.place p) v w alike = place_reads v w p alike (get b.cells p) refl
  own_reads (nodes.name key) v w alike = name_reads v w key alike (tree_in b.names key) refl

  pub is_network : IsNetwork (network b customs today)
  is_network = record {
    same_equal = same_node-equal;
    same_self = same_node-self;
    needs_formula = listed;
    reads_needs = own_reads;
  }

pub values_unfold : ValuesUnfold
values_unfold b customs today a =
    network_values.unfolds (network b customs today) (is_network b customs today) (cyclic (network b customs today)) (λ c h. h) a

pub nothing_else_unfolds : NothingElseUnfolds
nothing_else_unfolds b customs today shown unfold_there a =
    network_values.unique_everywhere (network b customs today) (is_network b customs today) (cyclic (network b customs today)) (λ c h. h) shown unfold_there a

pub cycles_return : CyclesReturn
cycles_return b customs today a = followed.cycles_return (network b customs today) (is_network b customs today) a
