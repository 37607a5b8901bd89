-- What the formula of a node is linked to where the node was taken by an operation. Serves the laws on operations.
use Rattle.std.proofs.Common.{◌≡◌, ◌∙◌, sym, ap, refl, subst, ℕ, List, Some, option_map}
use Rattle.std.proofs.lemmas.Option.{none-some, same_Some}
use Rattle.cell_addr.specs.declared.place.Block.{Block}
use Rattle.cell_addr.specs.declared.place.Place.{Place}
use Rattle.cell_addr.specs.declared.whole.Whole as ranges
use Rattle.formula_tree.specs.Links.{links_in, same_link}
use Rattle.formula_tree.specs.Reference.{sheet_of}
use Rattle.formula_tree.specs.Term.{Term}
use Rattle.formula_tree.specs.declared.link.Link.{Link}
use Rattle.formula_tree.specs.declared.link.Link.TheVariants as links
use Rattle.formula_tree.specs.declared.reference.Corner.{Corner}
use Rattle.shift_core.specs.Tables.{block_after, place_after}
use Rattle.shift_core.specs.Wholes.{whole_after}
use Rattle.shift_core.specs.declared.shift.Shift.{Shift}
use Rattle.tree_rewrite.specs.Rewritten.{rewritten}
use Rattle.book_values.specs.Workbook as book
use Rattle.book_values.specs.Workbook.{Workbook, home_of}
use Rattle.dep_graph.specs.Shifted.{node_after}
use Rattle.dep_graph.specs.declared.node.Node.{Node}
use Rattle.dep_graph.specs.declared.node.Node.TheVariants.{Cell, Name, Range, Whole}
use Rattle.dep_graph.proofs.UnbentNodes.{mapped}
use Rattle.recalc_core.specs.Links.{IsLinkOf}
use Rattle.marked_values.specs.Shifts.{IsBookAfter}
use Rattle.marked_values.proofs.MovedTrees.{HasLink, area_goes, cell_goes, link_after, link_came, range_goes, same_area, same_cell, same_range}
use Rattle.marked_values.proofs.Pairs.{FindsSame, same_names}
use Rattle.marked_values.proofs.StillTrees.{block_went, place_went, whole_went}

one_place : (p q : Place) → links.Cell p ≡ links.Cell q → p ≡ q
one_place p q e = cc

one_block : (b c : Block) → links.Area b ≡ links.Area c → b ≡ c
one_block b c e = cc

one_range : (v w : ranges.Whole) → links.Whole v ≡ links.Whole w → v ≡ w
one_range v w e = cc

no_block : (p : Place) (b : Block) → links.Cell p ≡ links.Area b → ⊥
no_block p b e = cc

no_range : (p : Place) (w : ranges.Whole) → links.Cell p ≡ links.Whole w → ⊥
no_range p w e = cc

other_range : (b : Block) (w : ranges.Whole) → links.Area b ≡ links.Whole w → ⊥
other_range b w e = cc

module _ (s : Shift) (b c : Workbook) (over : IsBookAfter s b c) (words : List (List ℕ)) (x z : book.Node) (t : Term Corner) (finds : FindsSame s b c over x z) where
  abbrev LinkBefore : Node → Type 0
  LinkBefore y = IsLinkOf words b.names (sheet_of (home_of x)) t y

  abbrev LinkAfter : Node → Type 0
  LinkAfter d = IsLinkOf words c.names (sheet_of (home_of z)) (rewritten s t) d

  -- what it was linked to it is linked to where that is then
  pub linked_goes : (y d : Node) → LinkBefore y → node_after s y ≡ Some d → LinkAfter d
  linked_goes (Cell p) d h goes = let (q, to, same) = mapped Cell (place_after s p) d goes in subst LinkAfter same (cell_goes s t p q to h)
  linked_goes (Range block) d h goes = let (after, to, same) = mapped Range (block_after s block) d goes in subst LinkAfter same (area_goes s t block after to h)
  linked_goes (Whole w) d h goes = let (after, to, same) = mapped Whole (whole_after s w) d goes in subst LinkAfter same (range_goes s t w after to h)
  linked_goes (Name scope word) d (key, at, m) goes =
      subst LinkAfter (same_Some (Name scope word) d goes) (key, at, same_names s b c over x z t finds key ∙ m)

  -- and what it is linked to then it was linked to where that was
  pub linked_came : (d : Node) → LinkAfter d → (y : Node) × LinkBefore y × (node_after s y ≡ Some d)
  linked_came (Cell q) h =
      let (l, m, is, goes, same) = link_came s t (same_link (links.Cell q)) h in
      by l m is goes (same_cell q m same)
    where
      by : (l m : Link) → HasLink l (links_in t) → link_after s l ≡ Some m → m ≡ links.Cell q → (y : Node) × LinkBefore y × (node_after s y ≡ Some (Cell q))
      by (links.Cell p) m is goes same =
          let (r, to, at) = place_went (place_after s p) m goes in
          (Cell p, is, ap (option_map Cell) (to ∙ ap Some (one_place r q (sym at ∙ same))))
      by (links.Area block) m is goes same = let (after, to, at) = block_went (block_after s block) m goes in absurd (no_block q after (sym same ∙ at))
      by (links.Whole w) m is goes same = let (after, to, at) = whole_went (whole_after s w) m goes in absurd (no_range q after (sym same ∙ at))
      by (links.Name scope w) m is goes same = absurd (none-some m goes)
  linked_came (Range block) h =
      let (l, m, is, goes, same) = link_came s t (same_link (links.Area block)) h in
      by l m is goes (same_area block m same)
    where
      by : (l m : Link) → HasLink l (links_in t) → link_after s l ≡ Some m → m ≡ links.Area block → (y : Node) × LinkBefore y × (node_after s y ≡ Some (Range block))
      by (links.Cell p) m is goes same = let (r, to, at) = place_went (place_after s p) m goes in absurd (no_block r block (sym at ∙ same))
      by (links.Area old) m is goes same =
          let (after, to, at) = block_went (block_after s old) m goes in
          (Range old, is, ap (option_map Range) (to ∙ ap Some (one_block after block (sym at ∙ same))))
      by (links.Whole w) m is goes same = let (after, to, at) = whole_went (whole_after s w) m goes in absurd (other_range block after (sym same ∙ at))
      by (links.Name scope w) m is goes same = absurd (none-some m goes)
  linked_came (Whole w) h =
      let (l, m, is, goes, same) = link_came s t (same_link (links.Whole w)) h in
      by l m is goes (same_range w m same)
    where
      by : (l m : Link) → HasLink l (links_in t) → link_after s l ≡ Some m → m ≡ links.Whole w → (y : Node) × LinkBefore y × (node_after s y ≡ Some (Whole w))
      by (links.Cell p) m is goes same = let (r, to, at) = place_went (place_after s p) m goes in absurd (no_range r w (sym at ∙ same))
      by (links.Area block) m is goes same = let (after, to, at) = block_went (block_after s block) m goes in absurd (other_range after w (sym at ∙ same))
      by (links.Whole old) m is goes same =
          let (after, to, at) = whole_went (whole_after s old) m goes in
          (Whole old, is, ap (option_map Whole) (to ∙ ap Some (one_range after w (sym at ∙ same))))
      by (links.Name scope w) m is goes same = absurd (none-some m goes)
  linked_came (Name scope word) (key, at, m) = (Name scope word, (key, at, sym (same_names s b c over x z t finds key) ∙ m), refl)
