-- Nodes that an operation doesn't bend: their needs go and come back. Serves the law of the links that stay.
use Rattle.std.proofs.Common.{◌≡◌, ◌∙◌, sym, ap, refl, subst, inl, inr, ◌⊎◌, Option, Some, None, option_map, true}
use Rattle.std.specs.Bool.{⊤}
use Rattle.std.specs.Option.{MatchOption}
use Rattle.std.proofs.lemmas.Option.{none-some, same_Some}
use Rattle.cell_addr.specs.declared.place.Block.{Block}
use Rattle.shift_core.specs.Bent.{HaveOtherSizes, IsBent, MeetsDisplaced}
use Rattle.shift_core.specs.Form.{form_of}
use Rattle.shift_core.specs.Sound.{IsSound}
use Rattle.shift_core.specs.Tables.{block_after, place_after}
use Rattle.shift_core.specs.Wholes.{whole_after}
use Rattle.shift_core.specs.declared.shift.Shift.{Shift}
use Rattle.shift_core.proofs.PlaceLaws.{place_moved_apart, place_moved_returns}
use Rattle.shift_core.proofs.UnbentBlocks.{unbent_returns}
use Rattle.shift_core.proofs.WholeMoves.{lost_whole_bent, unbent_whole_returns}
use Rattle.dep_graph.specs.Bent.{Bends}
use Rattle.dep_graph.specs.Laws.{GoesAndComesBack, IsNoRange, IsNodeInside, UnbentNodesKeepTheirLinks}
use Rattle.dep_graph.specs.Nodes.{has}
use Rattle.dep_graph.specs.Shifted.{node_after}
use Rattle.dep_graph.specs.declared.node.Node.{Node}
use Rattle.dep_graph.specs.declared.node.Node.TheVariants.{Cell, Name, Range, Whole}

-- what came out of a map
pub mapped : {A B : Type 0} (f : A → B) (o : Option A) (y : B) → option_map f o ≡ Some y → (x : A) × (o ≡ Some x) × (f x ≡ y)
mapped f None y h = absurd (none-some y h)
mapped f (Some x) y h = (x, refl, same_Some (f x) y h)

-- what isn't nothing is something
is_some : {A : Type 0} (o : Option A) → ¬ (o ≡ None) → (x : A) × (o ≡ Some x)
is_some None some = absurd (some refl)
is_some (Some x) some = (x, refl)

-- a lost block is bent
lost_bends : (s : Shift) (b : Block) → block_after s b ≡ None → IsBent s b
lost_bends s b lost = subst (λ o. MatchOption o ⊤ (λ after. HaveOtherSizes b after ⊎ MeetsDisplaced (form_of s) b)) (sym lost) tt

module _ (s : Shift) (sound : IsSound s) where
  -- a node that the operation doesn't bend goes somewhere, and comes back
  goes_and_comes_back : (a : Node) → IsNodeInside a → ¬ Bends s a → (b : Node) × GoesAndComesBack s a b
  goes_and_comes_back (Cell p) inside still =
      let (q, goes) = is_some (place_after s p) still in
      (Cell q, (ap (option_map Cell) goes, ap (option_map Cell) (place_moved_returns (form_of s) p q sound inside goes)))
  goes_and_comes_back (Name scope word) inside still = (Name scope word, (refl, refl))
  goes_and_comes_back (Range b) inside still =
      let (c, goes) = is_some (block_after s b) (λ lost. still (inl (lost_bends s b lost))) in
      (Range c, (ap (option_map Range) goes, ap (option_map Range) (unbent_returns (form_of s) b c sound inside (λ bent. still (inl bent)) (λ cut. still (inr cut)) goes)))
  goes_and_comes_back (Whole w) inside still =
      let (v, goes) = is_some (whole_after s w) (λ lost. still (lost_whole_bent (form_of s) w lost)) in
      (Whole v, (ap (option_map Whole) goes, ap (option_map Whole) (unbent_whole_returns (form_of s) w v sound inside still goes)))

  -- no other node inside moves to where a cell or a name has moved
  apart : (a x after : Node) → IsNodeInside a → IsNodeInside x → IsNoRange a → node_after s a ≡ Some after → node_after s x ≡ Some after → x ≡ a
  apart (Cell p) (Cell q) after p_in q_in one p_to q_to =
      let (there, p_goes, p_is) = mapped Cell (place_after s p) after p_to in
      let (here, q_goes, q_is) = mapped Cell (place_after s q) after q_to in
      let same : here ≡ there = cc in
      ap Cell (place_moved_apart (form_of s) q p there sound q_in p_in (q_goes ∙ ap Some same) p_goes)
  apart (Cell p) (Name scope word) after p_in q_in one p_to q_to =
      let (there, p_goes, p_is) = mapped Cell (place_after s p) after p_to in
      absurd (cc)
  apart (Cell p) (Range b) after p_in q_in one p_to q_to =
      let (there, p_goes, p_is) = mapped Cell (place_after s p) after p_to in
      let (here, b_goes, b_is) = mapped Range (block_after s b) after q_to in
      absurd (cc)
  apart (Cell p) (Whole w) after p_in q_in one p_to q_to =
      let (there, p_goes, p_is) = mapped Cell (place_after s p) after p_to in
      let (here, w_goes, w_is) = mapped Whole (whole_after s w) after q_to in
      absurd (cc)
  apart (Name scope word) (Cell q) after p_in q_in one p_to q_to =
      let (here, q_goes, q_is) = mapped Cell (place_after s q) after q_to in
      absurd (cc)
  apart (Name scope word) (Name other_scope other_word) after p_in q_in one p_to q_to = same_Some (Name other_scope other_word) (Name scope word) (q_to ∙ sym p_to)
  apart (Name scope word) (Range b) after p_in q_in one p_to q_to =
      let (here, b_goes, b_is) = mapped Range (block_after s b) after q_to in
      absurd (cc)
  apart (Name scope word) (Whole w) after p_in q_in one p_to q_to =
      let (here, w_goes, w_is) = mapped Whole (whole_after s w) after q_to in
      absurd (cc)
  apart (Range b) x after p_in q_in one p_to q_to = absurd one
  apart (Whole w) x after p_in q_in one p_to q_to = absurd one

-- the links of a cell or a name that isn't bent
pub unbent_links : UnbentNodesKeepTheirLinks
unbent_links s old new a after sound inside a_in one still goes shifted = (
  λ b h.
      let (c, there) = goes_and_comes_back s sound b (inside a b h).1 (λ bends. still (b, h, bends)) in
      (c, (shifted after c).1 (a, b, h, goes, there.0), there),
  λ c h.
      let (x, y, link, x_to, y_to) = (shifted after c).0 h in
      let same : x ≡ a = apart s sound a x after a_in (inside x y link).0 one goes x_to in
      let from : has y (old a) ≡ true = subst (λ z. has y (old z) ≡ true) same link in
      let (d, there) = goes_and_comes_back s sound y (inside x y link).1 (λ bends. still (y, from, bends)) in
      (y, from, subst (λ z. GoesAndComesBack s y z) (same_Some d c (sym there.0 ∙ y_to)) there),
)
