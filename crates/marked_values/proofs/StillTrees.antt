-- A formula that an operation doesn't bend: what it mentions goes along and comes back, but for cells that were moved away from
-- a block that stays. Serves the laws on operations.
use Rattle.std.proofs.Common.{◌≡◌, ◌∙◌, sym, ap, ap₂, refl, subst, Bool, true, false, cond, Option, Some, None, option_map, MatchOption, ◌⊎◌, inl, inr, ⊎_elim}
use Rattle.std.specs.Prelude.{⊤}
use Rattle.std.proofs.lemmas.Bool.{false≢true, or_parts}
use Rattle.std.proofs.lemmas.Option.{none-some, same_Some}
use Rattle.cell_addr.proofs.SamePlaces.{same_place-equal}
use Rattle.cell_addr.proofs.Wholes.{whole_block-inside}
use Rattle.cell_addr.specs.Place.{Covers, IsBlockInside, IsInside, covers}
use Rattle.cell_addr.specs.Whole.{whole_block}
use Rattle.cell_addr.specs.declared.axis.Axis.{Axis}
use Rattle.cell_addr.specs.declared.place.Block.{Block}
use Rattle.cell_addr.specs.declared.place.Place.{Place}
use Rattle.cell_addr.specs.declared.whole.Whole.{Whole}
use Rattle.formula_tree.specs.Links.{links_in}
use Rattle.formula_tree.specs.Term.{Term}
use Rattle.formula_tree.specs.declared.link.Link.{Link}
use Rattle.formula_tree.specs.declared.link.Link.TheVariants as links
use Rattle.formula_tree.specs.declared.reference.Corner.{Corner}
use Rattle.shift_core.specs.Bent.{BendsBlock, HaveOtherSizes, IsBent, IsCut, MeetsDisplaced}
use Rattle.shift_core.specs.Carried.{carried_block, carried_place, contains, destination}
use Rattle.shift_core.specs.Form.{form_of}
use Rattle.shift_core.specs.Sound.{IsSound}
use Rattle.shift_core.specs.Tables.{block_after, block_moved, place_after, place_moved}
use Rattle.shift_core.specs.Wholes.{IsAcross, IsWholeBent, whole_after}
use Rattle.shift_core.specs.declared.form.Form.{Form}
use Rattle.shift_core.specs.declared.form.Form.TheVariants.{Cells, Lines, Sheet}
use Rattle.shift_core.specs.declared.shift.Shift.{Shift}
use Rattle.shift_core.proofs.CellMoves.{Covers-from_covers, Covers_inside, chosen_second, covers-from_Covers}
use Rattle.shift_core.proofs.WholeMoves.{whole_moves_as_block}
use Rattle.tree_rewrite.specs.References.{FitsSheets}
use Rattle.tree_rewrite.proofs.EachReferences.{EachReference-map}
use Rattle.tree_rewrite.specs.Rewritten.{rewritten}
use Rattle.calc_terms.proofs.LinkedPlaces.{mentions-links}
use Rattle.calc_terms.specs.Laws.{is_link_to}
use Rattle.calc_terms.specs.Needs.{mentions}
use Rattle.carried_terms.specs.Following.{IsWhole, IsWholeIn, StaysTorn}
use Rattle.carried_terms.specs.Still.{IsStill, IsStillArea, IsStillBlock, IsStillReference}
use Rattle.carried_terms.proofs.Blocks.{kept_follow}
use Rattle.recalc_core.proofs.Bridge.{refers_block, refers_cell, refers_whole}
use Rattle.marked_values.specs.Shifts.{asks_place, is_moved_cell, is_moved_in}
use Rattle.marked_values.proofs.MovedTrees.{HasLink, area_goes, asks_nowhere, by_links, cell_goes, link_after, link_came, passing, range_goes}
use Rattle.marked_values.proofs.TreeLinks.{IsLinkInside, link_between, link_inside, passing_inside}

-- ---- blocks

-- what isn't bent isn't lost
lost_bends : (f : Form) (b : Block) → block_moved f b ≡ None → BendsBlock f b
lost_bends f b lost = subst (λ o. MatchOption o ⊤ (λ after. HaveOtherSizes b after ⊎ MeetsDisplaced f b)) (sym lost) tt

pub some_block : (f : Form) (b : Block) → ¬ BendsBlock f b → (c : Block) × (block_moved f b ≡ Some c)
some_block f b still = by (block_moved f b) refl
  where
    by : (o : Option Block) → block_moved f b ≡ o → (c : Block) × (block_moved f b ≡ Some c)
    by None e = absurd (still (lost_bends f b e))
    by (Some c) e = (c, e)

-- moved cells tear the block, which stays where it is with all places that aren't moved, or they don't
abbrev StaysIn : Form → Block → Type 0
StaysIn f b = (block_moved f b ≡ Some b) × ((p : Place) → is_moved_in f p ≡ false → place_moved f p ≡ Some p)

whole_or_torn : (f : Form) (b : Block) → ¬ BendsBlock f b → IsWholeIn f b ⊎ StaysIn f b
whole_or_torn (Lines sheet axis edit) b still = inl tt
whole_or_torn (Sheet sheet) b still = inl tt
whole_or_torn (Cells source to) b still = by (contains source b) refl (contains (destination source to) b) refl
  where
    by : (m : Bool) → contains source b ≡ m → (n : Bool) → contains (destination source to) b ≡ n → IsWholeIn (Cells source to) b ⊎ StaysIn (Cells source to) b
    by true e n f = inl (inl e)
    by false e true f = absurd (still (lost_bends (Cells source to) b (ap₂ (λ m n. cond m (Some (carried_block source to b)) (cond n None (Some b))) e f)))
    by false e false f = inr (
      chosen_second (contains source b) (contains (destination source to) b) (carried_block source to b) b e f,
      λ p h.
          let (away, onto) = or_parts (covers source p) (covers (destination source to) p) h in
          chosen_second (covers source p) (covers (destination source to) p) (carried_place source to p) p away onto,
    )

-- ---- trees

-- of what a tree is linked to the operation bends nothing
pub record IsUnbent (s : Shift) (t : Term Corner) : Type 0 where
  pub cells : (p : Place) → HasLink (links.Cell p) (links_in t) → (q : Place) × (place_after s p ≡ Some q)
  pub areas : (b : Block) → HasLink (links.Area b) (links_in t) → (¬ IsBent s b) × (¬ IsCut s b)
  pub wholes : (w : Whole) → HasLink (links.Whole w) (links_in t) → ¬ IsWholeBent s w

-- what a tree within the limits mentions lies there
pub mentioned_inside : (t : Term Corner) (p : Place) → FitsSheets t → mentions t p ≡ true → IsInside p
mentioned_inside t p fits h =
    let (l, leads, inside) = passing_inside (is_link_to p) t fits (sym (mentions-links t p) ∙ h) in
    by l leads inside
  where
    by : (l : Link) → is_link_to p l ≡ true → IsLinkInside l → IsInside p
    by (links.Cell q) leads inside = subst IsInside (same_place-equal q p leads) inside
    by (links.Area b) leads inside = Covers_inside b p inside (Covers-from_covers b p leads)
    by (links.Whole w) leads inside = Covers_inside (whole_block w) p (whole_block-inside w inside) (Covers-from_covers (whole_block w) p leads)
    by (links.Name scope w) leads inside = absurd (false≢true leads)

-- what is linked to a place that is still somewhere
pub place_went : (o : Option Place) (m : Link) → option_map links.Cell o ≡ Some m → (q : Place) × (o ≡ Some q) × (m ≡ links.Cell q)
place_went None m e = absurd (none-some m e)
place_went (Some q) m e = (q, refl, sym (same_Some (links.Cell q) m e))

pub block_went : (o : Option Block) (m : Link) → option_map links.Area o ≡ Some m → (c : Block) × (o ≡ Some c) × (m ≡ links.Area c)
block_went None m e = absurd (none-some m e)
block_went (Some c) m e = (c, refl, sym (same_Some (links.Area c) m e))

pub whole_went : (o : Option Whole) (m : Link) → option_map links.Whole o ≡ Some m → (v : Whole) × (o ≡ Some v) × (m ≡ links.Whole v)
whole_went None m e = absurd (none-some m e)
whole_went (Some v) m e = (v, refl, sym (same_Some (links.Whole v) m e))

-- a whole range whose block goes somewhere
whole_gone : (o : Option Whole) (c : Block) → option_map whole_block o ≡ Some c → (v : Whole) × (o ≡ Some v) × (whole_block v ≡ c)
whole_gone None c e = absurd (none-some c e)
whole_gone (Some v) c e = (v, refl, same_Some (whole_block v) c e)

module _ (s : Shift) (sound : IsSound s) (t : Term Corner) (fits : FitsSheets t) (unbent : IsUnbent s t) where
  abbrev moved : Term Corner
  moved = rewritten s t

  -- what the tree mentions goes along, or was moved away and is mentioned still
  abbrev pub Goes : Place → Type 0
  Goes p = ((q : Place) × (place_after s p ≡ Some q) × (mentions moved q ≡ true)) ⊎ ((is_moved_cell s p ≡ true) × (mentions moved p ≡ true))

  -- a block that is neither bent nor cut, where the tree mentions all that it covers
  abbrev IsRigid : Block → Type 0
  IsRigid b = IsBlockInside b × (¬ IsBent s b) × (¬ IsCut s b)

  -- a whole range that isn't bent goes where its block does
  range_as_block : (w : Whole) → ¬ IsWholeBent s w → block_after s (whole_block w) ≡ option_map whole_block (whole_after s w)
  range_as_block w still = whole_moves_as_block (form_of s) w sound (λ across. still (inl across))

  rigid_area : (b : Block) → HasLink (links.Area b) (links_in t) → IsRigid b
  rigid_area b is = let (still, uncut) = unbent.areas b is in (link_inside t (links.Area b) fits is, still, uncut)

  rigid_range : (w : Whole) → HasLink (links.Whole w) (links_in t) → IsRigid (whole_block w)
  rigid_range w is =
      let still = unbent.wholes w is in
      (whole_block-inside w (link_inside t (links.Whole w) fits is), λ bent. still (inr (inl bent)), λ cut. still (inr (inr cut)))

  -- what it covers where it is then is mentioned then
  abbrev MentionsAfter : Block → Type 0
  MentionsAfter b = (c : Block) (q : Place) → block_after s b ≡ Some c → covers c q ≡ true → mentions moved q ≡ true

  area_after : (b : Block) → HasLink (links.Area b) (links_in t) → MentionsAfter b
  area_after b is c q goes covered = refers_block moved c q covered (area_goes s t b c goes is)

  range_after : (w : Whole) → HasLink (links.Whole w) (links_in t) → MentionsAfter (whole_block w)
  range_after w is c q goes covered =
      let (v, to, same) = whole_gone (whole_after s w) c (sym (range_as_block w (unbent.wholes w is)) ∙ goes) in
      refers_whole moved v q (ap (λ b. covers b q) same ∙ covered) (range_goes s t w v to is)

  block_goes : (b : Block) (p : Place) → IsRigid b → MentionsAfter b → covers b p ≡ true → Goes p
  block_goes b p (inside, still, uncut) after covered = by (whole_or_torn (form_of s) b still)
    where
      by : IsWholeIn (form_of s) b ⊎ StaysIn (form_of s) b → Goes p
      by (inl whole) =
          let (c, goes) = some_block (form_of s) b still in
          let keeps = kept_follow s b c sound inside still uncut whole goes in
          ⊎_elim
          (λ (never : false ≡ true). absurd (false≢true never))
          (λ there. let (q, to, on) = there in inl (q, to, after c q goes (covers-from_Covers c q on)))
          (keeps.places.forth p (Covers-from_covers b p covered))
      by (inr (stays, others)) = torn (is_moved_cell s p) refl
        where
          torn : (m : Bool) → is_moved_cell s p ≡ m → Goes p
          torn true e = inr (e, after b p stays covered)
          torn false e = inl (p, others p e, after b p stays covered)

  pub mention_goes : (p : Place) → mentions t p ≡ true → Goes p
  mention_goes p h =
      let (l, is, leads) = passing (is_link_to p) (links_in t) (sym (mentions-links t p) ∙ h) in
      by l is leads
    where
      by : (l : Link) → HasLink l (links_in t) → is_link_to p l ≡ true → Goes p
      by (links.Cell r) is leads =
          let (q, goes) = unbent.cells r is in
          inl (q, ap (place_after s) (sym (same_place-equal r p leads)) ∙ goes, refers_cell moved q (cell_goes s t r q goes is))
      by (links.Area b) is leads = block_goes b p (rigid_area b is) (area_after b is) leads
      by (links.Whole w) is leads = block_goes (whole_block w) p (rigid_range w is) (range_after w is) leads
      by (links.Name scope w) is leads = absurd (false≢true leads)

  -- and what it mentions then came along, or stays though its cell was moved
  abbrev pub Came : Place → Type 0
  Came q = ((p : Place) × (place_after s p ≡ Some q) × (mentions t p ≡ true)) ⊎ ((is_moved_cell s q ≡ true) × (mentions t q ≡ true))

  block_came : (b c : Block) (q : Place) → IsRigid b → ((p : Place) → covers b p ≡ true → mentions t p ≡ true) → block_after s b ≡ Some c → covers c q ≡ true → Came q
  block_came b c q (inside, still, uncut) before goes covered = by (whole_or_torn (form_of s) b still)
    where
      by : IsWholeIn (form_of s) b ⊎ StaysIn (form_of s) b → Came q
      by (inl whole) =
          let keeps = kept_follow s b c sound inside still uncut whole goes in
          ⊎_elim
          (λ (never : false ≡ true). absurd (false≢true never))
          (λ there. let (p, to, on) = there in inl (p, to, before p (covers-from_Covers b p on)))
          (keeps.places.back q (Covers-from_covers c q covered))
      by (inr (stays, others)) = torn (is_moved_cell s q) refl
        where
          here : mentions t q ≡ true
          here = before q (ap (λ d. covers d q) (same_Some b c (sym stays ∙ goes)) ∙ covered)

          torn : (m : Bool) → is_moved_cell s q ≡ m → Came q
          torn true e = inr (e, here)
          torn false e = inl (q, others q e, here)

  pub mention_came : (q : Place) → mentions moved q ≡ true → Came q
  mention_came q h =
      let (l, m, is, goes, leads) = link_came s t (is_link_to q) (sym (mentions-links moved q) ∙ h) in
      by l m is goes leads
    where
      by : (l m : Link) → HasLink l (links_in t) → link_after s l ≡ Some m → is_link_to q m ≡ true → Came q
      by (links.Cell p) m is goes leads =
          let (r, to, same) = place_went (place_after s p) m goes in
          inl (p, to ∙ ap Some (same_place-equal r q (sym (ap (is_link_to q) same) ∙ leads)), refers_cell t p is)
      by (links.Area b) m is goes leads =
          let (c, to, same) = block_went (block_after s b) m goes in
          block_came b c q (rigid_area b is) (λ p on. refers_block t b p on is) to (sym (ap (is_link_to q) same) ∙ leads)
      by (links.Whole w) m is goes leads =
          let (v, to, same) = whole_went (whole_after s w) m goes in
          block_came (whole_block w) (whole_block v) q (rigid_range w is) (λ p on. refers_whole t w p on is)
          (range_as_block w (unbent.wholes w is) ∙ ap (option_map whole_block) to) (sym (ap (is_link_to q) same) ∙ leads)
      by (links.Name scope w) m is goes leads = absurd (none-some m goes)

  -- the tree is carried along as it is, where what it mentions of moved cells is bare
  module _ (bare : Place → Bool) (torn_bare : (p : Place) → is_moved_cell s p ≡ true → mentions t p ≡ true → mentions moved p ≡ true → bare p ≡ true) where
    abbrev IsStillLink : Link → Type 0
    IsStillLink (links.Cell p) = IsInside p × ((q : Place) × (place_after s p ≡ Some q))
    IsStillLink (links.Area b) = IsStillBlock s bare b
    IsStillLink (links.Whole w) = (¬ IsAcross s w) × IsStillBlock s bare (whole_block w)
    IsStillLink (links.Name scope w) = ⊤

    still_block : (b : Block) → IsRigid b → ((p : Place) → covers b p ≡ true → mentions t p ≡ true) → MentionsAfter b → IsStillBlock s bare b
    still_block b (inside, still, uncut) before after = (inside, still, uncut, by (whole_or_torn (form_of s) b still))
      where
        each : block_after s b ≡ Some b → ((p : Place) → is_moved_cell s p ≡ false → place_after s p ≡ Some p) → (p : Place) → Covers b p → (m : Bool) → is_moved_cell s p ≡ m
            → (bare p ≡ true) ⊎ (place_after s p ≡ Some p)
        each stays others p on true e = let covered = covers-from_Covers b p on in inl (torn_bare p e (before p covered) (after b p stays covered))
        each stays others p on false e = inr (others p e)

        by : IsWholeIn (form_of s) b ⊎ StaysIn (form_of s) b → IsWhole s b ⊎ StaysTorn s bare b
        by (inl whole) = inl whole
        by (inr (stays, others)) = inr (stays, λ p on. each stays others p on (is_moved_cell s p) refl)

    still_link : (l : Link) → HasLink l (links_in t) → IsStillLink l
    still_link (links.Cell p) is = (link_inside t (links.Cell p) fits is, unbent.cells p is)
    still_link (links.Area b) is = still_block b (rigid_area b is) (λ p on. refers_block t b p on is) (area_after b is)
    still_link (links.Whole w) is =
        (λ across. unbent.wholes w is (inl across), still_block (whole_block w) (rigid_range w is) (λ p on. refers_whole t w p on is) (range_after w is))
    still_link (links.Name scope w) is = tt

    still_area : (lines : Option Axis) (c d : Corner) → IsStillLink (link_between lines c d) → IsStillArea s bare lines c d
    still_area None c d h = h
    still_area (Some axis) c d h = h

    pub is_still : asks_place t ≡ false → IsStill s bare t
    is_still asks = record {
      references = EachReference-map (λ c. IsStillLink (links.Cell c.at)) (IsStillReference s) (λ lines c d. IsStillLink (link_between lines c d)) (IsStillArea s bare) (λ c h. h) still_area t
          (by_links IsStillLink t asks still_link);
      nowhere = asks_nowhere t asks;
    }
