-- A formula that an operation carries along as it is goes along. Serves the law.
use Rattle.std.proofs.Common.{◌≡◌, ◌∙◌, sym, refl, subst, ◌⊎◌, inl, inr, ⊎_elim, ℕ, ◌+◌, ◌-◌, Bool, true, false, cond, List, ◌++◌, Option, Some, None, option_map, MatchOption, arith, ap}
use Rattle.std.specs.Prelude.{⊤, bytes_eq}
use Rattle.std.specs.List.{list_any}
use Rattle.std.specs.Cmp.Lexicographic.{bytes_decides}
use Rattle.std.proofs.lemmas.Bool.{false≢true, or_left, or_right}
use Rattle.std.proofs.lemmas.Bool.Decides.{nat_tests}
use Rattle.std.proofs.lemmas.List.Folds.{list_any-append}
use Rattle.std.proofs.lemmas.Option.{same_Some}
use Rattle.cell_addr.specs.Place.{Covers, IsBlockInside, IsInside, height, width}
use Rattle.cell_addr.specs.Whole.{whole_block, whole_of}
use Rattle.cell_addr.specs.declared.axis.Axis.{Axis}
use Rattle.cell_addr.specs.declared.place.Block.{Block}
use Rattle.cell_addr.specs.declared.place.Place.{Place}
use Rattle.cell_addr.specs.declared.whole.Whole.{Whole}
use Rattle.formula_tree.specs.Links.{is_place_word, names_in, names_in_all}
use Rattle.formula_tree.specs.Reference.{block_of, sheet_of}
use Rattle.formula_tree.specs.Term.{Term, number, text, truth, fault, cell, area, whole, name, prefix, percent, binary, call, paren, Terms, no_terms, term}
use Rattle.formula_tree.specs.Whole.{whole_between}
use Rattle.formula_tree.specs.declared.reference.Corner.{Corner}
use Rattle.formula_tree.specs.declared.reference.Home.{Home}
use Rattle.shift_core.specs.Bent.{HaveOtherSizes, MeetsDisplaced, IsBent, IsCut}
use Rattle.shift_core.specs.Carried.{carried_place, first_place}
use Rattle.shift_core.specs.Form.{form_of}
use Rattle.shift_core.specs.Sound.{IsSound}
use Rattle.shift_core.specs.Tables.{block_after, place_after}
use Rattle.shift_core.specs.Wholes.{whole_after}
use Rattle.shift_core.specs.declared.shift.Shift.{Shift}
use Rattle.shift_core.proofs.BlockLaws.{block_moved_inside}
use Rattle.shift_core.proofs.WholeMoves.{full-whole, whole_moves_as_block}
use Rattle.tree_rewrite.specs.References.{EachReference, EachReferenceOfAll}
use Rattle.tree_rewrite.specs.Rewritten.{area_after, area_at, cell_at}
use Rattle.tree_rewrite.proofs.WholeAreas.{axis-after}
use Rattle.calc_terms.specs.Cells.{cells_in, fits}
use Rattle.calc_terms.specs.References.{area_reference, full_block, own_reference}
use Rattle.calc_terms.specs.World.{World}
use Rattle.calc_terms.specs.declared.reference.Reference.TheVariants as reference
use Rattle.carried_terms.specs.Carried.{AllGoAlong, AreaGoes, CellGoes, CellsAgree, GoesAlong, NamesAgree, Passage, ReferencesAgree, SizeGoes, SizesAgree, passed, seen_block}
use Rattle.carried_terms.specs.Following.{AllFollow, Follows, IsWhole, PlacesGo}
use Rattle.carried_terms.specs.Laws.{StillGoesAlong}
use Rattle.carried_terms.specs.Still.{AllAskNowhere, AsksNowhere, IsStillArea, IsStillBlock, IsStillReference, ShowAlong, passage_of}
use Rattle.carried_terms.proofs.Blocks.{kept_follow}
use Rattle.carried_terms.proofs.Cells.{cells_along}

-- what isn't bent isn't lost
not_lost : (f : Block → Option Block) (b : Block) (P : Block → Type 0) → ¬ MatchOption (f b) ⊤ P → (c : Block) × (f b ≡ Some c)
not_lost f b P still = found (f b) refl still
  where
    found : (o : Option Block) → f b ≡ o → ¬ MatchOption o ⊤ P → (c : Block) × (f b ≡ Some c)
    found None e h = absurd (h tt)
    found (Some c) e h = (c, e)

on_second : {A B C : Type 0} → (B → C) → A ⊎ B → A ⊎ C
on_second f (inl a) = inl a
on_second f (inr b) = inr (f b)

-- nothing is bare by a test that nothing passes
never : {A B : Type 0} → (false ≡ true) ⊎ B → A ⊎ B
never (inl h) = absurd (false≢true h)
never (inr b) = inr b

stays_put : (b : Block) (p : Place) → Covers b p → carried_place b (first_place b) p ≡ p
stays_put b p c = λ i. record { sheet = c.0 i; row = back_row i; col = back_col i }
  where
    back_row : b.top + (p.row - b.top) ≡ p.row
    back_row = omega arith

    back_col : b.left + (p.col - b.left) ≡ p.col
    back_col = omega arith

inside_fits : (b : Block) → IsBlockInside b → fits b ≡ true
inside_fits b i = grind (arith, nat_tests)

covered_inside : (b : Block) (p : Place) → IsBlockInside b → Covers b p → IsInside p
covered_inside b p i on = (omega arith, omega arith)

-- the block of a whole range along the axis is seen as it is
seen_as_is : (axis : Axis) (o : Option Whole) (c : Block) → ((v : Whole) → o ≡ Some v → v.axis ≡ axis) → option_map whole_block o ≡ Some c → seen_block (Some axis) c ≡ c
seen_as_is axis None c along e = absurd (cc)
seen_as_is axis (Some v) c along e =
    subst (λ b. seen_block (Some axis) b ≡ b) (same_Some (whole_block v) c e)
    (subst (λ a. whole_block (whole_of a (whole_block v)) ≡ whole_block v) (along v refl) (full-whole v))

bytes_eq-self : (word : List ℕ) → bytes_eq word word ≡ true
bytes_eq-self word = (bytes_decides word word).1 refl

module _ (s : Shift) (bare : Place → Bool) (v w : World) (from to : Home) (sound : IsSound s) (shows : ShowAlong s bare v w) where
  abbrev x : Passage
  x = passage_of s v w from to

  abbrev NamesDo : List (List ℕ) → Type 0
  NamesDo names = (word : List ℕ) → list_any (bytes_eq word) names ≡ true → NamesAgree x (v.named word (sheet_of from)) (w.named word (sheet_of to))

  left : (xs ys : List (List ℕ)) → NamesDo (xs ++ ys) → NamesDo xs
  left xs ys names word h = names word (list_any-append (bytes_eq word) xs ys ∙ or_left (list_any (bytes_eq word) xs) (list_any (bytes_eq word) ys) h)

  right : (xs ys : List (List ℕ)) → NamesDo (xs ++ ys) → NamesDo ys
  right xs ys names word h = names word (list_any-append (bytes_eq word) xs ys ∙ or_right (list_any (bytes_eq word) xs) (list_any (bytes_eq word) ys) h)

  areas_agree : (b c : Block) (i j : Bool) → i ≡ j → CellsAgree x (reference.Area b) (reference.Area c) → ReferencesAgree x (cond i (Some (reference.Area b)) None) (cond j (Some (reference.Area c)) None)
  areas_agree b c true true e h = h
  areas_agree b c false false e h = tt
  areas_agree b c true false e h = absurd (false≢true (sym e))
  areas_agree b c false true e h = absurd (false≢true e)

  cell_goes : (c : Corner) → IsStillReference s c → CellGoes x (CellsAgree x) c
  cell_goes c (i, (q, e)) = (q, e, shows.moved c.at q i e)

  -- a still block, where it is then: as large as before, with the same cells, and with its places
  pub record Kept (b c : Block) : Type 0 where
    pub fit : fits b ≡ fits c
    pub heights : height b ≡ height c
    pub widths : width b ≡ width c
    pub cells : cells_in v.shown b ≡ cells_in w.shown c
    pub places : PlacesGo (place_after s) bare b c

  kept_whole : (b c : Block) → IsBlockInside b → ¬ IsBent s b → ¬ IsCut s b → IsWhole s b → block_after s b ≡ Some c → Kept b c
  kept_whole b c i still uncut torn h =
      let keeps = kept_follow s b c sound i still uncut torn h in
      record {
        fit = inside_fits b i ∙ sym (inside_fits c (block_moved_inside (form_of s) b c sound i h));
        heights = keeps.heights;
        widths = keeps.widths;
        cells = cells_along v.shown w.shown b c keeps.heights keeps.widths (λ p on. shows.moved p _ (covered_inside b p i on) (keeps.offsets p on));
        places = record {
          forth = λ p on. never (keeps.places.forth p on);
          back = λ q on. never (keeps.places.back q on);
        };
      }

  kept_torn : (b : Block) → IsBlockInside b → ((p : Place) → Covers b p → (bare p ≡ true) ⊎ (place_after s p ≡ Some p)) → Kept b b
  kept_torn b i torn =
      record {
        fit = refl;
        heights = refl;
        widths = refl;
        cells = cells_along v.shown w.shown b b refl refl (λ p on. ⊎_elim (λ h. shows.bare_ones p (covered_inside b p i on) h) (λ h. shows.moved p p (covered_inside b p i on) h) (torn p on) ∙ sym (ap w.shown (stays_put b p on)));
        places = record {
          forth = λ p on. on_second (λ h. (p, h, on)) (torn p on);
          back = λ q on. on_second (λ h. (q, h, on)) (torn q on);
        };
      }

  kept_block : (b : Block) → IsStillBlock s bare b → (after : Block) × (block_after s b ≡ Some after) × Kept b after
  kept_block b (i, still, uncut, inl torn) =
      let there = not_lost (block_after s) b (λ after. HaveOtherSizes b after ⊎ MeetsDisplaced (form_of s) b) still in
      (there.0, there.1, kept_whole b there.0 i still uncut torn there.1)
  kept_block b (i, still, uncut, inr (stays, torn)) = (b, stays, kept_torn b i torn)

  -- a whole range goes as its block does
  kept : (lines : Option Axis) (c d : Corner) → IsStillArea s bare lines c d
      → (after : Block) × (area_after s lines (block_of c d) ≡ Some after) × Kept (seen_block lines (block_of c d)) (seen_block lines after)
  kept None c d h = kept_block (block_of c d) h
  kept (Some axis) c d (apart, h) =
      let w = whole_between axis c d in
      let k = kept_block (whole_block w) h in
      let goes = sym (whole_moves_as_block (form_of s) w sound apart) ∙ k.1 in
      (k.0, goes, subst (Kept (whole_block w)) (sym (seen_as_is axis (whole_after s w) k.0 (λ v to. axis-after s w v to) goes)) k.2)

  area_goes : (lines : Option Axis) (c d : Corner) → IsStillArea s bare lines c d → AreaGoes x (CellsAgree x) lines c d
  area_goes lines c d h = let k = kept lines c d h in let keeps = k.2 in (k.0, k.1, keeps.fit, keeps.cells)

  -- the reference that a tree is itself goes along
  pub own_agrees : (t : Term Corner) → EachReference (IsStillReference s) (IsStillArea s bare) t → ReferencesAgree x (own_reference t) (own_reference (passed x t))
  own_agrees (cell c) h =
      let g = cell_goes c h in subst (λ o. ReferencesAgree x (Some (reference.Cell c.at)) (own_reference (cell_at c o))) (sym g.1) g.2
  own_agrees (area c d) h =
      let g = area_goes None c d h in
      subst (λ o. ReferencesAgree x (area_reference (block_of c d)) (own_reference (area_at None c d o))) (sym g.1)
      (areas_agree (block_of c d) g.0 (fits (block_of c d)) (fits g.0) g.2 g.3)
  own_agrees (whole axis c d) h =
      let g = area_goes (Some axis) c d h in
      let before = full_block axis c d in
      let after = seen_block (Some axis) g.0 in
      subst (λ o. ReferencesAgree x (area_reference before) (own_reference (area_at (Some axis) c d o))) (sym g.1)
      (areas_agree before after (fits before) (fits after) g.2 g.3)
  own_agrees (number m) h = tt
  own_agrees (text u) h = tt
  own_agrees (truth b) h = tt
  own_agrees (fault f) h = tt
  own_agrees (name word) h = tt
  own_agrees (prefix sign t) h = tt
  own_agrees (percent t) h = tt
  own_agrees (binary o l r) h = tt
  own_agrees (call word ts) h = tt
  own_agrees (paren t) h = tt

  area_size : (lines : Option Axis) (c d : Corner) → IsStillArea s bare lines c d → AreaGoes x SizesAgree lines c d
  area_size lines c d h = let k = kept lines c d h in let keeps = k.2 in (k.0, k.1, keeps.fit, (keeps.heights, keeps.widths))

  size_goes : (t : Term Corner) → EachReference (IsStillReference s) (IsStillArea s bare) t → SizeGoes x t
  size_goes (cell c) (i, (q, e)) = (q, e, tt)
  size_goes (area c d) h = area_size None c d h
  size_goes (whole axis c d) h = area_size (Some axis) c d h
  size_goes (number m) h = tt
  size_goes (text u) h = tt
  size_goes (truth b) h = tt
  size_goes (fault f) h = tt
  size_goes (name word) h = tt
  size_goes (prefix sign t) h = tt
  size_goes (percent t) h = tt
  size_goes (binary o l r) h = tt
  size_goes (call word ts) h = tt
  size_goes (paren t) h = tt

  mutual
    goes : (t : Term Corner) → EachReference (IsStillReference s) (IsStillArea s bare) t → AsksNowhere t → NamesDo (names_in t) → GoesAlong x t
    goes (cell c) h n names = cell_goes c h
    goes (area c d) h n names = area_goes None c d h
    goes (whole axis c d) h n names = area_goes (Some axis) c d h
    goes (name word) h n names = names word (or_left (bytes_eq word word) false (bytes_eq-self word))
    goes (prefix sign t) h n names = goes t h n names
    goes (percent t) h n names = goes t h n names
    goes (binary o l r) h n names = (goes l h.0 n.0 (left (names_in l) (names_in r) names), goes r h.1 n.1 (right (names_in l) (names_in r) names))
    goes (call word ts) h n names = (n.0, all_go (is_place_word word) ts h n.1 names)
    goes (paren t) h n names = goes t h n names
    goes (number m) h n names = tt
    goes (text u) h n names = tt
    goes (truth b) h n names = tt
    goes (fault f) h n names = tt

    all_go : (sized : Bool) (ts : Terms Corner) → EachReferenceOfAll (IsStillReference s) (IsStillArea s bare) ts → AllAskNowhere ts → NamesDo (names_in_all ts) → AllGoAlong x sized ts
    all_go sized no_terms h n names = tt
    all_go sized (term t ts) h n names = (
      λ _. size_goes t h.0,
      λ _. goes t h.0 n.0 (left (names_in t) (names_in_all ts) names),
      all_go sized ts h.1 n.1 (right (names_in t) (names_in_all ts) names),
    )

  mutual
    pub follows : (t : Term Corner) → EachReference (IsStillReference s) (IsStillArea s bare) t → Follows (place_after s) (area_after s) bare t
    follows (cell c) h = h.1
    follows (area c d) h = let k = kept None c d h in let keeps = k.2 in (k.0, k.1, keeps.places)
    follows (whole axis c d) h = let k = kept (Some axis) c d h in let keeps = k.2 in (k.0, k.1, keeps.places)
    follows (prefix sign t) h = follows t h
    follows (percent t) h = follows t h
    follows (binary o l r) h = (follows l h.0, follows r h.1)
    follows (call word ts) h = all_follow (is_place_word word) ts h
    follows (paren t) h = follows t h
    follows (number m) h = tt
    follows (text u) h = tt
    follows (truth b) h = tt
    follows (fault f) h = tt
    follows (name word) h = tt

    all_follow : (skip : Bool) (ts : Terms Corner) → EachReferenceOfAll (IsStillReference s) (IsStillArea s bare) ts → AllFollow (place_after s) (area_after s) bare skip ts
    all_follow skip no_terms h = tt
    all_follow skip (term t ts) h = (λ _. follows t h.0, all_follow skip ts h.1)

pub still_goes : StillGoesAlong
still_goes s bare v w from to t sound still shows words =
    (goes s bare v w from to sound shows t still.references still.nowhere words, follows s bare v w from to sound shows t still.references)
