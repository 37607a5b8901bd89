-- A formula whose references follow mentions the places to which they went. Serves the law.
use Rattle.std.proofs.Common.{◌≡◌, ◌∙◌, sym, ap, ap₂, refl, Bool, true, false, not, ◌&&◌, [], ◌++◌, Option, Some, None, ⊎_elim, ◌⊎◌, inl, inr}
use Rattle.std.proofs.lemmas.Bool.{and_from, and_parts, false≢true, or_cases, or_left, or_right}
use Rattle.cell_addr.specs.declared.axis.Axis.{Axis}
use Rattle.cell_addr.specs.declared.place.Block.{Block}
use Rattle.cell_addr.specs.declared.place.Place.{Place}
use Rattle.cell_addr.proofs.SamePlaces.{same_place-equal, same_place-self}
use Rattle.formula_tree.specs.Links.{is_place_word, names_in, names_in_all}
use Rattle.formula_tree.specs.Reference.{block_of}
use Rattle.formula_tree.specs.Term.{Term, number, text, truth, fault, cell, area, whole, name, prefix, percent, binary, call, paren, Terms, no_terms, term, is_reference, mapped_all}
use Rattle.formula_tree.specs.declared.reference.Corner.{Corner}
use Rattle.shift_core.proofs.CellMoves.{Covers-from_covers, covers-from_Covers}
use Rattle.tree_rewrite.specs.Rewritten.{area_at, cell_at, placed_by}
use Rattle.calc_terms.specs.Needs.{mentions, mentions_any}
use Rattle.calc_terms.specs.References.{full_block}
use Rattle.carried_terms.specs.Carried.{seen_block}
use Rattle.carried_terms.specs.Following.{AllFollow, Follows}
use Rattle.carried_terms.specs.Laws.{NeedsFollow}

on_second : {A B C : Type 0} → (B → C) → A ⊎ B → A ⊎ C
on_second f (inl a) = inl a
on_second f (inr b) = inr (f b)

not_true : (b : Bool) → not b ≡ true → b ≡ false
not_true true h = absurd (false≢true h)
not_true false h = refl

not_false : (b : Bool) → b ≡ false → not b ≡ true
not_false true h = absurd (false≢true (sym h))
not_false false h = refl

-- what is no reference any more mentions nothing
cell_gone : (c : Corner) (q : Place) (o : Option Place) → is_reference (cell_at c o) ≡ false → mentions (cell_at c o) q ≡ true → ⊥
cell_gone c q None is m = false≢true m
cell_gone c q (Some p) is m = false≢true (sym is)

area_gone : (lines : Option Axis) (c d : Corner) (q : Place) (o : Option Block) → is_reference (area_at lines c d o) ≡ false → mentions (area_at lines c d o) q ≡ true → ⊥
area_gone lines c d q None is m = false≢true m
area_gone None c d q (Some b) is m = false≢true (sym is)
area_gone (Some axis) c d q (Some b) is m = false≢true (sym is)

no_names_cell : (c : Corner) (o : Option Place) → names_in (cell_at c o) ≡ []
no_names_cell c None = refl
no_names_cell c (Some p) = refl

no_names_area : (lines : Option Axis) (c d : Corner) (o : Option Block) → names_in (area_at lines c d o) ≡ []
no_names_area lines c d None = refl
no_names_area None c d (Some b) = refl
no_names_area (Some axis) c d (Some b) = refl

module _ (place : Place → Option Place) (on_area : Option Axis → Block → Option Block) (bare : Place → Bool) where
  abbrev moved : Term Corner → Term Corner
  moved = placed_by place on_area

  abbrev moved_all : Terms Corner → Terms Corner
  moved_all = mapped_all (λ c. cell_at c (place c.at)) (λ lines c d. area_at lines c d (on_area lines (block_of c d)))

  still_other : (t : Term Corner) → is_reference t ≡ false → is_reference (moved t) ≡ false
  still_other (cell c) h = absurd (false≢true (sym h))
  still_other (area c d) h = absurd (false≢true (sym h))
  still_other (whole axis c d) h = absurd (false≢true (sym h))
  still_other (number m) h = refl
  still_other (text s) h = refl
  still_other (truth b) h = refl
  still_other (fault k) h = refl
  still_other (name w) h = refl
  still_other (prefix s t) h = refl
  still_other (percent t) h = refl
  still_other (binary o l r) h = refl
  still_other (call w ts) h = refl
  still_other (paren t) h = refl

  -- an argument that counts still counts, and one that counts then did before
  counts_still : (skip : Bool) (t : Term Corner) → (skip && is_reference t) ≡ false → (skip && is_reference (moved t)) ≡ false
  counts_still true t h = still_other t h
  counts_still false t h = refl

  was_other : (t : Term Corner) (q : Place) → is_reference (moved t) ≡ false → mentions (moved t) q ≡ true → is_reference t ≡ false
  was_other (cell c) q is m = absurd (cell_gone c q (place c.at) is m)
  was_other (area c d) q is m = absurd (area_gone None c d q (on_area None (block_of c d)) is m)
  was_other (whole axis c d) q is m = absurd (area_gone (Some axis) c d q (on_area (Some axis) (block_of c d)) is m)
  was_other (number k) q is m = refl
  was_other (text s) q is m = refl
  was_other (truth b) q is m = refl
  was_other (fault k) q is m = refl
  was_other (name w) q is m = refl
  was_other (prefix s t) q is m = refl
  was_other (percent t) q is m = refl
  was_other (binary o l r) q is m = refl
  was_other (call w ts) q is m = refl
  was_other (paren t) q is m = refl

  counted : (skip : Bool) (t : Term Corner) (q : Place) → (skip && is_reference (moved t)) ≡ false → mentions (moved t) q ≡ true → (skip && is_reference t) ≡ false
  counted true t q is m = was_other t q is m
  counted false t q is m = refl

  abbrev Goes : Term Corner → Place → Type 0
  Goes u p = (bare p ≡ true) ⊎ ((q : Place) × (place p ≡ Some q) × (mentions u q ≡ true))

  abbrev GoesAny : Bool → Terms Corner → Place → Type 0
  GoesAny skip us p = (bare p ≡ true) ⊎ ((q : Place) × (place p ≡ Some q) × (mentions_any skip us q ≡ true))

  abbrev Came : Term Corner → Place → Type 0
  Came t q = (bare q ≡ true) ⊎ ((p : Place) × (place p ≡ Some q) × (mentions t p ≡ true))

  abbrev CameAny : Bool → Terms Corner → Place → Type 0
  CameAny skip ts q = (bare q ≡ true) ⊎ ((p : Place) × (place p ≡ Some q) × (mentions_any skip ts p ≡ true))

  mutual
    forth : (t : Term Corner) → Follows place on_area bare t → (p : Place) → mentions t p ≡ true → Goes (moved t) p
    forth (cell c) (q, e) p h = inr (q, ap place (sym (same_place-equal c.at p h)) ∙ e, ap (λ o. mentions (cell_at c o) q) e ∙ same_place-self q)
    forth (area c d) (b, e, go) p h =
        on_second (λ w. (w.0, w.1, ap (λ o. mentions (area_at None c d o) w.0) e ∙ covers-from_Covers b w.0 w.2)) (go.forth p (Covers-from_covers (block_of c d) p h))
    forth (whole axis c d) (b, e, go) p h =
        on_second (λ w. (w.0, w.1, ap (λ o. mentions (area_at (Some axis) c d o) w.0) e ∙ covers-from_Covers (seen_block (Some axis) b) w.0 w.2))
        (go.forth p (Covers-from_covers (full_block axis c d) p h))
    forth (prefix s t) f p h = forth t f p h
    forth (percent t) f p h = forth t f p h
    forth (binary o l r) f p h =
        ⊎_elim
        (λ m. on_second (λ w. (w.0, w.1, or_left (mentions (moved l) w.0) (mentions (moved r) w.0) w.2)) (forth l f.0 p m))
        (λ m. on_second (λ w. (w.0, w.1, or_right (mentions (moved l) w.0) (mentions (moved r) w.0) w.2)) (forth r f.1 p m))
        (or_cases (mentions l p) (mentions r p) h)
    forth (call w ts) f p h = forth_any (is_place_word w) ts f p h
    forth (paren t) f p h = forth t f p h
    forth (number m) f p h = absurd (false≢true h)
    forth (text s) f p h = absurd (false≢true h)
    forth (truth b) f p h = absurd (false≢true h)
    forth (fault k) f p h = absurd (false≢true h)
    forth (name w) f p h = absurd (false≢true h)

    forth_any : (skip : Bool) (ts : Terms Corner) → AllFollow place on_area bare skip ts → (p : Place) → mentions_any skip ts p ≡ true → GoesAny skip (moved_all ts) p
    forth_any skip no_terms f p h = absurd (false≢true h)
    forth_any skip (term t ts) f p h =
        ⊎_elim
        (λ m.
        let parts = and_parts (not (skip && is_reference t)) (mentions t p) m in
        let counts = not_true (skip && is_reference t) parts.0 in
        on_second (λ w. (
          w.0,
          w.1,
          or_left (not (skip && is_reference (moved t)) && mentions (moved t) w.0) (mentions_any skip (moved_all ts) w.0)
              (and_from (not (skip && is_reference (moved t))) (mentions (moved t) w.0) (not_false (skip && is_reference (moved t)) (counts_still skip t counts)) w.2),
        )) (forth t (f.0 counts) p parts.1))
        (λ m.
        on_second (λ w. (w.0, w.1, or_right (not (skip && is_reference (moved t)) && mentions (moved t) w.0) (mentions_any skip (moved_all ts) w.0) w.2)) (forth_any skip ts f.1 p m))
        (or_cases (not (skip && is_reference t) && mentions t p) (mentions_any skip ts p) h)

  mutual
    back : (t : Term Corner) → Follows place on_area bare t → (q : Place) → mentions (moved t) q ≡ true → Came t q
    back (cell c) (r, e) q h =
        let there : r ≡ q = same_place-equal r q (sym (ap (λ o. mentions (cell_at c o) q) e) ∙ h) in inr (c.at, e ∙ ap (λ z. Some z) there, same_place-self c.at)
    back (area c d) (b, e, go) q h =
        on_second (λ w. (w.0, w.1, covers-from_Covers (block_of c d) w.0 w.2)) (go.back q (Covers-from_covers b q (sym (ap (λ o. mentions (area_at None c d o) q) e) ∙ h)))
    back (whole axis c d) (b, e, go) q h =
        on_second (λ w. (w.0, w.1, covers-from_Covers (full_block axis c d) w.0 w.2))
        (go.back q (Covers-from_covers (seen_block (Some axis) b) q (sym (ap (λ o. mentions (area_at (Some axis) c d o) q) e) ∙ h)))
    back (prefix s t) f q h = back t f q h
    back (percent t) f q h = back t f q h
    back (binary o l r) f q h =
        ⊎_elim
        (λ m. on_second (λ w. (w.0, w.1, or_left (mentions l w.0) (mentions r w.0) w.2)) (back l f.0 q m))
        (λ m. on_second (λ w. (w.0, w.1, or_right (mentions l w.0) (mentions r w.0) w.2)) (back r f.1 q m))
        (or_cases (mentions (moved l) q) (mentions (moved r) q) h)
    back (call w ts) f q h = back_any (is_place_word w) ts f q h
    back (paren t) f q h = back t f q h
    back (number m) f q h = absurd (false≢true h)
    back (text s) f q h = absurd (false≢true h)
    back (truth b) f q h = absurd (false≢true h)
    back (fault k) f q h = absurd (false≢true h)
    back (name w) f q h = absurd (false≢true h)

    back_any : (skip : Bool) (ts : Terms Corner) → AllFollow place on_area bare skip ts → (q : Place) → mentions_any skip (moved_all ts) q ≡ true → CameAny skip ts q
    back_any skip no_terms f q h = absurd (false≢true h)
    back_any skip (term t ts) f q h =
        ⊎_elim
        (λ m.
        let parts = and_parts (not (skip && is_reference (moved t))) (mentions (moved t) q) m in
        let counts = counted skip t q (not_true (skip && is_reference (moved t)) parts.0) parts.1 in
        on_second (λ w. (
          w.0,
          w.1,
          or_left (not (skip && is_reference t) && mentions t w.0) (mentions_any skip ts w.0)
              (and_from (not (skip && is_reference t)) (mentions t w.0) (not_false (skip && is_reference t) counts) w.2),
        )) (back t (f.0 counts) q parts.1))
        (λ m. on_second (λ w. (w.0, w.1, or_right (not (skip && is_reference t) && mentions t w.0) (mentions_any skip ts w.0) w.2)) (back_any skip ts f.1 q m))
        (or_cases (not (skip && is_reference (moved t)) && mentions (moved t) q) (mentions_any skip (moved_all ts) q) h)

  mutual
    pub names_stay : (t : Term Corner) → names_in (moved t) ≡ names_in t
    names_stay (cell c) = no_names_cell c (place c.at)
    names_stay (area c d) = no_names_area None c d (on_area None (block_of c d))
    names_stay (whole axis c d) = no_names_area (Some axis) c d (on_area (Some axis) (block_of c d))
    names_stay (prefix s t) = names_stay t
    names_stay (percent t) = names_stay t
    names_stay (binary o l r) = ap₂ (λ xs ys. xs ++ ys) (names_stay l) (names_stay r)
    names_stay (call w ts) = all_names_stay ts
    names_stay (paren t) = names_stay t
    names_stay (number m) = refl
    names_stay (text s) = refl
    names_stay (truth b) = refl
    names_stay (fault k) = refl
    names_stay (name w) = refl

    all_names_stay : (ts : Terms Corner) → names_in_all (moved_all ts) ≡ names_in_all ts
    all_names_stay no_terms = refl
    all_names_stay (term t ts) = ap₂ (λ xs ys. xs ++ ys) (names_stay t) (all_names_stay ts)

pub needs_go : NeedsFollow
needs_go place on_area bare t f = record { forth = forth place on_area bare t f; back = back place on_area bare t f; names = names_stay place on_area bare t }
