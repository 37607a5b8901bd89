-- Cells that are marked. Serves what marks them.
use Rattle.std.proofs.Common.{◌≡◌, ◌∙◌, sym, ap, subst, refl, arith, ℕ, zero, suc, ◌+◌, ◌<◌, ◌||◌, Bool, true, false, List, [], ◌∷◌, ◌++◌, length, take, get_or, Option, Some, None, Result, Ok, Err, inl, inr, ⊎_elim}
use Rattle.std.specs.List.{list_any}
use Rattle.std.specs.Prelude.{IsTrue, OnErr, OnOk}
use Rattle.std.proofs.lemmas.Bool.{or_cases, or_left, or_right}
use Rattle.std.proofs.lemmas.List.{map-append, take_more}
use Rattle.std.proofs.lemmas.List.Folds.{list_any-append}
use Rattle.cell_addr.specs.Place.{same_place}
use Rattle.cell_addr.specs.declared.place.Place.{Place}
use Rattle.cell_addr.proofs.SamePlaces.{same_place-equal, same_place-self}
use Rattle.dep_graph.specs.Nodes.{has}
use Rattle.dep_graph.specs.declared.node.Node.{Node}
use Rattle.dep_graph.specs.declared.node.Node.TheVariants.{Cell}
use Rattle.dep_graph.proofs.Places.{has-append_cases, has-append_left, has-append_right, has_first, has_one}
use Rattle.grid_store.specs.declared.cell.Cell.{Cell as Held}
use Rattle.kept_book.specs.Change.{Change, places_of}
use Rattle.kept_book.specs.Kept.{change_of, changes_of}
use Rattle.kept_book.specs.declared.part.Part.{Part}
use Rattle.kept_steps.specs.Turned.{AreOfCells, IsOfCells, is_listed}
use Rattle.kept_values.specs.Values.{asks_in, kept_in, links_in, loses_in, marks_in, seeks_in, unlinked_in}
use Rattle.kept_values.specs.declared.values.Values.{Values}
use Rattle.session_values.specs.internal.Marked.{AreMade}
use Rattle.session_values.specs.Touched.{AreMarkedIn, AreTouched, AreTouchedAtMost, IsMarkedIn, IsStepMarked, IsTouched, is_place_of}

pub cell_touched : {X E : Type 0} (r : Result X E) (v w : Values) (p : Place) → links_in w ≡ links_in v → asks_in w ≡ asks_in v → loses_in w ≡ loses_in v → seeks_in w ≡ seeks_in v → kept_in w ≡ kept_in v
    → OnOk r ((c : Node) → has c (marks_in w) ≡ has c (marks_in v ++ Cell p ∷ [])) → OnErr r (marks_in w ≡ marks_in v) → OnOk r ((c : Node) → has c (unlinked_in w) ≡ has c (unlinked_in v ++ Cell p ∷ [])) → OnErr r (unlinked_in w ≡ unlinked_in v)
    → IsTouched (same_place p) v w
cell_touched (Ok x) v w p links asking losing seeking kept marked same unlinked left = record {
  links = links;
  asking = asking;
  losing = losing;
  seeking = seeking;
  kept = kept;
  stay = λ a h. marked a ∙ has-append_left a (marks_in v) (Cell p ∷ []) h;
  only = λ a h. ⊎_elim (λ (before : has a (marks_in v) ≡ true). inl before) (λ (here : has a (Cell p ∷ []) ≡ true). inr (p, has_one a (Cell p) here, same_place-self p))
      (has-append_cases a (marks_in v) (Cell p ∷ []) (sym (marked a) ∙ h));
  linking = λ a h. unlinked a ∙ has-append_left a (unlinked_in v) (Cell p ∷ []) h;
  among = λ a h. ⊎_elim (λ (before : has a (unlinked_in v) ≡ true). inl before) (λ (here : has a (Cell p ∷ []) ≡ true). inr (marked a ∙ has-append_right a (marks_in v) (Cell p ∷ []) here))
      (has-append_cases a (unlinked_in v) (Cell p ∷ []) (sym (unlinked a) ∙ h));
}
cell_touched (Err e) v w p links asking losing seeking kept marked same unlinked left = record {
  links = links;
  asking = asking;
  losing = losing;
  seeking = seeking;
  kept = kept;
  stay = λ a h. subst (λ (ns : List Node). IsTrue (has a ns)) (sym same) h;
  only = λ a h. inl (subst (λ (ns : List Node). IsTrue (has a ns)) same h);
  linking = λ a h. subst (λ (ns : List Node). IsTrue (has a ns)) (sym left) h;
  among = λ a h. inl (subst (λ (ns : List Node). IsTrue (has a ns)) left h);
}

pub cell_marked : {X E : Type 0} (r : Result X E) (v w : Values) (p : Place) → OnOk r ((c : Node) → has c (marks_in w) ≡ has c (marks_in v ++ Cell p ∷ [])) → OnOk r ((c : Node) → has c (unlinked_in w) ≡ has c (unlinked_in v ++ Cell p ∷ []))
    → OnOk r (IsMarkedIn (Some w) p)
cell_marked (Ok x) v w p marked unlinked = (
  marked (Cell p) ∙ has-append_right (Cell p) (marks_in v) (Cell p ∷ []) (has_first (Cell p) []),
  unlinked (Cell p) ∙ has-append_right (Cell p) (unlinked_in v) (Cell p ∷ []) (has_first (Cell p) []),
)
cell_marked (Err e) v w p marked unlinked = tt

-- nothing is touched
pub untouched : (places : Place → Bool) (v : Option Values) → AreTouched places v v
untouched places None = tt
untouched places (Some v) = record { links = refl; asking = refl; losing = refl; seeking = refl; kept = refl; stay = λ a h. h; only = λ a h. inl h; linking = λ a h. h; among = λ a h. inl h }

-- nothing was touched where all is the same
pub same_touched : (places : Place → Bool) (v w : Values) → links_in w ≡ links_in v → asks_in w ≡ asks_in v → loses_in w ≡ loses_in v → seeks_in w ≡ seeks_in v → kept_in w ≡ kept_in v → marks_in w ≡ marks_in v → unlinked_in w ≡ unlinked_in v → IsTouched places v w
same_touched places v w links asking losing seeking kept marks unlinked = record {
  links = links;
  asking = asking;
  losing = losing;
  seeking = seeking;
  kept = kept;
  stay = λ a h. subst (λ (ns : List Node). IsTrue (has a ns)) (sym marks) h;
  only = λ a h. inl (subst (λ (ns : List Node). IsTrue (has a ns)) marks h);
  linking = λ a h. subst (λ (ns : List Node). IsTrue (has a ns)) (sym unlinked) h;
  among = λ a h. inl (subst (λ (ns : List Node). IsTrue (has a ns)) unlinked h);
}

-- what was touched twice was touched
pub touched_on : (places : Place → Bool) (u v w : Option Values) → AreTouched places u v → AreTouched places v w → AreTouched places u w
touched_on places None None w first next = next
touched_on places (Some u) None w first next = absurd first
touched_on places None (Some v) w first next = absurd first
touched_on places (Some u) (Some v) None first next = next
touched_on places (Some u) (Some v) (Some w) first next = record {
  links = next.links ∙ first.links;
  asking = next.asking ∙ first.asking;
  losing = next.losing ∙ first.losing;
  seeking = next.seeking ∙ first.seeking;
  kept = next.kept ∙ first.kept;
  stay = λ a h. next.stay a (first.stay a h);
  only = λ a h. ⊎_elim (λ (before : has a (marks_in v) ≡ true). first.only a before) (λ here. inr here) (next.only a h);
  linking = λ a h. next.linking a (first.linking a h);
  among = λ a h. ⊎_elim
      (λ (before : has a (unlinked_in v) ≡ true). ⊎_elim (λ (old : has a (unlinked_in u) ≡ true). inl old) (λ (mark : has a (marks_in v) ≡ true). inr (next.stay a mark)) (first.among a before))
      (λ (here : has a (marks_in w) ≡ true). inr here)
      (next.among a h);
}

-- and so where it was touched in more places
pub touched_within : (few many : Place → Bool) (v w : Option Values) → ((p : Place) → few p ≡ true → many p ≡ true) → AreTouched few v w → AreTouched many v w
touched_within few many None None within touched = touched
touched_within few many (Some v) None within touched = touched
touched_within few many None (Some w) within touched = touched
touched_within few many (Some v) (Some w) within touched = record {
  links = touched.links;
  asking = touched.asking;
  losing = touched.losing;
  seeking = touched.seeking;
  kept = touched.kept;
  stay = touched.stay;
  only = λ a h. ⊎_elim (λ (before : has a (marks_in v) ≡ true). inl before) (λ (p, is, there). inr (p, is, within p there)) (touched.only a h);
  linking = touched.linking;
  among = touched.among;
}

pub at_most : (places : Place → Bool) (v w : Option Values) → AreTouched places v w → AreTouchedAtMost places v w
at_most places v None touched = tt
at_most places v (Some w) touched = touched

-- what is marked stays marked
pub marked_on : (places : Place → Bool) (v w : Option Values) (p : Place) → AreTouchedAtMost places v w → IsMarkedIn v p → IsMarkedIn w p
marked_on places v None p touched marked = tt
marked_on places None (Some w) p touched marked = absurd touched
marked_on places (Some v) (Some w) p touched marked = (touched.stay (Cell p) marked.0, touched.linking (Cell p) marked.1)

-- one more item is marked
module _ {X : Type 0} (place : X → Place) (items : List X) (i : ℕ) (d : X) (low : i < length items) where
  item_within : (p : Place) → same_place (place (get_or items i d)) p ≡ true → is_place_of place items p ≡ true
  item_within p h = grow items i low (subst (λ q. same_place q (place (get_or items i d)) ≡ true) (same_place-equal (place (get_or items i d)) p h) (same_place-self (place (get_or items i d))))
    where
      grow : (es : List X) (j : ℕ) → j < length es → same_place p (place (get_or es j d)) ≡ true → is_place_of place es p ≡ true
      grow [] j l e = absurd (omega (arith, l))
      grow (x ∷ xs) zero l e = or_left (same_place p (place x)) (is_place_of place xs p) e
      grow (x ∷ xs) (suc j) l e = or_right (same_place p (place x)) (is_place_of place xs p) (grow xs j (omega (arith, l)) e)

  pub one_touched : (u v w : Option Values) → AreTouched (is_place_of place items) u v → AreTouched (same_place (place (get_or items i d))) v w → AreTouched (is_place_of place items) u w
  one_touched u v w first next = touched_on (is_place_of place items) u v w first (touched_within _ (is_place_of place items) v w item_within next)

  pub one_marked : (v w : Option Values) → AreTouched (same_place (place (get_or items i d))) v w → AreMarkedIn v (is_place_of place (take i items)) → IsMarkedIn w (place (get_or items i d)) → AreMarkedIn w (is_place_of place (take (i + 1) items))
  one_marked v w touched before here p h =
      ⊎_elim
      (λ (old : is_place_of place (take i items) p ≡ true). marked_on _ v w p (at_most _ v w touched) (before p old))
      (λ (new : is_place_of place (get_or items i d ∷ []) p ≡ true). subst (IsMarkedIn w) (sym (same_place-equal p (place (get_or items i d)) (last_true _ new))) here)
      (or_cases _ _ (sym (list_any-append (λ e. same_place p (place e)) (take i items) (get_or items i d ∷ [])) ∙ ap (list_any (λ e. same_place p (place e))) (sym (take_more items i d low)) ∙ h))
    where
      last_true : (b : Bool) → (b || false) ≡ true → b ≡ true
      last_true true e = refl
      last_true false e = e

-- the same of an item that is known to stand there
pub item_touched : {X : Type 0} (place : X → Place) (items : List X) (i : ℕ) (x : X) (u v w : Option Values) → i < length items → x ≡ get_or items i x → AreTouched (is_place_of place items) u v → AreTouched (same_place (place x)) v w
    → AreTouched (is_place_of place items) u w
item_touched place items i x u v w low is first next = one_touched place items i x low u v w first (subst (λ y. AreTouched (same_place (place y)) v w) is next)

pub item_marked : {X : Type 0} (place : X → Place) (items : List X) (i : ℕ) (x : X) (v w : Option Values) → i < length items → x ≡ get_or items i x → AreTouched (same_place (place x)) v w → AreMarkedIn v (is_place_of place (take i items)) → IsMarkedIn w (place x)
    → AreMarkedIn w (is_place_of place (take (i + 1) items))
item_marked place items i x v w low is touched before here =
    one_marked place items i x low v w (subst (λ y. AreTouched (same_place (place y)) v w) is touched) before (subst (λ y. IsMarkedIn w (place y)) is here)

-- what was touched twice at most was touched at most
pub at_most_on : (places : Place → Bool) (u v w : Option Values) → AreTouchedAtMost places u v → AreTouchedAtMost places v w → AreTouchedAtMost places u w
at_most_on places u v None first next = tt
at_most_on places u None (Some w) first next = absurd next
at_most_on places None (Some v) (Some w) first next = absurd first
at_most_on places (Some u) (Some v) (Some w) first next = touched_on places (Some u) (Some v) (Some w) first next

at_most_within : (few many : Place → Bool) (v w : Option Values) → ((p : Place) → few p ≡ true → many p ≡ true) → AreTouchedAtMost few v w → AreTouchedAtMost many v w
at_most_within few many v None within touched = tt
at_most_within few many None (Some w) within touched = absurd touched
at_most_within few many (Some v) (Some w) within touched = touched_within few many (Some v) (Some w) within touched

-- the changes of a part beside those of others
pub step_marked : (places : Place → Bool) (cs ds : List Change) (v w : Option Values) → AreTouchedAtMost places v w → IsStepMarked cs v → IsStepMarked ds w → IsStepMarked (cs ++ ds) w
step_marked places cs ds v None touched first next = tt
step_marked places cs ds None (Some w) touched first next = absurd touched
step_marked places cs ds (Some v) (Some w) touched first next = (both cs ds first.0 next.0, listed)
  where
    both : (cs ds : List Change) → AreOfCells cs → AreOfCells ds → AreOfCells (cs ++ ds)
    both [] ds h i = i
    both (c ∷ cs) ds h i = (h.0, both cs ds h.1 i)

    listed : (p : Place) → is_listed (cs ++ ds) p ≡ true → IsMarkedIn (Some w) p
    listed p h = ⊎_elim
        (λ (old : is_listed cs p ≡ true). marked_on places (Some v) (Some w) p touched (first.1 p old))
        (λ (new : is_listed ds p ≡ true). next.1 p new)
        (or_cases (is_listed cs p) (is_listed ds p) (sym (list_any-append _ cs ds) ∙ h))

-- the places of cells
places_listed : (items : List (Place × Held)) (p : Place) → list_any (same_place p) (places_of items) ≡ is_place_of (λ e. e.0) items p
places_listed [] p = refl
places_listed (e ∷ es) p = ap (λ t. same_place p e.0 || t) (places_listed es p)

-- what a change lists, as replaced or as written
listed_by : (c : Change) (p : Place) → is_listed (c ∷ []) p ≡ (is_place_of (λ e. e.0) c.replaced p || is_place_of (λ e. e.0) c.written p)
listed_by c p =
    or_false (list_any (same_place p) (places_of c.replaced ++ places_of c.written))
    ∙ list_any-append (same_place p) (places_of c.replaced) (places_of c.written)
    ∙ (λ i. places_listed c.replaced p i || places_listed c.written p i)
  where
    or_false : (b : Bool) → (b || false) ≡ b
    or_false true = refl
    or_false false = refl

module _ (c : Change) (replaced written : List (Place × Held)) (one : replaced ≡ c.replaced) (two : written ≡ c.written) where
  first_in : (p : Place) → is_place_of (λ e. e.0) replaced p ≡ true → is_listed (c ∷ []) p ≡ true
  first_in p h = listed_by c p ∙ or_left _ _ (ap (λ es. is_place_of (λ e. e.0) es p) (sym one) ∙ h)

  second_in : (p : Place) → is_place_of (λ e. e.0) written p ≡ true → is_listed (c ∷ []) p ≡ true
  second_in p h = listed_by c p ∙ or_right (is_place_of (λ e. e.0) c.replaced p) _ (ap (λ es. is_place_of (λ e. e.0) es p) (sym two) ∙ h)

  pub replaced_touched : (u v : Option Values) → AreTouched (is_place_of (λ e. e.0) replaced) u v → AreTouched (is_listed (c ∷ [])) u v
  replaced_touched u v touched = touched_within _ (is_listed (c ∷ [])) u v first_in touched

  pub part_touched : (u v w : Option Values) → AreTouched (is_place_of (λ e. e.0) replaced) u v → AreTouched (is_place_of (λ e. e.0) written) v w → AreTouched (is_listed (c ∷ [])) u w
  part_touched u v w first next = touched_on (is_listed (c ∷ [])) u v w (replaced_touched u v first) (touched_within _ (is_listed (c ∷ [])) v w second_in next)

  pub part_marked : {X E : Type 0} (r : Result X E) (v w : Option Values) → IsOfCells c → AreTouched (is_place_of (λ e. e.0) written) v w → AreMarkedIn v (is_place_of (λ e. e.0) replaced)
      → OnOk r (AreMarkedIn w (is_place_of (λ e. e.0) written)) → OnOk r (IsStepMarked (c ∷ []) w)
  part_marked (Err e) v w cells touched first next = tt
  part_marked (Ok x) v None cells touched first next = tt
  part_marked (Ok x) v (Some w) cells touched first next = (
    (cells, tt),
    (λ p h. ⊎_elim
        (λ (old : is_place_of (λ e. e.0) c.replaced p ≡ true). marked_on _ v (Some w) p (at_most _ v (Some w) touched) (first p (ap (λ es. is_place_of (λ e. e.0) es p) one ∙ old)))
        (λ (new : is_place_of (λ e. e.0) c.written p ≡ true). next p (ap (λ es. is_place_of (λ e. e.0) es p) two ∙ new))
        (or_cases _ _ (sym (listed_by c p) ∙ h))),
  )

-- one part more of a step
module _ (parts : List Part) (i : ℕ) (x : Part) (low : i < length parts) (is : x ≡ get_or parts i x) where
  part_within : (p : Place) → is_listed (change_of x ∷ []) p ≡ true → is_listed (changes_of parts) p ≡ true
  part_within p h = grow parts i low (subst (λ y. lists (change_of y) ≡ true) is (single _ h))
    where
      lists : Change → Bool
      lists c = list_any (same_place p) (places_of c.replaced ++ places_of c.written)

      single : (b : Bool) → (b || false) ≡ true → b ≡ true
      single true e = refl
      single false e = e

      grow : (es : List Part) (j : ℕ) → j < length es → lists (change_of (get_or es j x)) ≡ true → is_listed (changes_of es) p ≡ true
      grow [] j l e = absurd (omega (arith, l))
      grow (y ∷ ys) zero l e = or_left (lists (change_of y)) (is_listed (changes_of ys) p) e
      grow (y ∷ ys) (suc j) l e = or_right (lists (change_of y)) (is_listed (changes_of ys) p) (grow ys j (omega (arith, l)) e)

  part_of_cells : AreOfCells (changes_of parts) → IsOfCells (change_of x)
  part_of_cells all = subst (λ y. IsOfCells (change_of y)) (sym is) (go parts i low all)
    where
      go : (es : List Part) (j : ℕ) → j < length es → AreOfCells (changes_of es) → IsOfCells (change_of (get_or es j x))
      go [] j l h = absurd (omega (arith, l))
      go (y ∷ ys) zero l h = h.0
      go (y ∷ ys) (suc j) l h = go ys j (omega (arith, l)) h.1

  pub more_at_most : (u v w : Option Values) → AreTouchedAtMost (is_listed (changes_of parts)) u v → AreTouchedAtMost (is_listed (change_of x ∷ [])) v w → AreTouchedAtMost (is_listed (changes_of parts)) u w
  more_at_most u v w first next = at_most_on (is_listed (changes_of parts)) u v w first (at_most_within _ (is_listed (changes_of parts)) v w part_within next)

  pub more_touched : (u v w : Option Values) → (AreOfCells (changes_of parts) → AreTouched (is_listed (changes_of parts)) u v) → (IsOfCells (change_of x) → AreTouched (is_listed (change_of x ∷ [])) v w)
      → AreOfCells (changes_of parts) → AreTouched (is_listed (changes_of parts)) u w
  more_touched u v w first next all = touched_on (is_listed (changes_of parts)) u v w (first all) (touched_within _ (is_listed (changes_of parts)) v w part_within (next (part_of_cells all)))

  pub more_marked : (v w : Option Values) → AreTouchedAtMost (is_listed (change_of x ∷ [])) v w → IsStepMarked (changes_of (take i parts)) v → IsStepMarked (change_of x ∷ []) w → IsStepMarked (changes_of (take (i + 1) parts)) w
  more_marked v w touched first next =
      subst (λ cs. IsStepMarked cs w) (sym (ap changes_of (take_more parts i x low) ∙ map-append change_of (take i parts) (get_or parts i x ∷ [])))
      (step_marked (is_listed (change_of x ∷ [])) (changes_of (take i parts)) (change_of (get_or parts i x) ∷ []) v w touched first (subst (λ y. IsStepMarked (change_of y ∷ []) w) is next))

-- what holds of values that were made of others so, holds of what is kept
pub of_made : (Stand : Values → Values → Type 0) (P : Option Values → Option Values → Type 0) (old new : Option Values) → AreMade Stand old new → ((v w : Values) → Stand v w → P (Some v) (Some w)) → P None None → P old new
of_made Stand P None None made some none = none
of_made Stand P None (Some w) made some none = absurd made
of_made Stand P (Some v) None made some none = absurd made
of_made Stand P (Some v) (Some w) made some none = some v w made
