-- What operations make of kept summaries under numbers. Serves `shift`.
use Rattle.std.proofs.Common.{◌≡◌, ◌∙◌, sym, ap, refl, subst, ℕ, ◌<◌, ◌⊎◌, inl, inr, ⊎_elim, Bool, true, false, cond, List, [], ◌∷◌, ◌++◌, length, eqb, eqb-true, Option, Some, None, IsSome, is_some, unwrap_or}
use Rattle.std.specs.Prelude.{slice_get}
use Rattle.std.specs.BTreeMap as tree
use Rattle.std.specs.BTreeMap.{is_at}
use Rattle.std.specs.Map.{lookup}
use Rattle.std.specs.FinMap.{get}
use Rattle.std.specs.Ordering.{nat_cmp}
use Rattle.std.proofs.lemmas.Bool.{eq-eqb, false≢true}
use Rattle.std.proofs.lemmas.Option.{same_Some}
use Rattle.cell_addr.specs.Place.{IsBlockInside, covers}
use Rattle.cell_addr.specs.declared.axis.Axis.{Axis}
use Rattle.cell_addr.specs.declared.axis.Axis.TheVariants.{Cols, Rows}
use Rattle.cell_addr.specs.declared.place.Block.{Block}
use Rattle.cell_addr.specs.declared.place.Place.{Place}
use Rattle.cell_value.specs.declared.summary.Summary.{Summary}
use Rattle.needs_order.specs.Needs.{has}
use Rattle.needs_order.proofs.Lists.{has-append_cases, has-append_left, has-append_right, has_cases, has_first, has_or_not}
use Rattle.place_lines.specs.Moved as lines
use Rattle.place_lines.specs.Spots.{area_of, spot_of, table_along}
use Rattle.place_lines.specs.declared.lines.PlaceLines.{PlaceLines}
use Rattle.place_lines.proofs.Carried.{IsCarriedBlock, carried_spots}
use Rattle.place_lines.proofs.Known.{same_number}
use Rattle.place_lines.proofs.Places.{one_block, one_spot, same_area}
use Rattle.shift_core.specs.Bent.{IsBent, IsCut}
use Rattle.shift_core.specs.Carried.{first_place, last_place}
use Rattle.shift_core.specs.Form.{form_of}
use Rattle.shift_core.specs.Sound.{IsSound, IsSoundForm}
use Rattle.shift_core.specs.Tables.{block_moved}
use Rattle.shift_core.specs.declared.form.Form.{Form}
use Rattle.shift_core.specs.declared.form.Form.TheVariants.{Cells, Lines, Sheet}
use Rattle.shift_core.specs.declared.shift.Shift.{Shift}
use Rattle.shift_core.proofs.BlockLaws.{block_moved_inside}
use Rattle.shift_core.proofs.CellMoves.{Covers-from_covers, covers-from_Covers}
use Rattle.block_index.specs.declared.index.BlockIndex.{BlockIndex}
use Rattle.touch_index.specs.Touched.{TouchesBlock}
use Rattle.touch_index.proofs.Staying.{block_is_somewhere, block_kept}
use Rattle.range_table.specs.Shifted.{AreMoved, GivesUpBlock, KeepsBlock, TearsBlock}
use Rattle.range_table.specs.declared.changes.Changes.{Changes}
use Rattle.range_table.specs.declared.files.Files.{Files}
use Rattle.range_table.specs.declared.kept.KeptSummaries.{KeptSummaries}
use Rattle.range_table.specs.declared.state.State.{State}
use Rattle.range_table.specs.declared.state.State.TheVariants as state
use Rattle.range_table.specs.declared.table.Table.{Table}
use Rattle.range_table.specs.internal.Filed.{FindsCells, finds_at}
use Rattle.range_table.specs.internal.Files.{AreFound, Finds, FindsGivenUp, IsTouched}
use Rattle.range_table.specs.internal.Kept as both
use Rattle.range_table.specs.internal.Kept.{map_of}
use Rattle.range_table.specs.internal.Shifting.{AreChanges, Arrives, IsDone, IsNumberBy, IsTaken, TakesTo}
use Rattle.range_table.specs.internal.States.{is_found, summary_in}
use Rattle.range_table.specs.internal.Tables.{AllStand, AreBounded, IsUnder, KeepsUnder, known, map_in, state_then}
use Rattle.range_table.proofs.Growing.{finds_more, keeps_more, under_more}
use Rattle.range_table.proofs.Moving.{one_origin}
use Rattle.range_table.proofs.Numbers.{IsKnownBlock, all_found, all_stand, got, has_kept, is_kept, kept_is_found, known_block, map_has}

-- ---- cells of a block that an operation doesn't touch find it still

all_spots_stay : (old new : PlaceLines) (p : Place) → ((axis : Axis) → lines.AllStay axis old new) → spot_of old p ≡ spot_of new p
all_spots_stay old new p stay =
    one_spot Rows old new p p refl
    (same_number (table_along Rows old p.sheet) (table_along Rows new p.sheet) p.row (stay Rows p.sheet))
    (same_number (table_along Cols old p.sheet) (table_along Cols new p.sheet) p.col (stay Cols p.sheet))

stays_there : (old new : PlaceLines) (b after : Block) → ((axis : Axis) → lines.AllStay axis old new) → area_of old b ≡ area_of new after → b ≡ after
stays_there old new b after stay same =
    let here : area_of old b ≡ area_of new b
    = same_area (area_of old b) (area_of new b) (all_spots_stay old new (first_place b) stay) (all_spots_stay old new (last_place b) stay) in
    one_block new b after (sym here ∙ same)

cells_carried : (f : Form) (x : BlockIndex) (old new : PlaceLines) (b after : Block) (n : ℕ) → IsCarriedBlock f b after → lines.AreMoved f old new → FindsCells x old b n → FindsCells x new after n
cells_carried f x old new b after n carried moved finds q covered =
    let (p, was, is) = (carried_spots f old new b after q carried moved).0 (Covers-from_covers after q covered) in
    ap (λ s. finds_at x s n) (sym is) ∙ finds p (covers-from_Covers b p was)

pub cells_find : (f : Form) (x : BlockIndex) (old new : PlaceLines) (b after : Block) (n : ℕ) → IsSoundForm f → lines.AreMoved f old new → IsBlockInside b → ¬ TouchesBlock f b → block_moved f b ≡ Some after
    → area_of old b ≡ area_of new after → FindsCells x old b n → FindsCells x new after n
cells_find (Lines sheet axis edit) x old new b after n sound moved inside still moves same finds =
    cells_carried (Lines sheet axis edit) x old new b after n
    (record { sound = sound; none = tt; inside = inside; still = λ bent. still (inl bent); whole = λ cut. still (inr (inl cut)); moves = moves }) moved finds
cells_find (Cells source to) x old new b after n sound moved inside still moves same finds = λ q covered.
    ap (λ s. finds_at x s n) (sym (all_spots_stay old new q moved)) ∙ finds q (ap (λ c. covers c q) (stays_there old new b after moved same) ∙ covered)
cells_find (Sheet sheet) x old new b after n sound moved inside still moves same finds =
    cells_carried (Sheet sheet) x old new b after n
    (record { sound = sound; none = tt; inside = inside; still = λ bent. still (inl bent); whole = λ cut. still (inr (inl cut)); moves = moves }) moved finds

-- a block that the operation doesn't touch is somewhere afterwards, and is found there
pub record StaysFound (s : Shift) (old new : PlaceLines) (files : Files) (b : Block) (n : ℕ) : Type 0 where
  pub after : Block
  pub keeps : KeepsBlock s b after
  pub area : area_of old b ≡ area_of new after
  pub inside : IsBlockInside after
  pub finds : Finds files new after n

pub stays_found : (s : Shift) (old new : PlaceLines) (files : Files) (b : Block) (n : ℕ) → IsSound s → lines.AreMoved (form_of s) old new → IsBlockInside b → ¬ IsTouched s b → Finds files old b n → StaysFound s old new files b n
stays_found s old new files b n sound moved inside still finds =
    let whole : ¬ TouchesBlock (form_of s) b = λ t. still (inl t) in
    let (after, moves, area) = block_is_somewhere (form_of s) old new b sound moved inside whole in
    record {
      after = after;
      keeps = (
        λ gone. ⊎_elim
            (λ (bent : IsBent s b). whole (inl bent))
            (λ (rest : IsCut s b ⊎ TearsBlock (form_of s) b). ⊎_elim (λ (cut : IsCut s b). whole (inr (inl cut))) (λ (torn : TearsBlock (form_of s) b). still (inr torn)) rest)
            gone,
        moves,
      );
      area = area;
      inside = block_moved_inside (form_of s) b after sound inside moves;
      finds = record {
        touches = block_kept (form_of s) files.touches old new b after n sound moved inside whole moves finds.touches;
        cells = cells_find (form_of s) files.cells old new b after n sound moved inside whole moves area finds.cells;
      };
    }

-- ---- one number after another

gone_or : (n number : ℕ) (xs : List ℕ) → has n (xs ++ number ∷ []) ≡ true → (has n xs ≡ true) ⊎ (number ≡ n)
gone_or n number xs h = ⊎_elim
    (λ (before : has n xs ≡ true). inl before)
    (λ (last : has n (number ∷ []) ≡ true). ⊎_elim (λ (same : number ≡ n). inr same) (λ (no_more : has n [] ≡ true). absurd (false≢true no_more)) (has_cases n number [] last))
    (has-append_cases n xs (number ∷ []) h)

pub gone_last : (number : ℕ) (xs : List ℕ) → has number (xs ++ number ∷ []) ≡ true
gone_last number xs = has-append_right number xs (number ∷ []) (has_first number [])

-- the block that has a number of which something is known
its_block : (k : KeptSummaries) (n : ℕ) (b c : Block) → IsUnder k.table n b → IsUnder k.table n c → b ≡ c
its_block k n b c under there = one_block k.table.lines b c (same_Some (area_of k.table.lines b) (area_of k.table.lines c) (sym under ∙ there))

module _ (s : Shift) (after_lines : PlaceLines) where
  module _ (old new : KeptSummaries) (grown : both.Grows old new) (c : Changes) where
    under_before : (n : ℕ) (b : Block) → is_found (known new.table n) ≡ true → IsUnder new.table n b → IsUnder old.table n b
    under_before n b h under =
        let was : is_found (known old.table n) ≡ true = subst (λ st. is_found st ≡ true) (grown.table.states n) h in
        let (x, (there, inside, finds)) = known_block old.table old.files old.stands old.found n was in
        let same : x ≡ b = its_block new n x b (under_more old.table new.table n x grown.table there) under in
        subst (λ y. IsUnder old.table n y) same there

    taken_still : (n : ℕ) (b : Block) → IsTaken s after_lines old.table c n b → IsTaken s after_lines new.table c n b
    taken_still n b taken after x is keeps =
        let (m, number, some) = taken after x (sym (grown.table.states n) ∙ is) keeps in (m, grown.table.keys m _ number, some)

    arrives_still : (m : ℕ) (st : State) → Arrives s after_lines old m st → Arrives s after_lines new m st
    arrives_still m st (n, b, after, x, is, keeps, kept, number, inside, finds) =
        (n, b, after, x, is, keeps_more old.table new.table n b x grown.table keeps, kept, grown.table.keys m _ number, inside, finds_more old.files new.files after_lines after m grown.files finds)

    pub changes_still : (gone : List ℕ) → AreChanges s after_lines old gone c → AreChanges s after_lines new gone c
    changes_still gone are = record {
      done = λ n h b under inside found. ⊎_elim
          (λ (still : ¬ IsTouched s b). inl still)
          (λ (left : (has n c.left.items ≡ true) × IsTaken s after_lines old.table c n b). inr (left.0, taken_still n b left.1))
          (are.done n h b (under_before n b found under) inside (subst (λ st. is_found st ≡ true) (grown.table.states n) found));
      taken = λ n b left under after x is keeps.
          let taken = are.taken n b left (under_before n b (kept_is_found (known new.table n) x is) under) in taken_still n b taken after x is keeps;
      arrived = λ m st is. arrives_still m st (are.arrived m st is);
    }

  -- no number is done yet
  pub no_changes : (k : KeptSummaries) (c : Changes) → c.left.items ≡ [] → c.arrived.entries ≡ [] → AreChanges s after_lines k [] c
  no_changes k c left arrived = record {
    done = λ n h. absurd (false≢true h);
    taken = λ n b h. absurd (false≢true (sym (ap (has n) left) ∙ h));
    arrived = λ m st is. let none : None ≡ Some st = sym (ap (λ es. lookup (is_at (nat_cmp m)) es) arrived) ∙ is in absurd (apart st none);
  }
    where
      apart : (st : State) → None ≡ Some st → ⊥
      apart st e = cc

  -- a number of which nothing is known, or whose block isn't touched
  pub one_untouched : (k : KeptSummaries) (c : Changes) (number : ℕ) (gone : List ℕ) → ((b : Block) → IsUnder k.table number b → is_found (known k.table number) ≡ true → ¬ IsTouched s b)
      → AreChanges s after_lines k gone c → AreChanges s after_lines k (gone ++ number ∷ []) c
  one_untouched k c number gone still are = record {
    done = λ n h b under inside found. ⊎_elim
        (λ (before : has n gone ≡ true). are.done n before b under inside found)
        (λ (same : number ≡ n). inl (still b (subst (λ m. IsUnder k.table m b) (sym same) under) (subst (λ m. is_found (known k.table m) ≡ true) (sym same) found)))
        (gone_or n number gone h);
    taken = are.taken;
    arrived = are.arrived;
  }

  -- a number that leaves
  module _ (k : KeptSummaries) (c d : Changes) (number : ℕ) (block : Block) (gone : List ℕ) (under : IsUnder k.table number block) (left : d.left.items ≡ c.left.items ++ number ∷ [])
      (still : (m : ℕ) → IsSome (tree.get nat_cmp c.arrived m) → IsSome (tree.get nat_cmp d.arrived m))
      (only : (m : ℕ) (st : State) → tree.get nat_cmp d.arrived m ≡ Some st → (tree.get nat_cmp c.arrived m ≡ Some st) ⊎ Arrives s after_lines k m st)
      (takes : IsTaken s after_lines k.table d number block) (are : AreChanges s after_lines k gone c) where
    taken_on : (n : ℕ) (b : Block) → IsTaken s after_lines k.table c n b → IsTaken s after_lines k.table d n b
    taken_on n b taken after x is keeps = let (m, at, some) = taken after x is keeps in (m, at, still m some)

    left_still : (n : ℕ) → has n c.left.items ≡ true → has n d.left.items ≡ true
    left_still n h = ap (has n) left ∙ has-append_left n c.left.items (number ∷ []) h

    takes_its : (n : ℕ) (b : Block) → number ≡ n → IsUnder k.table n b → IsTaken s after_lines k.table d n b
    takes_its n b same there =
        subst (λ m. IsTaken s after_lines k.table d m b) same
        (subst (λ x. IsTaken s after_lines k.table d number x) (its_block k number block b under (subst (λ m. IsUnder k.table m b) (sym same) there)) takes)

    pub one_left : AreChanges s after_lines k (gone ++ number ∷ []) d
    one_left = record {
      done = λ n h b there inside found. ⊎_elim
          (λ (before : has n gone ≡ true). ⊎_elim
          (λ (untouched : ¬ IsTouched s b). inl untouched)
          (λ (out : (has n c.left.items ≡ true) × IsTaken s after_lines k.table c n b). inr (left_still n out.0, taken_on n b out.1))
          (are.done n before b there inside found))
          (λ (same : number ≡ n). inr (subst (λ m. has m d.left.items ≡ true) same (ap (has number) left ∙ gone_last number c.left.items), takes_its n b same there))
          (gone_or n number gone h);
      taken = λ n b h there. ⊎_elim
          (λ (before : has n c.left.items ≡ true). taken_on n b (are.taken n b before there))
          (λ (same : number ≡ n). takes_its n b same there)
          (gone_or n number c.left.items (sym (ap (has n) left) ∙ h));
      arrived = λ m st is. ⊎_elim (λ (before : tree.get nat_cmp c.arrived m ≡ Some st). are.arrived m st before) (λ (new : Arrives s after_lines k m st). new) (only m st is);
    }

  -- a block whose summary is given up takes none along
  pub ends_taken : (k : KeptSummaries) (c : Changes) (number : ℕ) (block : Block) → GivesUpBlock s block → IsTaken s after_lines k.table c number block
  ends_taken k c number block gone after x is keeps = absurd (keeps.0 gone)

  pub moves_taken : (k : KeptSummaries) (c d : Changes) (number : ℕ) (block after : Block) → KeepsBlock s block after → TakesTo after_lines number after k c d → IsTaken s after_lines k.table d number block
  moves_taken k c d number block after keeps takes other x is kept =
      let same : after ≡ other = same_Some after other (sym keeps.1 ∙ kept.1) in
      let (m, at, some) = takes.some x is in (m, subst (λ b. IsNumberBy after_lines k.table m b) same at, some)

  pub moves_only : (k : KeptSummaries) (c d : Changes) (number : ℕ) (block after : Block) → IsUnder k.table number block → IsBlockInside after → KeepsBlock s block after → TakesTo after_lines number after k c d
      → (m : ℕ) (st : State) → tree.get nat_cmp d.arrived m ≡ Some st → (tree.get nat_cmp c.arrived m ≡ Some st) ⊎ Arrives s after_lines k m st
  moves_only k c d number block after under inside keeps takes m st is = ⊎_elim
      (λ (before : tree.get nat_cmp c.arrived m ≡ Some st). inl before)
      (λ (new : (x : Summary) × (st ≡ state.Kept x) × (known k.table number ≡ state.Kept x) × IsNumberBy after_lines k.table m after × Finds k.files after_lines after m).
      inr (number, block, after, new.0, new.1, (under, new.2), keeps, new.3, inside, new.4))
      (takes.only m st is)

-- ---- all

-- numbers that weren't found are those of blocks that aren't touched
pub all_done : (s : Shift) (after_lines : PlaceLines) (old new : KeptSummaries) (c : Changes) (found : List ℕ) → both.Grows old new → FindsGivenUp s old.table.lines old.files found → AreChanges s after_lines new found c
    → (n : ℕ) → IsDone s after_lines new.table c n
all_done s after_lines old new c found grown finds are n b under inside known_n = ⊎_elim
    (λ (gone : has n found ≡ true). are.done n gone b under inside known_n)
    (λ (other : has n found ≡ false). inl (λ touched.
    let was : is_found (known old.table n) ≡ true = subst (λ st. is_found st ≡ true) (grown.table.states n) known_n in
    let (x, (there, in_sheet, has_it)) = known_block old.table old.files old.stands old.found n was in
    let same : x ≡ b = its_block new n x b (under_more old.table new.table n x grown.table there) under in
    false≢true (sym other ∙ finds x n in_sheet has_it.touches (subst (IsTouched s) (sym same) touched))))
    (has_or_not n found)

module _ (s : Shift) (after_lines : PlaceLines) (k : KeptSummaries) (c : Changes) (gone : List ℕ) (new : Table) (sound : IsSound s) (moved : lines.AreMoved (form_of s) k.table.lines after_lines)
    (done : (n : ℕ) → IsDone s after_lines k.table c n) (are : AreChanges s after_lines k gone c)
    (here : new.lines ≡ after_lines) (keys : new.keys.keys ≡ k.table.keys.keys) (states : (n : ℕ) → known new n ≡ state_then c k.table n) where
  -- what is known of a number afterwards arrived, or was known before, and its block isn't touched
  abbrev HasArrived : ℕ → Type 0
  HasArrived n = Arrives s after_lines k n (known new n) × (tree.get nat_cmp c.arrived n ≡ Some (known new n))

  abbrev HasStayed : ℕ → Type 0
  HasStayed n = (b : Block) × IsUnder k.table n b × IsBlockInside b × (known new n ≡ known k.table n) × StaysFound s k.table.lines after_lines k.files b n

  cases_by : (n : ℕ) → is_found (known new n) ≡ true → (o : Option State) → tree.get nat_cmp c.arrived n ≡ o → HasArrived n ⊎ HasStayed n
  cases_by n h (Some st) e =
      let same : st ≡ known new n = sym (states n ∙ ap (λ o. unwrap_or o (cond (has n c.left.items) state.Left (known k.table n))) e) in
      inl (subst (Arrives s after_lines k n) same (are.arrived n st e), e ∙ ap (λ x. Some x) same)
  cases_by n h None e = by (has n c.left.items) refl
    where
      is : known new n ≡ cond (has n c.left.items) state.Left (known k.table n)
      is = states n ∙ ap (λ o. unwrap_or o (cond (has n c.left.items) state.Left (known k.table n))) e

      by : (t : Bool) → has n c.left.items ≡ t → HasArrived n ⊎ HasStayed n
      by true left = absurd (false≢true (sym (ap is_found (is ∙ ap (λ t. cond t state.Left (known k.table n)) left)) ∙ h))
      by false stays =
          let same : known new n ≡ known k.table n = is ∙ ap (λ t. cond t state.Left (known k.table n)) stays in
          let there : is_found (known k.table n) ≡ true = subst (λ st. is_found st ≡ true) same h in
          let (b, (under, inside, finds)) = known_block k.table k.files k.stands k.found n there in
          ⊎_elim
          (λ (untouched : ¬ IsTouched s b). inr (b, under, inside, same, stays_found s k.table.lines after_lines k.files b n sound moved inside untouched finds))
          (λ (left : (has n c.left.items ≡ true) × IsTaken s after_lines k.table c n b). absurd (false≢true (sym stays ∙ left.0)))
          (done n b under inside there)

  under_new : (n : ℕ) (b : Block) → IsNumberBy after_lines k.table n b → IsUnder new n b
  under_new n b number = ap (λ ks. slice_get ks n) keys ∙ number ∙ ap (λ l. Some (area_of l b)) (sym here)

  number_new : (n : ℕ) (b : Block) → IsUnder new n b → IsNumberBy after_lines k.table n b
  number_new n b under = ap (λ ks. slice_get ks n) (sym keys) ∙ under ∙ ap (λ l. Some (area_of l b)) here

  one_by : (n : ℕ) (b d : Block) → IsNumberBy after_lines k.table n b → IsNumberBy after_lines k.table n d → b ≡ d
  one_by n b d f g = one_block after_lines b d (same_Some (area_of after_lines b) (area_of after_lines d) (sym f ∙ g))

  each : (n : ℕ) → is_found (known new n) ≡ true → (b : Block) × IsKnownBlock new k.files n b
  each n h = ⊎_elim
      (λ (came : HasArrived n).
      let (m, b, after, x, is, keeps, kept, number, inside, finds) = came.0 in
      (after, (under_new n after number, inside, subst (λ l. Finds k.files l after n) (sym here) finds)))
      (λ (stayed : HasStayed n).
      let (b, under, inside, same, stays) = stayed in
      (stays.after, (under_new n stays.after (under ∙ ap (λ a. Some a) stays.area), stays.inside, subst (λ l. Finds k.files l stays.after n) (sym here) stays.finds)))
      (cases_by n h (tree.get nat_cmp c.arrived n) refl)

  pub stand_moved : AllStand new
  stand_moved = all_stand new k.files each

  pub found_moved : AreFound new k.files
  found_moved = all_found new k.files each

  -- what is kept afterwards was kept before
  abbrev Origin : Block → Summary → Type 0
  Origin after x = (b : Block) × (KeepsBlock s b after × (get (map_in k.table) b ≡ Some x))

  was_kept : (n : ℕ) (after : Block) (x : Summary) → KeepsUnder new n after x → (o : ℕ) × (b : Block) × KeepsUnder k.table o b x × KeepsBlock s b after
  was_kept n after x (under, is) = ⊎_elim
      (λ (came : HasArrived n).
      let (m, b, there, y, st, keeps, kept, number, inside, finds) = came.0 in
      let same : y ≡ x = same_kept y x (sym st ∙ is) in
      let place : there ≡ after = one_by n there after number (number_new n after under) in
      (m, b, subst (λ z. KeepsUnder k.table m b z) same keeps, subst (KeepsBlock s b) place kept))
      (λ (stayed : HasStayed n).
      let (b, was, inside, same, stays) = stayed in
      let place : stays.after ≡ after = one_by n stays.after after (was ∙ ap (λ a. Some a) stays.area) (number_new n after under) in
      (n, b, (was, sym same ∙ is), subst (KeepsBlock s b) place stays.keeps))
      (cases_by n (kept_is_found (known new n) x is) (tree.get nat_cmp c.arrived n) refl)
    where
      same_kept : (y x : Summary) → state.Kept y ≡ state.Kept x → y ≡ x
      same_kept y x e = cc

  pub bounded_moved : AreBounded k.table → AreBounded new
  bounded_moved bounded n x is =
      let (b, (under, inside, finds)) = each n (kept_is_found (known new n) x is) in
      let (o, d, keeps, kept) = was_kept n b x (under, is) in bounded o x keeps.1

  origin : (after : Block) (x : Summary) → get (map_in new) after ≡ Some x → Origin after x
  origin after x e =
      let (n, keeps) = map_has new after x e in
      let (o, b, was, kept) = was_kept n after x keeps in
      (b, (kept, has_kept k.table k.files k.stands k.found o b x was))

  -- and what was kept and isn't given up is kept afterwards
  some_kept : (st : State) (x : Summary) → st ≡ state.Kept x → (m : ℕ) (after : Block) → IsNumberBy after_lines k.table m after → known new m ≡ st → (y : Summary) × (get (map_in new) after ≡ Some y)
  some_kept st x e m after number is = (x, has_kept new k.files stand_moved found_moved m after x (under_new m after number, is ∙ e))

  arrived_kept : (m : ℕ) (after : Block) → IsNumberBy after_lines k.table m after → (o : Option State) → tree.get nat_cmp c.arrived m ≡ o → IsSome o → (y : Summary) × (get (map_in new) after ≡ Some y)
  arrived_kept m after number None e some = absurd (cc)
  arrived_kept m after number (Some st) e some =
      let (n, b, there, x, is, keeps, kept, at, inside, finds) = are.arrived m st e in
      some_kept st x is m after number (states m ∙ ap (λ o. unwrap_or o (cond (has m c.left.items) state.Left (known k.table m))) e)

  is_still : (n : ℕ) (b after : Block) (x : Summary) → KeepsUnder k.table n b x → KeepsBlock s b after → (y : Summary) × (get (map_in new) after ≡ Some y)
  is_still n b after x (under, is) keeps = by (has n c.left.items) refl
    where
      there : is_found (known k.table n) ≡ true
      there = kept_is_found (known k.table n) x is

      stayed : has n c.left.items ≡ false → StaysFound s k.table.lines after_lines k.files b n → (o : Option State) → tree.get nat_cmp c.arrived n ≡ o → (y : Summary) × (get (map_in new) after ≡ Some y)
      stayed out stays o e =
          let place : stays.after ≡ after = same_Some stays.after after (sym stays.keeps.1 ∙ keeps.1) in
          let number : IsNumberBy after_lines k.table n after = subst (λ d. IsNumberBy after_lines k.table n d) place (under ∙ ap (λ a. Some a) stays.area) in
          came number o e
        where
          came : IsNumberBy after_lines k.table n after → (o : Option State) → tree.get nat_cmp c.arrived n ≡ o → (y : Summary) × (get (map_in new) after ≡ Some y)
          came number (Some st) e = arrived_kept n after number (Some st) e refl
          came number None e =
              some_kept (known k.table n) x is n after number
              (states n ∙ ap (λ o. unwrap_or o (cond (has n c.left.items) state.Left (known k.table n))) e ∙ ap (λ t. cond t state.Left (known k.table n)) out)

      by : (t : Bool) → has n c.left.items ≡ t → (y : Summary) × (get (map_in new) after ≡ Some y)
      by true left = let (m, number, some) = are.taken n b left under after x is keeps in arrived_kept m after number (tree.get nat_cmp c.arrived m) refl some
      by false out =
          let inside : IsBlockInside b = (is_kept k.table k.files k.stands k.found n b x (under, is)).1 in
          let (d, (was, in_sheet, finds)) = known_block k.table k.files k.stands k.found n there in
          let same : d ≡ b = its_block k n d b was under in
          ⊎_elim
          (λ (untouched : ¬ IsTouched s b). stayed out (stays_found s k.table.lines after_lines k.files b n sound moved inside untouched (subst (λ y. Finds k.files k.table.lines y n) same finds)) (tree.get nat_cmp c.arrived n) refl)
          (λ (left : (has n c.left.items ≡ true) × IsTaken s after_lines k.table c n b). absurd (false≢true (sym out ∙ left.0)))
          (done n b under inside there)

  inside_kept : (b : Block) (x : Summary) → get (map_in k.table) b ≡ Some x → IsBlockInside b
  inside_kept b x e = let (n, keeps) = map_has k.table b x e in (is_kept k.table k.files k.stands k.found n b x keeps).1

  pub are_moved : AreMoved s (map_in k.table) (map_in new)
  are_moved after x = (
    origin after x,
    λ (b, (keeps, had)).
        let (n, kept) = map_has k.table b x had in
        let (y, is) = is_still n b after x kept keeps in
        let (d, (keeps_too, was)) = origin after y is in
        let one : d ≡ b = one_origin s d b after sound (inside_kept d y was) (inside_kept b x had) keeps_too keeps in
        let same : y ≡ x = same_Some y x (sym was ∙ ap (get (map_in k.table)) one ∙ had) in
        is ∙ ap (λ z. Some z) same,
  )

-- ---- one change

kept_of : (st : State) (x y : Summary) → st ≡ state.Kept x → st ≡ state.Kept y → x ≡ y
kept_of st x y e f = same_kept (sym e ∙ f)
  where
    same_kept : state.Kept x ≡ state.Kept y → x ≡ y
    same_kept e = cc

pub takes_none : (after_lines : PlaceLines) (number : ℕ) (after : Block) (k : KeptSummaries) (c : Changes) → summary_in (known k.table number) ≡ None → TakesTo after_lines number after k c c
takes_none after_lines number after k c none = record {
  some = λ x is. absurd (apart x (sym none ∙ ap summary_in is));
  still = λ m some. some;
  only = λ m st is. inl is;
}
  where
    apart : (x : Summary) → None ≡ Some x → ⊥
    apart x e = cc

pub takes_one : (after_lines : PlaceLines) (number : ℕ) (after : Block) (k : KeptSummaries) (c d : Changes) (arrival : ℕ) (x : Summary) → known k.table number ≡ state.Kept x → IsNumberBy after_lines k.table arrival after
    → Finds k.files after_lines after arrival → ((n : ℕ) → tree.get nat_cmp d.arrived n ≡ cond (eqb n arrival) (Some (state.Kept x)) (tree.get nat_cmp c.arrived n)) → TakesTo after_lines number after k c d
takes_one after_lines number after k c d arrival x is number_is finds arrived = record {
  some = λ y other. (arrival, number_is, ap is_some (arrived arrival ∙ ap (λ t. cond t (Some (state.Kept x)) (tree.get nat_cmp c.arrived arrival)) (eq-eqb arrival arrival refl)));
  still = λ m some. by_some m (eqb m arrival) refl some;
  only = λ m st at. by_only m st (eqb m arrival) refl at;
}
  where
    by_some : (m : ℕ) (t : Bool) → eqb m arrival ≡ t → IsSome (tree.get nat_cmp c.arrived m) → IsSome (tree.get nat_cmp d.arrived m)
    by_some m true e some = ap is_some (arrived m ∙ ap (λ t. cond t (Some (state.Kept x)) (tree.get nat_cmp c.arrived m)) e)
    by_some m false e some = ap is_some (arrived m ∙ ap (λ t. cond t (Some (state.Kept x)) (tree.get nat_cmp c.arrived m)) e) ∙ some

    by_only : (m : ℕ) (st : State) (t : Bool) → eqb m arrival ≡ t → tree.get nat_cmp d.arrived m ≡ Some st → (tree.get nat_cmp c.arrived m ≡ Some st)
        ⊎ ((y : Summary) × (st ≡ state.Kept y) × (known k.table number ≡ state.Kept y) × IsNumberBy after_lines k.table m after × Finds k.files after_lines after m)
    by_only m st true e at =
        let same : m ≡ arrival = eqb-true m arrival e in
        let here : st ≡ state.Kept x = same_Some st (state.Kept x) (sym at ∙ (arrived m ∙ ap (λ t. cond t (Some (state.Kept x)) (tree.get nat_cmp c.arrived m)) e)) in
        inr (x, here, is, subst (λ n. IsNumberBy after_lines k.table n after) (sym same) number_is, subst (Finds k.files after_lines after) (sym same) finds)
    by_only m st false e at = inl (sym (arrived m ∙ ap (λ t. cond t (Some (state.Kept x)) (tree.get nat_cmp c.arrived m)) e) ∙ at)

module _ (s : Shift) (after_lines : PlaceLines) (k : KeptSummaries) (number : ℕ) (block : Block) (under : IsUnder k.table number block) where
  pub leave_ends : (c d : Changes) (gone : List ℕ) → d.arrived ≡ c.arrived → GivesUpBlock s block → d.left.items ≡ c.left.items ++ number ∷ [] → AreChanges s after_lines k gone c → AreChanges s after_lines k (gone ++ number ∷ []) d
  leave_ends c d gone arrived ends left are =
      one_left s after_lines k c d number block gone under left
      (λ m some. subst (λ t. IsSome (tree.get nat_cmp t m)) (sym arrived) some)
      (λ m st is. inl (subst (λ t. tree.get nat_cmp t m ≡ Some st) arrived is))
      (ends_taken s after_lines k d number block ends) are

  pub leave_moves : (c mid d : Changes) (after : Block) (gone : List ℕ) → KeepsBlock s block after → IsBlockInside after → TakesTo after_lines number after k c mid → mid.left ≡ c.left → d.arrived ≡ mid.arrived
      → d.left.items ≡ mid.left.items ++ number ∷ [] → AreChanges s after_lines k gone c → AreChanges s after_lines k (gone ++ number ∷ []) d
  leave_moves c mid d after gone keeps inside takes same arrived left are =
      one_left s after_lines k c d number block gone under (left ∙ ap (λ v. v.items ++ number ∷ []) same)
      (λ m some. subst (λ t. IsSome (tree.get nat_cmp t m)) (sym arrived) (takes.still m some))
      (λ m st is. moves_only s after_lines k c mid number block after under inside keeps takes m st (subst (λ t. tree.get nat_cmp t m ≡ Some st) arrived is))
      (λ other x is kept.
      let (m, at, some) = moves_taken s after_lines k c mid number block after keeps takes other x is kept in
      (m, at, subst (λ t. IsSome (tree.get nat_cmp t m)) (sym arrived) some))
      are

  pub stays_done : (c : Changes) (gone : List ℕ) → ¬ IsTouched s block → AreChanges s after_lines k gone c → AreChanges s after_lines k (gone ++ number ∷ []) c
  stays_done c gone still are = one_untouched s after_lines k c number gone (λ b there found touched. still (subst (IsTouched s) (its_block k number b block there under) touched)) are

-- what arrives comes to numbers that are there
pub arrives_low : (s : Shift) (after_lines : PlaceLines) (k : KeptSummaries) (c : Changes) (gone : List ℕ) → AreChanges s after_lines k gone c → (n : ℕ) (st : State) → tree.get nat_cmp c.arrived n ≡ Some st → n < length k.table.states.items
arrives_low s after_lines k c gone are n st is =
    let (m, b, after, x, e, keeps, kept, number, inside, finds) = are.arrived n st is in
    subst (λ len. n < len) (sym k.table.counts) (got k.table.keys.keys n (area_of after_lines after) (area_of after_lines after) number).0
