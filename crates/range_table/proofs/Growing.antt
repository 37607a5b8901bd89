-- Tables that get more numbers. Serves all that keeps blocks.
use Rattle.std.proofs.Common.{◌≡◌, ◌∙◌, sym, ap, refl, subst, arith, ℕ, zero, suc, ◌<◌, true, List, [], ◌∷◌, ◌++◌, length, Some}
use Rattle.std.specs.Prelude.{slice_get}
use Rattle.std.specs.List.{IsDistinct}
use Rattle.std.proofs.lemmas.Map.Made.{AllPairs-from_IsDistinct}
use Rattle.std.proofs.lemmas.Option.{same_Some}
use Rattle.cell_addr.specs.declared.axis.Axis.TheVariants.{Cols, Rows}
use Rattle.place_lines.specs.Spots.{area_of, number_of, spot_of, table_along}
use Rattle.shift_core.specs.Carried.{first_place}
use Rattle.place_lines.specs.declared.area.LineArea.{LineArea}
use Rattle.cell_addr.specs.declared.place.Block.{Block}
use Rattle.cell_value.specs.declared.summary.Summary.{Summary}
use Rattle.place_lines.specs.declared.lines.PlaceLines.{PlaceLines}
use Rattle.place_lines.proofs.Places.{one_block}
use Rattle.range_table.specs.declared.files.Files.{Files}
use Rattle.range_table.specs.declared.kept.KeptSummaries.{KeptSummaries}
use Rattle.range_table.specs.declared.state.State.{State}
use Rattle.range_table.specs.declared.state.State.TheVariants as state
use Rattle.range_table.specs.declared.state.State.TheVariants.{Left}
use Rattle.range_table.specs.declared.table.Table.{Table}
use Rattle.range_table.specs.internal.Files.{AreFound, Finds, IsMore}
use Rattle.range_table.specs.internal.Kept as kept
use Rattle.range_table.specs.internal.Kept.{map_of}
use Rattle.range_table.specs.internal.States.{AreOnce, is_found, same_area, state_at}
use Rattle.range_table.specs.internal.Tables.{AllStand, AreBounded, Grows, IsUnder, KeepsUnder, known, map_in}
use Rattle.range_table.proofs.Numbers.{IsKnownBlock, all_found, all_stand, decides_areas, gets-more, has_kept, kept_is_found, known_block, map_has, same_maps}

-- the states of a list with one more of which nothing is known
pub left-more : (states : List State) (n : ℕ) → state_at (states ++ Left ∷ []) n ≡ state_at states n
left-more [] zero = refl
left-more [] (suc n) = refl
left-more (st ∷ states) zero = refl
left-more (st ∷ states) (suc n) = left-more states n

-- ---- more is found

pub same_more : (files : Files) → IsMore files files
same_more files = record { touches = ((λ s n h. h), (λ s n h. h), (λ a s l n h. h)); cells = λ s r c n h. h }

pub more_on : (a b c : Files) → IsMore a b → IsMore b c → IsMore a c
more_on a b c f g = record {
  touches = (
    λ s n h. g.touches.0 s n (f.touches.0 s n h),
    λ s n h. g.touches.1 s n (f.touches.1 s n h),
    λ x s l n h. g.touches.2 x s l n (f.touches.2 x s l n h),
  );
  cells = λ s r c n h. g.cells s r c n (f.cells s r c n h);
}

pub finds_more : (a b : Files) (lines : PlaceLines) (x : Block) (n : ℕ) → IsMore a b → Finds a lines x n → Finds b lines x n
finds_more a b lines x n f finds = record {
  touches = (
    f.touches.1 (spot_of lines (first_place x)) n finds.touches.0,
    λ line low high. f.touches.2 Rows x.sheet (number_of (table_along Rows lines x.sheet) line) n (finds.touches.1 line low high),
    λ line low high. f.touches.2 Cols x.sheet (number_of (table_along Cols lines x.sheet) line) n (finds.touches.2 line low high),
  );
  cells = λ p h. let at = spot_of lines p in f.cells at.sheet at.row at.col n (finds.cells p h);
}

-- ---- tables

pub same_grows : (t : Table) → Grows t t
same_grows t = record { lines = refl; keys = λ n a h. h; states = λ n. refl }

pub grows_on : (a b c : Table) → Grows a b → Grows b c → Grows a c
grows_on a b c f g = record { lines = g.lines ∙ f.lines; keys = λ n x h. g.keys n x (f.keys n x h); states = λ n. g.states n ∙ f.states n }

pub under_more : (a b : Table) (n : ℕ) (x : Block) → Grows a b → IsUnder a n x → IsUnder b n x
under_more a b n x f under = f.keys n _ under ∙ ap (λ l. Some (area_of l x)) (sym f.lines)

pub keeps_more : (a b : Table) (n : ℕ) (x : Block) (y : Summary) → Grows a b → KeepsUnder a n x y → KeepsUnder b n x y
keeps_more a b n x y f (under, is) = (under_more a b n x f under, f.states n ∙ is)

-- a number of which something is known was there
pub known_low : (t : Table) (n : ℕ) → is_found (known t n) ≡ true → n < length t.keys.keys
known_low t n h = subst (λ k. n < k) t.counts (by t.states.items n h)
  where
    by : (states : List State) (n : ℕ) → is_found (state_at states n) ≡ true → n < length states
    by [] n h = absurd (cc)
    by (st ∷ states) zero h = omega arith
    by (st ∷ states) (suc n) h = omega (arith, by states n h)

module _ (a b : Table) (grown : Grows a b) where
  was_found : (n : ℕ) → is_found (known b n) ≡ true → is_found (known a n) ≡ true
  was_found n h = subst (λ st. is_found st ≡ true) (grown.states n) h

  module _ (old new : Files) (more : IsMore old new) (stand : AllStand a) (found : AreFound a old) where
    known_still : (n : ℕ) → is_found (known b n) ≡ true → (x : Block) × IsKnownBlock b new n x
    known_still n h =
        let (x, (under, inside, finds)) = known_block a old stand found n (was_found n h) in
        (x, (under_more a b n x grown under, inside, subst (λ l. Finds new l x n) (sym grown.lines) (finds_more old new a.lines x n more finds)))

    pub stand_still : AllStand b
    stand_still = all_stand b new known_still

    pub found_still : AreFound b new
    found_still = all_found b new known_still

    -- what is kept in the one is kept in the other
    kept_before : (n : ℕ) (x : Block) (y : Summary) → KeepsUnder b n x y → KeepsUnder a n x y
    kept_before n x y (under, is) =
        let here : known a n ≡ state.Kept y = sym (grown.states n) ∙ is in
        let (c, (was, inside, finds)) = known_block a old stand found n (kept_is_found (known a n) y here) in
        let same : Some (area_of b.lines c) ≡ Some (area_of b.lines x) = sym (under_more a b n c grown was) ∙ under in
        (was ∙ ap (λ l. Some (area_of l c)) (sym grown.lines) ∙ same ∙ ap (λ l. Some (area_of l x)) grown.lines, here)

    pub same_map_grown : map_in b ≡ map_in a
    same_map_grown = same_maps (map_in b) (map_in a)
        (λ x y e. let (n, keeps) = map_has b x y e in has_kept a old stand found n x y (kept_before n x y keeps))
        (λ x y e. let (n, keeps) = map_has a x y e in has_kept b new stand_still found_still n x y (keeps_more a b n x y grown keeps))

  pub bounded_still : AreBounded a → AreBounded b
  bounded_still bounded n x is = bounded n x (sym (grown.states n) ∙ is)

-- ---- both

pub both_grow : (a b : KeptSummaries) → Grows a.table b.table → IsMore a.files b.files → kept.Grows a b
both_grow a b f g = record { table = f; files = g }

pub same_both : (a : KeptSummaries) → kept.Grows a a
same_both a = record { table = same_grows a.table; files = same_more a.files }

pub both_on : (a b c : KeptSummaries) → kept.Grows a b → kept.Grows b c → kept.Grows a c
both_on a b c f g = record { table = grows_on a.table b.table c.table f.table g.table; files = more_on a.files b.files c.files f.files g.files }

pub same_map_both : (a b : KeptSummaries) → kept.Grows a b → map_of b ≡ map_of a
same_map_both a b f = same_map_grown a.table b.table f.table a.files b.files f.files a.stands a.found

-- ---- what a grown table keeps

module _ (a : KeptSummaries) (t : Table) (f : Files) (grown : Grows a.table t) (more : IsMore a.files f) where
  pub grown_stand : AllStand t
  grown_stand = stand_still a.table t grown a.files f more a.stands a.found

  pub grown_found : AreFound t f
  grown_found = found_still a.table t grown a.files f more a.stands a.found

  pub grown_bounded : AreBounded t
  grown_bounded = bounded_still a.table t grown a.bounded

  pub grown_map : map_in t ≡ map_of a
  grown_map = same_map_grown a.table t grown a.files f more a.stands a.found

  -- a number by which a block is found, or is filed now
  pub number_found : (b : Block) (n : ℕ) → IsUnder t n b → is_found (known t n) ≡ true → Finds f t.lines b n
  number_found b n under h =
      let (c, (there, inside, finds)) = known_block t f grown_stand grown_found n h in
      subst (λ x. Finds f t.lines x n) (one_block t.lines c b (same_Some (area_of t.lines c) (area_of t.lines b) (sym there ∙ under))) finds

-- ---- one number more

pub grows_pushed : (a b : Table) (area : LineArea) → b.lines ≡ a.lines → b.keys.keys ≡ a.keys.keys ++ area ∷ [] → b.states.items ≡ a.states.items ++ Left ∷ [] → Grows a b
grows_pushed a b area lines keys states = record {
  lines = lines;
  keys = λ n x h. ap (λ ks. slice_get ks n) keys ∙ gets-more a.keys.keys (area ∷ []) n x h;
  states = λ n. ap (λ l. state_at l n) states ∙ left-more a.states.items n;
}

pub grows_same : (a b : Table) → b.lines ≡ a.lines → b.keys.keys ≡ a.keys.keys → b.states.items ≡ a.states.items → Grows a b
grows_same a b lines keys states = record {
  lines = lines;
  keys = λ n x h. ap (λ ks. slice_get ks n) keys ∙ h;
  states = λ n. ap (λ l. state_at l n) states;
}

pub once_more : (keys : List LineArea) → IsDistinct same_area keys → AreOnce keys
once_more keys distinct = AllPairs-from_IsDistinct decides_areas keys distinct
