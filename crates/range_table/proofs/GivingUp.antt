-- Summaries that are given up because a cell changes. Serves `touch`.
use Rattle.std.proofs.Common.{◌≡◌, ◌∙◌, sym, ap, ap₂, refl, subst, arith, ℕ, zero, suc, ◌+◌, ◌<◌, ◌≤◌, ◌⊎◌, inl, inr, ⊎_elim, Bool, true, false, cond, not, List, [], ◌∷◌, take, get_or, length, eqb, eqb-true, Option, Some, None}
use Rattle.std.specs.FinMap.{get, get-retain_keys}
use Rattle.std.specs.Prelude.{slice_get}
use Rattle.std.specs.List.{list_any}
use Rattle.std.proofs.lemmas.Bool.{cases_lt, eq-eqb, false≢true, or_cases}
use Rattle.std.proofs.lemmas.List.Folds.{list_any_more}
use Rattle.std.proofs.lemmas.Option.{same_Some}
use Rattle.cell_addr.specs.Place.{IsBlockInside, covers}
use Rattle.cell_addr.specs.declared.place.Block.{Block}
use Rattle.cell_addr.specs.declared.place.Place.{Place}
use Rattle.cell_value.specs.declared.summary.Summary.{Summary}
use Rattle.needs_order.specs.Needs.{has}
use Rattle.place_lines.specs.Spots.{area_of, spot_of}
use Rattle.place_lines.proofs.Places.{one_block}
use Rattle.range_table.specs.Table.{without_holders}
use Rattle.range_table.specs.declared.files.Files.{Files}
use Rattle.range_table.specs.declared.state.State.{State}
use Rattle.range_table.specs.declared.state.State.TheVariants.{Found, Kept}
use Rattle.range_table.specs.declared.table.Table.{Table}
use Rattle.range_table.specs.internal.Filed.{finds_at}
use Rattle.range_table.specs.internal.Files.{AreFound, Finds}
use Rattle.range_table.specs.internal.GivenUp.{GivesUp, holds_at, holds_place}
use Rattle.range_table.specs.internal.States.{block_under, is_found, state_at}
use Rattle.range_table.specs.internal.Tables.{AllStand, AreBounded, IsUnder, known, map_in}
use Rattle.range_table.proofs.Numbers.{IsKnownBlock, all_found, all_stand, has_kept, kept_is_found, known_block, map_has, same_maps, stands_there}
use Rattle.range_table.proofs.Orders.{block_cmp-IsAntisymmetric}

found_isnt_kept : (st : State) (x : Summary) → st ≡ Found → st ≡ Kept x → ⊥
found_isnt_kept st x e f = let bad : Found ≡ Kept x = sym e ∙ f in absurd (apart bad)
  where
    apart : Found ≡ Kept x → ⊥
    apart e = cc

module _ (p : Place) where
  same_holds : (a b : Table) (n : ℕ) → b.lines ≡ a.lines → b.keys.keys ≡ a.keys.keys → holds_at b n p ≡ holds_at a n p
  same_holds a b n lines keys = ap₂ (λ l ks. holds_place (block_under l ks n) p) lines keys

  pub gives_nothing : (among : ℕ → Type 0) (t : Table) → ((n : ℕ) → among n → ⊥) → GivesUp p among t t
  gives_nothing among t none = record { lines = refl; keys = refl; states = λ n. inl refl; given = λ n x h is. absurd (none n h) }

  pub gives_fewer : (among fewer : ℕ → Type 0) (a b : Table) → ((n : ℕ) → fewer n → among n) → GivesUp p among a b → GivesUp p fewer a b
  gives_fewer among fewer a b are g = record { lines = g.lines; keys = g.keys; states = g.states; given = λ n x h is. g.given n x (are n h) is }

  module _ (first second : ℕ → Type 0) (a b c : Table) (f : GivesUp p first a b) (g : GivesUp p second b c) where
    was_kept : (n : ℕ) (x : Summary) → known c n ≡ Kept x → known b n ≡ Kept x
    was_kept n x is = ⊎_elim
        (λ (same : known c n ≡ known b n). sym same ∙ is)
        (λ (gone : (known c n ≡ Found) × (holds_at b n p ≡ true) × ((y : Summary) × (known b n ≡ Kept y))). absurd (found_isnt_kept (known c n) x gone.0 is))
        (g.states n)

    states_on : (n : ℕ) → (known c n ≡ known a n) ⊎ ((known c n ≡ Found) × (holds_at a n p ≡ true) × ((x : Summary) × (known a n ≡ Kept x)))
    states_on n = ⊎_elim
        (λ (same : known c n ≡ known b n). ⊎_elim
        (λ (before : known b n ≡ known a n). inl (same ∙ before))
        (λ (gone : (known b n ≡ Found) × (holds_at a n p ≡ true) × ((x : Summary) × (known a n ≡ Kept x))). inr (same ∙ gone.0, gone.1, gone.2))
        (f.states n))
        (λ (gone : (known c n ≡ Found) × (holds_at b n p ≡ true) × ((x : Summary) × (known b n ≡ Kept x))). ⊎_elim
        (λ (before : known b n ≡ known a n). inr (gone.0, sym (same_holds a b n f.lines f.keys) ∙ gone.1, (gone.2.0, sym before ∙ gone.2.1)))
        (λ (was : (known b n ≡ Found) × (holds_at a n p ≡ true) × ((x : Summary) × (known a n ≡ Kept x))). absurd (found_isnt_kept (known b n) gone.2.0 was.0 gone.2.1))
        (f.states n))
        (g.states n)

    pub gives_on : GivesUp p (λ n. first n ⊎ second n) a c
    gives_on = record {
      lines = g.lines ∙ f.lines;
      keys = g.keys ∙ f.keys;
      states = states_on;
      given = λ n x h is. ⊎_elim
          (λ (one : first n). f.given n x one (was_kept n x is))
          (λ (two : second n). sym (same_holds a b n f.lines f.keys) ∙ g.given n x two is)
          h;
    }

  -- the summary of one number is given up
  pub gives_one : (a b : Table) (number : ℕ) (x : Summary) → b.lines ≡ a.lines → b.keys.keys ≡ a.keys.keys → ((n : ℕ) → known b n ≡ cond (eqb n number) Found (known a n)) → known a number ≡ Kept x
      → holds_at a number p ≡ true → GivesUp p (λ n. n ≡ number) a b
  gives_one a b number x lines keys set is holds = record {
    lines = lines;
    keys = keys;
    states = λ n. by n (eqb n number) refl;
    given = λ n y same here. absurd (found_isnt_kept (known b n) y (set n ∙ ap (λ t. cond t Found (known a n)) (own n same)) here);
  }
    where
      own : (n : ℕ) → n ≡ number → eqb n number ≡ true
      own n same = eq-eqb n number same

      by : (n : ℕ) (t : Bool) → eqb n number ≡ t → (known b n ≡ known a n) ⊎ ((known b n ≡ Found) × (holds_at a n p ≡ true) × ((y : Summary) × (known a n ≡ Kept y)))
      by n true e =
          let same : n ≡ number = eqb-true n number e in
          inr (set n ∙ ap (λ t. cond t Found (known a n)) e, ap (λ k. holds_at a k p) same ∙ holds, (x, ap (known a) same ∙ is))
      by n false e = inl (set n ∙ ap (λ t. cond t Found (known a n)) e)

  -- or isn't, where the block doesn't hold the place, or none is kept
  pub gives_not : (a : Table) (number : ℕ) → ((x : Summary) → known a number ≡ Kept x → holds_at a number p ≡ false) → GivesUp p (λ n. n ≡ number) a a
  gives_not a number apart = record {
    lines = refl;
    keys = refl;
    states = λ n. inl refl;
    given = λ n x same is. ap (λ k. holds_at a k p) same ∙ apart x (ap (known a) (sym same) ∙ is);
  }

  -- ---- all that the cell finds

  module _ (old new : Table) (files : Files) (stand : AllStand old) (found : AreFound old files) (g : GivesUp p (λ n. finds_at files.cells (spot_of old.lines p) n ≡ true) old new) where
    is_found_before : (n : ℕ) → is_found (known new n) ≡ true → is_found (known old n) ≡ true
    is_found_before n h = ⊎_elim
        (λ (same : known new n ≡ known old n). subst (λ st. is_found st ≡ true) same h)
        (λ (gone : (known new n ≡ Found) × (holds_at old n p ≡ true) × ((x : Summary) × (known old n ≡ Kept x))). kept_is_found (known old n) gone.2.0 gone.2.1)
        (g.states n)

    under_new : (n : ℕ) (b : Block) → IsUnder old n b → IsUnder new n b
    under_new n b under = ap (λ ks. slice_get ks n) g.keys ∙ under ∙ ap (λ l. Some (area_of l b)) (sym g.lines)

    under_old : (n : ℕ) (b : Block) → IsUnder new n b → IsUnder old n b
    under_old n b under = ap (λ ks. slice_get ks n) (sym g.keys) ∙ under ∙ ap (λ l. Some (area_of l b)) g.lines

    each : (n : ℕ) → is_found (known new n) ≡ true → (b : Block) × IsKnownBlock new files n b
    each n h =
        let (b, (under, inside, finds)) = known_block old files stand found n (is_found_before n h) in
        (b, (under_new n b under, inside, subst (λ l. Finds files l b n) (sym g.lines) finds))

    pub stand_given : AllStand new
    stand_given = all_stand new files each

    pub found_given : AreFound new files
    found_given = all_found new files each

    kept_old : (n : ℕ) (x : Summary) → known new n ≡ Kept x → known old n ≡ Kept x
    kept_old n x is = ⊎_elim
        (λ (same : known new n ≡ known old n). sym same ∙ is)
        (λ (gone : (known new n ≡ Found) × (holds_at old n p ≡ true) × ((y : Summary) × (known old n ≡ Kept y))). absurd (found_isnt_kept (known new n) x gone.0 is))
        (g.states n)

    pub bounded_given : AreBounded old → AreBounded new
    bounded_given bounded n x is = bounded n x (kept_old n x is)

    holds_its : (n : ℕ) (b : Block) → IsUnder old n b → is_found (known old n) ≡ true → holds_at old n p ≡ covers b p
    holds_its n b under h =
        let (c, (there, inside, finds)) = known_block old files stand found n h in
        let same : c ≡ b = one_block old.lines c b (same_Some (area_of old.lines c) (area_of old.lines b) (sym there ∙ under)) in
        ap (λ o. holds_place o p) (stands_there old.lines old.keys.keys n b (subst IsBlockInside same inside) under)

    finds_its : (n : ℕ) (b : Block) → IsUnder old n b → is_found (known old n) ≡ true → covers b p ≡ true → finds_at files.cells (spot_of old.lines p) n ≡ true
    finds_its n b under h covered =
        let (c, (there, inside, finds)) = known_block old files stand found n h in
        let same : c ≡ b = one_block old.lines c b (same_Some (area_of old.lines c) (area_of old.lines b) (sym there ∙ under)) in
        finds.cells p (ap (λ x. covers x p) same ∙ covered)

    uncovered : (n : ℕ) (b : Block) (x : Summary) → IsUnder old n b → known new n ≡ Kept x → covers b p ≡ false
    uncovered n b x under is = by (covers b p) refl
      where
        there : is_found (known old n) ≡ true
        there = kept_is_found (known old n) x (kept_old n x is)

        by : (t : Bool) → covers b p ≡ t → covers b p ≡ false
        by true e = sym (holds_its n b under there) ∙ g.given n x (finds_its n b under there e) is
        by false e = e

    without : (b : Block) → get (without_holders p (map_in old)) b ≡ cond (not (covers b p)) (get (map_in old) b) None
    without b = get-retain_keys (map_in old) (λ c. not (covers c p)) b (λ x tied. ap (λ c. not (covers c p)) (sym (block_cmp-IsAntisymmetric b x tied)))

    left_by : (t : Bool) (r : Option Summary) (x : Summary) → cond (not t) r None ≡ Some x → (t ≡ false) × (r ≡ Some x)
    left_by true r x h = absurd (cc)
    left_by false r x h = (refl, h)

    pub map_given : map_in new ≡ without_holders p (map_in old)
    map_given = same_maps (map_in new) (without_holders p (map_in old)) forth back
      where
        forth : (b : Block) (x : Summary) → get (map_in new) b ≡ Some x → get (without_holders p (map_in old)) b ≡ Some x
        forth b x e =
            let (n, (under, is)) = map_has new b x e in
            let was = under_old n b under in
            without b ∙ ap (λ t. cond (not t) (get (map_in old) b) None) (uncovered n b x was is) ∙ has_kept old files stand found n b x (was, kept_old n x is)

        back : (b : Block) (x : Summary) → get (without_holders p (map_in old)) b ≡ Some x → get (map_in new) b ≡ Some x
        back b x e =
            let (apart, had) = left_by (covers b p) (get (map_in old) b) x (sym (without b) ∙ e) in
            let (n, (under, is)) = map_has old b x had in
            ⊎_elim
            (λ (same : known new n ≡ known old n). has_kept new files stand_given found_given n b x (under_new n b under, same ∙ is))
            (λ (gone : (known new n ≡ Found) × (holds_at old n p ≡ true) × ((y : Summary) × (known old n ≡ Kept y))).
            absurd (false≢true (sym apart ∙ (sym (holds_its n b under (kept_is_found (known old n) x is)) ∙ gone.1))))
            (g.states n)

  -- ---- one number after another

  module _ (a b c : Table) where
    pub given_next : (numbers : List ℕ) (i : ℕ) → i < length numbers → GivesUp p (λ n. has n (take i numbers) ≡ true) a b → GivesUp p (λ n. n ≡ get_or numbers i 0) b c → GivesUp p (λ n. has n (take (i + 1) numbers) ≡ true) a c
    given_next numbers i inside f g =
        gives_fewer (λ n. (has n (take i numbers) ≡ true) ⊎ (n ≡ get_or numbers i 0)) (λ n. has n (take (i + 1) numbers) ≡ true) a c (λ n h. ⊎_elim
        (λ (before : has n (take i numbers) ≡ true). inl before)
        (λ (at : eqb (get_or numbers i 0) n ≡ true). inr (sym (eqb-true (get_or numbers i 0) n at)))
        (or_cases (has n (take i numbers)) (eqb (get_or numbers i 0) n) (sym (list_any_more (λ k. eqb k n) numbers i 0 inside) ∙ h)))
        (gives_on (λ n. has n (take i numbers) ≡ true) (λ n. n ≡ get_or numbers i 0) a b c f g)

    pub slots_next : (filed : ℕ → List ℕ) (slots : List ℕ) (i : ℕ) → i < length slots → GivesUp p (λ n. list_any (λ s. has n (filed s)) (take i slots) ≡ true) a b → GivesUp p (λ n. has n (filed (get_or slots i 0)) ≡ true) b c
        → GivesUp p (λ n. list_any (λ s. has n (filed s)) (take (i + 1) slots) ≡ true) a c
    slots_next filed slots i inside f g =
        gives_fewer (λ n. (list_any (λ s. has n (filed s)) (take i slots) ≡ true) ⊎ (has n (filed (get_or slots i 0)) ≡ true)) (λ n. list_any (λ s. has n (filed s)) (take (i + 1) slots) ≡ true) a c
        (λ n h. or_cases (list_any (λ s. has n (filed s)) (take i slots)) (has n (filed (get_or slots i 0))) (sym (list_any_more (λ s. has n (filed s)) slots i 0 inside) ∙ h))
        (gives_on (λ n. list_any (λ s. has n (filed s)) (take i slots) ≡ true) (λ n. has n (filed (get_or slots i 0)) ≡ true) a b c f g)

    pub below_next : (k : ℕ) → GivesUp p (λ n. n < k) a b → GivesUp p (λ n. n ≡ k) b c → GivesUp p (λ n. n < k + 1) a c
    below_next k f g =
        gives_fewer (λ n. (n < k) ⊎ (n ≡ k)) (λ n. n < k + 1) a c (λ n low. ⊎_elim
        (λ (below : n < k). inl below)
        (λ (past : k ≤ n). inr (omega (arith, past, low)))
        (cases_lt n k))
        (gives_on (λ n. n < k) (λ n. n ≡ k) a b c f g)

  -- where all were looked at
  pub gives_all : (among : ℕ → Type 0) (a b : Table) → GivesUp p (λ n. n < length a.states.items) a b → GivesUp p among a b
  gives_all among a b g = record {
    lines = g.lines;
    keys = g.keys;
    states = g.states;
    given = λ n x h is. g.given n x (low a.states.items n x (was n x is)) is;
  }
    where
      was : (n : ℕ) (x : Summary) → known b n ≡ Kept x → known a n ≡ Kept x
      was n x is = ⊎_elim
          (λ (same : known b n ≡ known a n). sym same ∙ is)
          (λ (gone : (known b n ≡ Found) × (holds_at a n p ≡ true) × ((y : Summary) × (known a n ≡ Kept y))). absurd (found_isnt_kept (known b n) x gone.0 is))
          (g.states n)

      low : (states : List State) (n : ℕ) (x : Summary) → state_at states n ≡ Kept x → n < length states
      low [] n x e = absurd (cc)
      low (st ∷ states) zero x e = omega arith
      low (st ∷ states) (suc n) x e = omega (arith, low states n x e)
