-- That what is in use stands from the base on, and a session whose line begins at the base. Serves settling.
use Rattle.std.proofs.Common.{Bor, IsSome, IfSome, cond, filter, length, get_or, take, drop, max, ◌+◌, ◌≡◌, ◌≢◌, ◌∙◌, sym, ap, subst, refl, arith, inl, inr, ℕ, ◌<◌, ◌≤◌, Bool, true, false, true≢false, ◌||◌, ◌&&◌, ◌⊎◌, List, [], ◌∷◌, ◌++◌, map, reverse, Option, Some, None, Result, Ok, Err, is_some, if◌then◌else◌}
use Rattle.std.proofs.lemmas.Bool.{cases_lt, eqb-true}
use Rattle.std.proofs.lemmas.Bool.Decides.{nat_tests}
use Rattle.std.proofs.lemmas.List.{drop_all, drop_more, map-append, reverse-append, take_all}
use Rattle.std.proofs.lemmas.Option.{none-some, same_Some}
use Rattle.std.specs.HashSet.{HashSet, contains}
use Rattle.std.specs.Prelude.{nat_eq, nat_le, OnErr, OnOk, option_and_then, option_map, slice_get, unwrap_or}
use Rattle.lazy_store.proofs.Lines.{is-forgotten}
use Rattle.lazy_store.proofs.Reaching.{at-has}
use Rattle.lazy_store.specs.Kept.{Kept, at}
use Rattle.lazy_store.specs.Store.{CanGoOn, GoOnTo, KeepsBehind, KeepsFrom, StandsAsBefore, StandsFrom, at_in, kept_in, position_in, stored_in}
use Rattle.lazy_store.specs.declared.lazy.Lazy.{Lazy}
use Rattle.name_table.specs.Named.{names_of, words_of}
use Rattle.shift_core.specs.declared.shift.Shift.{Shift}
use Rattle.shift_line.specs.Track.{Track, forgotten, last, pushed, shift_at, with_spare}
use Rattle.undo_book.specs.History.{History}
use Rattle.kept_book.specs.Change.{Change, forth}
use Rattle.kept_book.specs.Frame.{Frame}
use Rattle.formula_tree.specs.Term.{Term}
use Rattle.formula_tree.specs.declared.reference.Home.{Home}
use Rattle.formula_tree.specs.declared.reference.Ref.{Ref}
use Rattle.grid_store.specs.Grid.{cells_of}
use Rattle.name_table.specs.Listed as names_listed
use Rattle.kept_book.specs.Kept.{SameBook, frame_of}
use Rattle.kept_book.specs.Walk.{back_all, forth_all}
use Rattle.kept_book.specs.declared.book.Book.{Book}
use Rattle.kept_steps.specs.Fits.{AreSteps, Fits, changes_in, open_changes, session_of, start_of, steps_of}
use Rattle.kept_steps.specs.InUse.{AheadHas, HasAny, HasFormula, HereHas, OnHas, PastHas}
use Rattle.kept_steps.specs.Kept.{ComeToBase, GoesOn, KeepsAtShift, KeepsFromBase}
use Rattle.kept_steps.specs.Session.{base_of, line_settled, settles}
use Rattle.kept_steps.specs.Steps.{AllLeadOn, AllLedHere, AreAhead, ArePast, AreWholeHere, AreWholeOn, oldest}
use Rattle.kept_steps.specs.Timeline.{Agree, StandIn, Timeline, timeline_of}
use Rattle.kept_steps.specs.declared.entry.Entry.{Entry}
use Rattle.kept_steps.specs.declared.session.Session.{Session}
use Rattle.kept_steps.specs.internal.Listed.{first_from, goes_on, has, is_from, rests_on}
use Rattle.kept_steps.proofs.Agreeing.{oldest_first, standing_of, standing_under}
use Rattle.kept_steps.proofs.Outcomes.{same_batch, unchanged, upto_last}
use Rattle.kept_steps.proofs.Sessions.{any_formula, stays_in_use}
use Rattle.kept_steps.proofs.Swept.{kept-where, swept}
use Rattle.kept_steps.proofs.Walks.{earlier, further}

-- ---- the base

position-back : (t : Timeline) (cs : List Change) (f : Frame) → (back_all t.line cs f).position ≡ unwrap_or (first_from cs) f.position
position-back t [] f = refl
position-back t (c ∷ cs) f = refl

oldest-end : (t : Timeline) (f : Frame) (es : List (List Change)) (e : List Change) → oldest t f (es ++ e ∷ []) ≡ back_all t.line e (oldest t f es)
oldest-end t f [] e = refl
oldest-end t f (d ∷ es) e = oldest-end t (back_all t.line d f) es e

steps-front : (es : List Entry) (e : Entry) → steps_of (e ∷ es) ≡ steps_of es ++ changes_in e ∷ []
steps-front es e = ap (map changes_in) (reverse-append (e ∷ []) es) ∙ map-append changes_in (reverse es) (e ∷ [])

pub rests-on : (t : Timeline) (f : Frame) (es : List Entry) → (oldest t f (steps_of es)).position ≡ rests_on es f.position
rests-on t f [] = refl
rests-on t f (e ∷ es) =
    ap (λ l. (oldest t f l).position) (steps-front es e) ∙ ap (λ (x : Frame). x.position) (oldest-end t f (steps_of es) (changes_in e)) ∙ position-back t (changes_in e) (oldest t f (steps_of es))
    ∙ ap (unwrap_or (first_from (changes_in e))) (rests-on t f es)

pub rests-open : (t : Timeline) (batch : Option Entry) (f : Frame) → (start_of t batch f).position ≡ unwrap_or (first_from (open_changes batch)) f.position
rests-open t batch f = position-back t (open_changes batch) f

-- by the entries of the steps alone
pub base-is : (t : Timeline) (f : Frame) (h : History Entry) (b : Option Entry) → (oldest t (start_of t b f) (steps_of h.done)).position ≡ rests_on h.done (unwrap_or (first_from (open_changes b)) f.position)
base-is t f h b = rests-on t (start_of t b f) h.done ∙ ap (rests_on h.done) (rests-open t b f)

-- as a loop finds it: a step with a part begins with that one, where those before have none
pub base-found : (t : Timeline) (f : Frame) (es : List Entry) (i : ℕ) (r : Option (Bor Entry)) (begin : Option ℕ) (from : ℕ) → IsSome r → IfSome r (λ x. x.now ≡ get_or es i x.now) → i < length es → IfSome r (λ e. begin ≡ first_from (changes_in e.now))
    → begin ≡ Some from → rests_on (drop i es) f.position ≡ rests_on es f.position → from ≡ (oldest t f (steps_of es)).position
base-found t f es i None begin from some at l first is left = absurd (cc)
base-found t f es i (Some x) begin from some at l first is left =
    let rest = rests_on (drop (i + 1) es) f.position in
    ap (λ o. unwrap_or o rest) (sym is ∙ first) ∙ ap (λ e. unwrap_or (first_from (changes_in e)) rest) at ∙ ap (λ l. rests_on l f.position) (sym (drop_more es i x.now l)) ∙ left ∙ sym (rests-on t f es)

pub base-past : (t : Timeline) (f : Frame) (es : List Entry) (i : ℕ) → length es ≤ i → rests_on (drop i es) f.position ≡ rests_on es f.position → f.position ≡ (oldest t f (steps_of es)).position
base-past t f es i l left = ap (λ l. rests_on l f.position) (sym (drop_all i es l)) ∙ left ∙ sym (rests-on t f es)

-- the base isn't behind the cursor
pub base-cursor : (t : Timeline) (first end : ℕ) (f : Frame) (h : History Entry) (b : Option Entry) → AreSteps t first end f h b → (oldest t (start_of t b f) (steps_of h.done)).position ≤ f.position
base-cursor t first end f h b fits =
    let behind = oldest_first t (start_of t b f) (steps_of h.done) fits.past in
    let upto = earlier t (open_changes b) f fits.led in
    omega (arith, behind, upto)

-- ---- what is in use stands

module _ (t : Timeline) (id : ℕ) where
  stands-there : (f : Frame) → StandIn t f → HasFormula f id → t.at id f.position ≢ None
  stands-there f s (inl h) none = let x = standing_under (t.at id f.position) h.0 (s.cells h.0 id h.1) in none-some x.0 (sym none ∙ x.1)
  stands-there f s (inr h) none = let x = standing_of (t.at id f.position) _ (s.names h.0 id h.1).home in none-some x.0 (sym none ∙ x.1)

  here-stands : (cs : List Change) (f : Frame) → AllLedHere t cs f → AreWholeHere t cs f → HereHas t cs f id → (j : ℕ) × ((back_all t.line cs f).position ≤ j) × (t.at id j ≢ None)
  here-stands [] f led whole h = let e : f.position ≤ f.position = omega arith in (f.position, e, stands-there f whole.stand h)
  here-stands (c ∷ cs) f led whole (inl h) =
      let rest = here-stands cs f led.0 whole.0 h in
      let low = rest.1 in
      let to : c.to ≡ (back_all t.line cs f).position = led.1.same.position in
      let order = led.1.order in
      (rest.0, omega (arith, low, to, order), rest.2)
  here-stands (c ∷ cs) f led whole (inr h) = let e : c.from ≤ c.from = omega arith in (c.from, e, stands-there (back_all t.line (c ∷ cs) f) whole.1.stand h)

  on-stands : (cs : List Change) (f : Frame) → AllLeadOn t cs f → AreWholeOn t cs f → OnHas t cs f id → (j : ℕ) × (f.position ≤ j) × (t.at id j ≢ None)
  on-stands [] f lead whole h = let e : f.position ≤ f.position = omega arith in (f.position, e, stands-there f whole.stand h)
  on-stands (c ∷ cs) f lead whole (inl h) = let e : f.position ≤ f.position = omega arith in (f.position, e, stands-there f whole.0.stand h)
  on-stands (c ∷ cs) f lead whole (inr h) =
      let rest = on-stands cs (forth t.line c f) lead.1 whole.1 h in
      let low : c.to ≤ rest.0 = rest.1 in
      let from : c.from ≡ f.position = lead.0.same.position in
      let order = lead.0.order in
      (rest.0, omega (arith, low, from, order), rest.2)

  past-stands : (es : List (List Change)) (f : Frame) → ArePast t f es → PastHas t f es id → (j : ℕ) × ((oldest t f es).position ≤ j) × (t.at id j ≢ None)
  past-stands [] f past h = absurd h
  past-stands (e ∷ es) f past (inl h) =
      let found = here-stands e f past.0 past.1 h in
      let low = found.1 in
      let behind = oldest_first t (back_all t.line e f) es past.2 in
      (found.0, omega (arith, low, behind), found.2)
  past-stands (e ∷ es) f past (inr h) = past-stands es (back_all t.line e f) past.2 h

  ahead-stands : (es : List (List Change)) (f : Frame) (low : ℕ) → low ≤ f.position → AreAhead t f es → AheadHas t f es id → (j : ℕ) × (low ≤ j) × (t.at id j ≢ None)
  ahead-stands [] f low under ahead h = absurd h
  ahead-stands (e ∷ es) f low under ahead (inl h) =
      let found = on-stands e f ahead.0 ahead.1 h in let on = found.1 in (found.0, omega (arith, under, on), found.2)
  ahead-stands (e ∷ es) f low under ahead (inr h) =
      let g = forth_all t.line e f in let on = further t e f ahead.0 in let from : low ≤ g.position = omega (arith, under, on) in ahead-stands es g low from ahead.2 h

  pub in-use-stands : (first end : ℕ) (f : Frame) (h : History Entry) (b : Option Entry) → AreSteps t first end f h b → HasAny t f h b id → (j : ℕ) × ((oldest t (start_of t b f) (steps_of h.done)).position ≤ j) × (t.at id j ≢ None)
  in-use-stands first end f h b fits used = by used
    where
      x : Frame
      x = start_of t b f

      behind : (oldest t x (steps_of h.done)).position ≤ x.position
      behind = oldest_first t x (steps_of h.done) fits.past

      now : (oldest t x (steps_of h.done)).position ≤ f.position
      now = let upto = earlier t (open_changes b) f fits.led in omega (arith, behind, upto)

      by : HasAny t f h b id → (j : ℕ) × ((oldest t x (steps_of h.done)).position ≤ j) × (t.at id j ≢ None)
      by (inl y) =
          let found = here-stands (open_changes b) f fits.led fits.whole y in
          let low : x.position ≤ found.0 = found.1 in
          (found.0, omega (arith, low, behind), found.2)
      by (inr (inl y)) = past-stands (steps_of h.done) x fits.past y
      by (inr (inr y)) = ahead-stands (steps_of h.undone) f (oldest t x (steps_of h.done)).position now fits.ahead y

-- ---- formulas that can be taken to a position

some-is : {X : Type 0} (o : Option X) → o ≢ None → is_some o ≡ true
some-is None some = absurd (some refl)
some-is (Some x) some = refl

is-some : {X : Type 0} (o : Option X) → is_some o ≡ true → o ≢ None
is-some None e none = absurd (true≢false (sym e))
is-some (Some x) e none = none-some x (sym none)

or-second : (a b : Bool) → b ≡ true → (a || b) ≡ true
or-second true b e = refl
or-second false b e = e

or-only : (a b : Bool) → a ≡ false → (a || b) ≡ true → b ≡ true
or-only true b e h = absurd (true≢false e)
or-only false b e h = h

le-true : (k p : ℕ) → k ≤ p → nat_le k p ≡ true
le-true k p l = grind (arith, nat_tests)

le-false : (k p : ℕ) → p < k → nat_le k p ≡ false
le-false k p l = grind (arith, nat_tests)

-- one that stands at the position or later on
pub goes-on : (store : Lazy) (k j id : ℕ) → k ≤ j → at_in store id j ≢ None → goes_on store k id ≡ true
goes-on store k j id up some = by (kept_in store id) some
  where
    each : (h : Kept) → at store.line h j ≢ None → (h.position < k) ⊎ (k ≤ h.position) → (is_from k (Some h.position) || is_some (at store.line h k)) ≡ true
    each h there (inl under) = or-second (nat_le k h.position) (is_some (at store.line h k)) (some-is (at store.line h k) (at-has store.line h k j (omega (arith, under)) up there))
    each h there (inr from) = ap (λ b. b || is_some (at store.line h k)) (le-true k h.position from)

    by : (o : Option Kept) → option_and_then (λ h. at store.line h j) o ≢ None → (is_from k (option_map (λ h. h.position) o) || is_some (option_and_then (λ h. at store.line h k) o)) ≡ true
    by None there = absurd (there refl)
    by (Some h) there = each h there (cases_lt h.position k)

-- where only those are kept that go on, all can
module _ {S T : Type 0} (old mid : Lazy) (listed : HashSet ℕ S) (ids : HashSet ℕ T) (k : ℕ) (are : (id : ℕ) → contains nat_eq ids id ≡ (contains nat_eq listed id && goes_on old k id))
    (kept : (id : ℕ) → kept_in mid id ≡ (if contains nat_eq ids id then kept_in old id else None)) where
  pub listed-stay : (id : ℕ) → contains nat_eq listed id ≡ true → goes_on old k id ≡ true → contains nat_eq ids id ≡ true
  listed-stay id there on = are id ∙ ap (λ b. b && goes_on old k id) there ∙ on

  pub can-go-on : mid.line ≡ old.line → CanGoOn k mid
  can-go-on line id h is under none = by (contains nat_eq ids id) refl (sym (kept id) ∙ is)
    where
      second : (a b : Bool) → (a && b) ≡ true → b ≡ true
      second true b e = e
      second false b e = absurd (true≢false (sym e))

      by : (b : Bool) → contains nat_eq ids id ≡ b → (if b then kept_in old id else None) ≡ Some h → ⊥
      by false dropped e = absurd (none-some h e)
      by true stays e =
          let on : goes_on old k id ≡ true = second (contains nat_eq listed id) (goes_on old k id) (sym (are id) ∙ stays) in
          let here : (is_from k (Some h.position) || is_some (at old.line h k)) ≡ true = sym (ap (λ o. is_from k (option_map (λ (g : Kept). g.position) o) || is_some (option_and_then (λ g. at old.line g k) o)) e) ∙ on in
          is-some (at old.line h k) (or-only (nat_le k h.position) (is_some (at old.line h k)) (le-false k h.position under) here) (ap (λ l. at l h k) (sym line) ∙ none)

-- ids that pass a test
has-filter : (p : ℕ → Bool) (xs : List ℕ) (id : ℕ) → has (filter p xs) id ≡ (has xs id && p id)
has-filter p [] id = refl
has-filter p (x ∷ xs) id = by (p x) (nat_eq id x) refl refl (has-filter p xs id)
  where
    same : (b : Bool) → nat_eq id x ≡ true → p x ≡ b → p id ≡ b
    same b e is = ap p (eqb-true id x e) ∙ is

    by : (keeps here : Bool) → p x ≡ keeps → nat_eq id x ≡ here → has (filter p xs) id ≡ (has xs id && p id) → has (cond keeps (x ∷ filter p xs) (filter p xs)) id ≡ ((here || has xs id) && p id)
    by true true k e rest = ap (λ b. b || has (filter p xs) id) e ∙ sym (same true e k)
    by true false k e rest = ap (λ b. b || has (filter p xs) id) e ∙ rest
    by false true k e rest = rest ∙ ap (λ b. has xs id && b) (same false e k) ∙ none (has xs id) ∙ sym (same false e k)
      where
        none : (a : Bool) → (a && false) ≡ false
        none true = refl
        none false = refl
    by false false k e rest = rest

pub filtered-all : {S T : Type 0} (p : ℕ → Bool) (listed : HashSet ℕ S) (items : List ℕ) (i : ℕ) (ids : HashSet ℕ T) → items ≡ listed.keys → length items ≤ i → ((id : ℕ) → contains nat_eq ids id ≡ has (filter p (take i items)) id)
    → (id : ℕ) → contains nat_eq ids id ≡ (contains nat_eq listed id && p id)
filtered-all p listed items i ids are l all id = all id ∙ ap (λ xs. has (filter p xs) id) (take_all i items l ∙ are) ∙ has-filter p listed.keys id

-- ---- what is in use is kept through the sweep before

module _ {S T : Type 0} (old mid : Book) (h : History Entry) (b : Option Entry) (fits : Fits old h b) (listed : HashSet ℕ S) (ids : HashSet ℕ T) (k : ℕ) (base : k ≡ (oldest (timeline_of old) (start_of (timeline_of old) b (frame_of old)) (steps_of h.done)).position)
    (in_use : (id : ℕ) → HasAny (timeline_of old) (frame_of old) h b id → contains nat_eq listed id ≡ true) (are : (id : ℕ) → contains nat_eq ids id ≡ (contains nat_eq listed id && goes_on old.lazy k id))
    (kept : (id : ℕ) → kept_in mid.lazy id ≡ (if contains nat_eq ids id then kept_in old.lazy id else None)) where
  pub kept-in-use : (id : ℕ) → HasAny (timeline_of old) (frame_of old) h b id → kept_in mid.lazy id ≡ kept_in old.lazy id
  kept-in-use id used =
      let stands = in-use-stands (timeline_of old) id old.lazy.line.first (last old.lazy.line) (frame_of old) h b fits used in
      let up : k ≤ stands.0 = let low = stands.1 in omega (arith, base, low) in
      kept-where old.lazy mid.lazy (contains nat_eq ids) kept id (listed-stay old.lazy mid.lazy listed ids k are kept id (in_use id used) (goes-on old.lazy k stands.0 id up stands.2))

  -- what a settling leaves of it
  module _ (new : Lazy) where
    pub stored-from : KeepsFrom k mid.lazy new → (id : ℕ) (g : Kept) → HasAny (timeline_of old) (frame_of old) h b id → kept_in old.lazy id ≡ Some g → k ≤ g.position → stored_in new id ≡ stored_in old.lazy id
    stored-from keeps id g used is from =
        keeps id g (kept-in-use id used ∙ is) from ∙ ap (option_map (λ (x : Kept). (x.position, (x.home, x.tree)))) (kept-in-use id used)

    pub comes-to : GoOnTo k mid.lazy new → (id : ℕ) (g : Kept) → HasAny (timeline_of old) (frame_of old) h b id → kept_in old.lazy id ≡ Some g → g.position < k → position_in new id ≡ Some k
    comes-to goes id g used is under =
        let there : max k g.position ≡ k = omega (arith, under) in
        goes id ∙ ap (λ o. option_map (max k) (option_map (λ (x : Kept). x.position) o)) (kept-in-use id used ∙ is) ∙ ap Some there

-- ---- a line that begins at the base

module _ (old new : Book) (h : History Entry) (b : Option Entry) (s : Bool) (n k : ℕ) (fits : Fits old h b) (base : k ≡ rests_on h.done (unwrap_or (first_from (open_changes b)) (frame_of old).position))
    (within : k ≤ last old.lazy.line) (standings : StandsFrom k old.lazy new.lazy) (line : new.lazy.line ≡ with_spare new.lazy.line.spare (forgotten k old.lazy.line)) (frame : frame_of new ≡ frame_of old) (names : new.names ≡ old.names) where
  oldest-is : k ≡ (oldest (timeline_of old) (start_of (timeline_of old) b (frame_of old)) (steps_of h.done)).position
  oldest-is = base ∙ sym (base-is (timeline_of old) (frame_of old) h b)

  first : old.lazy.line.first ≤ k
  first = let low = fits.base in omega (arith, low, oldest-is)

  agree : (high : ℕ) → Agree any_formula k high (timeline_of old) (timeline_of new)
  agree high = record {
    line = λ j from l. ap (λ t. shift_at t j) line ∙ (is-forgotten new.lazy.line.spare k old.lazy.line first within).from j from;
    at = λ id j x any from l e. standings.at id j from ∙ e;
    words = λ i w e. ap (λ x. slice_get (words_of x) i) names ∙ e;
  }

  pub settled : Fits new h b × (session_of (timeline_of new) (frame_of new) h b s n ≡ session_of (timeline_of old) (frame_of old) h b s n)
  settled =
      let f = frame_of old in
      let u = timeline_of new in
      let from : k ≤ (oldest (timeline_of old) (start_of (timeline_of old) b f) (steps_of h.done)).position = omega (arith, oldest-is) in
      let after = stays_in_use any_formula k (timeline_of old) u old.lazy.line.first k (last old.lazy.line) f h b b s n agree fits (λ id x. tt) from from (same_batch b) in
      let begins : k ≡ new.lazy.line.first = sym (ap (λ t. t.first) line) in
      let end : last old.lazy.line ≡ last new.lazy.line = sym (ap last line ∙ (is-forgotten new.lazy.line.spare k old.lazy.line first within).end) in (
        subst (λ g. AreSteps u new.lazy.line.first (last new.lazy.line) g h b) (sym frame)
            (subst (λ j. AreSteps u new.lazy.line.first j f h b) end (subst (λ j. AreSteps u j (last old.lazy.line) f h b) begins after.0)),
        ap (λ g. session_of u g h b s n) frame ∙ after.1,
      )

-- what was wanted of a settling for which there was no memory
module _ (old new : Book) (h : History Entry) (b : Option Entry) (s : Bool) (n : ℕ) (fits : Fits old h b) (standings : StandsAsBefore old.lazy new.lazy) (line : new.lazy.line ≡ old.lazy.line) (grid : new.grid ≡ old.grid) (names : new.names ≡ old.names) where
  same-book : SameBook old new
  same-book = record {
    frame = λ i. record { position = (line i).cursor; cells = cells_of (grid i); sheets = names_listed.listed (names i); names = names_of (names i) };
    line = λ i. record { shifts = (line i).shifts; first = (line i).first; cursor = (line i).cursor; spare = new.lazy.line.spare };
    standings = standings.at;
    known = λ i w e. ap (λ x. slice_get (words_of x) i) names ∙ e;
  }

  pub settled-err : Fits new h b × (session_of (timeline_of new) (frame_of new) h b s n ≡ session_of (timeline_of old) (frame_of old) h b s n)
  settled-err = unchanged old new h b b s n fits same-book (same_batch b)

-- the frame where the line has another beginning
pub frame-kept : (old new : Book) → new.lazy.line.cursor ≡ old.lazy.line.cursor → new.grid ≡ old.grid → new.names ≡ old.names → frame_of new ≡ frame_of old
frame-kept old new cursor grid names = λ i. record { position = cursor i; cells = cells_of (grid i); sheets = names_listed.listed (names i); names = names_of (names i) }

-- a sweep and a settling, whether there was memory or not
module _ {S T : Type 0} (old mid new : Book) (h : History Entry) (b : Option Entry) (s : Bool) (n : ℕ) (fits : Fits old h b) (listed : HashSet ℕ S) (ids : HashSet ℕ T) (k : ℕ) (base : k ≡ (oldest (timeline_of old) (start_of (timeline_of old) b (frame_of old)) (steps_of h.done)).position)
    (in_use : (id : ℕ) → HasAny (timeline_of old) (frame_of old) h b id → contains nat_eq listed id ≡ true) (are : (id : ℕ) → contains nat_eq ids id ≡ (contains nat_eq listed id && goes_on old.lazy k id))
    (kept : (id : ℕ) → kept_in mid.lazy id ≡ (if contains nat_eq ids id then kept_in old.lazy id else None)) (line : mid.lazy.line ≡ old.lazy.line) (frame : frame_of mid ≡ frame_of old) (names : mid.names ≡ old.names) where
  between : Fits mid h b × (session_of (timeline_of mid) (frame_of mid) h b s n ≡ session_of (timeline_of old) (frame_of old) h b s n)
  between = swept old mid h b s n fits (kept-in-use old mid h b fits listed ids k base in_use are kept) line frame names

  within-last : k ≤ last mid.lazy.line
  within-last =
      let upto = base-cursor (timeline_of old) old.lazy.line.first (last old.lazy.line) (frame_of old) h b fits in
      let end = upto_last old h b fits in
      let same : last mid.lazy.line ≡ last old.lazy.line = ap last line in
      omega (arith, upto, end, same, base)

  rests : k ≡ rests_on h.done (unwrap_or (first_from (open_changes b)) (frame_of mid).position)
  rests = base ∙ base-is (timeline_of old) (frame_of old) h b ∙ ap (λ f. rests_on h.done (unwrap_or (first_from (open_changes b)) f.position)) (sym frame)

  pub settling : {X E : Type 0} (r : Result X E) → OnOk r (new.lazy.line ≡ with_spare new.lazy.line.spare (forgotten k mid.lazy.line)) → OnOk r (StandsFrom k mid.lazy new.lazy) → OnErr r (new.lazy.line ≡ mid.lazy.line) → OnErr r (StandsAsBefore mid.lazy new.lazy)
      → new.grid ≡ mid.grid → new.names ≡ mid.names → Fits new h b × (session_of (timeline_of new) (frame_of new) h b s n ≡ session_of (timeline_of old) (frame_of old) h b s n)
  settling (Ok x) ok standings err same grid same_names =
      let cursor : new.lazy.line.cursor ≡ mid.lazy.line.cursor = ap (λ l. l.cursor) ok in
      let after = settled mid new h b s n k between.0 rests within-last standings ok (frame-kept mid new cursor grid same_names) same_names in
      (after.0, after.1 ∙ between.1)
  settling (Err e) ok standings err same grid same_names =
      let after = settled-err mid new h b s n between.0 same err grid same_names in
      (after.0, after.1 ∙ between.1)

-- ---- an operation behind a settling

abbrev stored_parts : Kept → ℕ × (Home × Term Ref)
stored_parts h = (h.position, (h.home, h.tree))

settled-cursor : (b : Bool) (k : ℕ) (line : Track) → (if b then forgotten k line else line).cursor ≡ line.cursor
settled-cursor true k line = refl
settled-cursor false k line = refl

module _ (old mid : Session) (new : Lazy) (behind : KeepsBehind mid.book.lazy.line.cursor mid.book.lazy new) (line : mid.book.lazy.line ≡ with_spare mid.book.lazy.line.spare (line_settled old)) where
  cursor-kept : mid.book.lazy.line.cursor ≡ old.book.lazy.line.cursor
  cursor-kept = ap (λ l. l.cursor) line ∙ settled-cursor (settles old) (base_of old) old.book.lazy.line

  behind-same : mid.book.lazy ≡ old.book.lazy → KeepsBehind old.book.lazy.line.cursor old.book.lazy new
  behind-same same id h is upto = behind id h (ap (λ l. kept_in l id) same ∙ is) (omega (arith, upto, cursor-kept))

  from-behind : KeepsFromBase old mid.book.lazy → KeepsFromBase old new
  from-behind keeps id h used is from upto = by (kept_in mid.book.lazy id) refl (keeps id h used is from upto)
    where
      by : (o : Option Kept) → kept_in mid.book.lazy id ≡ o → stored_in mid.book.lazy id ≡ stored_in old.book.lazy id → stored_in new id ≡ stored_in old.book.lazy id
      by None e same = absurd (none-some (stored_parts h) (ap (option_map stored_parts) (sym e) ∙ same ∙ ap (option_map stored_parts) is))
      by (Some g) e same =
          let stored : Some (stored_parts g) ≡ Some (stored_parts h) = sym (ap (option_map stored_parts) e) ∙ same ∙ ap (option_map stored_parts) is in
          let there : g.position ≡ h.position = ap (λ x. x.0) (same_Some (stored_parts g) (stored_parts h) stored) in
          ap (option_map stored_parts) (behind id g e (omega (arith, there, upto, cursor-kept)) ∙ sym e) ∙ same

  to-behind : base_of old ≤ old.book.lazy.line.cursor → ComeToBase old mid.book.lazy → ComeToBase old new
  to-behind within come id h used is under = by (kept_in mid.book.lazy id) refl (come id h used is under)
    where
      by : (o : Option Kept) → kept_in mid.book.lazy id ≡ o → position_in mid.book.lazy id ≡ Some (base_of old) → position_in new id ≡ Some (base_of old)
      by None e there = absurd (none-some (base_of old) (ap (option_map (λ (x : Kept). x.position)) (sym e) ∙ there))
      by (Some g) e there =
          let at_base : g.position ≡ base_of old = same_Some g.position (base_of old) (sym (ap (option_map (λ (x : Kept). x.position)) e) ∙ there) in
          ap (option_map (λ (x : Kept). x.position)) (behind id g e (omega (arith, at_base, within, cursor-kept)) ∙ sym e) ∙ there

  -- all that an operation leaves
  pub shift-keeps : (settles old ≡ false → mid.book.lazy ≡ old.book.lazy) → KeepsFromBase old mid.book.lazy → KeepsAtShift old new
  shift-keeps same keeps = record { up_to_cursor = λ stays. behind-same (same stays); from_base = from-behind keeps }

  pub shift-goes : (x : Shift) → new.line ≡ with_spare new.line.spare (pushed x mid.book.lazy.line) → base_of old ≤ old.book.lazy.line.cursor → (settles old ≡ true → ComeToBase old mid.book.lazy) → GoesOn x old new
  shift-goes x goes within come = record { line = goes ∙ ap (λ l. with_spare new.line.spare (pushed x l)) line; to_base = λ yields. to-behind within (come yields) }
