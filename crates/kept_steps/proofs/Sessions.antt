-- The session after a call: where a change was noted, where nothing changed, after a step back or forth, and where a batch
-- begins or is closed. Serves all calls of sessions.
use Rattle.std.proofs.Common.{pos, ◌≡◌, ◌∙◌, sym, ap, subst, refl, arith, inl, inr, ℕ, ◌≤◌, ◌-◌, Bool, true, false, if◌then◌else◌, List, [], ◌∷◌, ◌++◌, length, take, Option, Some, None, option_map}
use Rattle.std.specs.Prelude.{⊤}
use Rattle.undo_book.specs.History.{History, last_of, stepped_back, stepped_forward, without_entries}
use Rattle.undo_book.proofs.LastEntries.{all_but_last-end, last_of-end}
use Rattle.book_model.specs.Clipboard.{nothing}
use Rattle.book_model.specs.Session.{changed, closed, kept, opened, redone, undone}
use Rattle.book_model.specs.Workbook.{State}
use Rattle.kept_book.specs.Change.{Change, Joins}
use Rattle.kept_book.specs.Frame.{Frame}
use Rattle.kept_book.specs.Kept.{changes_of}
use Rattle.kept_book.specs.Walk.{back_all, forth_all}
use Rattle.kept_steps.specs.Fits.{AreSteps, batch_of, changes_in, has_any, open_changes, session_of, start_of, steps_of}
use Rattle.kept_steps.specs.InUse.{AheadHas, HasAny, HasFormula, PastHas}
use Rattle.kept_steps.specs.Steps.{AllLedHere, AreAhead, ArePast, AreWholeHere, IsWhole, books_ahead, books_past, furthest, oldest}
use Rattle.kept_steps.specs.Timeline.{Agree, Timeline, book_in}
use Rattle.kept_steps.specs.declared.entry.Entry.{Entry}
use Rattle.kept_steps.specs.internal.Noted.{Adds, Closes, ClosesWith, Notes, SameBatch, SameSteps}
use Rattle.kept_steps.proofs.Agreeing.{ahead_same, all_led_same, book_same, furthest_last, oldest_first, past_same, stand_same, whole_here_same, whole_same}
use Rattle.kept_steps.proofs.Lists.{books_taken, oldest_taken, past_taken, steps_end, steps_pushed}
use Rattle.kept_steps.proofs.Walks.{after_whole, all_lead, all_led, before_has, before_whole, earlier, here_has, here_whole, led, led_more, leads_here, leads_on, whole_here, whole_more, whole_on}

-- the session after a call, with steps that fit it
abbrev pub Becomes : Timeline → ℕ → ℕ → Frame → History Entry → Option Entry → Bool → ℕ → State → Type 0
Becomes u first end g h b s n after = AreSteps u first end g h b × (session_of u g h b s n ≡ after)

-- every formula
abbrev pub any_formula : ℕ → Type 0
any_formula id = ⊤

has-append : (cs : List Change) (c : Change) → has_any (cs ++ c ∷ []) ≡ true
has-append [] c = refl
has-append (d ∷ cs) c = refl

-- ---- a change is noted

module _ (t u : Timeline) (first end was : ℕ) (f g : Frame) (c : Change) (agree : Agree any_formula 0 f.position t u) (joins : Joins u.line u.words c f g) (whole : IsWhole u g) (s : Bool) (n : ℕ) where
  at_end : (x : ℕ) → 0 ≤ x
  at_end x = omega arith

  within : f.position ≤ f.position
  within = omega arith

  here : AllLedHere u (c ∷ []) g
  here = (tt, led u c f g joins)

  noted_alone : (h h2 : History Entry) → AreSteps t first was f h None → Adds (c ∷ []) h h2 → g.position ≤ end
      → Becomes u first end g h2 None s n (changed (book_in u g) (session_of t f h None s n))
  noted_alone h h2 fits adds top =
      let es = steps_of h.done in
      let past = past_same any_formula 0 f.position t u agree f es (λ id x. tt) (at_end _) within fits.past in
      let pushed : steps_of h2.done ≡ take h.limit ((c ∷ []) ∷ es) = ap steps_of adds.2 ∙ steps_pushed h.limit h.done adds.0 ∙ ap (λ cs. take h.limit (cs ∷ es)) adds.1 in
      let none : steps_of h2.undone ≡ [] = ap steps_of adds.3 in
      let shown : book_in u f ≡ book_in t f = book_same any_formula 0 f.position t u agree f (λ id x. tt) (at_end _) within fits.stand in
      let long : ArePast u g ((c ∷ []) ∷ es) = (here, (whole, subst (IsWhole u) (sym joins.before) (whole_same any_formula 0 f.position t u agree f (λ id x. tt) (at_end _) within fits.whole)), subst (λ x. ArePast u x es) (sym joins.before) past.0) in
      let books : books_past u g ((c ∷ []) ∷ es) ≡ book_in t f ∷ books_past t f es =
      ap (λ x. book_in u x ∷ books_past u x es) joins.before ∙ (λ i. shown i ∷ past.1 i) in
      let start : (oldest u g ((c ∷ []) ∷ es)).position ≡ (oldest t f es).position = ap (λ x. (oldest u x es).position) joins.before ∙ ap (λ (x : Frame). x.position) past.2 in
      let later = oldest_taken u h.limit g ((c ∷ []) ∷ es) long in
      let base = fits.base in (
        record {
          stand = whole.stand;
          led = tt;
          whole = whole;
          past = subst (ArePast u g) (sym pushed) (past_taken u h.limit g ((c ∷ []) ∷ es) long);
          ahead = subst (AreAhead u g) (sym none) tt;
          base = subst (λ l. first ≤ (oldest u g l).position) (sym pushed) (omega (arith, later, start, base));
          top = subst (λ l. (furthest u g l).position ≤ end) (sym none) top;
          cleared = λ e. absurd (cc);
        },
        (λ i. record {
          book = book_in u g;
          undo = (ap (books_past u g) pushed ∙ books_taken u h.limit g ((c ∷ []) ∷ es) ∙ ap (take h.limit) books) i;
          redo = ap (books_ahead u g) none i;
          batch = None;
          suspended = s;
          next_sheet = n;
          limit = adds.4 i;
          customs = [];
          today = pos 0;
          clip = nothing;
        }),
      )

  noted_open : (h h2 : History Entry) (b b2 : Entry) → AreSteps t first was f h (Some b) → changes_in b2 ≡ changes_in b ++ c ∷ [] → h2.done ≡ h.done → h2.undone ≡ [] → h2.limit ≡ h.limit → g.position ≤ end
      → Becomes u first end g h2 (Some b2) s n (changed (book_in u g) (session_of t f h (Some b) s n))
  noted_open h h2 b b2 fits grown done undone limit top =
      let es = steps_of h.done in
      let cs = changes_in b in
      let x = back_all t.line cs f in
      let upto = earlier t cs f fits.led in
      let begun_steps = all_led_same any_formula 0 f.position t u agree cs f (at_end _) within fits.led in
      let more = led_more u cs c f g begun_steps.0 joins in
      let back : back_all u.line (changes_in b2) g ≡ x = ap (λ l. back_all u.line l g) grown ∙ more.1 ∙ begun_steps.1 in
      let past = past_same any_formula 0 f.position t u agree x es (λ id y. tt) (at_end _) upto fits.past in
      let shown : book_in u x ≡ book_in t x = book_same any_formula 0 f.position t u agree x (λ id y. tt) (at_end _) upto (before_whole t cs f fits.whole).stand in
      let kept : steps_of h2.done ≡ es = ap steps_of done in
      let none : steps_of h2.undone ≡ [] = ap steps_of undone in
      let any : has_any (changes_in b2) ≡ true = ap has_any grown ∙ has-append cs c in
      let start : (oldest u (back_all u.line (changes_in b2) g) (steps_of h2.done)).position ≡ (oldest t x es).position =
      (λ i. (oldest u (back i) (kept i)).position) ∙ ap (λ (y : Frame). y.position) past.2 in
      let base = fits.base in (
        record {
          stand = whole.stand;
          led = subst (λ l. AllLedHere u l g) (sym grown) more.0;
          whole = subst (λ l. AreWholeHere u l g) (sym grown) (whole_more u cs c f g begun_steps.0 joins (whole_here_same any_formula 0 f.position t u agree cs f (λ id y. tt) (at_end _) within fits.led fits.whole) whole);
          past = subst (λ y. ArePast u y (steps_of h2.done)) (sym back) (subst (ArePast u x) (sym kept) past.0);
          ahead = subst (AreAhead u g) (sym none) tt;
          base = omega (arith, start, base);
          top = subst (λ l. (furthest u g l).position ≤ end) (sym none) top;
          cleared = λ e. ap length undone;
        },
        (λ i. record {
          book = book_in u g;
          undo = ((λ j. books_past u (back j) (kept j)) ∙ past.1) i;
          redo = ap (books_ahead u g) none i;
          batch = Some (record { start = (ap (book_in u) back ∙ shown) i; changed = any i });
          suspended = s;
          next_sheet = n;
          limit = limit i;
          customs = [];
          today = pos 0;
          clip = nothing;
        }),
      )

  pub noted : (h h2 : History Entry) (b b2 : Option Entry) → AreSteps t first was f h b → Notes c b h b2 h2 → g.position ≤ end
      → Becomes u first end g h2 b2 s n (changed (book_in u g) (session_of t f h b s n))
  noted h h2 None b2 fits notes top =
      subst (λ o. Becomes u first end g h2 o s n (changed (book_in u g) (session_of t f h None s n))) (sym notes.0) (noted_alone h h2 fits notes.1 top)
  noted h h2 (Some b) b2 fits notes top =
      subst (λ o. Becomes u first end g h2 o s n (changed (book_in u g) (session_of t f h (Some b) s n))) (sym notes.0.1)
      (noted_open h h2 b notes.0.0 fits notes.0.2 notes.1 notes.2 notes.3 top)

-- ---- nothing changed, but that there may be more words

open_same : (b b2 : Option Entry) → SameBatch b b2 → open_changes b2 ≡ open_changes b
open_same None b2 same = ap open_changes same
open_same (Some b) b2 same = ap open_changes same.1 ∙ ap changes_of same.2

batch_same : (t u : Timeline) (f : Frame) (b b2 : Option Entry) → SameBatch b b2 → book_in u (start_of t b f) ≡ book_in t (start_of t b f) → start_of u b2 f ≡ start_of t b f
    → option_map (batch_of u f) b2 ≡ option_map (batch_of t f) b
batch_same t u f None b2 same shown start = ap (option_map (batch_of u f)) same
batch_same t u f (Some b) b2 same shown start =
    let changes : changes_in same.0 ≡ changes_in b = ap changes_of same.2 in
    let there : back_all u.line (changes_in same.0) f ≡ back_all t.line (changes_in b) f = ap (λ o. start_of u o f) (sym same.1) ∙ start in
    ap (option_map (batch_of u f)) same.1 ∙ (λ i. Some (record { start = (ap (book_in u) there ∙ shown) i; changed = has_any (changes i) }))

-- so it is where what is in use stays from the base on, and the line begins at the base or before
pub stays_in_use : (among : ℕ → Type 0) (low : ℕ) (t u : Timeline) (was first end : ℕ) (f : Frame) (h : History Entry) (b b2 : Option Entry) (s : Bool) (n : ℕ) → ((high : ℕ) → Agree among low high t u) → AreSteps t was end f h b
    → ((id : ℕ) → HasAny t f h b id → among id) → low ≤ (oldest t (start_of t b f) (steps_of h.done)).position → first ≤ (oldest t (start_of t b f) (steps_of h.done)).position → SameBatch b b2
    → Becomes u first end f h b2 s n (session_of t f h b s n)
stays_in_use among low t u was first end f h b b2 s n agree fits all under from same =
    let es = steps_of h.done in
    let us = steps_of h.undone in
    let cs = open_changes b in
    let x = start_of t b f in
    let now : f.position ≤ f.position = omega arith in
    let upto = earlier t cs f fits.led in
    let behind = oldest_first t x es fits.past in
    let low_start : low ≤ x.position = omega (arith, under, behind) in
    let low_now : low ≤ f.position = omega (arith, low_start, upto) in
    let past_all : (id : ℕ) → PastHas t x es id → among id = λ id y. all id (inr (inl y)) in
    let ahead_all : (id : ℕ) → AheadHas t f us id → among id = λ id y. all id (inr (inr y)) in
    let now_all : (id : ℕ) → HasFormula f id → among id = λ id y. all id (inl (here_has t cs f id y)) in
    let start_all : (id : ℕ) → HasFormula x id → among id = λ id y. all id (inl (before_has t cs f id y)) in
    let a = agree f.position in
    let same_open = open_same b b2 same in
    let led = all_led_same among low f.position t u a cs f low_start now fits.led in
    let start : start_of u b2 f ≡ x = ap (λ l. back_all u.line l f) same_open ∙ led.1 in
    let past = past_same among low f.position t u a x es past_all under upto fits.past in
    let high = (furthest t f us).position in
    let last : high ≤ high = omega arith in
    let ahead = ahead_same among low high t u (agree high) f us ahead_all low_now last fits.ahead in
    let shown = book_same among low f.position t u a f now_all low_now now fits.stand in
    let begun = book_same among low f.position t u a x start_all low_start upto (before_whole t cs f fits.whole).stand in
    let oldest_is : (oldest u (start_of u b2 f) es).position ≡ (oldest t x es).position = ap (λ y. (oldest u y es).position) start ∙ ap (λ (y : Frame). y.position) past.2 in
    let furthest_is : (furthest u f us).position ≡ high = ap (λ (y : Frame). y.position) ahead.2 in
    let top = fits.top in (
      record {
        stand = stand_same among low f.position t u a f now_all low_now now fits.stand;
        led = subst (λ l. AllLedHere u l f) (sym same_open) led.0;
        whole = subst (λ l. AreWholeHere u l f) (sym same_open) (whole_here_same among low f.position t u a cs f (λ id y. all id (inl y)) low_start now fits.led fits.whole);
        past = subst (λ y. ArePast u y es) (sym start) past.0;
        ahead = ahead.0;
        base = omega (arith, oldest_is, from);
        top = omega (arith, furthest_is, top);
        cleared = λ e. fits.cleared (ap has_any (sym same_open) ∙ e);
      },
      (λ i. record {
        book = shown i;
        undo = (ap (λ y. books_past u y es) start ∙ past.1) i;
        redo = ahead.1 i;
        batch = batch_same t u f b b2 same begun start i;
        suspended = s;
        next_sheet = n;
        limit = h.limit;
        customs = [];
        today = pos 0;
        clip = nothing;
      }),
    )

pub stays : (t u : Timeline) (first end : ℕ) (f : Frame) (h : History Entry) (b b2 : Option Entry) (s : Bool) (n : ℕ) → ((high : ℕ) → Agree any_formula 0 high t u) → AreSteps t first end f h b → SameBatch b b2
    → Becomes u first end f h b2 s n (session_of t f h b s n)
stays t u first end f h b b2 s n agree fits same = stays_in_use any_formula 0 t u first first end f h b b2 s n agree fits (λ id y. tt) (omega arith) fits.base same

-- ---- the steps are forgotten

pub forgotten : (t : Timeline) (first end : ℕ) (f : Frame) (h : History Entry) (b : Option Entry) (s : Bool) (n : ℕ) → AreSteps t first end f h b
    → Becomes t first end f (without_entries h) b s n (record (session_of t f h b s n) { undo = []; redo = [] })
forgotten t first end f h b s n fits =
    let base = fits.base in
    let top = fits.top in
    let behind = oldest_first t (start_of t b f) (steps_of h.done) fits.past in
    let ahead = furthest_last t f (steps_of h.undone) fits.ahead in (
      record {
        stand = fits.stand;
        led = fits.led;
        whole = fits.whole;
        past = tt;
        ahead = tt;
        base = omega (arith, base, behind);
        top = omega (arith, top, ahead);
        cleared = λ e. refl;
      },
      refl,
    )

-- ---- steps back and forth, where no batch is open

-- the frame before the newest step
module _ (t : Timeline) (first end : ℕ) (f g : Frame) (h : History Entry) (s : Bool) (n : ℕ) (e : Entry) (ys : List Entry) (fits : AreSteps t first end f h None) where
  pub goes_back : h.done ≡ ys ++ e ∷ [] → g ≡ back_all t.line (changes_in e) f → Becomes t first end g (stepped_back h) None s n (undone (session_of t f h None s n).undo (session_of t f h None s n))
  goes_back ends is =
      let cs = changes_in e in
      let b = back_all t.line cs f in
      let done : steps_of h.done ≡ cs ∷ steps_of ys = ap steps_of ends ∙ steps_end ys e in
      let past = subst (ArePast t f) done fits.past in
      let left : steps_of (stepped_back h).done ≡ steps_of ys = ap (λ l. steps_of (take (length l - 1) l)) ends ∙ ap steps_of (all_but_last-end ys e) in
      let next : steps_of (stepped_back h).undone ≡ cs ∷ steps_of h.undone = ap (λ l. steps_of (h.undone ++ last_of 1 l)) ends ∙ ap (λ l. steps_of (h.undone ++ l)) (last_of-end ys e) ∙ steps_end h.undone e in
      let on = all_lead t cs b f (leads_here t cs f past.0) in
      let ahead : AreAhead t b (cs ∷ steps_of h.undone) = (on.0, whole_on t cs f past.0 past.1, subst (λ y. AreAhead t y (steps_of h.undone)) (sym on.1) fits.ahead) in
      let base = subst (λ l. first ≤ (oldest t f l).position) done fits.base in
      let top = fits.top in
      let last : (furthest t b (cs ∷ steps_of h.undone)).position ≡ (furthest t f (steps_of h.undone)).position = ap (λ y. (furthest t y (steps_of h.undone)).position) on.1 in
      let books : books_ahead t b (cs ∷ steps_of h.undone) ≡ book_in t f ∷ books_ahead t f (steps_of h.undone) = ap (λ y. book_in t y ∷ books_ahead t y (steps_of h.undone)) on.1 in
      let known : (session_of t f h None s n).undo ≡ book_in t b ∷ books_past t b (steps_of ys) = ap (books_past t f) done in (
        subst (λ y. AreSteps t first end y (stepped_back h) None) (sym is) (record {
          stand = (before_whole t cs f past.1).stand;
          led = tt;
          whole = before_whole t cs f past.1;
          past = subst (ArePast t b) (sym left) past.2;
          ahead = subst (AreAhead t b) (sym next) ahead;
          base = subst (λ l. first ≤ (oldest t b l).position) (sym left) base;
          top = subst (λ l. (furthest t b l).position ≤ end) (sym next) (omega (arith, last, top));
          cleared = λ x. absurd (cc);
        }),
        subst (λ y. session_of t y (stepped_back h) None s n ≡ undone (session_of t f h None s n).undo (session_of t f h None s n)) (sym is)
            (subst (λ l. session_of t b (stepped_back h) None s n ≡ undone l (session_of t f h None s n)) (sym known) (λ i. record {
              book = book_in t b;
              undo = ap (books_past t b) left i;
              redo = (ap (books_ahead t b) next ∙ books) i;
              batch = None;
              suspended = s;
              next_sheet = n;
              limit = h.limit;
              customs = [];
              today = pos 0;
              clip = nothing;
            })),
      )

  pub goes_forth : h.undone ≡ ys ++ e ∷ [] → g ≡ forth_all t.line (changes_in e) f → Becomes t first end g (stepped_forward h) None s n (redone (session_of t f h None s n).redo (session_of t f h None s n))
  goes_forth ends is =
      let cs = changes_in e in
      let b = forth_all t.line cs f in
      let undone_steps : steps_of h.undone ≡ cs ∷ steps_of ys = ap steps_of ends ∙ steps_end ys e in
      let ahead = subst (AreAhead t f) undone_steps fits.ahead in
      let left : steps_of (stepped_forward h).undone ≡ steps_of ys = ap (λ l. steps_of (take (length l - 1) l)) ends ∙ ap steps_of (all_but_last-end ys e) in
      let next : steps_of (stepped_forward h).done ≡ cs ∷ steps_of h.done = ap (λ l. steps_of (h.done ++ last_of 1 l)) ends ∙ ap (λ l. steps_of (h.done ++ l)) (last_of-end ys e) ∙ steps_end h.done e in
      let here = all_led t cs f b (leads_on t cs f ahead.0) in
      let past : ArePast t b (cs ∷ steps_of h.done) = (here.0, whole_here t cs f ahead.0 ahead.1, subst (λ y. ArePast t y (steps_of h.done)) (sym here.1) fits.past) in
      let base = fits.base in
      let top = subst (λ l. (furthest t f l).position ≤ end) undone_steps fits.top in
      let start : (oldest t b (cs ∷ steps_of h.done)).position ≡ (oldest t f (steps_of h.done)).position = ap (λ y. (oldest t y (steps_of h.done)).position) here.1 in
      let books : books_past t b (cs ∷ steps_of h.done) ≡ book_in t f ∷ books_past t f (steps_of h.done) = ap (λ y. book_in t y ∷ books_past t y (steps_of h.done)) here.1 in
      let known : (session_of t f h None s n).redo ≡ book_in t b ∷ books_ahead t b (steps_of ys) = ap (books_ahead t f) undone_steps in (
        subst (λ y. AreSteps t first end y (stepped_forward h) None) (sym is) (record {
          stand = (after_whole t cs f ahead.1).stand;
          led = tt;
          whole = after_whole t cs f ahead.1;
          past = subst (ArePast t b) (sym next) past;
          ahead = subst (AreAhead t b) (sym left) ahead.2;
          base = subst (λ l. first ≤ (oldest t b l).position) (sym next) (omega (arith, start, base));
          top = subst (λ l. (furthest t b l).position ≤ end) (sym left) top;
          cleared = λ x. absurd (cc);
        }),
        subst (λ y. session_of t y (stepped_forward h) None s n ≡ redone (session_of t f h None s n).redo (session_of t f h None s n)) (sym is)
            (subst (λ l. session_of t b (stepped_forward h) None s n ≡ redone l (session_of t f h None s n)) (sym known) (λ i. record {
              book = book_in t b;
              undo = (ap (books_past t b) next ∙ books) i;
              redo = ap (books_ahead t b) left i;
              batch = None;
              suspended = s;
              next_sheet = n;
              limit = h.limit;
              customs = [];
              today = pos 0;
              clip = nothing;
            })),
      )

-- ---- a batch begins, and is closed

pub opens : (t : Timeline) (first end : ℕ) (f : Frame) (h : History Entry) (b : Entry) (s : Bool) (n : ℕ) → AreSteps t first end f h None → changes_in b ≡ []
    → Becomes t first end f h (Some b) s n (opened (session_of t f h None s n))
opens t first end f h b s n fits none =
    let start : back_all t.line (changes_in b) f ≡ f = ap (λ l. back_all t.line l f) none in (
      record {
        stand = fits.stand;
        led = subst (λ l. AllLedHere t l f) (sym none) tt;
        whole = subst (λ l. AreWholeHere t l f) (sym none) fits.whole;
        past = subst (λ y. ArePast t y (steps_of h.done)) (sym start) fits.past;
        ahead = fits.ahead;
        base = subst (λ y. first ≤ (oldest t y (steps_of h.done)).position) (sym start) fits.base;
        top = fits.top;
        cleared = λ e. let no : true ≡ false = sym e ∙ ap has_any none in absurd (cc);
      },
      (λ i. record {
        book = book_in t f;
        undo = books_past t (start i) (steps_of h.done);
        redo = books_ahead t f (steps_of h.undone);
        batch = Some (record { start = book_in t (start i); changed = has_any (none i) });
        suspended = s;
        next_sheet = n;
        limit = h.limit;
        customs = [];
        today = pos 0;
        clip = nothing;
      }),
    )

module _ (t : Timeline) (first end : ℕ) (f : Frame) (h g : History Entry) (s : Bool) (n : ℕ) where
  steps_same : SameSteps h g → AreSteps t first end f h None → Becomes t first end f g None s n (session_of t f h None s n)
  steps_same same fits =
      let done = ap steps_of same.0 in
      let next = ap steps_of same.1 in (
        record {
          stand = fits.stand;
          led = tt;
          whole = fits.whole;
          past = subst (ArePast t f) (sym done) fits.past;
          ahead = subst (AreAhead t f) (sym next) fits.ahead;
          base = subst (λ l. first ≤ (oldest t f l).position) (sym done) fits.base;
          top = subst (λ l. (furthest t f l).position ≤ end) (sym next) fits.top;
          cleared = λ x. absurd (cc);
        },
        (λ i. record {
          book = book_in t f;
          undo = books_past t f (done i);
          redo = books_ahead t f (next i);
          batch = None;
          suspended = s;
          next_sheet = n;
          limit = same.2 i;
          customs = [];
          today = pos 0;
          clip = nothing;
        }),
      )

  empty_list : {X : Type 0} (xs : List X) → length xs ≡ 0 → xs ≡ []
  empty_list [] e = refl
  empty_list (x ∷ xs) e = absurd (omega (arith, e))

  closes_with : (b : Entry) (cs : List Change) → changes_in b ≡ cs → AreSteps t first end f h (Some b) → ClosesWith cs h g
      → Becomes t first end f g None s n (closed (Some (batch_of t f b)) (session_of t f h (Some b) s n))
  closes_with b [] is fits closes =
      let start : back_all t.line (changes_in b) f ≡ f = ap (λ l. back_all t.line l f) is in
      let none : has_any (changes_in b) ≡ false = ap has_any is in
      let plain : AreSteps t first end f h None = record {
        stand = fits.stand;
        led = tt;
        whole = here_whole t (changes_in b) f fits.whole;
        past = subst (λ y. ArePast t y (steps_of h.done)) start fits.past;
        ahead = fits.ahead;
        base = subst (λ y. first ≤ (oldest t y (steps_of h.done)).position) start fits.base;
        top = fits.top;
        cleared = λ x. absurd (cc);
      } in
      let after = steps_same closes plain in (
        after.0,
        after.1 ∙ subst (λ q. session_of t f h None s n ≡ record (session_of t f h (Some b) s n) { batch = None; undo = if q then kept (session_of t f h (Some b) s n) (book_in t (back_all t.line (changes_in b) f)) else books_past t (back_all t.line (changes_in b) f) (steps_of h.done) }) (sym none) (λ i. record {
          book = book_in t f;
          undo = books_past t (sym start i) (steps_of h.done);
          redo = books_ahead t f (steps_of h.undone);
          batch = None;
          suspended = s;
          next_sheet = n;
          limit = h.limit;
          customs = [];
          today = pos 0;
          clip = nothing;
        }),
      )
  closes_with b (c ∷ cs) is fits closes =
      let es = steps_of h.done in
      let ds = changes_in b in
      let x = back_all t.line ds f in
      let any : has_any ds ≡ true = ap has_any is in
      let undone_none : h.undone ≡ [] = empty_list h.undone (fits.cleared any) in
      let pushed : steps_of g.done ≡ take h.limit (ds ∷ es) = ap steps_of closes.2 ∙ steps_pushed h.limit h.done closes.0 ∙ ap (λ l. take h.limit (l ∷ es)) (closes.1 ∙ sym is) in
      let none : steps_of g.undone ≡ [] = ap steps_of closes.3 in
      let long : ArePast t f (ds ∷ es) = (fits.led, fits.whole, fits.past) in
      let later = oldest_taken t h.limit f (ds ∷ es) long in
      let base = fits.base in
      let top = fits.top in
      let last = furthest_last t f (steps_of h.undone) fits.ahead in
      let redo : books_ahead t f (steps_of g.undone) ≡ books_ahead t f (steps_of h.undone) = ap (books_ahead t f) none ∙ sym (ap (λ l. books_ahead t f (steps_of l)) undone_none) in (
        record {
          stand = fits.stand;
          led = tt;
          whole = here_whole t ds f fits.whole;
          past = subst (ArePast t f) (sym pushed) (past_taken t h.limit f (ds ∷ es) long);
          ahead = subst (AreAhead t f) (sym none) tt;
          base = subst (λ l. first ≤ (oldest t f l).position) (sym pushed) (omega (arith, later, base));
          top = subst (λ l. (furthest t f l).position ≤ end) (sym none) (omega (arith, last, top));
          cleared = λ y. absurd (cc);
        },
        subst (λ q. session_of t f g None s n ≡ record (session_of t f h (Some b) s n) { batch = None; undo = if q then kept (session_of t f h (Some b) s n) (book_in t x) else books_past t x es }) (sym any) (λ i. record {
          book = book_in t f;
          undo = (ap (books_past t f) pushed ∙ books_taken t h.limit f (ds ∷ es)) i;
          redo = redo i;
          batch = None;
          suspended = s;
          next_sheet = n;
          limit = closes.4 i;
          customs = [];
          today = pos 0;
          clip = nothing;
        }),
      )

  pub closes : (b : Option Entry) → AreSteps t first end f h b → Closes b h g → Becomes t first end f g None s n (closed (option_map (batch_of t f) b) (session_of t f h b s n))
  closes None fits same = steps_same same fits
  closes (Some b) fits with_changes = closes_with b (changes_in b) refl fits with_changes
