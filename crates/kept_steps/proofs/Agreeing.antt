-- Where two timelines agree on some formulas between two positions, steps between them whose frames have these formulas alone
-- are the same, and so are the workbooks that they lead to. Serves all changes: what is past stays.
use Rattle.std.proofs.Common.{◌≡◌, ◌∙◌, sym, ap, subst, refl, arith, inl, inr, ℕ, zero, suc, ◌<◌, ◌≤◌, Bool, true, false, cond, nat_lt, List, [], ◌∷◌, length, Option, Some, None, option_map}
use Rattle.std.specs.Prelude.{slice_get, option_and_then}
use Rattle.std.specs.FinMap as fin
use Rattle.std.specs.FinMap.{same_map}
use Rattle.std.proofs.lemmas.Bool.Decides.{nat_tests}
use Rattle.cell_addr.proofs.Places.{place_cmp-IsTotalOrder, place_cmp-IsAntisymmetric}
use Rattle.cell_addr.specs.declared.place.Place.{Place}
use Rattle.formula_tree.specs.declared.reference.Home.{Home}
use Rattle.lazy_store.specs.Standing.{Standing}
use Rattle.name_table.proofs.KeyOrder.{key_cmp-IsTotalOrder}
use Rattle.name_table.specs.declared.key.NameKey.{NameKey}
use Rattle.kept_book.proofs.Contents.{content_same, get-contents}
use Rattle.kept_book.specs.Change.{AreKnown, Change, HaveSlots, LeadsBy, back, cells_after, cells_before, forth, names_with, shift_of, sheets_with}
use Rattle.kept_book.specs.Frame.{Frame, IsNamed, Words, home_at, name_seen, named_at, names_seen, numbered_at, stood_of, tree_named}
use Rattle.kept_book.specs.Kept.{IsMore}
use Rattle.kept_book.specs.Stored.{StandsAt, contents_of}
use Rattle.kept_book.specs.Walk.{back_all, forth_all}
use Rattle.kept_steps.specs.InUse.{AheadHas, HasFormula, HereHas, OnHas, PastHas}
use Rattle.kept_steps.specs.Steps.{AllLeadOn, AllLedHere, AreAhead, ArePast, AreWholeHere, AreWholeOn, IsWhole, LeadsOn, LedHere, SameFrame, books_ahead, books_past, furthest, oldest}
use Rattle.kept_steps.specs.Timeline.{Agree, StandIn, Timeline, book_in}
use Rattle.kept_steps.proofs.Entries.{each_entry, filter_map_same}
use Rattle.kept_steps.proofs.Walks.{after_has, after_whole, before_has, before_whole, earlier, further}

-- a word of a list
spelled : (words : Words) (n : ℕ) → n < length words → (w : List ℕ) × (slice_get words n ≡ Some w)
spelled [] n l = absurd (omega (arith, l))
spelled (w ∷ words) zero l = (w, refl)
spelled (w ∷ words) (suc n) l = spelled words n (omega (arith, l))

inside_of : (words : Words) (n : ℕ) (w : List ℕ) → slice_get words n ≡ Some w → n < length words
inside_of [] n w e = cc
inside_of (v ∷ words) zero w e = omega arith
inside_of (v ∷ words) (suc n) w e = let rest = inside_of words n w e in omega (arith, rest)

-- a name's word is known in a longer list, and is the same word
word_same : (words more : Words) (n : ℕ) → IsMore words more → n < length words → slice_get more n ≡ slice_get words n
word_same words more n m l = let w = spelled words n l in m n w.0 w.1 ∙ sym w.1

word_known : (words more : Words) (n : ℕ) → IsMore words more → n < length words → n < length more
word_known words more n m l = let w = spelled words n l in inside_of more n w.0 (m n w.0 w.1)

known_more : (words more : Words) (cs : List (NameKey × (Option ℕ × Option ℕ))) → IsMore words more → AreKnown words cs → AreKnown more cs
known_more words more [] m h = tt
known_more words more (c ∷ cs) m h = (word_known words more c.0.word m h.0, known_more words more cs m h.1)

-- the standing of what stands somewhere
pub standing_of : (r : Option Standing) (h : Home) → option_map (λ (x : Standing). x.home) r ≡ Some h → (x : Standing) × (r ≡ Some x)
standing_of None h e = cc
standing_of (Some x) h e = (x, refl)

pub standing_under : (r : Option Standing) (p : Place) → option_map (λ f. f.0) (option_and_then stood_of r) ≡ Some p → (x : Standing) × (r ≡ Some x)
standing_under None p e = cc
standing_under (Some x) p e = (x, refl)

-- the oldest frame isn't behind the present one, nor that before the last one ahead
pub oldest_first : (t : Timeline) (f : Frame) (es : List (List Change)) → ArePast t f es → (oldest t f es).position ≤ f.position
oldest_first t f [] past = let e : f.position ≤ f.position = omega arith in e
oldest_first t f (e ∷ es) past =
    let rest = oldest_first t (back_all t.line e f) es past.2 in
    let one = earlier t e f past.0 in
    omega (arith, rest, one)

pub furthest_last : (t : Timeline) (f : Frame) (es : List (List Change)) → AreAhead t f es → f.position ≤ (furthest t f es).position
furthest_last t f [] ahead = let e : f.position ≤ f.position = omega arith in e
furthest_last t f (e ∷ es) ahead =
    let rest = furthest_last t (forth_all t.line e f) es ahead.2 in
    let one = further t e f ahead.0 in
    omega (arith, rest, one)

module _ (among : ℕ → Type 0) (low high : ℕ) (t u : Timeline) (a : Agree among low high t u) where
  shift_same : (c : Change) → low ≤ c.from → c.to ≤ high → shift_of u.line c ≡ shift_of t.line c
  shift_same c l h = go (nat_lt c.from c.to) refl
    where
      go : (b : Bool) → nat_lt c.from c.to ≡ b → cond b (u.line c.from) None ≡ cond b (t.line c.from) None
      go true e = let less : c.from < c.to = grind (arith, nat_tests) in a.line c.from l (omega (arith, less, h))
      go false e = refl

  back_same : (c : Change) (f : Frame) → low ≤ c.from → c.to ≤ high → back u.line c f ≡ back t.line c f
  back_same c f l h = let same = shift_same c l h in λ i. record {
    position = c.from;
    cells = cells_before (same i) c f.cells;
    sheets = sheets_with (λ x. x.0) c.sheets f.sheets;
    names = names_with (λ x. x.0) c.names f.names;
  }

  forth_same : (c : Change) (f : Frame) → low ≤ c.from → c.to ≤ high → forth u.line c f ≡ forth t.line c f
  forth_same c f l h = let same = shift_same c l h in λ i. record {
    position = c.to;
    cells = cells_after (same i) c f.cells;
    sheets = sheets_with (λ x. x.1) c.sheets f.sheets;
    names = names_with (λ x. x.1) c.names f.names;
  }

  led_same : (c : Change) (f : Frame) → low ≤ c.from → f.position ≤ high → LedHere t c f → LedHere u c f
  led_same c f l h led =
      let to : c.to ≡ f.position = led.same.position in
      let end : c.to ≤ high = omega (arith, to, h) in
      let b = back_same c f l end in
      record {
        order = led.order;
        same = subst (λ g. SameFrame g f) (sym (forth_same c (back u.line c f) l end ∙ ap (forth t.line c) b)) led.same;
        operation = λ s is. subst (λ g. LeadsBy s g f) (sym b) (led.operation s (sym (shift_same c l end) ∙ is));
        returns = led.returns;
        repeats = subst (λ g. HaveSlots (λ x. x.1) c.sheets g.sheets) (sym b) led.repeats;
        known = known_more t.words u.words c.names a.words led.known;
      }

  lead_same : (c : Change) (f : Frame) → low ≤ f.position → c.to ≤ high → LeadsOn t c f → LeadsOn u c f
  lead_same c f l h lead =
      let from : c.from ≡ f.position = lead.same.position in
      let start : low ≤ c.from = omega (arith, from, l) in
      let b = forth_same c f start h in
      record {
        order = lead.order;
        same = subst (λ g. SameFrame g f) (sym (back_same c (forth u.line c f) start h ∙ ap (back t.line c) b)) lead.same;
        operation = λ s is. subst (LeadsBy s f) (sym b) (lead.operation s (sym (shift_same c start h) ∙ is));
        returns = subst (λ g. HaveSlots (λ x. x.0) c.sheets g.sheets) (sym b) lead.returns;
        repeats = lead.repeats;
        known = known_more t.words u.words c.names a.words lead.known;
      }

  pub all_led_same : (cs : List Change) (f : Frame) → low ≤ (back_all t.line cs f).position → f.position ≤ high → AllLedHere t cs f → AllLedHere u cs f × (back_all u.line cs f ≡ back_all t.line cs f)
  all_led_same [] f l h led = (tt, refl)
  all_led_same (c ∷ cs) f l h led =
      let g = back_all t.line cs f in
      let to : c.to ≡ g.position = led.1.same.position in
      let order = led.1.order in
      let upto = earlier t cs f led.0 in
      let rest = all_led_same cs f (omega (arith, to, order, l)) h led.0 in
      let within : g.position ≤ high = omega (arith, upto, h) in (
        (rest.0, subst (LedHere u c) (sym rest.1) (led_same c g l within led.1)),
        ap (back u.line c) rest.1 ∙ back_same c g l (omega (arith, to, within)),
      )

  pub all_lead_same : (cs : List Change) (f : Frame) → low ≤ f.position → (forth_all t.line cs f).position ≤ high → AllLeadOn t cs f → AllLeadOn u cs f × (forth_all u.line cs f ≡ forth_all t.line cs f)
  all_lead_same [] f l h lead = (tt, refl)
  all_lead_same (c ∷ cs) f l h lead =
      let g = forth t.line c f in
      let from : c.from ≡ f.position = lead.0.same.position in
      let order = lead.0.order in
      let upto : c.to ≤ (forth_all t.line cs g).position = further t cs g lead.1 in
      let end : c.to ≤ high = omega (arith, upto, h) in
      let start : low ≤ c.from = omega (arith, from, l) in
      let one = forth_same c f start end in
      let rest = all_lead_same cs g (omega (arith, from, order, l)) h lead.1 in (
        (lead_same c f l end lead.0, subst (AllLeadOn u cs) (sym one) rest.0),
        ap (forth_all u.line cs) one ∙ rest.1,
      )

  -- ---- what a frame shows

  at_same : (id j : ℕ) (h : Home) → among id → low ≤ j → j ≤ high → home_at t.at j id ≡ Some h → u.at id j ≡ t.at id j
  at_same id j h one l e some = let x = standing_of (t.at id j) h some in a.at id j x.0 one l e x.1 ∙ sym x.1

  number_same : (id j : ℕ) (p : Place) → among id → low ≤ j → j ≤ high → StandsAt (numbered_at t.at j) id p → numbered_at u.at j id ≡ numbered_at t.at j id
  number_same id j p one l h some =
      let x = standing_under (t.at id j) p some in
      ap (option_and_then stood_of) (a.at id j x.0 one l h x.1 ∙ sym x.1)

  name_same : (j : ℕ) (key : NameKey) (id : ℕ) → among id → low ≤ j → j ≤ high → IsNamed t.at t.words j key id
      → name_seen u.words (named_at u.at j) (key, id) ≡ name_seen t.words (named_at t.at j) (key, id)
  name_same j key id one l h named =
      let word = word_same t.words u.words key.word a.words named.known in
      let tree = ap tree_named (at_same id j _ one l h named.home) in
      λ i. option_map (λ w. (record { scope = key.scope; word = w }, tree i)) (word i)

  pub stand_same : (f : Frame) → ((id : ℕ) → HasFormula f id → among id) → low ≤ f.position → f.position ≤ high → StandIn t f → StandIn u f
  stand_same f all l h s = record {
    cells = λ p n e. ap (option_map (λ x. x.0)) (number_same n f.position p (all n (inl (p, e))) l h (s.cells p n e)) ∙ s.cells p n e;
    names = λ key id e.
        let named = s.names key id e in
        record { known = word_known t.words u.words key.word a.words named.known; scoped = named.scoped; home = ap (option_map (λ (x : Standing). x.home)) (at_same id f.position _ (all id (inr (key, e))) l h named.home) ∙ named.home };
  }

  pub book_same : (f : Frame) → ((id : ℕ) → HasFormula f id → among id) → low ≤ f.position → f.position ≤ high → StandIn t f → book_in u f ≡ book_in t f
  book_same f all l h s =
      let one = numbered_at t.at f.position in
      let two = numbered_at u.at f.position in
      let cells : contents_of two f.cells ≡ contents_of one f.cells = same_map place_cmp-IsTotalOrder place_cmp-IsAntisymmetric _ _ (λ p.
      get-contents two f.cells p
      ∙ content_same one two (fin.get f.cells p) (λ n e. number_same n f.position p (all n (inl (p, e))) l h (s.cells p n e))
      ∙ sym (get-contents one f.cells p)) in
      let entries = each_entry key_cmp-IsTotalOrder (λ e. name_seen u.words (named_at u.at f.position) e ≡ name_seen t.words (named_at t.at f.position) e) f.names (λ key id e. name_same f.position key id (all id (inr (key, e))) l h (s.names key id e)) in
      let names : names_seen u.words (named_at u.at f.position) f.names ≡ names_seen t.words (named_at t.at f.position) f.names =
      ap fin.from_entries (filter_map_same (name_seen u.words (named_at u.at f.position)) (name_seen t.words (named_at t.at f.position)) (fin.entries f.names) entries) in
      λ i. record { sheets = f.sheets; cells = cells i; names = names i }

  -- ---- whole frames

  pub whole_same : (f : Frame) → ((id : ℕ) → HasFormula f id → among id) → low ≤ f.position → f.position ≤ high → IsWhole t f → IsWhole u f
  whole_same f all l h whole = record { stand = stand_same f all l h whole.stand; inside = whole.inside }

  pub whole_here_same : (cs : List Change) (f : Frame) → ((id : ℕ) → HereHas t cs f id → among id) → low ≤ (back_all t.line cs f).position → f.position ≤ high → AllLedHere t cs f → AreWholeHere t cs f → AreWholeHere u cs f
  whole_here_same [] f all l h led whole = whole_same f all l h whole
  whole_here_same (c ∷ cs) f all l h led whole =
      let g = back_all t.line cs f in
      let to : c.to ≡ g.position = led.1.same.position in
      let order = led.1.order in
      let upto = earlier t cs f led.0 in
      let from : c.from ≤ high = omega (arith, order, to, upto, h) in (
        whole_here_same cs f (λ id x. all id (inl x)) (omega (arith, to, order, l)) h led.0 whole.0,
        subst (IsWhole u) (sym (all_led_same (c ∷ cs) f l h led).1) (whole_same (back_all t.line (c ∷ cs) f) (λ id x. all id (inr x)) l from whole.1),
      )

  pub whole_on_same : (cs : List Change) (f : Frame) → ((id : ℕ) → OnHas t cs f id → among id) → low ≤ f.position → (forth_all t.line cs f).position ≤ high → AllLeadOn t cs f → AreWholeOn t cs f → AreWholeOn u cs f
  whole_on_same [] f all l h lead whole = whole_same f all l h whole
  whole_on_same (c ∷ cs) f all l h lead whole =
      let g = forth t.line c f in
      let from : c.from ≡ f.position = lead.0.same.position in
      let order = lead.0.order in
      let upto : c.to ≤ (forth_all t.line cs g).position = further t cs g lead.1 in
      let end : c.to ≤ high = omega (arith, upto, h) in
      let start : low ≤ c.from = omega (arith, from, l) in
      let now : f.position ≤ high = omega (arith, from, order, end) in (
        whole_same f (λ id x. all id (inl x)) l now whole.0,
        subst (AreWholeOn u cs) (sym (forth_same c f start end)) (whole_on_same cs g (λ id x. all id (inr x)) (omega (arith, start, order)) h lead.1 whole.1),
      )

  -- ---- steps

  pub past_same : (f : Frame) (es : List (List Change)) → ((id : ℕ) → PastHas t f es id → among id) → low ≤ (oldest t f es).position → f.position ≤ high → ArePast t f es
      → ArePast u f es × (books_past u f es ≡ books_past t f es) × (oldest u f es ≡ oldest t f es)
  past_same f [] all l h past = (tt, refl, refl)
  past_same f (e ∷ es) all l h past =
      let here : (id : ℕ) → HereHas t e f id → among id = λ id x. all id (inl x) in
      let g = back_all t.line e f in
      let upto = earlier t e f past.0 in
      let low_g = oldest_first t g es past.2 in
      let start : low ≤ g.position = omega (arith, low_g, l) in
      let end : g.position ≤ high = omega (arith, upto, h) in
      let step = all_led_same e f start h past.0 in
      let rest = past_same g es (λ id x. all id (inr x)) l end past.2 in (
        (step.0, whole_here_same e f here start h past.0 past.1, subst (λ x. ArePast u x es) (sym step.1) rest.0),
        ap (λ x. book_in u x ∷ books_past u x es) step.1 ∙ (λ i. book_same g (λ id x. here id (before_has t e f id x)) start end (before_whole t e f past.1).stand i ∷ rest.1 i),
        ap (λ x. oldest u x es) step.1 ∙ rest.2,
      )

  pub ahead_same : (f : Frame) (es : List (List Change)) → ((id : ℕ) → AheadHas t f es id → among id) → low ≤ f.position → (furthest t f es).position ≤ high → AreAhead t f es
      → AreAhead u f es × (books_ahead u f es ≡ books_ahead t f es) × (furthest u f es ≡ furthest t f es)
  ahead_same f [] all l h ahead = (tt, refl, refl)
  ahead_same f (e ∷ es) all l h ahead =
      let here : (id : ℕ) → OnHas t e f id → among id = λ id x. all id (inl x) in
      let g = forth_all t.line e f in
      let upto = further t e f ahead.0 in
      let high_g = furthest_last t g es ahead.2 in
      let start : low ≤ g.position = omega (arith, upto, l) in
      let end : g.position ≤ high = omega (arith, high_g, h) in
      let step = all_lead_same e f l end ahead.0 in
      let rest = ahead_same g es (λ id x. all id (inr x)) start h ahead.2 in (
        (step.0, whole_on_same e f here l end ahead.0 ahead.1, subst (λ x. AreAhead u x es) (sym step.1) rest.0),
        ap (λ x. book_in u x ∷ books_ahead u x es) step.1 ∙ (λ i. book_same g (λ id x. here id (after_has t e f id x)) start end (after_whole t e f ahead.1).stand i ∷ rest.1 i),
        ap (λ x. furthest u x es) step.1 ∙ rest.2,
      )
