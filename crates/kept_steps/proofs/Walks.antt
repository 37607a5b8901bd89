-- Changes that led to a frame lead on from the frame before them, and the other way round. Serves undo and redo.
use Rattle.std.proofs.Common.{◌≡◌, ◌∙◌, sym, ap, subst, refl, arith, inl, inr, ℕ, ◌≤◌, List, [], ◌∷◌, ◌++◌}
use Rattle.kept_book.specs.Change.{Change, HaveSlots, Joins, LeadsBy, back, forth}
use Rattle.kept_book.specs.Frame.{Frame}
use Rattle.kept_book.specs.Walk.{Leads, back_all, forth_all}
use Rattle.kept_steps.specs.InUse.{HasFormula, HereHas, OnHas}
use Rattle.kept_steps.specs.Steps.{AllLeadOn, AllLedHere, AreWholeHere, AreWholeOn, IsWhole, LeadsOn, LedHere}
use Rattle.kept_steps.specs.Timeline.{Timeline}
use Rattle.kept_steps.proofs.Frames.{one_frame, same_frame}

module _ (t : Timeline) where
  pub joins_here : (c : Change) (f : Frame) → LedHere t c f → Joins t.line t.words c (back t.line c f) f
  joins_here c f h = record { before = refl; after = one_frame _ _ h.same; order = h.order; operation = h.operation; returns = h.returns; repeats = h.repeats; known = h.known }

  pub joins_on : (c : Change) (f : Frame) → LeadsOn t c f → Joins t.line t.words c f (forth t.line c f)
  joins_on c f h = record { before = one_frame _ _ h.same; after = refl; order = h.order; operation = h.operation; returns = h.returns; repeats = h.repeats; known = h.known }

  pub led : (c : Change) (f g : Frame) → Joins t.line t.words c f g → LedHere t c g
  led c f g j = record {
    order = j.order;
    same = same_frame _ _ (ap (forth t.line c) j.before ∙ j.after);
    operation = λ s is. subst (λ x. LeadsBy s x g) (sym j.before) (j.operation s is);
    returns = j.returns;
    repeats = subst (λ x. HaveSlots (λ s. s.1) c.sheets x.sheets) (sym j.before) j.repeats;
    known = j.known;
  }

  pub leads : (c : Change) (f g : Frame) → Joins t.line t.words c f g → LeadsOn t c f
  leads c f g j = record {
    order = j.order;
    same = same_frame _ _ (ap (back t.line c) j.after ∙ j.before);
    operation = λ s is. subst (LeadsBy s f) (sym j.after) (j.operation s is);
    returns = subst (λ x. HaveSlots (λ s. s.0) c.sheets x.sheets) (sym j.after) j.returns;
    repeats = j.repeats;
    known = j.known;
  }

  pub leads_here : (cs : List Change) (f : Frame) → AllLedHere t cs f → Leads t.line t.words cs (back_all t.line cs f) f
  leads_here [] f h = refl
  leads_here (c ∷ cs) f h = (back_all t.line cs f, joins_here c (back_all t.line cs f) h.1, leads_here cs f h.0)

  pub leads_on : (cs : List Change) (f : Frame) → AllLeadOn t cs f → Leads t.line t.words cs f (forth_all t.line cs f)
  leads_on [] f h = refl
  leads_on (c ∷ cs) f h = (forth t.line c f, joins_on c f h.0, leads_on cs (forth t.line c f) h.1)

  -- changes that lead from one frame to another led there
  pub all_led : (cs : List Change) (f g : Frame) → Leads t.line t.words cs f g → AllLedHere t cs g × (back_all t.line cs g ≡ f)
  all_led [] f g e = (tt, sym e)
  all_led (c ∷ cs) f g l =
      let rest = all_led cs l.0 g l.2 in
      let joins = subst (λ h. Joins t.line t.words c f h) (sym rest.1) l.1 in
      ((rest.0, led c f (back_all t.line cs g) joins), joins.before)

  pub all_lead : (cs : List Change) (f g : Frame) → Leads t.line t.words cs f g → AllLeadOn t cs f × (forth_all t.line cs f ≡ g)
  all_lead [] f g e = (tt, e)
  all_lead (c ∷ cs) f g l =
      let on = leads c f l.0 l.1 in
      let rest = all_lead cs (forth t.line c f) g (subst (λ h. Leads t.line t.words cs h g) (sym l.1.after) l.2) in
      ((on, rest.0), rest.1)

  -- one change more
  pub led_more : (cs : List Change) (c : Change) (f g : Frame) → AllLedHere t cs f → Joins t.line t.words c f g → AllLedHere t (cs ++ c ∷ []) g × (back_all t.line (cs ++ c ∷ []) g ≡ back_all t.line cs f)
  led_more [] c f g h j = ((tt, led c f g j), j.before)
  led_more (d ∷ cs) c f g h j =
      let rest = led_more cs c f g h.0 j in
      ((rest.0, subst (LedHere t d) (sym rest.1) h.1), ap (back t.line d) rest.1)

  -- the position before changes isn't behind the one after them
  pub earlier : (cs : List Change) (f : Frame) → AllLedHere t cs f → (back_all t.line cs f).position ≤ f.position
  earlier [] f h = let e : f.position ≤ f.position = omega arith in e
  earlier (c ∷ cs) f h =
      let rest = earlier cs f h.0 in
      let order = h.1.order in
      let to : c.to ≡ (back_all t.line cs f).position = h.1.same.position in
      omega (arith, rest, order, to)

  pub further : (cs : List Change) (f : Frame) → AllLeadOn t cs f → f.position ≤ (forth_all t.line cs f).position
  further [] f h = let e : f.position ≤ f.position = omega arith in e
  further (c ∷ cs) f h =
      let rest = further cs (forth t.line c f) h.1 in
      let order = h.0.order in
      let from : c.from ≡ f.position = h.0.same.position in
      omega (arith, rest, order, from)

  -- ---- whole frames

  -- the frame before changes, and the one after them
  pub before_whole : (cs : List Change) (f : Frame) → AreWholeHere t cs f → IsWhole t (back_all t.line cs f)
  before_whole [] f whole = whole
  before_whole (c ∷ cs) f whole = whole.1

  pub here_whole : (cs : List Change) (f : Frame) → AreWholeHere t cs f → IsWhole t f
  here_whole [] f whole = whole
  here_whole (c ∷ cs) f whole = here_whole cs f whole.0

  pub after_whole : (cs : List Change) (f : Frame) → AreWholeOn t cs f → IsWhole t (forth_all t.line cs f)
  after_whole [] f whole = whole
  after_whole (c ∷ cs) f whole = after_whole cs (forth t.line c f) whole.1

  pub on_whole : (cs : List Change) (f : Frame) → AreWholeOn t cs f → IsWhole t f
  on_whole [] f whole = whole
  on_whole (c ∷ cs) f whole = whole.0

  -- changes that led over whole frames lead on over them, and the other way round
  pub whole_on : (cs : List Change) (f : Frame) → AllLedHere t cs f → AreWholeHere t cs f → AreWholeOn t cs (back_all t.line cs f)
  whole_on [] f led whole = whole
  whole_on (c ∷ cs) f led whole =
      (whole.1, subst (AreWholeOn t cs) (sym (one_frame _ _ led.1.same)) (whole_on cs f led.0 whole.0))

  pub whole_here : (cs : List Change) (f : Frame) → AllLeadOn t cs f → AreWholeOn t cs f → AreWholeHere t cs (forth_all t.line cs f)
  whole_here [] f lead whole = whole
  whole_here (c ∷ cs) f lead whole =
      let g = forth t.line c f in
      let there = (all_led cs g (forth_all t.line cs g) (leads_on cs g lead.1)).1 in
      (whole_here cs g lead.1 whole.1, subst (IsWhole t) (sym (ap (back t.line c) there ∙ one_frame _ _ lead.0.same)) whole.0)

  -- one change more
  pub whole_more : (cs : List Change) (c : Change) (f g : Frame) → AllLedHere t cs f → Joins t.line t.words c f g → AreWholeHere t cs f → IsWhole t g → AreWholeHere t (cs ++ c ∷ []) g
  whole_more [] c f g led joins whole after = (after, subst (IsWhole t) (sym joins.before) whole)
  whole_more (d ∷ cs) c f g led joins whole after =
      (whole_more cs c f g led.0 joins whole.0 after, subst (IsWhole t) (sym (ap (back t.line d) (led_more cs c f g led.0 joins).1)) whole.1)

  -- what the frames at both ends have one of the frames has
  pub before_has : (cs : List Change) (f : Frame) (id : ℕ) → HasFormula (back_all t.line cs f) id → HereHas t cs f id
  before_has [] f id has = has
  before_has (c ∷ cs) f id has = inr has

  pub here_has : (cs : List Change) (f : Frame) (id : ℕ) → HasFormula f id → HereHas t cs f id
  here_has [] f id has = has
  here_has (c ∷ cs) f id has = inl (here_has cs f id has)

  pub after_has : (cs : List Change) (f : Frame) (id : ℕ) → HasFormula (forth_all t.line cs f) id → OnHas t cs f id
  after_has [] f id has = has
  after_has (c ∷ cs) f id has = inr (after_has cs (forth t.line c f) id has)
