-- The steps of the search: a node is met, a visit ends. Serves `go_on`, `finish` and `close_from`.
use Rattle.std.proofs.Common.{◌≡◌, ◌≢◌, ◌∙◌, sym, ap, refl, arith, ℕ, ◌+◌, ◌<◌, ◌≤◌, ◌⊎◌, inl, inr, ⊎_elim, true, false, cond, List, [], ◌∷◌, ◌++◌, length, reverse, drop, get_or, nat_eq, subst}
use Rattle.std.specs.declared.alloc.Global.{Global}
use Rattle.std.specs.declared.vec.Vec.{Vec}
use Rattle.std.proofs.lemmas.Bool.{cases_lt}
use Rattle.std.proofs.lemmas.Bool.Decides.{eqb_tells}
use Rattle.std.proofs.lemmas.List.{get_or-set_same, get_or-set_other, length_push, length-append}
use Rattle.needs_order.specs.declared.search.Mark.TheVariants.{Unseen, Open, Closed}
use Rattle.needs_order.specs.declared.search.Visit.{Visit}
use Rattle.needs_order.specs.declared.search.Search.{Search}
use Rattle.needs_order.specs.Needs.{AreNodes, Needs, LeadsTo}
use Rattle.needs_order.specs.Needs.LeadsTo.{at_once}
use Rattle.needs_order.specs.internal.Search.{needs_of, mark_at, unseen, lowered, with_each, steps_left, AreStretches, Closes, GoesOn, GoesThrough, IsIdle, IsPath, IsSound, IsStretch, KeepsMet, Opens}
use Rattle.needs_order.proofs.Lists.{has_at}
use Rattle.needs_order.proofs.Leads.{leads_on, need_is_node}
use Rattle.needs_order.proofs.Marks.{mark_cases, unseen-met, unseen-each_closed}
use Rattle.needs_order.proofs.Stretches.{stretch_goes_on}
use Rattle.needs_order.proofs.Opening.{opened_marks, opened_path, opened_stretches}
use Rattle.needs_order.proofs.Merging.{merged}
use Rattle.needs_order.proofs.Closing.{closed_marks, closed_path, closed_stretches, closed_nodes, stay_met, AreFlags}
use Rattle.needs_order.proofs.Visits.{last_or_none, reverse_last}

module _ (lists : List (List ℕ)) where
  -- what meeting a node leaves
  pub record Meets (s t : Search) : Type 0 where
    pub sound : IsSound lists t (reverse t.visits.items)
    pub met : KeepsMet s t
    pub fewer : unseen t.marks.items + 1 ≡ unseen s.marks.items

  -- a node is met, to which all of the path leads
  meets : (node : ℕ) (s t : Search) (visits : List Visit) → IsSound lists s visits → reverse s.visits.items ≡ visits → node < length lists → mark_at s.marks.items node ≡ Unseen → ((i : ℕ) → i < length s.path.items → LeadsTo lists (get_or s.path.items i 0) node) → Opens node s t → Meets s t
  meets node s t visits sound same inside new to_new opens = record {
    sound = subst (λ vs. IsSound lists t vs) (sym now) record {
      marks = rw (opens.marks, opens.path, opens.order) (opened_marks lists s.marks.items s.path.items s.order.items node sound.marks inside new);
      closed = rw (opens.order, opens.on_cycle) sound.closed;
      path = rw opens.path (opened_path lists s.marks.items s.path.items s.order.items node sound.marks inside new sound.path to_new);
      stretches = subst (λ nodes. AreStretches lists t.marks.items nodes (length nodes) (visit ∷ visits)) (sym opens.path)
          (subst (λ marks. AreStretches lists marks (s.path.items ++ node ∷ []) (length (s.path.items ++ node ∷ [])) (visit ∷ visits)) (sym opens.marks)
          (opened_stretches lists s.marks.items s.path.items s.order.items node sound.marks inside new visit visits refl sound.stretches));
    };
    met = λ a unmet. ⊎_elim
        (λ (here : (nat_eq a node ≡ true) × (a ≡ node)). ap (mark_at s.marks.items) here.1 ∙ new)
        (λ (other : (nat_eq a node ≡ false) × (a ≡ node → ⊥)). sym (get_or-set_other s.marks.items node a (Open (length s.path.items)) Unseen other.1) ∙ sym (ap (λ xs. get_or xs a Unseen) opens.marks) ∙ unmet)
        (eqb_tells a node);
    fewer = ap (λ xs. unseen xs + 1) opens.marks ∙ unseen-met s.marks.items node (length s.path.items) (let count = sound.marks.count in omega (arith, count, inside)) new;
  }
    where
      visit : Visit
      visit = record { node = node; place = length s.path.items; next = 0; low = length s.path.items + 1 }

      now : reverse t.visits.items ≡ visit ∷ visits
      now = ap reverse opens.visits ∙ reverse_last s.visits.items visit ∙ ap (λ vs. visit ∷ vs) same

  -- a search is sound while a visit's needs are gone through
  pub gone_sound : (s : Search) (between : Vec Visit Global) (visit gone : Visit) → IsSound lists s (visit ∷ reverse s.visits.items) → GoesThrough (needs_of lists visit.node) s.marks.items visit gone → IsSound lists (record s { visits = between }) (gone ∷ reverse s.visits.items)
  gone_sound s between visit gone sound goes = record {
    marks = sound.marks;
    closed = sound.closed;
    path = sound.path;
    stretches = (
      stretch_goes_on lists s.marks.items s.path.items s.order.items visit gone (length s.path.items) sound.marks sound.stretches.0 goes,
      subst (λ end. AreStretches lists s.marks.items s.path.items end (reverse s.visits.items)) (sym goes.place) sound.stretches.1,
    );
  }

  -- all of the path leads to what the last visited node needs
  path_leads : (s : Search) (visit : Visit) (node : ℕ) → IsPath lists s.path.items → IsStretch lists s.marks.items s.path.items visit (length s.path.items) → Needs lists visit.node node → (i : ℕ) → i < length s.path.items → LeadsTo lists (get_or s.path.items i 0) node
  path_leads s visit node path stretch need i below = by_place (cases_lt visit.place i) (cases_lt i visit.place)
    where
      by_place : (visit.place < i) ⊎ (i ≤ visit.place) → (i < visit.place) ⊎ (visit.place ≤ i) → LeadsTo lists (get_or s.path.items i 0) node
      by_place (inl above) any = leads_on lists (stretch.returns i above below) (at_once need)
      by_place (inr under) (inl before) = leads_on lists (subst (λ b. LeadsTo lists (get_or s.path.items i 0) b) stretch.stands (path i visit.place before stretch.inside)) (at_once need)
      by_place (inr under) (inr from) = subst (λ a. LeadsTo lists a node) (sym stretch.stands ∙ ap (λ k. get_or s.path.items k 0) (let same : visit.place ≡ i = omega (arith, under, from) in same)) (at_once need)

  -- a visit goes on to a need that wasn't met
  pub goes_on_opening : (s t : Search) (between : Vec Visit Global) (visit gone : Visit) (node : ℕ) → AreNodes lists → IsSound lists s (visit ∷ reverse s.visits.items) → GoesThrough (needs_of lists visit.node) s.marks.items visit gone → gone.next < length (needs_of lists visit.node) → get_or (needs_of lists visit.node) gone.next 0 ≡ node
      → between.items ≡ s.visits.items ++ gone ∷ [] → Opens node (record s { visits = between }) t → GoesOn lists s t
  goes_on_opening s t between visit gone node nodes sound goes inside at pushed opens = record {
    sound = meeting.sound;
    met = meeting.met;
    fewer = fewer;
  }
    where
      need : Needs lists visit.node node
      need = subst (λ b. Needs lists visit.node b) at (has_at (needs_of lists visit.node) gone.next inside)

      meeting : Meets (record s { visits = between }) t
      meeting = meets node (record s { visits = between }) t (gone ∷ reverse s.visits.items) (gone_sound s between visit gone sound goes) (ap reverse pushed ∙ reverse_last s.visits.items gone)
          (need_is_node lists nodes visit.node node need) (ap (mark_at s.marks.items) (sym at) ∙ goes.found inside) (path_leads s visit node sound.path sound.stretches.0 need) opens

      fewer : steps_left t.marks.items (length t.visits.items) < steps_left s.marks.items (length s.visits.items + 1)
      fewer =
          let unmet = meeting.fewer in
          let first = ap length pushed ∙ length_push s.visits.items gone in
          let second = ap length opens.visits ∙ length-append between.items (record { node = node; place = length s.path.items; next = 0; low = length s.path.items + 1 } ∷ []) in
          omega (arith, unmet, first, second)

  -- a visit ends, and its stretch becomes part of the one below
  pub goes_on_merging : (s : Search) (visits : Vec Visit Global) (visit : Visit) → IsSound lists s (visit ∷ reverse s.visits.items) → length (needs_of lists visit.node) ≤ visit.next → visit.low < visit.place → ((front : List Visit) (last : Visit) → s.visits.items ≡ front ++ last ∷ [] → visits.items ≡ front ++ lowered last visit.low ∷ []) → GoesOn lists s (record s { visits = visits })
  goes_on_merging s visits visit sound done lower lowers = ⊎_elim
      (λ (none : s.visits.items ≡ []). let end = subst (λ vs. AreStretches lists s.marks.items s.path.items visit.place (reverse vs)) none sound.stretches.1 in absurd (omega (arith, end, lower)))
      (λ (found : (front : List Visit) × (last : Visit) × (s.visits.items ≡ front ++ last ∷ [])).
      let (front, last, is) = found in
      goes_on front last is (lowers front last is) (subst (λ vs. AreStretches lists s.marks.items s.path.items visit.place vs) (ap reverse is ∙ reverse_last front last) sound.stretches.1))
      (last_or_none s.visits.items)
    where
      goes_on : (front : List Visit) (last : Visit) → s.visits.items ≡ front ++ last ∷ [] → visits.items ≡ front ++ lowered last visit.low ∷ [] → AreStretches lists s.marks.items s.path.items visit.place (last ∷ reverse front) → GoesOn lists s (record s { visits = visits })
      goes_on front last is now under = record {
        sound = subst (λ vs. IsSound lists (record s { visits = visits }) vs) (sym (ap reverse now ∙ reverse_last front (lowered last visit.low))) record {
          marks = sound.marks;
          closed = sound.closed;
          path = sound.path;
          stretches = (merged lists s.marks.items s.path.items visit last (length s.path.items) (omega arith) sound.path sound.stretches.0 under.0 done lower, under.1);
        };
        met = λ a unmet. unmet;
        fewer = omega (arith, ap length is, ap length now, length_push front last, length_push front (lowered last visit.low));
      }

  -- a visit ends, and the nodes of its stretch are closed
  pub goes_on_closing : (s t : Search) (visit : Visit) → IsSound lists s (visit ∷ reverse s.visits.items) → length (needs_of lists visit.node) ≤ visit.next → visit.place ≤ visit.low → Closes visit.place (nat_eq visit.low visit.place) s t → GoesOn lists s t
  goes_on_closing s t visit sound done ends closes = record {
    sound = subst (λ vs. IsSound lists t vs) (ap reverse (sym closes.visits)) record {
      marks = rw (closes.marks, closes.path, closes.order) (closed_marks lists s.marks.items s.path.items s.order.items visit.place sound.marks within);
      closed = rw closes.order (closed_nodes lists s.marks.items s.path.items s.order.items s.on_cycle.items visit sound.marks sound.closed sound.path stretch done ends t.on_cycle.items (flags (eqb_tells visit.low visit.place)));
      path = rw closes.path (closed_path lists s.marks.items s.path.items s.order.items visit.place sound.marks within sound.path);
      stretches = rw (closes.marks, closes.path) (closed_stretches lists s.marks.items s.path.items s.order.items visit.place sound.marks within (reverse s.visits.items) sound.stretches.1);
    };
    met = λ a unmet. stay_met lists s.marks.items s.path.items s.order.items visit.place sound.marks within a (sym (ap (λ xs. get_or xs a Unseen) closes.marks) ∙ unmet);
    fewer = omega (arith, ap length closes.visits, ap unseen closes.marks, unseen-each_closed s.marks.items (drop visit.place s.path.items));
  }
    where
      stretch : IsStretch lists s.marks.items s.path.items visit (length s.path.items)
      stretch = sound.stretches.0

      within : visit.place ≤ length s.path.items
      within = let inside = stretch.inside in omega (arith, inside)

      flags : ((nat_eq visit.low visit.place ≡ true) × (visit.low ≡ visit.place)) ⊎ ((nat_eq visit.low visit.place ≡ false) × (visit.low ≡ visit.place → ⊥)) → AreFlags visit s.path.items s.on_cycle.items t.on_cycle.items
      flags (inl same) = inl (same.1, closes.on_cycle ∙ ap (λ b. cond b (with_each s.on_cycle.items (drop visit.place s.path.items) true) s.on_cycle.items) same.0)
      flags (inr other) = inr (less (cases_lt visit.place visit.low), closes.on_cycle ∙ ap (λ b. cond b (with_each s.on_cycle.items (drop visit.place s.path.items) true) s.on_cycle.items) other.0)
        where
          less : (visit.place < visit.low) ⊎ (visit.low ≤ visit.place) → visit.place < visit.low
          less (inl h) = h
          less (inr h) = absurd (other.1 (omega (arith, h, ends)))

  -- the first visit begins, of a node that no other leads to
  pub begins : (s t : Search) (node : ℕ) → IsIdle lists s → node < length lists → mark_at s.marks.items node ≡ Unseen → Opens node s t → IsSound lists t (reverse t.visits.items) × KeepsMet s t × (mark_at t.marks.items node ≢ Unseen)
  begins s t node idle inside unmet opens = (meeting.sound, meeting.met, here)
    where
      meeting : Meets s t
      meeting = meets node s t [] idle.0 (ap reverse idle.1) inside unmet (λ i below. let empty = idle.0.stretches in absurd (omega (arith, below, empty))) opens

      here : mark_at t.marks.items node ≢ Unseen
      here new =
          let count = idle.0.marks.count in
          let e : Open (length s.path.items) ≡ Unseen = sym (get_or-set_same s.marks.items node (Open (length s.path.items)) Unseen (omega (arith, count, inside))) ∙ sym (ap (λ xs. get_or xs node Unseen) opens.marks) ∙ new in
          cc

  -- where nothing is on the path, what was met is closed
  pub met_is_closed : (s : Search) (node : ℕ) → IsIdle lists s → mark_at s.marks.items node ≢ Unseen → mark_at s.marks.items node ≡ Closed
  met_is_closed s node idle met = ⊎_elim
      (λ (new : mark_at s.marks.items node ≡ Unseen). absurd (met new))
      (λ (found : ((i : ℕ) × (mark_at s.marks.items node ≡ Open i)) ⊎ (mark_at s.marks.items node ≡ Closed)). ⊎_elim
      (λ (on_path : (i : ℕ) × (mark_at s.marks.items node ≡ Open i)). let below = (idle.0.marks.open_at node on_path.0 on_path.1).0 in let empty = idle.0.stretches in absurd (omega (arith, below, empty)))
      (λ closed. closed)
      found)
      (mark_cases (mark_at s.marks.items node))
