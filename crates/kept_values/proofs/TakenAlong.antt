-- Marks that are taken along with a structural operation. Serves what takes values along.
use Rattle.std.proofs.Common.{◌≡◌, ◌∙◌, sym, ap, refl, subst, ℕ, Bool, true, false, cond, List, [], ◌∷◌, ◌++◌, Option, Some, None, option_map, ◌⊎◌, inl, inr, ⊎_elim}
use Rattle.std.specs.Prelude.{IsTrue, ◌↔◌}
use Rattle.std.proofs.lemmas.Bool.{false≢true}
use Rattle.cell_addr.specs.declared.place.Place.{Place}
use Rattle.shift_core.specs.Form.{form_of}
use Rattle.shift_core.specs.Sound.{IsSound}
use Rattle.shift_core.specs.Tables.{place_after}
use Rattle.shift_core.specs.declared.shift.Shift.{Shift}
use Rattle.book_values.specs.Workbook as book
use Rattle.dep_graph.specs.Laws.{IsNoRange}
use Rattle.dep_graph.specs.Needs.{Links}
use Rattle.dep_graph.specs.Nodes.{has}
use Rattle.dep_graph.specs.Shifted.{AreShifted, node_after}
use Rattle.dep_graph.specs.declared.node.Node.{Node}
use Rattle.dep_graph.specs.declared.node.Node.TheVariants.{Cell, Name, Range, Whole}
use Rattle.dep_graph.proofs.Places.{has-append_cases, has-append_left, has-append_right, has_first, has_one}
use Rattle.recalc_core.specs.Kept.{Kept}
use Rattle.recalc_core.specs.Laws.{AreKnown}
use Rattle.recalc_core.specs.Moves.{carried_kept}
use Rattle.recalc_core.specs.Nodes.{node_at}
use Rattle.recalc_core.specs.Recalc.{with_mark}
use Rattle.recalc_core.specs.Shifted.{drops_scope, from_over}
use Rattle.recalc_core.proofs.Bridge.{none_some, same_some}
use Rattle.marked_values.specs.Gathered.{AreTakenAlong}
use Rattle.marked_values.specs.Shifts.{is_moved_cell}
use Rattle.marked_values.proofs.Origins.{was_at}
use Rattle.kept_values.specs.Values.{kept_in, links_in, marks_in, unlinked_in}
use Rattle.kept_values.specs.declared.values.Values.{Values}
use Rattle.kept_values.specs.Shifted.{ComesFrom, moved_cell}
use Rattle.kept_values.specs.internal.TakenAlong.{AddsTaken, AreAlong, AreCarried, AreMoved, with_some, with_taken}
use Rattle.kept_values.proofs.Following.{AreAmong}
use Rattle.kept_values.proofs.FoundNames.{marked_more}

-- ---- one mark more, if there is one

mark_is : (a c : Node) (marks : List Node) → has c (with_mark a marks) ≡ has c (marks ++ a ∷ [])
mark_is a c marks = marked_more a marks (with_mark a marks) refl c

pub mark_stays : (o : Option Node) (c : Node) (marks : List Node) → IsTrue (has c marks) → IsTrue (has c (with_some o marks))
mark_stays None c marks h = h
mark_stays (Some a) c marks h = mark_is a c marks ∙ has-append_left c marks (a ∷ []) h

pub mark_there : (o : Option Node) (c : Node) (marks : List Node) → o ≡ Some c → IsTrue (has c (with_some o marks))
mark_there None c marks is = absurd (none_some c is)
mark_there (Some a) c marks is =
    mark_is a c marks ∙ has-append_right c marks (a ∷ []) (subst (λ n. IsTrue (has c (n ∷ []))) (sym (same_some a c is)) (has_first c []))

pub mark_cases : (o : Option Node) (c : Node) (marks : List Node) → IsTrue (has c (with_some o marks)) → IsTrue (has c marks) ⊎ (o ≡ Some c)
mark_cases None c marks h = inl h
mark_cases (Some a) c marks h = ⊎_elim
    (λ (before : has c marks ≡ true). inl before)
    (λ (last : has c (a ∷ []) ≡ true). inr (ap Some (sym (has_one c a last))))
    (has-append_cases c marks (a ∷ []) (sym (mark_is a c marks) ∙ h))

-- ---- a node that is taken along

module _ (s : Shift) where
  cell_again : (p : Place) → is_moved_cell s p ≡ true → moved_cell s (Cell p) ≡ Some (Cell p)
  cell_again p moved = ap (λ t. cond t (Some (Cell p)) None) moved

  same_cell : (a c : Node) → moved_cell s a ≡ Some c → c ≡ a
  same_cell (Cell p) c is = by (is_moved_cell s p) is
    where
      by : (t : Bool) → cond t (Some (Cell p)) None ≡ Some c → c ≡ Cell p
      by true e = sym (same_some (Cell p) c e)
      by false e = absurd (none_some c e)
  same_cell (Name scope word) c is = absurd (none_some c is)
  same_cell (Range block) c is = absurd (none_some c is)
  same_cell (Whole w) c is = absurd (none_some c is)

  -- what a known node becomes is known
  pub after_known : (words : List (List ℕ)) (a c : Node) (x : book.Node) → node_at words a ≡ Some x → node_after s a ≡ Some c → (y : book.Node) × (node_at words c ≡ Some y)
  after_known words (Cell p) c x at goes = by (place_after s p) goes
    where
      by : (o : Option Place) → option_map Cell o ≡ Some c → (y : book.Node) × (node_at words c ≡ Some y)
      by None e = absurd (none_some c e)
      by (Some q) e = (book.place q, ap (node_at words) (sym (same_some (Cell q) c e)))
  after_known words (Name scope word) c x at goes = (x, ap (node_at words) (sym (same_some (Name scope word) c goes)) ∙ at)
  after_known words (Range block) c x at goes = absurd (none_some x at)
  after_known words (Whole w) c x at goes = absurd (none_some x at)

  -- ---- lists of them

  pub takes_none : (marks : List Node) → AddsTaken s [] marks marks
  takes_none marks = record {
    taken = record { along = λ a after h goes. absurd (false≢true h); stay = λ p moved h. absurd (false≢true h) };
    stay = λ a h. h;
    from = λ a h. inl h;
    known = λ words nodes before. before;
  }

  module _ (nodes old now new : List Node) (x : Node) (so_far : AddsTaken s nodes old now) (is : new ≡ with_taken s x now) where
    still : (c : Node) → IsTrue (has c now) → IsTrue (has c new)
    still c h = subst (λ ms. IsTrue (has c ms)) (sym is) (mark_stays (moved_cell s x) c (with_some (node_after s x) now) (mark_stays (node_after s x) c now h))

    onto : (c : Node) → node_after s x ≡ Some c → IsTrue (has c new)
    onto c goes = subst (λ ms. IsTrue (has c ms)) (sym is) (mark_stays (moved_cell s x) c (with_some (node_after s x) now) (mark_there (node_after s x) c now goes))

    again : (p : Place) → is_moved_cell s p ≡ true → Cell p ≡ x → IsTrue (has (Cell p) new)
    again p moved same =
        subst (λ ms. IsTrue (has (Cell p) ms)) (sym is)
        (mark_there (moved_cell s x) (Cell p) (with_some (node_after s x) now) (ap (moved_cell s) (sym same) ∙ cell_again p moved))

    came_from : (c : Node) → IsTrue (has c new) → IsTrue (has c now) ⊎ ComesFrom s x c
    came_from c h = ⊎_elim
        (λ (before : has c (with_some (node_after s x) now) ≡ true).
        ⊎_elim (λ (first : has c now ≡ true). inl first) (λ (goes : node_after s x ≡ Some c). inr (inl goes)) (mark_cases (node_after s x) c now before))
        (λ (moved : moved_cell s x ≡ Some c). inr (inr moved))
        (mark_cases (moved_cell s x) c (with_some (node_after s x) now) (subst (λ ms. IsTrue (has c ms)) is h))

    came : (c : Node) → IsTrue (has c new) → IsTrue (has c now) ⊎ ((node_after s x ≡ Some c) ⊎ (c ≡ x))
    came c h = by (came_from c h)
      where
        by : IsTrue (has c now) ⊎ ComesFrom s x c → IsTrue (has c now) ⊎ ((node_after s x ≡ Some c) ⊎ (c ≡ x))
        by (inl first) = inl first
        by (inr (inl goes)) = inr (inl goes)
        by (inr (inr moved)) = inr (inr (same_cell x c moved))

    pub takes_more : AddsTaken s (nodes ++ x ∷ []) old new
    takes_more = record {
      taken = record {
        along = λ a after h goes. ⊎_elim
            (λ (front : has a nodes ≡ true). still after (so_far.taken.along a after front goes))
            (λ (last : has a (x ∷ []) ≡ true). onto after (ap (node_after s) (sym (has_one a x last)) ∙ goes))
            (has-append_cases a nodes (x ∷ []) h);
        stay = λ p moved h. ⊎_elim
            (λ (front : has (Cell p) nodes ≡ true). still (Cell p) (so_far.taken.stay p moved front))
            (λ (last : has (Cell p) (x ∷ []) ≡ true). again p moved (has_one (Cell p) x last))
            (has-append_cases (Cell p) nodes (x ∷ []) h);
      };
      stay = λ a h. still a (so_far.stay a h);
      from = λ a h. from_some a (came_from a h);
      known = λ words known before. all_known words known before;
    }
      where
        from_some : (a : Node) → IsTrue (has a now) ⊎ ComesFrom s x a → IsTrue (has a old) ⊎ ((b : Node) × IsTrue (has b (nodes ++ x ∷ [])) × ComesFrom s b a)
        from_some a (inl first) = ⊎_elim
            (λ (was : IsTrue (has a old)). inl was)
            (λ (b, there, comes). inr (b, has-append_left b nodes (x ∷ []) there, comes))
            (so_far.from a first)
        from_some a (inr comes) = inr (x, has-append_right x nodes (x ∷ []) (has_first x []), comes)

        all_known : (words : List (List ℕ)) → AreKnown words (nodes ++ x ∷ []) → AreKnown words old → AreKnown words new
        all_known words known before c h = by (came c h)
          where
            here : (y : book.Node) × (node_at words x ≡ Some y)
            here = known x (has-append_right x nodes (x ∷ []) (has_first x []))

            by : IsTrue (has c now) ⊎ ((node_after s x ≡ Some c) ⊎ (c ≡ x)) → (y : book.Node) × (node_at words c ≡ Some y)
            by (inl first) = so_far.known words (λ a front. known a (has-append_left a nodes (x ∷ []) front)) before c first
            by (inr (inl goes)) = let (y, at) = here in after_known words x c y at goes
            by (inr (inr same)) = let (y, at) = here in (y, ap (node_at words) same ∙ at)

  -- ---- nodes that are noted where they go

  -- a list has what the operation makes of another one
  abbrev pub AreMovedTo : List Node → List Node → Type 0
  AreMovedTo nodes moved = AreMoved s (λ a. has a nodes) (λ a. has a moved)

  pub moves_none : AreMovedTo [] []
  moves_none = record { along = λ a after h goes. absurd (false≢true h); from = λ a h. absurd (false≢true h) }

  module _ (nodes now new : List Node) (x : Node) (so_far : AreMovedTo nodes now) (is : new ≡ with_some (node_after s x) now) where
    pub moves_more : AreMovedTo (nodes ++ x ∷ []) new
    moves_more = record {
      along = λ a after h goes. subst (λ ns. IsTrue (has after ns)) (sym is) (⊎_elim
          (λ (front : has a nodes ≡ true). mark_stays (node_after s x) after now (so_far.along a after front goes))
          (λ (last : has a (x ∷ []) ≡ true). mark_there (node_after s x) after now (ap (node_after s) (sym (has_one a x last)) ∙ goes))
          (has-append_cases a nodes (x ∷ []) h));
      from = λ a h. ⊎_elim
          (λ (before : has a now ≡ true). let (d, there, goes) = so_far.from a before in (d, has-append_left d nodes (x ∷ []) there, goes))
          (λ (goes : node_after s x ≡ Some a). (x, has-append_right x nodes (x ∷ []) (has_first x []), goes))
          (mark_cases (node_after s x) a now (subst (λ ns. IsTrue (has a ns)) is h));
    }

  -- ---- links, marks and values that go along

  -- a node that comes from a known one is known
  from_known : (words : List (List ℕ)) (a d : Node) → from_over s a ≡ Some d → (x : book.Node) → node_at words d ≡ Some x → (y : book.Node) × (node_at words a ≡ Some y)
  from_known words (Cell q) d from x at = (book.place q, refl)
  from_known words (Name scope word) d from x at = by (drops_scope (form_of s) scope) from
    where
      by : (t : Bool) → cond t None (Some (Name scope word)) ≡ Some d → (y : book.Node) × (node_at words (Name scope word) ≡ Some y)
      by true e = absurd (none_some d e)
      by false e = (x, ap (node_at words) (same_some (Name scope word) d e) ∙ at)
  from_known words (Range block) d from x at = absurd (none_some d from)
  from_known words (Whole w) d from x at = absurd (none_some d from)

  -- what is taken along by itself
  pub alone_along : (nodes along : List Node) → AddsTaken s nodes [] along → AreAlong s nodes along
  alone_along nodes along adds = record {
    taken = adds.taken;
    from = λ a h. ⊎_elim (λ (none : IsTrue (has a [])). absurd (false≢true none)) (λ came. came) (adds.from a h);
    known = λ words known. adds.known words known (λ a none. absurd (false≢true none));
  }

  -- and what is added to marks that went along
  marks_along : IsSound s → (marks marked gone more : List Node) → marked ≡ marks → ((a : Node) → IsTrue (has a gone) ↔ ((d : Node) × IsTrue (has d marks) × (from_over s a ≡ Some d))) → AddsTaken s marked gone more → AreAlong s marks more
  marks_along sound marks marked gone more same come adds =
      let taken = subst (λ (ns : List Node). AddsTaken s ns gone more) same adds in
      record {
        taken = taken.taken;
        from = λ a h. by a (adds.from a h);
        known = λ words known. taken.known words known (λ a h. let (d, is, from) = (come a).0 h in let (x, at) = known d is in from_known words a d from x at);
      }
    where
      by : (a : Node) → IsTrue (has a gone) ⊎ ((b : Node) × IsTrue (has b marked) × ComesFrom s b a) → (b : Node) × IsTrue (has b marks) × ComesFrom s b a
      by a (inl left) = let (d, is, from) = (come a).0 left in (d, is, inl (was_at s sound a d from).0)
      by a (inr (b, is, comes)) = (b, subst (λ (ns : List Node). IsTrue (has b ns)) same is, comes)

  pub are_carried : IsSound s → (links : Links) (marks marked gone unlinked listed : List Node) (kept shown : Kept) (w : Values) → marked ≡ marks → AreShifted s links (links_in w) → ((a : Node) → IsNoRange a → shown a ≡ carried_kept (from_over s) kept a) → kept_in w ≡ shown
      → ((a : Node) → IsTrue (has a gone) ↔ ((d : Node) × IsTrue (has d marks) × (from_over s a ≡ Some d))) → listed ≡ unlinked → AddsTaken s listed [] (unlinked_in w) → AddsTaken s marked gone (marks_in w) → AreCarried s links kept marks unlinked w
  are_carried sound links marks marked gone unlinked listed kept shown w same shifted moved still come all alone adds = record {
    links = shifted;
    kept = λ a plain. ap (λ (k : Kept). k a) still ∙ moved a plain;
    marks = marks_along sound marks marked gone (marks_in w) same come adds;
    unlinked = alone_along unlinked (unlinked_in w) (subst (λ (ns : List Node). AddsTaken s ns [] (unlinked_in w)) all alone);
  }

  -- what comes from one of the nodes is where they are taken along
  came_along : (nodes more : List Node) (a b : Node) → AreTakenAlong s nodes more → IsTrue (has b nodes) → ComesFrom s b a → IsTrue (has a more)
  came_along nodes more a b taken there (inl goes) = taken.along b a there goes
  came_along nodes more a (Cell p) taken there (inr moved) = by (is_moved_cell s p) refl moved
    where
      by : (t : Bool) → is_moved_cell s p ≡ t → cond t (Some (Cell p)) None ≡ Some a → IsTrue (has a more)
      by true is e = subst (λ n. IsTrue (has n more)) (same_some (Cell p) a e) (taken.stay p is there)
      by false is e = absurd (none_some a e)
  came_along nodes more a (Name scope word) taken there (inr moved) = absurd (none_some a moved)
  came_along nodes more a (Range block) taken there (inr moved) = absurd (none_some a moved)
  came_along nodes more a (Whole w) taken there (inr moved) = absurd (none_some a moved)

  -- so what is among others still is when both are taken along
  pub among_along : (few many few_then many_then : List Node) → AreAlong s few few_then → AreTakenAlong s many many_then → AreAmong few many → AreAmong few_then many_then
  among_along few many few_then many_then one taken among a h = let (b, there, comes) = one.from a h in came_along many many_then a b taken (among b there) comes
