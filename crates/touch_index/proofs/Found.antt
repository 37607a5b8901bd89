-- Numbers that were found, run by run and point by point. Serves the search of an index.
use Rattle.std.proofs.Common.{◌≡◌, ◌∙◌, sym, ap, refl, subst, arith, ℕ, ◌+◌, ◌<◌, ◌≤◌, ◌⊎◌, inl, inr, ⊎_elim, Bool, true, false, cond, ◌&&◌, not, List, [], ◌∷◌, ◌++◌, take, length, get_or, nat_le, nat_lt, Result, Ok, Err, IfOk, OnOk}
use Rattle.std.specs.BTreeMap.Range.{range_contains}
use Rattle.std.specs.BTreeMap.{is_at}
use Rattle.std.specs.BTreeSet.{contains, keys_between}
use Rattle.std.specs.BTreeSet as sets
use Rattle.std.specs.Cmp.{IsTotalOrder, nat_cmp_total}
use Rattle.std.specs.FinMap.{IsAntisymmetric, nat_cmp-IsAntisymmetric}
use Rattle.std.specs.List.{list_any}
use Rattle.std.specs.Ordering.{is_gt, is_le, nat_cmp, ordering_then}
use Rattle.std.specs.declared.cmp.Ordering.{Ordering}
use Rattle.std.specs.declared.cmp.Ordering.TheVariants.{Less, Equal, Greater}
use Rattle.std.specs.declared.ops.Bound.TheVariants.{Included, Excluded}
use Rattle.std.specs.declared.ops.Range.{Range}
use Rattle.std.proofs.lemmas.Bool.{and_from, and_parts, false≢true, or_cases, or_left, or_right}
use Rattle.std.proofs.lemmas.Bool.Decides.{nat_tests}
use Rattle.std.proofs.lemmas.Cmp.{then_total, on_total}
use Rattle.std.proofs.lemmas.List.{take_all, take_more}
use Rattle.std.proofs.lemmas.List.Folds.{list_any_more}
use Rattle.std.proofs.lemmas.Map.Views.{any-filter_same}
use Rattle.shift_core.proofs.CarriedEntries.{eq_by_cmp-decides}
use Rattle.needs_order.specs.Needs.{has}
use Rattle.needs_order.proofs.Lists.{has-append_left, has-append_right, has_first}
use Rattle.place_lines.specs.Spots.{in_runs}
use Rattle.touch_index.specs.declared.point.Point.{Point}
use Rattle.touch_index.specs.internal.Points.{StillFound, first_point, is_between, point_cmp}

-- ---- the order of points

pub point_cmp-IsTotalOrder : IsTotalOrder point_cmp
point_cmp-IsTotalOrder =
    then_total (on_total (λ (p : Point). p.sheet) nat_cmp_total) (then_total (on_total (λ (p : Point). p.line) nat_cmp_total)
    (then_total (on_total (λ (p : Point). p.across) nat_cmp_total) (on_total (λ (p : Point). p.number) nat_cmp_total)))

first-equal : (a b : Ordering) → ordering_then a b ≡ Equal → a ≡ Equal
first-equal Less b e = cc
first-equal Equal b e = refl
first-equal Greater b e = cc

second-equal : (a b : Ordering) → ordering_then a b ≡ Equal → b ≡ Equal
second-equal Less b e = cc
second-equal Equal b e = e
second-equal Greater b e = cc

pub point_cmp-IsAntisymmetric : IsAntisymmetric point_cmp
point_cmp-IsAntisymmetric x y e =
    let rest = second-equal (nat_cmp x.sheet y.sheet) (ordering_then (nat_cmp x.line y.line) (ordering_then (nat_cmp x.across y.across) (nat_cmp x.number y.number))) e in
    let last = second-equal (nat_cmp x.line y.line) (ordering_then (nat_cmp x.across y.across) (nat_cmp x.number y.number)) rest in
    let sheet = nat_cmp-IsAntisymmetric x.sheet y.sheet (first-equal _ (ordering_then (nat_cmp x.line y.line) (ordering_then (nat_cmp x.across y.across) (nat_cmp x.number y.number))) e) in
    let line = nat_cmp-IsAntisymmetric x.line y.line (first-equal _ (ordering_then (nat_cmp x.across y.across) (nat_cmp x.number y.number)) rest) in
    let across = nat_cmp-IsAntisymmetric x.across y.across (first-equal _ (nat_cmp x.number y.number) last) in
    let number = nat_cmp-IsAntisymmetric x.number y.number (second-equal (nat_cmp x.across y.across) _ last) in
    λ i. record { sheet = sheet i; line = line i; across = across i; number = number i }

same_point_test : (p q : Point) → is_at (point_cmp p) q ≡ true → p ≡ q
same_point_test p q h = (eq_by_cmp-decides point_cmp-IsTotalOrder point_cmp-IsAntisymmetric p q).0 h

-- ---- points between two others

-- those of a set that are between are listed
pub listed_between : (points : sets.BTreeSet Point) (first end p : Point) → contains point_cmp points p ≡ true → is_between first end p ≡ true
    → list_any (is_at (point_cmp p)) (keys_between point_cmp (Included first) (Excluded end) points) ≡ true
listed_between points first end p there between =
    any-filter_same (is_at (point_cmp p)) (range_contains point_cmp (Included first) (Excluded end)) true
    (λ k same. ap (range_contains point_cmp (Included first) (Excluded end)) (sym (same_point_test p k same)) ∙ between) points.keys
    ∙ there

-- each point between is found, or listed still
abbrev pub AreAhead : sets.BTreeSet Point → Point → Point → List ℕ → List Point → Type 0
AreAhead points first end found rest =
    (p : Point) → contains point_cmp points p ≡ true → is_between first end p ≡ true → (has p.number found ≡ true) ⊎ (list_any (is_at (point_cmp p)) rest ≡ true)

pub ahead_first : (points : sets.BTreeSet Point) (first end : Point) (found : List ℕ) (rest range : List Point) → rest ≡ range → range ≡ keys_between point_cmp (Included first) (Excluded end) points
    → AreAhead points first end found rest
ahead_first points first end found rest range same is p there between =
    inr (subst (λ ks. list_any (is_at (point_cmp p)) ks ≡ true) (sym (same ∙ is)) (listed_between points first end p there between))

pub ahead_next : (points : sets.BTreeSet Point) (first end k : Point) (old new : List ℕ) (rest : List Point) → new ≡ old ++ k.number ∷ [] → AreAhead points first end old (k ∷ rest) → AreAhead points first end new rest
ahead_next points first end k old new rest pushed ahead p there between =
    let to : has p.number (old ++ k.number ∷ []) ≡ true → has p.number new ≡ true = λ h. subst (λ ns. has p.number ns ≡ true) (sym pushed) h in ⊎_elim
    (λ (found : has p.number old ≡ true). inl (to (has-append_left p.number old (k.number ∷ []) found)))
    (λ (listed : list_any (is_at (point_cmp p)) (k ∷ rest) ≡ true). ⊎_elim
    (λ (here : is_at (point_cmp p) k ≡ true).
    let same : k.number ≡ p.number = ap (λ x. x.number) (sym (same_point_test p k here)) in
    inl (to (has-append_right p.number old (k.number ∷ []) (subst (λ n. has n (k.number ∷ []) ≡ true) same (has_first k.number [])))))
    (λ (later : list_any (is_at (point_cmp p)) rest ≡ true). inr later)
    (or_cases (is_at (point_cmp p) k) (list_any (is_at (point_cmp p)) rest) listed))
    (ahead p there between)

pub ahead_last : (points : sets.BTreeSet Point) (first end : Point) (found : List ℕ) → AreAhead points first end found [] → (p : Point) → contains point_cmp points p ≡ true → is_between first end p ≡ true → has p.number found ≡ true
ahead_last points first end found ahead p there between = ⊎_elim (λ (here : has p.number found ≡ true). here) (λ h. absurd (false≢true h)) (ahead p there between)

-- what follows from what a result says
pub on_ok : {A B : Type 0} (r : Result A B) (P Q : Type 0) → OnOk r P → (P → Q) → OnOk r Q
on_ok (Ok _) P Q p follows = follows p
on_ok (Err _) P Q p follows = tt

pub if_ok : {A B : Type 0} (r : Result A B) (P Q : A → Type 0) → IfOk r P → ((a : A) → P a → Q a) → IfOk r Q
if_ok (Ok a) P Q p follows = follows a p
if_ok (Err _) P Q p follows = tt

pub still_pushed : (before old new : List ℕ) (n : ℕ) → new ≡ old ++ n ∷ [] → StillFound before old → StillFound before new
still_pushed before old new n pushed still m h = subst (λ ns. has m ns ≡ true) (sym pushed) (has-append_left m old (n ∷ []) (still m h))

pub still_appended : (old new more : List ℕ) → new ≡ old ++ more → StillFound old new
still_appended old new more is m h = subst (λ ns. has m ns ≡ true) (sym is) (has-append_left m old more h)

pub still_still : (a b c : List ℕ) → StillFound a b → StillFound b c → StillFound a c
still_still a b c f g n h = g n (f n h)

-- ---- the bounds of some lines, and of some lines of the other axis on one

pub lines_forward : (sheet first end : ℕ) → first < end
    → is_gt (ordering_then (nat_cmp sheet sheet) (ordering_then (nat_cmp first end) (ordering_then (nat_cmp 0 0) (nat_cmp 0 0)))) ≡ false
lines_forward sheet first end lt = grind (arith, nat_tests)

from_line : (sheet first s l a n : ℕ) → s ≡ sheet → first ≤ l → is_le (ordering_then (nat_cmp sheet s) (ordering_then (nat_cmp first l) (ordering_then (nat_cmp 0 a) (nat_cmp 0 n)))) ≡ true
from_line sheet first s l a n e le = grind (arith, nat_tests)

to_line : (sheet end s l a n : ℕ) → s ≡ sheet → l < end → is_le (ordering_then (nat_cmp sheet s) (ordering_then (nat_cmp end l) (ordering_then (nat_cmp 0 a) (nat_cmp 0 n)))) ≡ false
to_line sheet end s l a n e lt = grind (arith, nat_tests)

both : (a b : Bool) → a ≡ true → b ≡ false → (a && not b) ≡ true
both true false e f = refl
both true true e f = cc
both false b e f = cc

pub between_lines : (sheet first end : ℕ) (p : Point) → p.sheet ≡ sheet → first ≤ p.line → p.line < end → is_between (first_point sheet first 0) (first_point sheet end 0) p ≡ true
between_lines sheet first end p e low high =
    both _ _ (from_line sheet first p.sheet p.line p.across p.number e low) (to_line sheet end p.sheet p.line p.across p.number e high)

pub part_forward : (sheet line first end : ℕ) → first < end
    → is_gt (ordering_then (nat_cmp sheet sheet) (ordering_then (nat_cmp line line) (ordering_then (nat_cmp first end) (nat_cmp 0 0)))) ≡ false
part_forward sheet line first end lt = grind (arith, nat_tests)

from_part : (sheet line first s l a n : ℕ) → s ≡ sheet → l ≡ line → first ≤ a → is_le (ordering_then (nat_cmp sheet s) (ordering_then (nat_cmp line l) (ordering_then (nat_cmp first a) (nat_cmp 0 n)))) ≡ true
from_part sheet line first s l a n e f le = grind (arith, nat_tests)

to_part : (sheet line end s l a n : ℕ) → s ≡ sheet → l ≡ line → a < end → is_le (ordering_then (nat_cmp sheet s) (ordering_then (nat_cmp line l) (ordering_then (nat_cmp end a) (nat_cmp 0 n)))) ≡ false
to_part sheet line end s l a n e f lt = grind (arith, nat_tests)

pub between_parts : (sheet line first end : ℕ) (p : Point) → p.sheet ≡ sheet → p.line ≡ line → first ≤ p.across → p.across < end → is_between (first_point sheet line first) (first_point sheet line end) p ≡ true
between_parts sheet line first end p e f low high =
    both _ _ (from_part sheet line first p.sheet p.line p.across p.number e f low) (to_part sheet line end p.sheet p.line p.across p.number e f high)

-- ---- runs gone by

abbrev pub is_in_run : ℕ → Range ℕ → Bool
is_in_run line r = nat_le r.start line && nat_lt line r.end

-- a line in the runs gone by and the next one is in the former, or in the latter
pub run_cases : (runs : List (Range ℕ)) (i : ℕ) (d : Range ℕ) (line : ℕ) → i < length runs → in_runs (take (i + 1) runs) line ≡ true
    → (in_runs (take i runs) line ≡ true) ⊎ (((get_or runs i d).start ≤ line) × (line < (get_or runs i d).end))
run_cases runs i d line inside h = ⊎_elim
    (λ (before : in_runs (take i runs) line ≡ true). inl before)
    (λ (here : is_in_run line (get_or runs i d) ≡ true).
    let parts = and_parts (nat_le (get_or runs i d).start line) (nat_lt line (get_or runs i d).end) here in
    inr (grind (arith, nat_tests, parts.0), grind (arith, nat_tests, parts.1)))
    (any_last (is_in_run line) (take i runs) (get_or runs i d) (subst (λ rs. in_runs rs line ≡ true) (take_more runs i d inside) h))
  where
    any_last : {X : Type 0} (q : X → Bool) (xs : List X) (x : X) → list_any q (xs ++ x ∷ []) ≡ true → (list_any q xs ≡ true) ⊎ (q x ≡ true)
    any_last q [] x h = ⊎_elim (λ (p : q x ≡ true). inr p) (λ (n : false ≡ true). absurd (false≢true n)) (or_cases (q x) false h)
    any_last q (y ∷ xs) x h = ⊎_elim
        (λ (p : q y ≡ true). inl (or_left (q y) (list_any q xs) p))
        (λ (p : list_any q (xs ++ x ∷ []) ≡ true). ⊎_elim (λ (a : list_any q xs ≡ true). inl (or_right (q y) (list_any q xs) a)) (λ (b : q x ≡ true). inr b) (any_last q xs x p))
        (or_cases (q y) (list_any q (xs ++ x ∷ [])) h)

-- ---- sets that grow

pub set_grows : (old new : sets.BTreeSet Point) (k q : Point) → sets.Updates point_cmp old new k true → contains point_cmp old q ≡ true → contains point_cmp new q ≡ true
set_grows old new k q updates h = updates.0 q ∙ kept (is_at (point_cmp k) q) (contains point_cmp old q) h
  where
    kept : (t b : Bool) → b ≡ true → cond t true b ≡ true
    kept true b e = refl
    kept false b e = e

pub same_set : (old new : sets.BTreeSet Point) (q : Point) → new.keys ≡ old.keys → contains point_cmp old q ≡ true → contains point_cmp new q ≡ true
same_set old new q same h = ap (list_any (is_at (point_cmp q))) same ∙ h

pub points_grow : (rows cols more_rows more_cols : sets.BTreeSet Point) (p q : Point) → ((p : Point) → contains point_cmp rows p ≡ true → contains point_cmp more_rows p ≡ true) → ((p : Point) → contains point_cmp cols p ≡ true → contains point_cmp more_cols p ≡ true)
    → (contains point_cmp rows p && contains point_cmp cols q) ≡ true → (contains point_cmp more_rows p && contains point_cmp more_cols q) ≡ true
points_grow rows cols more_rows more_cols p q by_rows by_cols h =
    let parts = and_parts (contains point_cmp rows p) (contains point_cmp cols q) h in and_from (contains point_cmp more_rows p) (contains point_cmp more_cols q) (by_rows p parts.0) (by_cols q parts.1)

-- ---- what is found run by run

-- what a test of runs asks is found on the runs gone by, and on one more
pub found_next : (runs : List (Range ℕ)) (i : ℕ) (d : Range ℕ) (line n : ℕ) (old new : List ℕ) → i < length runs → StillFound old new → (in_runs (take i runs) line ≡ true → has n old ≡ true)
    → ((get_or runs i d).start ≤ line → line < (get_or runs i d).end → has n new ≡ true) → in_runs (take (i + 1) runs) line ≡ true → has n new ≡ true
found_next runs i d line n old new inside still before here h = ⊎_elim
    (λ (gone : in_runs (take i runs) line ≡ true). still n (before gone))
    (λ (now : ((get_or runs i d).start ≤ line) × (line < (get_or runs i d).end)). here now.0 now.1)
    (run_cases runs i d line inside h)

pub on_all : (runs : List (Range ℕ)) (i : ℕ) (line : ℕ) → length runs ≤ i → in_runs runs line ≡ true → in_runs (take i runs) line ≡ true
on_all runs i line past h = subst (λ rs. in_runs rs line ≡ true) (sym (take_all i runs past)) h

pub on_none : (line : ℕ) (P : Type 0) → in_runs [] line ≡ true → P
on_none line P h = absurd (false≢true h)

-- ---- what is filed under slots

pub slots_next : (lists : ℕ → List ℕ) (slots : List ℕ) (i d n : ℕ) (old new : List ℕ) → i < length slots → new ≡ old ++ lists (get_or slots i d) → (list_any (λ s. has n (lists s)) (take i slots) ≡ true → has n old ≡ true)
    → list_any (λ s. has n (lists s)) (take (i + 1) slots) ≡ true → has n new ≡ true
slots_next lists slots i d n old new inside added before h =
    let to : has n (old ++ lists (get_or slots i d)) ≡ true → has n new ≡ true = λ e. subst (λ ns. has n ns ≡ true) (sym added) e in ⊎_elim
    (λ (gone : list_any (λ s. has n (lists s)) (take i slots) ≡ true). to (has-append_left n old (lists (get_or slots i d)) (before gone)))
    (λ (here : has n (lists (get_or slots i d)) ≡ true). to (has-append_right n old (lists (get_or slots i d)) here))
    (or_cases (list_any (λ s. has n (lists s)) (take i slots)) (has n (lists (get_or slots i d))) (sym (list_any_more (λ s. has n (lists s)) slots i d inside) ∙ h))
