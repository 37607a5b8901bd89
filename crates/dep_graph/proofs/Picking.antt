-- Numbers picked from a walk, from its end. Serves the order of nodes.
use Rattle.std.proofs.Common.{◌≡◌, ◌≢◌, ◌∙◌, sym, ap, refl, subst, arith, ℕ, zero, suc, ◌+◌, ◌<◌, ⊎_elim, Bool, true, false, cond, not, ◌&&◌, List, [], ◌∷◌, ◌++◌, length, get_or}
use Rattle.std.specs.List.{AllPairs}
use Rattle.std.proofs.lemmas.Bool.{false≢true}
use Rattle.std.proofs.lemmas.List.{append-nil}
use Rattle.needs_order.specs.Needs as plain
use Rattle.needs_order.proofs.Lists as lists
use Rattle.dep_graph.specs.internal.Walked.{pick, picks}

pick_has : (known : List ℕ) (n : ℕ) (mark : Bool) (m : ℕ) → plain.has m (pick known n mark) ≡ true → (n ≡ m) × (plain.has n known ≡ true) × (mark ≡ false)
pick_has known n mark m h = by (plain.has n known) mark refl refl h
  where
    one : (n m : ℕ) → plain.has m (n ∷ []) ≡ true → n ≡ m
    one n m h = ⊎_elim (λ (same : n ≡ m). same) (λ (none : false ≡ true). absurd (false≢true none)) (lists.has_cases m n [] h)

    by : (k c : Bool) → plain.has n known ≡ k → mark ≡ c → plain.has m (cond (k && not c) (n ∷ []) []) ≡ true → (n ≡ m) × (plain.has n known ≡ true) × (mark ≡ false)
    by true false ek ec there = (one n m there, ek, ec)
    by true true ek ec there = absurd (false≢true there)
    by false c ek ec there = absurd (false≢true there)

pub picked : (known : List ℕ) (n : ℕ) (mark : Bool) → plain.has n known ≡ true → mark ≡ false → pick known n mark ≡ n ∷ []
picked known n mark k c = ap (λ t. cond (t && not mark) (n ∷ []) []) k ∙ ap (λ t. cond (true && not t) (n ∷ []) []) c

-- a picked number stands in the walk, is known, and isn't marked there
pub picks_has : (known walk : List ℕ) (marks : List Bool) (m : ℕ) → plain.has m (picks known walk marks) ≡ true
    → (plain.has m known ≡ true) × ((j : ℕ) × (j < length walk) × (get_or walk j 0 ≡ m) × (get_or marks j false ≡ false))
picks_has known [] marks m h = absurd (false≢true h)
picks_has known (n ∷ walk) [] m h = absurd (false≢true h)
picks_has known (n ∷ walk) (mark ∷ marks) m h = ⊎_elim
    (λ (later : plain.has m (picks known walk marks) ≡ true). let (k, (j, inside, is, out)) = picks_has known walk marks m later in (k, (suc j, omega (arith, inside), is, out)))
    (λ (here : plain.has m (pick known n mark) ≡ true). let (same, k, out) = pick_has known n mark m here in (subst (λ x. plain.has x known ≡ true) same k, (zero, omega arith, same, out)))
    (lists.has-append_cases m (picks known walk marks) (pick known n mark) h)

-- and each such number is picked
pub has_picks : (known walk : List ℕ) (marks : List Bool) (j : ℕ) → length marks ≡ length walk → j < length walk → plain.has (get_or walk j 0) known ≡ true → get_or marks j false ≡ false
    → plain.has (get_or walk j 0) (picks known walk marks) ≡ true
has_picks known [] marks j count inside k out = absurd (omega (arith, inside))
has_picks known (n ∷ walk) [] j count inside k out = absurd (omega (arith, count))
has_picks known (n ∷ walk) (mark ∷ marks) zero count inside k out =
    lists.has-append_right n (picks known walk marks) (pick known n mark) (subst (λ l. plain.has n l ≡ true) (sym (picked known n mark k out)) (lists.has_first n []))
has_picks known (n ∷ walk) (mark ∷ marks) (suc j) count inside k out =
    lists.has-append_left (get_or walk j 0) (picks known walk marks) (pick known n mark) (has_picks known walk marks j (omega (arith, count)) (omega (arith, inside)) k out)

picks_in : (known walk : List ℕ) (marks : List Bool) (m : ℕ) → plain.has m (picks known walk marks) ≡ true → plain.has m walk ≡ true
picks_in known walk marks m h = let (k, (j, inside, is, out)) = picks_has known walk marks m h in subst (λ x. plain.has x walk ≡ true) is (lists.has_at walk j inside)

once_rest : (n : ℕ) (walk : List ℕ) → AllPairs (λ a b. a ≢ b) (n ∷ walk) → AllPairs (λ a b. a ≢ b) walk
once_rest n walk once i j d before inside = once (suc i) (suc j) d (omega (arith, before)) (omega (arith, inside))

once_first : (n : ℕ) (walk : List ℕ) → AllPairs (λ a b. a ≢ b) (n ∷ walk) → plain.has n walk ≡ true → ⊥
once_first n walk once h = let (m, inside, is) = lists.at_has n walk h in once zero (suc m) 0 (omega arith) (omega (arith, inside)) (sym is)

-- each is picked once
pub picks_once : (known walk : List ℕ) (marks : List Bool) → AllPairs (λ a b. a ≢ b) walk → AllPairs (λ a b. a ≢ b) (picks known walk marks)
picks_once known [] marks once = λ i j d before inside. absurd (omega (arith, inside))
picks_once known (n ∷ walk) [] once = λ i j d before inside. absurd (omega (arith, inside))
picks_once known (n ∷ walk) (mark ∷ marks) once =
    lists.once-append (picks known walk marks) (pick known n mark) (picks_once known walk marks (once_rest n walk once)) (one (plain.has n known && not mark) n)
    (λ a front back. let (same, k, out) = pick_has known n mark a back in once_first n walk once (subst (λ x. plain.has x walk ≡ true) (sym same) (picks_in known walk marks a front)))
  where
    one : (t : Bool) (n : ℕ) → AllPairs (λ a b. a ≢ b) (cond t (n ∷ []) [])
    one true n i j d before inside = absurd (omega (arith, before, inside))
    one false n i j d before inside = absurd (omega (arith, inside))

nil_not : (front back : List ℕ) (a : ℕ) → [] ≡ front ++ a ∷ back → ⊥
nil_not [] back a e = cc
nil_not (x ∷ front) back a e = cc

alone : (t : Bool) (n : ℕ) (more back : List ℕ) (a : ℕ) → cond t (n ∷ []) [] ≡ more ++ a ∷ back → (more ≡ []) × (a ≡ n)
alone true n [] back a e = (refl, cc)
alone true n (x ∷ more) back a e = let rest : [] ≡ more ++ a ∷ back = cc in absurd (nil_not more back a rest)
alone false n more back a e = absurd (nil_not more back a e)

one_more : (j : ℕ) → suc j ≡ 0 + 1 + j
one_more j = omega arith

next_place : (l j : ℕ) → suc (l + 1 + j) ≡ suc l + 1 + j
next_place l j = omega arith

-- before a picked number stands what is picked of the walk behind it
pub picks_split : (known walk : List ℕ) (marks : List Bool) (front back : List ℕ) (a : ℕ) → length marks ≡ length walk → picks known walk marks ≡ front ++ a ∷ back
    → (low : List ℕ) × (high : List ℕ) × (more : List Bool) × (walk ≡ low ++ a ∷ high) × (length more ≡ length high) × (front ≡ picks known high more) × ((j : ℕ) → get_or more j false ≡ get_or marks (length low + 1 + j) false)
picks_split known [] marks front back a count is = absurd (nil_not front back a is)
picks_split known (n ∷ walk) [] front back a count is = absurd (omega (arith, count))
picks_split known (n ∷ walk) (mark ∷ marks) front back a count is = ⊎_elim
    (λ (first : (rest : List ℕ) × (picks known walk marks ≡ front ++ a ∷ rest)).
    let (low, high, more, split, counts, fronts, same) = picks_split known walk marks front first.0 a (omega (arith, count)) first.1 in
    (n ∷ low, high, more, ap (λ l. n ∷ l) split, counts, fronts, λ j. same j ∙ ap (λ k. get_or (mark ∷ marks) k false) (next_place (length low) j)))
    (λ (last : (more : List ℕ) × (front ≡ picks known walk marks ++ more) × (pick known n mark ≡ more ++ a ∷ back)).
    let (none, same) = alone (plain.has n known && not mark) n last.0 back a last.2 in
    ([], walk, marks, ap (λ x. x ∷ walk) (sym same), omega (arith, count), last.1 ∙ (ap (λ l. picks known walk marks ++ l) none ∙ append-nil (picks known walk marks)), λ j. ap (λ k. get_or (mark ∷ marks) k false) (one_more j)))
    (lists.split_append (picks known walk marks) (pick known n mark) front back a is)
