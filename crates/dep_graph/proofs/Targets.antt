-- What the nodes of numbers become. Serves the shift of the graph.
use Rattle.std.proofs.Common.{◌≡◌, ◌∙◌, sym, ap, refl, subst, arith, ℕ, ◌<◌, ◌≤◌, inl, inr, ◌⊎◌, ⊎_elim, true, false, cond, List, [], length, nat_lt, eqb, is_some, unwrap_or, Option, Some, None}
use Rattle.std.specs.Prelude.{slice_get}
use Rattle.std.specs.BTreeMap as tree
use Rattle.std.specs.BTreeMap.{is_at}
use Rattle.std.specs.Map.{lookup}
use Rattle.std.specs.Ordering.{nat_cmp}
use Rattle.std.specs.Option.{option_and_then, option_map}
use Rattle.std.proofs.lemmas.Bool.{cases_Bool, cases_lt, eq-eqb, eqb-true, false≢true, or_cases, or_left, or_right}
use Rattle.std.proofs.lemmas.Option.{same_Some}
use Rattle.needs_order.specs.Needs as plain
use Rattle.needs_order.proofs.Lists as lists
use Rattle.node_links.specs.Nodes.{needs_of, users_of}
use Rattle.node_links.specs.Redirect.{few_target, is_among}
use Rattle.place_lines.specs.Moved.{AreMoved}
use Rattle.place_lines.specs.declared.lines.PlaceLines.{PlaceLines}
use Rattle.shift_core.specs.Form.{form_of}
use Rattle.shift_core.specs.Sound.{IsSound}
use Rattle.shift_core.specs.declared.shift.Shift.{Shift}
use Rattle.dep_graph.specs.Shifted.{node_after}
use Rattle.dep_graph.specs.declared.key.Key.{Key}
use Rattle.dep_graph.specs.declared.key.Key.TheVariants as key
use Rattle.dep_graph.specs.declared.net.Net.{Net}
use Rattle.dep_graph.specs.declared.node.Node.{Node}
use Rattle.dep_graph.specs.declared.table.NodeTable.{NodeTable}
use Rattle.dep_graph.specs.internal.Arrows.{is_used}
use Rattle.dep_graph.specs.internal.Keys.{key_of}
use Rattle.dep_graph.specs.internal.Nets.{Grows}
use Rattle.dep_graph.specs.internal.Numbers.{IsAlive, count_of, found_at, key_at, key_place, node_at}
use Rattle.dep_graph.specs.internal.ShiftedNumbers.{AreTargets, SetsTarget, after_at, aim_of, is_linked}
use Rattle.dep_graph.specs.internal.Touches.{FindsTouched, IsUntouched}
use Rattle.dep_graph.proofs.Growing.{more_found, more_keys, more_place}
use Rattle.dep_graph.proofs.Numbers.{alive_inside, found_key, gets, key_number}
use Rattle.dep_graph.proofs.Untouched.{stays}
use Rattle.dep_graph.proofs.Walking.{of_some, some_of}

-- the number of the key that stands there
pub own_number : (t : NodeTable) (n : ℕ) (k : Key) → n < count_of t → key_at t n ≡ k → key_place t k ≡ n
own_number t n k inside is = key_number t k n (gets t.keys.keys n (key.Name 0 0) inside ∙ ap Some is)

-- ---- linked numbers

-- the number has a link, or is linked to
abbrev IsLinked : Net → ℕ → Type 0
IsLinked net n = ((m : ℕ) × (plain.has m (needs_of net.links n) ≡ true)) ⊎ ((a : ℕ) × (plain.has n (needs_of net.links a) ≡ true))

linked_by : (net : Net) (n : ℕ) → is_linked net n ≡ true → IsLinked net n
linked_by net n h = ⊎_elim
    (λ (needing : nat_lt 0 (length (needs_of net.links n)) ≡ true). inl (some_of (needs_of net.links n) needing))
    (λ (used : is_used net n ≡ true). let (a, user) = some_of (users_of net.links n) used in inr (a, sym (net.links.exact a n) ∙ user))
    (or_cases (nat_lt 0 (length (needs_of net.links n))) (is_used net n) h)

-- the number that another is linked to is used
pub used_by : (net : Net) (a n : ℕ) → plain.has n (needs_of net.links a) ≡ true → is_used net n ≡ true
used_by net a n h = of_some (users_of net.links n) a (net.links.exact a n ∙ h)

pub used_linked : (net : Net) (a n : ℕ) → plain.has n (needs_of net.links a) ≡ true → is_linked net n ≡ true
used_linked net a n h = or_right (nat_lt 0 (length (needs_of net.links n))) (is_used net n) (used_by net a n h)

pub needing_linked : (net : Net) (a n : ℕ) → plain.has n (needs_of net.links a) ≡ true → is_linked net a ≡ true
needing_linked net a n h = or_left (nat_lt 0 (length (needs_of net.links a))) (is_used net a) (of_some (needs_of net.links a) n h)

-- a linked number has a node
pub linked_alive : (net : Net) (n : ℕ) → is_linked net n ≡ true → IsAlive net.nodes n
linked_alive net n h = ⊎_elim
    (λ (needing : (m : ℕ) × (plain.has m (needs_of net.links n) ≡ true)). (net.alive n needing.0 needing.1).0)
    (λ (used : (a : ℕ) × (plain.has n (needs_of net.links a) ≡ true)). (net.alive used.0 n used.1).1)
    (linked_by net n h)

-- what is linked in a net that grew was so before
pub linked_before : (a b : Net) (n : ℕ) → Grows a b → is_linked b n ≡ true → is_linked a n ≡ true
linked_before a b n f h = ⊎_elim
    (λ (needing : (m : ℕ) × (plain.has m (needs_of b.links n) ≡ true)). needing_linked a n needing.0 (subst (λ l. plain.has needing.0 l ≡ true) (f.needs n) needing.1))
    (λ (used : (u : ℕ) × (plain.has n (needs_of b.links u) ≡ true)). used_linked a used.0 n (subst (λ l. plain.has n l ≡ true) (f.needs used.0) used.1))
    (linked_by b n h)

-- ---- targets of numbers

abbrev pub Few : Type 0
Few = tree.BTreeMap ℕ (Option ℕ)

-- a number that isn't among them is its own target
pub own_target : (few : Few) (n : ℕ) → (is_among few n ≡ true → ⊥) → few_target few n ≡ Some n
own_target few n h = by (tree.get nat_cmp few n) h
  where
    by : (o : Option (Option ℕ)) → (is_some o ≡ true → ⊥) → unwrap_or o (Some n) ≡ Some n
    by None g = refl
    by (Some x) g = absurd (g refl)

module _ (s : Shift) (lines : PlaceLines) where
  -- the aim stays where keys are added
  pub grown_aim : (a b : Net) (n : ℕ) (target : Option ℕ) → Grows a b → n < count_of a.nodes → ((t : ℕ) → target ≡ Some t → t < count_of a.nodes) → target ≡ aim_of s lines a n → target ≡ aim_of s lines b n
  grown_aim a b n target f low inside is = by (after_at s a n) refl
    where
      same : after_at s b n ≡ after_at s a n
      same = ap (option_and_then (node_after s)) (more_found a.nodes b.nodes n f.keys f.lines low)

      number : Net → Node → ℕ
      number net x = key_place net.nodes (key_of lines x)

      by : (o : Option Node) → after_at s a n ≡ o → target ≡ aim_of s lines b n
      by None e = is ∙ (ap (option_map (number a)) e ∙ sym (ap (option_map (number b)) (same ∙ e)))
      by (Some x) e =
          let there : target ≡ Some (number a x) = is ∙ ap (option_map (number a)) e in
          there ∙ (ap Some (sym (more_place a.nodes b.nodes (key_of lines x) f.keys (inside (number a x) there))) ∙ sym (ap (option_map (number b)) (same ∙ e)))

  -- the targets of these numbers
  pub record AreTargetsOf (net : Net) (done : List ℕ) (few : Few) : Type 0 where
    pub aims : (n : ℕ) → plain.has n done ≡ true → is_linked net n ≡ true → few_target few n ≡ aim_of s lines net n
    pub inside : (n t : ℕ) → n < count_of net.nodes → few_target few n ≡ Some t → t < count_of net.nodes
    pub among : (n : ℕ) → is_among few n ≡ true → plain.has n done ≡ true
    pub low : (n : ℕ) → plain.has n done ≡ true → n < count_of net.nodes

  pub no_targets : (net : Net) (few : Few) → few.entries ≡ [] → AreTargetsOf net [] few
  no_targets net few none = record {
    aims = λ n h linked. absurd (false≢true h);
    inside = λ n t low e. subst (λ m. m < count_of net.nodes) (same_Some n t (sym (own_target few n (alone n)) ∙ e)) low;
    among = λ n h. absurd (alone n h);
    low = λ n h. absurd (false≢true h);
  }
    where
      alone : (n : ℕ) → is_among few n ≡ true → ⊥
      alone n h = false≢true (sym (ap (λ es. is_some (lookup (is_at (nat_cmp n)) es)) none) ∙ h)

  pub next_targets : (a b : Net) (done more : List ℕ) (i : ℕ) (old new : Few) (o : Option ℕ) → Grows a b → i < count_of a.nodes → AreTargetsOf a done old → SetsTarget i o old new
      → ((n : ℕ) → plain.has n more ≡ true → (plain.has n done ≡ true) ⊎ (n ≡ i)) → ((n : ℕ) → plain.has n done ≡ true → plain.has n more ≡ true) → plain.has i more ≡ true
      → (is_linked a i ≡ true → o ≡ aim_of s lines b i) → ((t : ℕ) → o ≡ Some t → t < count_of b.nodes) → AreTargetsOf b more new
  next_targets a b done more i old new o f low before sets cases early last aim inside = record {
    aims = λ n h linked. ⊎_elim
        (λ (same : eqb n i ≡ true).
        let here : n ≡ i = eqb-true n i same in
        sets.here n ∙ (ap (λ x. cond x o (few_target old n)) same ∙ (aim (subst (λ m. is_linked a m ≡ true) here (linked_before a b n f linked)) ∙ ap (aim_of s lines b) (sym here))))
        (λ (other : eqb n i ≡ false).
        let was : plain.has n done ≡ true = ⊎_elim (λ (h : plain.has n done ≡ true). h) (λ (here : n ≡ i). absurd (false≢true (sym other ∙ eq-eqb n i here))) (cases n h) in
        sets.here n ∙ (ap (λ x. cond x o (few_target old n)) other
        ∙ grown_aim a b n (few_target old n) f (before.low n was) (λ t e. before.inside n t (before.low n was) e) (before.aims n was (linked_before a b n f linked))))
        (cases_Bool (eqb n i));
    inside = λ n t within e. ⊎_elim
        (λ (same : eqb n i ≡ true). inside t (sym (sets.here n ∙ ap (λ x. cond x o (few_target old n)) same) ∙ e))
        (λ (other : eqb n i ≡ false). beyond n t within (sym (sets.here n ∙ ap (λ x. cond x o (few_target old n)) other) ∙ e))
        (cases_Bool (eqb n i));
    among = λ n h. ⊎_elim (λ (was : is_among old n ≡ true). early n (before.among n was)) (λ (is : n ≡ i). subst (λ m. plain.has m more ≡ true) (sym is) last) (sets.among n h);
    low = λ n h. ⊎_elim
        (λ (was : plain.has n done ≡ true). let below = before.low n was in omega (arith, below, more_keys a.nodes b.nodes f.keys))
        (λ (is : n ≡ i). omega (arith, is, low, more_keys a.nodes b.nodes f.keys))
        (cases n h);
  }
    where
      -- a number that is new is its own target
      beyond : (n t : ℕ) → n < count_of b.nodes → few_target old n ≡ Some t → t < count_of b.nodes
      beyond n t within e = ⊎_elim
          (λ (known : n < count_of a.nodes). let t_low = before.inside n t known e in omega (arith, t_low, more_keys a.nodes b.nodes f.keys))
          (λ (fresh : count_of a.nodes ≤ n). subst (λ m. m < count_of b.nodes) (same_Some n t (sym (own_target old n (λ h. let low_n = before.low n (before.among n h) in omega (arith, low_n, fresh))) ∙ e)) within)
          (cases_lt n (count_of a.nodes))

  -- all other linked numbers stay their own targets, since the operation doesn't touch their nodes
  pub all_targets : (a b : Net) (found : List ℕ) (few : Few) → IsSound s → AreMoved (form_of s) a.nodes.lines lines → Grows a b → FindsTouched s a.nodes found → AreTargetsOf b found few → AreTargets s lines b (few_target few)
  all_targets a b found few sound moved f finds of = record {
    aims = λ n linked. ⊎_elim
        (λ (h : plain.has n found ≡ true). of.aims n h linked)
        (λ (other : plain.has n found ≡ false). own_target few n (λ h. false≢true (sym other ∙ of.among n h)) ∙ sym (stays_itself n (linked_before a b n f linked) other))
        (lists.has_or_not n found);
    inside = of.inside;
  }
    where
      stays_itself : (n : ℕ) → is_linked a n ≡ true → plain.has n found ≡ false → aim_of s lines b n ≡ Some n
      stays_itself n linked other =
          let alive : found_at a.nodes n ≡ Some (node_at a.nodes n) = linked_alive a n linked in
          let untouched : IsUntouched s (node_at a.nodes n) = ⊎_elim (λ (h : plain.has n found ≡ true). absurd (false≢true (sym other ∙ h))) (λ (u : IsUntouched s (node_at a.nodes n)). u) (finds n (node_at a.nodes n) alive) in
          let (x, goes, same, stay) = stays s sound a.nodes.lines lines moved a.touches.index n (node_at a.nodes n) untouched in
          let there : slice_get b.nodes.keys.keys n ≡ Some (key_of lines x)
          = found_key b.nodes.lines b.nodes.keys.keys n (node_at a.nodes n) (more_found a.nodes b.nodes n f.keys f.lines (alive_inside a.nodes n alive) ∙ alive) ∙ ap Some (ap (λ l. key_of l (node_at a.nodes n)) f.lines ∙ same) in
          ap (λ o. option_map (λ y. key_place b.nodes (key_of lines y)) (option_and_then (node_after s) o)) (more_found a.nodes b.nodes n f.keys f.lines (alive_inside a.nodes n alive) ∙ alive)
          ∙ (ap (option_map (λ y. key_place b.nodes (key_of lines y))) goes ∙ ap Some (key_number b.nodes (key_of lines x) n there))
