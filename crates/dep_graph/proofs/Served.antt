-- The nodes that filings serve, and what cells find of them. Serves the ranges under slots.
use Rattle.std.proofs.Common.{◌≡◌, ◌∙◌, sym, ap, refl, ℕ, ◌≤◌, ◌↔◌, ◌&&◌, inl, inr, ⊎_elim, subst, Bool, true, false, cond, List, [], ◌∷◌, Option, Some, None}
use Rattle.std.specs.List.{cons_option, filter_map}
use Rattle.std.proofs.lemmas.Bool.{and_from, and_parts, false≢true, le-leb, leb-true}
use Rattle.std.proofs.lemmas.Option.{same_Some}
use Rattle.block_index.proofs.Tests.{any_has, has_any}
use Rattle.needs_order.specs.Needs as plain
use Rattle.needs_order.proofs.Lists as lists
use Rattle.place_lines.specs.declared.lines.PlaceLines.{PlaceLines}
use Rattle.place_lines.specs.declared.spot.LineSpot.{LineSpot}
use Rattle.dep_graph.specs.declared.files.Files.{Files}
use Rattle.dep_graph.specs.declared.node.Node.{Node}
use Rattle.dep_graph.specs.internal.Files.{FindsBy, FindsNode, HoldsNode, IsServing, filed_at, if_present, owner_of, slots_over}
use Rattle.dep_graph.specs.internal.Filings.{filing_of, is_since, owner_at, serves_at, since}
use Rattle.dep_graph.proofs.Filed.{holds_as}
use Rattle.dep_graph.proofs.FiledSlots.{found_at_slot, slot_of_filing}

module _ (files : Files) where
  -- the filing serves the node at present
  abbrev Serves : ℕ → ℕ → Type 0
  Serves f n = (first : ℕ) × (filing_of files.current n ≡ Some first) × IsServing files n (since first) f

  since_first : (f : ℕ) (o : Option ℕ) → is_since f o ≡ true → (first : ℕ) × (o ≡ Some first) × (first ≤ f)
  since_first f (Some first) h = (first, refl, leb-true first f h)
  since_first f None h = absurd (false≢true h)

  -- what stands for a filing is the node that it serves
  pub owner_filing : (f n : ℕ) → owner_of files f ≡ Some n → Serves f n
  owner_filing f n e = by (owner_at files.owners f) refl e
    where
      none : None ≡ Some n → ⊥
      none e = cc

      tested : (m : ℕ) (t : Bool) → owner_at files.owners f ≡ Some m → (serves_at files.serves f && is_since f (filing_of files.current m)) ≡ t → cond t (Some m) None ≡ Some n → Serves f n
      tested m true at is e =
          let (serves, later) = and_parts (serves_at files.serves f) (is_since f (filing_of files.current m)) is in
          let (first, here, from) = since_first f (filing_of files.current m) later in
          subst (Serves f) (same_Some m n e) (first, here, (at, from, inr serves))
      tested m false at is e = absurd (none e)

      by : (o : Option ℕ) → owner_at files.owners f ≡ o → if_present files f o ≡ Some n → Serves f n
      by None at e = absurd (none e)
      by (Some m) at e = tested m (serves_at files.serves f && is_since f (filing_of files.current m)) at refl e

  pub filing_owner : (f n : ℕ) → Serves f n → owner_of files f ≡ Some n
  filing_owner f n (first, at, (owner, from, which)) =
      let serves : serves_at files.serves f ≡ true = elim which [ inl same ↦ ap (serves_at files.serves) same ∙ files.served n first at | inr is ↦ is ] in
      let later : is_since f (filing_of files.current n) ≡ true = ap (is_since f) at ∙ le-leb first f from in
      ap (if_present files f) owner ∙ ap (λ t. cond t (Some n) None) (and_from (serves_at files.serves f) (is_since f (filing_of files.current n)) serves later)

  -- the nodes under a slot
  pub owner_has : (fs : List ℕ) (n : ℕ) → plain.has n (filter_map (owner_of files) fs) ≡ true → (f : ℕ) × (plain.has f fs ≡ true) × Serves f n
  owner_has [] n h = absurd (false≢true h)
  owner_has (f ∷ fs) n h = by (owner_of files f) refl (owner_has fs n) h
    where
      by : (o : Option ℕ) → owner_of files f ≡ o → (plain.has n (filter_map (owner_of files) fs) ≡ true → (g : ℕ) × (plain.has g fs ≡ true) × Serves g n) → plain.has n (cons_option o (filter_map (owner_of files) fs)) ≡ true
          → (g : ℕ) × (plain.has g (f ∷ fs) ≡ true) × Serves g n
      by None e rest h = let (g, there, at) = rest h in (g, lists.has-append_right g (f ∷ []) fs there, at)
      by (Some m) e rest h = ⊎_elim
          (λ (same : m ≡ n). (f, lists.has_first f fs, owner_filing f n (e ∙ ap Some same)))
          (λ (later : plain.has n (filter_map (owner_of files) fs) ≡ true). let (g, there, at) = rest later in (g, lists.has-append_right g (f ∷ []) fs there, at))
          (lists.has_cases n m (filter_map (owner_of files) fs) h)

  pub has_owner : (fs : List ℕ) (f n : ℕ) → plain.has f fs ≡ true → Serves f n → plain.has n (filter_map (owner_of files) fs) ≡ true
  has_owner [] f n h at = absurd (false≢true h)
  has_owner (g ∷ fs) f n h at = ⊎_elim
      (λ (same : g ≡ f). subst (λ o. plain.has n (cons_option o (filter_map (owner_of files) fs)) ≡ true) (sym (ap (owner_of files) same ∙ filing_owner f n at)) (lists.has_first n (filter_map (owner_of files) fs)))
      (λ (later : plain.has f fs ≡ true). behind (owner_of files g) (has_owner fs f n later at))
      (lists.has_cases f g fs h)
    where
      behind : (o : Option ℕ) → plain.has n (filter_map (owner_of files) fs) ≡ true → plain.has n (cons_option o (filter_map (owner_of files) fs)) ≡ true
      behind None there = there
      behind (Some m) there = lists.has-append_right n (m ∷ []) (filter_map (owner_of files) fs) there

  -- and is served from a filing on
  pub served_node : (n : ℕ) (fs : List ℕ) → plain.has n (filter_map (owner_of files) fs) ≡ true → (first : ℕ) × (filing_of files.current n ≡ Some first)
  served_node n fs h = let (f, there, (first, at, serves)) = owner_has fs n h in (first, at)

  -- a node that is served from a filing on is found by these
  pub found_by : (n first : ℕ) (spot : LineSpot) → filing_of files.current n ≡ Some first → FindsNode files n spot ↔ FindsBy files n (since first) spot
  found_by n first spot at = (goes, comes)
    where
      slots : List ℕ
      slots = slots_over files spot

      under : ℕ → Bool
      under s = plain.has n (filter_map (owner_of files) (filed_at files s))

      goes : FindsNode files n spot → FindsBy files n (since first) spot
      goes h =
          let (s, slot, is) = has_any under slots h in
          let (f, filed, (g, here, serves)) = owner_has (filed_at files s) n is in
          (f, subst (λ k. IsServing files n (since k) f) (same_Some g first (sym here ∙ at)) serves, found_at_slot files spot s f slot filed)

      comes : FindsBy files n (since first) spot → FindsNode files n spot
      comes (f, serves, found) =
          let (s, slot, filed) = slot_of_filing files spot f found in
          any_has under slots s slot (has_owner (filed_at files s) f n filed (first, at, serves))

  pub holds_by : (lines : PlaceLines) (n first : ℕ) (a : Node) → filing_of files.current n ≡ Some first → HoldsNode lines (FindsNode files n) a → HoldsNode lines (FindsBy files n (since first)) a
  holds_by lines n first a at holds = holds_as lines (FindsNode files n) (FindsBy files n (since first)) a (λ spot. found_by n first spot at) holds

  pub holds_node : (lines : PlaceLines) (n first : ℕ) (a : Node) → filing_of files.current n ≡ Some first → HoldsNode lines (FindsBy files n (since first)) a → HoldsNode lines (FindsNode files n) a
  holds_node lines n first a at holds = holds_as lines (FindsBy files n (since first)) (FindsNode files n) a (λ spot. let (goes, comes) = found_by n first spot at in (comes, goes)) holds
