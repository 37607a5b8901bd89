-- How ranges are filed after a structural operation, beside how they were. Serves the shift of the graph.
use Rattle.std.proofs.Common.{◌≡◌, ◌∙◌, sym, ap, refl, subst, arith, ℕ, ◌+◌, ◌<◌, ◌↔◌, ◌⊎◌, inl, inr, Bool, true, false, cond, ◌||◌, List, [], length, get_or, nat_lt, eqb, is_some, take, unwrap_or, Option, Some, None, IsTrue}
use Rattle.std.specs.BTreeMap as tree
use Rattle.std.specs.BTreeMap.{is_at}
use Rattle.std.specs.Map.{lookup}
use Rattle.std.specs.Ordering.{nat_cmp}
use Rattle.std.specs.Prelude.{IsSome, slice_get}
use Rattle.std.specs.Option.{option_and_then, option_map}
use Rattle.std.proofs.lemmas.Bool.{eq-eqb, eqb-true, false≢true, or_right}
use Rattle.std.proofs.lemmas.Option.{same_Some}
use Rattle.cell_addr.specs.declared.place.Block.{Block}
use Rattle.cell_addr.specs.declared.place.Place.{Place}
use Rattle.needs_order.specs.Needs.{has}
use Rattle.needs_order.proofs.Lists.{has_or_not}
use Rattle.node_links.specs.Nodes.{needs_of, users_of}
use Rattle.node_links.specs.Redirect.{few_target, is_among}
use Rattle.node_links.specs.declared.links.Links.{Links}
use Rattle.place_lines.specs.Moved.{AreMoved}
use Rattle.place_lines.specs.Spots.{area_of}
use Rattle.place_lines.specs.declared.area.LineArea.{LineArea}
use Rattle.place_lines.specs.declared.lines.PlaceLines.{PlaceLines}
use Rattle.place_lines.specs.declared.spot.LineSpot.{LineSpot}
use Rattle.shift_core.specs.Form.{form_of}
use Rattle.shift_core.specs.Sound.{IsSound}
use Rattle.shift_core.specs.Tables.{place_after}
use Rattle.shift_core.specs.declared.form.Form.{Form}
use Rattle.shift_core.specs.declared.shift.Shift.{Shift}
use Rattle.touch_index.specs.Handed.{IsHandedOn, fresh_part}
use Rattle.touch_index.proofs.Staying.{block_is_somewhere}
use Rattle.dep_graph.specs.Shifted.{node_after}
use Rattle.dep_graph.specs.declared.files.Files.{Files}
use Rattle.dep_graph.specs.declared.ends.Ends.{Ends}
use Rattle.dep_graph.specs.declared.key.Key.TheVariants as key
use Rattle.dep_graph.specs.declared.net.Net.{Net}
use Rattle.dep_graph.specs.declared.node.Node.{Node}
use Rattle.dep_graph.specs.declared.node.Node.TheVariants.{Cell, Name, Range, Whole}
use Rattle.dep_graph.specs.declared.table.NodeTable.{NodeTable}
use Rattle.dep_graph.specs.internal.Arrows.{is_used}
use Rattle.dep_graph.specs.declared.serving.Serving.{Serving}
use Rattle.dep_graph.specs.internal.Files.{AreServing, FilesOn, FindsBy, FindsNode, HoldsNode, IsSpotOf, finds_filing}
use Rattle.dep_graph.specs.internal.Filings.{filing_of, filing_then, is_given, owner_at, serves_at, since}
use Rattle.dep_graph.specs.internal.Keys.{ends_of, key_of}
use Rattle.dep_graph.specs.internal.Numbers.{count_of, found_at, is_range, key_place}
use Rattle.dep_graph.specs.internal.ShiftedNumbers.{AreAllRefiled, AreFilingsUnder, AreTargets, AreUnfiled, BecomesRange, IsRefiled, StillFiled, after_at, is_linked, range_in}
use Rattle.dep_graph.specs.internal.Touches.{FindsTouched, IsHandedAt, IsHandedNode, IsUntouched, fresh_node}
use Rattle.dep_graph.specs.internal.Wholes.{fresh_whole}
use Rattle.dep_graph.proofs.Filed.{carried, held_node, kept_holds, kept_serving, present_serving, served}
use Rattle.dep_graph.proofs.FiledCells.{owner_inside, served_inside}
use Rattle.dep_graph.proofs.Numbers.{alive_inside, found_key, key_stands, mapped}
use Rattle.dep_graph.proofs.Served.{holds_by}
use Rattle.dep_graph.proofs.Targets.{Few, linked_alive, own_target}
use Rattle.dep_graph.proofs.Untouched.{taken_before, taken_cases, taken_here}
use Rattle.dep_graph.proofs.Walking.{some_of}
use Rattle.dep_graph.proofs.Wholes.{IsHandedWhole, whole_served}

-- ---- filings added

pub files_same : (files : Files) → FilesOn files files
files_same files = record { current = refl; owners = λ f low. refl; serves = λ f. refl; count = omega arith; finds = λ f low spot. refl }

pub files_on_on : (a b c : Files) → FilesOn a b → FilesOn b c → FilesOn a c
files_on_on a b c f g = record {
  current = g.current ∙ f.current;
  owners = λ i low. g.owners i (omega (arith, low, f.count)) ∙ f.owners i low;
  serves = λ i. g.serves i ∙ f.serves i;
  count = omega (arith, f.count, g.count);
  finds = λ i low spot. g.finds i (omega (arith, low, f.count)) spot ∙ f.finds i low spot;
}

-- ---- filings that serve still

one_area : (a b : LineArea) → key.Range a ≡ key.Range b → a ≡ b
one_area a b e = cc

-- a range that keeps its number and its corners is handed on
handed_block : (s : Shift) (lines : PlaceLines) (net : Net) (n : ℕ) (after : Block) → IsSound s → AreMoved (form_of s) net.nodes.lines lines → IsHandedAt (form_of s) (found_at net.nodes n) after
    → slice_get net.nodes.keys.keys n ≡ Some (key_of lines (Range after)) → (b : Block) × (found_at net.nodes n ≡ Some (Range b)) × IsHandedOn (form_of s) net.nodes.lines lines b after
handed_block s lines net n after sound moved (b, found, (inside, within, many)) stands =
    let there : Some (key.Range (area_of net.nodes.lines b)) ≡ Some (key.Range (area_of lines after))
    = sym (found_key net.nodes.lines net.nodes.keys.keys n (Range b) found) ∙ stands in
    let area : area_of net.nodes.lines b ≡ area_of lines after
    = one_area (area_of net.nodes.lines b) (area_of lines after) (same_Some (key.Range (area_of net.nodes.lines b)) (key.Range (area_of lines after)) there) in
    (b, found, record { sound = sound; moved = moved; here = inside; there = within; area = area; count = many })

one_ends : (a b : Ends) → key.Whole a ≡ key.Whole b → a ≡ b
one_ends a b e = cc

-- the first node is a range, whole or not, that is handed on to the second
abbrev IsNodeHandedOn : Form → PlaceLines → PlaceLines → Node → Node → Type 0
IsNodeHandedOn f old new (Range b) (Range c) = IsHandedOn f old new b c
IsNodeHandedOn f old new (Whole v) (Whole w) = IsHandedWhole f old new v w
IsNodeHandedOn f old new a c = ⊥

handed_node : (s : Shift) (lines : PlaceLines) (net : Net) (n : ℕ) (after : Node) → IsSound s → AreMoved (form_of s) net.nodes.lines lines → IsHandedNode (form_of s) (found_at net.nodes n) after
    → slice_get net.nodes.keys.keys n ≡ Some (key_of lines after) → (a : Node) × (found_at net.nodes n ≡ Some a) × IsNodeHandedOn (form_of s) net.nodes.lines lines a after
handed_node s lines net n (Cell p) sound moved handed stands = absurd handed
handed_node s lines net n (Name scope word) sound moved handed stands = absurd handed
handed_node s lines net n (Range c) sound moved handed stands = let (b, found, on) = handed_block s lines net n c sound moved handed stands in (Range b, found, on)
handed_node s lines net n (Whole w) sound moved (v, found, (inside, within, many)) stands =
    let there : Some (key.Whole (ends_of net.nodes.lines v)) ≡ Some (key.Whole (ends_of lines w))
    = sym (found_key net.nodes.lines net.nodes.keys.keys n (Whole v) found) ∙ stands in
    let ends : ends_of net.nodes.lines v ≡ ends_of lines w
    = one_ends (ends_of net.nodes.lines v) (ends_of lines w) (same_Some (key.Whole (ends_of net.nodes.lines v)) (key.Whole (ends_of lines w)) there) in
    (Whole v, found, record { sound = sound; moved = moved; here = inside; there = within; ends = ends; count = many })

-- the spot is one of the part of the node that comes in
abbrev IsFresh : Form → PlaceLines → Node → LineSpot → Type 0
IsFresh form lines after spot = (part : Node) × (fresh_node form after ≡ Some part) × IsSpotOf lines part spot

-- what holds a range that is handed on holds what it becomes, with the lines that come in
node_served : (form : Form) (old new : PlaceLines) (before test : LineSpot → Type 0) (a after : Node) → IsNodeHandedOn form old new a after → ((spot : LineSpot) → test spot → before spot ⊎ IsFresh form new after spot)
    → ((spot : LineSpot) → before spot → test spot) → ((spot : LineSpot) → IsFresh form new after spot → test spot) → HoldsNode old before a → HoldsNode new test after
node_served form old new before test (Cell p) after on only grows added holds = absurd holds
node_served form old new before test (Name scope word) after on only grows added holds = absurd holds
node_served form old new before test (Range b) (Cell q) on only grows added holds = absurd on
node_served form old new before test (Range b) (Name scope word) on only grows added holds = absurd on
node_served form old new before test (Range b) (Whole w) on only grows added holds = absurd on
node_served form old new before test (Whole v) (Cell q) on only grows added holds = absurd on
node_served form old new before test (Whole v) (Name scope word) on only grows added holds = absurd on
node_served form old new before test (Whole v) (Range c) on only grows added holds = absurd on
node_served form old new before test (Range b) (Range c) on only grows added holds =
    served form old new before test b c on
    (λ spot h. elim (only spot h) [
      | inl was ↦ inl was
      | inr (part, is_part, has) ↦ let (x, at, same) = mapped Range (fresh_part form c) part is_part in inr (x, at, subst (λ y. IsSpotOf new y spot) same has)
    ])
    grows (λ part spot is has. added spot (Range part, ap (option_map Range) is, has)) holds
node_served form old new before test (Whole v) (Whole w) on only grows added holds =
    whole_served form old new before test v w on
    (λ spot h. elim (only spot h) [
      | inl was ↦ inl was
      | inr (part, is_part, has) ↦ let (x, at, same) = mapped Whole (fresh_whole form w) part is_part in inr (x, at, subst (λ y. IsSpotOf new y spot) same has)
    ])
    grows (λ part spot is has. added spot (Whole part, ap (option_map Whole) is, has)) holds

-- what a filing serves, where it is told which node that is
held_there : (net : Net) (n first : ℕ) (a : Node) → filing_of net.files.current n ≡ Some first → found_at net.nodes n ≡ Some a → HoldsNode net.nodes.lines (FindsBy net.files n (since first)) a
held_there net n first a at found =
    let (x, there, holds) = held_node net.nodes.lines net.nodes.keys.keys net.files n (net.filed n first at) in
    holds_by net.files net.nodes.lines n first a at (subst (HoldsNode net.nodes.lines (FindsNode net.files n)) (same_Some x a (sym there ∙ found)) holds)

-- its filings serve what it becomes
module _ (s : Shift) (lines : PlaceLines) (net : Net) (n first : ℕ) (after : Node) (sound : IsSound s) (moved : AreMoved (form_of s) net.nodes.lines lines) (handed : IsHandedNode (form_of s) (found_at net.nodes n) after)
    (stands : slice_get net.nodes.keys.keys n ≡ Some (key_of lines after)) (at : filing_of net.files.current n ≡ Some first) where
  -- where no lines come in between
  pub present_serves : fresh_node (form_of s) after ≡ None → HoldsNode lines (FindsBy net.files n (since first)) after
  present_serves none =
      let (a, found, on) = handed_node s lines net n after sound moved handed stands in
      node_served (form_of s) net.nodes.lines lines (FindsBy net.files n (since first)) (FindsBy net.files n (since first)) a after on (λ spot h. inl h) (λ spot h. h) (λ spot put. absurd (no_part put.0 (sym none ∙ put.1)))
      (held_there net n first a at found)
    where
      no_part : (part : Node) → None ≡ Some part → ⊥
      no_part part e = cc

  -- or with a filing of those that do
  module _ (files : Files) (last : ℕ) (part : Node) (is_part : fresh_node (form_of s) after ≡ Some part) (on : FilesOn net.files files) (behind : length net.files.owners.items ≡ last)
      (owner : owner_at files.owners last ≡ Some n) (exact : (spot : LineSpot) → IsTrue (finds_filing files spot last) ↔ IsSpotOf lines part spot) where
    abbrev both : Serving
    both = record { first = first; last = last }

    first_low : first < length net.files.owners.items
    first_low = owner_inside net.files.owners.items first n (net.files.owned n first at)

    first_serves : serves_at files.serves first ≡ true
    first_serves = on.serves first ∙ net.files.served n first at

    pub both_serve : AreServing files n both
    both_serve = (
      (on.owners first first_low ∙ net.files.owned n first at, omega arith, inr first_serves),
      (owner, omega (arith, first_low, behind), inl refl),
    )

    only : (spot : LineSpot) → FindsBy files n both spot → FindsBy net.files n (since first) spot ⊎ IsFresh (form_of s) lines after spot
    only spot (f, (owns, from, which), found) = by which
      where
        by : (f ≡ last) ⊎ (serves_at files.serves f ≡ true) → FindsBy net.files n (since first) spot ⊎ IsFresh (form_of s) lines after spot
        by (inl same) = inr (part, is_part, (exact spot).0 (subst (λ g. finds_filing files spot g ≡ true) same found))
        by (inr serves) =
            let was : serves_at net.files.serves f ≡ true = sym (on.serves f) ∙ serves in
            let low : f < length net.files.owners.items = served_inside net.files f was in
            inl (f, (sym (on.owners f low) ∙ owns, from, inr was), sym (on.finds f low spot) ∙ found)

    grows : (spot : LineSpot) → FindsBy net.files n (since first) spot → FindsBy files n both spot
    grows spot (f, (owns, from, which), found) =
        let low : f < length net.files.owners.items = owner_inside net.files.owners.items f n owns in
        (f, (on.owners f low ∙ owns, from, elim which [ inl same ↦ inr (ap (serves_at files.serves) same ∙ first_serves) | inr serves ↦ inr (on.serves f ∙ serves) ]), on.finds f low spot ∙ found)

    added : (spot : LineSpot) → IsFresh (form_of s) lines after spot → FindsBy files n both spot
    added spot (p, is, has) =
        (last, (owner, omega (arith, first_low, behind), inl refl), (exact spot).1 (subst (λ x. IsSpotOf lines x spot) (same_Some p part (sym is ∙ is_part)) has))

    pub both_hold : HoldsNode lines (FindsBy files n both) after
    both_hold =
        let (a, found, handed_on) = handed_node s lines net n after sound moved handed stands in
        node_served (form_of s) net.nodes.lines lines (FindsBy net.files n (since first)) (FindsBy files n both) a after handed_on only grows added (held_there net n first a at found)

-- ---- filings by the lines after the operation

abbrev pub Filing : Type 0
Filing = ℕ → Option Serving

-- the filings that few nodes get, or none
abbrev pub Given : Type 0
Given = tree.BTreeMap ℕ (Option Serving)

nothing : {A : Type 0} (x : A) → None ≡ Some x → ⊥
nothing x e = cc

since_of : (o : Option ℕ) (all : Serving) → option_map since o ≡ Some all → (f : ℕ) × (o ≡ Some f) × (since f ≡ all)
since_of (Some f) all e = (f, refl, same_Some (since f) all e)
since_of None all e = absurd (nothing all e)

some_since : (o : Option ℕ) → IsSome o → IsSome (option_map since o)
some_since (Some f) h = refl
some_since None h = h

-- where those of the found nodes are taken away, the others serve on
pub others_serve : (s : Shift) (lines : PlaceLines) (net : Net) (found : List ℕ) (filings : Given) → IsSound s → AreMoved (form_of s) net.nodes.lines lines → FindsTouched s net.nodes found → AreUnfiled found filings
    → AreFilingsUnder lines net (filing_then filings net.files.current)
others_serve s lines net found filings sound moved finds are n all e = elim (has_or_not n found) [
  | inl h ↦ absurd (nothing all (sym (ap (λ o. unwrap_or o (option_map since (filing_of net.files.current n))) (are n ∙ ap (λ t. cond t (Some None) None) h)) ∙ e))
  | inr other ↦
      let (f, at, same) = since_of (filing_of net.files.current n) all (sym (ap (λ o. unwrap_or o (option_map since (filing_of net.files.current n))) (are n ∙ ap (λ t. cond t (Some None) None) other)) ∙ e) in
      subst Under same (by other f at)
]
  where
    Under : Serving → Type 0
    Under more = AreServing net.files n more × ((a : Node) × (slice_get net.nodes.keys.keys n ≡ Some (key_of lines a)) × HoldsNode lines (FindsBy net.files n more) a)

    by : has n found ≡ false → (f : ℕ) → filing_of net.files.current n ≡ Some f → Under (since f)
    by other f at =
        let (a, is, holds) = held_node net.nodes.lines net.nodes.keys.keys net.files n (net.filed n f at) in
        let untouched : IsUntouched s a = elim (finds n a is) [ inl h ↦ absurd (false≢true (sym other ∙ h)) | inr u ↦ u ] in
        (present_serving net.files n f at, there f a is untouched (holds_by net.files net.nodes.lines n f a at holds))
      where
        -- it is a range that is carried along
        there : (f : ℕ) (a : Node) → found_at net.nodes n ≡ Some a → IsUntouched s a → HoldsNode net.nodes.lines (FindsBy net.files n (since f)) a
            → (c : Node) × (slice_get net.nodes.keys.keys n ≡ Some (key_of lines c)) × HoldsNode lines (FindsBy net.files n (since f)) c
        there f (Cell p) is untouched holds = absurd holds
        there f (Name scope word) is untouched holds = absurd holds
        there f (Whole w) is untouched holds = absurd untouched
        there f (Range b) is untouched holds =
            let (after, goes, same) = block_is_somewhere (form_of s) net.nodes.lines lines b sound moved untouched.0 untouched.1 in (
              Range after,
              found_key net.nodes.lines net.nodes.keys.keys n (Range b) is ∙ ap Some (ap key.Range same),
              carried s net.nodes.lines lines (FindsBy net.files n (since f)) b after sound moved untouched.0 (λ bent. untouched.1 (inl bent)) (λ cut. untouched.1 (inr (inl cut))) goes same holds,
            )

module _ (lines : PlaceLines) (a b : Net) (nodes : b.nodes ≡ a.nodes) (on : FilesOn a.files b.files) where
  -- those that there were are as they were
  pub under_on : (filing : Filing) → AreFilingsUnder lines a filing → AreFilingsUnder lines b filing
  under_on filing under n all e =
      let (are, range) = under n all e in
      let (x, stands, holds) = range in
      (kept_serving a.files b.files n all on are, (x, subst (λ (t : NodeTable). slice_get t.keys.keys n ≡ Some (key_of lines x)) (sym nodes) stands, kept_holds lines a.files b.files n all x on are holds))

  -- and one more
  pub under_next : (old new : Filing) (target : ℕ) (filing : Serving) (after : Node) → AreFilingsUnder lines a old
      → ((n : ℕ) → new n ≡ cond (eqb n target) (Some filing) (old n)) → AreServing b.files target filing
      → slice_get a.nodes.keys.keys target ≡ Some (key_of lines after) → HoldsNode lines (FindsBy b.files target filing) after → AreFilingsUnder lines b new
  under_next old new target filing after under kept are stands holds n all e = by (eqb n target) refl (sym (kept n) ∙ e)
    where
      there : slice_get b.nodes.keys.keys target ≡ Some (key_of lines after)
      there = subst (λ (t : NodeTable). slice_get t.keys.keys target ≡ Some (key_of lines after)) (sym nodes) stands

      Under : ℕ → Serving → Type 0
      Under m more = AreServing b.files m more × ((x : Node) × (slice_get b.nodes.keys.keys m ≡ Some (key_of lines x)) × HoldsNode lines (FindsBy b.files m more) x)

      by : (t : Bool) → eqb n target ≡ t → cond t (Some filing) (old n) ≡ Some all → Under n all
      by true here same = subst (λ m. Under m all) (sym (eqb-true n target here)) (subst (Under target) (same_Some filing all same) (are, (after, there, holds)))
      by false other same = under_on old under n all same

-- where a filing was set
pub then_put : (old new : Given) (a b : Files) (target : ℕ) (filing : Option Serving) → ((n : ℕ) → tree.get nat_cmp new n ≡ cond (eqb n target) (Some filing) (tree.get nat_cmp old n)) → b.current ≡ a.current
    → (n : ℕ) → filing_then new b.current n ≡ cond (eqb n target) filing (filing_then old a.current n)
then_put old new a b target filing put same n = ap (λ v. filing_then new v n) same ∙ (ap (λ o. unwrap_or o (option_map since (filing_of a.current n))) (put n) ∙ by (eqb n target))
  where
    by : (t : Bool) → unwrap_or (cond t (Some filing) (tree.get nat_cmp old n)) (option_map since (filing_of a.current n)) ≡ cond t filing (filing_then old a.current n)
    by true = refl
    by false = refl

pub put_among : (old new : Given) (target count : ℕ) (filing : Option Serving) → ((n : ℕ) → tree.get nat_cmp new n ≡ cond (eqb n target) (Some filing) (tree.get nat_cmp old n)) → target < count
    → ((n : ℕ) → is_given old n ≡ true → n < count) → (n : ℕ) → is_given new n ≡ true → n < count
put_among old new target count filing put low inside n h = by (eqb n target) refl (sym (ap is_some (put n)) ∙ h)
  where
    by : (t : Bool) → eqb n target ≡ t → is_some (cond t (Some filing) (tree.get nat_cmp old n)) ≡ true → n < count
    by true here h = subst (λ m. m < count) (sym (eqb-true n target here)) low
    by false other h = inside n h

-- a filing that was put is there, and the others stay
pub put_there : (old new : Filing) (target : ℕ) (filing : Serving) → ((n : ℕ) → new n ≡ cond (eqb n target) (Some filing) (old n)) → IsSome (new target)
put_there old new target filing kept = subst IsSome (sym (kept target ∙ ap (λ t. cond t (Some filing) (old target)) (eq-eqb target target refl))) refl

pub put_stays : (old new : Filing) (target : ℕ) (filing : Serving) → ((n : ℕ) → new n ≡ cond (eqb n target) (Some filing) (old n)) → StillFiled old new
put_stays old new target filing kept n h = subst IsSome (sym (kept n)) (by (eqb n target))
  where
    by : (t : Bool) → IsSome (cond t (Some filing) (old n))
    by true = refl
    by false = h

-- ---- one after another without a filing

pub unfiled_next : (numbers : List ℕ) (i d : ℕ) (old new : Given) → i < length numbers → AreUnfiled (take i numbers) old
    → ((n : ℕ) → tree.get nat_cmp new n ≡ cond (eqb n (get_or numbers i d)) (Some None) (tree.get nat_cmp old n)) → AreUnfiled (take (i + 1) numbers) new
unfiled_next numbers i d old new inside before put n = put n ∙ by (eqb n (get_or numbers i d)) refl
  where
    by : (t : Bool) → eqb n (get_or numbers i d) ≡ t → cond t (Some None) (tree.get nat_cmp old n) ≡ cond (has n (take (i + 1) numbers)) (Some None) None
    by true here = ap (λ t. cond t (Some None) None) (sym (subst (λ m. has m (take (i + 1) numbers) ≡ true) (sym (eqb-true n (get_or numbers i d) here)) (taken_here numbers i d inside)))
    by false other = before n ∙ ap (λ t. cond t (Some None) None) (sym (elim (has_or_not n (take i numbers)) [
      | inl h ↦ taken_before numbers i n d inside h ∙ sym h
      | inr none ↦ elim (has_or_not n (take (i + 1) numbers)) [
        | inl h ↦ elim (taken_cases numbers i n d inside h) [
          | inl early ↦ absurd (false≢true (sym none ∙ early))
          | inr same ↦ absurd (false≢true (sym other ∙ eq-eqb n (get_or numbers i d) same))
        ]
        | inr h ↦ h ∙ sym none
      ]
    ]))

pub unfiled_first : (filings : Given) → filings.entries ≡ [] → AreUnfiled [] filings
unfiled_first filings none n = ap (λ es. lookup (is_at (nat_cmp n)) es) none

pub unfiled_inside : (numbers : List ℕ) (filings : Given) (count : ℕ) → AreUnfiled numbers filings → ((n : ℕ) → has n numbers ≡ true → n < count) → (n : ℕ) → is_given filings n ≡ true → n < count
unfiled_inside numbers filings count are inside n h = elim (has_or_not n numbers) [
  | inl there ↦ inside n there
  | inr other ↦ absurd (false≢true (sym (ap is_some (are n ∙ ap (λ t. cond t (Some None) None) other)) ∙ h))
]

-- the others are filed as they were
pub unfiled_still : (numbers : List ℕ) (filings : Given) (files : Files) → AreUnfiled numbers filings → (n : ℕ) → has n numbers ≡ false → IsSome (filing_of files.current n) → IsSome (filing_then filings files.current n)
unfiled_still numbers filings files are n other h =
    subst IsSome (sym (ap (λ o. unwrap_or o (option_map since (filing_of files.current n))) (are n ∙ ap (λ t. cond t (Some None) None) other))) (some_since (filing_of files.current n) h)

-- ---- the same targets by the same nodes and links

module _ (s : Shift) (lines : PlaceLines) (a b : Net) (nodes : b.nodes ≡ a.nodes) (links : b.links ≡ a.links) (target : ℕ → Option ℕ) where
  same_after : (n : ℕ) → after_at s b n ≡ after_at s a n
  same_after n = ap (λ (t : NodeTable). option_and_then (node_after s) (found_at t n)) nodes

  pub same_targets : AreTargets s lines a target → AreTargets s lines b target
  same_targets are = record {
    aims = λ n linked.
        let before : is_linked a n ≡ true = subst (λ (l : Links). (nat_lt 0 (length (needs_of l n)) || nat_lt 0 (length (users_of l n))) ≡ true) links linked in
        are.aims n before ∙ (ap (λ (t : NodeTable). option_map (λ x. key_place t (key_of lines x)) (after_at s a n)) (sym nodes) ∙ ap (option_map (λ x. key_place b.nodes (key_of lines x))) (sym (same_after n)));
    inside = λ n t low e. subst (λ (u : NodeTable). t < count_of u) (sym nodes) (are.inside n t (subst (λ (u : NodeTable). n < count_of u) nodes low) e);
  }

  pub becomes_before : (n t : ℕ) (after : Node) → BecomesRange s b target n t after → BecomesRange s a target n t after
  becomes_before n t after (used, is, moves, range) = (subst (λ (l : Links). nat_lt 0 (length (users_of l n)) ≡ true) links used, is, sym (same_after n) ∙ moves, range)

  pub refiled_before : (n : ℕ) (filing : Filing) → IsRefiled s a target n filing → IsRefiled s b target n filing
  refiled_before n filing refiled t after becomes = refiled t after (becomes_before n t after becomes)

-- ---- where a range goes

pub no_some : {A : Type 0} (x : A) → None ≡ Some x → ⊥
no_some x e = cc

-- what is taken for a range is one
pub range_is : (o : Option Node) (a : Node) → range_in o ≡ Some a → (o ≡ Some a) × (is_range (Some a) ≡ true)
range_is (Some (Range c)) a e = (e, ap is_range (sym e))
range_is (Some (Whole w)) a e = (e, ap is_range (sym e))
range_is (Some (Cell p)) a e = absurd (no_some a e)
range_is (Some (Name scope word)) a e = absurd (no_some a e)
range_is None a e = absurd (no_some a e)

-- what a node that was looked up becomes
pub moved_from : (s : Shift) (net : Net) (n : ℕ) (before result : Option Node) → before ≡ found_at net.nodes n → result ≡ range_in (option_and_then (node_after s) before) → result ≡ range_in (after_at s net n)
moved_from s net n before result is becomes = becomes ∙ ap (λ o. range_in (option_and_then (node_after s) o)) is

-- and a range is taken for one
pub is_taken : (a : Node) → is_range (Some a) ≡ true → range_in (Some a) ≡ Some a
is_taken (Range b) h = refl
is_taken (Whole w) h = refl
is_taken (Cell p) h = absurd (false≢true h)
is_taken (Name scope word) h = absurd (false≢true h)

-- the key of what a used number becomes stands at its target
pub target_stands : (s : Shift) (lines : PlaceLines) (net : Net) (target : ℕ → Option ℕ) (n t : ℕ) (x : Node) → AreTargets s lines net target → is_linked net n ≡ true → target n ≡ Some t
    → after_at s net n ≡ Some x → slice_get net.nodes.keys.keys t ≡ Some (key_of lines x)
target_stands s lines net target n t x are linked is goes =
    let aim : key_place net.nodes (key_of lines x) ≡ t = same_Some (key_place net.nodes (key_of lines x)) t (sym (are.aims n linked ∙ ap (option_map (λ y. key_place net.nodes (key_of lines y))) goes) ∙ is) in
    let inside : key_place net.nodes (key_of lines x) < count_of net.nodes = subst (λ m. m < count_of net.nodes) (sym aim) (are.inside n t (alive_inside net.nodes n (linked_alive net n linked)) is) in
    ap (slice_get net.nodes.keys.keys) (sym aim) ∙ key_stands net.nodes (key_of lines x) inside

pub used_is_linked : (net : Net) (n : ℕ) → is_used net n ≡ true → is_linked net n ≡ true
used_is_linked net n used = or_right (nat_lt 0 (length (needs_of net.links n))) (is_used net n) used

-- what is filed still, where more was filed
pub still_refiled : (s : Shift) (net : Net) (target : ℕ → Option ℕ) (n : ℕ) (old new : Filing) → StillFiled old new → IsRefiled s net target n old → IsRefiled s net target n new
still_refiled s net target n old new still refiled t after becomes = still t (refiled t after becomes)

-- ---- used ranges that aren't found

range_before : (s : Shift) (o : Option Node) (after : Node) → option_and_then (node_after s) o ≡ Some after → is_range (Some after) ≡ true → is_range o ≡ true
range_before s None after e h = absurd (nothing after e)
range_before s (Some (Range b)) after e h = refl
range_before s (Some (Whole w)) after e h = refl
range_before s (Some (Cell p)) after e h = absurd (by (place_after s p) e)
  where
    by : (o : Option Place) → option_map Cell o ≡ Some after → ⊥
    by None e = nothing after e
    by (Some q) e = false≢true (ap is_range e ∙ h)
range_before s (Some (Name scope word)) after e h = absurd (false≢true (ap is_range e ∙ h))

-- they stay themselves, and are filed as they were
pub all_refiled : (s : Shift) (net : Net) (few : Few) (found : List ℕ) (filing : Filing) → ((n : ℕ) → is_among few n ≡ true → has n found ≡ true) → ((n : ℕ) → has n found ≡ true → IsRefiled s net (few_target few) n filing)
    → ((n : ℕ) → has n found ≡ false → IsSome (filing_of net.files.current n) → IsSome (filing n)) → AreAllRefiled s net (few_target few) filing
all_refiled s net few found filing among refiled still n t after becomes = elim (has_or_not n found) [
  | inl h ↦ refiled n h t after becomes
  | inr other ↦ by other becomes
]
  where
    by : has n found ≡ false → BecomesRange s net (few_target few) n t after → IsSome (filing t)
    by other (used, is, moves, range) =
        let (user, uses) = some_of (users_of net.links n) used in
        let filed : IsSome (filing_of net.files.current n) = net.used user n (sym (net.links.exact user n) ∙ uses) (range_before s (found_at net.nodes n) after moves range) in
        let same : n ≡ t = same_Some n t (sym (own_target few n (λ h. false≢true (sym other ∙ among n h))) ∙ is) in
        subst (λ m. IsSome (filing m)) same (still n other filed)
