-- Sets of nodes that stand under words. Serves what notes words that find no name, and what takes these notes along.
use Rattle.std.proofs.Common.{◌≡◌, ◌∙◌, sym, ap, subst, refl, ℕ, Bool, true, false, cond, List, [], ◌∷◌, ◌++◌, Option, Some, None, ◌⊎◌, inl, inr, ⊎_elim, length, arith, ◌<◌}
use Rattle.std.proofs.lemmas.Bool.{cases_Bool, false≢true}
use Rattle.std.specs.Prelude.{bytes_eq}
use Rattle.std.specs.Map.{lookup}
use Rattle.cell_addr.specs.Sheets.{same_name}
use Rattle.cell_addr.proofs.Listed.{folded-same_name}
use Rattle.cell_addr.specs.Text.{folded}
use Rattle.formula_tree.proofs.SameLinks.{names_alike}
use Rattle.shift_core.specs.declared.shift.Shift.{Shift}
use Rattle.dep_graph.specs.Nodes.{has, same_node}
use Rattle.dep_graph.specs.declared.node.Node.{Node}
use Rattle.folded_key.specs.Key.{text_of}
use Rattle.folded_key.specs.declared.key.FoldedKey.{FoldedKey}
use Rattle.folded_key.specs.declared.key.FoldedKey.TheVariants.{Own}
use Rattle.indexmap.specs.IndexMap.{IndexMap, get, get_by}
use Rattle.indexmap.specs.IndexSet.{IndexSet}
use Rattle.kept_values.specs.Sought.{nodes_under, noted_in, noted_under}
use Rattle.kept_values.specs.internal.TakenAlong.{AreMoved}

-- keys are the same where their texts are
abbrev pub same_key : FoldedKey → FoldedKey → Bool
same_key k j = same_name (text_of k) (text_of j)

module _ {S T : Type 0} where
  -- words that are the same have the same under them
  pub alike_under : (table : IndexMap FoldedKey (IndexSet Node S) T) (v w : List ℕ) → same_name v w ≡ true → nodes_under table v ≡ nodes_under table w
  alike_under table v w same = ap (λ u. get_by (λ j. bytes_eq u (folded (text_of j))) table) (folded-same_name v w same)

  module _ (old new : IndexMap FoldedKey (IndexSet Node S) T) (word : List ℕ) (put : Option (IndexSet Node S)) (writes : (q : FoldedKey) → get same_key new q ≡ cond (same_name word (text_of q)) put (get same_key old q)) where
    pub here : (w : List ℕ) → same_name word w ≡ true → nodes_under new w ≡ put
    here w same = writes (Own w) ∙ ap (λ t. cond t put (nodes_under old w)) same

    pub elsewhere : (w : List ℕ) → same_name word w ≡ false → nodes_under new w ≡ nodes_under old w
    elsewhere w apart = writes (Own w) ∙ ap (λ t. cond t put (nodes_under old w)) apart

    -- no other word has another node
    pub only_here : (w : List ℕ) (b : Node) → noted_under new w b ≡ cond (same_name word w) (noted_in put b) (noted_under old w b)
    only_here w b = ap (λ o. noted_in o b) (writes (Own w)) ∙ by (same_name word w)
      where
        by : (t : Bool) → noted_in (cond t put (nodes_under old w)) b ≡ cond t (noted_in put b) (noted_under old w b)
        by true = refl
        by false = refl

    -- the set that is put has what stood there, and perhaps one node more
    module _ (a : Node) (stays : (b : Node) → noted_under old word b ≡ true → noted_in put b ≡ true) (more : (b : Node) → noted_in put b ≡ true → (noted_under old word b ≡ true) ⊎ (same_node b a ≡ true)) where
      pub all_stay : (w : List ℕ) (b : Node) → noted_under old w b ≡ true → noted_under new w b ≡ true
      all_stay w b h = ⊎_elim
          (λ (same : same_name word w ≡ true). ap (λ o. noted_in o b) (here w same) ∙ stays b (ap (λ o. noted_in o b) (alike_under old word w same) ∙ h))
          (λ (apart : same_name word w ≡ false). ap (λ o. noted_in o b) (elsewhere w apart) ∙ h)
          (cases_Bool (same_name word w))

      pub only_more : (w : List ℕ) (b : Node) → noted_under new w b ≡ true → (noted_under old w b ≡ true) ⊎ (same_node b a ≡ true)
      only_more w b h = ⊎_elim
          (λ (same : same_name word w ≡ true). ⊎_elim
          (λ (first : noted_under old word b ≡ true). inl (ap (λ o. noted_in o b) (sym (alike_under old word w same)) ∙ first))
          (λ (one : same_node b a ≡ true). inr one)
          (more b (ap (λ o. noted_in o b) (sym (here w same)) ∙ h)))
          (λ (apart : same_name word w ≡ false). inl (ap (λ o. noted_in o b) (sym (elsewhere w apart)) ∙ h))
          (cases_Bool (same_name word w))

    pub is_there : (a : Node) → noted_in put a ≡ true → (w : List ℕ) → same_name w word ≡ true → noted_under new w a ≡ true
    is_there a h w same = ap (λ o. noted_in o a) (here w (names_alike.symm word w ∙ same)) ∙ h

-- nothing stands under a word of an empty table
pub nothing_under : {S T : Type 0} (table : IndexMap FoldedKey (IndexSet Node S) T) → table.entries ≡ [] → (w : List ℕ) (b : Node) → noted_under table w b ≡ false
nothing_under table empty w b = ap (λ es. noted_in (lookup (same_key (Own w)) es) b) empty

-- ---- nodes that are taken along, word by word

none_is : {X : Type 0} (x : X) → None ≡ Some x → ⊥
none_is x h = cc

-- nodes of which none is left
pub none_here : (s : Shift) (nodes is : Node → Bool) (put : List Node) → put ≡ [] → AreMoved s nodes (λ a. has a put) → ((b : Node) → is b ≡ false) → AreMoved s nodes is
none_here s nodes is put empty goes none = record {
  along = λ a after h to. absurd (false≢true (sym (ap (has after) empty) ∙ goes.along a after h to));
  from = λ a h. absurd (false≢true (sym (none a) ∙ h));
}

module _ {S T : Type 0} (s : Shift) where
  -- under each word of the start all is moved and nothing is left, or all is left and nothing is moved
  abbrev pub IsMoving : IndexMap FoldedKey (IndexSet Node S) T → IndexMap FoldedKey (IndexSet Node S) T → IndexMap FoldedKey (IndexSet Node S) T → Type 0
  IsMoving start left moved =
      (w : List ℕ) → ((nodes_under left w ≡ None) × AreMoved s (noted_under start w) (noted_under moved w)) ⊎ ((nodes_under left w ≡ nodes_under start w) × ((b : Node) → noted_under moved w b ≡ false))

  -- a set that is put where it moves to
  pub moved_here : (new : IndexMap FoldedKey (IndexSet Node S) T) (nodes : Node → Bool) (put : IndexSet Node S) (w : List ℕ) → nodes_under new w ≡ Some put → AreMoved s nodes (λ a. has a put.keys) → AreMoved s nodes (noted_under new w)
  moved_here new nodes put w is goes = record {
    along = λ a after h to. ap (λ o. noted_in o after) is ∙ goes.along a after h to;
    from = λ a h. goes.from a (sym (ap (λ o. noted_in o a) is) ∙ h);
  }

  pub at_start : (start moved : IndexMap FoldedKey (IndexSet Node S) T) → moved.entries ≡ [] → IsMoving start start moved
  at_start start moved empty w = inr (refl, nothing_under moved empty w)

  pub at_end : (start left moved : IndexMap FoldedKey (IndexSet Node S) T) → left.entries ≡ [] → IsMoving start left moved → (w : List ℕ) → AreMoved s (noted_under start w) (noted_under moved w)
  at_end start left moved empty so_far w = by (so_far w)
    where
      by : ((nodes_under left w ≡ None) × AreMoved s (noted_under start w) (noted_under moved w)) ⊎ ((nodes_under left w ≡ nodes_under start w) × ((b : Node) → noted_under moved w b ≡ false)) → AreMoved s (noted_under start w) (noted_under moved w)
      by (inl (none, goes)) = goes
      by (inr (whole, none)) = record {
        along = λ a after h to. absurd (false≢true (sym (ap (λ o. noted_in o a) (sym whole ∙ ap (lookup (same_key (Own w))) empty)) ∙ h));
        from = λ a h. absurd (false≢true (sym (none a) ∙ h));
      }

  module _ (start left next moved more : IndexMap FoldedKey (IndexSet Node S) T) (key : FoldedKey) (nodes : IndexSet Node S) (split : left.entries ≡ next.entries ++ (key, nodes) ∷ [])
      (takes : (q : FoldedKey) → get same_key next q ≡ cond (same_name (text_of key) (text_of q)) None (get same_key left q))
      (moves : (w : List ℕ) → same_name (text_of key) w ≡ true → ((b : Node) → noted_under moved w b ≡ false) → AreMoved s (λ a. has a nodes.keys) (noted_under more w))
      (others : (w : List ℕ) (b : Node) → same_name (text_of key) w ≡ false → noted_under more w b ≡ noted_under moved w b) (so_far : IsMoving start left moved) where
    gone : (w : List ℕ) → same_name (text_of key) w ≡ true → nodes_under next w ≡ None
    gone w same = takes (Own w) ∙ ap (λ t. cond t None (nodes_under left w)) same

    stays : (w : List ℕ) → same_name (text_of key) w ≡ false → nodes_under next w ≡ nodes_under left w
    stays w apart = takes (Own w) ∙ ap (λ t. cond t None (nodes_under left w)) apart

    -- what stands last is found, where nothing before it is
    last : (w : List ℕ) → same_name w (text_of key) ≡ true → (es : List (FoldedKey × IndexSet Node S)) → lookup (same_key (Own w)) es ≡ None → lookup (same_key (Own w)) (es ++ (key, nodes) ∷ []) ≡ Some nodes
    last w same [] none = ap (λ t. cond t (Some nodes) None) same
    last w same (e ∷ es) none = by (same_name w (text_of e.0)) none (last w same es)
      where
        by : (t : Bool) → cond t (Some e.1) (lookup (same_key (Own w)) es) ≡ None → (lookup (same_key (Own w)) es ≡ None → lookup (same_key (Own w)) (es ++ (key, nodes) ∷ []) ≡ Some nodes)
            → cond t (Some e.1) (lookup (same_key (Own w)) (es ++ (key, nodes) ∷ [])) ≡ Some nodes
        by true h later = absurd (none_is e.1 (sym h))
        by false h later = later h

    popped : (w : List ℕ) → same_name (text_of key) w ≡ true → nodes_under left w ≡ Some nodes
    popped w same = ap (lookup (same_key (Own w))) split ∙ last w (names_alike.symm w (text_of key) ∙ same) next.entries (gone w same)

    pub goes_on : IsMoving start next more
    goes_on w = ⊎_elim (λ (same : same_name (text_of key) w ≡ true). inl (gone w same, at same (so_far w))) (λ (apart : same_name (text_of key) w ≡ false). kept apart (so_far w)) (cases_Bool (same_name (text_of key) w))
      where
        at : same_name (text_of key) w ≡ true → ((nodes_under left w ≡ None) × AreMoved s (noted_under start w) (noted_under moved w)) ⊎ ((nodes_under left w ≡ nodes_under start w) × ((b : Node) → noted_under moved w b ≡ false))
            → AreMoved s (noted_under start w) (noted_under more w)
        at same (inl (none, goes)) = absurd (none_is nodes (sym none ∙ popped w same))
        at same (inr (whole, none)) =
            let goes = moves w same none in
            record {
              along = λ a after h to. goes.along a after (ap (λ o. noted_in o a) (sym (popped w same) ∙ whole) ∙ h) to;
              from = λ a h. let (d, is, to) = goes.from a h in (d, ap (λ o. noted_in o d) (sym whole ∙ popped w same) ∙ is, to);
            }

        kept : same_name (text_of key) w ≡ false → ((nodes_under left w ≡ None) × AreMoved s (noted_under start w) (noted_under moved w)) ⊎ ((nodes_under left w ≡ nodes_under start w) × ((b : Node) → noted_under moved w b ≡ false))
            → ((nodes_under next w ≡ None) × AreMoved s (noted_under start w) (noted_under more w)) ⊎ ((nodes_under next w ≡ nodes_under start w) × ((b : Node) → noted_under more w b ≡ false))
        kept apart (inl (none, goes)) = inl (
          stays w apart ∙ none,
          record {
            along = λ a after h to. others w after apart ∙ goes.along a after h to;
            from = λ a h. goes.from a (sym (others w a apart) ∙ h);
          },
        )
        kept apart (inr (whole, none)) = inr (stays w apart ∙ whole, λ b. others w b apart ∙ none b)

pub no_items : {X : Type 0} (xs : List X) → length xs ≡ 0 → xs ≡ []
no_items [] none = refl
no_items (x ∷ xs) none = absurd (omega (arith, none))

pub none_left : {X : Type 0} (xs : List X) → (0 < length xs → false ≡ true) → xs ≡ []
none_left [] more = refl
none_left (x ∷ xs) more = absurd (false≢true (more (omega arith)))
