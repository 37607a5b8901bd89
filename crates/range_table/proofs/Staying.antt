-- Kept summaries that stay right, and how many cells are merged. Serves the laws.
use Rattle.std.proofs.Common.{◌≡◌, ◌∙◌, sym, ap, ap₂, refl, arith, ℕ, zero, suc, ◌+◌, ◌<◌, ◌≤◌, Bool, true, false, cond, not, List, ◌∷◌, ◌++◌, map, Option, Some, None, IsSome, is_some, add-zero}
use Rattle.std.specs.FinMap.{empty, get, get-empty, get-insert, get-retain_keys, insert}
use Rattle.std.specs.List.{flat_map, range_with_len}
use Rattle.std.specs.Ordering.{eq_by_cmp}
use Rattle.std.proofs.lemmas.Option.{same_Some}
use Rattle.cell_addr.specs.Place.{covers, height, width}
use Rattle.cell_addr.specs.declared.place.Block.{Block}
use Rattle.cell_addr.specs.declared.place.Place.{Place}
use Rattle.cell_value.specs.Summary.{summary_of}
use Rattle.cell_value.specs.declared.scalar.Scalar.{Scalar}
use Rattle.cell_value.specs.declared.summary.Summary.{Summary}
use Rattle.range_table.specs.Blocks.{BlockMap, block_cmp}
use Rattle.range_table.specs.Cells.{fold, nonempty_in, row_values}
use Rattle.range_table.specs.Laws.{FewCellsAreMerged, TouchedTablesStayRight}
use Rattle.range_table.specs.Table.{AreFolds, begun, cells_left, last_row}
use Rattle.shift_core.proofs.CarriedEntries.{eq_by_cmp-decides}
use Rattle.shift_core.proofs.CellMoves.{covers-from_Covers}
use Rattle.range_table.proofs.Rows.{last_is_part, nonempty_fit, one_row}
use Rattle.range_table.proofs.Orders.{block_cmp-IsAntisymmetric, block_cmp-IsTotalOrder}

-- what is the same of each number of two ranges, one after the other, is the same of both
map_along : {X : Type 0} (f g : ℕ → X) (a b n : ℕ) → ((k : ℕ) → k < n → f (a + k) ≡ g (b + k)) → map f (range_with_len a n) ≡ map g (range_with_len b n)
map_along f g a b zero same = refl
map_along f g a b (suc n) same =
    ap₂ (λ x xs. x ∷ xs) (ap f (sym (add-zero a)) ∙ same 0 (omega arith) ∙ ap g (add-zero b))
    (map_along f g (a + 1) (b + 1) n (λ k low.
    let here : a + 1 + k ≡ a + suc k = omega arith in
    let there : b + suc k ≡ b + 1 + k = omega arith in
    ap f here ∙ same (suc k) (omega arith) ∙ ap g there))

flat_along : {X : Type 0} (f g : ℕ → List X) (a b n : ℕ) → ((k : ℕ) → k < n → f (a + k) ≡ g (b + k)) → flat_map f (range_with_len a n) ≡ flat_map g (range_with_len b n)
flat_along f g a b zero same = refl
flat_along f g a b (suc n) same =
    ap₂ (λ xs ys. xs ++ ys) (ap f (sym (add-zero a)) ∙ same 0 (omega arith) ∙ ap g (add-zero b))
    (flat_along f g (a + 1) (b + 1) n (λ k low.
    let here : a + 1 + k ≡ a + suc k = omega arith in
    let there : b + suc k ≡ b + 1 + k = omega arith in
    ap f here ∙ same (suc k) (omega arith) ∙ ap g there))

-- blocks of one size whose places have the same values, each at its offset, come to the same
pub folds_apart : (v w : Place → Scalar) (b c : Block) → height b ≡ height c → width b ≡ width c
    → ((i j : ℕ) → i < height b → j < width b → v (record { sheet = b.sheet; row = b.top + i; col = b.left + j }) ≡ w (record { sheet = c.sheet; row = c.top + i; col = c.left + j }))
    → fold v b ≡ fold w c
folds_apart v w b c heights widths alike = ap summary_of
    (flat_along (row_values v b) (row_values w c) b.top c.top (height b) (λ i low.
    map_along (λ col. v (record { sheet = b.sheet; row = b.top + i; col = col })) (λ col. w (record { sheet = c.sheet; row = c.top + i; col = col })) b.left c.left (width b) (λ j wide. alike i j low wide)
    ∙ ap (λ n. map (λ col. w (record { sheet = c.sheet; row = c.top + i; col = col })) (range_with_len c.left n)) widths)
    ∙ ap (λ n. flat_map (row_values w c) (range_with_len c.top n)) heights)

covered : (b : Block) (i j : ℕ) → i < height b → j < width b → covers b (record { sheet = b.sheet; row = b.top + i; col = b.left + j }) ≡ true
covered b i j low wide = covers-from_Covers b (record { sheet = b.sheet; row = b.top + i; col = b.left + j }) (refl, omega arith, omega arith, omega arith, omega arith)

-- a block whose places have the same values comes to the same
pub folds_alike : (v w : Place → Scalar) (b : Block) → ((p : Place) → covers b p ≡ true → v p ≡ w p) → fold v b ≡ fold w b
folds_alike v w b alike = folds_apart v w b b refl refl (λ i j low wide. alike (record { sheet = b.sheet; row = b.top + i; col = b.left + j }) (covered b i j low wide))

left_by : (t : Bool) (r : Option Summary) (s : Summary) → cond (not t) r None ≡ Some s → (t ≡ false) × (r ≡ Some s)
left_by true r s h = absurd (cc)
left_by false r s h = (refl, h)

pub touched_stay_right : TouchedTablesStayRight
touched_stay_right before after changed kept same right b s is =
    let (apart, had) = left_by (covers b changed) (get kept b) s
    (sym (get-retain_keys kept (λ x. not (covers x changed)) b (λ x tied. ap (λ y. not (covers y changed)) (sym (block_cmp-IsAntisymmetric b x tied)))) ∙ is) in
    right b s had ∙ folds_alike before after b (λ p holds. sym (same p (λ e. let bad = sym apart ∙ ap (covers b) (sym e) ∙ holds in cc)))

few-by : (values : Place → Scalar) (b : Block) → nonempty_in values (last_row b) ≤ width b → nonempty_in values (last_row b) ≤ nonempty_in values b → (r q : Option Summary)
    → (cond (is_some r) 0 (cells_left values b q) ≤ nonempty_in values b) × (IsSome r → cond (is_some r) 0 (cells_left values b q) ≡ 0) × (IsSome q → cond (is_some r) 0 (cells_left values b q) ≤ width b) × (r ≡ None → nonempty_in values (last_row b) ≤ cond (is_some r) 0 (cells_left values b q))
few-by values b last part (Some s) q = (omega arith, (λ some. refl), (λ some. omega arith), (λ none. cc))
few-by values b last part None (Some t) = (part, (λ some. cc), (λ some. last), (λ none. omega arith))
few-by values b last part None None = (omega arith, (λ some. cc), (λ some. cc), (λ none. part))

pub few_are_merged : FewCellsAreMerged
few_are_merged values kept b inside =
    let row = nonempty_fit values (last_row b) in
    let one = one_row b in
    few-by values b (omega (arith, row, one)) (last_is_part values b inside.0) (get kept b) (begun kept b)

-- nothing kept is right
pub nothing_right : (values : Place → Scalar) → AreFolds values empty
nothing_right values b s is = let none = sym (get-empty block_cmp b) ∙ is in absurd (cc)

right-by : (values : Place → Scalar) (b c : Block) (s x : Summary) (t : Bool) (r : Option Summary) → (t ≡ true → c ≡ b) → s ≡ fold values b → (r ≡ Some x → x ≡ fold values c) → cond t (Some s) r ≡ Some x → x ≡ fold values c
right-by values b c s x true r same here other is = sym (same_Some s x is) ∙ here ∙ ap (fold values) (sym (same refl))
right-by values b c s x false r same here other is = other is

-- a summary that is right may be added
pub added_right : (values : Place → Scalar) (kept : BlockMap Summary) (b : Block) (s : Summary) → s ≡ fold values b → AreFolds values kept → AreFolds values (insert kept b s)
added_right values kept b s here right c x is =
    right-by values b c s x (eq_by_cmp block_cmp c b) (get kept c) (λ t. (eq_by_cmp-decides block_cmp-IsTotalOrder block_cmp-IsAntisymmetric c b).0 t) here (right c x)
    (sym (get-insert block_cmp-IsTotalOrder kept b s c) ∙ is)
