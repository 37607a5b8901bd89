-- The cells of a block and of its last row, and their numbers. Serves the summary of a block.
use Rattle.std.proofs.Common.{◌≡◌, ◌∙◌, sym, ap, ap₂, refl, subst, arith, ℕ, zero, suc, ◌+◌, ◌-◌, ◌*◌, ◌<◌, ◌≤◌, ◌^◌, Bool, true, false, cond, List, [], ◌++◌, length, length-append, Option, Some, None}
use Rattle.std.specs.FinMap as fin
use Rattle.std.specs.List.{flat_map, range_with_len}
use Rattle.std.specs.Option.{IfSome}
use Rattle.std.specs.Prelude.{nat_lt, option_and_then}
use Rattle.std.proofs.Math.Nat.{mul-le-mul, suc-mul}
use Rattle.std.proofs.lemmas.Bool.Decides.{nat_tests}
use Rattle.std.proofs.lemmas.List.{append-nil}
use Rattle.std.proofs.lemmas.List.FromFn.{length-map-range_with_len}
use Rattle.std.proofs.lemmas.Option.{same_Some}
use Rattle.cell_addr.specs.Place.{IsBlockInside, height, width}
use Rattle.cell_addr.specs.declared.place.Block.{Block}
use Rattle.cell_addr.specs.declared.place.Place.{Place}
use Rattle.cell_addr.specs.declared.place.TheConstants.{COLS, ROWS}
use Rattle.cell_value.specs.Summary.{no_values, summary_of}
use Rattle.cell_value.specs.declared.scalar.Scalar.{Scalar}
use Rattle.cell_value.specs.declared.summary.Summary.{Summary}
use Rattle.range_table.specs.Blocks.{BlockMap}
use Rattle.range_table.specs.Cells.{block_values, cells_in, fold, nonempty, nonempty_in, row_values}
use Rattle.range_table.specs.Table.{AreFolds, begun, last_row, without_last_row}
use Rattle.range_table.specs.internal.Rows.{Begins}
use Rattle.range_table.proofs.Sums.{flat-more, nonempty-append, nonempty-few, summary_of-count}

pub nothing_yet : no_values ≡ summary_of []
unfolding summary_of
nothing_yet = refl

-- a block of at most so many cells
pub cells_fit : (b : Block) → IsBlockInside b → cells_in b ≤ ROWS * COLS
cells_fit b (rows, bottom, cols, right) =
    let high : height b ≤ ROWS = omega arith in
    let wide : width b ≤ COLS = omega arith in
    mul-le-mul high wide

pub one_row : (b : Block) → cells_in (last_row b) ≡ width b
one_row b =
    let one : suc b.bottom - b.bottom ≡ 1 = omega arith in
    ap (λ k. k * width b) one ∙ (let is = suc-mul 0 (width b) in omega (arith, is))

rows-length : (values : Place → Scalar) (b : Block) (from n : ℕ) → length (flat_map (row_values values b) (range_with_len from n)) ≡ n * width b
rows-length values b from zero = omega arith
rows-length values b from (suc n) =
    length-append (row_values values b from) (flat_map (row_values values b) (range_with_len (from + 1) n))
    ∙ ap₂ (λ x y. x + y) (length-map-range_with_len (λ col. values (record { sheet = b.sheet; row = from; col = col })) b.left (width b)) (rows-length values b (from + 1) n)
    ∙ (let more = suc-mul n (width b) in omega arith)

pub fold_count : (values : Place → Scalar) (b : Block) → (fold values b).count ≤ cells_in b
fold_count values b = let all = rows-length values b b.top (height b) in let few = summary_of-count (block_values values b) in omega (arith, all, few)

-- no more cells aren't empty than there are
pub nonempty_fit : (values : Place → Scalar) (b : Block) → nonempty_in values b ≤ cells_in b
nonempty_fit values b = let all = rows-length values b b.top (height b) in let few = nonempty-few (block_values values b) in omega (arith, all, few)

-- and no more in the last row than in all
pub last_is_part : (values : Place → Scalar) (b : Block) → b.top ≤ b.bottom → nonempty_in values (last_row b) ≤ nonempty_in values b
last_is_part values b rows =
    let f = row_values values b in
    let n = b.bottom - b.top in
    let above = flat_map f (range_with_len b.top n) in
    let one : suc b.bottom - b.bottom ≡ 1 = omega arith in
    let end : b.top + n ≡ b.bottom = omega (arith, rows) in
    let all : height b ≡ n + 1 = omega (arith, rows) in
    let last : block_values values (last_row b) ≡ f b.bottom = ap (λ k. flat_map f (range_with_len b.bottom k)) one ∙ append-nil (f b.bottom) in
    let whole : nonempty (block_values values b) ≡ nonempty above ++ nonempty (f b.bottom) =
    ap (λ k. nonempty (flat_map f (range_with_len b.top k))) all ∙ ap nonempty (flat-more f b.top n b.bottom end) ∙ nonempty-append above (f b.bottom) in
    let of_last = ap (λ (xs : List Scalar). length (nonempty xs)) last in
    let of_whole = ap (λ (xs : List Scalar). length xs) whole ∙ length-append (nonempty above) (nonempty (f b.bottom)) in
    omega (arith, of_last, of_whole)

shorter-by : (b rest : Block) (t : Bool) → nat_lt b.top b.bottom ≡ t → cond t (Some (record b { bottom = b.bottom - 1 })) None ≡ Some rest → (b.top < b.bottom) × (record b { bottom = b.bottom - 1 } ≡ rest)
shorter-by b rest true e h = (grind (arith, nat_tests), same_Some (record b { bottom = b.bottom - 1 }) rest h)
shorter-by b rest false e h = absurd (cc)

shorter : (b rest : Block) → without_last_row b ≡ Some rest → (b.top < b.bottom) × (record b { bottom = b.bottom - 1 } ≡ rest)
shorter b rest h = shorter-by b rest (nat_lt b.top b.bottom) refl h

pub rest_inside : (b rest : Block) → IsBlockInside b → without_last_row b ≡ Some rest → IsBlockInside rest
rest_inside b rest (rows, bottom, cols, right) h = let (two, is) = shorter b rest h in subst IsBlockInside is (omega arith, omega arith, cols, right)

-- the cells above the last row, and then those of the last row, are all
split : (values : Place → Scalar) (b : Block) → b.top < b.bottom → block_values values (record b { bottom = b.bottom - 1 }) ++ block_values values (last_row b) ≡ block_values values b
split values b two =
    let f = row_values values b in
    let n = suc (b.bottom - 1) - b.top in
    let one : suc b.bottom - b.bottom ≡ 1 = omega arith in
    let end : b.top + n ≡ b.bottom = omega arith in
    let all : n + 1 ≡ height b = omega arith in
    ap (λ ys. flat_map f (range_with_len b.top n) ++ ys) (ap (λ k. flat_map f (range_with_len b.bottom k)) one ∙ append-nil (f b.bottom))
    ∙ sym (flat-more f b.top n b.bottom end)
    ∙ ap (λ k. flat_map f (range_with_len b.top k)) all

pub joins : (values : Place → Scalar) (b rest : Block) → without_last_row b ≡ Some rest → block_values values rest ++ block_values values (last_row b) ≡ block_values values b
joins values b rest h = let (two, is) = shorter b rest h in ap (λ r. block_values values r ++ block_values values (last_row b)) (sym is) ∙ split values b two

-- what is begun leaves room for the count of the last row
pub begun_fits : (values : Place → Scalar) (b : Block) (s : Summary) → IsBlockInside b → Begins values b s → s.count + cells_in (last_row b) < 2 ^ 64
begun_fits values b s inside (rest, (is, sum)) =
    let (rows, bottom, cols, right) = inside in
    let above = cells_fit rest (rest_inside b rest inside is) in
    let last = cells_fit (last_row b) (omega arith, bottom, cols, right) in
    let count = fold_count values rest in
    let same = ap (λ (x : Summary). x.count) sum in
    omega (arith, above, last, count, same)

begins-by : (values : Place → Scalar) (kept : BlockMap Summary) (b : Block) → AreFolds values kept → (r : Option Block) → without_last_row b ≡ r → (q : Option Summary) → option_and_then (fin.get kept) r ≡ q → IfSome q (Begins values b)
begins-by values kept b right r e None h = tt
begins-by values kept b right None e (Some s) h = cc
begins-by values kept b right (Some rest) e (Some s) h = (rest, (e, right rest s h))

-- what is kept for the block without its last row begins its summary
pub begins : (values : Place → Scalar) (kept : BlockMap Summary) (b : Block) → AreFolds values kept → IfSome (begun kept b) (Begins values b)
begins values kept b right = begins-by values kept b right (without_last_row b) refl (begun kept b) refl
