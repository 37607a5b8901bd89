-- Look-ups item after item, over all items and over those that aren't empty: for `taken`.
use Rattle.std.proofs.Common.{◌≡◌, ◌∙◌, sym, ap, refl, ℕ, zero, suc, ◌+◌, ◌-◌, Bool, true, false, cond, List, [], ◌∷◌, ◌++◌, Option, Some, None, is_some, replicate, map, zero-add, add-zero, arith}
use Rattle.std.specs.List.{position_from, enumerate_from}
use Rattle.std.specs.Option.{option_map, option_map_or, option_or}
use Rattle.std.specs.declared.cmp.Ordering.{Ordering}
use Rattle.std.specs.declared.cmp.Ordering.TheVariants.{Less, Equal, Greater}
use Rattle.std.specs.Ordering.{is_some_and, is_eq, is_lt, is_gt}
use Rattle.cell_value.specs.declared.scalar.Scalar.{Scalar}
use Rattle.cell_value.specs.declared.scalar.Scalar.TheVariants.{Empty, Number, Text, Truth, Fault}
use Rattle.cell_value.specs.Scalar.{is_empty}
use Rattle.std.proofs.lemmas.List.{append-nil}
use Rattle.cell_value.specs.declared.area.Filled.{Filled}
use Rattle.cell_value.specs.Filled.{are_filled, spread}
use Rattle.cell_value.proofs.Spread.{next}
use Rattle.func_args.specs.Kinds.{order_in_kind}
use Rattle.func_look.specs.declared.taken.Mode.{Mode}
use Rattle.func_look.specs.declared.taken.Mode.TheVariants.{Exact, Rising, Falling}
use Rattle.func_look.specs.Taken.{taken, last_before, last_position, before_first, compares, is_of_kind}
use Rattle.func_look.specs.internal.Search.{search, is_end, taken_at}

-- what follows an item
search-cons : (mode : Mode) (x : Scalar) (last : Option ℕ) (at : ℕ) (item : Scalar) (items : List (ℕ × Scalar))
    → search mode x last ((at, item) ∷ items) ≡ option_map_or (λ order. cond (is_end mode order) (taken_at mode last at order) (search mode x (taken_at mode last at order) items)) (order_in_kind item x) (search mode x last items)
unfolding search
search-cons mode x last at item items = refl

pub search-nil : (mode : Mode) (x : Scalar) (last : Option ℕ) → search mode x last [] ≡ last
unfolding search
search-nil mode x last = refl

-- an item of another kind is passed over
pub search-other : (mode : Mode) (x : Scalar) (last : Option ℕ) (at : ℕ) (item : Scalar) (items : List (ℕ × Scalar)) → order_in_kind item x ≡ None
    → search mode x last ((at, item) ∷ items) ≡ search mode x last items
search-other mode x last at item items e =
    search-cons mode x last at item items
    ∙ ap (λ o. option_map_or (λ order. cond (is_end mode order) (taken_at mode last at order) (search mode x (taken_at mode last at order) items)) o (search mode x last items)) e

pub search-end : (mode : Mode) (x : Scalar) (last : Option ℕ) (at : ℕ) (item : Scalar) (items : List (ℕ × Scalar)) (order : Ordering) → order_in_kind item x ≡ Some order → is_end mode order ≡ true
    → search mode x last ((at, item) ∷ items) ≡ taken_at mode last at order
search-end mode x last at item items order e f =
    search-cons mode x last at item items
    ∙ ap (λ o. option_map_or (λ order. cond (is_end mode order) (taken_at mode last at order) (search mode x (taken_at mode last at order) items)) o (search mode x last items)) e
    ∙ ap (λ b. cond b (taken_at mode last at order) (search mode x (taken_at mode last at order) items)) f

pub search-next : (mode : Mode) (x : Scalar) (last : Option ℕ) (at : ℕ) (item : Scalar) (items : List (ℕ × Scalar)) (order : Ordering) → order_in_kind item x ≡ Some order → is_end mode order ≡ false
    → search mode x last ((at, item) ∷ items) ≡ search mode x (taken_at mode last at order) items
search-next mode x last at item items order e f =
    search-cons mode x last at item items
    ∙ ap (λ o. option_map_or (λ order. cond (is_end mode order) (taken_at mode last at order) (search mode x (taken_at mode last at order) items)) o (search mode x last items)) e
    ∙ ap (λ b. cond b (taken_at mode last at order) (search mode x (taken_at mode last at order) items)) f

-- over all items ------------------------------------------------------------

abbrev moved : ℕ → Option ℕ → Option ℕ
moved k r = option_map (λ i. k + i) r

later : (k : ℕ) (r last : Option ℕ) → option_or (moved (k + 1) r) last ≡ option_or (moved k (option_or (option_map suc r) None)) last
later k None last = refl
later k (Some i) last = let e : k + 1 + i ≡ k + suc i = omega arith in ap Some e

later_some : (k : ℕ) (r last : Option ℕ) → option_or (moved (k + 1) r) (Some k) ≡ option_or (moved k (option_or (option_map suc r) (Some 0))) last
later_some k None last = let e : k ≡ k + 0 = omega arith in ap Some e
later_some k (Some i) last = let e : k + 1 + i ≡ k + suc i = omega arith in ap Some e

-- exact: the first that is equal
exact_step : (x item : Scalar) (items : List Scalar) (k : ℕ) (o : Option Ordering) → order_in_kind item x ≡ o
    → search Exact x None (enumerate_from (k + 1) items) ≡ position_from (compares is_eq x) (k + 1) items
    → search Exact x None ((k, item) ∷ enumerate_from (k + 1) items) ≡ cond (is_some_and is_eq o) (Some k) (position_from (compares is_eq x) (k + 1) items)
exact_step x item items k None e ih = search-other Exact x None k item (enumerate_from (k + 1) items) e ∙ ih
exact_step x item items k (Some Equal) e ih = search-end Exact x None k item (enumerate_from (k + 1) items) Equal e refl
exact_step x item items k (Some Less) e ih = search-next Exact x None k item (enumerate_from (k + 1) items) Less e refl ∙ ih
exact_step x item items k (Some Greater) e ih = search-next Exact x None k item (enumerate_from (k + 1) items) Greater e refl ∙ ih

exact : (x : Scalar) (items : List Scalar) (k : ℕ) → search Exact x None (enumerate_from k items) ≡ position_from (compares is_eq x) k items
exact x [] k = search-nil Exact x None
exact x (item ∷ items) k = exact_step x item items k (order_in_kind item x) refl (exact x items (k + 1))

-- what stands before the first item that compares so, of a list that begins with an item
abbrev found_before : (Ordering → Bool) → Scalar → Option Ordering → List Scalar → Option ℕ
found_before test x o items = cond (is_some_and test o) None (option_or (option_map suc (last_before test x items)) (cond (is_some o) (Some 0) None))

last_before-cons : (test : Ordering → Bool) (x item : Scalar) (items : List Scalar) → last_before test x (item ∷ items) ≡ found_before test x (order_in_kind item x) items
last_before-cons test x item items = go (is_some_and test (order_in_kind item x))
  where
    go : (b : Bool) → last_position (is_of_kind x) (cond b [] (item ∷ before_first (compares test x) items)) ≡ cond b None (option_or (option_map suc (last_before test x items)) (cond (is_some (order_in_kind item x)) (Some 0) None))
    go true = refl
    go false = refl

rising_step : (x item : Scalar) (items : List Scalar) (k : ℕ) (last : Option ℕ) (o : Option Ordering) → order_in_kind item x ≡ o
    → ((last : Option ℕ) → search Rising x last (enumerate_from (k + 1) items) ≡ option_or (moved (k + 1) (last_before is_gt x items)) last)
    → search Rising x last ((k, item) ∷ enumerate_from (k + 1) items) ≡ option_or (moved k (found_before is_gt x o items)) last
rising_step x item items k last None e ih = search-other Rising x last k item (enumerate_from (k + 1) items) e ∙ ih last ∙ later k (last_before is_gt x items) last
rising_step x item items k last (Some Greater) e ih = search-end Rising x last k item (enumerate_from (k + 1) items) Greater e refl
rising_step x item items k last (Some Less) e ih =
    search-next Rising x last k item (enumerate_from (k + 1) items) Less e refl ∙ ih (Some k) ∙ later_some k (last_before is_gt x items) last
rising_step x item items k last (Some Equal) e ih =
    search-next Rising x last k item (enumerate_from (k + 1) items) Equal e refl ∙ ih (Some k) ∙ later_some k (last_before is_gt x items) last

rising : (x : Scalar) (items : List Scalar) (k : ℕ) (last : Option ℕ) → search Rising x last (enumerate_from k items) ≡ option_or (moved k (last_before is_gt x items)) last
rising x [] k last = search-nil Rising x last
rising x (item ∷ items) k last =
    rising_step x item items k last (order_in_kind item x) refl (rising x items (k + 1)) ∙ ap (λ r. option_or (moved k r) last) (sym (last_before-cons is_gt x item items))

falling_step : (x item : Scalar) (items : List Scalar) (k : ℕ) (last : Option ℕ) (o : Option Ordering) → order_in_kind item x ≡ o
    → ((last : Option ℕ) → search Falling x last (enumerate_from (k + 1) items) ≡ option_or (moved (k + 1) (last_before is_lt x items)) last)
    → search Falling x last ((k, item) ∷ enumerate_from (k + 1) items) ≡ option_or (moved k (found_before is_lt x o items)) last
falling_step x item items k last None e ih = search-other Falling x last k item (enumerate_from (k + 1) items) e ∙ ih last ∙ later k (last_before is_lt x items) last
falling_step x item items k last (Some Less) e ih = search-end Falling x last k item (enumerate_from (k + 1) items) Less e refl
falling_step x item items k last (Some Greater) e ih =
    search-next Falling x last k item (enumerate_from (k + 1) items) Greater e refl ∙ ih (Some k) ∙ later_some k (last_before is_lt x items) last
falling_step x item items k last (Some Equal) e ih =
    search-next Falling x last k item (enumerate_from (k + 1) items) Equal e refl ∙ ih (Some k) ∙ later_some k (last_before is_lt x items) last

falling : (x : Scalar) (items : List Scalar) (k : ℕ) (last : Option ℕ) → search Falling x last (enumerate_from k items) ≡ option_or (moved k (last_before is_lt x items)) last
falling x [] k last = search-nil Falling x last
falling x (item ∷ items) k last =
    falling_step x item items k last (order_in_kind item x) refl (falling x items (k + 1)) ∙ ap (λ r. option_or (moved k r) last) (sym (last_before-cons is_lt x item items))

at_start : (r : Option ℕ) → option_or (moved 0 r) None ≡ r
at_start None = refl
at_start (Some i) = ap Some (zero-add i)

-- a look-up through all items takes what it is to take
pub search-all : (mode : Mode) (x : Scalar) (items : List Scalar) → search mode x None (enumerate_from 0 items) ≡ taken mode x items
search-all Exact x items = exact x items 0
search-all Rising x items = rising x items 0 None ∙ at_start (last_before is_gt x items)
search-all Falling x items = falling x items 0 None ∙ at_start (last_before is_lt x items)

-- over the items that aren't empty --------------------------------------------

-- an empty item is of no kind
order_in_kind-Empty : (x : Scalar) → is_empty x ≡ false → order_in_kind Empty x ≡ None
order_in_kind-Empty Empty e = cc
order_in_kind-Empty (Number n) e = refl
order_in_kind-Empty (Text t) e = refl
order_in_kind-Empty (Truth b) e = refl
order_in_kind-Empty (Fault k) e = refl

search-gap : (mode : Mode) (x : Scalar) (last : Option ℕ) (k n : ℕ) (ys : List Scalar) → is_empty x ≡ false
    → search mode x last (enumerate_from k (replicate n Empty ++ ys)) ≡ search mode x last (enumerate_from (k + n) ys)
search-gap mode x last k zero ys e = ap (λ m. search mode x last (enumerate_from m ys)) (sym (add-zero k))
search-gap mode x last k (suc n) ys e =
    let f : k + 1 + n ≡ k + suc n = omega arith in
    search-other mode x last k Empty (enumerate_from (k + 1) (replicate n Empty ++ ys)) (order_in_kind-Empty x e)
    ∙ search-gap mode x last (k + 1) n ys e ∙ ap (λ m. search mode x last (enumerate_from m ys)) f

-- a filled cell with its place
abbrev pub placed : Filled → ℕ × Scalar
placed cell = (cell.index, cell.value)

search-follows : (mode : Mode) (x : Scalar) (at : ℕ) (item : Scalar) (xs ys : List (ℕ × Scalar)) → ((last : Option ℕ) → search mode x last xs ≡ search mode x last ys)
    → (last : Option ℕ) → search mode x last ((at, item) ∷ xs) ≡ search mode x last ((at, item) ∷ ys)
search-follows mode x at item xs ys ih last =
    search-cons mode x last at item xs ∙ same (order_in_kind item x) ∙ sym (search-cons mode x last at item ys)
  where
    same : (o : Option Ordering) → option_map_or (λ order. cond (is_end mode order) (taken_at mode last at order) (search mode x (taken_at mode last at order) xs)) o (search mode x last xs)
        ≡ option_map_or (λ order. cond (is_end mode order) (taken_at mode last at order) (search mode x (taken_at mode last at order) ys)) o (search mode x last ys)
    same None = ih last
    same (Some order) = ap (λ r. cond (is_end mode order) (taken_at mode last at order) r) (ih (taken_at mode last at order))

pub search-filled : (mode : Mode) (x : Scalar) (from size : ℕ) (cells : List Filled) → is_empty x ≡ false → are_filled from size cells ≡ true
    → (last : Option ℕ) → search mode x last (enumerate_from from (spread from size cells)) ≡ search mode x last (map placed cells)
search-filled mode x from size [] e h last =
    ap (λ ys. search mode x last (enumerate_from from ys)) (sym (append-nil (replicate (size - from) Empty))) ∙ search-gap mode x last from (size - from) [] e
search-filled mode x from size (cell ∷ rest) e h last =
    let n = next from size cell rest h in
    let a = n.above in
    let at : from + (cell.index - from) ≡ cell.index = omega arith in
    search-gap mode x last from (cell.index - from) (cell.value ∷ spread (cell.index + 1) size rest) e
    ∙ ap (λ m. search mode x last (enumerate_from m (cell.value ∷ spread (cell.index + 1) size rest))) at
    ∙ search-follows mode x cell.index cell.value (enumerate_from (cell.index + 1) (spread (cell.index + 1) size rest)) (map placed rest) (search-filled mode x (cell.index + 1) size rest e n.rest) last
