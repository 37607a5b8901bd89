-- The cells that a criterion chooses, over the filled ones: for SUMIF.
use Rattle.std.proofs.Common.{◌≡◌, ◌∙◌, sym, ap, refl, ℕ, zero, suc, ◌+◌, ◌-◌, ◌<◌, ◌≤◌, Bool, true, false, cond, List, [], ◌∷◌, ◌++◌, replicate, length, map, take, drop, get_or, arith}
use Rattle.std.specs.List.{filter}
use Rattle.std.proofs.lemmas.List.{take_more, map-append, append-nil, drop_more, drop-drop, length-drop}
use Rattle.std.proofs.lemmas.List.Elements.{filter-append}
use Rattle.cell_value.specs.declared.area.Filled.{Filled}
use Rattle.cell_value.specs.declared.scalar.Scalar.{Scalar}
use Rattle.cell_value.specs.declared.scalar.Scalar.TheVariants.{Empty}
use Rattle.cell_value.specs.Filled.{are_filled, spread}
use Rattle.cell_value.specs.Summary.{summary_of, joined, alone}
use Rattle.cell_value.proofs.Spread.{next}
use Rattle.func_args.proofs.Summaries.{summary_skip, summary_follows, summary_push}
use Rattle.func_args.proofs.Walk.{value_of}
use Rattle.func_math.specs.SumIf.{chosen}

module _ (p : Scalar → Bool) where
  chosen-nil : (xs : List Scalar) → chosen p xs [] ≡ []
  chosen-nil [] = refl
  chosen-nil (x ∷ xs) = refl

  skipped : (b : Bool) (xs : List Scalar) → summary_of (cond b (Empty ∷ xs) xs) ≡ summary_of xs
  skipped true xs = summary_skip xs
  skipped false xs = refl

  chosen-gap : (n : ℕ) (xs ys : List Scalar) → n ≤ length xs → summary_of (chosen p xs (replicate n Empty ++ ys)) ≡ summary_of (chosen p (drop n xs) ys)
  chosen-gap zero xs ys h = refl
  chosen-gap (suc n) [] ys h = absurd (omega arith)
  chosen-gap (suc n) (x ∷ xs) ys h = skipped (p x) (chosen p xs (replicate n Empty ++ ys)) ∙ chosen-gap n xs ys (omega arith)

  -- the filled cells at whose places those of the other list pass
  abbrev pub selected : List Scalar → List Filled → List Scalar
  selected xs cells = map value_of (filter (λ cell. p (get_or xs cell.index Empty)) cells)

  one : (b : Bool) (x : Scalar) (xs ys : List Scalar) → summary_of xs ≡ summary_of ys → summary_of (cond b (x ∷ xs) xs) ≡ summary_of (cond b (x ∷ ys) ys)
  one true x xs ys e = summary_follows x xs ys e
  one false x xs ys e = e

  map-cond : (b : Bool) (cell : Filled) (rest : List Filled) → cond b (value_of cell ∷ map value_of rest) (map value_of rest) ≡ map value_of (cond b (cell ∷ rest) rest)
  map-cond true cell rest = refl
  map-cond false cell rest = refl

  pub chosen-filled : (from size : ℕ) (xs : List Scalar) (cells : List Filled) → are_filled from size cells ≡ true → length xs ≡ size
      → summary_of (chosen p (drop from xs) (spread from size cells)) ≡ summary_of (selected xs cells)
  chosen-filled from size xs [] h l =
      let room : size - from ≤ length (drop from xs) = omega (arith, length-drop from xs) in
      ap (λ ys. summary_of (chosen p (drop from xs) ys)) (sym (append-nil (replicate (size - from) Empty)))
      ∙ chosen-gap (size - from) (drop from xs) [] room ∙ ap summary_of (chosen-nil (drop (size - from) (drop from xs)))
  chosen-filled from size xs (cell ∷ rest) h l =
      let n = next from size cell rest h in
      let a = n.above in
      let b = n.below in
      let gap = cell.index - from in
      let room : gap ≤ length (drop from xs) = omega (arith, length-drop from xs) in
      let at : from + gap ≡ cell.index = omega arith in
      let head : drop gap (drop from xs) ≡ get_or xs cell.index Empty ∷ drop (cell.index + 1) xs = drop-drop gap from xs ∙ ap (λ k. drop k xs) at ∙ drop_more xs cell.index Empty (omega arith) in
      chosen-gap gap (drop from xs) (cell.value ∷ spread (cell.index + 1) size rest) room
      ∙ ap (λ ys. summary_of (chosen p ys (cell.value ∷ spread (cell.index + 1) size rest))) head
      ∙ one (p (get_or xs cell.index Empty)) cell.value (chosen p (drop (cell.index + 1) xs) (spread (cell.index + 1) size rest)) (selected xs rest) (chosen-filled (cell.index + 1) size xs rest n.rest l)
      ∙ ap summary_of (map-cond (p (get_or xs cell.index Empty)) cell (filter (λ f. p (get_or xs f.index Empty)) rest))

  -- one filled cell more
  selected_more : (xs : List Scalar) (cells : List Filled) (i : ℕ) (d : Filled) → i < length cells
      → selected xs (take (i + 1) cells) ≡ selected xs (take i cells) ++ selected xs (get_or cells i d ∷ [])
  selected_more xs cells i d h =
      ap (selected xs) (take_more cells i d h)
      ∙ ap (map value_of) (filter-append (λ cell. p (get_or xs cell.index Empty)) (take i cells) (get_or cells i d ∷ []))
      ∙ map-append value_of (filter (λ cell. p (get_or xs cell.index Empty)) (take i cells)) (filter (λ cell. p (get_or xs cell.index Empty)) (get_or cells i d ∷ []))

  pub selected_passing : (xs : List Scalar) (cells : List Filled) (i : ℕ) (d : Filled) → i < length cells → p (get_or xs (get_or cells i d).index Empty) ≡ true
      → summary_of (selected xs (take (i + 1) cells)) ≡ joined (summary_of (selected xs (take i cells))) (alone (get_or cells i d).value)
  selected_passing xs cells i d h e =
      let item = get_or cells i d in
      let kept : selected xs (item ∷ []) ≡ item.value ∷ [] = ap (λ b. map value_of (cond b (item ∷ []) [])) e in
      ap summary_of (selected_more xs cells i d h ∙ ap (λ ys. selected xs (take i cells) ++ ys) kept) ∙ summary_push (selected xs (take i cells)) item.value

  pub selected_failing : (xs : List Scalar) (cells : List Filled) (i : ℕ) (d : Filled) → i < length cells → p (get_or xs (get_or cells i d).index Empty) ≡ false
      → summary_of (selected xs (take (i + 1) cells)) ≡ summary_of (selected xs (take i cells))
  selected_failing xs cells i d h e =
      let item = get_or cells i d in
      let kept : selected xs (item ∷ []) ≡ [] = ap (λ b. map value_of (cond b (item ∷ []) [])) e in
      ap summary_of (selected_more xs cells i d h ∙ ap (λ ys. selected xs (take i cells) ++ ys) kept ∙ append-nil (selected xs (take i cells)))
