-- A formula of which all goes along means the same afterwards. Serves the law.
use Rattle.std.proofs.Common.{◌≡◌, ◌∙◌, sym, ap, ap₂, refl, subst, ℕ, suc, ◌+◌, ◌-◌, map, Bool, true, false, cond, ◌||◌, List, [], ◌∷◌, Option, Some, None, Ok, Result, ⊎_elim, arith}
use Rattle.std.specs.Prelude.{⊤, codes, bytes_eq}
use Rattle.std.specs.List.{find}
use Rattle.std.specs.Cmp.Lexicographic.{bytes_decides}
use Rattle.std.specs.Option.{option_map, option_or}
use Rattle.std.proofs.lemmas.Bool.{cases_Bool, false≢true, or_cases}
use Rattle.cell_addr.specs.declared.place.Block.{Block}
use Rattle.cell_value.specs.declared.argument.Arg.TheVariants.{One, Many}
use Rattle.cell_value.specs.declared.fault.FaultKind.{FaultKind}
use Rattle.cell_value.specs.declared.scalar.Scalar.{Scalar}
use Rattle.custom_fn.specs.Registry.{custom_named}
use Rattle.custom_fn.specs.declared.rule.Rule.{Rule}
use Rattle.func_args.specs.Answers.{and_then, counted, number_value}
use Rattle.formula_tree.specs.Links.{is_place_word}
use Rattle.formula_tree.specs.Reference.{base_of, sheet_of, block_of}
use Rattle.formula_tree.specs.Term.{Term, number, text, truth, fault, cell, area, whole, name, prefix, percent, binary, call, paren, Terms, no_terms, term, is_reference, mapped_all}
use Rattle.formula_tree.specs.declared.reference.Corner.{Corner}
use Rattle.operators.specs.Operators.{combined, hundredth, signed_value}
use Rattle.tree_rewrite.specs.Rewritten.{area_at, cell_at}
use Rattle.calc_terms.specs.Calls.{call_value, custom_value, data_value}
use Rattle.calc_terms.specs.Cells.{cells_in, fits}
use Rattle.calc_terms.specs.Choices.{choice_value}
use Rattle.calc_terms.specs.Meaning.{evaluated, meaning, value_named}
use Rattle.calc_terms.specs.Places.{count_in, count_of, place_value}
use Rattle.calc_terms.specs.References.{area_reference, argument_block, argument_cells, argument_of, argument_value, data_arguments, full_block, reference_named, reference_of}
use Rattle.calc_terms.specs.Words.{choice_named, data_named, function_named, place_named, place_word, takes_block}
use Rattle.calc_terms.specs.World.{Named}
use Rattle.calc_terms.specs.declared.argument.Argument.{Argument}
use Rattle.calc_terms.specs.declared.argument.Argument.TheVariants as argument
use Rattle.calc_terms.specs.declared.function.ChoiceFn.{ChoiceFn}
use Rattle.calc_terms.specs.declared.function.DataFn.{DataFn}
use Rattle.calc_terms.specs.declared.function.Function.{Function}
use Rattle.calc_terms.specs.declared.function.Function.TheVariants as function
use Rattle.calc_terms.specs.declared.function.PlaceFn.{PlaceFn}
use Rattle.calc_terms.specs.declared.function.PlaceFn.TheVariants.{Row, Column, Rows, Columns}
use Rattle.calc_terms.specs.declared.reference.Reference.{Reference}
use Rattle.calc_terms.specs.declared.reference.Reference.TheVariants as reference
use Rattle.carried_terms.specs.Carried.{AllGoAlong, CellsAgree, GoesAlong, NamesAgree, Passage, ReferencesAgree, SizeGoes, SizesAgree, asks_where, passed, seen_block}
use Rattle.carried_terms.specs.Laws.{CarriedMeansSame}

-- a function that asks for sizes
abbrev CountsSizes : PlaceFn → Type 0
CountsSizes Rows = ⊤
CountsSizes Columns = ⊤
CountsSizes f = ⊥

or_none : (a b c : Bool) → (a || b) ≡ false → ((a || b) || c) ≡ true → c ≡ true
or_none false false c h k = k
or_none true b c h k = absurd (false≢true (sym h))
or_none false true c h k = absurd (false≢true (sym h))

-- the word of a function of places that doesn't ask where a cell stands asks for sizes
size_words : (word : List ℕ) → is_place_word word ≡ true → asks_where word ≡ false → (f : PlaceFn) × CountsSizes f × (function_named word ≡ Some (function.Place f))
unfolding function_named
size_words word h elsewhere = ⊎_elim
    (λ e. (Rows, tt, ap function_named ((bytes_decides word (codes "ROWS")).0 e) ∙ refl))
    (λ e. (Columns, tt, ap function_named ((bytes_decides word (codes "COLUMNS")).0 e) ∙ refl))
    (or_cases (bytes_eq word (codes "ROWS")) (bytes_eq word (codes "COLUMNS"))
    (or_none (bytes_eq word (codes "ROW")) (bytes_eq word (codes "COLUMN")) (bytes_eq word (codes "ROWS") || bytes_eq word (codes "COLUMNS")) elsewhere h))

-- no function of places
abbrev IsElse : Option Function → Type 0
IsElse (Some (function.Place f)) = ⊥
IsElse f = ⊤

else_or : (choice : Option ChoiceFn) (other : Option DataFn) → IsElse (option_or (option_map function.Choice choice) (option_or None (option_map function.Data other)))
else_or (Some f) other = tt
else_or None (Some f) = tt
else_or None None = tt

turned : (word other : List ℕ) → bytes_eq word other ≡ false → bytes_eq other word ≡ false
turned word other h = ⊎_elim
    (λ (e : bytes_eq other word ≡ true). absurd (false≢true (sym h ∙ (bytes_decides word other).1 (sym ((bytes_decides other word).0 e)))))
    (λ (e : bytes_eq other word ≡ false). e)
    (cases_Bool (bytes_eq other word))

none_of : (a b c d : Bool) → ((a || b) || (c || d)) ≡ false → (a ≡ false) × (b ≡ false) × (c ≡ false) × (d ≡ false)
none_of false false false false h = (refl, refl, refl, refl)
none_of true b c d h = absurd (false≢true (sym h))
none_of false true c d h = absurd (false≢true (sym h))
none_of false false true d h = absurd (false≢true (sym h))
none_of false false false true h = absurd (false≢true (sym h))

no_place : (word : List ℕ) → is_place_word word ≡ false → place_named word ≡ None
no_place word h =
    let w = none_of (bytes_eq word (codes "ROW")) (bytes_eq word (codes "COLUMN")) (bytes_eq word (codes "ROWS")) (bytes_eq word (codes "COLUMNS")) h in
    ap (λ b. cond b (Some Row) (find (λ f. bytes_eq (place_word f) word) (Column ∷ Rows ∷ Columns ∷ []))) (turned word (codes "ROW") w.0)
    ∙ ap (λ b. cond b (Some Column) (find (λ f. bytes_eq (place_word f) word) (Rows ∷ Columns ∷ []))) (turned word (codes "COLUMN") w.1)
    ∙ ap (λ b. cond b (Some Rows) (find (λ f. bytes_eq (place_word f) word) (Columns ∷ []))) (turned word (codes "ROWS") w.2)
    ∙ ap (λ b. cond b (Some Columns) None) (turned word (codes "COLUMNS") w.3)

-- another word names none
else_words : (word : List ℕ) → is_place_word word ≡ false → IsElse (function_named word)
unfolding function_named
else_words word h =
    subst (λ place. IsElse (option_or (option_map function.Choice (choice_named word)) (option_or (option_map function.Place place) (option_map function.Data (data_named word)))))
    (sym (no_place word h)) (else_or (choice_named word) (data_named word))

one_row : (n : ℕ) → suc n - n ≡ 1
one_row n = omega arith

module _ (x : Passage) (customs : List (List ℕ × Rule)) (today : x.old.today ≡ x.new.today) where
  -- references that show the same are of one size
  sizes_too : (r q : Reference) → CellsAgree x r q → SizesAgree r q
  unfolding cells_in
  sizes_too (reference.Cell p) (reference.Cell q) h = tt
  sizes_too (reference.Area b) (reference.Area c) h = (ap (λ cells. cells.rows) h, ap (λ cells. cells.cols) h)
  sizes_too (reference.Cell p) (reference.Area c) h = absurd h
  sizes_too (reference.Area b) (reference.Cell q) h = absurd h

  -- arguments before and after that agree
  abbrev ArgumentsAgree : (Reference → Reference → Type 0) → Argument → Argument → Type 0
  ArgumentsAgree Agree (argument.Reference r) (argument.Reference q) = Agree r q
  ArgumentsAgree Agree (argument.Value a) (argument.Value b) = a ≡ b
  ArgumentsAgree Agree _ _ = ⊥

  abbrev AllAgree : (Reference → Reference → Type 0) → List Argument → List Argument → Type 0
  AllAgree Agree [] [] = ⊤
  AllAgree Agree (a ∷ xs) (b ∷ ys) = ArgumentsAgree Agree a b × AllAgree Agree xs ys
  AllAgree Agree _ _ = ⊥

  -- what an argument becomes
  value_agrees : (a b : Argument) → ArgumentsAgree (CellsAgree x) a b → argument_value x.old a ≡ argument_value x.new b
  value_agrees (argument.Reference (reference.Cell p)) (argument.Reference (reference.Cell q)) h = h
  value_agrees (argument.Reference (reference.Area b)) (argument.Reference (reference.Area c)) h = refl
  value_agrees (argument.Reference (reference.Cell p)) (argument.Reference (reference.Area c)) h = absurd h
  value_agrees (argument.Reference (reference.Area b)) (argument.Reference (reference.Cell q)) h = absurd h
  value_agrees (argument.Value a) (argument.Value b) h = h
  value_agrees (argument.Reference r) (argument.Value b) h = absurd h
  value_agrees (argument.Value a) (argument.Reference q) h = absurd h

  cells_agree : (a b : Argument) → ArgumentsAgree (CellsAgree x) a b → argument_cells x.old a ≡ argument_cells x.new b
  cells_agree (argument.Reference (reference.Cell p)) (argument.Reference (reference.Cell q)) h = ap (λ y. Many (record { rows = 1; cols = 1; values = y ∷ [] })) h
  cells_agree (argument.Reference (reference.Area b)) (argument.Reference (reference.Area c)) h = ap Many h
  cells_agree (argument.Reference (reference.Cell p)) (argument.Reference (reference.Area c)) h = absurd h
  cells_agree (argument.Reference (reference.Area b)) (argument.Reference (reference.Cell q)) h = absurd h
  cells_agree (argument.Value a) (argument.Value b) h = ap One h
  cells_agree (argument.Reference r) (argument.Value b) h = absurd h
  cells_agree (argument.Value a) (argument.Reference q) h = absurd h

  values_agree : (xs ys : List Argument) → AllAgree (CellsAgree x) xs ys → map (argument_value x.old) xs ≡ map (argument_value x.new) ys
  values_agree [] [] h = refl
  values_agree (a ∷ xs) (b ∷ ys) h = ap₂ (λ z zs. z ∷ zs) (value_agrees a b h.0) (values_agree xs ys h.1)
  values_agree [] (b ∷ ys) h = absurd h
  values_agree (a ∷ xs) [] h = absurd h

  data_agree : (takes : ℕ → Bool) (at : ℕ) (xs ys : List Argument) → AllAgree (CellsAgree x) xs ys → data_arguments x.old takes at xs ≡ data_arguments x.new takes at ys
  data_agree takes at [] [] h = refl
  data_agree takes at (a ∷ xs) (b ∷ ys) h =
      ap₂ (λ z zs. z ∷ zs) (ap₂ (λ c v. cond (takes at) c (One v)) (cells_agree a b h.0) (value_agrees a b h.0)) (data_agree takes (at + 1) xs ys h.1)
  data_agree takes at [] (b ∷ ys) h = absurd h
  data_agree takes at (a ∷ xs) [] h = absurd h

  -- the value of a call of what isn't a function of places
  call_agrees : (f : Option Function) (custom : Option (List ℕ × Rule)) (xs ys : List Argument) → IsElse f → AllAgree (CellsAgree x) xs ys
      → call_value x.old (base_of x.from) f custom xs ≡ call_value x.new (base_of x.to) f custom ys
  call_agrees (Some (function.Choice f)) custom xs ys other h = ap (choice_value f) (values_agree xs ys h)
  call_agrees (Some (function.Place f)) custom xs ys other h = absurd other
  call_agrees (Some (function.Data f)) custom xs ys other h = ap₂ (data_value f) today (data_agree (takes_block f) 0 xs ys h)
  call_agrees None (Some custom) xs ys other h = ap (custom_value custom.1) (values_agree xs ys h)
  call_agrees None None xs ys other h = refl

  -- what a function counts of an argument's block
  abbrev count_at : PlaceFn → Argument → Result ℕ FaultKind
  count_at f a = and_then (argument_block a) (λ b. Ok (count_in f b))

  counts_agree : (f : PlaceFn) (a b : Argument) → CountsSizes f → ArgumentsAgree SizesAgree a b → count_at f a ≡ count_at f b
  counts_agree Rows (argument.Reference (reference.Cell p)) (argument.Reference (reference.Cell q)) s h = ap (λ n. Ok n) (one_row p.row ∙ sym (one_row q.row))
  counts_agree Columns (argument.Reference (reference.Cell p)) (argument.Reference (reference.Cell q)) s h = ap (λ n. Ok n) (one_row p.col ∙ sym (one_row q.col))
  counts_agree Rows (argument.Reference (reference.Area b)) (argument.Reference (reference.Area c)) s h = ap (λ n. Ok n) h.0
  counts_agree Columns (argument.Reference (reference.Area b)) (argument.Reference (reference.Area c)) s h = ap (λ n. Ok n) h.1
  counts_agree f (argument.Reference (reference.Cell p)) (argument.Reference (reference.Area c)) s h = absurd h
  counts_agree f (argument.Reference (reference.Area b)) (argument.Reference (reference.Cell q)) s h = absurd h
  counts_agree f (argument.Value a) (argument.Value b) s h = ap (λ y. count_at f (argument.Value y)) h
  counts_agree f (argument.Reference r) (argument.Value b) s h = absurd h
  counts_agree f (argument.Value a) (argument.Reference q) s h = absurd h
  counts_agree Row a b s h = absurd s
  counts_agree Column a b s h = absurd s

  count_agrees : (f : PlaceFn) (xs ys : List Argument) → CountsSizes f → AllAgree SizesAgree xs ys → count_of f (map argument_block xs) ≡ count_of f (map argument_block ys)
  count_agrees f [] [] s h = refl
  count_agrees f (a ∷ []) (b ∷ []) s h = counts_agree f a b s h.0
  count_agrees f (a ∷ more ∷ xs) (b ∷ others ∷ ys) s h = refl
  count_agrees f [] (b ∷ ys) s h = absurd h
  count_agrees f (a ∷ xs) [] s h = absurd h
  count_agrees f (a ∷ []) (b ∷ others ∷ ys) s h = absurd h.1
  count_agrees f (a ∷ more ∷ xs) (b ∷ []) s h = absurd h.1

  place_agrees : (f : PlaceFn) (xs ys : List Argument) → CountsSizes f → AllAgree SizesAgree xs ys
      → place_value f (base_of x.from) (map argument_block xs) ≡ place_value f (base_of x.to) (map argument_block ys)
  unfolding place_value
  place_agrees Rows xs ys s h = ap (λ n. number_value (and_then n counted)) (count_agrees Rows xs ys s h)
  place_agrees Columns xs ys s h = ap (λ n. number_value (and_then n counted)) (count_agrees Columns xs ys s h)
  place_agrees Row xs ys s h = absurd s
  place_agrees Column xs ys s h = absurd s

  size_call : (word : List ℕ) (xs ys : List Argument) → is_place_word word ≡ true → asks_where word ≡ false → AllAgree SizesAgree xs ys
      → call_value x.old (base_of x.from) (function_named word) (custom_named word customs) xs ≡ call_value x.new (base_of x.to) (function_named word) (custom_named word customs) ys
  size_call word xs ys asks elsewhere h =
      let f = size_words word asks elsewhere in
      ap (λ g. call_value x.old (base_of x.from) g (custom_named word customs) xs) f.2
      ∙ place_agrees f.0 xs ys f.1 h
      ∙ sym (ap (λ g. call_value x.new (base_of x.to) g (custom_named word customs) ys) f.2)

  -- the reference that an argument stands for goes along
  argument_agrees : (r q : Option Reference) (a b : Scalar) → ReferencesAgree x r q → a ≡ b → ArgumentsAgree (CellsAgree x) (argument_of r a) (argument_of q b)
  argument_agrees (Some r) (Some q) a b h e = h
  argument_agrees None None a b h e = e
  argument_agrees None (Some q) a b h e = absurd h
  argument_agrees (Some r) None a b h e = absurd h

  area_agrees : (b c : Block) (i j : Bool) → i ≡ j → CellsAgree x (reference.Area b) (reference.Area c) → ReferencesAgree x (cond i (Some (reference.Area b)) None) (cond j (Some (reference.Area c)) None)
  area_agrees b c true true e h = h
  area_agrees b c false false e h = tt
  area_agrees b c true false e h = absurd (false≢true (sym e))
  area_agrees b c false true e h = absurd (false≢true e)

  named_agree : (m n : Option Named) → NamesAgree x m n → ReferencesAgree x (reference_named m) (reference_named n)
  named_agree (Some m) (Some n) h = h.1
  named_agree None None h = tt
  named_agree (Some m) None h = absurd h
  named_agree None (Some n) h = absurd h

  value_found : (m n : Option Named) → NamesAgree x m n → value_named m ≡ value_named n
  value_found (Some m) (Some n) h = h.0
  value_found None None h = refl
  value_found (Some m) None h = absurd h
  value_found None (Some n) h = absurd h

  references_agree : (t : Term Corner) → GoesAlong x t → ReferencesAgree x (reference_of x.old (sheet_of x.from) t) (reference_of x.new (sheet_of x.to) (passed x t))
  references_agree (cell c) (q, e, h) = subst (λ o. ReferencesAgree x (Some (reference.Cell c.at)) (reference_of x.new (sheet_of x.to) (cell_at c o))) (sym e) h
  references_agree (area c d) (b, e, same, h) =
      subst (λ o. ReferencesAgree x (area_reference (block_of c d)) (reference_of x.new (sheet_of x.to) (area_at None c d o))) (sym e)
      (area_agrees (block_of c d) b (fits (block_of c d)) (fits b) same h)
  references_agree (whole axis c d) (b, e, same, h) =
      let before = full_block axis c d in
      let after = seen_block (Some axis) b in
      subst (λ o. ReferencesAgree x (area_reference before) (reference_of x.new (sheet_of x.to) (area_at (Some axis) c d o))) (sym e)
      (area_agrees before after (fits before) (fits after) same h)
  references_agree (name word) h = named_agree (x.old.named word (sheet_of x.from)) (x.new.named word (sheet_of x.to)) h
  references_agree (number m) h = tt
  references_agree (text s) h = tt
  references_agree (truth b) h = tt
  references_agree (fault k) h = tt
  references_agree (prefix s t) h = tt
  references_agree (percent t) h = tt
  references_agree (binary o l r) h = tt
  references_agree (call word ts) h = tt
  references_agree (paren t) h = tt

  -- of a reference by itself the size does
  sized_area : (b c : Block) (i j : Bool) (a : Scalar) → i ≡ j → SizesAgree (reference.Area b) (reference.Area c)
      → ArgumentsAgree SizesAgree (argument_of (cond i (Some (reference.Area b)) None) a) (argument_of (cond j (Some (reference.Area c)) None) a)
  sized_area b c true true a e h = h
  sized_area b c false false a e h = refl
  sized_area b c true false a e h = absurd (false≢true (sym e))
  sized_area b c false true a e h = absurd (false≢true e)

  abbrev Sized : Term Corner → Term Corner → Type 0
  Sized t u = ArgumentsAgree SizesAgree (argument_of (reference_of x.old (sheet_of x.from) t) (meaning x.old customs x.from t)) (argument_of (reference_of x.new (sheet_of x.to) u) (meaning x.new customs x.to u))

  sized_agrees : (t : Term Corner) → is_reference t ≡ true → SizeGoes x t → Sized t (passed x t)
  sized_agrees (cell c) is (q, e, h) = subst (λ o. Sized (cell c) (cell_at c o)) (sym e) tt
  sized_agrees (area c d) is (b, e, same, h) =
      subst (λ o. Sized (area c d) (area_at None c d o)) (sym e) (sized_area (block_of c d) b (fits (block_of c d)) (fits b) (meaning x.old customs x.from (area c d)) same h)
  sized_agrees (whole axis c d) is (b, e, same, h) =
      let before = full_block axis c d in
      let after = seen_block (Some axis) b in
      subst (λ o. Sized (whole axis c d) (area_at (Some axis) c d o)) (sym e) (sized_area before after (fits before) (fits after) (meaning x.old customs x.from (whole axis c d)) same h)
  sized_agrees (number m) is h = absurd (false≢true is)
  sized_agrees (text s) is h = absurd (false≢true is)
  sized_agrees (truth b) is h = absurd (false≢true is)
  sized_agrees (fault k) is h = absurd (false≢true is)
  sized_agrees (name word) is h = absurd (false≢true is)
  sized_agrees (prefix s t) is h = absurd (false≢true is)
  sized_agrees (percent t) is h = absurd (false≢true is)
  sized_agrees (binary o l r) is h = absurd (false≢true is)
  sized_agrees (call word ts) is h = absurd (false≢true is)
  sized_agrees (paren t) is h = absurd (false≢true is)

  only_sizes : (a b : Argument) → ArgumentsAgree (CellsAgree x) a b → ArgumentsAgree SizesAgree a b
  only_sizes (argument.Reference r) (argument.Reference q) h = sizes_too r q h
  only_sizes (argument.Value a) (argument.Value b) h = h
  only_sizes (argument.Reference r) (argument.Value b) h = absurd h
  only_sizes (argument.Value a) (argument.Reference q) h = absurd h

  abbrev passed_all : Terms Corner → Terms Corner
  passed_all = mapped_all (λ c. cell_at c (x.place c.at)) (λ lines c d. area_at lines c d (x.area lines (block_of c d)))

  mutual
    means : (t : Term Corner) → GoesAlong x t → meaning x.old customs x.from t ≡ meaning x.new customs x.to (passed x t)
    means (number m) h = refl
    means (text s) h = refl
    means (truth b) h = refl
    means (fault k) h = refl
    means (cell c) (q, e, h) = h ∙ sym (ap (λ o. meaning x.new customs x.to (cell_at c o)) e)
    means (area c d) (b, e, same, h) = sym (ap (λ o. meaning x.new customs x.to (area_at None c d o)) e)
    means (whole axis c d) (b, e, same, h) = sym (ap (λ o. meaning x.new customs x.to (area_at (Some axis) c d o)) e)
    means (name word) h = value_found (x.old.named word (sheet_of x.from)) (x.new.named word (sheet_of x.to)) h
    means (prefix s t) h = ap (signed_value s) (means t h)
    means (percent t) h = ap hundredth (means t h)
    means (binary o l r) h = ap₂ (combined o) (means l h.0) (means r h.1)
    means (paren t) h = means t h
    means (call word ts) h =
        ⊎_elim
        (λ (asks : is_place_word word ≡ true). size_call word (evaluated x.old customs x.from ts) (evaluated x.new customs x.to (passed_all ts)) asks h.0
        (all_sized ts (subst (λ sized. AllGoAlong x sized ts) asks h.1)))
        (λ (takes : is_place_word word ≡ false). call_agrees (function_named word) (custom_named word customs) (evaluated x.old customs x.from ts) (evaluated x.new customs x.to (passed_all ts)) (else_words word takes)
        (all_agree ts (subst (λ sized. AllGoAlong x sized ts) takes h.1)))
        (cases_Bool (is_place_word word))

    all_agree : (ts : Terms Corner) → AllGoAlong x false ts → AllAgree (CellsAgree x) (evaluated x.old customs x.from ts) (evaluated x.new customs x.to (passed_all ts))
    all_agree no_terms h = tt
    all_agree (term t ts) h = (argument_agrees _ _ _ _ (references_agree t (h.1 refl)) (means t (h.1 refl)), all_agree ts h.2)

    all_sized : (ts : Terms Corner) → AllGoAlong x true ts → AllAgree SizesAgree (evaluated x.old customs x.from ts) (evaluated x.new customs x.to (passed_all ts))
    all_sized no_terms h = tt
    all_sized (term t ts) h = (
      ⊎_elim
          (λ (is : is_reference t ≡ true). sized_agrees t is (h.0 is))
          (λ (isnt : is_reference t ≡ false). only_sizes _ _ (argument_agrees _ _ _ _ (references_agree t (h.1 isnt)) (means t (h.1 isnt))))
          (cases_Bool (is_reference t)),
      all_sized ts h.2,
    )

-- a formula of which all goes along means the same afterwards
pub carried_means : CarriedMeansSame
carried_means x customs t today h = means x customs today t h
