-- A tree means the same, and takes as many steps at most, wherever all that it needs is the same. Serves the laws.
use Rattle.std.proofs.Common.{◌≡◌, ◌∙◌, sym, ap, ap₂, refl, ℕ, ◌+◌, map, Bool, true, false, not, cond, ◌&&◌, ◌||◌, List, [], ◌∷◌, ◌++◌, Option, Some, None, ⊎_elim}
use Rattle.std.specs.Prelude.{⊤, codes, bytes_eq}
use Rattle.std.specs.List.{list_any}
use Rattle.std.specs.Cmp.Lexicographic.{bytes_decides}
use Rattle.std.proofs.lemmas.Bool.{cases_Bool, false≢true, or_left, or_right, or_cases}
use Rattle.std.proofs.lemmas.List.Folds.{list_any-append}
use Rattle.cell_addr.specs.declared.place.Place.{Place}
use Rattle.cell_addr.specs.declared.place.Block.{Block}
use Rattle.cell_addr.specs.Place.{covers}
use Rattle.cell_addr.proofs.SamePlaces.{same_place-self}
use Rattle.cell_value.specs.declared.argument.Arg.TheVariants.{One, Many}
use Rattle.cell_value.specs.declared.scalar.Scalar.{Scalar}
use Rattle.custom_fn.specs.Registry.{custom_named}
use Rattle.custom_fn.specs.declared.rule.Rule.{Rule}
use Rattle.formula_tree.specs.Links.{is_place_word, names_in, names_in_all}
use Rattle.formula_tree.specs.Reference.{base_of, sheet_of, block_of}
use Rattle.formula_tree.specs.Term.{Term, number, text, truth, fault, cell, area, whole, name, prefix, percent, binary, call, paren, Terms, no_terms, term, is_reference}
use Rattle.formula_tree.specs.declared.reference.Corner.{Corner}
use Rattle.formula_tree.specs.declared.reference.Home.{Home}
use Rattle.operators.specs.Operators.{combined, hundredth, signed_value}
use Rattle.calc_terms.specs.Calls.{call_value, custom_value, data_value}
use Rattle.calc_terms.specs.Cells.{fits}
use Rattle.calc_terms.specs.Choices.{choice_value}
use Rattle.calc_terms.specs.Cost.{block_size, cost, cost_all}
use Rattle.calc_terms.specs.Laws.{CostsRestOnNeeds, NameAlike, ReadsNeeds, ShowAlike}
use Rattle.calc_terms.specs.Meaning.{evaluated, meaning, value_named}
use Rattle.calc_terms.specs.Needs.{mentions, mentions_any}
use Rattle.calc_terms.specs.References.{argument_cells, argument_of, argument_value, data_arguments, full_block, own_reference, reference_named, reference_of}
use Rattle.calc_terms.specs.Words.{function_named, takes_block}
use Rattle.calc_terms.specs.World.{Named, World}
use Rattle.calc_terms.specs.declared.argument.Argument.{Argument}
use Rattle.calc_terms.specs.declared.argument.Argument.TheVariants as argument
use Rattle.calc_terms.specs.declared.function.Function.{Function}
use Rattle.calc_terms.specs.declared.function.Function.TheVariants as function
use Rattle.calc_terms.specs.declared.function.PlaceFn.{PlaceFn}
use Rattle.calc_terms.specs.declared.function.PlaceFn.TheVariants.{Row, Column, Rows, Columns}
use Rattle.calc_terms.specs.declared.reference.Reference.{Reference}
use Rattle.calc_terms.specs.declared.reference.Reference.TheVariants as reference
use Rattle.calc_terms.proofs.CellsAlike.{cells_alike, filled_alike}

-- the word of a function that asks where a reference is names one
pub place_words : (word : List ℕ) → is_place_word word ≡ true → (f : PlaceFn) × (function_named word ≡ Some (function.Place f))
unfolding function_named
place_words word h = ⊎_elim
    (λ first. ⊎_elim
    (λ e. (Row, ap function_named ((bytes_decides word (codes "ROW")).0 e) ∙ refl))
    (λ e. (Column, ap function_named ((bytes_decides word (codes "COLUMN")).0 e) ∙ refl))
    (or_cases (bytes_eq word (codes "ROW")) (bytes_eq word (codes "COLUMN")) first))
    (λ second. ⊎_elim
    (λ e. (Rows, ap function_named ((bytes_decides word (codes "ROWS")).0 e) ∙ refl))
    (λ e. (Columns, ap function_named ((bytes_decides word (codes "COLUMNS")).0 e) ∙ refl))
    (or_cases (bytes_eq word (codes "ROWS")) (bytes_eq word (codes "COLUMNS")) second))
    (or_cases (bytes_eq word (codes "ROW") || bytes_eq word (codes "COLUMN")) (bytes_eq word (codes "ROWS") || bytes_eq word (codes "COLUMNS")) h)

bytes_eq-self : (word : List ℕ) → bytes_eq word word ≡ true
bytes_eq-self word = (bytes_decides word word).1 refl

skip_none : (skip m : Bool) → (not (skip && false) && m) ≡ m
skip_none true m = refl
skip_none false m = refl

module _ (v w : World) (sheet : ℕ) where
  -- the names of a list are alike in both worlds
  abbrev NamesAlike : List (List ℕ) → Type 0
  NamesAlike names = (word : List ℕ) → list_any (bytes_eq word) names ≡ true → NameAlike v w (v.named word sheet) (w.named word sheet)

  names_left : (xs ys : List (List ℕ)) → NamesAlike (xs ++ ys) → NamesAlike xs
  names_left xs ys names word h = names word (list_any-append (bytes_eq word) xs ys ∙ or_left (list_any (bytes_eq word) xs) (list_any (bytes_eq word) ys) h)

  names_right : (xs ys : List (List ℕ)) → NamesAlike (xs ++ ys) → NamesAlike ys
  names_right xs ys names word h = names word (list_any-append (bytes_eq word) xs ys ∙ or_right (list_any (bytes_eq word) xs) (list_any (bytes_eq word) ys) h)

  name_itself : (word : List ℕ) → NamesAlike (word ∷ []) → NameAlike v w (v.named word sheet) (w.named word sheet)
  name_itself word names = names word (or_left (bytes_eq word word) false (bytes_eq-self word))

  -- the cells of a reference are alike in both worlds
  abbrev CellsAlike : Option Reference → Type 0
  CellsAlike (Some (reference.Cell p)) = v.shown p ≡ w.shown p
  CellsAlike (Some (reference.Area b)) = (p : Place) → covers b p ≡ true → v.shown p ≡ w.shown p
  CellsAlike None = ⊤

  area_alike : (b : Block) (inside : Bool) → ((p : Place) → covers b p ≡ true → v.shown p ≡ w.shown p) → CellsAlike (cond inside (Some (reference.Area b)) None)
  area_alike b true shown = shown
  area_alike b false shown = tt

  own_alike : (t : Term Corner) → ShowAlike v w t → CellsAlike (own_reference t)
  own_alike (cell c) shown = shown c.at (same_place-self c.at)
  own_alike (area c d) shown = area_alike (block_of c d) (fits (block_of c d)) shown
  own_alike (whole axis c d) shown = area_alike (full_block axis c d) (fits (full_block axis c d)) shown
  own_alike (number m) shown = tt
  own_alike (text s) shown = tt
  own_alike (truth b) shown = tt
  own_alike (fault k) shown = tt
  own_alike (name word) shown = tt
  own_alike (prefix s t) shown = tt
  own_alike (percent t) shown = tt
  own_alike (binary o l r) shown = tt
  own_alike (call word ts) shown = tt
  own_alike (paren t) shown = tt

  named_alike : (m n : Option Named) → NameAlike v w m n → CellsAlike (reference_named m)
  named_alike (Some m) (Some n) alike = own_alike m.tree alike.2
  named_alike None n alike = tt
  named_alike (Some m) None alike = absurd alike

  named_same : (m n : Option Named) → NameAlike v w m n → reference_named m ≡ reference_named n
  named_same (Some m) (Some n) alike = ap own_reference alike.1
  named_same None None alike = refl
  named_same None (Some n) alike = absurd alike
  named_same (Some m) None alike = absurd alike

  value_same : (m n : Option Named) → NameAlike v w m n → value_named m ≡ value_named n
  value_same (Some m) (Some n) alike = alike.0
  value_same None None alike = refl
  value_same None (Some n) alike = absurd alike
  value_same (Some m) None alike = absurd alike

  -- an argument stands for the same reference in both worlds, and its cells are alike
  reference_alike : (t : Term Corner) → ShowAlike v w t → NamesAlike (names_in t) → CellsAlike (reference_of v sheet t)
  reference_alike (name word) shown names = named_alike (v.named word sheet) (w.named word sheet) (name_itself word names)
  reference_alike (cell c) shown names = own_alike (cell c) shown
  reference_alike (area c d) shown names = own_alike (area c d) shown
  reference_alike (whole axis c d) shown names = own_alike (whole axis c d) shown
  reference_alike (number m) shown names = tt
  reference_alike (text s) shown names = tt
  reference_alike (truth b) shown names = tt
  reference_alike (fault k) shown names = tt
  reference_alike (prefix s t) shown names = tt
  reference_alike (percent t) shown names = tt
  reference_alike (binary o l r) shown names = tt
  reference_alike (call word ts) shown names = tt
  reference_alike (paren t) shown names = tt

  reference_same : (t : Term Corner) → NamesAlike (names_in t) → reference_of v sheet t ≡ reference_of w sheet t
  reference_same (name word) names = named_same (v.named word sheet) (w.named word sheet) (name_itself word names)
  reference_same (cell c) names = refl
  reference_same (area c d) names = refl
  reference_same (whole axis c d) names = refl
  reference_same (number m) names = refl
  reference_same (text s) names = refl
  reference_same (truth b) names = refl
  reference_same (fault k) names = refl
  reference_same (prefix s t) names = refl
  reference_same (percent t) names = refl
  reference_same (binary o l r) names = refl
  reference_same (call word ts) names = refl
  reference_same (paren t) names = refl

  -- as many cells of its block aren't empty
  block_same : (r : Option Reference) → CellsAlike r → block_size v r ≡ block_size w r
  block_same (Some (reference.Cell p)) alike = refl
  block_same (Some (reference.Area b)) alike = filled_alike v.shown w.shown b alike
  block_same None alike = refl

  size_same : (t : Term Corner) → ShowAlike v w t → NamesAlike (names_in t) → block_size v (reference_of v sheet t) ≡ block_size w (reference_of w sheet t)
  size_same t shown names = block_same (reference_of v sheet t) (reference_alike t shown names) ∙ ap (block_size w) (reference_same t names)

  one_unless : (asks : Bool) (m n : ℕ) → (asks ≡ false → m ≡ n) → cond asks 1 m ≡ cond asks 1 n
  one_unless true m n same = refl
  one_unless false m n same = same refl

  mutual
    costs : (t : Term Corner) → ShowAlike v w t → NamesAlike (names_in t) → cost v sheet t ≡ cost w sheet t
    costs (number m) shown names = refl
    costs (text s) shown names = refl
    costs (truth b) shown names = refl
    costs (fault k) shown names = refl
    costs (cell c) shown names = refl
    costs (area c d) shown names = ap (λ n. n + 1) (size_same (area c d) shown names)
    costs (whole axis c d) shown names = ap (λ n. n + 1) (size_same (whole axis c d) shown names)
    costs (name word) shown names = ap (λ n. n + 1) (size_same (name word) shown names)
    costs (prefix s t) shown names = ap (λ n. n + 1) (costs t shown names)
    costs (percent t) shown names = ap (λ n. n + 1) (costs t shown names)
    costs (binary o l r) shown names = ap₂ (λ m n. m + n + 1)
        (costs l (λ p h. shown p (or_left (mentions l p) (mentions r p) h)) (names_left (names_in l) (names_in r) names))
        (costs r (λ p h. shown p (or_right (mentions l p) (mentions r p) h)) (names_right (names_in l) (names_in r) names))
    costs (call word ts) shown names = ap (λ n. n + 1) (costs_all (is_place_word word) ts shown names)
    costs (paren t) shown names = ap (λ n. n + 1) (costs t shown names)

    costs_all : (skip : Bool) (ts : Terms Corner) → ((p : Place) → mentions_any skip ts p ≡ true → v.shown p ≡ w.shown p) → NamesAlike (names_in_all ts)
        → cost_all v sheet skip ts ≡ cost_all w sheet skip ts
    costs_all skip no_terms shown names = refl
    costs_all skip (term t ts) shown names = ap₂ (λ m n. m + n)
        (one_unless (skip && is_reference t) (cost v sheet t) (cost w sheet t)
        (λ read. costs t (λ p h. shown p (or_left (not (skip && is_reference t) && mentions t p) (mentions_any skip ts p) (ap (λ b. not b && mentions t p) read ∙ h))) (names_left (names_in t) (names_in_all ts) names)))
        (costs_all skip ts (λ p h. shown p (or_right (not (skip && is_reference t) && mentions t p) (mentions_any skip ts p) h)) (names_right (names_in t) (names_in_all ts) names))

module _ (v w : World) (customs : List (List ℕ × Rule)) (home : Home) (today : v.today ≡ w.today) where
  abbrev sheet : ℕ
  sheet = sheet_of home

  -- the cells of an argument are alike in both worlds
  abbrev ArgumentAlike : Argument → Type 0
  ArgumentAlike (argument.Reference r) = CellsAlike v w sheet (Some r)
  ArgumentAlike (argument.Value x) = ⊤

  argument_alike : (r : Option Reference) (x : Scalar) → CellsAlike v w sheet r → ArgumentAlike (argument_of r x)
  argument_alike (Some (reference.Cell p)) x alike = alike
  argument_alike (Some (reference.Area b)) x alike = alike
  argument_alike None x alike = tt

  -- what an argument becomes
  value_alike : (a : Argument) → ArgumentAlike a → argument_value v a ≡ argument_value w a
  value_alike (argument.Reference (reference.Cell p)) alike = alike
  value_alike (argument.Reference (reference.Area b)) alike = refl
  value_alike (argument.Value x) alike = refl

  cells_of_argument : (a : Argument) → ArgumentAlike a → argument_cells v a ≡ argument_cells w a
  cells_of_argument (argument.Reference (reference.Cell p)) alike = ap (λ y. Many (record { rows = 1; cols = 1; values = y ∷ [] })) alike
  cells_of_argument (argument.Reference (reference.Area b)) alike = ap Many (cells_alike v.shown w.shown b alike)
  cells_of_argument (argument.Value x) alike = refl

  abbrev AllAlike : List Argument → Type 0
  AllAlike [] = ⊤
  AllAlike (a ∷ rest) = ArgumentAlike a × AllAlike rest

  values_alike : (args : List Argument) → AllAlike args → map (argument_value v) args ≡ map (argument_value w) args
  values_alike [] alike = refl
  values_alike (a ∷ rest) alike = ap₂ (λ x xs. x ∷ xs) (value_alike a alike.0) (values_alike rest alike.1)

  data_alike : (takes : ℕ → Bool) (at : ℕ) (args : List Argument) → AllAlike args → data_arguments v takes at args ≡ data_arguments w takes at args
  data_alike takes at [] alike = refl
  data_alike takes at (a ∷ rest) alike =
      ap₂ (λ x xs. x ∷ xs)
      (ap₂ (λ x y. cond (takes at) x (One y)) (cells_of_argument a alike.0) (value_alike a alike.0))
      (data_alike takes (at + 1) rest alike.1)

  -- a call's value rests on the cells of its arguments, and where it asks for places not even on these
  call_alike : (f : Option Function) (custom : Option (List ℕ × Rule)) (args : List Argument) → AllAlike args
      → call_value v (base_of home) f custom args ≡ call_value w (base_of home) f custom args
  call_alike (Some (function.Choice f)) custom args alike = ap (choice_value f) (values_alike args alike)
  call_alike (Some (function.Place f)) custom args alike = refl
  call_alike (Some (function.Data f)) custom args alike = ap₂ (data_value f) today (data_alike (takes_block f) 0 args alike)
  call_alike None (Some custom) args alike = ap (custom_value custom.1) (values_alike args alike)
  call_alike None None args alike = refl

  -- an argument that is a reference is that one, whatever its cells show
  reference_itself : (t : Term Corner) → is_reference t ≡ true
      → argument_of (reference_of v sheet t) (meaning v customs home t) ≡ argument_of (reference_of w sheet t) (meaning w customs home t)
  reference_itself (cell c) h = refl
  reference_itself (area c d) h = refl
  reference_itself (whole axis c d) h = refl
  reference_itself (number m) h = absurd (false≢true h)
  reference_itself (text s) h = absurd (false≢true h)
  reference_itself (truth b) h = absurd (false≢true h)
  reference_itself (fault k) h = absurd (false≢true h)
  reference_itself (name word) h = absurd (false≢true h)
  reference_itself (prefix s t) h = absurd (false≢true h)
  reference_itself (percent t) h = absurd (false≢true h)
  reference_itself (binary o l r) h = absurd (false≢true h)
  reference_itself (call word ts) h = absurd (false≢true h)
  reference_itself (paren t) h = absurd (false≢true h)

  -- where a call asks for places alone, what its arguments are decides
  place_call : (word : List ℕ) (args : List Argument) → is_place_word word ≡ true
      → call_value v (base_of home) (function_named word) (custom_named word customs) args ≡ call_value w (base_of home) (function_named word) (custom_named word customs) args
  place_call word args asks =
      let f = place_words word asks in
      ap (λ g. call_value v (base_of home) g (custom_named word customs) args) f.1
      ∙ sym (ap (λ g. call_value w (base_of home) g (custom_named word customs) args) f.1)

  -- the cells that no place function asks for are alike
  all_alike : (ts : Terms Corner) → ((p : Place) → mentions_any false ts p ≡ true → v.shown p ≡ w.shown p) → NamesAlike v w sheet (names_in_all ts) → AllAlike (evaluated v customs home ts)
  all_alike no_terms shown names = tt
  all_alike (term t ts) shown names = (
    argument_alike (reference_of v sheet t) (meaning v customs home t)
        (reference_alike v w sheet t (λ p h. shown p (or_left (mentions t p) (mentions_any false ts p) h)) (names_left v w sheet (names_in t) (names_in_all ts) names)),
    all_alike ts (λ p h. shown p (or_right (mentions t p) (mentions_any false ts p) h)) (names_right v w sheet (names_in t) (names_in_all ts) names),
  )

  mutual
    reads : (t : Term Corner) → ShowAlike v w t → NamesAlike v w sheet (names_in t) → meaning v customs home t ≡ meaning w customs home t
    reads (number m) shown names = refl
    reads (text s) shown names = refl
    reads (truth b) shown names = refl
    reads (fault k) shown names = refl
    reads (cell c) shown names = shown c.at (same_place-self c.at)
    reads (area c d) shown names = refl
    reads (whole axis c d) shown names = refl
    reads (name word) shown names = value_same v w sheet (v.named word sheet) (w.named word sheet) (name_itself v w sheet word names)
    reads (prefix s t) shown names = ap (signed_value s) (reads t shown names)
    reads (percent t) shown names = ap hundredth (reads t shown names)
    reads (binary o l r) shown names = ap₂ (combined o)
        (reads l (λ p h. shown p (or_left (mentions l p) (mentions r p) h)) (names_left v w sheet (names_in l) (names_in r) names))
        (reads r (λ p h. shown p (or_right (mentions l p) (mentions r p) h)) (names_right v w sheet (names_in l) (names_in r) names))
    reads (paren t) shown names = reads t shown names
    reads (call word ts) shown names =
        ⊎_elim
        (λ (asks : is_place_word word ≡ true). place_call word (evaluated v customs home ts) asks)
        (λ (takes : is_place_word word ≡ false). call_alike (function_named word) (custom_named word customs) (evaluated v customs home ts)
        (all_alike ts (λ p h. shown p (ap (λ skip. mentions_any skip ts p) takes ∙ h)) names))
        (cases_Bool (is_place_word word))
        ∙ ap (call_value w (base_of home) (function_named word) (custom_named word customs)) (evaluated_reads (is_place_word word) ts shown names)

    evaluated_reads : (skip : Bool) (ts : Terms Corner) → ((p : Place) → mentions_any skip ts p ≡ true → v.shown p ≡ w.shown p) → NamesAlike v w sheet (names_in_all ts)
        → evaluated v customs home ts ≡ evaluated w customs home ts
    evaluated_reads skip no_terms shown names = refl
    evaluated_reads skip (term t ts) shown names =
        let mine = names_left v w sheet (names_in t) (names_in_all ts) names in
        ap₂ (λ x xs. x ∷ xs)
        (⊎_elim
        (λ (is : is_reference t ≡ true). reference_itself t is)
        (λ (isnt : is_reference t ≡ false).
        let here : ShowAlike v w t = λ p h. shown p (or_left (not (skip && is_reference t) && mentions t p) (mentions_any skip ts p)
        (ap (λ b. not (skip && b) && mentions t p) isnt ∙ skip_none skip (mentions t p) ∙ h)) in
        ap₂ argument_of (reference_same v w sheet t mine) (reads t here mine))
        (cases_Bool (is_reference t)))
        (evaluated_reads skip ts (λ p h. shown p (or_right (not (skip && is_reference t) && mentions t p) (mentions_any skip ts p) h)) (names_right v w sheet (names_in t) (names_in_all ts) names))

-- a tree means the same wherever all that it needs is the same
pub reads_needs : ReadsNeeds
reads_needs v w customs home t alike = reads v w customs home alike.today t alike.shown alike.named

-- and takes as many steps at most
pub costs_rest_on_needs : CostsRestOnNeeds
costs_rest_on_needs v w sheet t alike = costs v w sheet t alike.shown alike.named
