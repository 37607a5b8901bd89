-- How many steps arguments take. Serves the walk.
use Rattle.std.proofs.Common.{◌≡◌, ◌∙◌, sym, ap, subst, refl, arith, ℕ, zero, suc, ◌+◌, ◌≤◌, Bool, true, false, cond, ◌&&◌, List, Some, None}
use Rattle.formula_tree.specs.Links.{is_place_word}
use Rattle.formula_tree.specs.Term.{Term, number, text, truth, fault, cell, area, whole, name, prefix, percent, binary, call, paren, Terms, no_terms, term, is_reference}
use Rattle.formula_tree.specs.declared.reference.Corner.{Corner}
use Rattle.calc_terms.proofs.Reading.{place_words}
use Rattle.calc_terms.specs.Cost.{asked_cost, block_size, cost, cost_all}
use Rattle.calc_terms.specs.References.{argument_size, reference_of}
use Rattle.calc_terms.specs.Words.{function_named}
use Rattle.calc_terms.specs.World.{World}
use Rattle.calc_terms.specs.declared.argument.Argument.TheVariants as argument
use Rattle.calc_terms.specs.declared.function.ChoiceFn.{ChoiceFn}
use Rattle.calc_terms.specs.declared.function.DataFn.{DataFn}
use Rattle.calc_terms.specs.declared.function.Function.TheVariants as function
use Rattle.calc_terms.specs.declared.function.PlaceFn.{PlaceFn}
use Rattle.calc_terms.specs.declared.reference.Reference.{Reference}
use Rattle.calc_terms.specs.declared.reference.Reference.TheVariants as reference
use Rattle.calc_eval.specs.internal.Steps.{cost_at}

-- the block that an argument stands for is no more than what the argument may take
block_within : (w : World) (sheet : ℕ) (t : Term Corner) → block_size w (reference_of w sheet t) ≤ cost w sheet t
block_within w sheet (number m) = omega arith
block_within w sheet (text s) = omega arith
block_within w sheet (truth b) = omega arith
block_within w sheet (fault k) = omega arith
block_within w sheet (cell c) = omega arith
block_within w sheet (area c d) = omega arith
block_within w sheet (whole axis c d) = omega arith
block_within w sheet (name word) = omega arith
block_within w sheet (prefix s t) = omega arith
block_within w sheet (percent t) = omega arith
block_within w sheet (binary o l r) = omega arith
block_within w sheet (call word ts) = omega arith
block_within w sheet (paren t) = omega arith

argument_block_size : (w : World) (r : Reference) → argument_size w (argument.Reference r) ≡ block_size w (Some r)
argument_block_size w (reference.Cell p) = refl
argument_block_size w (reference.Area b) = refl

pub reference_within : (w : World) (sheet : ℕ) (t : Term Corner) (r : Reference) → reference_of w sheet t ≡ Some r → argument_size w (argument.Reference r) ≤ cost w sheet t
reference_within w sheet t r is =
    let within : block_size w (Some r) ≤ cost w sheet t = subst (λ o. block_size w o ≤ cost w sheet t) is (block_within w sheet t) in
    let same = argument_block_size w r in
    omega arith

-- one argument takes no more than all, and nor do the first and another one together
pub one_within : (w : World) (sheet : ℕ) (ts : Terms Corner) (place : ℕ) → cost_at w sheet ts place ≤ cost_all w sheet false ts
one_within w sheet no_terms place = omega arith
one_within w sheet (term t ts) zero = omega arith
one_within w sheet (term t ts) (suc place) = let rest = one_within w sheet ts place in omega arith

pub two_within : (w : World) (sheet : ℕ) (ts : Terms Corner) (place : ℕ) → 1 ≤ place → cost_at w sheet ts 0 + cost_at w sheet ts place ≤ cost_all w sheet false ts
two_within w sheet no_terms place h = omega arith
two_within w sheet (term t ts) zero h = absurd (omega arith)
two_within w sheet (term t ts) (suc place) h = let rest = one_within w sheet ts place in omega arith

-- a tree that stands for no reference takes no more where it is asked where it is
pub unread : (w : World) (sheet : ℕ) (t : Term Corner) → reference_of w sheet t ≡ None → cost w sheet t ≤ asked_cost w sheet true t
unread w sheet (number m) none = omega arith
unread w sheet (text s) none = omega arith
unread w sheet (truth b) none = omega arith
unread w sheet (fault k) none = omega arith
unread w sheet (cell c) none = omega arith
unread w sheet (area c d) none = let nothing = ap (block_size w) none in omega arith
unread w sheet (whole axis c d) none = let nothing = ap (block_size w) none in omega arith
unread w sheet (name word) none = omega arith
unread w sheet (prefix s t) none = omega arith
unread w sheet (percent t) none = omega arith
unread w sheet (binary o l r) none = omega arith
unread w sheet (call word ts) none = omega arith
unread w sheet (paren t) none = omega arith

some_cost : (w : World) (sheet : ℕ) (t : Term Corner) → 1 ≤ cost w sheet t
some_cost w sheet (number m) = omega arith
some_cost w sheet (text s) = omega arith
some_cost w sheet (truth b) = omega arith
some_cost w sheet (fault k) = omega arith
some_cost w sheet (cell c) = omega arith
some_cost w sheet (area c d) = omega arith
some_cost w sheet (whole axis c d) = omega arith
some_cost w sheet (name word) = omega arith
some_cost w sheet (prefix s t) = omega arith
some_cost w sheet (percent t) = omega arith
some_cost w sheet (binary o l r) = omega arith
some_cost w sheet (call word ts) = omega arith
some_cost w sheet (paren t) = omega arith

-- arguments that are asked where they are take no more than others
less_by : (t asks : Bool) (n : ℕ) → 1 ≤ n → cond (true && t) 1 n ≤ cond (asks && t) 1 n
less_by true true n h = omega arith
less_by true false n h = h
less_by false true n h = omega arith
less_by false false n h = omega arith

pub asked_within : (w : World) (sheet : ℕ) (asks : Bool) (ts : Terms Corner) → cost_all w sheet true ts ≤ cost_all w sheet asks ts
asked_within w sheet asks no_terms = omega arith
asked_within w sheet asks (term t ts) =
    let here : asked_cost w sheet true t ≤ asked_cost w sheet asks t = less_by (is_reference t) asks (cost w sheet t) (some_cost w sheet t) in
    let rest = asked_within w sheet asks ts in
    omega arith

-- the word of a function that is none of these, or of no function, asks for no place
place_by : (word : List ℕ) (t : Bool) → is_place_word word ≡ t → ((f : PlaceFn) → function_named word ≡ Some (function.Place f) → ⊥) → is_place_word word ≡ false
place_by word true asks other = let f = place_words word asks in absurd (other f.0 f.1)
place_by word false asks other = asks

pub data_asks : (word : List ℕ) (f : DataFn) → function_named word ≡ Some (function.Data f) → is_place_word word ≡ false
data_asks word f is = place_by word (is_place_word word) refl (λ g at. let both = sym is ∙ at in cc)

pub choice_asks : (word : List ℕ) (f : ChoiceFn) → function_named word ≡ Some (function.Choice f) → is_place_word word ≡ false
choice_asks word f is = place_by word (is_place_word word) refl (λ g at. let both = sym is ∙ at in cc)

pub custom_asks : (word : List ℕ) → function_named word ≡ None → is_place_word word ≡ false
custom_asks word is = place_by word (is_place_word word) refl (λ g at. let both = sym is ∙ at in cc)

-- so its arguments take as much either way
pub plain_within : (w : World) (sheet : ℕ) (asks : Bool) (ts : Terms Corner) (before after : ℕ) → asks ≡ false → after ≤ before + cost_all w sheet false ts → after ≤ before + cost_all w sheet asks ts
plain_within w sheet asks ts before after is within = subst (λ t. after ≤ before + cost_all w sheet t ts) (sym is) within
