-- What a formula mentions, as links, each once: they are the same whether or not what is mentioned was listed once before.
-- Serves what a cell's formula needs.
use Rattle.std.proofs.Common.{◌≡◌, ◌∙◌, sym, ap, subst, refl, ℕ, Bool, true, false, if◌then◌else◌, List, [], ◌∷◌, ◌++◌, Option, Some, None, is_some, option_map, ⊎_elim}
use Rattle.std.specs.List.{cons_option, filter_map, list_any}
use Rattle.std.specs.Cmp.{IsEquivalence}
use Rattle.std.proofs.lemmas.Bool.{false≢true, or_cases, or_left, or_right}
use Rattle.std.proofs.lemmas.List.Elements.{filter_map-append}
use Rattle.cell_addr.proofs.Listed.{folded-same_name}
use Rattle.cell_addr.proofs.SamePlaces.{same_place-decides, same_block-decides, same_whole-decides}
use Rattle.cell_addr.specs.Text.{folded}
use Rattle.cell_addr.specs.Whole.{whole_block}
use Rattle.formula_tree.proofs.Once.{lists_once, once_after-append}
use Rattle.formula_tree.proofs.SameLinks.{links_alike}
use Rattle.formula_tree.specs.Links.{once, once_after, same_link}
use Rattle.formula_tree.specs.Mentions.{same_mention}
use Rattle.formula_tree.specs.declared.link.Link.TheVariants as links
use Rattle.formula_tree.specs.declared.mention.Mention.{Mention}
use Rattle.formula_tree.specs.declared.mention.Mention.TheVariants as mention
use Rattle.book_values.specs.Names.{Names, found, tree_in}
use Rattle.book_model.specs.Answers.{link_of, name_link}

any-given : {Y : Type 0} (p : Y → Bool) (o : Option Y) (ys : List Y) → list_any p ys ≡ true → list_any p (cons_option o ys) ≡ true
any-given p None ys h = h
any-given p (Some y) ys h = or_right (p y) (list_any p ys) h

-- an item more, and then others
one-more : {Y : Type 0} (alike : Y → Y → Bool) (done : List Y) (o : Option Y) (rest : List Y) → once_after alike (once_after alike done (cons_option o [])) rest ≡ once_after alike done (cons_option o rest)
one-more alike done None rest = refl
one-more alike done (Some y) rest = refl

-- an item that stands there
known : {Y : Type 0} (alike : Y → Y → Bool) (done : List Y) (o : Option Y) (rest : List Y) → ((y : Y) → o ≡ Some y → list_any (alike y) done ≡ true) → once_after alike done (cons_option o rest) ≡ once_after alike done rest
known alike done None rest h = refl
known alike done (Some y) rest h = ap (λ b. once_after alike (if b then done else done ++ y ∷ []) rest) (h y refl)

module _ {X Y : Type 0} (same : X → X → Bool) (alike : Y → Y → Bool) (laws : IsEquivalence alike) (give : X → Option Y) (equal : (x z : X) → same x z ≡ true → give x ≡ give z) where
  -- what is given of an item stands among what is given of items one of which is the same
  stands : (x : X) (y : Y) (done : List X) → give x ≡ Some y → list_any (same x) done ≡ true → list_any (alike y) (filter_map give done) ≡ true
  stands x y [] e there = absurd (false≢true there)
  stands x y (z ∷ done) e there = ⊎_elim
      (λ (here : same x z ≡ true).
      subst (λ o. list_any (alike y) (cons_option o (filter_map give done)) ≡ true) (sym e ∙ equal x z here) (or_left (alike y y) (list_any (alike y) (filter_map give done)) (laws.refl y)))
      (λ (later : list_any (same x) done ≡ true). any-given (alike y) (give z) (filter_map give done) (stands x y done e later))
      (or_cases (same x z) (list_any (same x) done) there)

  -- what is given of the items, each once
  abbrev given : List X → List Y
  given done = once alike (filter_map give done)

  given-next : (x : X) (done rest : List X) (b : Bool) → list_any (same x) done ≡ b
      → once_after alike (given (if b then done else done ++ x ∷ [])) (filter_map give rest) ≡ once_after alike (given done) (filter_map give (x ∷ rest))
  given-next x done rest true there =
      sym (known alike (given done) (give x) (filter_map give rest) (λ y e. (lists_once alike laws).members (filter_map give done) y ∙ stands x y done e there))
  given-next x done rest false other =
      ap (λ ys. once_after alike (once alike ys) (filter_map give rest)) (filter_map-append give done (x ∷ []))
      ∙ ap (λ ys. once_after alike ys (filter_map give rest)) (once_after-append alike [] (filter_map give done) (cons_option (give x) []))
      ∙ one-more alike (given done) (give x) (filter_map give rest)

  given-after : (done xs : List X) → given (once_after same done xs) ≡ once_after alike (given done) (filter_map give xs)
  given-after done [] = refl
  given-after done (x ∷ xs) = given-after (if list_any (same x) done then done else done ++ x ∷ []) xs ∙ given-next x done xs (list_any (same x) done) refl

-- a word finds the same name in any case of its letters
found-folded : (names : Names) (sheet : ℕ) (v w : List ℕ) → folded v ≡ folded w → found names v sheet ≡ found names w sheet
found-folded names sheet v w e =
    ap (λ word. if is_some (tree_in names (record { scope = Some sheet; word = word })) then Some (record { scope = Some sheet; word = word })
    else if is_some (tree_in names (record { scope = None; word = word })) then Some (record { scope = None; word = word }) else None) e

same-links : (names : Names) (sheet : ℕ) (m n : Mention) → same_mention m n ≡ true → link_of names sheet m ≡ link_of names sheet n
same-links names sheet (mention.Cell p) (mention.Cell q) h = ap (λ x. Some (links.Cell x)) ((same_place-decides p q).0 h)
same-links names sheet (mention.Area b) (mention.Area c) h = ap (λ x. Some (links.Area x)) ((same_block-decides b c).0 h)
same-links names sheet (mention.Whole v) (mention.Whole w) h = ap (λ x. Some (links.Area (whole_block x))) ((same_whole-decides v w).0 h)
same-links names sheet (mention.Name v) (mention.Name w) h = ap (option_map name_link) (found-folded names sheet v w (folded-same_name v w h))
same-links names sheet (mention.Cell p) (mention.Area c) h = absurd (false≢true h)
same-links names sheet (mention.Cell p) (mention.Whole w) h = absurd (false≢true h)
same-links names sheet (mention.Cell p) (mention.Name w) h = absurd (false≢true h)
same-links names sheet (mention.Area b) (mention.Cell q) h = absurd (false≢true h)
same-links names sheet (mention.Area b) (mention.Whole w) h = absurd (false≢true h)
same-links names sheet (mention.Area b) (mention.Name w) h = absurd (false≢true h)
same-links names sheet (mention.Whole v) (mention.Cell q) h = absurd (false≢true h)
same-links names sheet (mention.Whole v) (mention.Area c) h = absurd (false≢true h)
same-links names sheet (mention.Whole v) (mention.Name w) h = absurd (false≢true h)
same-links names sheet (mention.Name v) (mention.Cell q) h = absurd (false≢true h)
same-links names sheet (mention.Name v) (mention.Area c) h = absurd (false≢true h)
same-links names sheet (mention.Name v) (mention.Whole w) h = absurd (false≢true h)

-- the links of mentions that were listed once
pub links_once : (names : Names) (sheet : ℕ) (ms : List Mention) → once same_link (filter_map (link_of names sheet) (once same_mention ms)) ≡ once same_link (filter_map (link_of names sheet) ms)
links_once names sheet ms = given-after same_mention same_link links_alike (link_of names sheet) (same-links names sheet) [] ms
