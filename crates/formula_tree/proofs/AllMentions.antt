-- The places that a tree mentions are its links, and the names are its names; and mentions are the same in the sense of an
-- equivalence. Serves the laws.
use Rattle.std.proofs.Common.{◌≡◌, ◌∙◌, ap, refl, Bool, true, false, ◌&&◌, if◌then◌else◌, List, [], ◌++◌}
use Rattle.std.specs.List.{filter_map}
use Rattle.std.specs.Cmp.{IsEquivalence}
use Rattle.std.proofs.lemmas.List.Elements.{filter_map-append}
use Rattle.cell_addr.proofs.SamePlaces.{same_place-decides, same_block-decides, same_whole-decides}
use Rattle.formula_tree.specs.Links.{is_place_word, links_in, links_in_all, names_in, names_in_all}
use Rattle.formula_tree.specs.Mentions.{MentionsAreAll, mentions_in, mentions_in_all, place_link, same_mention, word_of}
use Rattle.formula_tree.specs.Term.{Term, number, text, truth, fault, cell, area, whole, name, prefix, percent, binary, call, paren, Terms, no_terms, term, is_reference}
use Rattle.formula_tree.specs.declared.link.Link.{Link}
use Rattle.formula_tree.specs.declared.mention.Mention.{Mention}
use Rattle.formula_tree.specs.declared.mention.Mention.TheVariants as mention
use Rattle.formula_tree.specs.declared.reference.Corner.{Corner}
use Rattle.formula_tree.proofs.SameLinks.{names_alike, places_alike, blocks_alike, wholes_alike}

-- a tree that is skipped or not
links-unless : (b : Bool) (ms : List Mention) (ls : List Link) → filter_map place_link ms ≡ ls → filter_map place_link (if b then [] else ms) ≡ (if b then [] else ls)
links-unless true ms ls h = refl
links-unless false ms ls h = h

reference-no_names : (t : Term Corner) → is_reference t ≡ true → names_in t ≡ []
reference-no_names (number m) h = cc
reference-no_names (text w) h = cc
reference-no_names (truth b) h = cc
reference-no_names (fault f) h = cc
reference-no_names (cell c) h = refl
reference-no_names (area c d) h = refl
reference-no_names (whole axis c d) h = refl
reference-no_names (name w) h = cc
reference-no_names (prefix s t) h = cc
reference-no_names (percent t) h = cc
reference-no_names (binary o l r) h = cc
reference-no_names (call w ts) h = cc
reference-no_names (paren t) h = cc

names-unless : (skip : Bool) (t : Term Corner) (b : Bool) → is_reference t ≡ b → filter_map word_of (mentions_in t) ≡ names_in t → filter_map word_of (if skip && b then [] else mentions_in t) ≡ names_in t
names-unless true t true e h = let n = reference-no_names t e in rw n refl
names-unless true t false e h = h
names-unless false t b e h = h

mutual
  places : (t : Term Corner) → filter_map place_link (mentions_in t) ≡ links_in t
  places (number m) = refl
  places (text w) = refl
  places (truth b) = refl
  places (fault f) = refl
  places (cell c) = refl
  places (area c d) = refl
  places (whole axis c d) = refl
  places (name w) = refl
  places (prefix s t) = places t
  places (percent t) = places t
  places (binary o l r) = filter_map-append place_link (mentions_in l) (mentions_in r) ∙ ap (λ x. x ++ filter_map place_link (mentions_in r)) (places l) ∙ ap (λ x. links_in l ++ x) (places r)
  places (call w ts) = all_places (is_place_word w) ts
  places (paren t) = places t

  all_places : (skip : Bool) (ts : Terms Corner) → filter_map place_link (mentions_in_all skip ts) ≡ links_in_all skip ts
  all_places skip no_terms = refl
  all_places skip (term t ts) =
      filter_map-append place_link (if skip && is_reference t then [] else mentions_in t) (mentions_in_all skip ts)
      ∙ ap (λ x. x ++ filter_map place_link (mentions_in_all skip ts)) (links-unless (skip && is_reference t) (mentions_in t) (links_in t) (places t))
      ∙ ap (λ x. (if skip && is_reference t then [] else links_in t) ++ x) (all_places skip ts)

mutual
  names : (t : Term Corner) → filter_map word_of (mentions_in t) ≡ names_in t
  names (number m) = refl
  names (text w) = refl
  names (truth b) = refl
  names (fault f) = refl
  names (cell c) = refl
  names (area c d) = refl
  names (whole axis c d) = refl
  names (name w) = refl
  names (prefix s t) = names t
  names (percent t) = names t
  names (binary o l r) = filter_map-append word_of (mentions_in l) (mentions_in r) ∙ ap (λ x. x ++ filter_map word_of (mentions_in r)) (names l) ∙ ap (λ x. names_in l ++ x) (names r)
  names (call w ts) = all_names (is_place_word w) ts
  names (paren t) = names t

  all_names : (skip : Bool) (ts : Terms Corner) → filter_map word_of (mentions_in_all skip ts) ≡ names_in_all ts
  all_names skip no_terms = refl
  all_names skip (term t ts) =
      filter_map-append word_of (if skip && is_reference t then [] else mentions_in t) (mentions_in_all skip ts)
      ∙ ap (λ x. x ++ filter_map word_of (mentions_in_all skip ts)) (names-unless skip t (is_reference t) refl (names t))
      ∙ ap (λ x. names_in t ++ x) (all_names skip ts)

pub mentions-are_all : MentionsAreAll
mentions-are_all = record { places = places; names = names }

mention-itself : (a : Mention) → same_mention a a ≡ true
mention-itself (mention.Cell p) = places_alike.refl p
mention-itself (mention.Area b) = blocks_alike.refl b
mention-itself (mention.Whole w) = wholes_alike.refl w
mention-itself (mention.Name w) = names_alike.refl w

mention-swap : (a b : Mention) → same_mention a b ≡ same_mention b a
mention-swap (mention.Cell p) (mention.Cell q) = places_alike.symm p q
mention-swap (mention.Cell p) (mention.Area c) = refl
mention-swap (mention.Cell p) (mention.Whole w) = refl
mention-swap (mention.Cell p) (mention.Name w) = refl
mention-swap (mention.Area b) (mention.Cell q) = refl
mention-swap (mention.Area b) (mention.Area c) = blocks_alike.symm b c
mention-swap (mention.Area b) (mention.Whole w) = refl
mention-swap (mention.Area b) (mention.Name w) = refl
mention-swap (mention.Whole v) (mention.Cell q) = refl
mention-swap (mention.Whole v) (mention.Area c) = refl
mention-swap (mention.Whole v) (mention.Whole w) = wholes_alike.symm v w
mention-swap (mention.Whole v) (mention.Name w) = refl
mention-swap (mention.Name v) (mention.Cell q) = refl
mention-swap (mention.Name v) (mention.Area c) = refl
mention-swap (mention.Name v) (mention.Whole w) = refl
mention-swap (mention.Name v) (mention.Name w) = names_alike.symm v w

mention-along : (a b c : Mention) → same_mention a b ≡ true → same_mention a c ≡ same_mention b c
mention-along (mention.Cell p) (mention.Cell q) c h = ap (λ x. same_mention (mention.Cell x) c) ((same_place-decides p q).0 h)
mention-along (mention.Cell p) (mention.Area d) c h = absurd (cc)
mention-along (mention.Cell p) (mention.Whole w) c h = absurd (cc)
mention-along (mention.Cell p) (mention.Name w) c h = absurd (cc)
mention-along (mention.Area b) (mention.Cell q) c h = absurd (cc)
mention-along (mention.Area b) (mention.Area d) c h = ap (λ x. same_mention (mention.Area x) c) ((same_block-decides b d).0 h)
mention-along (mention.Area b) (mention.Whole w) c h = absurd (cc)
mention-along (mention.Area b) (mention.Name w) c h = absurd (cc)
mention-along (mention.Whole v) (mention.Cell q) c h = absurd (cc)
mention-along (mention.Whole v) (mention.Area d) c h = absurd (cc)
mention-along (mention.Whole v) (mention.Whole w) c h = ap (λ x. same_mention (mention.Whole x) c) ((same_whole-decides v w).0 h)
mention-along (mention.Whole v) (mention.Name w) c h = absurd (cc)
mention-along (mention.Name v) (mention.Cell q) c h = absurd (cc)
mention-along (mention.Name v) (mention.Area d) c h = absurd (cc)
mention-along (mention.Name v) (mention.Whole w) c h = absurd (cc)
mention-along (mention.Name v) (mention.Name w) (mention.Cell q) h = refl
mention-along (mention.Name v) (mention.Name w) (mention.Area d) h = refl
mention-along (mention.Name v) (mention.Name w) (mention.Whole u) h = refl
mention-along (mention.Name v) (mention.Name w) (mention.Name x) h = names_alike.congr v w x h

pub mentions_alike : IsEquivalence same_mention
mentions_alike = record { refl = mention-itself; symm = mention-swap; congr = mention-along }
