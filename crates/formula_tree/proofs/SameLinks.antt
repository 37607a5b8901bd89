-- Names are the same, and links are the same, in the sense of an equivalence. Serves the law on what is
-- listed once.
use Rattle.std.proofs.Common.{◌≡◌, ◌∙◌, ap, subst, refl, ℕ, true, ◌&&◌, Option, Some, None, eqb-true, eq-eqb}
use Rattle.std.proofs.lemmas.Bool.{and_from, and_parts}
use Rattle.std.specs.Cmp.{IsEquivalence, decided}
use Rattle.std.specs.Cmp.Lexicographic.{on_texts_equal}
use Rattle.cell_addr.proofs.SamePlaces.{same_place-decides, same_block-decides, same_whole-decides}
use Rattle.cell_addr.specs.Place.{same_place, same_block}
use Rattle.cell_addr.specs.Sheets.{same_name}
use Rattle.cell_addr.specs.Text.{folded}
use Rattle.cell_addr.specs.Whole.{same_whole}
use Rattle.formula_tree.specs.declared.link.Link.{Link}
use Rattle.formula_tree.specs.declared.link.Link.TheVariants as links
use Rattle.formula_tree.specs.Links.{same_scope, same_link}

pub names_alike : IsEquivalence same_name
names_alike = on_texts_equal folded

scope-itself : (s : Option ℕ) → same_scope s s ≡ true
scope-itself None = refl
scope-itself (Some n) = eq-eqb n n refl

scope-equal : (s t : Option ℕ) → same_scope s t ≡ true → s ≡ t
scope-equal None None h = refl
scope-equal (Some m) (Some n) h = ap (λ k. Some k) (eqb-true m n h)
scope-equal None (Some n) h = absurd (cc)
scope-equal (Some m) None h = absurd (cc)

pub places_alike : IsEquivalence same_place
places_alike = decided same_place same_place-decides

pub blocks_alike : IsEquivalence same_block
blocks_alike = decided same_block same_block-decides

pub wholes_alike : IsEquivalence same_whole
wholes_alike = decided same_whole same_whole-decides

scopes_alike : IsEquivalence same_scope
scopes_alike = decided same_scope (λ s t. (scope-equal s t, λ e. subst (λ u. same_scope s u ≡ true) e (scope-itself s)))

link-itself : (a : Link) → same_link a a ≡ true
link-itself (links.Cell p) = places_alike.refl p
link-itself (links.Area b) = blocks_alike.refl b
link-itself (links.Whole w) = wholes_alike.refl w
link-itself (links.Name s w) = and_from (same_scope s s) (same_name w w) (scope-itself s) (names_alike.refl w)

link-swap : (a b : Link) → same_link a b ≡ same_link b a
link-swap (links.Cell p) (links.Cell q) = places_alike.symm p q
link-swap (links.Cell p) (links.Area c) = refl
link-swap (links.Cell p) (links.Whole w) = refl
link-swap (links.Cell p) (links.Name t w) = refl
link-swap (links.Area b) (links.Cell q) = refl
link-swap (links.Area b) (links.Area c) = blocks_alike.symm b c
link-swap (links.Area b) (links.Whole w) = refl
link-swap (links.Area b) (links.Name t w) = refl
link-swap (links.Whole v) (links.Cell q) = refl
link-swap (links.Whole v) (links.Area c) = refl
link-swap (links.Whole v) (links.Whole w) = wholes_alike.symm v w
link-swap (links.Whole v) (links.Name t w) = refl
link-swap (links.Name s v) (links.Cell q) = refl
link-swap (links.Name s v) (links.Area c) = refl
link-swap (links.Name s v) (links.Whole w) = refl
link-swap (links.Name s v) (links.Name t w) = ap (λ b. b && same_name v w) (scopes_alike.symm s t) ∙ ap (λ b. same_scope t s && b) (names_alike.symm v w)

link-along : (a b c : Link) → same_link a b ≡ true → same_link a c ≡ same_link b c
link-along (links.Cell p) (links.Cell q) c h = ap (λ x. same_link (links.Cell x) c) ((same_place-decides p q).0 h)
link-along (links.Cell p) (links.Area d) c h = absurd (cc)
link-along (links.Cell p) (links.Whole w) c h = absurd (cc)
link-along (links.Cell p) (links.Name t w) c h = absurd (cc)
link-along (links.Area b) (links.Cell q) c h = absurd (cc)
link-along (links.Area b) (links.Area d) c h = ap (λ x. same_link (links.Area x) c) ((same_block-decides b d).0 h)
link-along (links.Area b) (links.Whole w) c h = absurd (cc)
link-along (links.Area b) (links.Name t w) c h = absurd (cc)
link-along (links.Whole v) (links.Cell q) c h = absurd (cc)
link-along (links.Whole v) (links.Area d) c h = absurd (cc)
link-along (links.Whole v) (links.Whole w) c h = ap (λ x. same_link (links.Whole x) c) ((same_whole-decides v w).0 h)
link-along (links.Whole v) (links.Name t w) c h = absurd (cc)
link-along (links.Name s v) (links.Cell q) c h = absurd (cc)
link-along (links.Name s v) (links.Area d) c h = absurd (cc)
link-along (links.Name s v) (links.Whole w) c h = absurd (cc)
link-along (links.Name s v) (links.Name t w) (links.Cell q) h = refl
link-along (links.Name s v) (links.Name t w) (links.Area d) h = refl
link-along (links.Name s v) (links.Name t w) (links.Whole u) h = refl
link-along (links.Name s v) (links.Name t w) (links.Name u x) h =
    let (e, f) = and_parts (same_scope s t) (same_name v w) h in
    ap (λ b. b && same_name v x) (scopes_alike.congr s t u e) ∙ ap (λ b. same_scope t u && b) (names_alike.congr v w x f)

pub links_alike : IsEquivalence same_link
links_alike = record { refl = link-itself; symm = link-swap; congr = link-along }
