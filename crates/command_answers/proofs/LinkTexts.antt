-- Links whose texts are put one after another. Serves the text of links.
use Rattle.std.proofs.Common.{◌≡◌, ◌∙◌, sym, ap, refl, arith, ℕ, zero, suc, ◌+◌, List, [], ◌∷◌, ◌++◌, append_assoc}
use Rattle.std.proofs.lemmas.List.{append-nil}
use Rattle.formula_tree.specs.declared.link.Link.{Link}
use Rattle.command_answers.specs.Replies.{link_text, links_text}
use Rattle.book_model.specs.Workbook.{Workbook}
use Rattle.command_answers.specs.internal.Links.{gap_before, links_behind, links_left}

first_link : (b : Workbook) (l : Link) (ls : List Link) → links_text b (l ∷ ls) ≡ link_text b l ++ links_behind b ls
first_link b l [] = sym (append-nil (link_text b l))
first_link b l (m ∷ ms) = ap (λ t. link_text b l ++ (32 ∷ t)) (first_link b m ms)

next_link : (b : Workbook) (n : ℕ) (l : Link) (ls : List Link) → links_left b n (l ∷ ls) ≡ gap_before n ++ (link_text b l ++ links_behind b ls)
next_link b zero l ls = first_link b l ls
next_link b (suc n) l ls = refl

-- one link more
pub one_link : (b : Workbook) (n : ℕ) (done : List ℕ) (l : Link) (ls : List Link) (whole : List ℕ) → done ++ links_left b n (l ∷ ls) ≡ whole
    → ((done ++ gap_before n) ++ link_text b l) ++ links_left b (n + 1) ls ≡ whole
one_link b n done l ls whole e =
    let next : suc n ≡ n + 1 = omega arith in
    ap (λ k. ((done ++ gap_before n) ++ link_text b l) ++ links_left b k ls) (sym next)
    ∙ append_assoc (done ++ gap_before n) (link_text b l) (links_behind b ls)
    ∙ append_assoc done (gap_before n) (link_text b l ++ links_behind b ls)
    ∙ ap (λ t. done ++ t) (sym (next_link b n l ls))
    ∙ e

-- no link is left
pub no_link : (b : Workbook) (n : ℕ) (done whole : List ℕ) → done ++ links_left b n [] ≡ whole → done ≡ whole
no_link b zero done whole e = sym (append-nil done) ∙ e
no_link b (suc n) done whole e = sym (append-nil done) ∙ e
