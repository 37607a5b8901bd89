use Rattle.std.proofs.Common.{◌∙◌, sym, ap, ◌+◌, ◌++◌, ◌∷◌, drop, string_bytes}
use Rattle.std.proofs.lemmas.List.{drop_all, drop_more}
use Rattle.command_answers.specs.Replies.{link_text, links_text}
use Rattle.command_answers.specs.internal.Links.{links_left}
use Rattle.command_answers.proofs.LinkTexts.{no_link, one_link}
use Rattle.command_answers.proofs.links.links_text.Goals as goal

pub links-preserved : goal.links-preserved
links-preserved g c = λ d stands.
    let b = d.book in
    let links = c.args.links.now in
    let i = c.links.place in
    let l = c.index-links-place.result in
    let here = drop_more links i l c.links-test.true ∙ ap (λ x. x ∷ drop (i + 1) links) (sym c.index-links-place.is) in
    ap (λ t. t ++ links_left b (i + 1) (drop (i + 1) links)) (c.in_ok-push_link.ensures d stands ∙ ap (λ t. t ++ link_text b l) c.in_ok-push_gap.ensures)
    ∙ one_link b i (string_bytes c.links.text) l (drop (i + 1) links) (links_text b links)
    (ap (λ ls. string_bytes c.links.text ++ links_left b i ls) (sym here) ∙ c.links.invariant d stands)

pub returns : goal.returns
returns g c = λ d stands.
    let links = c.args.links.now in
    no_link d.book c.links.place (string_bytes c.links.text) (links_text d.book links)
    (ap (λ ls. string_bytes c.links.text ++ links_left d.book c.links.place ls) (sym (drop_all c.links.place links c.links-test.false)) ∙ c.links.invariant d stands)
