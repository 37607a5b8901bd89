use Rattle.std.proofs.Common.{◌≡◌, ◌∙◌, ap, refl, ℕ, List, Option, None, Some}
use Rattle.std.specs.FinMap as fin
use Rattle.std.specs.List.{filter_map}
use Rattle.formula_tree.specs.Links.{once, same_link}
use Rattle.formula_tree.specs.Mentions.{mentions_in}
use Rattle.formula_tree.specs.Term.{Term}
use Rattle.formula_tree.specs.declared.link.Link.{Link}
use Rattle.formula_tree.specs.declared.mention.Mention.{Mention}
use Rattle.formula_tree.specs.declared.reference.Corner.{Corner}
use Rattle.book_values.specs.Names.{Names}
use Rattle.book_values.specs.Workbook.{content_tree}
use Rattle.book_model.specs.Answers.{link_of, links_of}
use Rattle.session_operations.specs.Seen.{state_of}
use Rattle.session_questions.specs.internal.Links.{mentioned}
use Rattle.session_questions.proofs.ListedLinks.{links_once}
use Rattle.session_questions.proofs.links.links_from.Goals as goal

-- mentions as links, each once
abbrev listed : Names → ℕ → List Mention → List Link
listed names sheet mentions = once same_link (filter_map (link_of names sheet) mentions)

linked : (names : Names) (sheet : ℕ) (t : Option (Term Corner)) → listed names sheet (mentioned t) ≡ links_of names sheet t
linked names sheet None = refl
linked names sheet (Some t) = links_once names sheet (mentions_in t)

pub returns-clause-links : goal.returns-clause-links
returns-clause-links c =
    let d = state_of c.args.parts.now in
    let sheet = c.args.at.sheet in
    c.in_ok-links.ensures
    ∙ ap (λ x. listed (fin.entries x.book.names) sheet c.as_slice.result.now) c.in_ok-mentions.ensures.state
    ∙ ap (listed (fin.entries d.book.names) sheet) (c.as_slice.ensures.value ∙ c.in_ok-mentions.ensures.mentions)
    ∙ linked (fin.entries d.book.names) sheet (content_tree (fin.get d.book.cells c.args.at))
