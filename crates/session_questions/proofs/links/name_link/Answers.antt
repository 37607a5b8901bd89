use Rattle.std.proofs.Common.{◌∙◌, sym, ap, Some, option_map}
use Rattle.formula_tree.specs.declared.link.Link.TheVariants as links
use Rattle.book_values.specs.Names.{key_of}
use Rattle.session_questions.proofs.NeedingNames.{found-link}
use Rattle.session_questions.proofs.links.name_link.Goals as goal

pub returns-in_ok-word-in-Some : goal.returns-in_ok-word-in-Some
returns-in_ok-word-in-Some c =
    let word = c.args.word.now in
    ap (λ w. Some (links.Name c.in-Some.scope w)) c.in_ok-word-in-Some.ensures
    ∙ found-link c.in-Some.scope word _ (sym (ap (option_map (λ scope. key_of scope word)) c.in-Some.is) ∙ c.scope_finding.ensures)
