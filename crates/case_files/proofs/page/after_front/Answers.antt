use Rattle.case_files.proofs.Texts.{stripped}
use Rattle.case_files.proofs.page.after_front.Goals as goal

pub returns : goal.returns
returns c = stripped c.args.words.now c.args.text.now c.strip_prefix.result c.strip_prefix.ensures.cases
