use Rattle.case_files.proofs.Texts.{split}
use Rattle.case_files.proofs.page.around.Goals as goal

pub returns : goal.returns
returns c = split c.args.words.now c.args.text.now c.split_once.result c.split_once.ensures.cases
