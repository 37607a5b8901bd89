use Rattle.std.proofs.Common.{sym}
use Rattle.std.proofs.lemmas.List.{drop-drop}
use Rattle.formula_parse.proofs.frames.Frames.pop.Goals as goal

pub returns : goal.returns
returns c = sym (drop-drop 1 c.args.self.now.free c.args.self.now.list)
