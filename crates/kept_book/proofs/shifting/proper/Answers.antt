use Rattle.kept_book.proofs.shifting.proper.Goals as goal

pub returns : goal.returns
returns g c = g.S.SheetNames.are_sheets c.args.sheets.now
