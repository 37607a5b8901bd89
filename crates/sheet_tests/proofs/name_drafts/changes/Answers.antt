use Rattle.name_table.specs.Named.{words_of}
use Rattle.sheet_tests.proofs.name_drafts.changes.Goals as goal

pub returns : goal.returns
returns c =
    let words = words_of c.args.names.now in
    let none = c.new-draft.ensures.known words in
    let one = c.in_ok-set.ensures.known words c.requires none in
    let two = c.in_ok-set-2.ensures.known words c.requires one in
    c.in_ok-set-3.ensures.known words c.requires two
