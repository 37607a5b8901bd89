-- Each record that is read is one less.
use Rattle.std.proofs.Common.{length}
use Rattle.sheet_cases.proofs.apart.Run.answer_all.Given as goal

abbrev pub decreases-records : goal.decreases-records
decreases-records g l = length l.records.left
