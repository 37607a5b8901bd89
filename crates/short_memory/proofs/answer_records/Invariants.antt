-- Each record that is read is one less.
use Rattle.std.proofs.Common.{length}
use Rattle.short_memory.proofs.answer_records.Given as goal

abbrev pub decreases-records : goal.decreases-records
decreases-records g l = length l.records.left
