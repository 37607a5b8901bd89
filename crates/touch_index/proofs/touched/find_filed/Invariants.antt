use Rattle.std.proofs.Common.{◌≡◌, ◌++◌, take}
use Rattle.touch_index.proofs.touched.find_filed.Given as goal

abbrev pub invariant-filed : goal.invariant-filed
invariant-filed l = l.found.items ≡ l.initial.found.items ++ take l.number-index l.number-items
