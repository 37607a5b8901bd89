use Rattle.std.proofs.Common.{◌≡◌, ℕ, ◌<◌}
use Rattle.lazy_cases.specs.Ways.{AreFew, GoesOn}
use Rattle.lazy_cases.proofs.clearing.clear_before.Given as goal

-- nothing under the ids gone by is in the way
abbrev pub invariant-ids : goal.invariant-ids
invariant-ids l = record {
  few : AreFew l.store;
  line : l.store.line ≡ l.fn.store.line;
  on : (k : ℕ) → k < l.id → GoesOn l.position l.store k;
}
