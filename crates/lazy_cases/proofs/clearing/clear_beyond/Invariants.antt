use Rattle.std.proofs.Common.{◌≡◌, ℕ, ◌<◌}
use Rattle.lazy_cases.specs.Ways.{AreFew, ComesBack}
use Rattle.lazy_cases.proofs.clearing.clear_beyond.Given as goal

-- nothing under the ids gone by is in the way
abbrev pub invariant-ids : goal.invariant-ids
invariant-ids l = record {
  few : AreFew l.store;
  line : l.store.line ≡ l.fn.store.line;
  back : (k : ℕ) → k < l.id → ComesBack l.store k;
}
