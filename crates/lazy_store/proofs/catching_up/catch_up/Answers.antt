use Rattle.std.proofs.Common.{◌≡◌, ◌<◌, ◌≤◌, ◌+◌, sym, subst, arith, ℕ, List, length, slice_get, Some}
use Rattle.std.proofs.lemmas.List.{length-map}
use Rattle.std.specs.HashMap as hash
use Rattle.formula_tree.specs.Pooled.{held}
use Rattle.lazy_store.specs.Holders.{kept_under}
use Rattle.lazy_store.specs.Kept.{Kept}
use Rattle.lazy_store.specs.internal.Passes.{HasPassed}
use Rattle.lazy_store.proofs.Budgets.{known-in, none-left, others-on, spent-most, still-short}
use Rattle.lazy_store.proofs.Stepping.{front-trans}
use Rattle.lazy_store.proofs.Tables.{stand-trans}
use Rattle.lazy_store.proofs.catching_up.catch_up.Goals as goal

pub holders-preserved : goal.holders-preserved
holders-preserved c =
    let line = c.args.line.now in
    let old = c.args.holders.now in
    let mid = c.holders.holders in
    let new = c.pass_by.new.holders in
    let so_far = c.holders.invariant in
    let same : hash.keys mid ≡ hash.keys old = so_far.along.keys in
    record {
      along = stand-trans line old mid new so_far.along c.pass_by.ensures.along;
      noted = c.pass_by.ensures.noted;
      others = others-on line line.cursor (kept_under old) (kept_under mid) (kept_under new) so_far.others c.pass_by.ensures.others;
      passed = subst (λ (ids : List ℕ). HasPassed line line.cursor ids c.args.budget (c.holders.index + 1) c.in_ok-pass.pass.left c.in_ok-pass.pass.all (kept_under old) (kept_under new)) same
          (c.in_ok-pass.ensures.passed c.args.budget (kept_under old)
          (subst (λ (ids : List ℕ). HasPassed line line.cursor ids c.args.budget c.holders.index c.holders.pass.left c.holders.pass.all (kept_under old) (kept_under mid)) (sym same) so_far.passed));
      pool = front-trans (held c.args.pool.now) (held c.holders.pool) (held c.pass_by.new.pool) so_far.pool c.pass_by.ensures.pool;
    }

pub returns-clause-most : goal.returns-clause-most
returns-clause-most c =
    let line = c.args.line.now in
    let old = c.args.holders.now in
    let ids = hash.keys old in
    let count = c.len-index-end.ensures.len in
    let whole : length ids ≤ c.holders.index = omega (arith, length-map old.entries (λ e. e.0), count, c.holders-test.false) in
    spent-most line line.cursor ids c.args.budget c.holders.index c.holders.pass.left c.holders.pass.all (kept_under old) (kept_under c.holders.holders) c.holders.invariant.passed whole

pub returns-clause-left : goal.returns-clause-left
returns-clause-left c =
    let line = c.args.line.now in
    let old = c.args.holders.now in
    let mid = c.holders.holders in
    let ids = hash.keys old in
    let same : hash.keys mid ≡ ids = c.holders.invariant.along.keys in
    let count = c.len-index-end.ensures.len in
    let whole : length ids ≤ c.holders.index = omega (arith, length-map old.entries (λ e. e.0), count, c.holders-test.false) in
    still-short line line.cursor ids c.args.budget c.holders.index c.holders.pass.left c.holders.pass.all (kept_under old) (kept_under mid) c.holders.invariant.passed whole
    (subst (λ (xs : List ℕ). (id : ℕ) (h : Kept) → kept_under mid id ≡ Some h → (i : ℕ) × (i < length xs) × (slice_get xs i ≡ Some id)) same (known-in mid))

pub returns-clause-all : goal.returns-clause-all
returns-clause-all c =
    let line = c.args.line.now in
    let old = c.args.holders.now in
    let mid = c.holders.holders in
    let ids = hash.keys old in
    let same : hash.keys mid ≡ ids = c.holders.invariant.along.keys in
    let count = c.len-index-end.ensures.len in
    let whole : length ids ≤ c.holders.index = omega (arith, length-map old.entries (λ e. e.0), count, c.holders-test.false) in
    none-left line line.cursor ids c.args.budget c.holders.index c.holders.pass.left c.holders.pass.all (kept_under old) (kept_under mid) c.holders.invariant.passed whole
    (subst (λ (xs : List ℕ). (id : ℕ) (h : Kept) → kept_under mid id ≡ Some h → (i : ℕ) × (i < length xs) × (slice_get xs i ≡ Some id)) same (known-in mid))
