use Rattle.std.proofs.Common.{◌≡◌, ◌∙◌, ap, ℕ}
use Rattle.std.specs.List.{list_any}
use Rattle.std.proofs.lemmas.List.{take_all}
use Rattle.block_slots.specs.Slots.{has_cell, in_block}
use Rattle.block_index.specs.Index.{Files, in_cells}
use Rattle.block_index.specs.internal.Keys.{in_slot}
use Rattle.block_index.proofs.Filing.{Files-on, Files-to, all_found, found_more, slot_covered}
use Rattle.block_index.proofs.index.BlockIndex.file_cut.Goals as goal

pub returns-in_err-file_under-clause-files : goal.returns-in_err-file_under-clause-files
returns-in_err-file_under-clause-files c =
    let cells : (row col : ℕ) → list_any (λ s. has_cell s row col) c.deref-slot-items.result.now ≡ in_block c.args.rows c.args.cols row col
    = λ row col. ap (λ ss. list_any (λ s. has_cell s row col) ss) c.deref-slot-items.ensures.value ∙ c.in_ok-slots.ensures.any row col in
    Files-on (in_cells c.args.sheet c.args.rows c.args.cols) c.args.number c.args.self.now c.slots.self c.file_under.new.self c.slots.invariant.files
    (Files-to (in_slot c.args.sheet _) (in_cells c.args.sheet c.args.rows c.args.cols) c.args.number c.slots.self c.file_under.new.self (slot_covered c.args.sheet c.args.rows c.args.cols c.deref-slot-items.result.now cells c.slots.slot-index _ c.slots-test.true) c.file_under.ensures.files)

pub slots-preserved : goal.slots-preserved
slots-preserved c =
    let cells : (row col : ℕ) → list_any (λ s. has_cell s row col) c.deref-slot-items.result.now ≡ in_block c.args.rows c.args.cols row col
    = λ row col. ap (λ ss. list_any (λ s. has_cell s row col) ss) c.deref-slot-items.ensures.value ∙ c.in_ok-slots.ensures.any row col in
    let step : Files (in_cells c.args.sheet c.args.rows c.args.cols) c.args.number c.slots.self c.file_under.new.self
    = Files-to (in_slot c.args.sheet _) (in_cells c.args.sheet c.args.rows c.args.cols) c.args.number c.slots.self c.file_under.new.self (slot_covered c.args.sheet c.args.rows c.args.cols c.deref-slot-items.result.now cells c.slots.slot-index _ c.slots-test.true) c.file_under.ensures.files in
    record {
      files = Files-on (in_cells c.args.sheet c.args.rows c.args.cols) c.args.number c.args.self.now c.slots.self c.file_under.new.self c.slots.invariant.files step;
      found = found_more c.args.sheet c.args.rows c.args.cols c.deref-slot-items.result.now cells c.slots.self c.file_under.new.self c.args.number c.slots.slot-index _ c.slots-test.true c.slots.invariant.found step c.in_ok-file_under.ensures.found;
    }

pub returns-clause-found : goal.returns-clause-found
returns-clause-found c =
    let cells : (row col : ℕ) → list_any (λ s. has_cell s row col) c.deref-slot-items.result.now ≡ in_block c.args.rows c.args.cols row col
    = λ row col. ap (λ ss. list_any (λ s. has_cell s row col) ss) c.deref-slot-items.ensures.value ∙ c.in_ok-slots.ensures.any row col in
    all_found c.args.sheet c.args.rows c.args.cols c.deref-slot-items.result.now cells c.slots.self c.args.number _ (take_all c.slots.slot-index c.deref-slot-items.result.now c.slots-test.false) c.slots.invariant.found
