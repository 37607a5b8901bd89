use Rattle.std.proofs.Common.{◌≡◌, ◌∙◌, ap, subst, true}
use Rattle.block_slots.specs.Slots.{size_of}
use Rattle.block_index.specs.Index.{FindsAlike}
use Rattle.block_index.specs.internal.Keys.{has_size, in_slot, key_of, key_size, place_of}
use Rattle.block_index.proofs.Filing.{Files-none, alike_same, either_way, filed_found, filed_grows, filed_only, on_ok}
use Rattle.block_index.proofs.index.BlockIndex.file_under.Goals as goal

pub returns-clause-files : goal.returns-clause-files
returns-clause-files c =
    let alike : FindsAlike c.args.self.now c.slot_under.new.self = c.slot_under.ensures.alike in
    let is : c.in_ok-place.place ≡ place_of c.slot_under.new.self.slots.keys (key_of c.args.sheet c.args.slot) = c.in_ok-place.ensures.place ∙ ap (place_of c.slot_under.new.self.slots.keys) c.of.ensures in
    either_way c.push_at.result _ _ _ c.push_at.ensures.ok c.push_at.ensures.err
    (λ put. record {
      grows = filed_grows c.args.self.now c.slot_under.new.self c.push_at.new.self c.args.sheet c.args.slot c.args.number c.in_ok-place.place alike c.push_at.ensures.slots c.push_at.ensures.sizes is c.in_ok-place.ensures.inside put;
      only = filed_only c.args.self.now c.slot_under.new.self c.push_at.new.self c.args.sheet c.args.slot c.args.number c.in_ok-place.place alike c.push_at.ensures.slots c.push_at.ensures.sizes is c.in_ok-place.ensures.inside put;
    })
    (λ same. Files-none (in_slot c.args.sheet c.args.slot) c.args.number c.args.self.now c.push_at.new.self
    (λ sheet row col n. alike_same c.slot_under.new.self c.push_at.new.self c.push_at.ensures.slots c.push_at.ensures.sizes same sheet row col n ∙ alike sheet row col n))

pub returns-clause-found : goal.returns-clause-found
returns-clause-found c =
    let alike : FindsAlike c.args.self.now c.slot_under.new.self = c.slot_under.ensures.alike in
    let is : c.in_ok-place.place ≡ place_of c.slot_under.new.self.slots.keys (key_of c.args.sheet c.args.slot) = c.in_ok-place.ensures.place ∙ ap (place_of c.slot_under.new.self.slots.keys) c.of.ensures in
    let size : has_size (size_of c.args.slot) c.slot_under.new.self.sizes.items ≡ true
    = subst (λ k. has_size (key_size k) c.slot_under.new.self.sizes.items ≡ true) c.of.ensures c.in_ok-place.ensures.size in
    on_ok c.push_at.result _ _ c.push_at.ensures.ok
    (λ put. filed_found c.args.self.now c.slot_under.new.self c.push_at.new.self c.args.sheet c.args.slot c.args.number c.in_ok-place.place alike c.push_at.ensures.slots c.push_at.ensures.sizes is c.in_ok-place.ensures.inside put size)
