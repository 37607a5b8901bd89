use Rattle.std.proofs.Common.{◌≡◌, ◌∙◌, ap, sym, arith, ◌++◌, ◌∷◌, [], cond, length}
use Rattle.std.proofs.lemmas.List.{length_push}
use Rattle.needs_order.specs.Needs.{lists_of}
use Rattle.block_index.specs.internal.Keys.{place_of}
use Rattle.block_index.proofs.Filing.{absent, lists-more, new_place, sized_key, slot_more}
use Rattle.block_index.proofs.index.BlockIndex.add_slot.Goals as goal

pub invariant_of-self-2 : goal.invariant_of-self-2
invariant_of-self-2 c =
    let keys : c.insert.new.self.keys ≡ c.args.self.now.slots.keys ++ c.args.key ∷ []
    = c.in_ok-insert.ensures.keys ∙ ap (λ t. cond t c.args.self.now.slots.keys (c.args.self.now.slots.keys ++ c.args.key ∷ [])) (absent c.args.self.now.slots.keys c.args.key c.requires.new) in
    let lists : c.push_reserved.new.self.items ≡ c.args.self.now.lists.items ++ c.new.result ∷ [] = c.push_reserved.ensures.items ∙ ap (λ ls. ls ++ c.new.result ∷ []) c.in_ok-reserve.ensures.items in
    record {
      counts = omega (arith, ap length keys, ap length lists, length_push c.args.self.now.slots.keys c.args.key, length_push c.args.self.now.lists.items c.new.result, c.args.self.now.counts);
      sized = sized_key c.args.self.now.slots.keys c.insert.new.self.keys c.args.self.now.sizes.items c.args.key keys c.requires.size c.args.self.now.sized;
    }

pub returns-clause-alike : goal.returns-clause-alike
returns-clause-alike c =
    let keys : c.insert.new.self.keys ≡ c.args.self.now.slots.keys ++ c.args.key ∷ []
    = c.in_ok-insert.ensures.keys ∙ ap (λ t. cond t c.args.self.now.slots.keys (c.args.self.now.slots.keys ++ c.args.key ∷ [])) (absent c.args.self.now.slots.keys c.args.key c.requires.new) in
    let lists : c.push_reserved.new.self.items ≡ c.args.self.now.lists.items ++ c.new.result ∷ [] = c.push_reserved.ensures.items ∙ ap (λ ls. ls ++ c.new.result ∷ []) c.in_ok-reserve.ensures.items in
    slot_more c.args.self.now c.insert.new.self.keys (lists_of c.push_reserved.new.self.items) c.args.key keys (ap lists_of lists ∙ lists-more c.args.self.now.lists.items c.new.result c.new.ensures.items)

pub returns-clause-place : goal.returns-clause-place
returns-clause-place c =
    let keys : c.insert.new.self.keys ≡ c.args.self.now.slots.keys ++ c.args.key ∷ []
    = c.in_ok-insert.ensures.keys ∙ ap (λ t. cond t c.args.self.now.slots.keys (c.args.self.now.slots.keys ++ c.args.key ∷ [])) (absent c.args.self.now.slots.keys c.args.key c.requires.new) in
    c.len-place.ensures ∙ (new_place c.args.self.now.slots.keys c.args.key c.requires.new ∙ ap (λ ks. place_of ks c.args.key) (sym keys))
