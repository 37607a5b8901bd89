use Rattle.std.proofs.Common.{◌∙◌, ap, sym, arith, length, [], ◌∷◌, ◌++◌, refl, None}
use Rattle.std.specs.Prelude.{slice_index_or}
use Rattle.std.specs.List.{list_any}
use Rattle.std.proofs.lemmas.List.{append-nil, length_push}
use Rattle.node_links.specs.Nodes.{needs_of}
use Rattle.dep_graph.specs.internal.Keys.{same_key}
use Rattle.dep_graph.proofs.Adding.{absent_key, alive_more, filed_more, filings_more, indexed_grown, narrow_push, used_more}
use Rattle.dep_graph.proofs.Growing.{filing-more}
use Rattle.dep_graph.proofs.net.Net.add.Goals as goal

pub put_last-requires-clause-new : goal.put_last-requires-clause-new
put_last-requires-clause-new c = ap (list_any (same_key c.args.key)) c.reserve.ensures.keys ∙ absent_key c.args.self.now.nodes.keys.keys c.args.key c.requires.new

pub invariant_of-self-in-Break-1 : goal.invariant_of-self-in-Break-1
invariant_of-self-in-Break-1 c = record {
  counts = c.args.self.now.counts ∙ sym (ap length c.reserve.ensures.keys);
  rooms = c.args.self.now.rooms ∙ sym (ap length c.reserve.ensures.keys);
  alive = alive_more c.args.self.now (c.reserve.new.self.keys) ([]) (c.reserve.ensures.keys ∙ sym (append-nil c.args.self.now.nodes.keys.keys)) (needs_of c.args.self.now.links) (λ n. refl);
  filed = filings_more c.args.self.now (c.reserve.new.self.keys) ([]) (c.reserve.ensures.keys ∙ sym (append-nil c.args.self.now.nodes.keys.keys)) (c.args.self.now.files.current) (λ n. refl);
  used = used_more c.args.self.now (c.reserve.new.self.keys) ([]) (c.reserve.ensures.keys ∙ sym (append-nil c.args.self.now.nodes.keys.keys)) (needs_of c.args.self.now.links) (c.args.self.now.files.current) (λ n. refl) (λ n. refl);
  indexed = indexed_grown c.args.self.now _ ([]) (c.reserve.ensures.keys ∙ sym (append-nil c.args.self.now.nodes.keys.keys)) refl;
}

pub invariant_of-self-in-Break-branch-2 : goal.invariant_of-self-in-Break-branch-2
invariant_of-self-in-Break-branch-2 c = record {
  counts = c.args.self.now.counts ∙ sym (ap length c.reserve.ensures.keys);
  rooms = ap length c.reserve-2.ensures.items ∙ (c.args.self.now.rooms ∙ sym (ap length c.reserve.ensures.keys));
  alive = alive_more c.args.self.now (c.reserve.new.self.keys) ([]) (c.reserve.ensures.keys ∙ sym (append-nil c.args.self.now.nodes.keys.keys)) (needs_of c.args.self.now.links) (λ n. refl);
  filed = filings_more c.args.self.now (c.reserve.new.self.keys) ([]) (c.reserve.ensures.keys ∙ sym (append-nil c.args.self.now.nodes.keys.keys)) (c.reserve-2.new.self) (λ n. ap (λ l. slice_index_or l n None) c.reserve-2.ensures.items);
  used = used_more c.args.self.now (c.reserve.new.self.keys) ([]) (c.reserve.ensures.keys ∙ sym (append-nil c.args.self.now.nodes.keys.keys)) (needs_of c.args.self.now.links) (c.reserve-2.new.self) (λ n. refl) (λ n. ap (λ l. slice_index_or l n None) c.reserve-2.ensures.items);
  indexed = indexed_grown c.args.self.now _ ([]) (c.reserve.ensures.keys ∙ sym (append-nil c.args.self.now.nodes.keys.keys)) refl;
}

pub invariant_of-self-in-Break-branch-3 : goal.invariant_of-self-in-Break-branch-3
invariant_of-self-in-Break-branch-3 c = record {
  counts = c.in_err-number.ensures.err ∙ (c.args.self.now.counts ∙ sym (ap length c.reserve.ensures.keys));
  rooms = ap length c.reserve-2.ensures.items ∙ (c.args.self.now.rooms ∙ sym (ap length c.reserve.ensures.keys));
  alive = alive_more c.args.self.now (c.reserve.new.self.keys) ([]) (c.reserve.ensures.keys ∙ sym (append-nil c.args.self.now.nodes.keys.keys)) (needs_of c.add.new.self) c.add.ensures.needs;
  filed = filings_more c.args.self.now (c.reserve.new.self.keys) ([]) (c.reserve.ensures.keys ∙ sym (append-nil c.args.self.now.nodes.keys.keys)) (c.reserve-2.new.self) (λ n. ap (λ l. slice_index_or l n None) c.reserve-2.ensures.items);
  used = used_more c.args.self.now (c.reserve.new.self.keys) ([]) (c.reserve.ensures.keys ∙ sym (append-nil c.args.self.now.nodes.keys.keys)) (needs_of c.add.new.self) (c.reserve-2.new.self) c.add.ensures.needs (λ n. ap (λ l. slice_index_or l n None) c.reserve-2.ensures.items);
  indexed = indexed_grown c.args.self.now _ ([]) (c.reserve.ensures.keys ∙ sym (append-nil c.args.self.now.nodes.keys.keys)) refl;
}

pub invariant_of-self-4 : goal.invariant_of-self-4
invariant_of-self-4 c = (
  (c.put_last.ensures.once, (narrow_push c.args.self.now.nodes.keys.keys c.put_last.new.keys.keys c.args.key c.args.self.now.nodes.narrow c.requires.narrow (c.put_last.ensures.keys ∙ ap (λ ks. ks ++ c.args.key ∷ []) c.reserve.ensures.keys), tt)),
  ((omega (arith, ap length (c.put_last.ensures.keys ∙ ap (λ ks. ks ++ c.args.key ∷ []) c.reserve.ensures.keys), length_push c.args.self.now.nodes.keys.keys c.args.key, c.in_ok-number.ensures.count, c.args.self.now.counts)), ((omega (arith, ap length (c.put_last.ensures.keys ∙ ap (λ ks. ks ++ c.args.key ∷ []) c.reserve.ensures.keys), length_push c.args.self.now.nodes.keys.keys c.args.key, ap length c.push_reserved.ensures.items, length_push c.reserve-2.new.self.items None, ap length c.reserve-2.ensures.items, c.args.self.now.rooms)), ((alive_more c.args.self.now (c.put_last.new.keys.keys) (c.args.key ∷ []) (c.put_last.ensures.keys ∙ ap (λ ks. ks ++ c.args.key ∷ []) c.reserve.ensures.keys) (needs_of c.add.new.self) c.add.ensures.needs), ((filings_more c.args.self.now (c.put_last.new.keys.keys) (c.args.key ∷ []) (c.put_last.ensures.keys ∙ ap (λ ks. ks ++ c.args.key ∷ []) c.reserve.ensures.keys) (c.push_reserved.new.self) (λ n. filing-more c.reserve-2.new.self c.push_reserved.new.self n c.push_reserved.ensures.items ∙ ap (λ l. slice_index_or l n None) c.reserve-2.ensures.items)), ((used_more c.args.self.now (c.put_last.new.keys.keys) (c.args.key ∷ []) (c.put_last.ensures.keys ∙ ap (λ ks. ks ++ c.args.key ∷ []) c.reserve.ensures.keys) (needs_of c.add.new.self) (c.push_reserved.new.self) c.add.ensures.needs (λ n. filing-more c.reserve-2.new.self c.push_reserved.new.self n c.push_reserved.ensures.items ∙ ap (λ l. slice_index_or l n None) c.reserve-2.ensures.items)), (indexed_grown c.args.self.now _ (c.args.key ∷ []) (c.put_last.ensures.keys ∙ ap (λ ks. ks ++ c.args.key ∷ []) c.reserve.ensures.keys) refl, tt)))))),
)

pub returns-clause-grown : goal.returns-clause-grown
returns-clause-grown c = record {
  keys = (c.args.key ∷ [], c.put_last.ensures.keys ∙ ap (λ ks. ks ++ c.args.key ∷ []) c.reserve.ensures.keys);
  lines = refl;
  needs = c.add.ensures.needs;
  filed = λ n low filed. filed_more c.args.self.now (c.put_last.new.keys.keys) (c.args.key ∷ []) (c.put_last.ensures.keys ∙ ap (λ ks. ks ++ c.args.key ∷ []) c.reserve.ensures.keys) (c.push_reserved.new.self) n low (filing-more c.reserve-2.new.self c.push_reserved.new.self n c.push_reserved.ensures.items ∙ ap (λ l. slice_index_or l n None) c.reserve-2.ensures.items) filed;
}
