-- The names of a scope stand side by side, from its first key on.
use Rattle.std.proofs.Common.{◌≡◌, ◌∙◌, ◌++◌, sym, ap, subst, map, ℕ}
use Rattle.std.proofs.lemmas.List.{append-nil}
use Rattle.cell_addr.proofs.Entries.{entries-from_entries}
use Rattle.name_table.specs.Named.{items_of}
use Rattle.name_table.specs.declared.key.NameKey.{NameKey}
use Rattle.name_table.proofs.Holders.{RiseFrom, all-done, from-first, is_of, pairs_of, rest-rises, rise-from, take-up, told-other, told-same}
use Rattle.name_table.proofs.KeyOrder.{key_cmp-IsTotalOrder}
use Rattle.name_table.proofs.names.Names.listed.Goals as goal
use Rattle.name_table.proofs.names.Names.listed.Goals.{in-None, in-Some+then-ne}

pub names-init : goal.names-init
names-init c =
    let scope = c.args.scope in
    let entries = c.args.self.now.holders.entries in
    let range = c.range-key-items.ensures in
    let from = c.into_iter-key-iterator.ensures.into_iter_gives ∙ range.between tt in record {
      parts = ap (λ z. z ++ pairs_of scope c.into_iter-key-iterator.result) c.in_ok-list.ensures ∙ ap (pairs_of scope) from ∙ ap (map (λ e. (e.0.word, e.1))) (from-first scope entries);
      rising = subst (RiseFrom scope) (sym from) (rise-from scope entries range.ordered);
      ordered = range.ordered;
    }

pub names-preserved : goal.names-preserved
names-preserved c =
    let scope = c.args.scope in
    let e : NameKey × ℕ = (c.in-Some.key.now, c.in-Some.holder.now) in
    let i = c.names.invariant in record {
      parts = take-up scope (items_of c.names.list) (items_of c.push.new.self) e c.next.new.self _ (told-same (is_of scope e) c.ne.result c.ne.ensures c.if-ne.false) c.in_ok-push.ensures.ok
          (ap (λ r. items_of c.names.list ++ pairs_of scope r) (sym c.in-Some.ensures.steps) ∙ i.parts);
      rising = rest-rises scope e c.next.new.self (subst (RiseFrom scope) c.in-Some.ensures.steps i.rising);
      ordered = i.ordered;
    }

pub returns : goal.returns
returns c =
    let scope = c.args.scope in
    let entries = c.args.self.now.holders.entries in
    let i = c.names.invariant in
    let all : items_of c.names.list ≡ pairs_of scope entries =
    elim c.match-next.branch [
      | in-None w ↦ sym (append-nil (items_of c.names.list)) ∙ ap (λ r. items_of c.names.list ++ pairs_of scope r) (sym w.in-None.ensures.steps.0) ∙ i.parts
      | in-Some+then-ne w ↦
          let e : NameKey × ℕ = (w.in-Some.key.now, w.in-Some.holder.now) in
          all-done scope (items_of c.names.list) e c.next.new.self _ (told-other (is_of scope e) w.ne.result w.ne.ensures w.if-ne.true) (subst (RiseFrom scope) w.in-Some.ensures.steps i.rising)
          (ap (λ r. items_of c.names.list ++ pairs_of scope r) (sym w.in-Some.ensures.steps) ∙ i.parts)
    ] in
    all ∙ ap (pairs_of scope) (sym (entries-from_entries key_cmp-IsTotalOrder entries i.ordered))
