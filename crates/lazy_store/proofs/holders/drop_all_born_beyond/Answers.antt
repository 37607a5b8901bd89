use Rattle.std.proofs.Common.{◌∙◌, ap, nat_eq, nat_le, rules}
use Rattle.std.proofs.lemmas.Cmp.{nat_eq_equiv}
use Rattle.std.proofs.lemmas.Map.Entries.{lookup-filter-values}
use Rattle.std.specs.HashMap as hash
use Rattle.std.specs.Map.{lookup}
use Rattle.indexmap.proofs.CallerLemmas.{filter-RetainsPairs}
use Rattle.lazy_store.proofs.Born.{filtered-born}
use Rattle.lazy_store.proofs.holders.drop_all_born_beyond.Goals as goal

pub returns-clause-found : goal.returns-clause-found
returns-clause-found c = λ id.
    let old = c.args.holders.now in
    ap (lookup (nat_eq id)) (filter-RetainsPairs _ (λ e. nat_le e.1.birth c.args.position) _ (λ k v b w g call. search rules) _ _ c.retain.ensures.filtered)
    ∙ lookup-filter-values nat_eq_equiv (λ h. nat_le h.birth c.args.position) id old.entries c.len.ensures.unique
    ∙ filtered-born c.args.position (hash.get nat_eq old id)
