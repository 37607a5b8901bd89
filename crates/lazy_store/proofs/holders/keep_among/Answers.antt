use Rattle.std.proofs.Common.{◌∙◌, sym, ap, eqb-true, nat_eq, rules}
use Rattle.std.proofs.lemmas.Map.Entries.{lookup-filter-keys}
use Rattle.std.specs.HashSet.{contains}
use Rattle.std.specs.Map.{lookup}
use Rattle.indexmap.proofs.CallerLemmas.{filter-RetainsPairs}
use Rattle.lazy_store.proofs.holders.keep_among.Goals as goal

pub returns-clause-found : goal.returns-clause-found
returns-clause-found c = λ id.
    let ids = c.args.ids.now in
    ap (lookup (nat_eq id)) (filter-RetainsPairs _ (λ e. contains nat_eq ids e.0) _ (λ k v b w g call. search rules) _ _ c.retain.ensures.filtered)
    ∙ lookup-filter-keys (nat_eq id) (contains nat_eq ids) (contains nat_eq ids id) (λ k same. ap (contains nat_eq ids) (sym (eqb-true id k same))) c.args.holders.now.entries
