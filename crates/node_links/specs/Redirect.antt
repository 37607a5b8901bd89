-- Links redirected over targets of nodes. Source: this project's own.
use Rattle.std.specs.Prelude.{◌≡◌, ◌↔◌, ℕ, Bool, List, Option, Some, IsTrue, is_some, unwrap_or}
use Rattle.std.specs.BTreeMap as tree
use Rattle.std.specs.Ordering.{nat_cmp}
use Rattle.needs_order.specs.Needs.{has}

-- the target of a node, of which few have another than themselves, or none
abbrev pub few_target : tree.BTreeMap ℕ (Option ℕ) → ℕ → Option ℕ
few_target few a = unwrap_or (tree.get nat_cmp few a) (Some a)

-- the node is one of the few
abbrev pub is_among : tree.BTreeMap ℕ (Option ℕ) → ℕ → Bool
is_among few a = is_some (tree.get nat_cmp few a)

-- exactly the links between targets of linked nodes: where several nodes have one target, that has the links of them all
abbrev pub AreRedirected : (ℕ → Option ℕ) → (ℕ → List ℕ) → (ℕ → List ℕ) → Type 0
AreRedirected target old new =
    (t u : ℕ) → IsTrue (has u (new t)) ↔ ((n : ℕ) × (m : ℕ) × (target n ≡ Some t) × IsTrue (has m (old n)) × (target m ≡ Some u))
