-- When the tree of a node comes back from an operation, by its parts. Serves the test of loss.
use Rattle.std.proofs.Common.{◌≡◌, sym, ap, subst, refl, ◌↔◌, ℕ, Bool, true, false, not, List, IsTrue}
use Rattle.formula_tree.specs.Relative.{relative}
use Rattle.formula_tree.specs.StandsFor.{at_home}
use Rattle.formula_tree.specs.Term.{Term, prefix, percent, binary, call, paren, Terms}
use Rattle.formula_tree.specs.declared.node.Node.{Node}
use Rattle.formula_tree.specs.declared.operator.Op.{Op}
use Rattle.formula_tree.specs.declared.operator.Sign.{Sign}
use Rattle.formula_tree.specs.declared.reference.Corner.{Corner}
use Rattle.formula_tree.specs.declared.reference.Home.{Home}
use Rattle.formula_tree.specs.declared.reference.Ref.{Ref}
use Rattle.shift_core.specs.declared.shift.Shift.{Shift}
use Rattle.tree_rewrite.specs.Rewritten.{returned, rewritten, ComesBack}
use Rattle.tree_rewrite.specs.internal.Passage.{AllComeBack}
use Rattle.tree_rewrite.proofs.Returns.{prefix-part, percent-part, paren-part, call-part, binary-parts}

-- the test of a node is that of the tree that it stands for
pub node-back : (s : Shift) (home : Home) (node : Node) (t : Term Ref) (b : Bool) → relative node ≡ t → IsTrue b ↔ ComesBack s (at_home home t) → IsTrue b ↔ ComesBack s (at_home home (relative node))
node-back s home node t b e h = subst (λ x. IsTrue b ↔ ComesBack s (at_home home x)) (sym e) h

-- and the test of a tree that of its parts
pub prefix-back : (s : Shift) (o : Sign) (t : Term Corner) (b : Bool) → IsTrue b ↔ ComesBack s t → IsTrue b ↔ ComesBack s (prefix o t)
prefix-back s o t b h = (λ k. ap (λ x. prefix o x) (h.0 k), λ k. h.1 (prefix-part o (returned s (rewritten s t)) t k))

pub percent-back : (s : Shift) (t : Term Corner) (b : Bool) → IsTrue b ↔ ComesBack s t → IsTrue b ↔ ComesBack s (percent t)
percent-back s t b h = (λ k. ap (λ x. percent x) (h.0 k), λ k. h.1 (percent-part (returned s (rewritten s t)) t k))

pub paren-back : (s : Shift) (t : Term Corner) (b : Bool) → IsTrue b ↔ ComesBack s t → IsTrue b ↔ ComesBack s (paren t)
paren-back s t b h = (λ k. ap (λ x. paren x) (h.0 k), λ k. h.1 (paren-part (returned s (rewritten s t)) t k))

pub call-back : (s : Shift) (w : List ℕ) (ts : Terms Corner) (b : Bool) → IsTrue b ↔ AllComeBack s ts → IsTrue b ↔ ComesBack s (call w ts)
call-back s w ts b h = (λ k. ap (λ x. call w x) (h.0 k), λ k. h.1 (call-part w _ ts k))

both-parts : (s : Shift) (o : Op) (l r : Term Corner) → ComesBack s (binary o l r) → ComesBack s l × ComesBack s r
both-parts s o l r h = binary-parts o (returned s (rewritten s l)) l (returned s (rewritten s r)) r h

pub binary-back : (s : Shift) (o : Op) (l r : Term Corner) (a b : Bool) → IsTrue a ↔ ComesBack s l → a ≡ true → IsTrue b ↔ ComesBack s r → IsTrue b ↔ ComesBack s (binary o l r)
binary-back s o l r a b f e g = (
  λ k.
      let left : returned s (rewritten s l) ≡ l = f.0 e in
      let right : returned s (rewritten s r) ≡ r = g.0 k in
      λ i. binary o (left i) (right i),
  λ k. g.1 (both-parts s o l r k).1,
)

pub binary-lost : (s : Shift) (o : Op) (l r : Term Corner) (a : Bool) → IsTrue a ↔ ComesBack s l → a ≡ false → IsTrue a ↔ ComesBack s (binary o l r)
binary-lost s o l r a f e = (λ k. absurd (cc), λ k. f.1 (both-parts s o l r k).0)

-- the test of loss is the other way round
pub test-lost : (C : Type 0) (b : Bool) → IsTrue b ↔ C → (IsTrue (not b) ↔ (¬ C)) × ((not b ≡ false) ↔ C)
test-lost C true h = ((λ k. absurd (cc), λ n. absurd (n (h.0 refl))), (λ k. h.0 refl, λ k. refl))
test-lost C false h = ((λ k x. let t = h.1 x in cc, λ n. refl), (λ k. absurd (cc), λ x. let t = h.1 x in cc))
