-- What a walk makes of each kind of node, and what holds of its parts. Serves the walk through trees.
use Rattle.std.proofs.Common.{◌≡◌, ◌≢◌, ◌⊎◌, inl, inr, ◌∙◌, sym, ap, subst, refl, arith, ℕ, zero, suc, ℤ, ◌+◌, ◌*◌, ◌<◌, ◌≤◌, max, Bool, List, [], ◌∷◌, map, length, get_or, take, drop, ◌++◌, Option, Some, None, Global}
use Rattle.std.specs.declared.rc.Rc.{Rc}
use Rattle.cell_addr.specs.declared.axis.Axis.{Axis}
use Rattle.cell_addr.specs.declared.axis.Axis.TheVariants.{Rows, Cols}
use Rattle.cell_value.specs.declared.fault.FaultKind.{FaultKind}
use Rattle.formula_tree.specs.Arguments.{trees}
use Rattle.formula_tree.specs.Relative.{relative_node, relative_arguments, relative, relative_list}
use Rattle.formula_tree.specs.Term.{Term, number, text, truth, fault, cell, area, whole, name, prefix, percent, binary, call, paren, Terms, term, terms_of, shaped, depth_of, depth_of_all}
use Rattle.formula_tree.specs.declared.node.Node.{Node}
use Rattle.formula_tree.specs.declared.node.Node.TheFolds.{fold-roll-Node}
use Rattle.formula_tree.specs.declared.node.Node.TheOpen.{Node-F}
use Rattle.formula_tree.specs.declared.node.Node.TheVariants as nodes
use Rattle.formula_tree.specs.declared.node.Node.TheVariants.{rolls-Number, rolls-Text, rolls-Truth, rolls-Fault, rolls-Name, rolls-Cell, rolls-Area, rolls-WholeRows, rolls-WholeCols, rolls-Prefix, rolls-Percent}
use Rattle.formula_tree.specs.declared.node.TreeList.{TreeList}
use Rattle.formula_tree.specs.declared.operator.Op.{Op}
use Rattle.formula_tree.specs.declared.operator.Sign.{Sign}
use Rattle.formula_tree.specs.Whole.{first_ref, last_ref}
use Rattle.formula_tree.specs.declared.reference.Part.{Part}
use Rattle.formula_tree.specs.declared.reference.Ref.{Ref}
use Rattle.formula_tree.specs.declared.reference.SheetPart.{SheetPart}
use Rattle.formula_tree.proofs.RelativeNodes.{relative-Binary, relative-Call, relative-Paren, relative_list-trees}
use Rattle.formula_tree.proofs.ArgumentLists.{depth_of-item}
use Rattle.tree_rewrite.specs.Replaced.{Becomes}
use Rattle.tree_rewrite.specs.internal.Walk.{Takes, AllTake, term_of, terms_in, replaced, all_replaced, tree_replaced}
use Rattle.tree_rewrite.proofs.Parts.{changed-items, items-differ}

-- the kinds of nodes
pub relative-Prefix : (s : Sign) (t : Rc Node Global) → relative (nodes.Prefix s t) ≡ prefix s (term_of t)
relative-Prefix s t = ap relative (sym (rolls-Prefix s t)) ∙ fold-roll-Node (Term Ref) (Terms Ref) relative_node relative_arguments (Node-F.Prefix s t)

pub relative-Percent : (t : Rc Node Global) → relative (nodes.Percent t) ≡ percent (term_of t)
relative-Percent t = ap relative (sym (rolls-Percent t)) ∙ fold-roll-Node (Term Ref) (Terms Ref) relative_node relative_arguments (Node-F.Percent t)

pub relative-Number : (m : ℤ) → relative (nodes.Number m) ≡ number m
relative-Number m = ap relative (sym (rolls-Number m)) ∙ fold-roll-Node (Term Ref) (Terms Ref) relative_node relative_arguments (Node-F.Number m)

pub relative-Text : (w : List ℕ) → relative (nodes.Text w) ≡ text w
relative-Text w = ap relative (sym (rolls-Text w)) ∙ fold-roll-Node (Term Ref) (Terms Ref) relative_node relative_arguments (Node-F.Text w)

pub relative-Truth : (b : Bool) → relative (nodes.Truth b) ≡ truth b
relative-Truth b = ap relative (sym (rolls-Truth b)) ∙ fold-roll-Node (Term Ref) (Terms Ref) relative_node relative_arguments (Node-F.Truth b)

pub relative-Fault : (f : FaultKind) → relative (nodes.Fault f) ≡ fault f
relative-Fault f = ap relative (sym (rolls-Fault f)) ∙ fold-roll-Node (Term Ref) (Terms Ref) relative_node relative_arguments (Node-F.Fault f)

pub relative-Name : (w : List ℕ) → relative (nodes.Name w) ≡ name w
relative-Name w = ap relative (sym (rolls-Name w)) ∙ fold-roll-Node (Term Ref) (Terms Ref) relative_node relative_arguments (Node-F.Name w)

pub relative-Cell : (r : Ref) → relative (nodes.Cell r) ≡ cell r
relative-Cell r = ap relative (sym (rolls-Cell r)) ∙ fold-roll-Node (Term Ref) (Terms Ref) relative_node relative_arguments (Node-F.Cell r)

pub relative-Area : (r q : Ref) → relative (nodes.Area r q) ≡ area r q
relative-Area r q = ap relative (sym (rolls-Area r q)) ∙ fold-roll-Node (Term Ref) (Terms Ref) relative_node relative_arguments (Node-F.Area r q)

pub relative-WholeRows : (s : SheetPart) (p q : Part) → relative (nodes.WholeRows s p q) ≡ whole Rows (first_ref Rows s p) (last_ref Rows s q)
relative-WholeRows s p q = ap relative (sym (rolls-WholeRows s p q)) ∙ fold-roll-Node (Term Ref) (Terms Ref) relative_node relative_arguments (Node-F.WholeRows s p q)

pub relative-WholeCols : (s : SheetPart) (p q : Part) → relative (nodes.WholeCols s p q) ≡ whole Cols (first_ref Cols s p) (last_ref Cols s q)
relative-WholeCols s p q = ap relative (sym (rolls-WholeCols s p q)) ∙ fold-roll-Node (Term Ref) (Terms Ref) relative_node relative_arguments (Node-F.WholeCols s p q)

pub cell-part : (r q : Ref) → cell r ≡ cell q → r ≡ q
cell-part r q h = cc

pub area-parts : (lines : Option Axis) (r q u v : Ref) → shaped lines r q ≡ shaped lines u v → (r ≡ u) × (q ≡ v)
area-parts None r q u v h = (cc, cc)
area-parts (Some axis) r q u v h = (cc, cc)

pub fault-other : (f : FaultKind) (r : Ref) → fault f ≢ cell r
fault-other f r h = cc

pub fault-no_area : (f : FaultKind) (lines : Option Axis) (r q : Ref) → fault f ≢ shaped lines r q
fault-no_area f None r q h = cc
fault-no_area f (Some axis) r q h = cc

-- a node of one part
wrap-changes : (c : Term Ref → Term Ref) → ((x y : Term Ref) → c x ≡ c y → x ≡ y) → (n a m x y z : Term Ref)
    → n ≡ c x → m ≡ c z → a ≡ c y → (z ≡ y) × (y ≢ x) → (m ≡ a) × (a ≢ n)
wrap-changes c one n a m x y z e f g h = (f ∙ ap c h.0 ∙ sym g, λ q. h.1 (one y x (sym g ∙ q ∙ e)))

wrap-stays : (c : Term Ref → Term Ref) (n a x y : Term Ref) → n ≡ c x → a ≡ c y → y ≡ x → a ≡ n
wrap-stays c n a x y e g h = g ∙ ap c h ∙ sym e

prefix-part : (s : Sign) (x y : Term Ref) → prefix s x ≡ prefix s y → x ≡ y
prefix-part s x y h = cc

percent-part : (x y : Term Ref) → percent x ≡ percent y → x ≡ y
percent-part x y h = cc

paren-part : (x y : Term Ref) → paren x ≡ paren y → x ≡ y
paren-part x y h = cc

call-part : (w : List ℕ) (x y : Terms Ref) → call w x ≡ call w y → x ≡ y
call-part w x y h = cc

left-part : (o : Op) (x y u v : Term Ref) → binary o x u ≡ binary o y v → x ≡ y
left-part o x y u v h = cc

right-part : (o : Op) (x y u v : Term Ref) → binary o x u ≡ binary o y v → u ≡ v
right-part o x y u v h = cc

module _ (on_cell : Ref → Term Ref) (on_area : Option Axis → Ref → Ref → Term Ref) where
  replaced-prefix : (s : Sign) (t : Term Ref) → replaced on_cell on_area (prefix s t) ≡ prefix s (replaced on_cell on_area t)
  unfolding replaced
  replaced-prefix s t = refl

  replaced-percent : (t : Term Ref) → replaced on_cell on_area (percent t) ≡ percent (replaced on_cell on_area t)
  unfolding replaced
  replaced-percent t = refl

  replaced-paren : (t : Term Ref) → replaced on_cell on_area (paren t) ≡ paren (replaced on_cell on_area t)
  unfolding replaced
  replaced-paren t = refl

  replaced-binary : (o : Op) (l r : Term Ref) → replaced on_cell on_area (binary o l r) ≡ binary o (replaced on_cell on_area l) (replaced on_cell on_area r)
  unfolding replaced
  replaced-binary o l r = refl

  replaced-call : (w : List ℕ) (ts : Terms Ref) → replaced on_cell on_area (call w ts) ≡ call w (all_replaced on_cell on_area ts)
  unfolding replaced all_replaced
  replaced-call w ts = refl

  -- trees without parts or references stay
  number-stays : (node : Node) (m : ℤ) → node ≡ nodes.Number m → replaced on_cell on_area (relative node) ≡ relative node
  unfolding replaced
  number-stays node m e = let r = ap relative e ∙ relative-Number m in ap (replaced on_cell on_area) r ∙ sym r

  text-stays : (node : Node) (w : List ℕ) → node ≡ nodes.Text w → replaced on_cell on_area (relative node) ≡ relative node
  unfolding replaced
  text-stays node w e = let r = ap relative e ∙ relative-Text w in ap (replaced on_cell on_area) r ∙ sym r

  truth-stays : (node : Node) (b : Bool) → node ≡ nodes.Truth b → replaced on_cell on_area (relative node) ≡ relative node
  unfolding replaced
  truth-stays node b e = let r = ap relative e ∙ relative-Truth b in ap (replaced on_cell on_area) r ∙ sym r

  fault-stays : (node : Node) (f : FaultKind) → node ≡ nodes.Fault f → replaced on_cell on_area (relative node) ≡ relative node
  unfolding replaced
  fault-stays node f e = let r = ap relative e ∙ relative-Fault f in ap (replaced on_cell on_area) r ∙ sym r

  name-stays : (node : Node) (w : List ℕ) → node ≡ nodes.Name w → replaced on_cell on_area (relative node) ≡ relative node
  unfolding replaced
  name-stays node w e = let r = ap relative e ∙ relative-Name w in ap (replaced on_cell on_area) r ∙ sym r

  pub leaf-stays : (node : Node)
      → ((m : ℤ) × (node ≡ nodes.Number m)) ⊎ (((w : List ℕ) × (node ≡ nodes.Text w)) ⊎ (((b : Bool) × (node ≡ nodes.Truth b)) ⊎ (((f : FaultKind) × (node ≡ nodes.Fault f)) ⊎ ((w : List ℕ) × (node ≡ nodes.Name w)))))
      → replaced on_cell on_area (relative node) ≡ relative node
  leaf-stays node (inl e) = number-stays node e.0 e.1
  leaf-stays node (inr (inl e)) = text-stays node e.0 e.1
  leaf-stays node (inr (inr (inl e))) = truth-stays node e.0 e.1
  leaf-stays node (inr (inr (inr (inl e)))) = fault-stays node e.0 e.1
  leaf-stays node (inr (inr (inr (inr e)))) = name-stays node e.0 e.1

  pub prefix-changes : (node : Node) (s : Sign) (old new : Rc Node Global) → node ≡ nodes.Prefix s old → (term_of new ≡ tree_replaced on_cell on_area old) × (tree_replaced on_cell on_area old ≢ term_of old)
      → (relative (nodes.Prefix s new) ≡ replaced on_cell on_area (relative node)) × (replaced on_cell on_area (relative node) ≢ relative node)
  prefix-changes node s old new is h =
      let e = ap relative is ∙ relative-Prefix s old in
      wrap-changes (λ t. prefix s t) (prefix-part s) _ _ _ _ _ _ e (relative-Prefix s new) (ap (replaced on_cell on_area) e ∙ replaced-prefix s (term_of old)) h

  pub prefix-stays : (node : Node) (s : Sign) (old : Rc Node Global) → node ≡ nodes.Prefix s old → tree_replaced on_cell on_area old ≡ term_of old → replaced on_cell on_area (relative node) ≡ relative node
  prefix-stays node s old is h =
      let e = ap relative is ∙ relative-Prefix s old in wrap-stays (λ t. prefix s t) _ _ _ _ e (ap (replaced on_cell on_area) e ∙ replaced-prefix s (term_of old)) h

  pub percent-changes : (node : Node) (old new : Rc Node Global) → node ≡ nodes.Percent old → (term_of new ≡ tree_replaced on_cell on_area old) × (tree_replaced on_cell on_area old ≢ term_of old)
      → (relative (nodes.Percent new) ≡ replaced on_cell on_area (relative node)) × (replaced on_cell on_area (relative node) ≢ relative node)
  percent-changes node old new is h =
      let e = ap relative is ∙ relative-Percent old in
      wrap-changes (λ t. percent t) percent-part _ _ _ _ _ _ e (relative-Percent new) (ap (replaced on_cell on_area) e ∙ replaced-percent (term_of old)) h

  pub percent-stays : (node : Node) (old : Rc Node Global) → node ≡ nodes.Percent old → tree_replaced on_cell on_area old ≡ term_of old → replaced on_cell on_area (relative node) ≡ relative node
  percent-stays node old is h =
      let e = ap relative is ∙ relative-Percent old in wrap-stays (λ t. percent t) _ _ _ _ e (ap (replaced on_cell on_area) e ∙ replaced-percent (term_of old)) h

  pub paren-changes : (node : Node) (old new : Rc Node Global) → node ≡ nodes.Paren old → (term_of new ≡ tree_replaced on_cell on_area old) × (tree_replaced on_cell on_area old ≢ term_of old)
      → (relative (nodes.Paren new) ≡ replaced on_cell on_area (relative node)) × (replaced on_cell on_area (relative node) ≢ relative node)
  paren-changes node old new is h =
      let e = ap relative is ∙ relative-Paren old in
      wrap-changes (λ t. paren t) paren-part _ _ _ _ _ _ e (relative-Paren new) (ap (replaced on_cell on_area) e ∙ replaced-paren (term_of old)) h

  pub paren-stays : (node : Node) (old : Rc Node Global) → node ≡ nodes.Paren old → tree_replaced on_cell on_area old ≡ term_of old → replaced on_cell on_area (relative node) ≡ relative node
  paren-stays node old is h =
      let e = ap relative is ∙ relative-Paren old in wrap-stays (λ t. paren t) _ _ _ _ e (ap (replaced on_cell on_area) e ∙ replaced-paren (term_of old)) h

  -- the arguments of a call
  pub call-changes : (node : Node) (w : List ℕ) (old new : TreeList) → node ≡ nodes.Call w old → (relative_list new ≡ all_replaced on_cell on_area (relative_list old)) × (all_replaced on_cell on_area (relative_list old) ≢ relative_list old)
      → (relative (nodes.Call w new) ≡ replaced on_cell on_area (relative node)) × (replaced on_cell on_area (relative node) ≢ relative node)
  call-changes node w old new is h =
      let e = ap relative is ∙ relative-Call w old in
      let g = ap (replaced on_cell on_area) e ∙ replaced-call w (relative_list old) in
      (relative-Call w new ∙ ap (λ ts. call w ts) h.0 ∙ sym g, λ q. h.1 (call-part w _ _ (sym g ∙ q ∙ e)))

  pub call-stays : (node : Node) (w : List ℕ) (old : TreeList) → node ≡ nodes.Call w old → all_replaced on_cell on_area (relative_list old) ≡ relative_list old → replaced on_cell on_area (relative node) ≡ relative node
  call-stays node w old is h = let e = ap relative is ∙ relative-Call w old in ap (replaced on_cell on_area) e ∙ replaced-call w (relative_list old) ∙ ap (λ ts. call w ts) h ∙ sym e

  -- an operator between two parts
  parts-other : (o : Op) (l r : Rc Node Global) (a b : Option (Rc Node Global)) → Becomes term_of a (term_of l) (tree_replaced on_cell on_area l) → Becomes term_of b (term_of r) (tree_replaced on_cell on_area r)
      → ((a ≡ None) × (b ≡ None) → ⊥) → binary o (tree_replaced on_cell on_area l) (tree_replaced on_cell on_area r) ≢ binary o (term_of l) (term_of r)
  parts-other o l r None None f g some q = absurd (some (refl, refl))
  parts-other o l r (Some x) b f g some q = f.1 (left-part o _ _ _ _ q)
  parts-other o l r None (Some y) f g some q = g.1 (right-part o _ _ _ _ q)

  pub binary-changes : (node : Node) (o : Op) (left right new_left new_right : Rc Node Global) (a b : Option (Rc Node Global)) → node ≡ nodes.Binary o left right
      → Becomes term_of a (term_of left) (tree_replaced on_cell on_area left) → Becomes term_of b (term_of right) (tree_replaced on_cell on_area right) → ((a ≡ None) × (b ≡ None) → ⊥)
      → term_of new_left ≡ tree_replaced on_cell on_area left → term_of new_right ≡ tree_replaced on_cell on_area right
      → (relative (nodes.Binary o new_left new_right) ≡ replaced on_cell on_area (relative node)) × (replaced on_cell on_area (relative node) ≢ relative node)
  binary-changes node o left right new_left new_right a b is f g some h k =
      let e = ap relative is ∙ relative-Binary o left right in
      let after = ap (replaced on_cell on_area) e ∙ replaced-binary o (term_of left) (term_of right) in (
        relative-Binary o new_left new_right ∙ ap (λ t. binary o t (term_of new_right)) h ∙ ap (λ t. binary o (tree_replaced on_cell on_area left) t) k ∙ sym after,
        λ q. parts-other o left right a b f g some (sym after ∙ q ∙ e),
      )

  pub binary-stays : (node : Node) (o : Op) (left right : Rc Node Global) → node ≡ nodes.Binary o left right → tree_replaced on_cell on_area left ≡ term_of left → tree_replaced on_cell on_area right ≡ term_of right
      → replaced on_cell on_area (relative node) ≡ relative node
  binary-stays node o left right is h k =
      let e = ap relative is ∙ relative-Binary o left right in
      ap (replaced on_cell on_area) e ∙ replaced-binary o (term_of left) (term_of right) ∙ ap (λ t. binary o t (tree_replaced on_cell on_area right)) h ∙ ap (λ t. binary o (term_of left) t) k ∙ sym e

  -- the arguments of a call, one by one
  pub all_replaced-terms : (items : List (Rc Node Global)) → all_replaced on_cell on_area (terms_in items) ≡ terms_of (map (tree_replaced on_cell on_area) items)
  unfolding replaced all_replaced
  all_replaced-terms [] = refl
  all_replaced-terms (x ∷ xs) = ap (λ ts. term (tree_replaced on_cell on_area x) ts) (all_replaced-terms xs)

  -- a reference, and a block or a whole range
  pub cell-becomes : (node : Node) (r : Ref) (result : Option Node) → node ≡ nodes.Cell r → Becomes relative result (cell r) (on_cell r) → Becomes relative result (relative node) (replaced on_cell on_area (relative node))
  unfolding replaced
  cell-becomes node r result is h = let e : relative node ≡ cell r = ap relative is ∙ relative-Cell r in subst (λ t. Becomes relative result t (replaced on_cell on_area t)) (sym e) h

  pub area-becomes : (node : Node) (r q : Ref) (result : Option Node) → node ≡ nodes.Area r q → Becomes relative result (area r q) (on_area None r q)
      → Becomes relative result (relative node) (replaced on_cell on_area (relative node))
  unfolding replaced
  area-becomes node r q result is h = let e : relative node ≡ area r q = ap relative is ∙ relative-Area r q in subst (λ t. Becomes relative result t (replaced on_cell on_area t)) (sym e) h

  pub whole-becomes : (node : Node) (axis : Axis) (r q : Ref) (result : Option Node) → relative node ≡ whole axis r q → Becomes relative result (whole axis r q) (on_area (Some axis) r q)
      → Becomes relative result (relative node) (replaced on_cell on_area (relative node))
  unfolding replaced
  whole-becomes node axis r q result e h = subst (λ t. Becomes relative result t (replaced on_cell on_area t)) (sym e) h

  -- arguments of which those in front stay and one becomes another
  pub arguments-change : (list new : TreeList) (items : List (Rc Node Global)) (i : ℕ) (item changed : Rc Node Global) (rest : List (Rc Node Global)) → items ≡ trees list
      → i < length items → item ≡ get_or items i item → map (tree_replaced on_cell on_area) (take i items) ≡ map term_of (take i items)
      → (term_of changed ≡ tree_replaced on_cell on_area item) × (tree_replaced on_cell on_area item ≢ term_of item) → rest ≡ drop (i + 1) items
      → map term_of (trees new) ≡ map term_of (take i items) ++ (term_of changed ∷ map (tree_replaced on_cell on_area) rest)
      → (relative_list new ≡ all_replaced on_cell on_area (relative_list list)) × (all_replaced on_cell on_area (relative_list list) ≢ relative_list list)
  arguments-change list new items i item changed rest is lt e s h r m =
      let before : relative_list list ≡ terms_in items = relative_list-trees list ∙ ap terms_in (sym is) in
      let after : all_replaced on_cell on_area (relative_list list) ≡ terms_of (map (tree_replaced on_cell on_area) items) = ap (all_replaced on_cell on_area) before ∙ all_replaced-terms items in
      let made : relative_list new ≡ terms_of (map (tree_replaced on_cell on_area) items) =
      relative_list-trees new
      ∙ ap terms_of (
      m
      ∙ ap (λ xs. map term_of (take i items) ++ (term_of changed ∷ map (tree_replaced on_cell on_area) xs)) r
      ∙ ap (λ t. map term_of (take i items) ++ (t ∷ map (tree_replaced on_cell on_area) (drop (i + 1) items))) h.0
      ∙ changed-items (tree_replaced on_cell on_area) term_of items i item lt e s
      ) in
      (made ∙ sym after, λ q. items-differ (tree_replaced on_cell on_area) term_of items i item lt e h.1 (sym after ∙ q ∙ before))

  -- arguments that all stay
  pub arguments-stay : (list : TreeList) (items : List (Rc Node Global)) → items ≡ trees list → map (tree_replaced on_cell on_area) items ≡ map term_of items
      → all_replaced on_cell on_area (relative_list list) ≡ relative_list list
  arguments-stay list items is s =
      let before : relative_list list ≡ terms_in items = relative_list-trees list ∙ ap terms_in (sym is) in
      ap (all_replaced on_cell on_area) before ∙ all_replaced-terms items ∙ ap terms_of s ∙ sym before

-- a node is deeper than its parts
pub depth-prefix : (node : Node) (s : Sign) (part : Rc Node Global) → node ≡ nodes.Prefix s part → 4 * depth_of (term_of part) + 1 < 4 * depth_of (relative node)
depth-prefix node s part is = let e : depth_of (relative node) ≡ depth_of (term_of part) + 1 = ap depth_of (ap relative is ∙ relative-Prefix s part) in omega arith

pub depth-percent : (node : Node) (part : Rc Node Global) → node ≡ nodes.Percent part → 4 * depth_of (term_of part) + 1 < 4 * depth_of (relative node)
depth-percent node part is = let e : depth_of (relative node) ≡ depth_of (term_of part) + 1 = ap depth_of (ap relative is ∙ relative-Percent part) in omega arith

pub depth-paren : (node : Node) (part : Rc Node Global) → node ≡ nodes.Paren part → 4 * depth_of (term_of part) + 1 < 4 * depth_of (relative node)
depth-paren node part is = let e : depth_of (relative node) ≡ depth_of (term_of part) + 1 = ap depth_of (ap relative is ∙ relative-Paren part) in omega arith

pub depth-binary : (node : Node) (o : Op) (left right : Rc Node Global) → node ≡ nodes.Binary o left right
    → (4 * depth_of (term_of left) + 1 < 4 * depth_of (relative node)) × (4 * depth_of (term_of right) + 1 < 4 * depth_of (relative node))
depth-binary node o left right is =
    let e : depth_of (relative node) ≡ max (depth_of (term_of left)) (depth_of (term_of right)) + 1 = ap depth_of (ap relative is ∙ relative-Binary o left right) in (omega arith, omega arith)

pub depth-call : (node : Node) (w : List ℕ) (list : TreeList) → node ≡ nodes.Call w list → 4 * depth_of_all (relative_list list) + 3 < 4 * depth_of (relative node)
depth-call node w list is = let e : depth_of (relative node) ≡ depth_of_all (relative_list list) + 1 = ap depth_of (ap relative is ∙ relative-Call w list) in omega arith

depth-drop : (items : List (Rc Node Global)) (i : ℕ) → depth_of_all (terms_in (drop i items)) ≤ depth_of_all (terms_in items)
depth-drop items zero = omega arith
depth-drop [] (suc i) = omega arith
depth-drop (x ∷ xs) (suc i) = let d = depth-drop xs i in omega (arith, d)

pub depth-item : (list : TreeList) (items : List (Rc Node Global)) (i : ℕ) (item : Rc Node Global) → items ≡ trees list → i < length items → item ≡ get_or items i item
    → 4 * depth_of (term_of item) + 1 < 4 * depth_of_all (relative_list list) + 3
depth-item list items i item is h e =
    let all : depth_of_all (relative_list list) ≡ depth_of_all (terms_in items) = ap depth_of_all (relative_list-trees list ∙ ap terms_in (sym is)) in
    let d = depth_of-item term_of items i item h e in omega (arith, d)

pub depth-rest : (list : TreeList) (items rest : List (Rc Node Global)) (i : ℕ) → items ≡ trees list → rest ≡ drop i items
    → 4 * depth_of_all (terms_in rest) + 2 < 4 * depth_of_all (relative_list list) + 3
depth-rest list items rest i is r =
    let all : depth_of_all (relative_list list) ≡ depth_of_all (terms_in items) = ap depth_of_all (relative_list-trees list ∙ ap terms_in (sym is)) in
    let some : depth_of_all (terms_in rest) ≡ depth_of_all (terms_in (drop i items)) = ap (λ xs. depth_of_all (terms_in xs)) r in
    let d = depth-drop items i in omega (arith, d)

pub depth-of_rest : (items : List (Rc Node Global)) (i : ℕ) (item : Rc Node Global) → i < length items → item ≡ get_or items i item
    → 4 * depth_of (term_of item) + 1 < 4 * depth_of_all (terms_in items) + 2
depth-of_rest items i item h e = let d = depth_of-item term_of items i item h e in omega (arith, d)

-- what becomes of something, by whether there is a new one
pub changed : {A X : Type 0} (seen_as : A → X) (r : Option A) (x : A) (before after : X) → r ≡ Some x → Becomes seen_as r before after → (seen_as x ≡ after) × (after ≢ before)
changed seen_as r x before after e h = subst (λ o. Becomes seen_as o before after) e h

pub unchanged : {A X : Type 0} (seen_as : A → X) (r : Option A) (before after : X) → r ≡ None → Becomes seen_as r before after → after ≡ before
unchanged seen_as r before after e h = subst (λ o. Becomes seen_as o before after) e h

-- what holds of the references of a node holds of those of its parts
module _ (P : Ref → Type 0) (Q : Option Axis → Ref → Ref → Type 0) where
  pub Takes-cell : (node : Node) (r : Ref) → node ≡ nodes.Cell r → Takes P Q (relative node) → P r
  unfolding Takes
  Takes-cell node r is h = let e = ap relative is ∙ relative-Cell r in rw e at h

  pub Takes-area : (node : Node) (r q : Ref) → node ≡ nodes.Area r q → Takes P Q (relative node) → Q None r q
  unfolding Takes
  Takes-area node r q is h = let e = ap relative is ∙ relative-Area r q in rw e at h

  pub Takes-whole : (node : Node) (axis : Axis) (r q : Ref) → relative node ≡ whole axis r q → Takes P Q (relative node) → Q (Some axis) r q
  unfolding Takes
  Takes-whole node axis r q e h = rw e at h

  pub Takes-prefix : (node : Node) (s : Sign) (part : Rc Node Global) → node ≡ nodes.Prefix s part → Takes P Q (relative node) → Takes P Q (term_of part)
  unfolding Takes
  Takes-prefix node s part is h = let e = ap relative is ∙ relative-Prefix s part in rw e at h

  pub Takes-percent : (node : Node) (part : Rc Node Global) → node ≡ nodes.Percent part → Takes P Q (relative node) → Takes P Q (term_of part)
  unfolding Takes
  Takes-percent node part is h = let e = ap relative is ∙ relative-Percent part in rw e at h

  pub Takes-paren : (node : Node) (part : Rc Node Global) → node ≡ nodes.Paren part → Takes P Q (relative node) → Takes P Q (term_of part)
  unfolding Takes
  Takes-paren node part is h = let e = ap relative is ∙ relative-Paren part in rw e at h

  pub Takes-binary : (node : Node) (o : Op) (left right : Rc Node Global) → node ≡ nodes.Binary o left right → Takes P Q (relative node) → Takes P Q (term_of left) × Takes P Q (term_of right)
  unfolding Takes
  Takes-binary node o left right is h = let e = ap relative is ∙ relative-Binary o left right in rw e at h

  pub Takes-call : (node : Node) (w : List ℕ) (list : TreeList) → node ≡ nodes.Call w list → Takes P Q (relative node) → AllTake P Q (relative_list list)
  unfolding Takes AllTake
  Takes-call node w list is h = let e = ap relative is ∙ relative-Call w list in rw e at h

  pub AllTake-item : (items : List (Rc Node Global)) (i : ℕ) (item : Rc Node Global) → i < length items → item ≡ get_or items i item → AllTake P Q (terms_in items) → Takes P Q (term_of item)
  unfolding Takes AllTake
  AllTake-item [] i item h e taken = absurd (omega arith)
  AllTake-item (x ∷ xs) zero item h e p = subst (λ y. Takes P Q (term_of y)) (sym e) p.0
  AllTake-item (x ∷ xs) (suc i) item h e p = AllTake-item xs i item (omega arith) e p.1

  pub AllTake-drop : (items : List (Rc Node Global)) (i : ℕ) → AllTake P Q (terms_in items) → AllTake P Q (terms_in (drop i items))
  unfolding AllTake
  AllTake-drop items zero p = p
  AllTake-drop [] (suc i) p = tt
  AllTake-drop (x ∷ xs) (suc i) p = AllTake-drop xs i p.1
