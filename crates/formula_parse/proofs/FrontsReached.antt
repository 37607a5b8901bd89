-- What was read goes on to a whole formula, whatever state it reaches, and is one where the state is whole. Serves
-- `parse_error`.
use Rattle.std.proofs.Common.{◌≡◌, ◌∙◌, sym, ap, refl, arith, subst, ℕ, suc, ◌+◌, ◌<◌, ◌≤◌, max, ◌==◌, Bool, true, false, cond, nat_le, nat_lt, if◌then◌else◌, List, [], ◌∷◌, ◌++◌, length, Option, Some, None, append_assoc, ◌⊎◌, inl, inr, Ok, Err}
use Rattle.std.specs.Option.{option_and_then, option_map}
use Rattle.std.specs.Result.{is_ok}
use Rattle.std.proofs.lemmas.Bool.{leb-true, leb-false, eqb-true}
use Rattle.std.proofs.lemmas.List.{append-nil}
use borrow.Author.Tests.{ltb-true}
use Rattle.cell_addr.specs.declared.axis.Axis.{Axis}
use Rattle.cell_addr.specs.declared.axis.Axis.TheVariants as axes
use Rattle.cell_addr.specs.declared.place.TheConstants.{ROWS}
use Rattle.cell_addr.specs.Text.{capitals}
use Rattle.cell_addr.proofs.SamePlaces.{same_axis-equal}
use Rattle.fix_num.specs.Text.{number_of}
use Rattle.formula_tree.specs.declared.reference.Corner.{Corner}
use Rattle.formula_tree.specs.declared.operator.Op.{Op}
use Rattle.formula_tree.specs.declared.operator.Op.TheVariants as op
use Rattle.formula_tree.specs.declared.operator.Sign.{Sign}
use Rattle.formula_tree.specs.declared.operator.Sign.TheVariants as sign
use Rattle.formula_tree.specs.declared.address.Address.{Address}
use Rattle.formula_tree.specs.declared.address.End.{End}
use Rattle.formula_tree.specs.Token.{Token}
use Rattle.formula_tree.specs.Token as tok
use Rattle.formula_tree.specs.Term.{Term, truth, prefix, percent, binary, call, paren, Terms, no_terms, term, depth_of, depth_of_all}
use Rattle.formula_tree.specs.Level.{level_of, percent_level, sign_level, atom_level, op_of, sign_of}
use Rattle.formula_tree.specs.Grammar.{Leaf, a_number, a_text, a_truth, a_fault, a_name, a_corner, a_range, a_sheet_corner, a_sheet_range, a_whole, a_sheet_whole, Spells, between, followed, before, leaf, inside, alone, called, SpellsAll, last, more, SpellsTokens, end_of}
use Rattle.formula_tree.specs.Reader.{max_levels}
use Rattle.formula_tree.proofs.Complete.{depth_of-positive, level_of-below}
use Rattle.formula_tree.proofs.Sound.{lower-to}
use Rattle.formula_parse.specs.declared.frames.Frame.{Frame}
use Rattle.formula_parse.specs.declared.frames.Frame.TheVariants as around
use Rattle.formula_parse.specs.declared.progress.Kind.TheVariants as kinds
use Rattle.formula_parse.specs.declared.progress.Last.{Last}
use Rattle.formula_parse.specs.declared.progress.Last.TheVariants as lasts
use Rattle.formula_parse.specs.declared.progress.Stage.{Stage}
use Rattle.formula_parse.specs.declared.progress.Stage.TheVariants as stages
use Rattle.formula_parse.specs.Fronts.{IsFront}
use Rattle.formula_parse.specs.internal.Progress as progress
use Rattle.formula_parse.specs.internal.Progress.{State, kind_of, line_of, pushed, within, opened, signed, begun, atom, no_arguments, is_last, joined, joined_then, settled, operator, comma, closed, at_tree, advanced, is_outermost, is_whole, start, step, reached}
use Rattle.formula_parse.proofs.SpeltReached.{floor, leaf-depth}

-- a sign's operator
signed_as : (o : Op) (s : Sign) → sign_of o ≡ Some s → op_of s ≡ o
signed_as op.Add sign.Plus e = refl
signed_as op.Add sign.Minus e = cc
signed_as op.Sub sign.Plus e = cc
signed_as op.Sub sign.Minus e = refl
signed_as op.Mul s e = cc
signed_as op.Div s e = cc
signed_as op.Power s e = cc
signed_as op.Join s e = cc
signed_as op.Equal s e = cc
signed_as op.Unequal s e = cc
signed_as op.Less s e = cc
signed_as op.Greater s e = cc
signed_as op.AtMost s e = cc
signed_as op.AtLeast s e = cc

-- a tree may begin where a level is left, and else a call without arguments may end
abbrev IsEmptyCall : List Frame → Type 0
IsEmptyCall (around.Arguments left ∷ frames) = left ≡ 0
IsEmptyCall frames = ⊥

abbrev CanBegin : List Frame → Type 0
CanBegin frames = (length frames < max_levels) ⊎ IsEmptyCall frames

module _ (home : ℕ) (find : List ℕ → Option ℕ) where
  -- tokens that spell a tree at a level, whatever follows them
  abbrev Piece : ℕ → List Token → Term Corner → Type 0
  Piece level piece t = (ws : List Token) → Spells home find level (piece ++ ws) t ws

  -- tokens that are a leaf, whatever follows them
  abbrev IsLeaf : List Token → Type 0
  IsLeaf piece = (t : Term Corner) × ((ws : List Token) → Leaf home find (piece ++ ws) t ws)

  -- the arguments so far, with which more arguments are those of a call
  abbrev Listed : ℕ → List Token → ℕ → Type 0
  Listed base args left = (ts : Terms Corner) → (us : Terms Corner) × (((xs zs : List Token) → SpellsAll home find xs ts zs → SpellsAll home find (args ++ xs) us zs)
      × (suc base + depth_of_all us ≡ max (suc base + depth_of_all ts) left))

  -- the tokens up to the innermost frame
  abbrev Holds : List Frame → List Token → Type 0
  Holds [] ahead = ahead ≡ []
  Holds (around.Right own left ∷ frames) ahead = (b : List Token) × ((piece : List Token) × ((o : Op) × ((t : Term Corner) × (Holds frames b × (ahead ≡ b ++ (piece ++ tok.Operator o ∷ []))
      × (level_of o ≡ own) × Piece (level_of o) piece t × (floor frames ≤ level_of o) × (left ≡ suc (length frames + depth_of t)) × (left ≤ max_levels)))))
  Holds (around.Sign ∷ frames) ahead = (b : List Token) × ((s : Sign) × (Holds frames b × (ahead ≡ b ++ tok.Operator (op_of s) ∷ [])))
  Holds (around.Parens ∷ frames) ahead = (b : List Token) × (Holds frames b × (ahead ≡ b ++ tok.Open ∷ []))
  Holds (around.Arguments left ∷ frames) ahead = (b : List Token) × ((w : List ℕ) × ((args : List Token) × (Holds frames b × (ahead ≡ b ++ tok.Word w ∷ tok.Open ∷ args)
      × Listed (length frames) args left × (left ≡ 0 → args ≡ []) × (length frames < max_levels) × (left ≤ max_levels))))

  -- some tokens behind these make a formula
  abbrev pub Completes : List Token → Type 0
  Completes tokens = (others : List Token) × ((t : Term Corner) × (SpellsTokens home find (tokens ++ others) t × (depth_of t ≤ max_levels)))

  longer : (xs ys : List Token) → Completes (xs ++ ys) → Completes xs
  longer xs ys (others, (t, (d, h))) = (ys ++ others, (t, (subst (λ zs. SpellsTokens home find zs t) (append_assoc xs ys others) d, h)))

  -- pieces put together
  joined-piece : (o : Op) (l piece : List Token) (u t : Term Corner) → Piece (level_of o) l u → Piece (suc (level_of o)) piece t → Piece (level_of o) (l ++ tok.Operator o ∷ piece) (binary o u t)
  joined-piece o l piece u t p q ws =
      subst (λ xs. Spells home find (level_of o) xs (binary o u t) ws) (sym (append_assoc l (tok.Operator o ∷ piece) ws)) (between o (p (tok.Operator o ∷ (piece ++ ws))) (q ws))

  lower-piece : (k j : ℕ) (piece : List Token) (t : Term Corner) → k ≤ j → Piece j piece t → Piece k piece t
  lower-piece k j piece t h p ws = lower-to home find k j h (p ws)

  parens-piece : (piece : List Token) (t : Term Corner) → Piece 0 piece t → Piece atom_level (tok.Open ∷ (piece ++ tok.Close ∷ [])) (paren t)
  parens-piece piece t p ws =
      inside (subst (λ xs. Spells home find 0 xs t (tok.Close ∷ ws)) (sym (append_assoc piece (tok.Close ∷ []) ws)) (p (tok.Close ∷ ws)))

  percent-piece : (piece : List Token) (t : Term Corner) → Piece percent_level piece t → Piece percent_level (piece ++ tok.Percent ∷ []) (percent t)
  percent-piece piece t p ws =
      subst (λ xs. Spells home find percent_level xs (percent t) ws) (sym (append_assoc piece (tok.Percent ∷ []) ws)) (followed (p (tok.Percent ∷ ws)))

  call-piece : (w : List ℕ) (args piece : List Token) (t : Term Corner) (us : Terms Corner) → Piece 0 piece t
      → ((xs zs : List Token) → SpellsAll home find xs (term t no_terms) zs → SpellsAll home find (args ++ xs) us zs)
      → Piece atom_level (tok.Word w ∷ tok.Open ∷ (args ++ (piece ++ tok.Close ∷ []))) (call (capitals w) us)
  call-piece w args piece t us p f ws =
      let e : args ++ (piece ++ tok.Close ∷ ws) ≡ (args ++ (piece ++ tok.Close ∷ [])) ++ ws =
      ap (λ xs. args ++ xs) (sym (append_assoc piece (tok.Close ∷ []) ws)) ∙ sym (append_assoc args (piece ++ tok.Close ∷ []) ws) in
      called (subst (λ xs. SpellsAll home find xs us ws) e (f (piece ++ tok.Close ∷ ws) ws (last (p (tok.Close ∷ ws)))))

  floor-low : (frames : List Frame) (ahead : List Token) → Holds frames ahead → floor frames ≤ sign_level
  floor-low [] ahead h = omega arith
  floor-low (around.Right own left ∷ frames) ahead (b, (piece, (o, (t, (h, e, l, p, f, m, n))))) = omega (arith, level_of-below o)
  floor-low (around.Sign ∷ frames) ahead h = omega arith
  floor-low (around.Parens ∷ frames) ahead h = omega arith
  floor-low (around.Arguments left ∷ frames) ahead h = omega arith

  -- where a tree stands in frames, what closes them makes a formula
  closes : (frames : List Frame) (ahead piece : List Token) (t : Term Corner) (j : ℕ) → Holds frames ahead → Piece j piece t → floor frames ≤ j → length frames + depth_of t ≤ max_levels
      → Completes (ahead ++ piece)
  closes [] ahead piece t j e p g d = subst (λ b. Completes (b ++ piece)) (sym e) ([], (t, (lower-to home find 0 j (omega arith) (p []), omega arith)))
  closes (around.Right own left ∷ frames) ahead piece t j (b, (l, (o, (u, (h, e, k, q, f, m, n))))) p g d =
      let right : Piece (suc (level_of o)) piece t = lower-piece (suc (level_of o)) j piece t (omega arith) p in
      let both = joined-piece o l piece u t q right in
      let same : ahead ++ piece ≡ b ++ (l ++ tok.Operator o ∷ piece) =
      ap (λ xs. xs ++ piece) e ∙ append_assoc b (l ++ tok.Operator o ∷ []) piece ∙ ap (λ xs. b ++ xs) (append_assoc l (tok.Operator o ∷ []) piece) in
      subst Completes (sym same) (closes frames b (l ++ tok.Operator o ∷ piece) (binary o u t) (level_of o) h both f (omega arith))
  closes (around.Sign ∷ frames) ahead piece t j (b, (s, (h, e))) p g d =
      let same : ahead ++ piece ≡ b ++ tok.Operator (op_of s) ∷ piece = ap (λ xs. xs ++ piece) e ∙ append_assoc b (tok.Operator (op_of s) ∷ []) piece in
      subst Completes (sym same)
      (closes frames b (tok.Operator (op_of s) ∷ piece) (prefix s t) sign_level h (λ ws. before s (lower-to home find sign_level j (omega arith) (p ws))) (floor-low frames b h) (omega arith))
  closes (around.Parens ∷ frames) ahead piece t j (b, (h, e)) p g d =
      let low = floor-low frames b h in
      let same : (ahead ++ piece) ++ tok.Close ∷ [] ≡ b ++ tok.Open ∷ (piece ++ tok.Close ∷ []) =
      append_assoc ahead piece (tok.Close ∷ []) ∙ ap (λ xs. xs ++ (piece ++ tok.Close ∷ [])) e ∙ append_assoc b (tok.Open ∷ []) (piece ++ tok.Close ∷ []) in
      longer (ahead ++ piece) (tok.Close ∷ [])
      (subst Completes (sym same)
      (closes frames b (tok.Open ∷ (piece ++ tok.Close ∷ [])) (paren t) atom_level h (parens-piece piece t (lower-piece 0 j piece t (omega arith) p)) (omega arith) (omega arith)))
  closes (around.Arguments left ∷ frames) ahead piece t j (b, (w, (args, (h, e, a, z, r, m)))) p g d =
      let low = floor-low frames b h in
      let us = a (term t no_terms) in
      let n : suc (length frames) + depth_of_all us.0 ≡ max (suc (length frames) + max (depth_of t) 0) left = us.1.1 in
      let same : (ahead ++ piece) ++ tok.Close ∷ [] ≡ b ++ tok.Word w ∷ tok.Open ∷ (args ++ (piece ++ tok.Close ∷ [])) =
      append_assoc ahead piece (tok.Close ∷ []) ∙ ap (λ xs. xs ++ (piece ++ tok.Close ∷ [])) e ∙ append_assoc b (tok.Word w ∷ tok.Open ∷ args) (piece ++ tok.Close ∷ []) in
      longer (ahead ++ piece) (tok.Close ∷ [])
      (subst Completes (sym same)
      (closes frames b (tok.Word w ∷ tok.Open ∷ (args ++ (piece ++ tok.Close ∷ []))) (call (capitals w) us.0) atom_level h
      (call-piece w args piece t us.0 (lower-piece 0 j piece t (omega arith) p) us.1.0) (omega arith) (omega arith)))

  -- what settles: the frames that are left, and the tree in them, which an operator of the level may follow
  abbrev Settles : ℕ → List Token → ℕ × List Frame → Type 0
  Settles level ahead r = (b : List Token) × ((piece : List Token) × ((t : Term Corner) × (Holds r.1 b × (ahead ≡ b ++ piece) × Piece level piece t
      × (floor r.1 ≤ level) × (r.0 ≡ length r.1 + depth_of t) × (r.0 ≤ max_levels))))

  -- an operator's right operand ends
  right-settles : (level deepest own left : ℕ) (frames : List Frame) (b piece : List Token) (t : Term Corner) (j : ℕ) → level ≤ sign_level → Holds (around.Right own left ∷ frames) b → Piece j piece t
      → level ≤ own → suc own ≤ j → deepest ≡ suc (length frames) + depth_of t → deepest ≤ max_levels
      → ((c qs : List Token) (v : Term Corner) (i : ℕ) → Holds frames c → Piece i qs v → level ≤ i → floor frames ≤ i → max deepest left ≡ length frames + depth_of v → max deepest left ≤ max_levels
      → Settles level (c ++ qs) (settled level (max deepest left) frames))
      → Settles level (b ++ piece) (settled level (max deepest left) frames)
  right-settles level deepest own left frames b piece t j s (a, (l, (o, (u, (h, e, v, q, f, n, r))))) p k g d m next =
      let right : Piece (suc (level_of o)) piece t = lower-piece (suc (level_of o)) j piece t (omega arith) p in
      let same : a ++ (l ++ tok.Operator o ∷ piece) ≡ b ++ piece =
      sym (ap (λ xs. xs ++ piece) e ∙ append_assoc a (l ++ tok.Operator o ∷ []) piece ∙ ap (λ xs. a ++ xs) (append_assoc l (tok.Operator o ∷ []) piece)) in
      subst (λ xs. Settles level xs (settled level (max deepest left) frames)) same
      (next a (l ++ tok.Operator o ∷ piece) (binary o u t) (level_of o) h (joined-piece o l piece u t q right) (omega arith) f (omega arith) (omega arith))

  settles : (level deepest : ℕ) (frames : List Frame) (b piece : List Token) (t : Term Corner) (j : ℕ) → level ≤ sign_level → Holds frames b → Piece j piece t
      → level ≤ j → floor frames ≤ j → deepest ≡ length frames + depth_of t → deepest ≤ max_levels → Settles level (b ++ piece) (settled level deepest frames)
  settles level deepest [] b piece t j s h p k f d m = (b, (piece, (t, (h, refl, lower-piece level j piece t k p, omega arith, d, m))))
  settles level deepest (around.Right own left ∷ frames) b piece t j s h p k f d m =
      elim (nat_le level own) as (λ c. nat_le level own ≡ c
      → Settles level (b ++ piece) (joined_then (cond c (Some (max deepest left)) None) (λ n. settled level n frames) (deepest, around.Right own left ∷ frames))) [
        | true ↦ λ e. right-settles level deepest own left frames b piece t j s h p (leb-true level own e) f d m
            (λ c qs v i h p k f d m. settles level (max deepest left) frames c qs v i s h p k f d m)
        | false ↦ λ e. (b, (piece, (t, (h, refl, lower-piece level j piece t k p, leb-false level own e, d, m))))
      ] refl
  settles level deepest (around.Sign ∷ frames) b piece t j s (a, (v, (h, e))) p k f d m =
      let same : a ++ tok.Operator (op_of v) ∷ piece ≡ b ++ piece = sym (ap (λ xs. xs ++ piece) e ∙ append_assoc a (tok.Operator (op_of v) ∷ []) piece) in
      subst (λ xs. Settles level xs (settled level deepest frames)) same
      (settles level deepest frames a (tok.Operator (op_of v) ∷ piece) (prefix v t) sign_level s h (λ ws. before v (lower-to home find sign_level j f (p ws))) s (floor-low frames a h)
      (omega arith) m)
  settles level deepest (around.Parens ∷ frames) b piece t j s h p k f d m = (b, (piece, (t, (h, refl, lower-piece level j piece t k p, omega arith, d, m))))
  settles level deepest (around.Arguments left ∷ frames) b piece t j s h p k f d m = (b, (piece, (t, (h, refl, lower-piece level j piece t k p, omega arith, d, m))))

  -- what was read last, in what is open
  abbrev pub Held : Stage → List Frame → List Token → Type 0
  Held stages.Operand frames ahead = Holds frames ahead × CanBegin frames
  Held stages.Call frames ahead = (b : List Token) × ((w : List ℕ) × (Holds frames b × (ahead ≡ b ++ tok.Word w ∷ []) × (length frames < max_levels)))
  Held stages.Sheet frames ahead = (b : List Token) × ((w : List ℕ) × (Holds frames b × (ahead ≡ b ++ tok.Sheet w ∷ []) × (length frames < max_levels)))
  Held (stages.First single range) frames ahead = (b : List Token) × ((front : List Token) × (Holds frames b × (ahead ≡ b ++ front) × (length frames < max_levels)
      × (single ≡ true → IsLeaf front) × ((y : Token) → is_last range (kind_of y) ≡ true → IsLeaf (front ++ tok.Colon ∷ y ∷ []))))
  Held (stages.Last range) frames ahead = (b : List Token) × ((front : List Token) × (Holds frames b × (ahead ≡ b ++ front) × (length frames < max_levels)
      × ((y : Token) → is_last range (kind_of y) ≡ true → IsLeaf (front ++ y ∷ []))))
  Held (stages.Tree deepest) frames ahead = (b : List Token) × ((piece : List Token) × ((t : Term Corner) × ((j : ℕ) × (Holds frames b × (ahead ≡ b ++ piece) × Piece j piece t
      × (floor frames ≤ j) × (percent_level ≤ j) × (deepest ≡ length frames + depth_of t) × (deepest ≤ max_levels)))))

  -- a leaf that was read
  leaf-held : (frames : List Frame) (b piece : List Token) → Holds frames b → length frames < max_levels → IsLeaf piece → Held (stages.Tree (suc (length frames))) frames (b ++ piece)
  leaf-held frames b piece h r (t, l) =
      let low = floor-low frames b h in
      let one = leaf-depth home find (l []) in
      (b, (piece, (t, (atom_level, (h, refl, λ ws. leaf (l ws), omega arith, omega arith, omega (arith, one), omega arith)))))

  -- each state completes
  a_last : (range : Last) → (y : Token) × (is_last range (kind_of y) ≡ true)
  a_last lasts.Corner = (tok.Corner (record { row = 0; col = 0; row_fixed = false; col_fixed = false }), refl)
  a_last (lasts.Line axes.Rows) = (tok.Number (49 ∷ []), refl)
  a_last (lasts.Line axes.Cols) = (tok.Name (65 ∷ []), refl)

  leaf-completes : (frames : List Frame) (b piece : List Token) → Holds frames b → length frames < max_levels → IsLeaf piece → Completes (b ++ piece)
  leaf-completes frames b piece h r (t, l) =
      let low = floor-low frames b h in
      let one = leaf-depth home find (l []) in
      closes frames b piece t atom_level h (λ ws. leaf (l ws)) (omega arith) (omega (arith, one))

  alone-completes : (frames : List Frame) (b : List Token) (w : List ℕ) → Holds frames b → length frames < max_levels → Completes (b ++ tok.Word w ∷ tok.Open ∷ tok.Close ∷ [])
  alone-completes frames b w h r =
      let low = floor-low frames b h in
      closes frames b (tok.Word w ∷ tok.Open ∷ tok.Close ∷ []) (call (capitals w) no_terms) atom_level h (λ ws. alone) (omega arith) (omega arith)

  empty-completes : (frames : List Frame) (ahead : List Token) → Holds frames ahead → IsEmptyCall frames → Completes ahead
  empty-completes [] ahead h z = absurd z
  empty-completes (around.Right own left ∷ frames) ahead h z = absurd z
  empty-completes (around.Sign ∷ frames) ahead h z = absurd z
  empty-completes (around.Parens ∷ frames) ahead h z = absurd z
  empty-completes (around.Arguments left ∷ frames) ahead (b, (w, (args, (h, e, a, n, r, m)))) z =
      let same : ahead ++ tok.Close ∷ [] ≡ b ++ tok.Word w ∷ tok.Open ∷ tok.Close ∷ [] =
      ap (λ xs. xs ++ tok.Close ∷ []) (e ∙ ap (λ xs. b ++ tok.Word w ∷ tok.Open ∷ xs) (n z)) ∙ append_assoc b (tok.Word w ∷ tok.Open ∷ []) (tok.Close ∷ []) in
      longer ahead (tok.Close ∷ []) (subst Completes (sym same) (alone-completes frames b w h r))

  completes : (stage : Stage) (frames : List Frame) (ahead : List Token) → Held stage frames ahead → Completes ahead
  completes stages.Operand frames ahead (h, inl r) = longer ahead (tok.Truth true ∷ []) (leaf-completes frames ahead (tok.Truth true ∷ []) h r (truth true, λ ws. a_truth))
  completes stages.Operand frames ahead (h, inr z) = empty-completes frames ahead h z
  completes stages.Call frames ahead (b, (w, (h, e, r))) =
      let same : ahead ++ tok.Open ∷ tok.Close ∷ [] ≡ b ++ tok.Word w ∷ tok.Open ∷ tok.Close ∷ [] =
      ap (λ xs. xs ++ tok.Open ∷ tok.Close ∷ []) e ∙ append_assoc b (tok.Word w ∷ []) (tok.Open ∷ tok.Close ∷ []) in
      longer ahead (tok.Open ∷ tok.Close ∷ []) (subst Completes (sym same) (alone-completes frames b w h r))
  completes stages.Sheet frames ahead (b, (w, (h, e, r))) =
      let corner : Token = tok.Corner (record { row = 0; col = 0; row_fixed = false; col_fixed = false }) in
      let same : ahead ++ corner ∷ [] ≡ b ++ tok.Sheet w ∷ corner ∷ [] = ap (λ xs. xs ++ corner ∷ []) e ∙ append_assoc b (tok.Sheet w ∷ []) (corner ∷ []) in
      longer ahead (corner ∷ []) (subst Completes (sym same) (leaf-completes frames b (tok.Sheet w ∷ corner ∷ []) h r (_, λ ws. a_sheet_corner)))
  completes (stages.First single range) frames ahead (b, (front, (h, e, r, f, g))) =
      let y = a_last range in
      let same : ahead ++ tok.Colon ∷ y.0 ∷ [] ≡ b ++ (front ++ tok.Colon ∷ y.0 ∷ []) = ap (λ xs. xs ++ tok.Colon ∷ y.0 ∷ []) e ∙ append_assoc b front (tok.Colon ∷ y.0 ∷ []) in
      longer ahead (tok.Colon ∷ y.0 ∷ []) (subst Completes (sym same) (leaf-completes frames b (front ++ tok.Colon ∷ y.0 ∷ []) h r (g y.0 y.1)))
  completes (stages.Last range) frames ahead (b, (front, (h, e, r, g))) =
      let y = a_last range in
      let same : ahead ++ y.0 ∷ [] ≡ b ++ (front ++ y.0 ∷ []) = ap (λ xs. xs ++ y.0 ∷ []) e ∙ append_assoc b front (y.0 ∷ []) in
      longer ahead (y.0 ∷ []) (subst Completes (sym same) (leaf-completes frames b (front ++ y.0 ∷ []) h r (g y.0 y.1)))
  completes (stages.Tree deepest) frames ahead (b, (piece, (t, (j, (h, e, p, f, g, d, m))))) =
      subst Completes (sym e) (closes frames b piece t j h p f (omega arith))

  -- what is whole is a formula
  abbrev pub Whole : List Token → Type 0
  Whole tokens = (t : Term Corner) × (SpellsTokens home find tokens t × (depth_of t ≤ max_levels))

  outermost : (frames : List Frame) (b : List Token) → Holds frames b → is_outermost frames ≡ true → b ≡ []
  outermost [] b h e = h
  outermost (frame ∷ frames) b h e = cc

  settled-whole : (ahead : List Token) (r : ℕ × List Frame) → Settles 0 ahead r → is_outermost r.1 ≡ true → Whole ahead
  settled-whole ahead (deepest, []) (b, (piece, (t, (h, e, p, f, d, m)))) o =
      let same : piece ++ [] ≡ ahead = append-nil piece ∙ sym (e ∙ ap (λ xs. xs ++ piece) h) in
      (t, (subst (λ xs. SpellsTokens home find xs t) same (p []), omega arith))
  settled-whole ahead (deepest, frame ∷ frames) s o = cc

  tree-whole : (deepest : ℕ) (frames : List Frame) (ahead : List Token) → Held (stages.Tree deepest) frames ahead → is_outermost (settled 0 deepest frames).1 ≡ true → Whole ahead
  tree-whole deepest frames ahead (b, (piece, (t, (j, (h, e, p, f, g, d, m))))) o =
      settled-whole ahead (settled 0 deepest frames)
      (subst (λ xs. Settles 0 xs (settled 0 deepest frames)) (sym e) (settles 0 deepest frames b piece t j (omega arith) h p (omega arith) f d m)) o

  first-leaf : (single : Bool) (range : Last) (frames : List Frame) (ahead : List Token) → Held (stages.First single range) frames ahead → single ≡ true
      → Held (stages.Tree (suc (length frames))) frames ahead
  first-leaf single range frames ahead (b, (front, (h, e, r, f, g))) s =
      subst (Held (stages.Tree (suc (length frames))) frames) (sym e) (leaf-held frames b front h r (f s))

  whole : (stage : Stage) (frames : List Frame) (ahead : List Token) → Held stage frames ahead → is_whole stage frames ≡ true → Whole ahead
  whole stages.Operand frames ahead h e = cc
  whole stages.Call frames ahead h e = cc
  whole stages.Sheet frames ahead h e = cc
  whole (stages.First true range) frames ahead h e = tree-whole (suc (length frames)) frames ahead (first-leaf true range frames ahead h refl) e
  whole (stages.First false range) frames ahead h e = cc
  whole (stages.Last range) frames ahead h e = cc
  whole (stages.Tree deepest) frames ahead h e = tree-whole deepest frames ahead h e

  -- one token more
  abbrev HeldAt : State → List Token → Type 0
  HeldAt state tokens = Held state.0 state.1 tokens

  -- a state that is reached under a test
  if-reached : (b : Bool) (r : Option State) (to : State) → (if b then r else None) ≡ Some to → (b ≡ true) × (r ≡ Some to)
  if-reached true r to e = (refl, e)
  if-reached false r to e = cc

  same-held : (from to : State) (tokens : List Token) → Some from ≡ Some to → HeldAt from tokens → HeldAt to tokens
  same-held from to tokens e h = let same : from ≡ to = cc in subst (λ s. HeldAt s tokens) same h

  -- a frame more
  within-held : (frame : Frame) (frames : List Frame) (tokens : List Token) (to : State) → within frame frames ≡ Some to
      → (length frames < max_levels → Holds (frame ∷ frames) tokens × CanBegin (frame ∷ frames)) → HeldAt to tokens
  within-held frame frames tokens to e h =
      elim (nat_lt (length frames) max_levels) as (λ c. nat_lt (length frames) max_levels ≡ c
      → option_map (λ (all : List Frame). (stages.Operand, all)) (if c then Some (frame ∷ frames) else None) ≡ Some to → HeldAt to tokens) [
        | true ↦ λ f g. same-held (stages.Operand, frame ∷ frames) to tokens g (h (ltb-true (length frames) max_levels f))
        | false ↦ λ f g. cc
      ] refl e

  opened-held : (frame : Frame) (frames : List Frame) (tokens : List Token) (to : State) → opened frame frames ≡ Some to → Holds (frame ∷ frames) tokens → HeldAt to tokens
  opened-held frame frames tokens to e h =
      let two = if-reached (nat_lt (suc (length frames)) max_levels) (within frame frames) to e in
      within-held frame frames tokens to two.1 (λ _. (h, inl (ltb-true (suc (length frames)) max_levels two.0)))

  signed-held : (o : Op) (s : Option Sign) (frames : List Frame) (ahead : List Token) (to : State) → sign_of o ≡ s → Holds frames ahead → signed s frames ≡ Some to
      → HeldAt to (ahead ++ tok.Operator o ∷ [])
  signed-held o None frames ahead to f h e = cc
  signed-held o (Some v) frames ahead to f h e =
      opened-held around.Sign frames (ahead ++ tok.Operator o ∷ []) to e (ahead, (v, (h, ap (λ p. ahead ++ tok.Operator p ∷ []) (sym (signed_as o v f)))))

  -- a leaf or a call that begins
  begun-held : (stage : Option Stage) (frames : List Frame) (tokens : List Token) (to : State) → begun stage frames ≡ Some to
      → ((s : Stage) → stage ≡ Some s → length frames < max_levels → Held s frames tokens) → HeldAt to tokens
  begun-held None frames tokens to e h = let none = if-reached (nat_lt (length frames) max_levels) None to e in absurd (cc (none.1))
  begun-held (Some s) frames tokens to e h =
      let room = if-reached (nat_lt (length frames) max_levels) (Some (s, frames)) to e in
      same-held (s, frames) to tokens room.1 (h s refl (ltb-true (length frames) max_levels room.0))

  -- the ends of ranges
  line-by : (axis : Axis) (single : Bool) (r : Option End) → is_last (lasts.Line axis) (kinds.Atom single (option_map (λ (b : End). b.axis) r)) ≡ true
      → (b : End) × ((r ≡ Some b) × (axis ≡ b.axis))
  line-by axis single None e = cc
  line-by axis single (Some b) e = (b, (refl, same_axis-equal axis b.axis e))

  line-last : (axis : Axis) (y : Token) → is_last (lasts.Line axis) (kind_of y) ≡ true → (b : End) × ((end_of ROWS y ≡ Some b) × (axis ≡ b.axis))
  line-last axis (tok.Number w) e = line-by axis (is_ok (number_of w)) (end_of ROWS (tok.Number w)) e
  line-last axis (tok.Name w) e = line-by axis true (end_of ROWS (tok.Name w)) e
  line-last axis (tok.Other w) e = line-by axis false (end_of ROWS (tok.Other w)) e
  line-last axis y e = cc

  corner-last : (y : Token) → is_last lasts.Corner (kind_of y) ≡ true → (a : Address) × (y ≡ tok.Corner a)
  corner-last (tok.Corner a) e = (a, refl)
  corner-last y e = cc

  -- a token that is a leaf, or the first end of a whole range
  atom-held : (x : Token) (single : Bool) (r : Option End) (frames : List Frame) (ahead : List Token) (s : Stage) → end_of ROWS x ≡ r → (single ≡ true → IsLeaf (x ∷ [])) → Holds frames ahead
      → atom (suc (length frames)) single (option_map (λ (b : End). b.axis) r) ≡ Some s → length frames < max_levels → Held s frames (ahead ++ x ∷ [])
  atom-held x true None frames ahead s e l h f room =
      let same : stages.Tree (suc (length frames)) ≡ s = cc in
      subst (λ u. Held u frames (ahead ++ x ∷ [])) same (leaf-held frames ahead (x ∷ []) h room (l refl))
  atom-held x false None frames ahead s e l h f room = cc
  atom-held x single (Some a) frames ahead s e l h f room =
      let same : stages.First single (lasts.Line a.axis) ≡ s = cc in
      subst (λ u. Held u frames (ahead ++ x ∷ [])) same
      (ahead, (x ∷ [], (h, refl, room, l, λ y g. let b = line-last a.axis y g in (_, λ ws. a_whole e b.1.0 b.1.1))))

  number-leaf : (w : List ℕ) → is_ok (number_of w) ≡ true → IsLeaf (tok.Number w ∷ [])
  number-leaf w e =
      elim (number_of w) as (λ r. number_of w ≡ r → is_ok r ≡ true → IsLeaf (tok.Number w ∷ [])) [
        | Ok m ↦ λ f g. (_, λ ws. a_number f)
        | Err n ↦ λ f g. cc
      ] refl e

  -- the closing parenthesis of a call without arguments
  none-held : (frames : List Frame) (ahead : List Token) (to : State) → Holds frames ahead → no_arguments frames ≡ Some to → HeldAt to (ahead ++ tok.Close ∷ [])
  none-held [] ahead to h e = cc
  none-held (around.Right own left ∷ frames) ahead to h e = cc
  none-held (around.Sign ∷ frames) ahead to h e = cc
  none-held (around.Parens ∷ frames) ahead to h e = cc
  none-held (around.Arguments left ∷ frames) ahead to (b, (w, (args, (h, e, a, n, r, m)))) f =
      let zero = if-reached (left == 0) (Some (stages.Tree (suc (length frames)), frames)) to f in
      let low = floor-low frames b h in
      let same : ahead ++ tok.Close ∷ [] ≡ b ++ tok.Word w ∷ tok.Open ∷ tok.Close ∷ [] =
      ap (λ xs. xs ++ tok.Close ∷ []) (e ∙ ap (λ xs. b ++ tok.Word w ∷ tok.Open ∷ xs) (n (eqb-true left 0 zero.0))) ∙ append_assoc b (tok.Word w ∷ tok.Open ∷ []) (tok.Close ∷ []) in
      same-held (stages.Tree (suc (length frames)), frames) to (ahead ++ tok.Close ∷ []) zero.1
      (b, (tok.Word w ∷ tok.Open ∷ tok.Close ∷ [], (call (capitals w) no_terms, (atom_level, (h, same, λ ws. alone, omega arith, omega arith, omega arith, omega arith)))))

  operand-held : (frames : List Frame) (ahead : List Token) (x : Token) (to : State) → Holds frames ahead → advanced stages.Operand frames (kind_of x) ≡ Some to → HeldAt to (ahead ++ x ∷ [])
  operand-held frames ahead (tok.Number w) to h e =
      begun-held _ frames (ahead ++ tok.Number w ∷ []) to e (λ s f room. atom-held (tok.Number w) (is_ok (number_of w)) (end_of ROWS (tok.Number w)) frames ahead s refl (number-leaf w) h f room)
  operand-held frames ahead (tok.Text w) to h e =
      begun-held _ frames (ahead ++ tok.Text w ∷ []) to e (λ s f room. atom-held (tok.Text w) true None frames ahead s refl (λ _. (_, λ ws. a_text)) h f room)
  operand-held frames ahead (tok.Truth b) to h e =
      begun-held _ frames (ahead ++ tok.Truth b ∷ []) to e (λ s f room. atom-held (tok.Truth b) true None frames ahead s refl (λ _. (_, λ ws. a_truth)) h f room)
  operand-held frames ahead (tok.Fault v) to h e =
      begun-held _ frames (ahead ++ tok.Fault v ∷ []) to e (λ s f room. atom-held (tok.Fault v) true None frames ahead s refl (λ _. (_, λ ws. a_fault)) h f room)
  operand-held frames ahead (tok.Name w) to h e =
      begun-held _ frames (ahead ++ tok.Name w ∷ []) to e (λ s f room. atom-held (tok.Name w) true (end_of ROWS (tok.Name w)) frames ahead s refl (λ _. (_, λ ws. a_name)) h f room)
  operand-held frames ahead (tok.Other w) to h e =
      begun-held _ frames (ahead ++ tok.Other w ∷ []) to e (λ s f room. atom-held (tok.Other w) false (end_of ROWS (tok.Other w)) frames ahead s refl (λ g. cc) h f room)
  operand-held frames ahead (tok.Corner a) to h e =
      begun-held (Some (stages.First true lasts.Corner)) frames (ahead ++ tok.Corner a ∷ []) to e (λ s f room.
      let same : stages.First true lasts.Corner ≡ s = cc in
      subst (λ u. Held u frames (ahead ++ tok.Corner a ∷ [])) same (
        ahead,
        (
          tok.Corner a ∷ [],
          (
            h,
            refl,
            room,
            λ _. (_, λ ws. a_corner),
            λ y g. let b = corner-last y g in subst (λ z. IsLeaf (tok.Corner a ∷ tok.Colon ∷ z ∷ [])) (sym b.1) (_, λ ws. a_range),
          ),
        ),
      ))
  operand-held frames ahead (tok.Sheet w) to h e =
      begun-held (Some stages.Sheet) frames (ahead ++ tok.Sheet w ∷ []) to e (λ s f room.
      let same : stages.Sheet ≡ s = cc in
      subst (λ u. Held u frames (ahead ++ tok.Sheet w ∷ [])) same (ahead, (w, (h, refl, room))))
  operand-held frames ahead (tok.Word w) to h e =
      begun-held (Some stages.Call) frames (ahead ++ tok.Word w ∷ []) to e (λ s f room.
      let same : stages.Call ≡ s = cc in
      subst (λ u. Held u frames (ahead ++ tok.Word w ∷ [])) same (ahead, (w, (h, refl, room))))
  operand-held frames ahead (tok.Operator o) to h e = signed-held o (sign_of o) frames ahead to refl h e
  operand-held frames ahead tok.Open to h e = opened-held around.Parens frames (ahead ++ tok.Open ∷ []) to e (ahead, (h, refl))
  operand-held frames ahead tok.Close to h e = none-held frames ahead to h e
  operand-held frames ahead x to h e = cc

  -- behind the word of a function
  call-held : (frames : List Frame) (ahead : List Token) (x : Token) (to : State) → Held stages.Call frames ahead → advanced stages.Call frames (kind_of x) ≡ Some to → HeldAt to (ahead ++ x ∷ [])
  call-held frames ahead tok.Open to (b, (w, (h, e, r))) f =
      let same : ahead ++ tok.Open ∷ [] ≡ b ++ tok.Word w ∷ tok.Open ∷ [] = ap (λ xs. xs ++ tok.Open ∷ []) e ∙ append_assoc b (tok.Word w ∷ []) (tok.Open ∷ []) in
      within-held (around.Arguments 0) frames (ahead ++ tok.Open ∷ []) to f
      (λ _. ((b, (w, ([], (h, same, λ ts. (ts, (λ xs zs d. d, omega arith)), λ _. refl, r, omega arith)))), inr refl))
  call-held frames ahead x to h f = cc

  -- behind a sheet's name
  sheet-line : (w : List ℕ) (x : Token) (single : Bool) (r : Option End) (frames : List Frame) (ahead : List Token) (to : State) → end_of ROWS x ≡ r → Held stages.Sheet frames ahead
      → advanced stages.Sheet frames (kinds.Atom single (option_map (λ (b : End). b.axis) r)) ≡ Some to → HeldAt to (ahead ++ x ∷ [])
  sheet-line w x single None frames ahead to e h f = cc
  sheet-line w x single (Some a) frames ahead to e (b, (s, (h, g, r))) f =
      let same : ahead ++ x ∷ [] ≡ b ++ tok.Sheet s ∷ x ∷ [] = ap (λ xs. xs ++ x ∷ []) g ∙ append_assoc b (tok.Sheet s ∷ []) (x ∷ []) in
      same-held (stages.First false (lasts.Line a.axis), frames) to (ahead ++ x ∷ []) f
      (b, (tok.Sheet s ∷ x ∷ [], (h, same, r, λ z. cc, λ y z. let c = line-last a.axis y z in (_, λ ws. a_sheet_whole e c.1.0 c.1.1))))

  sheet-held : (frames : List Frame) (ahead : List Token) (x : Token) (to : State) → Held stages.Sheet frames ahead → advanced stages.Sheet frames (kind_of x) ≡ Some to → HeldAt to (ahead ++ x ∷ [])
  sheet-held frames ahead (tok.Corner a) to (b, (s, (h, g, r))) f =
      let same : ahead ++ tok.Corner a ∷ [] ≡ b ++ tok.Sheet s ∷ tok.Corner a ∷ [] = ap (λ xs. xs ++ tok.Corner a ∷ []) g ∙ append_assoc b (tok.Sheet s ∷ []) (tok.Corner a ∷ []) in
      same-held (stages.First true lasts.Corner, frames) to (ahead ++ tok.Corner a ∷ []) f (
        b,
        (
          tok.Sheet s ∷ tok.Corner a ∷ [],
          (
            h,
            same,
            r,
            λ z. (_, λ ws. a_sheet_corner),
            λ y z. let c = corner-last y z in subst (λ v. IsLeaf (tok.Sheet s ∷ tok.Corner a ∷ tok.Colon ∷ v ∷ [])) (sym c.1) (_, λ ws. a_sheet_range),
          ),
        ),
      )
  sheet-held frames ahead (tok.Number w) to h f = sheet-line w (tok.Number w) (is_ok (number_of w)) (end_of ROWS (tok.Number w)) frames ahead to refl h f
  sheet-held frames ahead (tok.Name w) to h f = sheet-line w (tok.Name w) true (end_of ROWS (tok.Name w)) frames ahead to refl h f
  sheet-held frames ahead (tok.Other w) to h f = sheet-line w (tok.Other w) false (end_of ROWS (tok.Other w)) frames ahead to refl h f
  sheet-held frames ahead x to h f = cc

  -- behind the colon of a range
  last-held : (range : Last) (frames : List Frame) (ahead : List Token) (x : Token) (to : State) → Held (stages.Last range) frames ahead → advanced (stages.Last range) frames (kind_of x) ≡ Some to
      → HeldAt to (ahead ++ x ∷ [])
  last-held range frames ahead x to (b, (front, (h, e, r, g))) f =
      let ends = if-reached (is_last range (kind_of x)) (Some (stages.Tree (suc (length frames)), frames)) to f in
      let same : b ++ (front ++ x ∷ []) ≡ ahead ++ x ∷ [] = sym (ap (λ xs. xs ++ x ∷ []) e ∙ append_assoc b front (x ∷ [])) in
      same-held (stages.Tree (suc (length frames)), frames) to (ahead ++ x ∷ []) ends.1
      (subst (Held (stages.Tree (suc (length frames))) frames) same (leaf-held frames b (front ++ x ∷ []) h r (g x ends.0)))

  -- behind a tree, once the frames that end are settled
  operator-held : (o : Op) (r : ℕ × List Frame) (ahead : List Token) (to : State) → Settles (level_of o) ahead r → operator (level_of o) r ≡ Some to → HeldAt to (ahead ++ tok.Operator o ∷ [])
  operator-held o (deepest, frames) ahead to (b, (piece, (t, (h, e, p, f, d, m)))) g =
      let some = depth_of-positive t in
      let room = if-reached (nat_lt deepest max_levels) (within (around.Right (level_of o) (suc deepest)) frames) to g in
      let below = ltb-true deepest max_levels room.0 in
      let same : ahead ++ tok.Operator o ∷ [] ≡ b ++ (piece ++ tok.Operator o ∷ []) = ap (λ xs. xs ++ tok.Operator o ∷ []) e ∙ append_assoc b piece (tok.Operator o ∷ []) in
      within-held (around.Right (level_of o) (suc deepest)) frames (ahead ++ tok.Operator o ∷ []) to room.1
      (λ _. ((b, (piece, (o, (t, (h, same, refl, p, f, omega arith, omega arith))))), inl (omega arith)))

  percent-held : (r : ℕ × List Frame) (ahead : List Token) (to : State) → Settles percent_level ahead r → progress.percent r ≡ Some to → HeldAt to (ahead ++ tok.Percent ∷ [])
  percent-held (deepest, frames) ahead to (b, (piece, (t, (h, e, p, f, d, m)))) g =
      let room = if-reached (nat_lt deepest max_levels) (Some (stages.Tree (suc deepest), frames)) to g in
      let below = ltb-true deepest max_levels room.0 in
      let same : ahead ++ tok.Percent ∷ [] ≡ b ++ (piece ++ tok.Percent ∷ []) = ap (λ xs. xs ++ tok.Percent ∷ []) e ∙ append_assoc b piece (tok.Percent ∷ []) in
      same-held (stages.Tree (suc deepest), frames) to (ahead ++ tok.Percent ∷ []) room.1
      (b, (piece ++ tok.Percent ∷ [], (percent t, (percent_level, (h, same, percent-piece piece t p, f, omega arith, omega arith, omega arith)))))

  comma-held : (r : ℕ × List Frame) (ahead : List Token) (to : State) → Settles 0 ahead r → comma r ≡ Some to → HeldAt to (ahead ++ tok.Comma ∷ [])
  comma-held (deepest, []) ahead to s g = cc
  comma-held (deepest, around.Right own left ∷ frames) ahead to s g = cc
  comma-held (deepest, around.Sign ∷ frames) ahead to s g = cc
  comma-held (deepest, around.Parens ∷ frames) ahead to s g = cc
  comma-held (deepest, around.Arguments left ∷ frames) ahead to (c, (piece, (t, ((b, (w, (args, (h, e, a, n, r, m)))), f, p, k, d, l)))) g =
      let some = depth_of-positive t in
      let all : List Token = args ++ (piece ++ tok.Comma ∷ []) in
      let same : ahead ++ tok.Comma ∷ [] ≡ b ++ tok.Word w ∷ tok.Open ∷ all =
      ap (λ xs. xs ++ tok.Comma ∷ []) (f ∙ ap (λ xs. xs ++ piece) e) ∙ append_assoc (b ++ tok.Word w ∷ tok.Open ∷ args) piece (tok.Comma ∷ [])
      ∙ append_assoc b (tok.Word w ∷ tok.Open ∷ args) (piece ++ tok.Comma ∷ []) in
      let listed : Listed (length frames) all (max deepest left) = λ ts.
      let us = a (term t ts) in
      let depth : suc (length frames) + depth_of_all us.0 ≡ max (suc (length frames) + max (depth_of t) (depth_of_all ts)) left = us.1.1 in (
        us.0,
        (
          λ xs zs q.
              let joined : args ++ (piece ++ tok.Comma ∷ xs) ≡ all ++ xs =
              ap (λ ys. args ++ ys) (sym (append_assoc piece (tok.Comma ∷ []) xs)) ∙ sym (append_assoc args (piece ++ tok.Comma ∷ []) xs) in
              subst (λ ys. SpellsAll home find ys us.0 zs) joined (us.1.0 (piece ++ tok.Comma ∷ xs) zs (more (p (tok.Comma ∷ xs)) q)),
          omega (arith, depth, d),
        ),
      ) in
      within-held (around.Arguments (max deepest left)) frames (ahead ++ tok.Comma ∷ []) to g
      (λ _. ((b, (w, (all, (h, same, listed, λ z. absurd (omega (arith, z, d)), r, omega (arith, m, l))))), inl (omega (arith, d, l))))

  closed-held : (r : ℕ × List Frame) (ahead : List Token) (to : State) → Settles 0 ahead r → closed r ≡ Some to → HeldAt to (ahead ++ tok.Close ∷ [])
  closed-held (deepest, []) ahead to s g = cc
  closed-held (deepest, around.Right own left ∷ frames) ahead to s g = cc
  closed-held (deepest, around.Sign ∷ frames) ahead to s g = cc
  closed-held (deepest, around.Parens ∷ frames) ahead to (c, (piece, (t, ((b, (h, e)), f, p, k, d, l)))) g =
      let low = floor-low frames b h in
      let same : ahead ++ tok.Close ∷ [] ≡ b ++ tok.Open ∷ (piece ++ tok.Close ∷ []) =
      ap (λ xs. xs ++ tok.Close ∷ []) (f ∙ ap (λ xs. xs ++ piece) e) ∙ append_assoc (b ++ tok.Open ∷ []) piece (tok.Close ∷ []) ∙ append_assoc b (tok.Open ∷ []) (piece ++ tok.Close ∷ []) in
      same-held (stages.Tree deepest, frames) to (ahead ++ tok.Close ∷ []) g
      (b, (tok.Open ∷ (piece ++ tok.Close ∷ []), (paren t, (atom_level, (h, same, parens-piece piece t p, omega arith, omega arith, omega arith, l)))))
  closed-held (deepest, around.Arguments left ∷ frames) ahead to (c, (piece, (t, ((b, (w, (args, (h, e, a, n, r, m)))), f, p, k, d, l)))) g =
      let low = floor-low frames b h in
      let us = a (term t no_terms) in
      let depth : suc (length frames) + depth_of_all us.0 ≡ max (suc (length frames) + max (depth_of t) 0) left = us.1.1 in
      let same : ahead ++ tok.Close ∷ [] ≡ b ++ tok.Word w ∷ tok.Open ∷ (args ++ (piece ++ tok.Close ∷ [])) =
      ap (λ xs. xs ++ tok.Close ∷ []) (f ∙ ap (λ xs. xs ++ piece) e) ∙ append_assoc (b ++ tok.Word w ∷ tok.Open ∷ args) piece (tok.Close ∷ [])
      ∙ append_assoc b (tok.Word w ∷ tok.Open ∷ args) (piece ++ tok.Close ∷ []) in
      same-held (stages.Tree (max deepest left), frames) to (ahead ++ tok.Close ∷ []) g (
        b,
        (
          tok.Word w ∷ tok.Open ∷ (args ++ (piece ++ tok.Close ∷ [])),
          (
            call (capitals w) us.0,
            (
              atom_level,
              (
                h,
                same,
                call-piece w args piece t us.0 p us.1.0,
                omega arith,
                omega arith,
                omega (arith, depth, d),
                omega (arith, m, l),
              ),
            ),
          ),
        ),
      )

  settled-held : (level deepest : ℕ) (frames : List Frame) (ahead : List Token) → level ≤ percent_level → Held (stages.Tree deepest) frames ahead → Settles level ahead (settled level deepest frames)
  settled-held level deepest frames ahead s (b, (piece, (t, (j, (h, e, p, f, g, d, m))))) =
      subst (λ xs. Settles level xs (settled level deepest frames)) (sym e) (settles level deepest frames b piece t j (omega arith) h p (omega arith) f d m)

  tree-held : (deepest : ℕ) (frames : List Frame) (ahead : List Token) (x : Token) (to : State) → Held (stages.Tree deepest) frames ahead → at_tree deepest frames (kind_of x) ≡ Some to
      → HeldAt to (ahead ++ x ∷ [])
  tree-held deepest frames ahead (tok.Operator o) to h e =
      operator-held o (settled (level_of o) deepest frames) ahead to (settled-held (level_of o) deepest frames ahead (omega (arith, level_of-below o)) h) e
  tree-held deepest frames ahead tok.Percent to h e = percent-held (settled percent_level deepest frames) ahead to (settled-held percent_level deepest frames ahead (omega arith) h) e
  tree-held deepest frames ahead tok.Comma to h e = comma-held (settled 0 deepest frames) ahead to (settled-held 0 deepest frames ahead (omega arith) h) e
  tree-held deepest frames ahead tok.Close to h e = closed-held (settled 0 deepest frames) ahead to (settled-held 0 deepest frames ahead (omega arith) h) e
  tree-held deepest frames ahead x to h e = cc

  -- behind what may be the first end of a range
  first-tree : (single : Bool) (range : Last) (frames : List Frame) (ahead : List Token) (x : Token) (to : State) → Held (stages.First single range) frames ahead
      → (if single then at_tree (suc (length frames)) frames (kind_of x) else None) ≡ Some to → HeldAt to (ahead ++ x ∷ [])
  first-tree single range frames ahead x to h e =
      let whole = if-reached single (at_tree (suc (length frames)) frames (kind_of x)) to e in
      tree-held (suc (length frames)) frames ahead x to (first-leaf single range frames ahead h whole.0) whole.1

  first-held : (single : Bool) (range : Last) (frames : List Frame) (ahead : List Token) (x : Token) (to : State) → Held (stages.First single range) frames ahead
      → advanced (stages.First single range) frames (kind_of x) ≡ Some to → HeldAt to (ahead ++ x ∷ [])
  first-held single range frames ahead tok.Colon to (b, (front, (h, e, r, f, g))) k =
      let same : ahead ++ tok.Colon ∷ [] ≡ b ++ (front ++ tok.Colon ∷ []) = ap (λ xs. xs ++ tok.Colon ∷ []) e ∙ append_assoc b front (tok.Colon ∷ []) in
      same-held (stages.Last range, frames) to (ahead ++ tok.Colon ∷ []) k
      (b, (front ++ tok.Colon ∷ [], (h, same, r, λ y z. subst IsLeaf (sym (append_assoc front (tok.Colon ∷ []) (y ∷ []))) (g y z))))
  first-held single range frames ahead x to h k = first-tree single range frames ahead x to h k

  step-held : (stage : Stage) (frames : List Frame) (ahead : List Token) (x : Token) (to : State) → Held stage frames ahead → advanced stage frames (kind_of x) ≡ Some to → HeldAt to (ahead ++ x ∷ [])
  step-held stages.Operand frames ahead x to h e = operand-held frames ahead x to h.0 e
  step-held stages.Call frames ahead x to h e = call-held frames ahead x to h e
  step-held stages.Sheet frames ahead x to h e = sheet-held frames ahead x to h e
  step-held (stages.First single range) frames ahead x to h e = first-held single range frames ahead x to h e
  step-held (stages.Last range) frames ahead x to h e = last-held range frames ahead x to h e
  step-held (stages.Tree deepest) frames ahead x to h e = tree-held deepest frames ahead x to h e

  next-held : (from : Option State) (tokens : List Token) (to : State) (goal : Type 0) → option_and_then (λ next. reached next tokens) from ≡ Some to
      → ((s : State) → from ≡ Some s → reached s tokens ≡ Some to → goal) → goal
  next-held None tokens to goal e h = cc
  next-held (Some s) tokens to goal e h = h s refl e

  tokens-held : (state : State) (ahead tokens : List Token) (to : State) → HeldAt state ahead → reached state tokens ≡ Some to → HeldAt to (ahead ++ tokens)
  tokens-held state ahead [] to h e =
      let same : state ≡ to = cc in
      subst (λ xs. HeldAt to xs) (sym (append-nil ahead)) (subst (λ s. HeldAt s ahead) same h)
  tokens-held state ahead (x ∷ tokens) to h e =
      next-held (step state x) tokens to (HeldAt to (ahead ++ x ∷ tokens)) e
      (λ s f g. subst (HeldAt to) (append_assoc ahead (x ∷ []) tokens) (tokens-held s (ahead ++ x ∷ []) tokens to (step-held state.0 state.1 ahead x s h f) g))

  -- what was read from the start
  start-held : (tokens : List Token) (to : State) → reached start tokens ≡ Some to → HeldAt to tokens
  start-held tokens to e = tokens-held start [] tokens to (refl, inl (omega arith)) e

-- what was read is a front, and a formula where its state is whole
pub reached-front : (tokens : List Token) (state : State) → reached start tokens ≡ Some state → IsFront tokens
reached-front tokens state e home find = completes home find state.0 state.1 tokens (start-held home find tokens state e)

pub reached-whole : (tokens : List Token) (state : State) → reached start tokens ≡ Some state → is_whole state.0 state.1 ≡ true
    → (home : ℕ) (find : List ℕ → Option ℕ) → (t : Term Corner) × (SpellsTokens home find tokens t × (depth_of t ≤ max_levels))
reached-whole tokens state e w home find = whole home find state.0 state.1 tokens (start-held home find tokens state e) w
