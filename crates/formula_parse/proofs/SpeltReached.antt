-- The tokens that spell a tree of no more levels than it may have are taken one by one, up to a whole formula. Serves
-- `parse_error`.
use Rattle.std.proofs.Common.{◌≡◌, ◌∙◌, sym, ap, refl, arith, subst, ltb, ℕ, suc, ◌+◌, ◌<◌, ◌≤◌, max, Bool, true, false, cond, nat_le, nat_lt, List, [], ◌∷◌, ◌++◌, length, Option, Some, None, append_assoc}
use Rattle.std.specs.Option.{option_and_then, option_map}
use Rattle.std.specs.Result.{is_ok}
use Rattle.std.proofs.lemmas.Bool.{lt-ltb, le-leb, ltb-false}
use Rattle.std.proofs.lemmas.List.{append-nil}
use Rattle.std.proofs.lemmas.Bool.Decides.{nat_tests}
use borrow.Author.Tests.{ltb-true}
use Rattle.cell_addr.specs.declared.axis.Axis.{Axis}
use Rattle.cell_addr.specs.declared.place.TheConstants.{ROWS}
use Rattle.cell_addr.specs.Axis.{same_axis}
use Rattle.cell_addr.proofs.SamePlaces.{same_axis-self}
use Rattle.fix_num.specs.Text.{number_of}
use Rattle.formula_tree.specs.declared.reference.Corner.{Corner}
use Rattle.formula_tree.specs.declared.operator.Op.{Op}
use Rattle.formula_tree.specs.declared.operator.Sign.{Sign}
use Rattle.formula_tree.specs.declared.address.Address.{Address}
use Rattle.formula_tree.specs.declared.address.End.{End}
use Rattle.formula_tree.specs.Token.{Token}
use Rattle.formula_tree.specs.Token as tok
use Rattle.formula_tree.specs.Term.{Term, Terms, depth_of, depth_of_all}
use Rattle.formula_tree.specs.Level.{level_of, percent_level, sign_level, op_of}
use Rattle.formula_tree.specs.Grammar.{Leaf, a_number, a_text, a_truth, a_fault, a_name, a_corner, a_range, a_sheet_corner, a_sheet_range, a_whole, a_sheet_whole, Spells, lower, between, followed, before, leaf, inside, alone, called, SpellsAll, last, more, SpellsTokens, cell_on, area_on, end_of, whole_on}
use Rattle.formula_tree.specs.Reader.{max_levels}
use Rattle.formula_tree.proofs.Complete.{Stops, depth_of-positive, level_of-below, sign_of-op_of}
use Rattle.formula_parse.specs.declared.frames.Frame.{Frame}
use Rattle.formula_parse.specs.declared.frames.Frame.TheVariants as around
use Rattle.formula_parse.specs.declared.progress.Kind.TheVariants as kinds
use Rattle.formula_parse.specs.declared.progress.Last.{Last}
use Rattle.formula_parse.specs.declared.progress.Last.TheVariants as lasts
use Rattle.formula_parse.specs.declared.progress.Stage.TheVariants as stages
use Rattle.formula_parse.specs.Fronts.{IsNoFront, IsNotWhole}
use Rattle.formula_parse.specs.internal.Progress.{State, kind_of, line_of, begun, atom, settled, is_whole, start, step, reached}

-- the tokens lead from a state to a whole formula
abbrev pub accepted : (State → Bool) → Option State → Bool
accepted next None = false
accepted next (Some state) = next state

abbrev pub accepts : State → List Token → Bool
accepts state [] = is_whole state.0 state.1
accepts state (token ∷ tokens) = accepted (λ next. accepts next tokens) (step state token)

-- a tree that reaches so deep was read
abbrev pub read_to : ℕ → List Frame → State
read_to deepest frames = (stages.Tree deepest, frames)

-- the level that an operator needs for the innermost frame to go on
abbrev pub floor : List Frame → ℕ
floor (around.Right own left ∷ frames) = suc own
floor (around.Sign ∷ frames) = sign_level
floor frames = 0

-- no frame ends before such an operator
pub goes-on : (level deepest : ℕ) (frames : List Frame) → level < sign_level → floor frames ≤ level → settled level deepest frames ≡ (deepest, frames)
goes-on level deepest [] h g = refl
goes-on level deepest (around.Right own left ∷ frames) h g =
    let higher : nat_le level own ≡ false = grind (arith, nat_tests) in
    rw higher refl
goes-on level deepest (around.Sign ∷ frames) h g = absurd (omega arith)
goes-on level deepest (around.Parens ∷ frames) h g = refl
goes-on level deepest (around.Arguments left ∷ frames) h g = refl

-- the right operand of an operator ends before what stops its level
right-ends : (own left deepest : ℕ) (frames : List Frame) (zs : List Token) → Stops (suc own) zs
    → accepts (read_to deepest (around.Right own left ∷ frames)) zs ≡ accepts (read_to (max deepest left) frames) zs
right-ends own left deepest frames [] s = let low = le-leb 0 own (omega arith) in rw low refl
right-ends own left deepest frames (tok.Close ∷ zs) s = let low = le-leb 0 own (omega arith) in rw low refl
right-ends own left deepest frames (tok.Comma ∷ zs) s = let low = le-leb 0 own (omega arith) in rw low refl
right-ends own left deepest frames (tok.Operator o ∷ zs) s = let low = le-leb (level_of o) own (omega arith) in rw low refl
right-ends own left deepest frames (tok.Percent ∷ zs) s = let low = le-leb percent_level own (omega arith) in rw low refl
right-ends own left deepest frames (x ∷ zs) s = absurd s

-- a sign's operand ends at once
sign-ends : (deepest : ℕ) (frames : List Frame) (zs : List Token) → accepts (read_to deepest (around.Sign ∷ frames)) zs ≡ accepts (read_to deepest frames) zs
sign-ends deepest frames [] = refl
sign-ends deepest frames (x ∷ zs) = refl

-- what may begin a range is a leaf where no colon follows
first-alone : (range : Last) (frames : List Frame) (k : ℕ) (zs : List Token) → Stops k zs
    → accepts (stages.First true range, frames) zs ≡ accepts (read_to (suc (length frames)) frames) zs
first-alone range frames k [] s = refl
first-alone range frames k (tok.Close ∷ zs) s = refl
first-alone range frames k (tok.Comma ∷ zs) s = refl
first-alone range frames k (tok.Operator o ∷ zs) s = refl
first-alone range frames k (tok.Percent ∷ zs) s = refl
first-alone range frames k (x ∷ zs) s = absurd s

Stops-higher : (k j : ℕ) (zs : List Token) → k ≤ j → Stops k zs → Stops j zs
Stops-higher k j [] h s = tt
Stops-higher k j (tok.Close ∷ zs) h s = tt
Stops-higher k j (tok.Comma ∷ zs) h s = tt
Stops-higher k j (tok.Operator o ∷ zs) h s = omega arith
Stops-higher k j (tok.Percent ∷ zs) h s = omega arith
Stops-higher k j (x ∷ zs) h s = absurd s

-- a leaf has one level
depth-cell_on : (s : Option ℕ) (a : Address) → depth_of (cell_on s a) ≡ 1
depth-cell_on None a = refl
depth-cell_on (Some s) a = refl

depth-area_on : (s : Option ℕ) (a b : Address) → depth_of (area_on s a b) ≡ 1
depth-area_on None a b = refl
depth-area_on (Some s) a b = refl

depth-by : (b : Bool) (t u : Term Corner) → depth_of t ≡ 1 → depth_of u ≡ 1 → depth_of (cond b t u) ≡ 1
depth-by true t u e f = e
depth-by false t u e f = f

depth-whole_on : (s : Option ℕ) (a b : End) → depth_of (whole_on s a b) ≡ 1
depth-whole_on None a b = refl
depth-whole_on (Some s) a b = depth-by (nat_lt b.line a.line) _ _ refl refl

-- an end of a whole range, as it is taken
pub end-kind : (x : Token) (a : End) → end_of ROWS x ≡ Some a → (single : Bool) × (kind_of x ≡ kinds.Atom single (Some a.axis))
end-kind (tok.Number w) a e = (is_ok (number_of w), ap (λ r. kinds.Atom (is_ok (number_of w)) (option_map (λ (b : End). b.axis) r)) e)
end-kind (tok.Name w) a e = (true, ap (λ r. kinds.Atom true (option_map (λ (b : End). b.axis) r)) e)
end-kind (tok.Other w) a e = (false, ap (λ r. kinds.Atom false (option_map (λ (b : End). b.axis) r)) e)
end-kind x a e = cc

-- what is taken as a leaf
module _ (frames : List Frame) (zs : List Token) (room : length frames < max_levels) where
  atom-accepts : (k : ℕ) (line : Option Axis) → Stops k zs
      → accepted (λ next. accepts next zs) (begun (atom (suc (length frames)) true line) frames) ≡ accepts (read_to (suc (length frames)) frames) zs
  atom-accepts k None s = rw (lt-ltb (length frames) max_levels room) refl
  atom-accepts k (Some axis) s = rw (lt-ltb (length frames) max_levels room) (first-alone (lasts.Line axis) frames k zs s)

  whole-accepts : (x y : Token) (a b : End) → end_of ROWS x ≡ Some a → end_of ROWS y ≡ Some b → a.axis ≡ b.axis
      → accepts (stages.Operand, frames) (x ∷ tok.Colon ∷ y ∷ zs) ≡ accepts (read_to (suc (length frames)) frames) zs
  whole-accepts x y a b e f g =
      let h = end-kind x a e in
      let i = end-kind y b f in
      let same : same_axis a.axis b.axis ≡ true = subst (λ axis. same_axis a.axis axis ≡ true) g (same_axis-self a.axis) in
      rw (h.1, lt-ltb (length frames) max_levels room, i.1, same) refl

  sheet_whole-accepts : (w : List ℕ) (x y : Token) (a b : End) → end_of ROWS x ≡ Some a → end_of ROWS y ≡ Some b → a.axis ≡ b.axis
      → accepts (stages.Operand, frames) (tok.Sheet w ∷ x ∷ tok.Colon ∷ y ∷ zs) ≡ accepts (read_to (suc (length frames)) frames) zs
  sheet_whole-accepts w x y a b e f g =
      let h = end-kind x a e in
      let i = end-kind y b f in
      let same : same_axis a.axis b.axis ≡ true = subst (λ axis. same_axis a.axis axis ≡ true) g (same_axis-self a.axis) in
      rw (lt-ltb (length frames) max_levels room, h.1, i.1, same) refl

module _ (home : ℕ) (find : List ℕ → Option ℕ) where
  pub leaf-depth : {xs : List Token} {t : Term Corner} {zs : List Token} → Leaf home find xs t zs → depth_of t ≡ 1
  leaf-depth (a_number e) = refl
  leaf-depth a_text = refl
  leaf-depth a_truth = refl
  leaf-depth a_fault = refl
  leaf-depth a_name = refl
  leaf-depth a_corner = refl
  leaf-depth a_range = refl
  leaf-depth (a_sheet_corner {s = s} {a = a}) = depth-cell_on (find s) a
  leaf-depth (a_sheet_range {s = s} {a = a} {b = b}) = depth-area_on (find s) a b
  leaf-depth (a_whole {a = a} {b = b} e f g) = depth-whole_on (Some home) a b
  leaf-depth (a_sheet_whole {s = s} {a = a} {b = b} e f g) = depth-whole_on (find s) a b

  leaf-accepts : {xs : List Token} {t : Term Corner} {zs : List Token} → Leaf home find xs t zs → (frames : List Frame) → length frames < max_levels → (k : ℕ) → Stops k zs
      → accepts (stages.Operand, frames) xs ≡ accepts (read_to (suc (length frames)) frames) zs
  leaf-accepts (a_number {w = w} {zs = zs} e) frames h k s =
      ap (λ r. accepted (λ next. accepts next zs) (begun (atom (suc (length frames)) (is_ok r) (line_of w)) frames)) e ∙ atom-accepts frames zs h k (line_of w) s
  leaf-accepts (a_text {zs = zs}) frames h k s = atom-accepts frames zs h k None s
  leaf-accepts (a_truth {zs = zs}) frames h k s = atom-accepts frames zs h k None s
  leaf-accepts (a_fault {zs = zs}) frames h k s = atom-accepts frames zs h k None s
  leaf-accepts (a_name {w = w} {zs = zs}) frames h k s = atom-accepts frames zs h k (line_of w) s
  leaf-accepts (a_corner {zs = zs}) frames h k s = rw (lt-ltb (length frames) max_levels h) (first-alone lasts.Corner frames k zs s)
  leaf-accepts a_range frames h k s = rw (lt-ltb (length frames) max_levels h) refl
  leaf-accepts (a_sheet_corner {zs = zs}) frames h k s = rw (lt-ltb (length frames) max_levels h) (first-alone lasts.Corner frames k zs s)
  leaf-accepts a_sheet_range frames h k s = rw (lt-ltb (length frames) max_levels h) refl
  leaf-accepts (a_whole {x = x} {y = y} {a = a} {b = b} {zs = zs} e f g) frames h k s = whole-accepts frames zs h x y a b e f g
  leaf-accepts (a_sheet_whole {s = w} {x = x} {y = y} {a = a} {b = b} {zs = zs} e f g) frames h k s = sheet_whole-accepts frames zs h w x y a b e f g

  -- an operator behind its left operand, with a level left
  operator-accepts : (o : Op) (deepest : ℕ) (frames : List Frame) (ys : List Token) → floor frames ≤ level_of o → length frames < deepest → deepest < max_levels
      → accepts (read_to deepest frames) (tok.Operator o ∷ ys) ≡ accepts (stages.Operand, around.Right (level_of o) (suc deepest) ∷ frames) ys
  operator-accepts o deepest frames ys h p d =
      rw (goes-on (level_of o) deepest frames (omega (arith, level_of-below o)) h, lt-ltb deepest max_levels d, lt-ltb (length frames) max_levels (omega arith)) refl

  percent-accepts : (deepest : ℕ) (frames : List Frame) (zs : List Token) → floor frames ≤ percent_level → deepest < max_levels
      → accepts (read_to deepest frames) (tok.Percent ∷ zs) ≡ accepts (read_to (suc deepest) frames) zs
  percent-accepts deepest frames zs h d = rw (goes-on percent_level deepest frames (omega arith) h, lt-ltb deepest max_levels d) refl

  sign-accepts : (s : Sign) (frames : List Frame) (xs : List Token) → suc (length frames) < max_levels
      → accepts (stages.Operand, frames) (tok.Operator (op_of s) ∷ xs) ≡ accepts (stages.Operand, around.Sign ∷ frames) xs
  sign-accepts s frames xs h = rw (sign_of-op_of s, lt-ltb (suc (length frames)) max_levels h, lt-ltb (length frames) max_levels (omega arith)) refl

  open-accepts : (frames : List Frame) (xs : List Token) → suc (length frames) < max_levels
      → accepts (stages.Operand, frames) (tok.Open ∷ xs) ≡ accepts (stages.Operand, around.Parens ∷ frames) xs
  open-accepts frames xs h = rw (lt-ltb (suc (length frames)) max_levels h, lt-ltb (length frames) max_levels (omega arith)) refl

  word-accepts : (w : List ℕ) (frames : List Frame) (xs : List Token) → length frames < max_levels
      → accepts (stages.Operand, frames) (tok.Word w ∷ tok.Open ∷ xs) ≡ accepts (stages.Operand, around.Arguments 0 ∷ frames) xs
  word-accepts w frames xs h = rw (lt-ltb (length frames) max_levels h, lt-ltb (length frames) max_levels h) refl

  comma-accepts : (deepest left : ℕ) (frames : List Frame) (ys : List Token) → length frames < max_levels
      → accepts (read_to deepest (around.Arguments left ∷ frames)) (tok.Comma ∷ ys) ≡ accepts (stages.Operand, around.Arguments (max deepest left) ∷ frames) ys
  comma-accepts deepest left frames ys h = rw (lt-ltb (length frames) max_levels h) refl

  -- each spelling is taken in each frame where it may stand
  mutual
    complete : {k : ℕ} {xs : List Token} {t : Term Corner} {zs : List Token} → Spells home find k xs t zs
        → (frames : List Frame) → floor frames ≤ k → length frames + depth_of t ≤ max_levels → Stops (suc k) zs
        → accepts (stages.Operand, frames) xs ≡ accepts (read_to (length frames + depth_of t) frames) zs
    complete (lower {k = k} {zs = zs} d) frames h g s = complete d frames (omega arith) g (Stops-higher (suc k) (suc (suc k)) zs (omega arith) s)
    complete (between o {l = l} {ys = ys} {r = r} {zs = zs} d b) frames h g s =
        let inner = around.Right (level_of o) (suc (length frames + depth_of l)) ∷ frames in
        complete d frames h (omega arith) (omega arith)
        ∙ operator-accepts o (length frames + depth_of l) frames ys h (omega (arith, depth_of-positive l)) (omega arith)
        ∙ complete b inner (omega arith) (omega arith) (Stops-higher (suc (level_of o)) (suc (suc (level_of o))) zs (omega arith) s)
        ∙ right-ends (level_of o) (suc (length frames + depth_of l)) (suc (length frames) + depth_of r) frames zs s
        ∙ ap (λ n. accepts (read_to n frames) zs) (omega arith)
    complete (followed {t = t} {zs = zs} d) frames h g s =
        complete d frames h (omega arith) (omega arith)
        ∙ percent-accepts (length frames + depth_of t) frames zs h (omega arith)
        ∙ ap (λ n. accepts (read_to n frames) zs) (omega arith)
    complete (before v {xs = xs} {t = t} {zs = zs} d) frames h g s =
        sign-accepts v frames xs (omega (arith, depth_of-positive t))
        ∙ complete d (around.Sign ∷ frames) (omega arith) (omega arith) s
        ∙ sign-ends (suc (length frames) + depth_of t) frames zs
        ∙ ap (λ n. accepts (read_to n frames) zs) (omega arith)
    complete (leaf {t = t} {zs = zs} l) frames h g s =
        let one = leaf-depth l in
        leaf-accepts l frames (omega (arith, one)) 8 s
        ∙ ap (λ n. accepts (read_to n frames) zs) (omega (arith, one))
    complete (inside {xs = xs} {t = t} {zs = zs} d) frames h g s =
        open-accepts frames xs (omega (arith, depth_of-positive t))
        ∙ complete d (around.Parens ∷ frames) (omega arith) (omega arith) tt
        ∙ ap (λ n. accepts (read_to n frames) zs) (omega arith)
    complete (alone {w = w} {zs = zs}) frames h g s =
        word-accepts w frames (tok.Close ∷ zs) (omega arith)
        ∙ ap (λ n. accepts (read_to n frames) zs) (omega arith)
    complete (called {w = w} {xs = xs} {ts = ts} {zs = zs} ds) frames h g s =
        word-accepts w frames xs (omega arith)
        ∙ complete_all ds frames 0 (omega arith)
        ∙ ap (λ n. accepts (read_to n frames) zs) (omega arith)

    complete_all : {xs : List Token} {ts : Terms Corner} {zs : List Token} → SpellsAll home find xs ts zs
        → (frames : List Frame) (left : ℕ) → suc (length frames) + depth_of_all ts ≤ max_levels
        → accepts (stages.Operand, around.Arguments left ∷ frames) xs ≡ accepts (read_to (max (suc (length frames) + depth_of_all ts) left) frames) zs
    complete_all (last {xs = xs} {t = t} {zs = zs} d) frames left g =
        complete d (around.Arguments left ∷ frames) (omega arith) (omega arith) tt
        ∙ ap (λ n. accepts (read_to n frames) zs) (omega arith)
    complete_all (more {xs = xs} {t = t} {ys = ys} {ts = ts} {zs = zs} d ds) frames left g =
        complete d (around.Arguments left ∷ frames) (omega arith) (omega arith) tt
        ∙ comma-accepts (suc (length frames) + depth_of t) left frames ys (omega arith)
        ∙ complete_all ds frames (max (suc (length frames) + depth_of t) left) (omega arith)
        ∙ ap (λ n. accepts (read_to n frames) zs) (omega arith)

  -- a formula's tokens are taken to its end
  pub whole-accepts-all : (tokens : List Token) (t : Term Corner) → SpellsTokens home find tokens t → depth_of t ≤ max_levels → accepts start tokens ≡ true
  whole-accepts-all tokens t d h = complete d [] (omega arith) (omega arith) tt

-- what is taken behind some tokens is taken from what they reach
next-accepts : (next : State → Option State) (from : Option State) (to : State) (goal : State → Bool) (b : Bool) → option_and_then next from ≡ Some to
    → ((s : State) → from ≡ Some s → next s ≡ Some to → goal s ≡ b) → accepted goal from ≡ b
next-accepts next None to goal b e h = cc
next-accepts next (Some s) to goal b e h = h s refl e

pub reached-accepts : (state to : State) (tokens others : List Token) → reached state tokens ≡ Some to → accepts state (tokens ++ others) ≡ accepts to others
reached-accepts state to [] others e = let same : state ≡ to = cc in ap (λ s. accepts s others) same
reached-accepts state to (x ∷ tokens) others e =
    next-accepts (λ s. reached s tokens) (step state x) to (λ s. accepts s (tokens ++ others)) (accepts to others) e (λ s _ f. reached-accepts s to tokens others f)

-- no formula goes on with a token that isn't taken
deep-by : (home : ℕ) (find : List ℕ → Option ℕ) (tokens : List Token) (t : Term Corner) → accepts start tokens ≡ false → SpellsTokens home find tokens t → max_levels < depth_of t
deep-by home find tokens t none spelt =
    elim (ltb max_levels (depth_of t)) as (λ b. ltb max_levels (depth_of t) ≡ b → max_levels < depth_of t) [
      | true ↦ λ e. ltb-true max_levels (depth_of t) e
      | false ↦ λ e. let all = whole-accepts-all home find tokens t spelt (ltb-false max_levels (depth_of t) e) in absurd (cc (sym none ∙ all))
    ] refl

pub not-taken : (state : State) (ahead : List Token) (x : Token) → reached start ahead ≡ Some state → step state x ≡ None → IsNoFront (ahead ++ x ∷ [])
not-taken state ahead x e f home find others t spelt =
    let none : accepts state (x ∷ others) ≡ false = ap (accepted (λ next. accepts next others)) f in
    let all : accepts start ((ahead ++ x ∷ []) ++ others) ≡ false =
    ap (accepts start) (append_assoc ahead (x ∷ []) others) ∙ reached-accepts start state ahead (x ∷ others) e ∙ none in
    deep-by home find ((ahead ++ x ∷ []) ++ others) t all spelt

-- and what isn't whole is no formula
pub not-whole : (state : State) (ahead : List Token) → reached start ahead ≡ Some state → is_whole state.0 state.1 ≡ false → IsNotWhole ahead
not-whole state ahead e f home find t spelt =
    let all : accepts start (ahead ++ []) ≡ false = reached-accepts start state ahead [] e ∙ f in
    let same : accepts start ahead ≡ false = rw append-nil at all in
    deep-by home find ahead t same spelt
