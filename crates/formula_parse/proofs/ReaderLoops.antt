-- One turn of the loops over the arguments of a call and over operators. Serves the reader.
use Rattle.std.proofs.Common.{◌≡◌, ◌∙◌, sym, ap, refl, arith, ℕ, zero, suc, ◌+◌, ◌-◌, ◌<◌, ◌≤◌, Bool, true, false, nat_lt, if◌then◌else◌, List, [], ◌∷◌, ◌++◌, map, length, Option, Some, None}
use Rattle.std.proofs.lemmas.Bool.Decides.{nat_tests}
use Rattle.cell_addr.specs.Text.{capitals}
use Rattle.formula_tree.specs.declared.reference.Corner.{Corner}
use Rattle.formula_tree.specs.Token.{Token, same_mark}
use Rattle.formula_tree.specs.Token as tok
use Rattle.formula_tree.specs.Term.{Term, binary, call, terms_of}
use Rattle.formula_tree.specs.declared.operator.Op.{Op}
use Rattle.formula_tree.specs.Level.{level_of}
use Rattle.formula_tree.specs.Reader.{Read, and_then, after, argument_then, climb, arguments, read}
use Rattle.formula_tree.specs.Term.{each_corner_all}
use Rattle.formula_tree.specs.Arguments.{trees}
use Rattle.formula_tree.specs.Reference.{base_of, corner_at}
use Rattle.formula_tree.specs.Relative.{relative}
use Rattle.formula_tree.specs.StandsFor.{at_home}
use Rattle.formula_tree.specs.declared.node.Node.TheVariants as nodes
use Rattle.formula_tree.specs.declared.node.TreeList.{TreeList}
use Rattle.formula_tree.specs.declared.reference.Home.{Home}
use Rattle.formula_tree.proofs.ArgumentLists.{each_corner_all-terms_of}
use Rattle.formula_tree.proofs.Complete.{shorter}
use Rattle.formula_tree.proofs.ReaderSteps.{climb_none, climb_more, arguments_more}
use Rattle.formula_tree.proofs.RelativeNodes.{relative-Call, relative_list-trees}
use Rattle.formula_tree.proofs.Sound.{spelt-read}
use Rattle.formula_parse.specs.internal.Stream.{symbol_front}
use Rattle.formula_parse.specs.internal.Tree.{tree_at}
use Rattle.formula_parse.proofs.ReaderRules.{climb_by_symbol}

pub climb-ended : (R : ℕ → List Token → Read) (n i k : ℕ) (left : Term Corner) (tokens : List Token) (all : Read)
    → n ≤ i → climb R (n - i) k left tokens ≡ all → None ≡ all
climb-ended R n i k left tokens all h e =
    let none : n - i ≡ 0 = omega arith in
    sym (climb_none R k left tokens) ∙ (rw none at e)

-- an operator and its right operand
pub climb-operator : (R : ℕ → List Token → Read) (n i k : ℕ) (left right : Term Corner) (o : Op) (xs ys zs : List Token) (all : Read)
    → i < n → Some (tok.Operator o, ys) ≡ symbol_front xs → k ≤ level_of o → Some (right, zs) ≡ R (suc (level_of o)) ys → climb R (n - i) k left xs ≡ all
    → climb R (n - (i + 1)) k (binary o left right) zs ≡ all
climb-operator R n i k left right o xs ys zs all h symbol low operand e =
    let less : n - (i + 1) ≡ n - i - 1 = omega arith in
    let some : 0 < n - i = omega arith in
    let high : nat_lt (level_of o) k ≡ false = grind (arith, nat_tests) in
    rw less (sym (climb_more R (n - i) k left xs some ∙ climb_by_symbol R (climb R (n - i - 1) k) k left xs ∙ rw (sym symbol, high, sym operand) refl) ∙ e)

-- a reader of arguments takes a token or more
abbrev pub Shortens : (ℕ → List Token → Read) → Type 0
Shortens R = (xs : List Token) (t : Term Corner) (zs : List Token) → R 0 xs ≡ Some (t, zs) → length zs < length xs

pub read-shortens : (home : ℕ) (find : List ℕ → Option ℕ) (levels : ℕ) → Shortens (read home find levels)
read-shortens home find levels xs t zs e = shorter home find (spelt-read home find levels 0 xs t zs (omega arith) e)

after-by : (b : Bool) (zs rest : List Token) → (if b then Some zs else None) ≡ Some rest → zs ≡ rest
after-by true zs rest e = cc
after-by false zs rest e = cc

pub after-shorter : (mark : Token) (zs rest : List Token) → after mark zs ≡ Some rest → length rest < length zs
after-shorter mark [] rest e = cc
after-shorter mark (token ∷ zs) rest e = let same = after-by (same_mark mark token) zs rest e in rw (sym same) (omega arith)

-- as many turns as there are tokens are enough
then-agree : (f g : List (Term Corner) → List Token → Read) (w : List ℕ) (n : ℕ) (done : List (Term Corner)) (zs : List Token) (comma close : Option (List Token))
    → (after tok.Comma zs ≡ comma) → length zs ≤ n → ((ds : List (Term Corner)) (ys : List Token) → length ys < n → f ds ys ≡ g ds ys)
    → argument_then f w done comma close ≡ argument_then g w done comma close
then-agree f g w n done zs (Some rest) close e h same = same done rest (let less = after-shorter tok.Comma zs rest e in omega (arith, less))
then-agree f g w n done zs None (Some rest) e h same = refl
then-agree f g w n done zs None None e h same = refl

step-agree : (R : ℕ → List Token → Read) → Shortens R → (f g : List (Term Corner) → List Token → Read) (w : List ℕ) (n : ℕ) (done : List (Term Corner)) (xs : List Token) (r : Read)
    → R 0 xs ≡ r → length xs ≤ suc n → ((ds : List (Term Corner)) (ys : List Token) → length ys < n → f ds ys ≡ g ds ys)
    → and_then r (λ t rest. argument_then f w (done ++ t ∷ []) (after tok.Comma rest) (after tok.Close rest)) ≡ and_then r (λ t rest. argument_then g w (done ++ t ∷ []) (after tok.Comma rest) (after tok.Close rest))
step-agree R s f g w n done xs None e h same = refl
step-agree R s f g w n done xs (Some (t, zs)) e h same =
    let less = s xs t zs e in
    then-agree f g w n (done ++ t ∷ []) zs (after tok.Comma zs) (after tok.Close zs) refl (omega (arith, less)) same

none-of : (R : ℕ → List Token → Read) → Shortens R → (w : List ℕ) (next : List (Term Corner) → List Token → Read) (done : List (Term Corner)) (r : Read) → R 0 [] ≡ r
    → None ≡ and_then r (λ t rest. argument_then next w (done ++ t ∷ []) (after tok.Comma rest) (after tok.Close rest))
none-of R s w next done None e = refl
none-of R s w next done (Some (t, zs)) e = let less = s [] t zs e in absurd (omega (arith, less))

pub arguments-enough : (R : ℕ → List Token → Read) → Shortens R → (w : List ℕ) (n m : ℕ) (done : List (Term Corner)) (xs : List Token)
    → length xs ≤ n → length xs ≤ m → arguments R w n done xs ≡ arguments R w m done xs
unfolding arguments
arguments-enough R s w zero zero done xs h g = refl
arguments-enough R s w zero (suc m) done [] h g = none-of R s w (arguments R w m) done (R 0 []) refl
arguments-enough R s w zero (suc m) done (x ∷ xs) h g = absurd (omega arith)
arguments-enough R s w (suc n) zero done [] h g = sym (none-of R s w (arguments R w n) done (R 0 []) refl)
arguments-enough R s w (suc n) zero done (x ∷ xs) h g = absurd (omega arith)
arguments-enough R s w (suc n) (suc m) done xs h g =
    step-agree R s (arguments R w n) (arguments R w m) w (length xs - 1) done xs (R 0 xs) refl (omega arith)
    (λ ds ys k. arguments-enough R s w n m ds ys (omega arith) (omega arith))

-- an argument followed by a comma
arguments-more : (R : ℕ → List Token → Read) (w : List ℕ) (done : List (Term Corner)) (t : Term Corner) (xs zs : List Token) → Shortens R
    → Some (t, zs) ≡ R 0 xs
    → arguments R w (length xs) done xs ≡ argument_then (arguments R w (length xs - 1)) w (done ++ t ∷ []) (after tok.Comma zs) (after tok.Close zs)
arguments-more R w done t xs zs s tree =
    let less = s xs t zs (sym tree) in
    arguments_more R w (length xs) done xs (omega (arith, less)) ∙ rw (sym tree) refl

pub arguments-comma : (R : ℕ → List Token → Read) (w : List ℕ) (done : List (Term Corner)) (t : Term Corner) (xs zs rest : List Token) (all : Read) → Shortens R
    → Some (t, zs) ≡ R 0 xs → Some rest ≡ after tok.Comma zs → arguments R w (length xs) done xs ≡ all
    → arguments R w (length rest) (done ++ t ∷ []) rest ≡ all
arguments-comma R w done t xs zs rest all s tree comma e =
    let less = s xs t zs (sym tree) in
    let more = after-shorter tok.Comma zs rest (sym comma) in
    arguments-enough R s w (length rest) (length xs - 1) (done ++ t ∷ []) rest (omega arith) (omega (arith, less, more))
    ∙ sym (arguments-more R w done t xs zs s tree ∙ rw (sym comma) refl) ∙ e

pub comma-shorter : (R : ℕ → List Token → Read) (t : Term Corner) (xs zs rest : List Token) → Shortens R → Some (t, zs) ≡ R 0 xs → Some rest ≡ after tok.Comma zs → length rest < length xs
comma-shorter R t xs zs rest s tree comma =
    let less = s xs t zs (sym tree) in
    let more = after-shorter tok.Comma zs rest (sym comma) in
    omega (arith, less, more)

-- an argument followed by the closing parenthesis
pub arguments-close : (R : ℕ → List Token → Read) (w : List ℕ) (done : List (Term Corner)) (t : Term Corner) (xs zs rest : List Token) (all : Read) → Shortens R
    → Some (t, zs) ≡ R 0 xs → None ≡ after tok.Comma zs → Some rest ≡ after tok.Close zs → arguments R w (length xs) done xs ≡ all
    → Some (call (capitals w) (terms_of (done ++ t ∷ [])), rest) ≡ all
arguments-close R w done t xs zs rest all s tree comma close e =
    sym (arguments-more R w done t xs zs s tree ∙ rw (sym comma, sym close) refl) ∙ e

-- the term of a call with these arguments
pub call-at : (home : Home) (word w : List ℕ) (list : TreeList) (done : List (Term Corner)) → word ≡ capitals w → map (λ t. tree_at home t.value) (trees list) ≡ done
    → tree_at home (nodes.Call word list) ≡ call (capitals w) (terms_of done)
call-at home word w list done capital terms =
    let f = corner_at (base_of home) in
    ap (at_home home) (relative-Call word list)
    ∙ ap (λ ts. call word (each_corner_all f ts)) (relative_list-trees list)
    ∙ ap (λ ts. call word ts) (each_corner_all-terms_of f (λ t. relative t.value) (trees list) ∙ ap terms_of terms)
    ∙ ap (λ v. call v (terms_of done)) capital
