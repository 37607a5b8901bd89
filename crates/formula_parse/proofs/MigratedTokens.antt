-- A text and the same text migrated have the same tokens, by the rows that a sheet had and by those that it has, but for
-- gap words, which get one `_` more. Serves the law of migration.
use Rattle.std.proofs.Common.{◌≡◌, sym, ◌∙◌, ap, subst, refl, arith, ℕ, zero, suc, ◌+◌, ◌*◌, ◌<◌, ◌≤◌, Bool, true, false, not, ◌&&◌, ◌||◌, ◌==◌, cond, if◌then◌else◌, ◌⊎◌, inl, inr, List, [], ◌∷◌, ◌++◌, length, take, drop, Option, Some, None, option_map, append_assoc, length-append}
use Rattle.std.specs.Option.{option_and_then}
use Rattle.std.specs.List.{find, list_all, prefix_len, take_while}
use Rattle.std.proofs.lemmas.Bool.{and_parts, and_from, and_left, and_right, both_ways, cond-true, cond-false, eqb-true, false_from_ne_true}
use Rattle.std.proofs.lemmas.Bool.Decides.{nat_tests}
use Rattle.std.proofs.lemmas.List.{append-nil, take-append-drop}
use Rattle.std.proofs.lemmas.List.Folds.{list_all-append}
use Rattle.std.proofs.lemmas.List.Sums.{prefix_len-le-length}
use Rattle.std.proofs.Math.Seq.{drop-append_seam, take-append_seam}
use Rattle.cell_addr.specs.Parts.{with_byte}
use Rattle.std.specs.Char.{is_ascii, to_ascii_lowercase}
use Rattle.std.proofs.lemmas.Slice.Eq.{bytes_eq-Decides}
use Rattle.digits.specs.Digits.{is_digit}
use Rattle.cell_addr.specs.declared.place.TheConstants.{ROWS}
use Rattle.cell_addr.specs.Quoted.{doubled, quoted}
use Rattle.cell_addr.specs.SheetName.{is_bare_name}
use Rattle.formula_tree.specs.declared.address.Address.{Address}
use Rattle.cell_addr.specs.Text.{folded}
use Rattle.cell_value.specs.declared.fault.FaultKind.{FaultKind}
use Rattle.cell_value.specs.declared.fault.FaultKind.TheVariants as kinds
use Rattle.cell_value.specs.Fault.{fault_text, faults, spells}
use Rattle.formula_tree.specs.declared.operator.Op.{Op}
use Rattle.formula_tree.specs.declared.operator.Op.TheVariants as op
use Rattle.formula_tree.specs.Token.{Token}
use Rattle.formula_tree.specs.Token as tok
use Rattle.formula_tree.specs.Run.{after_while, begins_run, begins_with, begins_with_any, corner_by, ends_sheet_name, is_blank, is_run_byte, is_sheet_run, is_word, lone_token, run_token_by, truth_of, word_token}
use Rattle.formula_tree.specs.Tokens.{Front, begins_number, begins_with_fault, byte_token, decimals_length, number_length, pair_op, fault_token, sheet_token, sign_token, text_token, token_by, tokens_by}
use Rattle.formula_tree.proofs.LexedNumbers.{decimals_length-none, decimals_length-some, number_length-digits, quoted-doubled}
use Rattle.formula_tree.proofs.Fronts.{after_while-append, take_while-append}
use Rattle.formula_tree.proofs.TokenSteps.{Short, fault_text-some, number_length-by, run-goes_on, token_by-shorter, tokens_by-blank, tokens_by-nil, tokens_by-other, tokens_by-token}
use Rattle.formula_parse.proofs.AsciiFronts.{ascii-fault}
use Rattle.formula_parse.specs.Migrated.{after_piece, begins_gap, is_gap_word, migrated_name, migrated_pieces, piece_before, piece_migrated, stays_alone}
use Rattle.formula_parse.specs.declared.migration.TheConstants.{OLD_ROWS}
use Rattle.formula_parse.proofs.Pieces.{migrated-none, migrated-step, piece-written, some-front}
use Rattle.formula_parse.proofs.Whiles.{all-front, behind-more, behind-none, front-more, stop-behind}
use Rattle.formula_parse.proofs.GapWords.{gap_corner, gap_truth, marked_corner, marked_truth, marked_word, no_run-no_gap, plain_corner}

-- what a token of the old text becomes
abbrev pub Becomes : Token → Token → Type 0
Becomes (tok.Name w) t = t ≡ tok.Name (migrated_name w)
Becomes (tok.Other w) t = (t ≡ tok.Other w) ⊎ (t ≡ tok.Other (migrated_name w))
Becomes x t = t ≡ x

abbrev pub Become : List Token → List Token → Type 0
Become [] [] = Unit {0}
Become (x ∷ xs) (y ∷ ys) = Becomes x y × Become xs ys
Become _ _ = ⊥

abbrev pub first_byte : List ℕ → Option ℕ
first_byte [] = None
first_byte (c ∷ cs) = Some c

first-any : (p : ℕ → Bool) (xs ys : List ℕ) → first_byte xs ≡ first_byte ys → begins_with_any p xs ≡ begins_with_any p ys
first-any p [] [] e = refl
first-any p [] (y ∷ ys) e = cc
first-any p (x ∷ xs) [] e = cc
first-any p (x ∷ xs) (y ∷ ys) e = let same : x ≡ y = cc in ap p same

first-with : (b : ℕ) (xs ys : List ℕ) → first_byte xs ≡ first_byte ys → begins_with b xs ≡ begins_with b ys
first-with b [] [] e = refl
first-with b [] (y ∷ ys) e = cc
first-with b (x ∷ xs) [] e = cc
first-with b (x ∷ xs) (y ∷ ys) e = let same : x ≡ y = cc in ap (λ c. c == b) same

-- two texts that stand alike behind a token, and not as what makes it a sheet's name
pub record Alike (xs ys : List ℕ) : Type 0 where
  pub first : first_byte xs ≡ first_byte ys
  pub no_sheet : begins_with 33 xs ≡ false
  pub call : begins_with 40 (after_while is_blank xs) ≡ begins_with 40 (after_while is_blank ys)

-- what the text of a token and what follows it becomes, where ds is what the text behind becomes
pub record Goes (c : ℕ) (cs : List ℕ) (token : Token) (ds : List ℕ) : Type 0 where
  pub tail : List ℕ
  pub becomes : Token
  pub made : migrated_pieces (c ∷ cs) ≡ Some (c ∷ tail)
  pub lexes : token_by ROWS c tail ≡ Some (becomes, ds)
  pub same : Becomes token becomes

made : (c : ℕ) (cs rest ds piece : List ℕ) → after_piece c cs ≡ Some rest → piece_before (c ∷ cs) rest ≡ piece → migrated_pieces rest ≡ Some ds → migrated_pieces (c ∷ cs) ≡ Some (piece ++ ds)
made c cs rest ds piece e before more =
    migrated-step c cs ∙ ap (λ r. piece_migrated (c ∷ cs) r migrated_pieces) e
    ∙ ap (option_map (λ more. piece_before (c ∷ cs) rest ++ more)) more ∙ ap (λ x. Some (x ++ ds)) before

before-plain : (c : ℕ) (cs rest w : List ℕ) → c ∷ cs ≡ w ++ rest → begins_gap (c ∷ cs) ≡ false → piece_before (c ∷ cs) rest ≡ w
before-plain c cs rest w is never =
    ap (λ x. x ++ (if begins_gap (c ∷ cs) then 95 ∷ [] else [])) (piece-written c cs rest w is) ∙ ap (λ b. w ++ (if b then 95 ∷ [] else [])) never ∙ append-nil w

before-gap : (c : ℕ) (cs rest w : List ℕ) → c ∷ cs ≡ w ++ rest → begins_gap (c ∷ cs) ≡ true → piece_before (c ∷ cs) rest ≡ w ++ 95 ∷ []
before-gap c cs rest w is gap =
    ap (λ x. x ++ (if begins_gap (c ∷ cs) then 95 ∷ [] else [])) (piece-written c cs rest w is) ∙ ap (λ b. w ++ (if b then 95 ∷ [] else [])) gap

-- a text begins with this run, behind which that stands
record Runs (c : ℕ) (cs u r : List ℕ) : Type 0 where
  start : begins_run c ≡ true
  all : list_all is_run_byte (c ∷ u) ≡ true
  stop : begins_with_any is_run_byte r ≡ false
  piece : after_piece c cs ≡ Some r
  is : c ∷ cs ≡ (c ∷ u) ++ r
  gap : begins_gap (c ∷ cs) ≡ (is_gap_word (c ∷ u) && stays_alone r)

no-blank-no-mark : (c : ℕ) → is_blank c ≡ false → (c == 33) ≡ false → (is_blank c || c == 33) ≡ false
no-blank-no-mark c blank mark = rw (blank, mark) refl

runs : (c : ℕ) (cs : List ℕ) → is_blank c ≡ false → (c == 33) ≡ false → begins_run c ≡ true → Runs c cs (take_while is_run_byte cs) (after_while is_run_byte cs)
runs c cs blank mark start =
    let more = run-goes_on c start in
    record {
      start = start;
      all = and_from (is_run_byte c) (list_all is_run_byte (take_while is_run_byte cs)) more (all-front is_run_byte cs);
      stop = stop-behind is_run_byte cs;
      piece = cond-false (is_blank c || c == 33) _ _ (no-blank-no-mark c blank mark) ∙ cond-true (begins_run c) _ _ start ∙ ap (λ x. Some x) (behind-more is_run_byte c cs more);
      is = ap (λ x. c ∷ x) (sym (take-append-drop (prefix_len is_run_byte cs) cs));
      gap = ap (λ x. is_gap_word x && stays_alone (after_while is_run_byte (c ∷ cs))) (front-more is_run_byte c cs more)
          ∙ ap (λ y. is_gap_word (c ∷ take_while is_run_byte cs) && stays_alone y) (behind-more is_run_byte c cs more);
    }

run-front : (rows c : ℕ) (u cs : List ℕ) → begins_run c ≡ true → list_all is_run_byte (c ∷ u) ≡ true → begins_with_any is_run_byte cs ≡ false
    → token_by rows c (u ++ cs) ≡ Some (run_token_by rows (c ∷ u) cs)
run-front rows c u cs start all stop =
    cond-true (begins_run c) _ _ start
    ∙ ap (λ x. Some (run_token_by rows x (after_while is_run_byte ((c ∷ u) ++ cs)))) (take_while-append is_run_byte (c ∷ u) cs all stop)
    ∙ ap (λ y. Some (run_token_by rows (c ∷ u) y)) (after_while-append is_run_byte (c ∷ u) cs all stop)

or-first : (a b : Bool) → a ≡ true → (a || b) ≡ true
or-first true b h = refl
or-first false b h = cc

or-second : (a b : Bool) → b ≡ true → (a || b) ≡ true
or-second true b h = refl
or-second false b h = h

no-gap : (c : ℕ) (cs u r : List ℕ) → Runs c cs u r → (begins_with 33 r || begins_with 40 (after_while is_blank r)) ≡ true → begins_gap (c ∷ cs) ≡ false
no-gap c cs u r run h = run.gap ∙ and_right (is_gap_word (c ∷ u)) (stays_alone r) (ap not h)

-- before `!`: a sheet's name
behind-byte : (b : ℕ) (r : List ℕ) → begins_with b r ≡ true → r ≡ b ∷ drop 1 r
behind-byte b [] h = cc
behind-byte b (d ∷ r) h = ap (λ x. x ∷ r) (eqb-true d b h)

same_byte : (q : ℕ) → (q == q) ≡ true
same_byte q = grind (arith, nat_tests)

mark-made : (rest ds : List ℕ) → migrated_pieces rest ≡ Some ds → migrated_pieces (33 ∷ rest) ≡ Some (33 ∷ ds)
mark-made rest ds more = made 33 rest rest ds (33 ∷ []) refl (before-plain 33 rest rest (33 ∷ []) refl (no_run-no_gap 33 rest refl)) more

run-sheet : (c : ℕ) (cs u r ds : List ℕ) → Runs c cs u r → is_sheet_run (c ∷ u) r ≡ true → migrated_pieces (drop 1 r) ≡ Some ds → first_byte (drop 1 r) ≡ first_byte ds
    → Goes c cs (tok.Sheet (c ∷ u)) ds
run-sheet c cs u r ds run sheet more first =
    let parts = and_parts (is_bare_name (c ∷ u)) (ends_sheet_name r) sheet in
    let mark = and_parts (begins_with 33 r) (not (begins_with_any is_blank (drop 1 r))) parts.1 in
    let behind : migrated_pieces r ≡ Some (33 ∷ ds) = ap migrated_pieces (behind-byte 33 r mark.0) ∙ mark-made (drop 1 r) ds more in
    let before = before-plain c cs r (c ∷ u) run.is (no-gap c cs u r run (or-first _ _ mark.0)) in
    let ended : ends_sheet_name (33 ∷ ds) ≡ true = ap not (sym (first-any is_blank (drop 1 r) ds first)) ∙ mark.1 in
    record {
      tail = u ++ (33 ∷ ds);
      becomes = tok.Sheet (c ∷ u);
      made = made c cs r (33 ∷ ds) (c ∷ u) run.piece before behind;
      lexes = run-front ROWS c u (33 ∷ ds) run.start run.all refl
          ∙ ap (λ p. Some p) (cond-true (is_sheet_run (c ∷ u) (33 ∷ ds)) _ _ (and_from (is_bare_name (c ∷ u)) (ends_sheet_name (33 ∷ ds)) parts.0 ended));
      same = refl;
    }

no-sheet : (w cs : List ℕ) → begins_with 33 cs ≡ false → is_sheet_run w cs ≡ false
no-sheet w cs h = and_right (is_bare_name w) (ends_sheet_name cs) (and_left (begins_with 33 cs) (not (begins_with_any is_blank (drop 1 cs))) h)

-- before `(`: a function's word, or no token of any formula
run-call : (w : Bool) (c : ℕ) (cs u r ds : List ℕ) → is_word (c ∷ u) ≡ w → Runs c cs u r → begins_with 40 (after_while is_blank r) ≡ true → migrated_pieces r ≡ Some ds → Alike r ds
    → Goes c cs (cond w (tok.Word (c ∷ u)) (tok.Other (c ∷ u))) ds
run-call w c cs u r ds is run call more alike = of w is
  where
    before : piece_before (c ∷ cs) r ≡ c ∷ u
    before = before-plain c cs r (c ∷ u) run.is (no-gap c cs u r run (or-second _ _ call))

    lexed : (w : Bool) → is_word (c ∷ u) ≡ w → token_by ROWS c (u ++ ds) ≡ Some (cond w (tok.Word (c ∷ u), ds) (tok.Other (c ∷ u), ds))
    lexed w is =
        run-front ROWS c u ds run.start run.all (sym (first-any is_run_byte r ds alike.first) ∙ run.stop)
        ∙ ap (λ p. Some p) (cond-false (is_sheet_run (c ∷ u) ds) _ _ (no-sheet (c ∷ u) ds (sym (first-with 33 r ds alike.first) ∙ alike.no_sheet))
        ∙ cond-true (begins_with 40 (after_while is_blank ds)) _ _ (sym alike.call ∙ call) ∙ ap (λ b. cond b (tok.Word (c ∷ u), ds) (tok.Other (c ∷ u), ds)) is)

    of : (w : Bool) → is_word (c ∷ u) ≡ w → Goes c cs (cond w (tok.Word (c ∷ u)) (tok.Other (c ∷ u))) ds
    of true is = record { tail = u ++ ds; becomes = tok.Word (c ∷ u); made = made c cs r ds (c ∷ u) run.piece before more; lexes = lexed true is; same = refl }
    of false is = record { tail = u ++ ds; becomes = tok.Other (c ∷ u); made = made c cs r ds (c ∷ u) run.piece before more; lexes = lexed false is; same = inl refl }

-- else an address, a truth value, a name or another run
lone-lexed : (c : ℕ) (u r ds : List ℕ) → begins_run c ≡ true → list_all is_run_byte (c ∷ u) ≡ true → begins_with_any is_run_byte ds ≡ false → begins_with 33 ds ≡ false
    → begins_with 40 (after_while is_blank ds) ≡ false → token_by ROWS c (u ++ ds) ≡ Some (lone_token (c ∷ u) (corner_by ROWS (c ∷ u)), ds)
lone-lexed c u r ds start all stop mark call =
    run-front ROWS c u ds start all stop
    ∙ ap (λ p. Some p) (cond-false (is_sheet_run (c ∷ u) ds) _ _ (no-sheet (c ∷ u) ds mark) ∙ cond-false (begins_with 40 (after_while is_blank ds)) _ _ call)

plain-becomes : (w : List ℕ) (o : Option Address) → is_gap_word w ≡ false → Becomes (lone_token w o) (lone_token w o)
plain-becomes w (Some a) never = refl
plain-becomes w None never = by (truth_of w)
  where
    name : (b : Bool) → Becomes (cond b (tok.Name w) (tok.Other w)) (cond b (tok.Name w) (tok.Other w))
    name true = ap (λ x. tok.Name x) (sym (cond-false (is_gap_word w) (w ++ 95 ∷ []) w never))
    name false = inl refl

    by : (t : Option Bool) → Becomes (word_token w t) (word_token w t)
    by (Some b) = refl
    by None = name (is_word w)

gap-becomes : (c : ℕ) (u : List ℕ) → is_gap_word (c ∷ u) ≡ true
    → Becomes (lone_token (c ∷ u) (corner_by OLD_ROWS (c ∷ u))) (lone_token ((c ∷ u) ++ 95 ∷ []) (corner_by ROWS ((c ∷ u) ++ 95 ∷ [])))
gap-becomes c u gap =
    let w = c ∷ u in
    let old : lone_token w (corner_by OLD_ROWS w) ≡ cond (is_word w) (tok.Name w) (tok.Other w) = rw (gap_corner w gap, gap_truth w gap) refl in
    let new : lone_token (w ++ 95 ∷ []) (corner_by ROWS (w ++ 95 ∷ [])) ≡ cond (is_word w) (tok.Name (w ++ 95 ∷ [])) (tok.Other (w ++ 95 ∷ [])) =
    rw (marked_corner ROWS w, marked_truth w, marked_word c u) refl in
    let more : migrated_name w ≡ w ++ 95 ∷ [] = cond-true (is_gap_word w) (w ++ 95 ∷ []) w gap in
    subst (λ x. Becomes x (lone_token (w ++ 95 ∷ []) (corner_by ROWS (w ++ 95 ∷ [])))) (sym old)
    (subst (λ y. Becomes (cond (is_word w) (tok.Name w) (tok.Other w)) y) (sym new) (by (is_word w) w (w ++ 95 ∷ []) more))
  where
    by : (b : Bool) (w more : List ℕ) → migrated_name w ≡ more → Becomes (cond b (tok.Name w) (tok.Other w)) (cond b (tok.Name more) (tok.Other more))
    by true w more e = ap (λ x. tok.Name x) (sym e)
    by false w more e = inr (ap (λ x. tok.Other x) (sym e))

run-lone : (g : Bool) (c : ℕ) (cs u r ds : List ℕ) → is_gap_word (c ∷ u) ≡ g → Runs c cs u r → begins_with 40 (after_while is_blank r) ≡ false → migrated_pieces r ≡ Some ds → Alike r ds
    → Goes c cs (lone_token (c ∷ u) (corner_by OLD_ROWS (c ∷ u))) ds
run-lone false c cs u r ds never run call more alike = record {
  tail = u ++ ds;
  becomes = lone_token (c ∷ u) (corner_by ROWS (c ∷ u));
  made = made c cs r ds (c ∷ u) run.piece (before-plain c cs r (c ∷ u) run.is (run.gap ∙ and_left (is_gap_word (c ∷ u)) (stays_alone r) never)) more;
  lexes = lone-lexed c u r ds run.start run.all (sym (first-any is_run_byte r ds alike.first) ∙ run.stop) (sym (first-with 33 r ds alike.first) ∙ alike.no_sheet) (sym alike.call ∙ call);
  same = subst (λ o. Becomes (lone_token (c ∷ u) o) (lone_token (c ∷ u) (corner_by ROWS (c ∷ u)))) (sym (plain_corner (c ∷ u) never)) (plain-becomes (c ∷ u) (corner_by ROWS (c ∷ u)) never);
}
run-lone true c cs u r ds gap run call more alike =
    let alone : stays_alone r ≡ true = rw (alike.no_sheet, call) refl in
    let before = before-gap c cs r (c ∷ u) run.is (run.gap ∙ and_from (is_gap_word (c ∷ u)) (stays_alone r) gap alone) in
    let same : (u ++ 95 ∷ []) ++ ds ≡ u ++ (95 ∷ ds) = append_assoc u (95 ∷ []) ds in
    let all : list_all is_run_byte ((c ∷ u) ++ 95 ∷ []) ≡ true = list_all-append is_run_byte (c ∷ u) (95 ∷ []) ∙ rw run.all refl in
    record {
      tail = (u ++ 95 ∷ []) ++ ds;
      becomes = lone_token ((c ∷ u) ++ 95 ∷ []) (corner_by ROWS ((c ∷ u) ++ 95 ∷ []));
      made = made c cs r ds ((c ∷ u) ++ 95 ∷ []) run.piece before more;
      lexes = lone-lexed c (u ++ 95 ∷ []) r ds run.start all (sym (first-any is_run_byte r ds alike.first) ∙ run.stop) (sym (first-with 33 r ds alike.first) ∙ alike.no_sheet) (sym alike.call ∙ call);
      same = gap-becomes c u gap;
    }

-- the token of a run
run-goes : (c : ℕ) (cs u r ds : List ℕ) (s k : Bool) → is_sheet_run (c ∷ u) r ≡ s → begins_with 40 (after_while is_blank r) ≡ k → Runs c cs u r
    → migrated_pieces (run_token_by OLD_ROWS (c ∷ u) r).1 ≡ Some ds → Alike (run_token_by OLD_ROWS (c ∷ u) r).1 ds → Goes c cs (run_token_by OLD_ROWS (c ∷ u) r).0 ds
run-goes c cs u r ds true k sheet call run more alike =
    let is : run_token_by OLD_ROWS (c ∷ u) r ≡ (tok.Sheet (c ∷ u), drop 1 r) = cond-true (is_sheet_run (c ∷ u) r) _ _ sheet in
    let behind : migrated_pieces (drop 1 r) ≡ Some ds = rw is at more in
    let first : first_byte (drop 1 r) ≡ first_byte ds = rw is at alike.first in
    subst (λ t. Goes c cs t ds) (sym (ap (λ p. p.0) is)) (run-sheet c cs u r ds run sheet behind first)
run-goes c cs u r ds false true sheet call run more alike = of (is_word (c ∷ u)) refl
  where
    of : (w : Bool) → is_word (c ∷ u) ≡ w → Goes c cs (run_token_by OLD_ROWS (c ∷ u) r).0 ds
    of w word =
        let is : run_token_by OLD_ROWS (c ∷ u) r ≡ cond w (tok.Word (c ∷ u), r) (tok.Other (c ∷ u), r) =
        cond-false (is_sheet_run (c ∷ u) r) _ _ sheet ∙ cond-true (begins_with 40 (after_while is_blank r)) _ _ call
        ∙ ap (λ b. cond b (tok.Word (c ∷ u), r) (tok.Other (c ∷ u), r)) word in
        let token : (run_token_by OLD_ROWS (c ∷ u) r).0 ≡ cond w (tok.Word (c ∷ u)) (tok.Other (c ∷ u)) = ap (λ p. p.0) is ∙ first-of w in
        let rest : (run_token_by OLD_ROWS (c ∷ u) r).1 ≡ r = ap (λ p. p.1) is ∙ rest-of w in
        let behind : migrated_pieces r ≡ Some ds = rw rest at more in
        let beside : Alike r ds = rw rest at alike in
        subst (λ t. Goes c cs t ds) (sym token) (run-call w c cs u r ds word run call behind beside)
      where
        first-of : (w : Bool) → (cond {A = Token × List ℕ} w (tok.Word (c ∷ u), r) (tok.Other (c ∷ u), r)).0 ≡ cond w (tok.Word (c ∷ u)) (tok.Other (c ∷ u))
        first-of true = refl
        first-of false = refl

        rest-of : (w : Bool) → (cond {A = Token × List ℕ} w (tok.Word (c ∷ u), r) (tok.Other (c ∷ u), r)).1 ≡ r
        rest-of true = refl
        rest-of false = refl
run-goes c cs u r ds false false sheet call run more alike =
    let is : run_token_by OLD_ROWS (c ∷ u) r ≡ (lone_token (c ∷ u) (corner_by OLD_ROWS (c ∷ u)), r) =
    cond-false (is_sheet_run (c ∷ u) r) _ _ sheet ∙ cond-false (begins_with 40 (after_while is_blank r)) _ _ call in
    let behind : migrated_pieces r ≡ Some ds = rw is at more in
    let beside : Alike r ds = rw is at alike in
    subst (λ t. Goes c cs t ds) (sym (ap (λ p. p.0) is)) (run-lone (is_gap_word (c ∷ u)) c cs u r ds refl run call behind beside)

-- another piece than a run
piece-goes : (c : ℕ) (cs rest w ds : List ℕ) (token : Token) → begins_run c ≡ false → after_piece c cs ≡ Some rest → c ∷ cs ≡ (c ∷ w) ++ rest → migrated_pieces rest ≡ Some ds
    → token_by ROWS c (w ++ ds) ≡ Some (token, ds) → Becomes token token → Goes c cs token ds
piece-goes c cs rest w ds token start piece is more lexes same = record {
  tail = w ++ ds;
  becomes = token;
  made = made c cs rest ds (c ∷ w) piece (before-plain c cs rest (c ∷ w) is (no_run-no_gap c cs start)) more;
  lexes = lexes;
  same = same;
}

-- a number, its digits, its point and what follows it
take-length : (n : ℕ) (xs : List ℕ) → n ≤ length xs → length (take n xs) ≡ n
take-length zero xs h = refl
take-length (suc n) [] h = absurd (omega arith)
take-length (suc n) (x ∷ xs) h = ap suc (take-length n xs (omega arith))

front-length : (p : ℕ → Bool) (xs : List ℕ) → prefix_len p xs ≡ length (take_while p xs)
front-length p xs = sym (take-length (prefix_len p xs) xs (prefix_len-le-length p xs))

record NumberParts (xs : List ℕ) : Type 0 where
  whole : List ℕ
  rest : List ℕ
  is : xs ≡ whole ++ rest
  long : number_length xs ≡ length whole
  again : (ds : List ℕ) → begins_with_any is_digit ds ≡ begins_with_any is_digit rest → begins_with 46 ds ≡ begins_with 46 rest → number_length (whole ++ ds) ≡ length whole

number-parts : (b : Bool) (xs : List ℕ) → begins_with 46 (after_while is_digit xs) ≡ b → NumberParts xs
number-parts false xs e =
    let ws = take_while is_digit xs in
    let r = after_while is_digit xs in
    record {
      whole = ws;
      rest = r;
      is = sym (take-append-drop (prefix_len is_digit xs) xs);
      long = ap (λ n. prefix_len is_digit xs + n) (decimals_length-none r e) ∙ (let n = front-length is_digit xs in omega (arith, n));
      again = λ ds digit point. number_length-digits ws ds (all-front is_digit xs) (digit ∙ stop-behind is_digit xs) ∙ ap (λ n. length ws + n) (decimals_length-none ds (point ∙ e)) ∙ omega arith;
    }
number-parts true xs e =
    let ws = take_while is_digit xs in
    let r = drop 1 (after_while is_digit xs) in
    let point : after_while is_digit xs ≡ 46 ∷ r = behind-byte 46 (after_while is_digit xs) e in
    let ds = take_while is_digit r in
    let rest = after_while is_digit r in
    let parts : r ≡ ds ++ rest = sym (take-append-drop (prefix_len is_digit r) r) in
    let decimals : decimals_length (after_while is_digit xs) ≡ 1 + prefix_len is_digit r = ap decimals_length point in
    record {
      whole = ws ++ 46 ∷ ds;
      rest = rest;
      is = sym (take-append-drop (prefix_len is_digit xs) xs) ∙ ap (λ x. ws ++ x) (point ∙ ap (λ x. 46 ∷ x) parts) ∙ sym (append_assoc ws (46 ∷ ds) rest);
      long = let a = front-length is_digit xs in let b = front-length is_digit r in let l = length-append ws (46 ∷ ds) in omega (arith, a, b, l, decimals);
      again = λ es digit dot.
          ap number_length (append_assoc ws (46 ∷ ds) es)
          ∙ number_length-digits ws (46 ∷ (ds ++ es)) (all-front is_digit xs) refl
          ∙ ap (λ n. length ws + n) (decimals_length-some ds es (all-front is_digit r) (digit ∙ stop-behind is_digit r))
          ∙ (let l = length-append ws (46 ∷ ds) in omega (arith, l));
    }

first-append : (w xs ys : List ℕ) → first_byte xs ≡ first_byte ys → first_byte (w ++ xs) ≡ first_byte (w ++ ys)
first-append [] xs ys e = e
first-append (c ∷ w) xs ys e = refl

number-token : (c : ℕ) (w rest ds : List ℕ) → begins_run c ≡ false → begins_number (c ∷ (w ++ rest)) ≡ true → first_byte rest ≡ first_byte ds → number_length (c ∷ (w ++ ds)) ≡ length (c ∷ w)
    → token_by ROWS c (w ++ ds) ≡ Some (tok.Number (c ∷ w), ds)
number-token c w rest ds start number first long =
    let begins : begins_number (c ∷ (w ++ ds)) ≡ true =
    ap (λ b. is_digit c || (c == 46 && b)) (sym (first-any is_digit (w ++ rest) (w ++ ds) (first-append w rest ds first))) ∙ number in
    cond-false (begins_run c) _ _ start ∙ cond-true (begins_number (c ∷ (w ++ ds))) _ _ begins
    ∙ ap (λ n. Some (tok.Number (take n (c ∷ (w ++ ds))), drop n (c ∷ (w ++ ds)))) long
    ∙ ap (λ x. Some (tok.Number x, drop (length (c ∷ w)) (c ∷ (w ++ ds)))) (take-append_seam (c ∷ w) ds)
    ∙ ap (λ y. Some (tok.Number (c ∷ w), y)) (drop-append_seam (c ∷ w) ds)

-- quotes: what is read between them was written so
quoted-back : (q : ℕ) (cs content rest : List ℕ) → quoted q cs ≡ Some (content, rest) → (cs ≡ doubled q content ++ (q ∷ rest)) × (begins_with q rest ≡ false)
quoted-back q [] content rest e = cc
quoted-back q (c ∷ []) content rest e = last (c == q) refl e
  where
    last : (b : Bool) → (c == q) ≡ b → cond {A = Option (List ℕ × List ℕ)} b (Some ([], [])) None ≡ Some (content, rest) → (c ∷ [] ≡ doubled q content ++ (q ∷ rest)) × (begins_with q rest ≡ false)
    last true is e =
        let parts = some-front _ _ e in
        let none : [] ≡ content = ap (λ (p : List ℕ × List ℕ). p.0) parts in
        let end : [] ≡ rest = ap (λ (p : List ℕ × List ℕ). p.1) parts in
        rw (sym none, sym end, eqb-true c q is) (refl, refl)
    last false is e = cc
quoted-back q (c ∷ d ∷ cs) content rest e =
    by (c == q) (d == q) refl refl (λ content2. quoted-back q cs content2 rest) (λ content2. quoted-back q (d ∷ cs) content2 rest) e
  where
    more : (b : ℕ) (front xs : List ℕ) (parts : Option (List ℕ × List ℕ)) → ((content2 : List ℕ) → parts ≡ Some (content2, rest) → (xs ≡ doubled q content2 ++ (q ∷ rest)) × (begins_with q rest ≡ false))
        → ((content2 : List ℕ) → doubled q (b ∷ content2) ≡ front ++ doubled q content2) → with_byte b parts ≡ Some (content, rest) → (front ++ xs ≡ doubled q content ++ (q ∷ rest)) × (begins_with q rest ≡ false)
    more b front xs None back twice e = cc
    more b front xs (Some (content2, rest2)) back twice e =
        let parts = some-front _ _ e in
        let same : rest2 ≡ rest = ap (λ (p : List ℕ × List ℕ). p.1) parts in
        let all : b ∷ content2 ≡ content = ap (λ (p : List ℕ × List ℕ). p.0) parts in
        let found = back content2 (ap (λ r. Some (content2, r)) same) in
        (ap (λ x. front ++ x) found.0 ∙ sym (append_assoc front (doubled q content2) (q ∷ rest)) ∙ ap (λ x. x ++ (q ∷ rest)) (sym (twice content2) ∙ ap (doubled q) all), found.1)

    by : (a b : Bool) → (c == q) ≡ a → (d == q) ≡ b
        → ((content2 : List ℕ) → quoted q cs ≡ Some (content2, rest) → (cs ≡ doubled q content2 ++ (q ∷ rest)) × (begins_with q rest ≡ false))
        → ((content2 : List ℕ) → quoted q (d ∷ cs) ≡ Some (content2, rest) → (d ∷ cs ≡ doubled q content2 ++ (q ∷ rest)) × (begins_with q rest ≡ false))
        → (if a then (if b then with_byte q (quoted q cs) else Some ([], d ∷ cs)) else with_byte c (quoted q (d ∷ cs))) ≡ Some (content, rest)
        → (c ∷ d ∷ cs ≡ doubled q content ++ (q ∷ rest)) × (begins_with q rest ≡ false)
    by true true a b behind next e = rw (eqb-true c q a, eqb-true d q b) (more q (q ∷ q ∷ []) cs (quoted q cs) behind (λ content2. rw (same_byte q) refl) e)
    by true false a b behind next e =
        let parts = some-front _ _ e in
        let none : [] ≡ content = ap (λ (p : List ℕ × List ℕ). p.0) parts in
        let end : d ∷ cs ≡ rest = ap (λ (p : List ℕ × List ℕ). p.1) parts in
        rw (sym none, sym end, eqb-true c q a) (refl, b)
    by false b a _ behind next e = more c (c ∷ []) (d ∷ cs) (quoted q (d ∷ cs)) next (λ content2. rw a refl) e

-- at most one fault stands in front of a text: two bytes tell which
abbrev bytes_of : FaultKind → ℕ × ℕ
bytes_of kinds.Div0 = (100, 105)
bytes_of kinds.Name = (110, 97)
bytes_of kinds.Value = (118, 97)
bytes_of kinds.Num = (110, 117)
bytes_of kinds.Na = (110, 47)
bytes_of kinds.Cycle = (99, 121)
bytes_of kinds.Ref = (114, 101)
bytes_of kinds.Error = (101, 114)

abbrev bytes_at : List ℕ → ℕ × ℕ
bytes_at (x ∷ y ∷ z ∷ xs) = (to_ascii_lowercase y, to_ascii_lowercase z)
bytes_at xs = (0, 0)

fault-bytes : (f : FaultKind) (xs : List ℕ) → folded (take (length (fault_text f)) xs) ≡ folded (fault_text f) → bytes_at xs ≡ bytes_of f
fault-bytes kinds.Div0 [] e = cc
fault-bytes kinds.Div0 (x ∷ []) e = cc
fault-bytes kinds.Div0 (x ∷ y ∷ []) e = cc
fault-bytes kinds.Div0 (x ∷ y ∷ z ∷ xs) e = cc
fault-bytes kinds.Name [] e = cc
fault-bytes kinds.Name (x ∷ []) e = cc
fault-bytes kinds.Name (x ∷ y ∷ []) e = cc
fault-bytes kinds.Name (x ∷ y ∷ z ∷ xs) e = cc
fault-bytes kinds.Value [] e = cc
fault-bytes kinds.Value (x ∷ []) e = cc
fault-bytes kinds.Value (x ∷ y ∷ []) e = cc
fault-bytes kinds.Value (x ∷ y ∷ z ∷ xs) e = cc
fault-bytes kinds.Num [] e = cc
fault-bytes kinds.Num (x ∷ []) e = cc
fault-bytes kinds.Num (x ∷ y ∷ []) e = cc
fault-bytes kinds.Num (x ∷ y ∷ z ∷ xs) e = cc
fault-bytes kinds.Na [] e = cc
fault-bytes kinds.Na (x ∷ []) e = cc
fault-bytes kinds.Na (x ∷ y ∷ []) e = cc
fault-bytes kinds.Na (x ∷ y ∷ z ∷ xs) e = cc
fault-bytes kinds.Cycle [] e = cc
fault-bytes kinds.Cycle (x ∷ []) e = cc
fault-bytes kinds.Cycle (x ∷ y ∷ []) e = cc
fault-bytes kinds.Cycle (x ∷ y ∷ z ∷ xs) e = cc
fault-bytes kinds.Ref [] e = cc
fault-bytes kinds.Ref (x ∷ []) e = cc
fault-bytes kinds.Ref (x ∷ y ∷ []) e = cc
fault-bytes kinds.Ref (x ∷ y ∷ z ∷ xs) e = cc
fault-bytes kinds.Error [] e = cc
fault-bytes kinds.Error (x ∷ []) e = cc
fault-bytes kinds.Error (x ∷ y ∷ []) e = cc
fault-bytes kinds.Error (x ∷ y ∷ z ∷ xs) e = cc

fault-spelt : (f : FaultKind) (xs : List ℕ) → begins_with_fault xs f ≡ true → bytes_at xs ≡ bytes_of f
fault-spelt f xs h = fault-bytes f xs ((bytes_eq-Decides (folded (take (length (fault_text f)) xs)) (folded (fault_text f))).0 h)

abbrev number_of : ℕ × ℕ → ℕ
number_of (a, b) = 256 * a + b

other-fault : (f g : FaultKind) (xs : List ℕ) → (number_of (bytes_of f) == number_of (bytes_of g)) ≡ false → begins_with_fault xs f ≡ true → begins_with_fault xs g ≡ false
other-fault f g xs apart h = false_from_ne_true (begins_with_fault xs g) (λ k.
    both_ways (number_of (bytes_of f) == number_of (bytes_of g)) apart
    (ap (λ b. number_of b == number_of (bytes_of g)) (sym (fault-spelt f xs h) ∙ fault-spelt g xs k) ∙ same_byte (number_of (bytes_of g))))

fault-alone : (f : FaultKind) (xs : List ℕ) → begins_with_fault xs f ≡ true → find (begins_with_fault xs) faults ≡ Some f
fault-alone kinds.Div0 xs h = rw h refl
fault-alone kinds.Name xs h = rw (other-fault kinds.Name kinds.Div0 xs refl h, h) refl
fault-alone kinds.Value xs h = rw (other-fault kinds.Value kinds.Div0 xs refl h, other-fault kinds.Value kinds.Name xs refl h, h) refl
fault-alone kinds.Num xs h = rw (other-fault kinds.Num kinds.Div0 xs refl h, other-fault kinds.Num kinds.Name xs refl h, other-fault kinds.Num kinds.Value xs refl h, h) refl
fault-alone kinds.Na xs h = rw (other-fault kinds.Na kinds.Div0 xs refl h, other-fault kinds.Na kinds.Name xs refl h, other-fault kinds.Na kinds.Value xs refl h, other-fault kinds.Na kinds.Num xs refl h, h) refl
fault-alone kinds.Cycle xs h = rw (other-fault kinds.Cycle kinds.Div0 xs refl h, other-fault kinds.Cycle kinds.Name xs refl h, other-fault kinds.Cycle kinds.Value xs refl h, other-fault kinds.Cycle kinds.Num xs refl h, other-fault kinds.Cycle kinds.Na xs refl h, h) refl
fault-alone kinds.Ref xs h = rw (other-fault kinds.Ref kinds.Div0 xs refl h, other-fault kinds.Ref kinds.Name xs refl h, other-fault kinds.Ref kinds.Value xs refl h, other-fault kinds.Ref kinds.Num xs refl h, other-fault kinds.Ref kinds.Na xs refl h, other-fault kinds.Ref kinds.Cycle xs refl h, h) refl
fault-alone kinds.Error xs h = rw (other-fault kinds.Error kinds.Div0 xs refl h, other-fault kinds.Error kinds.Name xs refl h, other-fault kinds.Error kinds.Value xs refl h, other-fault kinds.Error kinds.Num xs refl h, other-fault kinds.Error kinds.Na xs refl h, other-fault kinds.Error kinds.Cycle xs refl h, other-fault kinds.Error kinds.Ref xs refl h, h) refl

-- what is found passes the test
found-passes : {X : Type 0} (p : X → Bool) (y : X) (xs : List X) → find p xs ≡ Some y → p y ≡ true
found-passes p y [] e = cc
found-passes p y (x ∷ xs) e = by (p x) refl e (found-passes p y xs)
  where
    by : (b : Bool) → p x ≡ b → cond b (Some x) (find p xs) ≡ Some y → (find p xs ≡ Some y → p y ≡ true) → p y ≡ true
    by true h e rest = let same : x ≡ y = cc in ap p (sym same) ∙ h
    by false h e rest = rest e

-- a byte that begins nothing else
record IsSign (c : ℕ) (xs : List ℕ) : Type 0 where
  run : begins_run c ≡ false
  number : begins_number (c ∷ xs) ≡ false
  text : (c == 34) ≡ false
  name : (c == 39) ≡ false
  fault : (c == 35) ≡ false

sign-token : (rows c : ℕ) (xs : List ℕ) → IsSign c xs → token_by rows c xs ≡ sign_token (pair_op c xs) c xs
sign-token rows c xs s =
    cond-false (begins_run c) _ _ s.run ∙ cond-false (begins_number (c ∷ xs)) _ _ s.number ∙ cond-false (c == 34) _ _ s.text ∙ cond-false (c == 39) _ _ s.name ∙ cond-false (c == 35) _ _ s.fault

sign-piece : (c : ℕ) (xs : List ℕ) → is_blank c ≡ false → (c == 33) ≡ false → IsSign c xs → after_piece c xs ≡ option_map (λ front. front.1) (sign_token (pair_op c xs) c xs)
sign-piece c xs blank mark s =
    cond-false (is_blank c || c == 33) _ _ (no-blank-no-mark c blank mark) ∙ cond-false (begins_run c) _ _ s.run ∙ cond-false (begins_number (c ∷ xs)) _ _ s.number
    ∙ cond-false (c == 34) _ _ s.text ∙ cond-false (c == 39) _ _ s.name ∙ cond-false (c == 35) _ _ s.fault

pair-same : (c : ℕ) (xs ys : List ℕ) → first_byte xs ≡ first_byte ys → pair_op c xs ≡ pair_op c ys
pair-same c xs ys e =
    let less = first-with 61 xs ys e in
    let greater = first-with 62 xs ys e in
    rw (less, greater) refl

sign-same : (c : ℕ) (xs ys : List ℕ) → first_byte xs ≡ first_byte ys → IsSign c xs → IsSign c ys
sign-same c xs ys e s = record {
  run = s.run;
  number = ap (λ b. is_digit c || (c == 46 && b)) (sym (first-any is_digit xs ys e)) ∙ s.number;
  text = s.text;
  name = s.name;
  fault = s.fault;
}

no-pair : (c : ℕ) → pair_op c [] ≡ None
no-pair c = by (c == 60) (c == 62)
  where
    by : (a b : Bool) → (if a && false then Some op.Unequal else if a && false then Some op.AtMost else if b && false then Some op.AtLeast else None) ≡ None
    by true true = refl
    by true false = refl
    by false true = refl
    by false false = refl

sign-goes : (c : ℕ) (cs : List ℕ) (o : Option Op) (t : Option Token) (token : Token) (rest ds : List ℕ) → is_blank c ≡ false → (c == 33) ≡ false → IsSign c cs → pair_op c cs ≡ o → byte_token c ≡ t
    → sign_token o c cs ≡ Some (token, rest) → Becomes token token → migrated_pieces rest ≡ Some ds → first_byte rest ≡ first_byte ds → Goes c cs token ds
sign-goes c [] (Some o) t token rest ds blank mark s pair byte e self more first = let none : pair_op c [] ≡ None = no-pair c in cc
sign-goes c (d ∷ cs) (Some o) t token rest ds blank mark s pair byte e self more first =
    let front = some-front _ _ e in
    let same : cs ≡ rest = ap (λ (f : Token × List ℕ). f.1) front in
    let sign : tok.Operator o ≡ token = ap (λ (f : Token × List ℕ). f.0) front in
    let again : pair_op c (d ∷ ds) ≡ Some o = pair-same c (d ∷ ds) (d ∷ cs) refl ∙ pair in
    piece-goes c (d ∷ cs) rest (d ∷ []) ds token s.run (sign-piece c (d ∷ cs) blank mark s ∙ ap (λ p. option_map (λ front. front.1) (sign_token p c (d ∷ cs))) pair ∙ ap (option_map (λ front. front.1)) e)
    (ap (λ x. c ∷ d ∷ x) same) more
    (sign-token ROWS c (d ∷ ds) (sign-same c (d ∷ cs) (d ∷ ds) refl s) ∙ ap (λ p. sign_token p c (d ∷ ds)) again ∙ ap (λ t. Some (t, ds)) sign) self
sign-goes c cs None None token rest ds blank mark s pair byte e self more first = let none : None ≡ Some (token, rest) = rw byte at e in cc
sign-goes c cs None (Some t) token rest ds blank mark s pair byte e self more first =
    let found : Some (t, cs) ≡ Some (token, rest) = rw byte at e in
    let front = some-front _ _ found in
    let same : cs ≡ rest = ap (λ (f : Token × List ℕ). f.1) front in
    let sign : t ≡ token = ap (λ (f : Token × List ℕ). f.0) front in
    let again : pair_op c ds ≡ None = pair-same c ds cs (sym first ∙ ap first_byte (sym same)) ∙ pair in
    piece-goes c cs rest [] ds token s.run (sign-piece c cs blank mark s ∙ ap (λ p. option_map (λ front. front.1) (sign_token p c cs)) pair ∙ ap (option_map (λ front. front.1)) e)
    (ap (λ x. c ∷ x) same) more
    (sign-token ROWS c ds (sign-same c cs ds (ap first_byte same ∙ first) s) ∙ ap (λ p. sign_token p c ds) again ∙ rw (byte, sign) refl) self

whole-first : (c : ℕ) (cs whole rest : List ℕ) → c ∷ cs ≡ whole ++ rest → 0 < length whole → (w : List ℕ) × (whole ≡ c ∷ w)
whole-first c cs [] rest e some = absurd (omega arith)
whole-first c cs (x ∷ w) rest e some = let same : c ≡ x = cc in (w, ap (λ y. y ∷ w) (sym same))

number-goes : (c : ℕ) (cs ds : List ℕ) → is_blank c ≡ false → (c == 33) ≡ false → begins_run c ≡ false → begins_number (c ∷ cs) ≡ true
    → migrated_pieces (drop (number_length (c ∷ cs)) (c ∷ cs)) ≡ Some ds → first_byte (drop (number_length (c ∷ cs)) (c ∷ cs)) ≡ first_byte ds
    → Goes c cs (tok.Number (take (number_length (c ∷ cs)) (c ∷ cs))) ds
number-goes c cs ds blank mark start number more alike =
    let xs = c ∷ cs in
    let p = number-parts (begins_with 46 (after_while is_digit xs)) xs refl in
    let one = number_length-by c cs (is_digit c) (c == 46) refl refl number in
    let l = p.long in
    let some : 0 < length p.whole = omega (arith, one, l) in
    let f = whole-first c cs p.whole p.rest p.is some in
    let is : c ∷ cs ≡ (c ∷ f.0) ++ p.rest = p.is ∙ ap (λ x. x ++ p.rest) f.1 in
    let count : number_length xs ≡ length (c ∷ f.0) = p.long ∙ ap length f.1 in
    let taken : take (number_length xs) xs ≡ c ∷ f.0 = ap (λ n. take n xs) count ∙ ap (take (length (c ∷ f.0))) is ∙ take-append_seam (c ∷ f.0) p.rest in
    let behind : drop (number_length xs) xs ≡ p.rest = ap (λ n. drop n xs) count ∙ ap (drop (length (c ∷ f.0))) is ∙ drop-append_seam (c ∷ f.0) p.rest in
    let first : first_byte p.rest ≡ first_byte ds = ap first_byte (sym behind) ∙ alike in
    let again : number_length (c ∷ (f.0 ++ ds)) ≡ length (c ∷ f.0) =
    ap (λ x. number_length (x ++ ds)) (sym f.1) ∙ p.again ds (first-any is_digit ds p.rest (sym first)) (first-with 46 ds p.rest (sym first)) ∙ ap length f.1 in
    let begins : begins_number (c ∷ (f.0 ++ p.rest)) ≡ true = ap begins_number (sym is) ∙ number in
    let piece : after_piece c cs ≡ Some p.rest =
    cond-false (is_blank c || c == 33) _ _ (no-blank-no-mark c blank mark) ∙ cond-false (begins_run c) _ _ start ∙ cond-true (begins_number xs) _ _ number ∙ ap (λ x. Some x) behind in
    subst (λ t. Goes c cs (tok.Number t) ds) (sym taken)
    (piece-goes c cs p.rest f.0 ds (tok.Number (c ∷ f.0)) start piece is (ap migrated_pieces (sym behind) ∙ more) (number-token c f.0 p.rest ds start begins first again) refl)

-- between quotes
between : (q : ℕ) (content rest : List ℕ) → doubled q content ++ (q ∷ rest) ≡ (doubled q content ++ q ∷ []) ++ rest
between q content rest = sym (append_assoc (doubled q content) (q ∷ []) rest)

text-goes : (cs rest ds : List ℕ) (token : Token) (parts : Option (List ℕ × List ℕ)) → quoted 34 cs ≡ parts → option_map text_token parts ≡ Some (token, rest) → migrated_pieces rest ≡ Some ds → first_byte rest ≡ first_byte ds
    → Goes 34 cs token ds
text-goes cs rest ds token None q e more first = cc
text-goes cs rest ds token (Some (content, r)) q e more first =
    let front = some-front _ _ e in
    let same : r ≡ rest = ap (λ (f : Token × List ℕ). f.1) front in
    let is_text : tok.Text content ≡ token = ap (λ (f : Token × List ℕ). f.0) front in
    let back = quoted-back 34 cs content r q in
    let w = doubled 34 content ++ 34 ∷ [] in
    let is : 34 ∷ cs ≡ (34 ∷ w) ++ rest = ap (λ x. 34 ∷ x) (back.0 ∙ between 34 content r ∙ ap (λ x. w ++ x) same) in
    let no_quote : begins_with 34 ds ≡ false = sym (first-with 34 rest ds first) ∙ ap (begins_with 34) (sym same) ∙ back.1 in
    let again : quoted 34 (w ++ ds) ≡ Some (content, ds) = ap (quoted 34) (sym (between 34 content ds)) ∙ quoted-doubled 34 content ds no_quote in
    subst (λ t. Goes 34 cs t ds) is_text
    (piece-goes 34 cs rest w ds (tok.Text content) refl (ap (option_map (λ parts. parts.1)) q ∙ ap (λ x. Some x) same) is more (ap (option_map text_token) again) refl)

name-goes : (cs rest ds : List ℕ) (token : Token) (parts : Option (List ℕ × List ℕ)) → quoted 39 cs ≡ parts → option_and_then sheet_token parts ≡ Some (token, rest) → migrated_pieces rest ≡ Some ds → first_byte rest ≡ first_byte ds
    → Goes 39 cs token ds
name-goes cs rest ds token None q e more first = cc
name-goes cs rest ds token (Some (content, r)) q e more first = by (ends_sheet_name r) refl e
  where
    by : (b : Bool) → ends_sheet_name r ≡ b → cond {A = Front} b (Some (tok.Sheet content, drop 1 r)) None ≡ Some (token, rest) → Goes 39 cs token ds
    by false ended e = cc
    by true ended e =
        let front = some-front _ _ e in
        let same : drop 1 r ≡ rest = ap (λ (f : Token × List ℕ). f.1) front in
        let is_sheet : tok.Sheet content ≡ token = ap (λ (f : Token × List ℕ). f.0) front in
        let mark = and_parts (begins_with 33 r) (not (begins_with_any is_blank (drop 1 r))) ended in
        let behind : r ≡ 33 ∷ rest = behind-byte 33 r mark.0 ∙ ap (λ x. 33 ∷ x) same in
        let back = quoted-back 39 cs content r q in
        let w = doubled 39 content ++ 39 ∷ [] in
        let is : 39 ∷ cs ≡ (39 ∷ w) ++ r = ap (λ x. 39 ∷ x) (back.0 ∙ between 39 content r) in
        let made_behind : migrated_pieces r ≡ Some (33 ∷ ds) = ap migrated_pieces behind ∙ mark-made rest ds more in
        let again : quoted 39 (w ++ (33 ∷ ds)) ≡ Some (content, 33 ∷ ds) = ap (quoted 39) (sym (between 39 content (33 ∷ ds))) ∙ quoted-doubled 39 content (33 ∷ ds) refl in
        let blank : not (begins_with_any is_blank ds) ≡ true = ap not (sym (first-any is_blank rest ds first) ∙ ap (begins_with_any is_blank) (sym same)) ∙ mark.1 in
        subst (λ t. Goes 39 cs t ds) is_sheet (record {
          tail = w ++ (33 ∷ ds);
          becomes = tok.Sheet content;
          made = made 39 cs r (33 ∷ ds) (39 ∷ w) (ap (option_map (λ parts. parts.1)) q) (before-plain 39 cs r (39 ∷ w) is (no_run-no_gap 39 cs refl)) made_behind;
          lexes = ap (option_and_then sheet_token) again ∙ cond-true (ends_sheet_name (33 ∷ ds)) _ _ blank;
          same = refl;
        })

-- a fault that is written out
fault-goes : (cs rest ds : List ℕ) (token : Token) (f : Option FaultKind) → find (begins_with_fault (35 ∷ cs)) faults ≡ f → option_map (fault_token (35 ∷ cs)) f ≡ Some (token, rest) → migrated_pieces rest ≡ Some ds
    → Goes 35 cs token ds
fault-goes cs rest ds token None found e more = cc
fault-goes cs rest ds token (Some f) found e more =
    let xs = 35 ∷ cs in
    let n = length (fault_text f) in
    let front = some-front _ _ e in
    let same : drop n xs ≡ rest = ap (λ (g : Token × List ℕ). g.1) front in
    let is_fault : tok.Fault f ≡ token = ap (λ (g : Token × List ℕ). g.0) front in
    let a = ascii-fault xs f found in
    let b = prefix_len-le-length is_ascii xs in
    let long : length (take n xs) ≡ n = take-length n xs (omega (arith, a, b)) in
    let one = fault_text-some f in
    let split : xs ≡ take n xs ++ drop n xs = sym (take-append-drop n xs) in
    let w = whole-first 35 cs (take n xs) (drop n xs) split (omega (arith, one, long)) in
    let is : 35 ∷ cs ≡ (35 ∷ w.0) ++ rest = split ∙ ap (λ x. x ++ drop n xs) w.1 ∙ ap (λ x. (35 ∷ w.0) ++ x) same in
    let count : n ≡ length (35 ∷ w.0) = sym long ∙ ap length w.1 in
    let again : take n ((35 ∷ w.0) ++ ds) ≡ take n xs = ap (λ k. take k ((35 ∷ w.0) ++ ds)) count ∙ take-append_seam (35 ∷ w.0) ds ∙ sym w.1 in
    let spelt : begins_with_fault ((35 ∷ w.0) ++ ds) f ≡ true = ap (λ x. spells x (fault_text f)) again ∙ found-passes (begins_with_fault xs) f faults found in
    let behind : drop n ((35 ∷ w.0) ++ ds) ≡ ds = ap (λ k. drop k ((35 ∷ w.0) ++ ds)) count ∙ drop-append_seam (35 ∷ w.0) ds in
    subst (λ t. Goes 35 cs t ds) is_fault
    (piece-goes 35 cs rest w.0 ds (tok.Fault f) refl (ap (option_map (λ fault. drop (length (fault_text fault)) xs)) found ∙ ap (λ x. Some x) same) is more
    (ap (option_map (fault_token ((35 ∷ w.0) ++ ds))) (fault-alone f ((35 ∷ w.0) ++ ds) spelt) ∙ ap (λ x. Some (tok.Fault f, x)) behind) refl)

-- a sign becomes itself
byte-itself : (c : ℕ) (t : Token) → byte_token c ≡ Some t → Becomes t t
byte-itself c (tok.Name w) e = absurd (grind (arith, nat_tests, e))
byte-itself c (tok.Other w) e = inl refl
byte-itself c (tok.Number w) e = refl
byte-itself c (tok.Text w) e = refl
byte-itself c (tok.Truth t) e = refl
byte-itself c (tok.Fault f) e = refl
byte-itself c (tok.Sheet w) e = refl
byte-itself c (tok.Corner a) e = refl
byte-itself c (tok.Word w) e = refl
byte-itself c (tok.Operator o) e = refl
byte-itself c tok.Percent e = refl
byte-itself c tok.Colon e = refl
byte-itself c tok.Comma e = refl
byte-itself c tok.Open e = refl
byte-itself c tok.Close e = refl

sign-itself : (c : ℕ) (cs : List ℕ) (token : Token) (rest : List ℕ) → sign_token None c cs ≡ Some (token, rest) → Becomes token token
sign-itself c cs token rest e = by (byte_token c) refl e
  where
    by : (t : Option Token) → byte_token c ≡ t → option_map {U = Token × List ℕ} (λ token. (token, cs)) t ≡ Some (token, rest) → Becomes token token
    by None byte e = cc
    by (Some t) byte e = let same : t ≡ token = ap (λ (f : Token × List ℕ). f.0) (some-front _ _ e) in subst (λ x. Becomes x x) same (byte-itself c t byte)

-- the token in front of a text, whichever it is
no-mark : (c : ℕ) (cs : List ℕ) (token : Token) (rest : List ℕ) → token_by OLD_ROWS c cs ≡ Some (token, rest) → (c == 33) ≡ false
no-mark c cs token rest e = false_from_ne_true (c == 33) (λ h. let none : token_by OLD_ROWS c cs ≡ None = ap (λ x. token_by OLD_ROWS x cs) (eqb-true c 33 h) in cc)

run-front_goes : (c : ℕ) (cs : List ℕ) (token : Token) (rest ds : List ℕ) → is_blank c ≡ false → (c == 33) ≡ false → begins_run c ≡ true → token_by OLD_ROWS c cs ≡ Some (token, rest) → migrated_pieces rest ≡ Some ds → Alike rest ds
    → Goes c cs token ds
run-front_goes c cs token rest ds blank mark start e more alike =
    let u = take_while is_run_byte cs in
    let r = after_while is_run_byte cs in
    let goes_on = run-goes_on c start in
    let front : token_by OLD_ROWS c cs ≡ Some (run_token_by OLD_ROWS (c ∷ u) r) =
    cond-true (begins_run c) _ _ start ∙ ap (λ x. Some (run_token_by OLD_ROWS x (after_while is_run_byte (c ∷ cs)))) (front-more is_run_byte c cs goes_on)
    ∙ ap (λ y. Some (run_token_by OLD_ROWS (c ∷ u) y)) (behind-more is_run_byte c cs goes_on) in
    let is : run_token_by OLD_ROWS (c ∷ u) r ≡ (token, rest) = cc in
    let behind : migrated_pieces (run_token_by OLD_ROWS (c ∷ u) r).1 ≡ Some ds = ap (λ q. migrated_pieces q.1) is ∙ more in
    let beside : Alike (run_token_by OLD_ROWS (c ∷ u) r).1 ds = subst (λ (q : Token × List ℕ). Alike q.1 ds) (sym is) alike in
    subst (λ (q : Token × List ℕ). Goes c cs q.0 ds) is
    (run-goes c cs u r ds (is_sheet_run (c ∷ u) r) (begins_with 40 (after_while is_blank r)) refl refl (runs c cs blank mark start) behind beside)

front-goes : (c : ℕ) (cs : List ℕ) (token : Token) (rest ds : List ℕ) → is_blank c ≡ false → token_by OLD_ROWS c cs ≡ Some (token, rest) → migrated_pieces rest ≡ Some ds → Alike rest ds → Goes c cs token ds
front-goes c cs token rest ds blank e more alike = of (begins_run c) (begins_number (c ∷ cs)) (c == 34) (c == 39) (c == 35) refl refl refl refl refl
  where
    mark : (c == 33) ≡ false
    mark = no-mark c cs token rest e

    of : (a b d f g : Bool) → begins_run c ≡ a → begins_number (c ∷ cs) ≡ b → (c == 34) ≡ d → (c == 39) ≡ f → (c == 35) ≡ g → Goes c cs token ds
    of true b d f g run number text name fault = run-front_goes c cs token rest ds blank mark run e more alike
    of false true d f g run number text name fault =
        let found : Some (tok.Number (take (number_length (c ∷ cs)) (c ∷ cs)), drop (number_length (c ∷ cs)) (c ∷ cs)) ≡ Some (token, rest) =
        sym (cond-false (begins_run c) _ _ run ∙ cond-true (begins_number (c ∷ cs)) _ _ number) ∙ e in
        let front = some-front _ _ found in
        let same : drop (number_length (c ∷ cs)) (c ∷ cs) ≡ rest = ap (λ (f : Token × List ℕ). f.1) front in
        let is_number : tok.Number (take (number_length (c ∷ cs)) (c ∷ cs)) ≡ token = ap (λ (f : Token × List ℕ). f.0) front in
        subst (λ t. Goes c cs t ds) is_number (number-goes c cs ds blank mark run number (ap migrated_pieces same ∙ more) (ap first_byte same ∙ alike.first))
    of false false true f g run number text name fault =
        let is : c ≡ 34 = eqb-true c 34 text in
        let found : option_map text_token (quoted 34 cs) ≡ Some (token, rest) = ap (λ x. token_by OLD_ROWS x cs) (sym is) ∙ e in
        subst (λ x. Goes x cs token ds) (sym is) (text-goes cs rest ds token (quoted 34 cs) refl found more alike.first)
    of false false false true g run number text name fault =
        let is : c ≡ 39 = eqb-true c 39 name in
        let found : option_and_then sheet_token (quoted 39 cs) ≡ Some (token, rest) = ap (λ x. token_by OLD_ROWS x cs) (sym is) ∙ e in
        subst (λ x. Goes x cs token ds) (sym is) (name-goes cs rest ds token (quoted 39 cs) refl found more alike.first)
    of false false false false true run number text name fault =
        let is : c ≡ 35 = eqb-true c 35 fault in
        let found : option_map (fault_token (35 ∷ cs)) (find (begins_with_fault (35 ∷ cs)) faults) ≡ Some (token, rest) = ap (λ x. token_by OLD_ROWS x cs) (sym is) ∙ e in
        subst (λ x. Goes x cs token ds) (sym is) (fault-goes cs rest ds token (find (begins_with_fault (35 ∷ cs)) faults) refl found more)
    of false false false false false run number text name fault =
        let sign : IsSign c cs = record { run = run; number = number; text = text; name = name; fault = fault } in
        let found : sign_token (pair_op c cs) c cs ≡ Some (token, rest) = sym (sign-token OLD_ROWS c cs sign) ∙ e in
        sign-goes c cs (pair_op c cs) (byte_token c) token rest ds blank mark sign refl refl found (sign-becomes (pair_op c cs) (byte_token c) refl refl found) more alike.first
      where
        sign-becomes : (o : Option Op) (t : Option Token) → pair_op c cs ≡ o → byte_token c ≡ t → sign_token o c cs ≡ Some (token, rest) → Becomes token token
        sign-becomes (Some o) t pair byte found = let same : tok.Operator o ≡ token = ap (λ (f : Token × List ℕ). f.0) (some-front _ _ found) in subst (λ x. Becomes x x) same refl
        sign-becomes None t pair byte found = sign-itself c cs token rest found

-- the text of a formula that has tokens becomes one that has them too
pub record TextGoes (cs : List ℕ) (tokens : List Token) : Type 0 where
  pub text : List ℕ
  pub others : List Token
  pub made : migrated_pieces cs ≡ Some text
  pub lexes : tokens_by ROWS text ≡ Some others
  pub become : Become tokens others
  pub alike : Alike cs text

blank-first : (c : ℕ) (cs : List ℕ) → is_blank c ≡ true → after_while is_blank (c ∷ cs) ≡ after_while is_blank cs
blank-first c cs b = behind-more is_blank c cs b

other-first : (c : ℕ) (cs : List ℕ) → is_blank c ≡ false → after_while is_blank (c ∷ cs) ≡ c ∷ cs
other-first c cs b = behind-none is_blank c cs b

blank-goes : (c : ℕ) (cs : List ℕ) (tokens : List Token) → is_blank c ≡ true → TextGoes cs tokens → TextGoes (c ∷ cs) tokens
blank-goes c cs tokens blank t =
    let start : begins_run c ≡ false = grind (arith, nat_tests, blank) in
    record {
      text = c ∷ t.text;
      others = t.others;
      made = made c cs cs t.text (c ∷ []) (cond-true (is_blank c || c == 33) _ _ (or-first (is_blank c) (c == 33) blank)) (before-plain c cs cs (c ∷ []) refl (no_run-no_gap c cs start)) t.made;
      lexes = tokens_by-blank ROWS c t.text blank ∙ t.lexes;
      become = t.become;
      alike = record {
        first = refl;
        no_sheet = grind (arith, nat_tests, blank);
        call = ap (begins_with 40) (blank-first c cs blank) ∙ t.alike.call ∙ ap (begins_with 40) (sym (blank-first c t.text blank));
      };
    }

token-goes : (c : ℕ) (cs rest : List ℕ) (token : Token) (tokens : List Token) → is_blank c ≡ false → token_by OLD_ROWS c cs ≡ Some (token, rest) → TextGoes rest tokens → TextGoes (c ∷ cs) (token ∷ tokens)
token-goes c cs rest token tokens blank e t =
    let g = front-goes c cs token rest t.text blank e t.made t.alike in
    record {
      text = c ∷ g.tail;
      others = g.becomes ∷ t.others;
      made = g.made;
      lexes = tokens_by-token ROWS c g.tail g.becomes t.text blank g.lexes ∙ ap (option_map (λ tokens. g.becomes ∷ tokens)) t.lexes;
      become = (g.same, t.become);
      alike = record {
        first = refl;
        no_sheet = no-mark c cs token rest e;
        call = ap (begins_with 40) (other-first c cs blank) ∙ ap (begins_with 40) (sym (other-first c g.tail blank));
      };
    }

text-goes-in : (n : ℕ) (cs : List ℕ) (tokens : List Token) → length cs < n → tokens_by OLD_ROWS cs ≡ Some tokens → TextGoes cs tokens
text-goes-in zero cs tokens h e = absurd (omega arith)
text-goes-in (suc n) [] tokens h e =
    let none : [] ≡ tokens = let nil = tokens_by-nil OLD_ROWS in cc in
    subst (λ t. TextGoes [] t) none (record { text = []; others = []; made = migrated-none; lexes = tokens_by-nil ROWS; become = tt; alike = record { first = refl; no_sheet = refl; call = refl } })
text-goes-in (suc n) (c ∷ cs) tokens h e = by (is_blank c) (token_by OLD_ROWS c cs) refl refl (text-goes-in n)
  where
    more : ((ds : List ℕ) (others : List Token) → length ds < n → tokens_by OLD_ROWS ds ≡ Some others → TextGoes ds others)
        → (token : Token) (rest : List ℕ) (others : Option (List Token)) → is_blank c ≡ false → token_by OLD_ROWS c cs ≡ Some (token, rest) → length rest ≤ length cs → tokens_by OLD_ROWS rest ≡ others
        → option_map (λ tokens. token ∷ tokens) others ≡ Some tokens → TextGoes (c ∷ cs) tokens
    more go token rest None b f short o all = cc
    more go token rest (Some others) b f short o all =
        let same : token ∷ others ≡ tokens = cc in
        subst (λ t. TextGoes (c ∷ cs) t) same (token-goes c cs rest token others b f (go rest others (omega arith) o))

    by : (b : Bool) (front : Front) → is_blank c ≡ b → token_by OLD_ROWS c cs ≡ front
        → ((ds : List ℕ) (others : List Token) → length ds < n → tokens_by OLD_ROWS ds ≡ Some others → TextGoes ds others) → TextGoes (c ∷ cs) tokens
    by true front b f go = blank-goes c cs tokens b (go cs tokens (omega arith) (sym (tokens_by-blank OLD_ROWS c cs b) ∙ e))
    by false None b f go = let none = tokens_by-other OLD_ROWS c cs b f in cc
    by false (Some (token, rest)) b f go =
        let short : Short (length cs) (Some (token, rest)) = rw f at (token_by-shorter OLD_ROWS c cs) in
        more go token rest (tokens_by OLD_ROWS rest) b f short refl (sym (tokens_by-token OLD_ROWS c cs token rest b f) ∙ e)

pub text_goes : (cs : List ℕ) (tokens : List Token) → tokens_by OLD_ROWS cs ≡ Some tokens → TextGoes cs tokens
text_goes cs tokens e = text-goes-in (length cs + 1) cs tokens (omega arith) e
