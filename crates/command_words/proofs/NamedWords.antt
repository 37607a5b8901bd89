-- Words that begin with `--`, by the name behind it. Serves the laws of words.
use Rattle.std.proofs.Common.{◌≡◌, sym, ap, refl, arith, ℕ, suc, ◌+◌, ◌==◌, Bool, true, false, List, [], ◌∷◌, ◌++◌, Option, Some, None}
use Rattle.std.specs.Prelude.{codes}
use Rattle.std.specs.List.{position_or_len}
use Rattle.std.specs.Str.{bytes_eq}
use Rattle.std.proofs.lemmas.Bool.{eqb-true}
use Rattle.std.proofs.lemmas.Slice.Eq.{bytes_eq-Decides}
use Rattle.clap.specs.Lexer.{name_and_value}
use Rattle.clap.specs.Walk.{arg_by_long}
use Rattle.command_words.specs.Items.{OptionName, undo_limit, script, generate, name_text}
use Rattle.command_words.proofs.Walks.{rules}

-- what stands behind the name
abbrev pub behind_name : Option (List ℕ) → List ℕ
behind_name None = []
behind_name (Some value) = codes "=" ++ value

pub spelled : (text : List ℕ) → text ≡ (name_and_value text).0 ++ behind_name (name_and_value text).1
spelled [] = refl
spelled (c ∷ cs) = by (c == 61) refl (spelled cs)
  where
    by : (b : Bool) → c == 61 ≡ b → cs ≡ (name_and_value cs).0 ++ behind_name (name_and_value cs).1 → c ∷ cs ≡ (name_and_value (c ∷ cs)).0 ++ behind_name (name_and_value (c ∷ cs)).1
    by true is rest = rw is (ap (λ k. k ∷ cs) (eqb-true c 61 is))
    by false is rest =
        let one : 1 + position_or_len (λ x. x == 61) cs ≡ suc (position_or_len (λ x. x == 61) cs) = omega arith in
        let two : suc (position_or_len (λ x. x == 61) cs) + 1 ≡ suc (position_or_len (λ x. x == 61) cs + 1) = omega arith in
        rw (is, one, two) (ap (λ t. c ∷ t) rest)

-- the names that the command knows
pub data Named (name : List ℕ) : Type 0 where
  an_option : (option : OptionName) → name ≡ name_text option → Named name
  the_flag : name ≡ codes "strict" → Named name
  unknown : arg_by_long rules name ≡ None → Named name

pub named_as : (name : List ℕ) → Named name
named_as name = by (bytes_eq (codes "undo-limit") name) (bytes_eq (codes "strict") name) (bytes_eq (codes "script") name) (bytes_eq (codes "generate") name) refl refl refl refl
  where
    by : (u f s g : Bool) → bytes_eq (codes "undo-limit") name ≡ u → bytes_eq (codes "strict") name ≡ f → bytes_eq (codes "script") name ≡ s → bytes_eq (codes "generate") name ≡ g → Named name
    by true f s g is_u is_f is_s is_g = an_option undo_limit (sym ((bytes_eq-Decides (codes "undo-limit") name).0 is_u))
    by false true s g is_u is_f is_s is_g = the_flag (sym ((bytes_eq-Decides (codes "strict") name).0 is_f))
    by false false true g is_u is_f is_s is_g = an_option script (sym ((bytes_eq-Decides (codes "script") name).0 is_s))
    by false false false true is_u is_f is_s is_g = an_option generate (sym ((bytes_eq-Decides (codes "generate") name).0 is_g))
    by false false false false is_u is_f is_s is_g = unknown (rw (is_u, is_f, is_s, is_g) refl)
