-- The fields of a record, one at a time: those from a number on are the field of that number and those after it.
use Rattle.std.proofs.Common.{◌≡◌, ◌∙◌, sym, ap, subst, refl, arith, ℕ, zero, suc, ◌+◌, ◌<◌, List, [], ◌∷◌, length, drop, get_or, add-one, Result, Ok, Err}
use Rattle.std.proofs.Math.Seq.{drop-cons}
use Rattle.csv.specs.Records.{field_at}
use Rattle.script_lang.specs.Arguments.{and_said, read_from, said_by, with_field}
use Rattle.script_lang.specs.Command.{Says}
use Rattle.script_lang.specs.declared.arguments.Arguments.{Arguments}
use Rattle.script_lang.specs.declared.error.ScriptError.{ScriptError}
use Rattle.script_lang.specs.declared.error.ScriptError.TheVariants.{UnknownCommand, FieldCount, BadField, NoMemory}
use Rattle.script_lang.specs.declared.word.FieldKind.{FieldKind}
use Rattle.script_lang.specs.declared.word.FieldKind.TheVariants.{Place}
use Rattle.script_lang.specs.internal.Reading.{field}

from_field : (fields : List (List ℕ)) (k : ℕ) → k < length fields → drop k fields ≡ field fields k ∷ drop (suc k) fields
unfolding field_at
from_field [] k inside = absurd (omega arith)
from_field (f ∷ fs) zero inside = refl
from_field (f ∷ fs) (suc k) inside = from_field fs k (omega arith)

pub fields_from : (fields : List (List ℕ)) (k : ℕ) → k < length fields → drop k fields ≡ field fields k ∷ drop (k + 1) fields
fields_from fields k inside = rw add-one (from_field fields k inside)

drop_from : (kinds : List FieldKind) (i : ℕ) (d : FieldKind) → i < length kinds → drop i kinds ≡ get_or kinds i d ∷ drop (i + 1) kinds
drop_from kinds i d inside = rw (add-one, drop-cons kinds i d) refl

-- the fields from a number on say what the field of that number says, and then what those after it say
reads_next : (kinds : List FieldKind) (fields : List (List ℕ)) (i : ℕ) (a : Arguments) → i < length kinds → i + 1 < length fields
    → read_from (i + 1) (drop i kinds) (drop (i + 1) fields) a
    ≡ and_said (said_by (i + 1) (with_field (get_or kinds i Place) (field fields (i + 1)) a)) (read_from ((i + 1) + 1) (drop (i + 1) kinds) (drop ((i + 1) + 1) fields))
reads_next kinds fields i a k f = rw (fields_from fields (i + 1) f, drop_from kinds i Place k) refl

-- a field that was read: the others still make the whole
pub goes_on : (kinds : List FieldKind) (fields : List (List ℕ)) (i : ℕ) (a b : Arguments) (whole : Result Arguments ScriptError) → i < length kinds → i + 1 < length fields
    → said_by (i + 1) (with_field (get_or kinds i Place) (field fields (i + 1)) a) ≡ Ok b
    → read_from (i + 1) (drop i kinds) (drop (i + 1) fields) a ≡ whole
    → read_from ((i + 1) + 1) (drop (i + 1) kinds) (drop ((i + 1) + 1) fields) b ≡ whole
goes_on kinds fields i a b whole k f read all =
    sym (ap (λ r. and_said r (read_from ((i + 1) + 1) (drop (i + 1) kinds) (drop ((i + 1) + 1) fields))) read) ∙ sym (reads_next kinds fields i a k f) ∙ all

cause_first : (e : ScriptError) (said : Result Arguments ScriptError) (rest : Arguments → Result Arguments ScriptError) → Says (Err e) said → Says (Err e) (and_said said rest)
cause_first UnknownCommand said rest is = rw is refl
cause_first FieldCount said rest is = rw is refl
cause_first (BadField k) said rest is = rw is refl
cause_first NoMemory said rest is = tt

-- a bad field: its cause is that of the whole
pub stops : (e : ScriptError) (kinds : List FieldKind) (fields : List (List ℕ)) (i : ℕ) (a : Arguments) (whole : Result Arguments ScriptError) → i < length kinds → i + 1 < length fields
    → Says (Err e) (said_by (i + 1) (with_field (get_or kinds i Place) (field fields (i + 1)) a))
    → read_from (i + 1) (drop i kinds) (drop (i + 1) fields) a ≡ whole
    → Says (Err e) whole
stops e kinds fields i a whole k f bad all =
    let P : Result Arguments ScriptError → Type 0 = λ r. Says (Err e) r in
    subst P (sym (reads_next kinds fields i a k f) ∙ all) (cause_first e _ (read_from ((i + 1) + 1) (drop (i + 1) kinds) (drop ((i + 1) + 1) fields)) bad)
