-- How much of its source a run reads. Serves the call of the program.
use Rattle.std.proofs.Common.{◌≡◌, ◌∙◌, sym, ap, subst, refl, arith, ℕ, ◌&&◌, inl, inr, Bool, true, false, cond, List, [], ◌∷◌, ◌++◌, length, drop, Option, Some, None, Result, Ok, Err, nat_lt}
use Rattle.std.specs.Prelude.{◌⊎◌, OnOk, is_none}
use Rattle.std.specs.Io.KnownBytes.{Consumes, IsAtEnd}
use Rattle.std.proofs.lemmas.Bool.{ltb-false}
use Rattle.std.proofs.lemmas.List.{drop_all}
use Rattle.book_files.specs.Folder.{Files}
use Rattle.book_files.specs.Outside.{Loses}
use Rattle.book_model.specs.Given.{GivenSheet}
use Rattle.command_words.specs.Words.{Said}
use Rattle.run_inputs.specs.Ends.{ComesTo, EndsOpening, TakesScript}
use Rattle.run_inputs.specs.Opening.{Told, script_told, sheets_told, told_by}
use Rattle.run_inputs.specs.Outcome.{Outcome, too_long}
use Rattle.run_inputs.specs.declared.ending.Ending.{Ending}
use Rattle.run_inputs.specs.declared.ending.Ending.TheVariants as ending
use Rattle.sheet_cli.specs.Run.{Leaves, WasRead, reads_source, source_left}
use Rattle.sheet_cli.specs.declared.ending.EarlyEnd.{EarlyEnd}
use Rattle.sheet_cli.specs.internal.Ends.{EndPrinted, EndsScript, Reads}
use Rattle.sheet_cli.proofs.Endings.{end_status, told_parts}

and-true : (b : Bool) → b && true ≡ b
and-true true = refl
and-true false = refl

and-false : (b : Bool) → b && false ≡ false
and-false true = refl
and-false false = refl

-- where no list is generated, the script comes from the source exactly where it has no file
pub reads_is : (said : Said) → said.generate ≡ None → reads_source (Some said) ≡ is_none said.script
reads_is said none = rw none (and-true (is_none said.script))

pub reads_not : (said : Said) (n : ℕ) → said.generate ≡ Some n → reads_source (Some said) ≡ false
reads_not said n some = rw some (and-false (is_none said.script))

apart : (n : ℕ) → (n ≡ 4) ⊎ (n ≡ 8) → (n ≡ 0) ⊎ (n ≡ 1) ⊎ (n ≡ 3) → ⊥
apart n a b = grind arith

-- nothing was read
unread : (said : Said) (status : ℕ) (source : Option (List ℕ)) → (reads_source (Some said) ≡ true → (status ≡ 0) ⊎ (status ≡ 1) ⊎ (status ≡ 3) → ⊥) → WasRead (Some said) status source source
unread said status None never = tt
unread said status (Some bytes) never = (λ reads ends. absurd (never reads ends), λ reads. refl, λ is. refl, λ is. inl refl)

-- the run's end came before its script
pub books_unread : (X : Type 0) (said : Said) (e : Ending) (old new source : Option (List ℕ)) (r : Result ℕ EarlyEnd) → EndsOpening {X = X} (Err e) → EndPrinted e old new r → Reads (Some said) source source r
books_unread X said e old new source (Ok status) ends printed = unread said status source (λ reads is. apart status (end_status X e old new status ends printed) is)
books_unread X said e old new source (Err s) ends printed = λ reads. refl

-- a generated list was executed
pub generated_unread : (said : Said) (source : Option (List ℕ)) (r : Result ℕ EarlyEnd) → reads_source (Some said) ≡ false → Reads (Some said) source source r
generated_unread said source (Ok status) never = unread said status source (λ reads is. cc)
generated_unread said source (Err s) never = λ reads. refl

pub generated_leave : (said : Said) (files : Option Files) (source : Option (List ℕ)) (r : Result ℕ EarlyEnd) → reads_source (Some said) ≡ false → OnOk r (Leaves (told_by files source) (source_left (Some said)) source)
generated_leave said files source (Ok status) never = λ t is. rw never (told_parts files source t is).1
generated_leave said files source (Err s) never = tt

after_front : (front ys : List ℕ) → drop (length front) (front ++ ys) ≡ ys
after_front [] ys = refl
after_front (x ∷ front) ys = after_front front ys

taken_off : (n : ℕ) (xs front ys : List ℕ) → xs ≡ front ++ ys → length front ≡ n → ys ≡ drop n xs
taken_off n xs front ys is long = sym (after_front front ys) ∙ ap (λ k. drop k (front ++ ys)) long ∙ ap (drop n) (sym is)

-- one byte more than a run may be told was read
lost : (bytes : List ℕ) (new : Option (List ℕ)) → Loses (Some bytes) new 67108865 → new ≡ Some (drop 67108865 bytes)
lost bytes None loses = absurd loses.1
lost bytes (Some left) loses = ap (λ (zs : List ℕ). Some zs) (taken_off 67108865 bytes loses.0 left loses.1 loses.2)

-- all was read
all_read : (bytes : List ℕ) (new : Option (List ℕ)) → ((bs : List ℕ) × Consumes (Some bytes) new bs) → IsAtEnd new → new ≡ Some []
all_read bytes None consumed end = absurd consumed.1
all_read bytes (Some left) consumed end = ap (λ (zs : List ℕ). Some zs) end

-- the run's end came at its script
pub script_unread : (X : Type 0) (said : Said) (script : Option (List ℕ)) (e : Ending) (old new before after : Option (List ℕ)) (r : Result ℕ EarlyEnd) → reads_source (Some said) ≡ is_none script → TakesScript {X = X} script (Err e) before after → EndsOpening {X = X} (Err e) → EndPrinted e old new r
    → Reads (Some said) before after r
script_unread X said (Some file) e old new before after (Ok status) reads took ends printed = rw took (unread said status before (λ r is. apart status (end_status X e old new status ends printed) is))
script_unread X said (Some file) e old new before after (Err s) reads took ends printed = λ never. took
script_unread X said None (ending.Says text s) old new None after (Ok status) reads took ends printed = tt
script_unread X said None (ending.Says text s) old new (Some bytes) after (Ok status) reads took ends printed =
    let eight : status ≡ 8 = printed.1 ∙ took.1 in
    (λ r is. absurd (apart status (inr eight) is), λ never. cc, λ is. absurd (omega arith), λ is. inr (lost bytes after took.0))
script_unread X said None ending.ReadFault old new before after (Ok status) reads took ends printed = absurd printed
script_unread X said None ending.NoMemory old new before after (Ok status) reads took ends printed = absurd printed
script_unread X said None e old new before after (Err s) reads took ends printed = λ never. cc

-- the script was read
pub script_read : {X : Type 0} (said : Said) (script : Option (List ℕ)) (x : X) (before after : Option (List ℕ)) (r : Result ℕ EarlyEnd) → reads_source (Some said) ≡ is_none script → TakesScript script (Ok x) before after → EndsScript r → Reads (Some said) before after r
script_read said (Some file) x before after (Ok status) reads took ends = rw took (unread said status before (λ r is. cc))
script_read said (Some file) x before after (Err s) reads took ends = λ never. took
script_read said None x None after (Ok status) reads took ends = tt
script_read said None x (Some bytes) after (Ok status) reads took ends =
    (λ r is. all_read bytes after took.0 took.1, λ never. cc, λ is. absurd (apart status (inl is) ends), λ is. absurd (apart status (inr is) ends))
script_read said None x before after (Err s) reads took ends = λ never. cc

-- what is left where the books came to the run's end
pub books_leave : {X : Type 0} (said : Said) (seen : X → List GivenSheet) (e : Ending) (files : Option Files) (source old new : Option (List ℕ)) (r : Result ℕ EarlyEnd) → ((told : Files) → files ≡ Some told → ComesTo seen (sheets_told told said.books) (Err e)) → EndPrinted e old new r
    → OnOk r (Leaves (told_by files source) (source_left (Some said)) source)
books_leave said seen (ending.Says text s) files source old new (Ok status) opens printed = λ t is.
    let parts = told_parts files source t is in
    let ended = opens t.files parts.0 in
    rw (ended, and-false (reads_source (Some said))) parts.1
books_leave said seen ending.ReadFault files source old new (Ok status) opens printed = absurd printed
books_leave said seen ending.NoMemory files source old new (Ok status) opens printed = absurd printed
books_leave said seen e files source old new (Err s) opens printed = tt

-- what is left of a source, where the books are there
left_is : (said : Said) (sheets : List GivenSheet) (script : Option (List ℕ)) (t : Told) (after : Option (List ℕ)) → reads_source (Some said) ≡ is_none script → sheets_told t.files said.books ≡ Ok sheets
    → after ≡ Some (cond (is_none script) (drop 67108865 t.source) t.source) → after ≡ Some (source_left (Some said) t)
left_is said sheets script t after reads books is = rw (reads, books, and-true (is_none script)) is

-- and where the script came to the run's end
pub script_end_leave : (X : Type 0) (said : Said) (sheets : List GivenSheet) (e : Ending) (files : Option Files) (old new before after : Option (List ℕ)) (r : Result ℕ EarlyEnd) → (script : Option (List ℕ)) → reads_source (Some said) ≡ is_none script
    → ((told : Files) → files ≡ Some told → sheets_told told said.books ≡ Ok sheets) → TakesScript {X = X} script (Err e) before after → EndPrinted e old new r → OnOk r (Leaves (told_by files before) (source_left (Some said)) after)
script_end_leave X said sheets e files old new before after (Ok status) (Some file) reads books took printed = λ t is.
    let parts = told_parts files before t is in
    left_is said sheets (Some file) t after reads (books t.files parts.0) (took ∙ parts.1)
script_end_leave X said sheets (ending.Says text s) files old new before after (Ok status) None reads books took printed = λ t is.
    let parts = told_parts files before t is in
    left_is said sheets None t after reads (books t.files parts.0) (lost t.source after (subst (λ b. Loses b after 67108865) parts.1 took.0))
script_end_leave X said sheets ending.ReadFault files old new before after (Ok status) None reads books took printed = absurd printed
script_end_leave X said sheets ending.NoMemory files old new before after (Ok status) None reads books took printed = absurd printed
script_end_leave X said sheets e files old new before after (Err s) script reads books took printed = tt

not_long : (b : Bool) (source bytes : List ℕ) (end : Outcome) → cond b (Err end) (Ok source) ≡ Ok bytes → b ≡ false
not_long true source bytes end is = cc
not_long false source bytes end is = refl

few_left : (source bytes : List ℕ) → cond (nat_lt 67108864 (length source)) (Err too_long) (Ok source) ≡ Ok bytes → drop 67108865 source ≡ []
few_left source bytes is =
    let few = ltb-false 67108864 (length source) (not_long (nat_lt 67108864 (length source)) source bytes too_long is) in
    drop_all 67108865 source (omega (arith, few))

-- and where the script was read
pub script_leave : {X : Type 0} (said : Said) (sheets : List GivenSheet) (seen : X → List ℕ) (x : X) (files : Option Files) (before after : Option (List ℕ)) (r : Result ℕ EarlyEnd) → (script : Option (List ℕ)) → reads_source (Some said) ≡ is_none script
    → ((told : Files) → files ≡ Some told → sheets_told told said.books ≡ Ok sheets) → ((told : Told) → told_by files before ≡ Some told → script_told told script ≡ Ok (seen x)) → TakesScript script (Ok x) before after → OnOk r (Leaves (told_by files before) (source_left (Some said)) after)
script_leave said sheets seen x files before after (Ok status) (Some file) reads books script took = λ t is.
    let parts = told_parts files before t is in
    left_is said sheets (Some file) t after reads (books t.files parts.0) (took ∙ parts.1)
script_leave said sheets seen x files before after (Ok status) None reads books script took = λ t is.
    let parts = told_parts files before t is in
    let none = few_left t.source (seen x) (script t is) in
    let end = all_read t.source after (subst (λ b. (bs : List ℕ) × Consumes b after bs) parts.1 took.0) took.1 in
    left_is said sheets None t after reads (books t.files parts.0) (end ∙ ap (λ (zs : List ℕ). Some zs) (sym none))
script_leave said sheets seen x files before after (Err s) script reads books told took = tt

stops_apart : (n : ℕ) → (n ≡ 5) ⊎ (n ≡ 6) ⊎ (n ≡ 7) → ((n ≡ 0) ⊎ (n ≡ 1) ⊎ (n ≡ 3) → ⊥) × (n ≡ 4 → ⊥) × (n ≡ 8 → ⊥)
stops_apart n stops = (λ is. grind arith, λ is. grind arith, λ is. grind arith)

-- a run was stopped
pub stopped_read : (said : Option Said) (n : ℕ) (s : EarlyEnd) (old new : Option (List ℕ)) → (n ≡ 5) ⊎ (n ≡ 6) ⊎ (n ≡ 7) → Reads said old new (Err s) → WasRead said n old new
stopped_read said n s None new stops reads = tt
stopped_read said n s (Some bytes) new stops reads =
    let other = stops_apart n stops in
    (λ r is. absurd (other.0 is), reads, λ is. absurd (other.1 is), λ is. absurd (other.2 is))
