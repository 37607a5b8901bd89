-- The numbers that were found are in their ranges.
use Rattle.std.proofs.Common.{◌≡◌, true}
use Rattle.std.specs.Option.{option_copied}
use Rattle.command_words.specs.Words.{is_accepted}
use Rattle.command_words.specs.internal.Found.{given, texts}
use Rattle.command_words.proofs.Meanings.{numbers-pass}
use Rattle.command_words.proofs.reading.said_beside.Goals as goal

pub undo_limit_of-requires : goal.undo_limit_of-requires
undo_limit_of-requires c =
    let found = given (option_copied c.value_of-undo_limit.result) c.is_true-strict.result (option_copied c.value_of-script.result) (option_copied c.value_of-generate.result) (texts c.args.books.now) in
    let told : c.is_accepted.result ≡ is_accepted found = c.is_accepted.ensures in
    let kept = c.if-not-is_accepted.false in
    let is : is_accepted found ≡ true = cc in
    (numbers-pass found is).0

pub size_of-requires : goal.size_of-requires
size_of-requires c =
    let found = given (option_copied c.value_of-undo_limit.result) c.is_true-strict.result (option_copied c.value_of-script.result) (option_copied c.value_of-generate.result) (texts c.args.books.now) in
    let told : c.is_accepted.result ≡ is_accepted found = c.is_accepted.ensures in
    let kept = c.if-not-is_accepted.false in
    let is : is_accepted found ≡ true = cc in
    (numbers-pass found is).1
