-- A field of UTF-8 is its text, and another has none.
use Rattle.std.proofs.Common.{◌∙◌, ap}
use Rattle.std.specs.Option.{option_copied}
use Rattle.script_lang.proofs.FieldForms.{text_of_utf8}
use Rattle.script_lang.proofs.form.as_text.Goals as goal

pub returns : goal.returns
returns c = ap option_copied c.ok.ensures.value ∙ text_of_utf8 _ c.args.field.now c.from_utf8.result c.from_utf8.ensures.cases
