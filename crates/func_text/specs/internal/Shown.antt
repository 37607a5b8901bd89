-- What a person sees of an argument, borrowed or made.
use Rattle.std.specs.Prelude.{ℕ, List}
use Rattle.func_text.specs.declared.argument.Shown.{Shown}
use Rattle.func_text.specs.declared.argument.Shown.TheVariants.{Own, Made}

-- the bytes of the text
abbrev pub shown_bytes : Shown → List ℕ
shown_bytes (Own text) = text.now
shown_bytes (Made text) = text
