-- The names of the two functions are words that no other function has. It serves the registry.
use Rattle.std.proofs.Common.{◌≡◌, refl, [], ◌∷◌, None, codes}
use Rattle.custom_fn.specs.Registry.{refusal_of}
use Rattle.custom_fn.specs.Word.{is_function_word}
use Rattle.tariffs.specs.Tariffs.{postage}

pub postage-is_new : refusal_of [] (codes "POSTAGE") ≡ None
unfolding is_function_word
postage-is_new = refl

pub levy-is_new : refusal_of ((codes "POSTAGE", postage) ∷ []) (codes "LEVY") ≡ None
unfolding is_function_word
levy-is_new = refl
