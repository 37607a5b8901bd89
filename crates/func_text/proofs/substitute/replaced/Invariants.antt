use Rattle.std.proofs.Common.{◌≡◌, ◌+◌, ◌≤◌, ◌++◌, IsUtf8, chars, encode_utf8_all, length, string_bytes}
use Rattle.func_text.specs.Substitute.{replaced}
use Rattle.func_text.proofs.substitute.replaced.Given as goal

abbrev pub invariant-occurrences : goal.invariant-occurrences
invariant-occurrences l = record {
  utf8 : IsUtf8 l.rest;
  whole : string_bytes l.kept ++ encode_utf8_all (replaced l.which (chars l.old) (chars l.new) l.number 0 (chars l.rest)) ≡ encode_utf8_all (replaced l.which (chars l.old) (chars l.new) 1 0 (chars l.text));
  number : l.number + length l.rest ≤ 1 + length l.text;
}

abbrev pub decreases-occurrences : goal.decreases-occurrences
decreases-occurrences l = length l.rest
