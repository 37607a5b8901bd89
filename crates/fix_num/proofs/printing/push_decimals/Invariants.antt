use Rattle.std.proofs.Common.{◌≡◌, ◌-◌, ◌^◌, ◌<◌, ◌++◌, string_bytes}
use Rattle.fix_num.specs.Text.{decimals_of}
use Rattle.fix_num.proofs.printing.push_decimals.Given as goal

abbrev pub invariant-decimals : goal.invariant-decimals
invariant-decimals l = record {
  written : string_bytes l.text ++ decimals_of (6 - l.place) l.rest ≡ string_bytes l.fn.text ++ decimals_of 6 l.fn.millionths;
  below : l.rest < 10 ^ (6 - l.place);
}
