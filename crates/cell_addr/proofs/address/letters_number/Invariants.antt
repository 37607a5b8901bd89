use Rattle.std.proofs.Common.{◌≡◌, ◌≤◌, take}
use Rattle.cell_addr.specs.Address.{letters_number}
use Rattle.cell_addr.proofs.address.letters_number.Given as goal

abbrev pub invariant-letters : goal.invariant-letters
invariant-letters l = record {
  spelled : l.number ≡ letters_number (take l.c-index l.text);
  none : l.c-index ≤ 0 → l.number ≤ 0;
  one : l.c-index ≤ 1 → l.number ≤ 255;
  two : l.c-index ≤ 2 → l.number ≤ 6885;
}
