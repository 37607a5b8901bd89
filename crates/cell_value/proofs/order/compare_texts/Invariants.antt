-- The bytes still to compare decide, since those before them are equal when folded, and as many of
-- both texts are done.
use Rattle.std.proofs.Common.{◌≡◌, ◌+◌, length}
use Rattle.cell_value.specs.Scalar.{text_order}
use Rattle.cell_value.proofs.order.compare_texts.Given as goal

abbrev pub invariant-bytes : goal.invariant-bytes
invariant-bytes l = record {
  order : text_order l.x-iterator.a.rest.now l.x-iterator.b.rest.now ≡ text_order l.a l.b;
  pace : length l.x-iterator.a.rest.now + length l.b ≡ length l.x-iterator.b.rest.now + length l.a;
}
