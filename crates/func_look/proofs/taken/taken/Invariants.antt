use Rattle.std.proofs.Common.{◌≡◌, ◌<◌, map, drop}
use Rattle.std.specs.Option.{IfSome}
use Rattle.func_look.specs.Taken.{taken}
use Rattle.func_look.specs.internal.Search.{line_values, search}
use Rattle.func_look.proofs.Line.{line_cells}
use Rattle.func_look.proofs.Search.{placed}
use Rattle.func_look.proofs.taken.taken.Given as goal

abbrev pub invariant-cells : goal.invariant-cells
invariant-cells l = record {
  taken : search l.mode l.sought l.last (map placed (line_cells l.line.step l.line.count (drop l.cell-index l.cell-items))) ≡ taken l.mode l.sought (line_values l.area.values l.line);
  within : IfSome l.last (λ at. at < l.line.count);
}
