use Rattle.std.proofs.Common.{◌≡◌, true, take}
use Rattle.std.specs.List.{list_any}
use Rattle.place_lines.specs.declared.spot.LineSpot.{LineSpot}
use Rattle.dep_graph.specs.internal.Files.{FilesCells, finds_filing}
use Rattle.dep_graph.specs.internal.Wholes.{on_run, on_runs}
use Rattle.dep_graph.proofs.files.Files.file_runs.Given as goal

-- the cells on the runs gone by find the filing
abbrev pub invariant-runs : goal.invariant-runs
invariant-runs l = record {
  current : l.self.current ≡ l.fn.self.current;
  owners : l.self.owners ≡ l.fn.self.owners;
  serves : l.self.serves ≡ l.fn.self.serves;
  filed : FilesCells (on_runs l.sheet l.axis l.runs) l.filing l.fn.self l.self;
  found : (spot : LineSpot) → list_any (λ run. on_run l.sheet l.axis run spot) (take l.run-index l.runs) ≡ true → finds_filing l.self spot l.filing ≡ true;
}
