use Rattle.std.proofs.Common.{◌≡◌, true, take}
use Rattle.std.specs.List.{list_any}
use Rattle.place_lines.specs.declared.spot.LineSpot.{LineSpot}
use Rattle.dep_graph.specs.internal.Files.{FilesCells, finds_filing, in_row, in_run}
use Rattle.dep_graph.proofs.files.Files.file_row.Given as goal

-- the cells of the runs gone by find the filing
abbrev pub invariant-cols : goal.invariant-cols
invariant-cols l = record {
  current : l.self.current ≡ l.fn.self.current;
  owners : l.self.owners ≡ l.fn.self.owners;
  serves : l.self.serves ≡ l.fn.self.serves;
  filed : FilesCells (in_row l.sheet l.rows l.cols) l.filing l.fn.self l.self;
  found : (spot : LineSpot) → list_any (λ run. in_run l.sheet l.rows run spot) (take l.run-index l.cols) ≡ true → finds_filing l.self spot l.filing ≡ true;
}
