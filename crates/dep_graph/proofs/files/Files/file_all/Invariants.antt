use Rattle.std.proofs.Common.{◌≡◌, true, take}
use Rattle.std.specs.List.{list_any}
use Rattle.place_lines.specs.declared.spot.LineSpot.{LineSpot}
use Rattle.dep_graph.specs.internal.Files.{FilesCells, finds_filing, in_area, in_row}
use Rattle.dep_graph.proofs.files.Files.file_all.Given as goal

-- the cells of the runs gone by find the filing
abbrev pub invariant-rows : goal.invariant-rows
invariant-rows l = record {
  current : l.self.current ≡ l.fn.self.current;
  owners : l.self.owners ≡ l.fn.self.owners;
  serves : l.self.serves ≡ l.fn.self.serves;
  filed : FilesCells (in_area l.sheet l.rows l.cols) l.filing l.fn.self l.self;
  found : (spot : LineSpot) → list_any (λ run. in_row l.sheet run l.cols spot) (take l.run-index l.rows) ≡ true → finds_filing l.self spot l.filing ≡ true;
}
