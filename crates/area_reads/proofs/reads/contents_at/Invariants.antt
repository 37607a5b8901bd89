use Rattle.std.proofs.Common.{◌≡◌, take}
use Rattle.book_model.specs.Workbook.{State}
use Rattle.book_engine.specs.Engine.{StandsFor}
use Rattle.area_reads.specs.Reads.{AreQuiet, contents_at}
use Rattle.area_reads.proofs.reads.contents_at.Given as goal

-- the texts of the places gone by were read
abbrev pub invariant-places : goal.invariant-places
invariant-places g l = record {
  quiet : AreQuiet g.C.Customs.customs l.fn.engine l.engine;
  list : (d : State) → StandsFor g.C.Customs.customs l.fn.engine d → l.list.items ≡ contents_at (take l.at-index l.places) d;
}
