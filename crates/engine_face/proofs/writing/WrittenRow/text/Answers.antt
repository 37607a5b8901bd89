use Rattle.engine_face.specs.internal.Rising.{bytes_told}
use Rattle.engine_face.proofs.Rising.{read_so}
use Rattle.engine_face.proofs.writing.WrittenRow.text.Goals as goal

pub returns-in-Some : goal.returns-in-Some
returns-in-Some c = read_so c.in-Some.bytes.now (bytes_told c.args.texts.now c.args.self.now) c.from_utf8.result c.from_utf8.ensures.text c.from_utf8.ensures.utf8 c.in-Some.ensures
