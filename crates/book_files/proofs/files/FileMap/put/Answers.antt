-- A file that was put is found by its name, and each other one as before.
use Rattle.book_files.proofs.FileFacts.{put-file}
use Rattle.book_files.proofs.files.FileMap.put.Goals as goal

pub returns-clause-ok : goal.returns-clause-ok
returns-clause-ok c = put-file c.args.self.now.files c.insert.new.self c.in_ok-key.key c.args.name.now c.args.bytes c.in_ok-key.ensures.ok c.in_ok-insert.ensures.updates
