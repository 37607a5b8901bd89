use Rattle.book_files.specs.Laws.{records_in}
use Rattle.book_files.proofs.FieldLists.{all-fields}
use Rattle.book_files.proofs.FirstFaults.{answered-exactly}
use Rattle.book_files.proofs.laws.faults_are_the_first.Goals as goal

pub returns : goal.returns
returns c = ((λ bytes. all-fields (records_in bytes)), (λ name bytes filled e. answered-exactly name bytes filled e))
