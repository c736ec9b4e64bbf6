-- The columns are long enough, and what the loader ensures is its answer.
use Rattle.std.proofs.Common.{arith}
use Rattle.entry_check_file.proofs.Laws.{room, answers_main}
use Rattle.entry_check_file.proofs.answer_of.Goals as goal

pub load_file-requires : goal.load_file-requires
load_file-requires c = room c.main_ceilings.ensures (omega arith) (omega arith) (omega arith) (omega arith)

pub returns : goal.returns
returns c = answers_main c.main_ceilings.ensures c.load_file.ensures
