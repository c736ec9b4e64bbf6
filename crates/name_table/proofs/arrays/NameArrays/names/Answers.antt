-- `name_table::NameArrays::names` meets its contract: the fronts of the columns hold the names. Assumes nothing.
use Rattle.name_table.proofs.Laws.{readable}
use Rattle.name_table.proofs.arrays.NameArrays.names.Goals as goal

pub returns-clause-readable : goal.returns-clause-readable
returns-clause-readable c = readable _ _ _ _ _ _ _ c.requires
