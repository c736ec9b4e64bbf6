-- `import_rows::head_of` meets its contract. Assumes nothing.
use Rattle.import_rows.specs.Rows.{head_of}
use Rattle.import_rows.proofs.head_of.Goals as goal

pub returns : goal.returns
unfolding head_of
returns c = cc
