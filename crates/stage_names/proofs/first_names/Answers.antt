-- `stage_names::first_names` meets its contract: a name below n lies where it lay. Assumes nothing.
use Rattle.stage_names.proofs.First.{first_named, first_are}
use Rattle.stage_names.proofs.first_names.Goals as goal

pub returns-clause-named : goal.returns-clause-named
returns-clause-named c = let n = c.args.names.now in first_named n.bytes.now n.places.now n.lengths.now c.args.n c.requires

pub returns-clause-names : goal.returns-clause-names
returns-clause-names c = let n = c.args.names.now in first_are n.bytes.now n.places.now n.lengths.now c.args.n c.requires
