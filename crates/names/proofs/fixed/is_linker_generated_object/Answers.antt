use Rattle.std.proofs.Common.{◌∙◌}
use Rattle.names.specs.Fixed.{codes, linker_objects, is_linker_object}
use Rattle.names.proofs.Spelled.{spelled_one}
use Rattle.names.proofs.fixed.is_linker_generated_object.Goals as goal

pub returns : goal.returns
unfolding codes is_linker_object
returns c = c.is_one_of.ensures ∙ spelled_one linker_objects c.args.name.now
