use Rattle.std.proofs.Common.{[], ◌∷◌, ◌∙◌}
use Rattle.names.specs.Fixed.{codes, is_pointer_list}
use Rattle.names.proofs.Spelled.{spelled_one}
use Rattle.names.proofs.fixed.is_pointer_list.Goals as goal

pub returns : goal.returns
unfolding codes is_pointer_list
returns c = c.is_one_of.ensures ∙ spelled_one (".ctors" ∷ ".dtors" ∷ []) c.args.name.now
