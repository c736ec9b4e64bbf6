-- `sections::split_alignment` meets its contract: the alignment of the split in its section.
use Rattle.sections.specs.Alignment.{alignment_from}
use Rattle.sections.proofs.split_alignment.Goals as goal

pub returns : goal.returns
unfolding alignment_from
returns c = rw c.from.ensures at c.alignment_in.ensures
