-- The fields are those of the definition.
use Rattle.std.proofs.Common.{◌∙◌}
use Rattle.merge.specs.Merge.{joint_of}
use Rattle.merge.proofs.Decisions.{min_lower, max_higher}
use Rattle.merge.proofs.joint_of.Goals as goal

pub returns : goal.returns
unfolding joint_of
returns c =
    let start = c.min.ensures ∙ min_lower _ _ in
    let end = c.max.ensures ∙ max_higher _ _ in
    let origin = c.min-2.ensures ∙ min_lower _ _ in
    rw (start, end, origin, c.alignment_of_either.ensures, c.joint_flags.ensures)
