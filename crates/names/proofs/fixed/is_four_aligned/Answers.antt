use Rattle.std.proofs.Common.{[], ◌∷◌}
use Rattle.names.specs.Fixed.{codes, is_four_aligned}
use Rattle.names.proofs.Spelled.{any_same, spelled_after}
use Rattle.names.proofs.fixed.is_four_aligned.Goals as goal

pub returns : goal.returns
unfolding codes any_same is_four_aligned
returns c =
    rw (c.same.ensures, c.same-2.ensures, c.same-3.ensures, c.same-4.ensures)
    (spelled_after ".ctors" (".dtors" ∷ "extab" ∷ "extabindex" ∷ []) c.args.name.now)
