-- `splits::bits_of` meets its contract: the bits are one more than the trailing zeros of a good alignment.
-- Assumes nothing.
use mathlib.Core.Path.{◌≡◌, sym, ap, ◌∙◌}
use mathlib.Core.Bool.{true}
use Prim.Native.Nat.{◌≤◌}
use native.Mathlib.Numerals.{add-one}
use native.Mathlib.Omega.{arith}
use lib.Count.{count_trailing_zeros}
use Rattle.align.specs.Align.{good_align}
use Rattle.align.proofs.Laws.{not_bad, good_exponent}
use Rattle.splits.specs.Columns.{alignment_of}
use Rattle.splits.proofs.Alignment.{alignment_none, alignment_good, alignment_bits}
use Rattle.splits.proofs.bits_of.Goals as goal
use Rattle.splits.proofs.bits_of.Goals.{Else-alignment-eq0}

-- an alignment that is given is good
given-good : (c : Else-alignment-eq0) → good_align c.args.alignment ≡ true
given-good c = not_bad c.args.alignment (alignment_good c.args.alignment c.requires) c.if-alignment-eq0.false

small : (c : Else-alignment-eq0) → count_trailing_zeros 32 c.args.alignment ≤ 16
small c = good_exponent c.args.alignment (given-good c)

pub returns-then-alignment-eq0 : goal.returns-then-alignment-eq0
returns-then-alignment-eq0 c = (alignment_none ∙ sym c.if-alignment-eq0.true, omega arith)

pub returns : goal.returns
returns c =
    (ap alignment_of (add-one (count_trailing_zeros 32 c.args.alignment)) ∙ alignment_bits c.args.alignment (given-good c), omega (arith, small c))
