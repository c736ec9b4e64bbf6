-- The digits of a section's number end where the two zeros before them do.
use Rattle.std.proofs.Common.{arith}
use Rattle.names.specs.Fixed.{codes}
use Rattle.names.proofs.Gaps.{two-digits, short-decimal}
use Rattle.names.proofs.gap_name.put_section.Goals as goal

pub write_digits-requires : goal.write_digits-requires
write_digits-requires c = (rw c.from.ensures (short-decimal _ c.requires.1), omega (arith, c.requires.0, c.put_bytes.auto.out))

pub returns : goal.returns
unfolding codes
returns c =
    let a = c.args in
    let w = c.write_digits.ensures in
    two-digits a.section _ _ _ _ c.requires.1 c.requires.0 c.put_bytes.ensures (rw c.from.ensures at w.start) (rw c.from.ensures at w.written) w.before
