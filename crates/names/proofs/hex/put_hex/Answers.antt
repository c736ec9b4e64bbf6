-- `names::hex::put_hex`: the two stores are the digits of the byte's halves.
use Rattle.names.specs.GapName.{hexes}
use Rattle.names.proofs.hex.put_hex.Goals as goal
use native.Mathlib.Numerals.{add-one}

pub returns : goal.returns
unfolding hexes
returns c = rw (c.digit_of.ensures, c.digit_of-2.ensures, c.from.ensures, c.from-2.ensures, add-one)
