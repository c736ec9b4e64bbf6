-- `load::keep_reloc` meets its contract: two stores, by what was read.
-- Assumes nothing.
use native.Mathlib.Omega.{arith}
use lib.ListN.{length-set}
use Rattle.load.proofs.Keeping.{slot_low}
use Rattle.load.proofs.keep_reloc.Goals as goal

pub keep_place-requires : goal.keep_place-requires
keep_place-requires c =
    (c.requires.0, c.requires.1, simp length-set (omega (arith, slot_low 4 c.args.n c.requires.0, c.requires.2.long)))
