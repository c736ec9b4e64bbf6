-- The record is put behind those that are made, where there is room for it. Assumes nothing.
use Rattle.std.proofs.Common.{refl}
use native.Mathlib.Omega.{arith}
use Rattle.pieces.specs.Pieces.{relocs_in}
use Rattle.pieces.proofs.lent.PieceTables.add_reloc.Goals as goal

pub put_record-requires : goal.put_record-requires
put_record-requires c = let a = c.args in omega (arith, c.requires, a.self.now.fits.relocs_long)

pub returns : goal.returns
unfolding relocs_in
returns c =
    record {
      more = c.put_record.ensures;
      one = refl;
      lent = record { room = refl; pieces = refl; symbols = refl; relocs = refl; pieces_size = refl; symbols_size = refl; relocs_size = c.put_record.auto.out };
      pieces = record { bytes = refl; made = refl };
      symbols = record { bytes = refl; made = refl };
    }
