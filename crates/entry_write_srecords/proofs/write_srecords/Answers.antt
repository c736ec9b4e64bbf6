-- What was written, or refused, is settled; and each slice of `u8` is bytes.
use Rattle.entry_join_pieces.proofs.Laws.{leaves_settled}
use Rattle.entry_write_srecords.proofs.write_srecords.Goals as goal

pub returns : goal.returns
returns c = record { leaves = leaves_settled _ _ c.write_tables-made.ensures c.settle.ensures; small = λ i. (c.type_inv.pieces i).fits }
