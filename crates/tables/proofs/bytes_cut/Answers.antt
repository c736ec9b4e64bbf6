-- `tables::bytes_cut` meets its contract: the code joins the definition's tests in its order.
-- Assumes nothing.
use Rattle.tables.proofs.Faults.{bytes_cut_is}
use Rattle.tables.proofs.bytes_cut.Goals as goal

pub returns : goal.returns
returns c =
    rw c.is_bss.ensures (bytes_cut_is c.args.places.now _ _ _ c.image_place-start.ensures)
