-- `srecord_lines::share_address` meets its contract. The tests say that some address is in both.
-- Assumes nothing.
use Rattle.srecord_lines.proofs.Laws.{share_is}
use Rattle.srecord_lines.proofs.share_address.Goals as goal

pub returns : goal.returns
returns c = rw (c.is_bss.ensures, c.is_bss-2.ensures, c.from.ensures, c.end.ensures, c.from-2.ensures, c.end-2.ensures) (share_is c.args.s c.args.t)
