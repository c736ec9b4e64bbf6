-- `names::table::append` meets its contract. The code's test is the definition's; where it fails there is room, and the name's bytes lie
-- behind all others. Assumes nothing.
use Rattle.lists.specs.Rows.{any_of, any_from}
use Rattle.names.specs.Append.{table_full}
use Rattle.names.proofs.Appends.{appended_none, appended_one}
use Rattle.names.proofs.table.append.Goals as goal

pub returns-then-most-n : goal.returns-then-most-n
unfolding table_full any_of any_from
returns-then-most-n c =
    appended_none (record { bytes = c.args.bytes.now; places = c.args.places.now; lengths = c.args.lengths.now }) _ _ _ _ _ c.if-most-n.true

pub returns : goal.returns
unfolding table_full any_of any_from
returns c =
    appended_one (record { bytes = c.args.bytes.now; places = c.args.places.now; lengths = c.args.lengths.now }) _ _ _ _ _ c.if-most-n.false c.requires.3 c.put_bytes.ensures
