-- `split_obj::walk_sections` meets its contract. Invariants: what is left from this section on, from this split on, gives what the whole gives, and the rest of the
-- halving gives what the whole halving gives; each way out is a law of proofs/Carried.antt. Assumes nothing.
use Prim.Native.Nat.{◌-◌}
use lib.ListN.{length}
use Rattle.std.specs.Prelude.{unwrap_or}
use Rattle.splits.specs.Table.{columns_of}
use Rattle.pieces.specs.Tables.{SameLent}
use Rattle.walk.specs.Walk.{halved, walk_sections}
use Rattle.walk.specs.Giving.{output_of}
use Rattle.split_obj.proofs.Halving.{Halving}
use Rattle.split_obj.proofs.Carried.{tables_input, AtSection, AtSplit, splits_left}
use Rattle.split_obj.proofs.walk_sections.Given as goal

abbrev pub invariant-loop-a : goal.invariant-loop-a
invariant-loop-a l = Halving (halved 16 l.alignment l.current) l.current l.a

abbrev pub decreases-loop-a : goal.decreases-loop-a
decreases-loop-a l = l.a

abbrev pub invariant-loop-current : goal.invariant-loop-current
invariant-loop-current l =
    AtSplit (tables_input l.obj.symbols.bytes.now l.obj.symbols.places.now l.obj.names.bytes.now l.obj.names.places.now l.obj.names.lengths.now l.obj.heads.bytes.now l.obj.heads.places.now l.image.bytes.now l.image.places.now l.relocs.bytes.now l.relocs.places.now (columns_of l.splits) l.splits.count l.units.table.bytes.now l.units.table.places.now l.tables.room)
    (splits_left (tables_input l.obj.symbols.bytes.now l.obj.symbols.places.now l.obj.names.bytes.now l.obj.names.places.now l.obj.names.lengths.now l.obj.heads.bytes.now l.obj.heads.places.now l.image.bytes.now l.image.places.now l.relocs.bytes.now l.relocs.places.now (columns_of l.splits) l.splits.count l.units.table.bytes.now l.units.table.places.now l.initial.tables.room) l.last l.n l.low l.end (columns_of l.splits) l.splits.count l.initial.current (unwrap_or l.initial.i l.splits.count) (output_of l.initial.tables))
    (length l.obj.symbols.places.now) (length l.relocs.places.now) (length l.units.table.places.now) l.last l.n l.low l.end (columns_of l.splits) l.splits.count l.current l.i l.scratch l.part l.tables
    × SameLent l.initial.tables l.tables

abbrev pub decreases-loop-current : goal.decreases-loop-current
decreases-loop-current l = l.splits.count - unwrap_or l.i l.splits.count

abbrev pub invariant-loop-n : goal.invariant-loop-n
invariant-loop-n l =
    AtSection (tables_input l.obj.symbols.bytes.now l.obj.symbols.places.now l.obj.names.bytes.now l.obj.names.places.now l.obj.names.lengths.now l.obj.heads.bytes.now l.obj.heads.places.now l.image.bytes.now l.image.places.now l.relocs.bytes.now l.relocs.places.now (columns_of l.splits) l.splits.count l.units.table.bytes.now l.units.table.places.now l.tables.room)
    (walk_sections (tables_input l.obj.symbols.bytes.now l.obj.symbols.places.now l.obj.names.bytes.now l.obj.names.places.now l.obj.names.lengths.now l.obj.heads.bytes.now l.obj.heads.places.now l.image.bytes.now l.image.places.now l.relocs.bytes.now l.relocs.places.now (columns_of l.splits) l.splits.count l.units.table.bytes.now l.units.table.places.now l.initial.tables.room) l.initial.n (l.last - l.initial.n) (output_of l.initial.tables))
    (length l.obj.symbols.places.now) (length l.relocs.places.now) (length l.units.table.places.now) l.last l.n l.scratch l.part l.tables
    × SameLent l.initial.tables l.tables

abbrev pub decreases-loop-n : goal.decreases-loop-n
decreases-loop-n l = l.last - l.n
