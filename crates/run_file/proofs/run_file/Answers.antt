-- A refused file ends the run; one that was accepted goes through the stages.
use Prim.Native.Nat.{◌/◌}
use lib.ListN.{length}
use Rattle.lists.proofs.Outcomes.{not_both}
use Rattle.load.specs.Load.{Loaded}
use Rattle.run.specs.Run.{Rooms}
use Rattle.run.specs.Outputs.{room_lent}
use Rattle.run_file.specs.RunFile.{rooms_in}
use Rattle.run_file.proofs.Parts.{loads, stored, run_refused, run_goes}
use Rattle.run_file.proofs.run_file.Goals as goal

pub returns-in-Err-clause-run : goal.returns-in-Err-clause-run
returns-in-Err-clause-run c =
    let a = c.args in
    let rooms : Loaded → Rooms = λ t. rooms_in a.file.now a.most.names a.most.bytes a.table.now.room (length a.out.now.units.now / 8) (room_lent a.out.now) t in
    record { is = run_refused c.prepare.ensures.ready c.in-Err.is rooms; holds = tt; loaded = λ e q. absurd (not_both q) }

pub loaded_in-requires : goal.loaded_in-requires
loaded_in-requires c = let p = c.prepare in stored p.ensures.ready c.in-Ok.is p.new.columns.long.images_long

pub run_tables-ran-requires : goal.run_tables-ran-requires
run_tables-ran-requires c = (c.loaded_in.ensures.ready _ c.index.ensures, c.requires)

pub returns-clause-run : goal.returns-clause-run
returns-clause-run c =
    let a = c.args in
    let rooms : Loaded → Rooms = λ t. rooms_in a.file.now a.most.names a.most.bytes a.table.now.room (length a.out.now.units.now / 8) (room_lent a.out.now) t in
    let p = c.prepare.ensures.ready in
    let l = c.loaded_in.ensures in
    let e = rw (l.file_is, l.tables_are) at c.run_tables-ran.ensures.run in
    let told = c.in-Ok.is in
    record { is = run_goes p told rooms e.0; holds = e.1; loaded = λ x q. loads p told }
