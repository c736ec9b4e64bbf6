-- The lent tables have document 01's ceilings.
use Rattle.std.specs.Prelude.{OnOk}
use Rattle.std.proofs.Common.{rules, subst}
use Rattle.pieces.specs.declared.Counts.{Counts}
use Rattle.print_run.specs.Printed.{Prints}
use Rattle.print_run.proofs.Ended.{room_is}
use Rattle.print_run.proofs.print_run.Goals as goal

pub returns : goal.returns
returns g c =
    subst (λ (room : Counts). OnOk c.print_with_tables.result (Prints c.args.file.now 1024 room (g.W.Write.contents c.args.out.now) (g.W.Write.contents c.print_with_tables.new.out))) room_is
    (search rules)
