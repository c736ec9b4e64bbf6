-- A name is refused or stored; what is known of the names before it is known of it too.
use Rattle.std.proofs.Common.{refl, arith}
use Rattle.obj.proofs.Errors.{is_err}
use Rattle.tables.proofs.Loops.{going, stops, goes_on, passes_all, passed_fault}
use Rattle.name_table.proofs.Lent.{lent_same, lent_still}
use Rattle.name_table.proofs.Laws.{stores_all, stores_nothing}
use Rattle.name_table.proofs.take_names.Goals as goal

pub loop-i-init : goal.loop-i-init
loop-i-init c = record { going = going; stored = c.requires.1; lent = lent_same }

pub returns-in_err-name_fault-clause-stored : goal.returns-in_err-name_fault-clause-stored
returns-in_err-name_fault-clause-stored c =
    let fault = rw c.names.ensures.0 at c.in_err-name_fault.ensures in
    rw (is_err _ c.from_residual.ensures.1) (stores_nothing (stops c.loop-i.invariant.going c.loop-i-test.true fault) refl)

pub add_name-requires : goal.add_name-requires
add_name-requires c =
    let fault = rw c.names.ensures.0 at c.in_ok-name_fault.ensures in
    (omega arith, omega (arith, c.requires.0), c.loop-i.invariant.stored, passed_fault _ _ fault)

pub loop-i-preserved : goal.loop-i-preserved
loop-i-preserved c =
    let fault = rw c.names.ensures.0 at c.in_ok-name_fault.ensures in
    record {
      going = goes_on c.loop-i.invariant.going c.loop-i-test.true fault;
      stored = c.add_name.ensures.stored;
      lent = lent_still c.loop-i.invariant.lent c.add_name.ensures.lent;
    }

pub returns-clause-stored : goal.returns-clause-stored
returns-clause-stored c =
    let i = c.loop-i.invariant in
    stores_all (passes_all i.going c.loop-i-test.false) (omega (arith, i.going.within)) i.stored
