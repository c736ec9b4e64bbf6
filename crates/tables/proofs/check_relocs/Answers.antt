-- A relocation's fault, found by the column, is the definition's; one without a fault leaves its floor there.
use Rattle.std.proofs.Common.{◌<◌, arith, length}
use Rattle.std.proofs.lemmas.List.{length-map}
use Rattle.obj.proofs.Errors.{is_err}
use Rattle.obj.specs.Records.{reloc_at}
use Rattle.obj.specs.Nothing.{no_reloc}
use Rattle.tables.specs.Records.{relocs_in}
use Rattle.tables.proofs.Loops.{going, stops, goes_on, passes_all}
use Rattle.tables.proofs.Lookups.{found}
use Rattle.tables.proofs.Floors.{no_floors, floors_more, reloc_fault_here, reloc_passed}
use Rattle.tables.proofs.check_relocs.Goals as goal

pub loop-i-init : goal.loop-i-init
loop-i-init c = record { going = going; left = no_floors _ (length c.args.floors.now) (c.fill.ensures.after (λ y e. e)) }

pub returns-in_err-reloc_fault : goal.returns-in_err-reloc_fault
returns-in_err-reloc_fault c =
    let a = c.args in
    let l = c.loop-i in
    rw (is_err _ c.from_residual.ensures.1)
    (stops l.invariant.going c.loop-i-test.true
    (reloc_fault_here a.heads.now.bytes.now a.heads.now.places.now _ a.table.now.bytes.now a.table.now.places.now _ l.floors (rw c.of-relocs.ensures at c.record-r.ensures) (rw c.of-sections.ensures at c.in_err-reloc_fault.ensures) l.invariant.left c.loop-i-test.true))

pub overflow_add-floors : goal.overflow_add-floors
overflow_add-floors c =
    let a = c.args in
    omega (arith, reloc_passed a.heads.now.bytes.now a.heads.now.places.now a.symbols a.table.now.bytes.now a.table.now.places.now c.loop-i.i c.loop-i.floors (rw c.of-relocs.ensures at c.record-r.ensures) (rw c.of-sections.ensures at c.in_ok-reloc_fault.ensures))

pub bounds-floors-r : goal.bounds-floors-r
bounds-floors-r c =
    let a = c.args in
    omega (arith, reloc_passed a.heads.now.bytes.now a.heads.now.places.now a.symbols a.table.now.bytes.now a.table.now.places.now c.loop-i.i c.loop-i.floors (rw c.of-relocs.ensures at c.record-r.ensures) (rw c.of-sections.ensures at c.in_ok-reloc_fault.ensures))

pub loop-i-preserved : goal.loop-i-preserved
loop-i-preserved c =
    let a = c.args in
    let l = c.loop-i in
    let r = found (reloc_at a.table.now.bytes.now) a.table.now.places.now l.i no_reloc c.loop-i-test.true (rw c.of-relocs.ensures at c.record-r.ensures) in
    let h : l.i < length (relocs_in a.table.now.bytes.now a.table.now.places.now) = rw (length-map a.table.now.places.now (reloc_at a.table.now.bytes.now)) c.loop-i-test.true in
    let passed = reloc_passed a.heads.now.bytes.now a.heads.now.places.now a.symbols a.table.now.bytes.now a.table.now.places.now l.i l.floors (rw c.of-relocs.ensures at c.record-r.ensures) (rw c.of-sections.ensures at c.in_ok-reloc_fault.ensures) in
    record {
      going = goes_on l.invariant.going c.loop-i-test.true
          (reloc_fault_here a.heads.now.bytes.now a.heads.now.places.now _ a.table.now.bytes.now a.table.now.places.now _ l.floors (rw c.of-relocs.ensures at c.record-r.ensures) (rw c.of-sections.ensures at c.in_ok-reloc_fault.ensures) l.invariant.left c.loop-i-test.true);
      left = floors_more (relocs_in a.table.now.bytes.now a.table.now.places.now) _ _ l.invariant.left h r (omega (arith, passed.0));
    }

pub returns : goal.returns
returns c = passes_all c.loop-i.invariant.going c.loop-i-test.false
