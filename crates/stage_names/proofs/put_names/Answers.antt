-- Putting the names that are left, behind those that are there, is putting all.
use Rattle.std.proofs.Common.{arith, length, refl, ◌∙◌}
use Rattle.stage_names.proofs.Fits.{putting_start, name_fits, putting_turn, putting_done}
use Rattle.stage_names.proofs.put_names.Goals as goal

pub loop-i-init : goal.loop-i-init
loop-i-init c =
    let a = c.args in
    record {
      putting = putting_start a.names.now.bytes.now a.names.now.places.now a.names.now.lengths.now (length a.names.now.places.now) a.first a.at a.output.now.ends.now a.output.now.bytes.now;
      lent = record { ends = refl; bytes = refl; ends_size = refl; bytes_size = refl };
    }

pub put_bytes-requires : goal.put_bytes-requires
put_bytes-requires c =
    let a = c.args in
    let l = c.loop-i in
    omega (arith, name_fits a.names.now.bytes.now a.names.now.places.now a.names.now.lengths.now (length a.names.now.places.now) a.first a.at a.output.now.ends.now a.output.now.bytes.now l.output.ends.now l.output.bytes.now l.end l.i l.invariant.putting c.loop-i-test.true c.name_at-x.ensures, c.requires.2, l.invariant.putting.same_bytes)

pub overflow_add-end : goal.overflow_add-end
overflow_add-end c =
    let a = c.args in
    let l = c.loop-i in
    omega (arith, name_fits a.names.now.bytes.now a.names.now.places.now a.names.now.lengths.now (length a.names.now.places.now) a.first a.at a.output.now.ends.now a.output.now.bytes.now l.output.ends.now l.output.bytes.now l.end l.i l.invariant.putting c.loop-i-test.true c.name_at-x.ensures, c.requires.3)

pub overflow_cast-end : goal.overflow_cast-end
overflow_cast-end c =
    let a = c.args in
    let l = c.loop-i in
    omega (arith, name_fits a.names.now.bytes.now a.names.now.places.now a.names.now.lengths.now (length a.names.now.places.now) a.first a.at a.output.now.ends.now a.output.now.bytes.now l.output.ends.now l.output.bytes.now l.end l.i l.invariant.putting c.loop-i-test.true c.name_at-x.ensures, c.requires.3)

pub loop-i-preserved : goal.loop-i-preserved
loop-i-preserved c =
    let a = c.args in
    let l = c.loop-i in
    record {
      putting = putting_turn a.names.now.bytes.now a.names.now.places.now a.names.now.lengths.now (length a.names.now.places.now) a.first a.at a.output.now.ends.now a.output.now.bytes.now l.output.ends.now l.output.bytes.now l.end l.i l.invariant.putting c.loop-i-test.true c.name_at-x.ensures c.put_bytes.ensures c.put.ensures;
      lent = record {
        ends = l.invariant.lent.ends;
        bytes = l.invariant.lent.bytes;
        ends_size = c.put.auto.b ∙ l.invariant.lent.ends_size;
        bytes_size = c.put_bytes.auto.out ∙ l.invariant.lent.bytes_size;
      };
    }

pub returns-clause-put : goal.returns-clause-put
returns-clause-put c =
    let a = c.args in
    let l = c.loop-i in
    putting_done a.names.now.bytes.now a.names.now.places.now a.names.now.lengths.now (length a.names.now.places.now) a.first a.at a.output.now.ends.now a.output.now.bytes.now l.output.ends.now l.output.bytes.now l.end l.i l.invariant.putting c.loop-i-test.false
