-- `entry_mend_splits::from_sections` meets its contract. Sections that are refused are the answer; else they have their places, none ends above 32 bits, and the split table
-- is asked with them and their ends. Assumes nothing.
use mathlib.Core.Path.{refl, sym, ap}
use mathlib.Core.List.{List}
use native.Mathlib.Omega.{arith}
use Prim.Native.Nat.{ℕ}
use lib.ListN.{length}
use lib.Seq.{length-take-le}
use Rattle.obj.proofs.Errors.{is_err}
use Rattle.tables.specs.Records.{sections_in}
use Rattle.stage_splits.specs.StageSplits.{room_of}
use Rattle.mend_outputs.proofs.Laws.{gives_as, gives_stops, gives_goes}
use Rattle.entry_mend_splits.specs.Entry.{from_sections, from_splits}
use Rattle.entry_mend_splits.proofs.Laws.{heads_low, heads_few}
use Rattle.entry_mend_splits.proofs.from_sections.Goals as goal

pub returns-in_err-heads-clause-gives : goal.returns-in_err-heads-clause-gives
unfolding from_sections
returns-in_err-heads-clause-gives c = rw (is_err _ c.from_residual.ensures.1) (gives_stops _ c.in_err-heads.ensures.said refl)

pub fill_section_ends-requires : goal.fill_section_ends-requires
fill_section_ends-requires c =
    let a = c.args in
    let k = c.in_ok-heads.ensures in
    (heads_low a.lengths.now a.lent.now.sections.now k, omega (arith, heads_few a.lengths.now a.lent.now.sections.now k))

pub slice_bounds-from_splits-end : goal.slice_bounds-from_splits-end
slice_bounds-from_splits-end c =
    sym (length-take-le _ _ (omega (arith, heads_few c.args.lengths.now c.args.lent.now.sections.now c.in_ok-heads.ensures, c.fill_section_ends.auto.section_ends)))

pub from_splits-requires : goal.from_splits-requires
from_splits-requires c = (c.in_ok-heads.ensures.table.held, c.fill_section_ends.ensures)

pub returns-clause-gives : goal.returns-clause-gives
unfolding from_sections
returns-clause-gives c =
    let a = c.args in
    let k = c.in_ok-heads.ensures in
    gives_goes (sym k.said)
    (gives_as
    (ap (λ (l : List ℕ). from_splits a.lengths.now (sections_in a.lent.now.sections.now l) a.lent.now.splits.now (room_of (length a.outputs.now.splits.now)) (length a.outputs.now.lines.now))
    k.table.places)
    (rw k.table.bytes at c.from_splits.ensures.gives))
