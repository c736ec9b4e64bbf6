-- `entry_update_common_splits::from_sections` meets its contract. Sections that are refused are the answer; else their places are at the front of the column, and
-- each has a name. Assumes nothing.
use mathlib.Core.Path.{refl, sym, ap}
use mathlib.Core.List.{List}
use Prim.Native.Nat.{ℕ}
use lib.ListN.{length}
use Rattle.std.specs.Prelude.{is_some, unwrap_or}
use Rattle.obj.proofs.Errors.{is_err}
use Rattle.tables.specs.Records.{sections_in}
use Rattle.stage_splits.proofs.Laws.{gives_as, gives_stops, gives_goes}
use Rattle.common.specs.Sections.{bss_in}
use Rattle.entry_update_common_splits.specs.Entry.{from_splits, from_sections}
use Rattle.entry_update_common_splits.proofs.Laws.{sections_of_lem}
use Rattle.entry_update_common_splits.proofs.from_sections.Goals as goal

pub returns-in_err-heads-clause-gives : goal.returns-in_err-heads-clause-gives
unfolding from_sections
returns-in_err-heads-clause-gives c = rw (is_err _ c.from_residual.ensures.1) (gives_stops _ c.in_err-heads.ensures.said refl)

pub from_splits-requires : goal.from_splits-requires
from_splits-requires c =
    let k = c.in_ok-heads.ensures in
    (sections_of_lem c.args.lent.now.sections.now c.requires k, k.table.held)

pub returns-clause-gives : goal.returns-clause-gives
unfolding from_sections
returns-clause-gives c =
    let a = c.args in
    let k = c.in_ok-heads.ensures in
    gives_goes (sym k.said)
    (gives_as
    (ap (λ (l : List ℕ). from_splits a.names.now.lengths.now (sections_in a.lent.now.sections.now l) (bss_in a.names.now.bytes.now a.names.now.places.now a.names.now.lengths.now a.lent.now.sections.now l) a.lent.now.splits.now (is_some a.given) (unwrap_or a.given 0) (length a.output.now.splits.now))
    k.table.places)
    (rw k.table.bytes at c.from_splits.ensures.gives))
