-- `entry_add_splits::checked` meets its contract. A refused table is the answer; else the front of the one array has the lengths of the names, that of the other the places of
-- the sections, and the other tables are asked with them. Assumes nothing.
use mathlib.Core.Path.{refl, sym, ap, ◌∙◌}
use mathlib.Core.List.{List}
use Prim.Native.Nat.{ℕ}
use lib.ListN.{length}
use lib.Seq.{length-take-le}
use Rattle.obj.specs.Answers.{meaning}
use Rattle.obj.proofs.Errors.{is_err, same_err}
use Rattle.tables.specs.Records.{sections_in}
use Rattle.name_table.specs.Stored.{stage_lengths}
use Rattle.name_table.proofs.Laws.{names_passed}
use Rattle.stage_splits.specs.StageSplits.{room_of}
use Rattle.stage_splits.proofs.Laws.{gives_as, gives_stops, gives_goes}
use Rattle.entry_add_splits.specs.Entry.{add_splits_of, from_sections, from_splits}
use Rattle.entry_add_splits.proofs.checked.Goals as goal

pub returns-in_err-check-clause-gives : goal.returns-in_err-check-clause-gives
unfolding add_splits_of
returns-in_err-check-clause-gives c =
    rw (same_err c.from_residual.result c.check.result c.from_residual.ensures.1 c.in_err-check.was) (gives_stops _ c.check.ensures.said (ap meaning c.in_err-check.was))

pub shared_ref_as_front-named : goal.shared_ref_as_front-named
shared_ref_as_front-named c =
    (names_passed 4096 c.args.lent.now.name_ends.now c.args.lent.now.name_bytes.now (sym c.check.ensures.said ∙ ap meaning c.in_ok-check.was)).few

pub slice_bounds-named-end : goal.slice_bounds-named-end
slice_bounds-named-end c = let s = c.check.ensures in sym (length-take-le _ _ (s.stored (sym s.said ∙ ap meaning c.in_ok-check.was)).named.measured)

pub returns-in_err-heads-clause-gives : goal.returns-in_err-heads-clause-gives
unfolding add_splits_of from_sections from_splits
returns-in_err-heads-clause-gives c =
    let s = c.check.ensures in
    let told = sym s.said ∙ ap meaning c.in_ok-check.was in
    rw (is_err _ c.from_residual-in_err-heads.ensures.1) (gives_goes told (gives_stops _ (rw (s.stored told).sizes at c.in_err-heads.ensures.said) refl))

pub from_splits-requires : goal.from_splits-requires
from_splits-requires c = c.in_ok-heads.ensures.table.held

pub returns-clause-gives : goal.returns-clause-gives
unfolding add_splits_of from_sections from_splits
returns-clause-gives c =
    let s = c.check.ensures in
    let k = c.in_ok-heads.ensures in
    let lent = c.args.lent.now in
    let told = sym s.said ∙ ap meaning c.in_ok-check.was in
    let sizes = (s.stored told).sizes in
    gives_goes told
    (gives_goes (sym (rw sizes at k.said))
    (gives_as
    (ap (λ (l : List ℕ). from_splits (stage_lengths lent.name_ends.now lent.name_bytes.now) (sections_in lent.sections.now l) lent.splits.now lent.partials.now (room_of (length c.args.output.now.splits.now)))
    k.table.places)
    (rw (sizes, k.table.bytes) at c.from_splits.ensures.gives)))
